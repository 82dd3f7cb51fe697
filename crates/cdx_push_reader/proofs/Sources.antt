-- What is taken of a source event by event, and what is answered where taking ends.
use Rattle.std.specs.Prelude.{Option, None, Result, Ok, Err, IfOk, OnOk, IsTrue}
use Rattle.std.specs.List.{list_all}
use Rattle.std.proofs.Common.{◌≡◌, ℕ, ◌+◌, ◌<◌, ◌≤◌, true, false, List, [], ◌∷◌, ◌++◌, length, refl, sym, subst, ◌∙◌, arith, length-append}
use Rattle.std.proofs.lemmas.List.Folds.{list_all-append}
use Rattle.std.specs.declared.alloc.AllocError.{AllocError}
use Rattle.cdx_events.specs.declared.event.XmlEvent.{XmlEvent}
use Rattle.cdx_events.specs.declared.gathering.GatherError.TheVariants.{Fault, Unbalanced, Budget, Memory}
use Rattle.cdx_events.specs.Causes.{Rose}
use Rattle.cdx_events.specs.Gather.{is_end, has_end, TakesEvents}
use Rattle.cdx_events.specs.Nodes.{IsBalanced, IsBroken}
use Rattle.cdx_events.specs.Told.{Keeps, Loses, GivesNext}
use Rattle.cdx_events.specs.Utf8.{in_utf8}
use Rattle.cdx_events.proofs.Taken.{loses_more, no_end_more, at_source_end, at_fault, at_memory, at_document_end, at_budget}
use Rattle.cdx_models.specs.declared.bom.SpecVersion.{SpecVersion}
use Rattle.cdx_models.specs.declared.errors.ReadKind.TheVariants as kinds
use Rattle.cdx_models.specs.declared.errors.XmlReadError.{XmlReadError}
use Rattle.cdx_models.specs.declared.errors.XmlReadError.TheVariants as errors
use Rattle.cdx_models.specs.declared.errors.XmlReadError.TheVariants.{ElementReadError}
use Rattle.cdx_models.specs.Trees.{Tree}
use Rattle.cdx_schema.specs.Laws.{IsShallow}
use Rattle.cdx_machine.specs.Machines.{Holding}
use Rattle.cdx_push_reader.specs.declared.gathering.Gathering.{Gathering}
use Rattle.cdx_push_reader.specs.Gathered.{Gathered, Concludes, reads, breaks}
use Rattle.cdx_push_reader.specs.Sources.{ReadsSource}
use Rattle.cdx_push_reader.proofs.Documents.{reads_shallow}

-- So many events were taken, and none of them is a document end. The last three numbers are of the source's faults, and of the events.
pub record IsTaking {M X : Type 0} (holds : Holding M) (tree : X → Tree) (g : Gathering M X) (v : SpecVersion) (old mid : Option (List XmlEvent)) (before now taken : ℕ) : Type 0 where
  pub events : List XmlEvent
  pub after : Loses old mid events
  pub sound : now ≡ before
  pub count : length events ≡ taken
  pub no_end : has_end events ≡ false
  pub utf8 : IsTrue (list_all in_utf8 events)
  pub gathered : Gathered holds tree g events
  pub version : g.hearing.version ≡ v

one_more_utf8 : (events : List XmlEvent) (e : XmlEvent) → IsTrue (list_all in_utf8 events) → IsTrue (in_utf8 e) → IsTrue (list_all in_utf8 (events ++ e ∷ []))
one_more_utf8 events e u w = list_all-append in_utf8 events (e ∷ []) ∙ rw (u, w) refl

-- ---- the answers

abbrev pub Answer : {X : Type 0} → (X → Tree) → ℕ → Option (List XmlEvent) → Option (List XmlEvent) → ℕ → ℕ → SpecVersion → Result X XmlReadError → Type 0
Answer tree budget old new before now v result = ReadsSource tree budget old new before now v result × IfOk result (λ b. IsShallow (tree b)) × OnOk result (now ≡ before)

module _ {X : Type 0} (tree : X → Tree) (budget : ℕ) (old new : Option (List XmlEvent)) (before now : ℕ) (v : SpecVersion) where
  concluded : (xs : List XmlEvent) (result : Result X XmlReadError) → TakesEvents budget old new before now (Ok xs) → IsTrue (list_all in_utf8 xs) → Concludes tree v xs result → Answer tree budget old new before now v result
  concluded xs result t u (reads b r) = (
    (Ok (record { list = xs; utf8 = u }), record { taken = t.taken; after = t.after; within = t.within; answer = (t.answer.0, subst IsBalanced t.answer.0 b, t.answer.1, t.answer.2) }, r),
    reads_shallow tree v xs b result r,
    sound result,
  )
    where
      sound : (result : Result X XmlReadError) → OnOk result (now ≡ before)
      sound (Ok x) = t.answer.1.sound
      sound (Err e) = tt
  concluded xs result t u (breaks place k e) = subst (λ r. Answer tree budget old new before now v r) (sym e) (
    (Err (Unbalanced place), record { taken = t.taken; after = t.after; within = t.within; answer = (subst (λ es. IsBroken es place) t.answer.0 k, t.answer.1, t.answer.2) }, refl),
    tt,
    tt,
  )

  fails : (count : ℕ) → TakesEvents budget old new before now (Err (Fault count)) → Answer tree budget old new before now v (Err (ElementReadError kinds.Fault count))
  fails count t = ((Err (Fault count), record { taken = t.taken; after = t.after; within = t.within; answer = t.answer }, refl), tt, tt)

  lacks : (a : AllocError) → TakesEvents budget old new before now (Err (Memory a)) → Answer tree budget old new before now v (Err (errors.Memory a))
  lacks a t = ((Err (Memory a), record { taken = t.taken; after = t.after; within = t.within; answer = t.answer }, refl), tt, tt)

  spends : (count : ℕ) → TakesEvents budget old new before now (Err (Budget count)) → Answer tree budget old new before now v (Err (ElementReadError kinds.Budget count))
  spends count t = ((Err (Budget count), record { taken = t.taken; after = t.after; within = t.within; answer = t.answer }, refl), tt, tt)

-- ---- where taking ends

module _ {M X : Type 0} (holds : Holding M) (tree : X → Tree) (g : Gathering M X) (v : SpecVersion) (old mid new : Option (List XmlEvent)) (before held now taken budget : ℕ) (t : IsTaking holds tree g v old mid before held taken) where
  short : taken < budget → length t.events < budget
  short l = omega (arith, l, t.count)

  pub at_end : (result : Result X XmlReadError) → taken < budget → GivesNext mid new None → now ≡ held → Concludes tree g.hearing.version t.events result → Answer tree budget old new before now v result
  at_end result l left same c =
      concluded tree budget old new before now v t.events result (at_source_end old mid new t.events budget before now t.after t.no_end (short l) left (same ∙ t.sound)) t.utf8 (subst (λ w. Concludes tree w t.events result) t.version c)

  pub at_failure : taken < budget → Keeps mid new → Rose held now → Answer {X = X} tree budget old new before now v (Err (ElementReadError kinds.Fault taken))
  at_failure l kept rose =
      fails tree budget old new before now v taken (at_fault old mid new t.events budget before held now taken t.after t.no_end t.count l kept t.sound rose)

  pub at_want : (e : XmlEvent) (a : AllocError) → taken < budget → Loses mid new (e ∷ []) → held ≤ now → Answer {X = X} tree budget old new before now v (Err (errors.Memory a))
  at_want e a l lost later =
      lacks tree budget old new before now v a (at_memory old mid new t.events e budget before held now a t.after t.no_end (short l) lost t.sound later)

  pub at_close : (e : XmlEvent) (w : SpecVersion) (result : Result X XmlReadError) → taken < budget → Loses mid new (e ∷ []) → now ≡ held → IsTrue (in_utf8 e) → is_end e ≡ true → w ≡ g.hearing.version → Concludes tree w (t.events ++ e ∷ []) result → Answer tree budget old new before now v result
  at_close e w result l lost same u ends i c =
      concluded tree budget old new before now v (t.events ++ e ∷ []) result (at_document_end old mid new t.events (t.events ++ e ∷ []) e budget before now t.after t.no_end (short l) lost ends refl (same ∙ t.sound)) (one_more_utf8 t.events e t.utf8 u)
      (subst (λ x. Concludes tree x (t.events ++ e ∷ []) result) (i ∙ t.version) c)

  pub takes_more : (next : Gathering M X) (e : XmlEvent) → Loses mid new (e ∷ []) → now ≡ held → IsTrue (in_utf8 e) → is_end e ≡ false → next.hearing.version ≡ g.hearing.version → Gathered holds tree next (t.events ++ e ∷ []) → IsTaking holds tree next v old new before now (taken + 1)
  takes_more next e lost same u plain i h = record {
    events = t.events ++ e ∷ [];
    after = loses_more old mid new t.events (e ∷ []) t.after lost;
    sound = same ∙ t.sound;
    count = omega (arith, length-append t.events (e ∷ []), t.count);
    no_end = no_end_more t.events e t.no_end plain;
    utf8 = one_more_utf8 t.events e t.utf8 u;
    gathered = h;
    version = i ∙ t.version;
  }

-- where the budget is spent
pub at_limit : {M X : Type 0} (holds : Holding M) (tree : X → Tree) (g : Gathering M X) (v : SpecVersion) (old new : Option (List XmlEvent)) (before now taken budget : ℕ) → IsTaking holds tree g v old new before now taken → taken ≡ budget → Answer {X = X} tree budget old new before now v (Err (ElementReadError kinds.Budget budget))
at_limit holds tree g v old new before now taken budget t l =
    spends tree budget old new before now v budget (at_budget old new t.events budget before now t.after t.no_end (t.count ∙ l) t.sound)
