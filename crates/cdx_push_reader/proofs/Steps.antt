-- What one event makes of an open root.
use Rattle.std.specs.Prelude.{Bool, true, false, Option, Some, None, Result, Ok, Err}
use Rattle.std.proofs.Common.{◌≡◌, ℕ, ◌+◌, ◌⊎◌, inl, inr, List, [], ◌∷◌, ◌++◌, length, refl, sym, subst, ap, ◌∙◌, append_assoc, arith}
use Rattle.cdx_events.specs.declared.name.OwnedName.{OwnedName}
use Rattle.cdx_events.specs.declared.name.OwnedAttribute.{OwnedAttribute}
use Rattle.cdx_events.specs.declared.name.Namespace.{Namespace}
use Rattle.cdx_events.specs.declared.event.XmlEvent.{XmlEvent}
use Rattle.cdx_events.specs.declared.event.XmlEvent.TheVariants.{StartDocument, EndDocument, StartElement}
use Rattle.cdx_events.specs.Nodes.{element, Nodes, events_of, GoesOn}
use Rattle.cdx_models.specs.declared.bom.SpecVersion.{SpecVersion}
use Rattle.cdx_models.specs.declared.errors.XmlReadError.{XmlReadError}
use Rattle.cdx_models.specs.declared.errors.XmlReadError.TheVariants.{Memory}
use Rattle.cdx_models.specs.Trees.{bill, Tree}
use Rattle.cdx_schema.specs.Depth.{top}
use Rattle.cdx_schema.specs.Kinds.{a_record}
use Rattle.cdx_schema.specs.XmlReading.{xread, xml_denotes}
use Rattle.cdx_schema.specs.Soon.{BeginsElement, IsSoon}
use Rattle.cdx_schema.specs.Early.{IsEarly}
use Rattle.cdx_machine.specs.Begun.{Begun, so_far}
use Rattle.cdx_machine.specs.Heard.{Hears, IsRead, Answers}
use Rattle.cdx_machine.specs.Machines.{Holding, CanStep, CanYield, ProceedsAs, YieldsAs, StepsAs}
use Rattle.cdx_machine.proofs.Heard.{not_whole, can_step, answers_step}
use Rattle.cdx_machine.proofs.Yielding.{waits, fails, ends_with, ended_with, can_yield}
use Rattle.cdx_push_reader.specs.declared.hearing.ReadingStage.{ReadingStage}
use Rattle.cdx_push_reader.specs.declared.hearing.ReadingStage.TheVariants.{Before, Within, After}
use Rattle.cdx_push_reader.specs.Starting.{IsBillStart}
use Rattle.cdx_push_reader.specs.Pushed.{IsRootOpen, IsDone, StandsAtStage, Outcome}
use Rattle.cdx_push_reader.specs.PushSteps.{Closes}
use Rattle.cdx_push_reader.proofs.Starts.{same_start, root_early, soon_outcome}

-- ---- an event goes on with the root

head : (x y : XmlEvent) (xs ys : List XmlEvent) → x ∷ xs ≡ y ∷ ys → x ≡ y
head x y xs ys h = cc

tail : (x y : XmlEvent) (xs ys : List XmlEvent) → x ∷ xs ≡ y ∷ ys → xs ≡ ys
tail x y xs ys h = cc

not_nothing : (xs : List XmlEvent) (e : XmlEvent) (rest : List XmlEvent) → xs ++ e ∷ rest ≡ [] → ⊥
not_nothing [] e rest h = absurd cc
not_nothing (x ∷ xs) e rest h = absurd cc

-- Events that end with this one are those before some other event of theirs, or go through it.
through : (xs rest ys : List XmlEvent) (e d : XmlEvent) → xs ++ e ∷ rest ≡ ys ++ d ∷ [] → (xs ≡ ys) ⊎ ((r : List XmlEvent) × (xs ++ e ∷ r ≡ ys))
through [] rest [] e d h = inl refl
through [] rest (y ∷ ys) e d h = inr (ys, ap (λ x. x ∷ ys) (head e y rest (ys ++ d ∷ []) h))
through (x ∷ xs) rest [] e d h = absurd (not_nothing xs e rest (tail x d (xs ++ e ∷ rest) [] h))
through (x ∷ xs) rest (y ∷ ys) e d h = by (head x y (xs ++ e ∷ rest) (ys ++ d ∷ []) h) (through xs rest ys e d (tail x y (xs ++ e ∷ rest) (ys ++ d ∷ []) h))
  where
    by : x ≡ y → ((xs ≡ ys) ⊎ ((r : List XmlEvent) × (xs ++ e ∷ r ≡ ys))) → (x ∷ xs ≡ y ∷ ys) ⊎ ((r : List XmlEvent) × (x ∷ xs ++ e ∷ r ≡ y ∷ ys))
    by i (inl j) = inl (ap (λ z. z ∷ xs) i ∙ ap (λ zs. y ∷ zs) j)
    by i (inr j) = inr (j.0, ap (λ z. z ∷ xs ++ e ∷ j.0) i ∙ ap (λ zs. y ∷ zs) j.1)

-- What goes on with a document inside its root goes on with the root.
goes_begins : (o : Begun) (heard : List XmlEvent) (event : XmlEvent) → so_far o ≡ heard → GoesOn (StartDocument ∷ heard ++ event ∷ []) → BeginsElement (heard ++ event ∷ [])
goes_begins o heard event i g =
    let b = g.balanced in
    let root : List XmlEvent = events_of (element b.name b.attributes b.namespace b.nodes) in
    by b.name b.attributes b.namespace b.nodes
    (through heard g.rest root event EndDocument (sym (append_assoc heard (event ∷ []) g.rest) ∙ tail StartDocument StartDocument ((heard ++ event ∷ []) ++ g.rest) (root ++ EndDocument ∷ []) b.whole))
  where
    by : (n : OwnedName) (a : List OwnedAttribute) (s : Namespace) (xs : Nodes) → ((heard ≡ events_of (element n a s xs)) ⊎ ((r : List XmlEvent) × (heard ++ event ∷ r ≡ events_of (element n a s xs)))) → BeginsElement (heard ++ event ∷ [])
    by n a s xs (inl j) = absurd (not_whole o heard i (record { name = n; attributes = a; namespace = s; nodes = xs; whole = j }))
    by n a s xs (inr j) = record { begun = not_nothing heard event []; name = n; attributes = a; namespace = s; nodes = xs; rest = j.0; whole = append_assoc heard (event ∷ []) j.0 ∙ j.1 }

-- ---- the whole root

-- A bill's root is read as a bill's record.
pub root_denotes : (v : SpecVersion) (n : OwnedName) (a : List OwnedAttribute) (s : Namespace) (xs : Nodes) → IsBillStart v n s → xml_denotes (element n a s xs) v ≡ xread (element n a s xs) v (a_record bill) 1 top
unfolding xread
root_denotes v n a s xs c = rw (c.0, c.1) refl

-- ---- what the machine answers

module _ {M X : Type 0} (holds : Holding M) (tree : X → Tree) (v : SpecVersion) (old : M) (events : List XmlEvent) (event : XmlEvent) (w : IsRootOpen holds v old events) (g : GoesOn (events ++ event ∷ [])) where
  abbrev heard : List XmlEvent
  heard = StartElement w.name w.attributes w.namespace ∷ w.inside

  now : events ++ event ∷ [] ≡ StartDocument ∷ StartElement w.name w.attributes w.namespace ∷ w.inside ++ event ∷ []
  now = ap (λ es. es ++ event ∷ []) w.events_are

  begun : BeginsElement (StartElement w.name w.attributes w.namespace ∷ w.inside ++ event ∷ [])
  begun = goes_begins w.held.o (StartElement w.name w.attributes w.namespace ∷ w.inside) event w.held.events_are (subst GoesOn now g)

  at_place : (place : ℕ) → place ≡ length events → place ≡ 1 + length (StartElement w.name w.attributes w.namespace ∷ w.inside)
  at_place place p = omega (arith, p, ap length w.events_are)

  pub listens : (place : ℕ) → place ≡ length events → CanStep holds old place event
  listens place p = can_step holds old place event v 1 top (StartElement w.name w.attributes w.namespace ∷ w.inside) w.held (at_place place p) begun

  abbrev Said : M → ℕ → Result (Option X) XmlReadError → Type 0
  Said new place r = Answers (Hears (λ o. holds new v 1 top o)) tree v (a_record bill) 1 top place (StartElement w.name w.attributes w.namespace ∷ w.inside ++ event ∷ []) r

  said : (new : M) (place : ℕ) (r : Result (Option X) XmlReadError) → StepsAs holds tree (a_record bill) old new place event r → place ≡ length events → Said new place r
  said new place r s p = answers_step holds tree (a_record bill) old new place event r v 1 top (StartElement w.name w.attributes w.namespace ∷ w.inside) s w.held (at_place place p) begun

  -- the root is still open
  pub reads_more : (new : M) (place : ℕ) (b : Bool) → b ≡ false → ProceedsAs holds (a_record bill) old new place event (Ok b) → place ≡ length events → IsRootOpen holds v new (events ++ event ∷ [])
  reads_more new place b i s p =
      let a : Said new place (Ok None) = said new place (Ok None) (waits holds tree (a_record bill) old new place event b i s) p in
      record {
        name = w.name;
        attributes = w.attributes;
        namespace = w.namespace;
        inside = w.inside ++ event ∷ [];
        events_are = now;
        begins = w.begins;
        held = a.answers.2;
        quiet = subst (λ x. IsSoon v (a_record bill) (StartElement w.name w.attributes w.namespace ∷ w.inside ++ event ∷ []) 1 top x) a.answers.0 a.is_soon;
      }

  -- it has a fault
  faulty : (new : M) (place : ℕ) (f : XmlReadError) → StepsAs holds tree (a_record bill) old new place event (Err f) → place ≡ length events → Outcome {A = Unit {0}} (λ u. Unit {0}) v (events ++ event ∷ []) (Err f)
  faulty new place f s p =
      let a : Said new place (Err f) = said new place (Err f) s p in
      soon_outcome {A = Unit {0}} (λ u. Unit {0}) place a.soon v (events ++ event ∷ []) f a.answers
      (λ k. subst (λ es. IsEarly v es (Some f)) (sym now) (root_early v w.name w.attributes w.namespace (w.inside ++ event ∷ []) (Some f) w.begins
      (subst (λ x. IsSoon v (a_record bill) (StartElement w.name w.attributes w.namespace ∷ w.inside ++ event ∷ []) 1 top x) k a.is_soon)))

  pub reads_fault : (new : M) (place : ℕ) (f : XmlReadError) → ProceedsAs holds (a_record bill) old new place event (Err f) → place ≡ length events → Outcome {A = Unit {0}} (λ u. Unit {0}) v (events ++ event ∷ []) (Err f)
  reads_fault new place f s p = faulty new place f (fails holds tree (a_record bill) old new place event f s) p

  -- ---- the root has ended, and the machine is asked what it is read as

  module _ (new : M) (place : ℕ) (b : Bool) (i : b ≡ true) (s : ProceedsAs holds (a_record bill) old new place event (Ok b)) (p : place ≡ length events) where
    pub can_close : CanYield holds new place event
    can_close = can_yield holds tree (a_record bill) old new place event b i (listens place p) s

    ended : (r : Result X XmlReadError) → YieldsAs holds tree (a_record bill) new place event r → StepsAs holds tree (a_record bill) old new place event (ended_with r)
    ended r y = ends_with holds tree (a_record bill) old new place event b r i s y

    read : (x : X) → YieldsAs holds tree (a_record bill) new place event (Ok x) → IsDone tree v x (events ++ event ∷ [])
    read x y =
        let a : Said new place (Ok (Some x)) = said new place (Ok (Some x)) (ended (Ok x) y) p in
        let e : IsRead v (a_record bill) 1 top (StartElement w.name w.attributes w.namespace ∷ w.inside ++ event ∷ []) (tree x) = a.answers.1 in
        record {
          root = record { name = e.name; attributes = e.attributes; namespace = e.namespace; before = e.nodes };
          denotes = root_denotes v e.name e.attributes e.namespace e.nodes (same_start v w.name e.name w.attributes e.attributes w.namespace e.namespace _ _ e.whole w.begins) ∙ e.reads;
          events_are = inl (now ∙ ap (λ es. StartDocument ∷ es) e.whole);
        }

    pub closes : (stage : ReadingStage M X) (r : Result (Unit {0}) XmlReadError) → Closes holds tree new place event stage r → Outcome {A = Unit {0}} (λ u. StandsAtStage holds tree v stage (events ++ event ∷ [])) v (events ++ event ∷ []) r
    closes Before (Ok u) h = absurd h
    closes (Within n) (Ok u) h = absurd h
    closes (After x) (Ok u) h = read x h
    closes stage (Err f) h = faulted f (faulty new place f (ended (Err f) h) p)
      where
        faulted : (f : XmlReadError) → Outcome {A = Unit {0}} (λ u. Unit {0}) v (events ++ event ∷ []) (Err f) → Outcome {A = Unit {0}} (λ u. StandsAtStage holds tree v stage (events ++ event ∷ [])) v (events ++ event ∷ []) (Err f)
        faulted (Memory m) o = o
        faulted f o = o
