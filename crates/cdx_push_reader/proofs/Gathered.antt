-- What one more event makes of what was gathered, and what is answered where no more are taken.
use Rattle.std.specs.Prelude.{Some, Result, Ok, Err}
use Rattle.std.proofs.Common.{◌≡◌, ℕ, inl, List, ◌∷◌, ◌++◌, [], length, refl, sym, subst, ap, ◌∙◌, append_assoc}
use Rattle.std.specs.declared.alloc.AllocError.{AllocError}
use Rattle.cdx_events.specs.declared.event.XmlEvent.{XmlEvent}
use Rattle.cdx_events.specs.Balance as balances
use Rattle.cdx_events.specs.Nodes.{IsBalanced, IsBroken, GoesOn}
use Rattle.cdx_models.specs.declared.errors.XmlReadError.{XmlReadError}
use Rattle.cdx_models.specs.declared.errors.XmlReadError.TheVariants.{ElementReadError, UnexpectedElementReadError, RequiredDataMissing, RequiredAttributeMissing, InvalidParseError, InvalidNamespaceError, TooDeep, Memory}
use Rattle.cdx_models.specs.declared.bom.SpecVersion.{SpecVersion}
use Rattle.cdx_models.specs.Trees.{Tree}
use Rattle.cdx_schema.specs.Early.{IsEarly, unbalanced}
use Rattle.cdx_schema.proofs.EarlyBalance.{ends_broken, breaks_at}
use Rattle.cdx_schema.proofs.EarlyLaws.{early_stays}
use Rattle.cdx_machine.specs.Machines.{Holding}
use Rattle.cdx_push_reader.specs.declared.gathering.Wrong.{Wrong}
use Rattle.cdx_push_reader.specs.declared.gathering.Wrong.TheVariants.{Nothing, Fault, Imbalance}
use Rattle.cdx_push_reader.specs.declared.hearing.Hearing.{Hearing}
use Rattle.cdx_push_reader.specs.Pushed.{Hears, Outcome}
use Rattle.cdx_push_reader.specs.PushAnswers.{Finishes}
use Rattle.cdx_push_reader.specs.Gathered.{IsOut, FoundIn, found_by, Concludes, reads, breaks, ReadsList}
use Rattle.cdx_push_reader.proofs.Readers.{early_ends}
use Rattle.cdx_push_reader.proofs.Documents.{reads_document, reads_refused}

stays_out : (place : ℕ) (events : List XmlEvent) (e : XmlEvent) → IsOut place events → IsOut place (events ++ e ∷ [])
stays_out place events e o = record {
  front = o.front;
  event = o.event;
  rest = o.rest ++ e ∷ [];
  events_are = ap (λ es. es ++ e ∷ []) o.events_are ∙ append_assoc o.front (o.event ∷ o.rest) (e ∷ []);
  place_is = o.place_is;
  goes = o.goes;
  breaks = o.breaks;
}

out_broken : (place : ℕ) (events : List XmlEvent) → IsOut place events → IsBroken events place
out_broken place events o =
    subst (λ es. IsBroken es place) (sym o.events_are) (subst (λ p. IsBroken (o.front ++ o.event ∷ o.rest) p) (sym o.place_is) (breaks_at o.front o.event o.rest o.goes o.breaks))

module _ {M X : Type 0} (holds : Holding M) (tree : X → Tree) where
  -- ---- before the event

  abbrev pub IsNoImbalance : Wrong → Type 0
  IsNoImbalance found = (place : ℕ) → found ≡ Imbalance place → ⊥

  abbrev pub IsNoFault : Wrong → Type 0
  IsNoFault found = (f : XmlReadError) → found ≡ Fault f → ⊥

  out_of : (h : Hearing M X) (found : Wrong) (place : ℕ) (events : List XmlEvent) → found ≡ Imbalance place → FoundIn holds tree h found events → IsOut place events
  out_of h Nothing place events i f = absurd cc
  out_of h (Fault x) place events i f = absurd cc
  out_of h (Imbalance p) place events i f = let same : p ≡ place = cc in subst (λ q. IsOut q events) same f

  pub in_balance : (h : Hearing M X) (found : Wrong) (events : List XmlEvent) → IsNoImbalance found → FoundIn holds tree h found events → GoesOn events × balances.heard h.balance events
  in_balance h Nothing events n f = (f.0, f.1.0)
  in_balance h (Fault x) events n f = (f.0, f.1)
  in_balance h (Imbalance p) events n f = absurd (n p refl)

  pub hears_of : (h : Hearing M X) (found : Wrong) (events : List XmlEvent) → IsNoImbalance found → IsNoFault found → FoundIn holds tree h found events → Hears holds tree h events
  hears_of h Nothing events n m f = f.1
  hears_of h (Fault x) events n m f = absurd (m x refl)
  hears_of h (Imbalance p) events n m f = absurd (n p refl)

  early_of : (h : Hearing M X) (found : Wrong) (x : XmlReadError) (events : List XmlEvent) → found ≡ Fault x → FoundIn holds tree h found events → IsEarly h.version events (Some x)
  early_of h Nothing x events i f = absurd cc
  early_of h (Imbalance p) x events i f = absurd cc
  early_of h (Fault y) x events i f = let same : y ≡ x = cc in subst (λ z. IsEarly h.version events (Some z)) same f.2

  -- ---- after the event

  pub still_out : (h : Hearing M X) (found : Wrong) (place : ℕ) (events : List XmlEvent) (e : XmlEvent) → found ≡ Imbalance place → FoundIn holds tree h found events → FoundIn holds tree h found (events ++ e ∷ [])
  still_out h found place events e i f = subst (λ x. FoundIn holds tree h x (events ++ e ∷ [])) (sym i) (stays_out place events e (out_of h found place events i f))

  pub comes_out : (h : Hearing M X) (found : Wrong) (place : ℕ) (events : List XmlEvent) (e : XmlEvent) → IsNoImbalance found → FoundIn holds tree h found events → place ≡ length events → (GoesOn (events ++ e ∷ []) → ⊥) → IsOut place (events ++ e ∷ [])
  comes_out h found place events e n f p b = record {
    front = events;
    event = e;
    rest = [];
    events_are = refl;
    place_is = p;
    goes = (in_balance h found events n f).0;
    breaks = b;
  }

  pub still_faulty : (h new : Hearing M X) (found : Wrong) (x : XmlReadError) (events : List XmlEvent) (e : XmlEvent) → found ≡ Fault x → FoundIn holds tree h found events → new.version ≡ h.version → GoesOn (events ++ e ∷ []) → balances.heard new.balance (events ++ e ∷ []) → FoundIn holds tree new found (events ++ e ∷ [])
  still_faulty h new found x events e i f v g b =
      subst (λ y. FoundIn holds tree new y (events ++ e ∷ [])) (sym i) (g, b, subst (λ w. IsEarly w (events ++ e ∷ []) (Some x)) (sym v) (early_stays h.version events (e ∷ []) x (early_of h found x events i f)))

  pub still_nothing : (h : Hearing M X) (found : Wrong) (events : List XmlEvent) → IsNoImbalance found → IsNoFault found → GoesOn events → Hears holds tree h events → FoundIn holds tree h found events
  still_nothing h Nothing events n m g s = (g, s)
  still_nothing h (Fault x) events n m g s = absurd (m x refl)
  still_nothing h (Imbalance p) events n m g s = absurd (n p refl)

  found_fault : (new : Hearing M X) (found : Wrong) (x : XmlReadError) (events : List XmlEvent) → ◌≡◌ {A = Result Wrong AllocError} (Ok found) (Ok (Fault x)) → GoesOn events → balances.heard new.balance events → IsEarly new.version events (Some x) → FoundIn holds tree new found events
  found_fault new found x events i g b e = let same : found ≡ Fault x = cc in subst (λ y. FoundIn holds tree new y events) (sym same) (g, b, e)

  pub finds_fault : (new : Hearing M X) (found : Wrong) (x : XmlReadError) (events : List XmlEvent) → ◌≡◌ {A = Result Wrong AllocError} (Ok found) (found_by x) → GoesOn events → balances.heard new.balance events → Outcome {A = Unit {0}} (λ u. Unit {0}) new.version events (Err x) → FoundIn holds tree new found events
  finds_fault new found (Memory m) events i g b o = absurd cc
  finds_fault new found (ElementReadError k p) events i g b o = found_fault new found (ElementReadError k p) events i g b o
  finds_fault new found (UnexpectedElementReadError p el k) events i g b o = found_fault new found (UnexpectedElementReadError p el k) events i g b o
  finds_fault new found (RequiredDataMissing p el k) events i g b o = found_fault new found (RequiredDataMissing p el k) events i g b o
  finds_fault new found (RequiredAttributeMissing p el k) events i g b o = found_fault new found (RequiredAttributeMissing p el k) events i g b o
  finds_fault new found (InvalidParseError p el k t) events i g b o = found_fault new found (InvalidParseError p el k t) events i g b o
  finds_fault new found (InvalidNamespaceError x y) events i g b o = found_fault new found (InvalidNamespaceError x y) events i g b o
  finds_fault new found (TooDeep p) events i g b o = found_fault new found (TooDeep p) events i g b o

  -- ---- where no more events are taken

  pub ends_out : (h : Hearing M X) (found : Wrong) (place : ℕ) (events : List XmlEvent) → found ≡ Imbalance place → FoundIn holds tree h found events → Concludes tree h.version events (Err (unbalanced place))
  ends_out h found place events i f = breaks place (out_broken place events (out_of h found place events i f)) refl

  pub ends_short : (h : Hearing M X) (found : Wrong) (count : ℕ) (events : List XmlEvent) → IsNoImbalance found → FoundIn holds tree h found events → count ≡ length events → (IsBalanced events → ⊥) → Concludes tree h.version events (Err (unbalanced count))
  ends_short h found count events n f c b =
      breaks count (subst (λ p. IsBroken events p) (sym c) (ends_broken events (in_balance h found events n f).0 b)) refl

  pub ends_faulty : (h : Hearing M X) (found : Wrong) (x : XmlReadError) (events : List XmlEvent) → found ≡ Fault x → FoundIn holds tree h found events → IsBalanced events → Concludes tree h.version events (Err x)
  ends_faulty h found x events i f b =
      reads b (reads_document tree h.version events b (Err x) (inl (early_ends tree h.version events x (early_of h found x events i f))))

  pub ends_whole : (h : Hearing M X) (events : List XmlEvent) (result : Result X XmlReadError) → IsBalanced events → Finishes tree h.version events result → Concludes tree h.version events result
  ends_whole h events result b f = reads b (reads_document tree h.version events b result (inl f))

-- the same by the answer alone, since a balanced list has no such fault as an imbalance
pub concluded : {X : Type 0} (tree : X → Tree) (v : SpecVersion) (events : List XmlEvent) (result : Result X XmlReadError) → Concludes tree v events result → ReadsList tree events v result
concluded tree v events result (breaks place k e) = subst (λ r. ReadsList tree events v r) (sym e) (refl, k)
concluded tree v events (Ok x) (reads b r) = (b, r)
concluded tree v events (Err (ElementReadError kind place)) (reads b r) = absurd (reads_refused tree v events b (Err (ElementReadError kind place)) r)
concluded tree v events (Err (UnexpectedElementReadError p el k)) (reads b r) = (b, r)
concluded tree v events (Err (RequiredDataMissing p el k)) (reads b r) = (b, r)
concluded tree v events (Err (RequiredAttributeMissing p el k)) (reads b r) = (b, r)
concluded tree v events (Err (InvalidParseError p el k t)) (reads b r) = (b, r)
concluded tree v events (Err (InvalidNamespaceError x y)) (reads b r) = (b, r)
concluded tree v events (Err (TooDeep p)) (reads b r) = (b, r)
concluded tree v events (Err (Memory m)) (reads b r) = (b, r)
