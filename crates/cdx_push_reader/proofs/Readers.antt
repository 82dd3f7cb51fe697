-- What a reader of documents answers.
use Rattle.std.specs.Prelude.{None, Some, Option, Err, is_some}
use Rattle.std.proofs.Common.{◌≡◌, ℕ, inl, inr, false, List, ◌++◌, ◌+◌, length, length-append, arith, refl, subst, ap}
use Rattle.std.specs.declared.alloc.AllocError.{AllocError}
use Rattle.cdx_events.specs.declared.event.XmlEvent.{XmlEvent}
use Rattle.cdx_events.specs.Nodes.{IsBalanced}
use Rattle.cdx_models.specs.declared.bom.SpecVersion.{SpecVersion}
use Rattle.cdx_models.specs.declared.errors.XmlReadError.{XmlReadError}
use Rattle.cdx_models.specs.declared.errors.XmlReadError.TheVariants.{ElementReadError, UnexpectedElementReadError, RequiredDataMissing, RequiredAttributeMissing, InvalidParseError, InvalidNamespaceError, TooDeep, Memory}
use Rattle.cdx_models.specs.Trees.{Tree}
use Rattle.cdx_schema.specs.Early.{IsEarly, unbalanced}
use Rattle.cdx_schema.specs.Locality.{balanced_root, IsDocumentFault}
use Rattle.cdx_schema.proofs.FaultPlaces.{refuses_by_faults}
use Rattle.cdx_schema.proofs.EarlyLaws.{Cases, nothing, in_front, out_of_balance, early_cases, early_stays}
use Rattle.cdx_machine.specs.Machines.{Holding}
use Rattle.cdx_push_reader.specs.declared.hearing.Hearing.{Hearing}
use Rattle.cdx_push_reader.specs.declared.reader.DocumentReader.{DocumentReader}
use Rattle.cdx_push_reader.specs.Pushed.{Hears, HeardAs, Outcome, heard}
use Rattle.cdx_push_reader.specs.PushAnswers.{reader_version, fault_of, is_spent, is_want, IsRefusedFor, Finishes, Feeds, push_error}
use Rattle.cdx_push_reader.proofs.Stands.{stands_none}

heard_early : (v : SpecVersion) (hears : Type 0) (o : Option AllocError) (f : Option XmlReadError) (events : List XmlEvent) → (hears → IsEarly v events None) → HeardAs v hears o f events → is_some o ≡ false → IsEarly v events f
heard_early v hears (Some e) f events none h s = absurd cc
heard_early v hears None (Some f) events none h s = h
heard_early v hears None None events none h s = none h

module _ {M X : Type 0} (holds : Holding M) (tree : X → Tree) where
  pub hears_none : (h : Hearing M X) (events : List XmlEvent) → Hears holds tree h events → IsEarly h.version events None
  hears_none h events e = stands_none holds tree h.version h.stage events e.1

  -- the fault that it has told is the early one
  pub reader_early : (r : DocumentReader M X) (events : List XmlEvent) → heard holds tree r events → is_spent r ≡ false → IsEarly (reader_version r) events (fault_of r)
  reader_early r events h s = heard_early r.hearing.version (Hears holds tree r.hearing events) r.spent r.refused events (λ e. hears_none r.hearing events e) h.1 s

  -- events that aren't balanced are too few
  pub ends_early : (h : Hearing M X) (events : List XmlEvent) (count : ℕ) → Hears holds tree h events → count ≡ length events → (IsBalanced events → ⊥) → IsRefusedFor h.version events (unbalanced count)
  ends_early h events count e p un = inr (hears_none h events e, un, ap unbalanced p)

pub early_ends : {X : Type 0} (tree : X → Tree) (v : SpecVersion) (events : List XmlEvent) (f : XmlReadError) → IsEarly v events (Some f) → Finishes tree v events (Err f)
early_ends tree v events (Memory m) h = tt
early_ends tree v events (ElementReadError k p) h = inl h
early_ends tree v events (UnexpectedElementReadError p el k) h = inl h
early_ends tree v events (RequiredDataMissing p el k) h = inl h
early_ends tree v events (RequiredAttributeMissing p el k) h = inl h
early_ends tree v events (InvalidParseError p el k t) h = inl h
early_ends tree v events (InvalidNamespaceError x y) h = inl h
early_ends tree v events (TooDeep p) h = inl h

-- no early fault is a want of memory
never_memory : (v : SpecVersion) (events : List XmlEvent) (m : AllocError) → IsEarly v events (Some (Memory m)) → ⊥
never_memory v events m h = by (early_cases v events (Some (Memory m)) h)
  where
    by : Cases v events (Some (Memory m)) → ⊥
    by (nothing e g n) = absurd cc
    by (in_front f e front rest s i) = let same : f ≡ Memory m = cc in subst IsDocumentFault same (refuses_by_faults (balanced_root i.goes.balanced) v f (i.blocks i.goes.rest i.goes.balanced))
    by (out_of_balance p e b l n) = absurd cc

pub not_want : {X : Type 0} (tree : X → Tree) (v : SpecVersion) (events : List XmlEvent) (f : XmlReadError) → IsEarly v events (Some f) → is_want {A = X} (Err f) ≡ false
not_want tree v events (Memory m) h = absurd (never_memory v events m h)
not_want tree v events (ElementReadError k p) h = refl
not_want tree v events (UnexpectedElementReadError p el k) h = refl
not_want tree v events (RequiredDataMissing p el k) h = refl
not_want tree v events (RequiredAttributeMissing p el k) h = refl
not_want tree v events (InvalidParseError p el k t) h = refl
not_want tree v events (InvalidNamespaceError x y) h = refl
not_want tree v events (TooDeep p) h = refl

pub hears_of : (v : SpecVersion) (hears : Type 0) (o : Option AllocError) (f : Option XmlReadError) (events : List XmlEvent) → HeardAs v hears o f events → o ≡ None → f ≡ None → hears
hears_of v hears None None events h p q = h
hears_of v hears (Some e) f events h p q = absurd cc
hears_of v hears None (Some f) events h p q = absurd cc

-- ---- a reader that was refused before

pub refused_of : (v : SpecVersion) (hears : Type 0) (o : Option AllocError) (r : Option XmlReadError) (f : XmlReadError) (events more : List XmlEvent) → HeardAs v hears o r events → o ≡ None → r ≡ Some f → IsEarly v (events ++ more) (Some f)
refused_of v hears None (Some x) f events more h p q = let same : x ≡ f = cc in subst (λ y. IsEarly v (events ++ more) (Some y)) same (early_stays v events more x h)
refused_of v hears (Some e) r f events more h p q = absurd cc
refused_of v hears None None f events more h p q = absurd cc

pub still_refused : (v : SpecVersion) (hears now : Type 0) (o : Option AllocError) (r : Option XmlReadError) (f : XmlReadError) (events more : List XmlEvent) → HeardAs v hears o r events → o ≡ None → r ≡ Some f → HeardAs v now o r (events ++ more)
still_refused v hears now None (Some x) f events more h p q = early_stays v events more x h
still_refused v hears now (Some e) r f events more h p q = absurd cc
still_refused v hears now None None f events more h p q = absurd cc

pub fed_more : (fed : ℕ) (events more : List XmlEvent) → fed ≡ length events → fed + length more ≡ length (events ++ more)
fed_more fed events more e = omega (arith, e, length-append events more)

-- ---- what a piece has brought

pub feeds_fault : (v : SpecVersion) (events : List XmlEvent) (e : XmlReadError) → Outcome {A = Unit {0}} (λ u. Unit {0}) v events (Err e) → Feeds v events (Err (push_error e))
feeds_fault v events (Memory m) h = tt
feeds_fault v events (ElementReadError k p) h = (ElementReadError k p, h, refl)
feeds_fault v events (UnexpectedElementReadError p el k) h = (UnexpectedElementReadError p el k, h, refl)
feeds_fault v events (RequiredDataMissing p el k) h = (RequiredDataMissing p el k, h, refl)
feeds_fault v events (RequiredAttributeMissing p el k) h = (RequiredAttributeMissing p el k, h, refl)
feeds_fault v events (InvalidParseError p el k t) h = (InvalidParseError p el k t, h, refl)
feeds_fault v events (InvalidNamespaceError x y) h = (InvalidNamespaceError x y, h, refl)
feeds_fault v events (TooDeep p) h = (TooDeep p, h, refl)
