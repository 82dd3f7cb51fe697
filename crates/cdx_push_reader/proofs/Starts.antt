-- The start of the root, and the events before it.
use Rattle.std.specs.Prelude.{if◌then◌else◌, codes, Option, Some, Result, Ok, Err}
use Rattle.std.specs.Str.{bytes_eq}
use Rattle.std.proofs.Common.{◌≡◌, ℕ, ◌+◌, ◌⊎◌, inl, inr, Bool, true, false, List, [], ◌∷◌, ◌++◌, length, refl, sym, subst, ap, ◌∙◌}
use Rattle.cdx_events.specs.declared.event.EventKind.TheVariants as kinds
use Rattle.cdx_events.specs.declared.name.OwnedName.{OwnedName}
use Rattle.cdx_events.specs.declared.name.OwnedAttribute.{OwnedAttribute}
use Rattle.cdx_events.specs.declared.name.Namespace.{Namespace}
use Rattle.cdx_events.specs.declared.event.XmlEvent.{XmlEvent}
use Rattle.cdx_events.specs.declared.event.XmlEvent.TheVariants.{StartDocument, EndDocument, StartElement, EndElement, Characters, CData}
use Rattle.cdx_events.specs.Nodes.{element, no_nodes, GoesOn}
use Rattle.cdx_events.specs.Root.{element_opened}
use Rattle.cdx_models.specs.declared.bom.SpecVersion.{SpecVersion}
use Rattle.cdx_models.specs.declared.errors.XmlReadError.{XmlReadError}
use Rattle.cdx_models.specs.declared.errors.XmlReadError.TheVariants.{ElementReadError, UnexpectedElementReadError, RequiredDataMissing, RequiredAttributeMissing, InvalidParseError, InvalidNamespaceError, TooDeep, Memory}
use Rattle.cdx_models.specs.Trees.{bill, Trees}
use Rattle.cdx_models.specs.Versions.{namespace}
use Rattle.cdx_schema.specs.Depth.{top}
use Rattle.cdx_schema.specs.Faults.{unexpected, namespaced}
use Rattle.cdx_schema.specs.Kinds.{a_record}
use Rattle.cdx_schema.specs.XmlReading.{in_namespace, xread}
use Rattle.cdx_schema.specs.Soon.{fault_below, IsSoon}
use Rattle.cdx_schema.specs.Early.{IsEarly}
use Rattle.cdx_schema.specs.OpenRoot.{root_so_far}
use Rattle.cdx_schema.proofs.EarlyEnds.{IsStart, start_fault, first_is, second_is}
use Rattle.cdx_schema.proofs.EarlySoon.{root_soon}
use Rattle.cdx_leaf.specs.Fault.{Denotes}
use Rattle.cdx_leaf.specs.Tags.{namespace_read}
use Rattle.cdx_machine.specs.Begun.{innermost, count}
use Rattle.cdx_machine.specs.Heard.{RefusesSoon}
use Rattle.cdx_machine.specs.Machines.{Holding, Opens}
use Rattle.cdx_machine.proofs.Heard.{quiet_none, refuses_soon, soon_of}
use Rattle.cdx_push_reader.specs.Starting.{root_name_read, IsBillStart}
use Rattle.cdx_push_reader.specs.Pushed.{IsRootOpen, Outcome}

-- ---- refusals

denotes_outcome : {A X T : Type 0} (holds : A → Type 0) (view : X → T) (r : Result T XmlReadError) (v : SpecVersion) (events : List XmlEvent) (e : XmlReadError) → Denotes view r (Err e) → (r ≡ Err e → IsEarly v events (Some e)) → Outcome holds v events (Err e)
denotes_outcome holds view r v events (Memory m) h g = tt
denotes_outcome holds view r v events (ElementReadError k p) h g = g h
denotes_outcome holds view r v events (UnexpectedElementReadError p el k) h g = g h
denotes_outcome holds view r v events (RequiredDataMissing p el k) h g = g h
denotes_outcome holds view r v events (RequiredAttributeMissing p el k) h g = g h
denotes_outcome holds view r v events (InvalidParseError p el k t) h g = g h
denotes_outcome holds view r v events (InvalidNamespaceError x y) h g = g h
denotes_outcome holds view r v events (TooDeep p) h g = g h

pub soon_outcome : {A : Type 0} (holds : A → Type 0) (place : ℕ) (soon : Option XmlReadError) (v : SpecVersion) (events : List XmlEvent) (e : XmlReadError) → RefusesSoon e place soon → (soon ≡ Some e → IsEarly v events (Some e)) → Outcome holds v events (Err e)
soon_outcome holds place soon v events (Memory m) h g = tt
soon_outcome holds place soon v events (ElementReadError k p) h g = g h.0
soon_outcome holds place soon v events (UnexpectedElementReadError p el k) h g = g h.0
soon_outcome holds place soon v events (RequiredDataMissing p el k) h g = g h.0
soon_outcome holds place soon v events (RequiredAttributeMissing p el k) h g = g h.0
soon_outcome holds place soon v events (InvalidParseError p el k t) h g = g h.0
soon_outcome holds place soon v events (InvalidNamespaceError x y) h g = g h.0
soon_outcome holds place soon v events (TooDeep p) h g = g h.0

-- ---- the first event of the root

abbrev first_name : OwnedName → List XmlEvent → OwnedName
first_name n (StartElement m a s ∷ es) = m
first_name n es = n

abbrev first_namespace : Namespace → List XmlEvent → Namespace
first_namespace s (StartElement m a r ∷ es) = r
first_namespace s es = s

pub same_name : (n m : OwnedName) (a b : List OwnedAttribute) (s r : Namespace) (es fs : List XmlEvent) → StartElement n a s ∷ es ≡ StartElement m b r ∷ fs → n ≡ m
same_name n m a b s r es fs h = ap (first_name n) h

pub same_namespace : (n m : OwnedName) (a b : List OwnedAttribute) (s r : Namespace) (es fs : List XmlEvent) → StartElement n a s ∷ es ≡ StartElement m b r ∷ fs → s ≡ r
same_namespace n m a b s r es fs h = ap (first_namespace s) h

pub same_start : (v : SpecVersion) (n m : OwnedName) (a b : List OwnedAttribute) (s r : Namespace) (es fs : List XmlEvent) → StartElement n a s ∷ es ≡ StartElement m b r ∷ fs → IsBillStart v n s → IsBillStart v m r
same_start v n m a b s r es fs h c =
    (subst (λ (k : OwnedName). bytes_eq k.local_name (codes "bom") ≡ true) (same_name n m a b s r es fs h) c.0, subst (λ (k : Namespace). in_namespace k.default (namespace v) ≡ true) (same_namespace n m a b s r es fs h) c.1)

-- The soonest fault of a bill's root is the early fault of the document so far.
pub root_early : (v : SpecVersion) (n : OwnedName) (a : List OwnedAttribute) (s : Namespace) (inside : List XmlEvent) (soon : Option XmlReadError) → IsBillStart v n s → IsSoon v (a_record bill) (StartElement n a s ∷ inside) 1 top soon → IsEarly v (StartDocument ∷ StartElement n a s ∷ inside) soon
root_early v n a s inside soon c x =
    let e = x.ended in
    let same : IsBillStart v e.name e.namespace = same_start v n e.name a e.attributes s e.namespace _ _ e.whole c in
    root_soon v (StartElement n a s ∷ inside) soon x same.0 same.1

-- ---- before the root

abbrev pub NotBegun : List XmlEvent → Type 0
NotBegun events = (events ≡ []) ⊎ (events ≡ StartDocument ∷ [])

-- the root's start comes second
second : (events : List XmlEvent) (n : OwnedName) (a : List OwnedAttribute) (s : Namespace) → NotBegun events → GoesOn (events ++ StartElement n a s ∷ []) → events ≡ StartDocument ∷ []
second events n a s (inr e) g = e
second events n a s (inl e) g = let wrong : StartElement n a s ≡ StartDocument = first_is (StartElement n a s) (subst (λ es. GoesOn (es ++ StartElement n a s ∷ [])) e g) in absurd cc

abbrev pub IsOther : XmlEvent → Type 0
IsOther (StartElement n a s) = ⊥
IsOther e = Unit {0}

pub is_other : (x : XmlEvent) → ((n : OwnedName) (a : List OwnedAttribute) (s : Namespace) → x ≡ StartElement n a s → ⊥) → IsOther x
is_other (StartElement n a s) f = f n a s refl
is_other (EndElement n) f = tt
is_other StartDocument f = tt
is_other EndDocument f = tt
is_other (Characters t) f = tt
is_other (CData t) f = tt

-- a document start alone
pub not_begun : (events : List XmlEvent) (e : XmlEvent) → NotBegun events → GoesOn (events ++ e ∷ []) → IsOther e → NotBegun (events ++ e ∷ [])
not_begun events e (inl h) g o = let first : e ≡ StartDocument = first_is e (subst (λ es. GoesOn (es ++ e ∷ [])) h g) in inr (ap (λ es. es ++ e ∷ []) h ∙ ap (λ x. x ∷ []) first)
not_begun events e (inr h) g o = absurd (none e (second_is e (subst (λ es. GoesOn (es ++ e ∷ [])) h g)) o)
  where
    none : (e : XmlEvent) → IsStart e → IsOther e → ⊥
    none (StartElement n a s) i o = o
    none StartDocument i o = i
    none EndDocument i o = i
    none (EndElement n) i o = i
    none (Characters t) i o = i
    none (CData t) i o = i

-- ---- what is asked of the start

abbrev checked : Bool → XmlReadError → Result (Unit {0}) XmlReadError
checked b e = if b then Ok tt else Err e

is_true : (b : Bool) (e : XmlReadError) → checked b e ≡ Ok tt → b ≡ true
is_true true e h = refl
is_true false e h = absurd cc

pub begins_bill : (v : SpecVersion) (n : OwnedName) (s : Namespace) → root_name_read n ≡ Ok tt → namespace_read v s ≡ Ok tt → IsBillStart v n s
begins_bill v n s p q =
    (is_true (bytes_eq n.local_name (codes "bom")) (unexpected 1 (codes "bom") kinds.StartElement) p, is_true (in_namespace s.default (namespace v)) (namespaced (namespace v) s.default) q)

wrong_name : (b : Bool) (r : Result Trees XmlReadError) (e f : XmlReadError) → checked b e ≡ Err f → (if b then r else Err e) ≡ Err f
wrong_name true r e f h = absurd cc
wrong_name false r e f h = let same : e ≡ f = cc in ap (λ x. Err x) same

wrong_namespace : (b c : Bool) (r : Result Trees XmlReadError) (d e f : XmlReadError) → checked b d ≡ Ok tt → checked c e ≡ Err f → (if b then (if c then r else Err e) else Err d) ≡ Err f
wrong_namespace true true r d e f g h = absurd cc
wrong_namespace true false r d e f g h = let same : e ≡ f = cc in ap (λ x. Err x) same
wrong_namespace false c r d e f g h = absurd cc

begin_fault : (v : SpecVersion) (events : List XmlEvent) (n : OwnedName) (a : List OwnedAttribute) (s : Namespace) (e : XmlReadError) → events ≡ StartDocument ∷ [] → root_so_far v (element_opened n a s) ≡ Err e → IsEarly v (events ++ StartElement n a s ∷ []) (Some e)
begin_fault v events n a s e i r = subst (λ es. IsEarly v (es ++ StartElement n a s ∷ []) (Some e)) (sym i) (start_fault v n a s e r)

-- ---- an event that is a start

module _ (v : SpecVersion) (events : List XmlEvent) (x : XmlEvent) (n : OwnedName) (a : List OwnedAttribute) (s : Namespace) (i : x ≡ StartElement n a s) (b : NotBegun events) (g : GoesOn (events ++ x ∷ [])) where
  only : events ≡ StartDocument ∷ []
  only = second events n a s b (subst (λ y. GoesOn (events ++ y ∷ [])) i g)

  is_early : (e : XmlReadError) → IsEarly v (events ++ StartElement n a s ∷ []) (Some e) → IsEarly v (events ++ x ∷ []) (Some e)
  is_early e h = subst (λ y. IsEarly v (events ++ y ∷ []) (Some e)) (sym i) h

  pub name_refused : (e : XmlReadError) → Denotes (λ u. u) (root_name_read n) (Err e) → Outcome {A = Unit {0}} (λ u. Unit {0}) v (events ++ x ∷ []) (Err e)
  name_refused e d =
      denotes_outcome {A = Unit {0}} (λ u. Unit {0}) (λ u. u) (root_name_read n) v (events ++ x ∷ []) e d
      (λ p. is_early e (begin_fault v events n a s e only (wrong_name (bytes_eq n.local_name (codes "bom")) _ (unexpected 1 (codes "bom") kinds.StartElement) e p)))

  pub namespace_refused : (e : XmlReadError) → root_name_read n ≡ Ok tt → Denotes (λ u. u) (namespace_read v s) (Err e) → Outcome {A = Unit {0}} (λ u. Unit {0}) v (events ++ x ∷ []) (Err e)
  namespace_refused e k d =
      denotes_outcome {A = Unit {0}} (λ u. Unit {0}) (λ u. u) (namespace_read v s) v (events ++ x ∷ []) e d
      (λ p. is_early e (begin_fault v events n a s e only (wrong_namespace (bytes_eq n.local_name (codes "bom")) (in_namespace s.default (namespace v)) _ (unexpected 1 (codes "bom") kinds.StartElement) (namespaced (namespace v) s.default) e k p)))

  first_place : (place : ℕ) → place ≡ length events → place ≡ 1
  first_place place p = p ∙ ap length only

  -- the machine takes the start
  pub begins_by : {M : Type 0} (holds : Holding M) (place : ℕ) (m : M) → place ≡ length events → root_name_read n ≡ Ok tt → namespace_read v s ≡ Ok tt
      → Opens (λ m o. holds m v place top o) (λ k. xread k v (a_record bill) place top) place (innermost n a s no_nodes) (Ok m) → IsRootOpen holds v m (events ++ x ∷ [])
  begins_by {M = M} holds place m p j k h =
      let at : place ≡ 1 = first_place place p in
      let o : Opens {M = M} (λ m o. holds m v 1 top o) (λ k. xread k v (a_record bill) 1 top) 1 (innermost n a s no_nodes) (Ok m) = subst (λ q. Opens {M = M} (λ m o. holds m v q top o) (λ k. xread k v (a_record bill) q top) q (innermost n a s no_nodes) (Ok m)) at h in
      record {
        name = n;
        attributes = a;
        namespace = s;
        inside = [];
        events_are = ap (λ y. events ++ y ∷ []) i ∙ ap (λ es. es ++ StartElement n a s ∷ []) only;
        begins = begins_bill v n s j k;
        held = record { o = innermost n a s no_nodes; held = o.0; events_are = refl };
        quiet = subst (λ y. IsSoon v (a_record bill) (StartElement n a s ∷ []) 1 top y) (quiet_none (1 + count (innermost n a s no_nodes)) _ o.1) (soon_of v (a_record bill) 1 top (innermost n a s no_nodes) (StartElement n a s ∷ []) refl);
      }

  -- the machine refuses the start
  pub start_refused : {M : Type 0} (holds : Holding M) (place : ℕ) (e : XmlReadError) → place ≡ length events → root_name_read n ≡ Ok tt → namespace_read v s ≡ Ok tt
      → Opens {M = M} (λ m o. holds m v place top o) (λ k. xread k v (a_record bill) place top) place (innermost n a s no_nodes) (Err e) → Outcome {A = Unit {0}} (λ u. Unit {0}) v (events ++ x ∷ []) (Err e)
  start_refused {M = M} holds place e p j k h =
      let at : place ≡ 1 = first_place place p in
      let o : Opens {M = M} (λ m o. holds m v 1 top o) (λ k. xread k v (a_record bill) 1 top) 1 (innermost n a s no_nodes) (Err e) = subst (λ q. Opens {M = M} (λ m o. holds m v q top o) (λ k. xread k v (a_record bill) q top) q (innermost n a s no_nodes) (Err e)) at h in
      let soon : IsSoon v (a_record bill) (StartElement n a s ∷ []) 1 top (fault_below 2 (xread (element n a s no_nodes) v (a_record bill) 1 top)) = soon_of v (a_record bill) 1 top (innermost n a s no_nodes) (StartElement n a s ∷ []) refl in
      soon_outcome {A = Unit {0}} (λ u. Unit {0}) 1 (fault_below 2 (xread (element n a s no_nodes) v (a_record bill) 1 top)) v (events ++ x ∷ []) e (refuses_soon e 2 1 (xread (element n a s no_nodes) v (a_record bill) 1 top) refl o)
      (λ r. is_early e (subst (λ es. IsEarly v (es ++ StartElement n a s ∷ []) (Some e)) (sym only) (root_early v n a s [] (Some e) (begins_bill v n s j k) (subst (λ y. IsSoon v (a_record bill) (StartElement n a s ∷ []) 1 top y) r soon))))
