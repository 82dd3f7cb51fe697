-- The early fault of events that stand in a bill's root is the soonest of the root.
use Rattle.std.specs.Prelude.{Option, codes}
use Rattle.std.specs.Str.{bytes_eq}
use Rattle.std.proofs.Common.{◌≡◌, ◌+◌, ◌<◌, true, List, [], ◌∷◌, ◌++◌, length, refl, sym, ap, ◌∙◌, append_assoc, arith}
use Rattle.cdx_events.specs.declared.event.XmlEvent.{XmlEvent}
use Rattle.cdx_events.specs.declared.event.XmlEvent.TheVariants.{StartDocument, EndDocument}
use Rattle.cdx_events.specs.Nodes.{element, events_of}
use Rattle.cdx_models.specs.declared.bom.SpecVersion.{SpecVersion}
use Rattle.cdx_models.specs.declared.errors.XmlReadError.{XmlReadError}
use Rattle.cdx_models.specs.Trees.{bill}
use Rattle.cdx_models.specs.Versions.{namespace}
use Rattle.cdx_schema.specs.Depth.{top}
use Rattle.cdx_schema.specs.Kinds.{a_record}
use Rattle.cdx_schema.specs.XmlReading.{in_namespace, xread, xml_denotes}
use Rattle.cdx_schema.specs.Soon.{ends, fault_below, IsEnded, IsSoon}
use Rattle.cdx_schema.specs.Early.{cut, IsClosed, closed, IsEarly}
use Rattle.cdx_schema.proofs.EarlyBalance.{closed_goes}
use Rattle.cdx_schema.proofs.EarlyLaws.{early_goes}

-- a root that is named so, in the version's namespace, is read as a bill's record
bill_is : (v : SpecVersion) (es : List XmlEvent) (s : IsEnded es) → bytes_eq s.name.local_name (codes "bom") ≡ true → in_namespace s.namespace.default (namespace v) ≡ true
    → xml_denotes (element s.name s.attributes s.namespace s.nodes) v ≡ xread (element s.name s.attributes s.namespace s.nodes) v (a_record bill) 1 top
unfolding xread
bill_is v es s n m = rw (n, m) refl

some_there : (es : List XmlEvent) (s : IsEnded es) → es ≡ [] → ⊥
some_there es s i = none s.still_open (ap (λ x. x ++ ends s.still_open) (sym i) ∙ s.whole)
  where
    none : (ns : List Rattle.cdx_events.specs.declared.name.OwnedName.OwnedName) → [] ++ ends ns ≡ events_of (element s.name s.attributes s.namespace s.nodes) → ⊥
    none [] e = absurd cc
    none (n ∷ ns) e = absurd cc

pub longer : (es : List XmlEvent) → (es ≡ [] → ⊥) → 1 < length (StartDocument ∷ es)
longer [] n = absurd (n refl)
longer (e ∷ es) n = omega arith

-- the document whose root is the element that they are ended as
abbrev pub ended_closed : (es : List XmlEvent) → IsEnded es → IsClosed (StartDocument ∷ es)
ended_closed es x = record {
  whole = (StartDocument ∷ es) ++ (ends x.still_open ++ EndDocument ∷ []);
  completed = cut x.still_open refl;
  balanced = record { name = x.name; attributes = x.attributes; namespace = x.namespace; nodes = x.nodes; whole = ap (λ ys. StartDocument ∷ ys) (sym (append_assoc es (ends x.still_open) (EndDocument ∷ [])) ∙ ap (λ ys. ys ++ EndDocument ∷ []) x.whole) };
}

pub root_soon : (v : SpecVersion) (es : List XmlEvent) (soon : Option XmlReadError) → (s : IsSoon v (a_record bill) es 1 top soon)
    → bytes_eq s.ended.name.local_name (codes "bom") ≡ true → in_namespace s.ended.namespace.default (namespace v) ≡ true → IsEarly v (StartDocument ∷ es) soon
root_soon v es soon s n m =
    let x = s.ended in
    let c : IsClosed (StartDocument ∷ es) = ended_closed es x in
    let place : 1 + length es ≡ length (StartDocument ∷ es) = omega arith in
    let same : soon ≡ fault_below (length (StartDocument ∷ es)) (xml_denotes (element x.name x.attributes x.namespace x.nodes) v) =
    s.is ∙ (ap (λ q. fault_below q (xread (element x.name x.attributes x.namespace x.nodes) v (a_record bill) 1 top)) place ∙ ap (fault_below (length (StartDocument ∷ es))) (sym (bill_is v es x n m))) in
    early_goes v (StartDocument ∷ es) soon (closed_goes (StartDocument ∷ es) c) (closed (longer es (some_there es x)) c same)
