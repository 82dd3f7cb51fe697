-- Events with which an element begins are ended as one element, and have one soonest fault or none.
use Rattle.std.proofs.Common.{◌≡◌, ◌+◌, List, [], ◌∷◌, ◌++◌, length, refl, sym, subst, ap, ◌∙◌, append_assoc}
use Rattle.std.proofs.lemmas.List.{append_cancel_right}
use Rattle.cdx_events.specs.declared.name.OwnedName.{OwnedName}
use Rattle.cdx_events.specs.declared.event.XmlEvent.{XmlEvent}
use Rattle.cdx_events.specs.declared.event.XmlEvent.TheVariants.{StartDocument, EndDocument}
use Rattle.cdx_events.specs.Nodes.{Node, element, events_of, IsBalanced, GoesOn}
use Rattle.cdx_events.proofs.RootLaws.{one_root}
use Rattle.cdx_schema.specs.Soon.{ends, fault_below, BeginsElement, IsEnded}
use Rattle.cdx_schema.specs.Early.{IsCompletedAs, as_they_are, cut, IsClosed}
use Rattle.cdx_schema.specs.SoonLaws.{EndAsOne, HaveOneSoonest}
use Rattle.cdx_schema.specs.XmlReading.{xread}
use Rattle.cdx_schema.proofs.EarlyBalance.{goes_front, closed_front}
use Rattle.cdx_schema.proofs.EarlyClosed.{one_closed}
use Rattle.cdx_schema.proofs.EarlyEnds.{none_after}
use Rattle.cdx_schema.proofs.EarlySoon.{longer, ended_closed}

-- ---- an end

-- after a document start, a balanced list begins with them
goes_on : (es : List XmlEvent) (b : BeginsElement es) → GoesOn (StartDocument ∷ es ++ (b.rest ++ EndDocument ∷ []))
goes_on es b = record {
  rest = [];
  balanced = record {
    name = b.name;
    attributes = b.attributes;
    namespace = b.namespace;
    nodes = b.nodes;
    whole = ap (λ ys. StartDocument ∷ ys) (append_nil' (es ++ (b.rest ++ EndDocument ∷ [])) ∙ (sym (append_assoc es b.rest (EndDocument ∷ [])) ∙ ap (λ ys. ys ++ EndDocument ∷ []) b.whole));
  };
}
  where
    append_nil' : (ys : List XmlEvent) → ys ++ [] ≡ ys
    append_nil' [] = refl
    append_nil' (y ∷ ys) = ap (λ zs. y ∷ zs) (append_nil' ys)

-- what goes on with an element is no whole document
not_whole : (es rest : List XmlEvent) → GoesOn (StartDocument ∷ es ++ (rest ++ EndDocument ∷ [])) → IsBalanced (StartDocument ∷ es) → ⊥
not_whole es [] g w = none_after (StartDocument ∷ es) EndDocument w g
not_whole es (r ∷ rs) g w = none_after (StartDocument ∷ es) r w (goes_front (StartDocument ∷ es ++ r ∷ []) (rs ++ EndDocument ∷ []) (subst GoesOn (ap (λ ys. StartDocument ∷ ys) (sym (append_assoc es (r ∷ []) (rs ++ EndDocument ∷ [])))) g))

-- a cut document is a cut element
cut_ended : (es : List XmlEvent) (whole : List XmlEvent) (ns : List OwnedName) → whole ≡ (StartDocument ∷ es) ++ (ends ns ++ EndDocument ∷ []) → IsBalanced whole → IsEnded es
cut_ended es whole ns e b = record {
  name = b.name;
  attributes = b.attributes;
  namespace = b.namespace;
  nodes = b.nodes;
  still_open = ns;
  whole = append_cancel_right (es ++ ends ns) (events_of (element b.name b.attributes b.namespace b.nodes)) (EndDocument ∷ []) (append_assoc es (ends ns) (EndDocument ∷ []) ∙ inside _ _ (sym e ∙ b.whole));
}
  where
    inside : (xs ys : List XmlEvent) → StartDocument ∷ xs ≡ StartDocument ∷ ys → xs ≡ ys
    inside xs ys h = cc

pub has_end : (es : List XmlEvent) → BeginsElement es → IsEnded es
has_end es b =
    let g : GoesOn (StartDocument ∷ es ++ (b.rest ++ EndDocument ∷ [])) = goes_on es b in
    let c : IsClosed (StartDocument ∷ es) = closed_front (StartDocument ∷ es) (goes_front (StartDocument ∷ es) (b.rest ++ EndDocument ∷ []) g) (longer es b.begun) in
    by g c.whole c.completed c.balanced
  where
    by : GoesOn (StartDocument ∷ es ++ (b.rest ++ EndDocument ∷ [])) → (w : List XmlEvent) → IsCompletedAs (StartDocument ∷ es) w → IsBalanced w → IsEnded es
    by g w (as_they_are e) k = absurd (not_whole es b.rest g (subst IsBalanced e k))
    by g w (cut ns e) k = cut_ended es w ns e k

-- ---- one end

pub one_end : (es : List XmlEvent) (i j : IsEnded es) → element i.name i.attributes i.namespace i.nodes ≡ element j.name j.attributes j.namespace j.nodes
one_end es i j =
    let a : IsClosed (StartDocument ∷ es) = ended_closed es i in
    let b : IsClosed (StartDocument ∷ es) = ended_closed es j in
    let o = one_root i.name j.name i.attributes j.attributes i.namespace j.namespace i.nodes j.nodes (sym a.balanced.whole ∙ (one_closed (StartDocument ∷ es) a b ∙ b.balanced.whole)) in
    rw (o.0, o.1, o.2, o.3) refl

pub end_as_one : EndAsOne
end_as_one es = (has_end es, one_end es)

-- ---- one soonest fault

pub one_soonest : HaveOneSoonest
one_soonest v k es p d b =
    let i : IsEnded es = has_end es b in
    let x : Node = element i.name i.attributes i.namespace i.nodes in (
      fault_below (p + length es) (xread x v k p d),
      record { ended = i; is = refl },
      λ other s. s.is ∙ ap (λ (y : Node). fault_below (p + length es) (xread y v k p d)) (one_end es s.ended i),
    )
