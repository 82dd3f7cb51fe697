-- How deep an answer of documents nests.
use Rattle.std.proofs.Common.{◌≡◌, ℕ, ◌≤◌, List, [], ◌∷◌, map, codes, Option, Some, None, Ok, Ordering, Less, Equal, Greater, subst, arith}
use Rattle.std.specs.Ordering.{nat_cmp, match_ordering}
use Rattle.std.specs.Cmp.Lexicographic.{slice_cmp}
use Rattle.serde_json.specs.Data.{Data, string, Members, no_members, member, put, depth, items_depth, members_depth}
use Rattle.serde_json.specs.View.{items_of}
use Rattle.cdx_events.specs.Nodes.{document}
use Rattle.cdx_events.specs.declared.name.OwnedName.{OwnedName}
use Rattle.cdx_events.specs.declared.name.OwnedAttribute.{OwnedAttribute}
use Rattle.cdx_events.specs.declared.event.XmlEvent.{XmlEvent}
use Rattle.cdx_events.specs.declared.event.XmlEvent.TheVariants.{StartDocument, EndDocument, StartElement, EndElement, Characters, CData}
use Rattle.cdx_models.specs.declared.bom.SpecVersion.{SpecVersion}
use Rattle.cdx_models.specs.Trees.{Tree}
use Rattle.cdx_schema.specs.Kinds.{a_bill}
use Rattle.cdx_schema.specs.Laws.{HasBillShape, IsShallow}
use Rattle.cdx_schema.specs.Keeping.{keep}
use Rattle.cdx_schema.specs.XmlSpelling.{root}
use Rattle.cdx_schema.specs.Trips.{Form, in_json, in_xml, Hop}
use Rattle.cdx_schema.specs.Roads.{Doc, denotes, document_of, fits_all, hops_from}
use Rattle.cdx_schema.proofs.Stated.{stays_bill, stays_shallow, denotes_shapes, nests}
use Rattle.cdx_request.specs.EventValues.{with_optional_text, with_name, attribute_value, with_attributes, event_value}
use Rattle.cdx_request.specs.Replies.{doc_value}
use Rattle.cdx_request.specs.Served.{AnswersNest}
use Rattle.cdx_request.proofs.AnswerFloats.{bound, same_ok, chosen}

-- ---- events

ordered : (o : Ordering) (n : ℕ) (a b c : Members) → members_depth a ≤ n → members_depth b ≤ n → members_depth c ≤ n → members_depth (match_ordering o a b c) ≤ n
ordered Less n a b c p q r = p
ordered Equal n a b c p q r = q
ordered Greater n a b c p q r = r

put_within : (n : ℕ) (k : List ℕ) (d : Data) (ms : Members) → depth d ≤ n → members_depth ms ≤ n → members_depth (put k d ms) ≤ n
put_within n k d no_members p q = omega (arith, p)
put_within n k d (member l e ms) p q =
    ordered (slice_cmp nat_cmp k l) n _ _ _ (omega (arith, p, q)) (omega (arith, p, q)) (omega (arith, q, put_within n k d ms p (omega (arith, q))))

text_within : (n : ℕ) (k : List ℕ) (o : Option (List ℕ)) (ms : Members) → members_depth ms ≤ n → members_depth (with_optional_text k o ms) ≤ n
text_within n k None ms h = h
text_within n k (Some s) ms h = put_within n k (string s) ms (omega arith) h

name_within : (n : ℕ) (k : List ℕ) (name : OwnedName) (ms : Members) → members_depth ms ≤ n → members_depth (with_name k name ms) ≤ n
name_within n k name ms h = text_within n _ name.prefix _ (text_within n _ name.namespace _ (put_within n k (string name.local_name) ms (omega arith) h))

attributes_within : (as' : List OwnedAttribute) → items_depth (items_of (map attribute_value as')) ≤ 1
attributes_within [] = omega arith
attributes_within (a ∷ as') =
    omega (arith, name_within 0 (codes "name") a.name (member (codes "value") (string a.value) no_members) (omega arith), attributes_within as')

with_within : (as' : List OwnedAttribute) (ms : Members) → members_depth ms ≤ 2 → members_depth (with_attributes as' ms) ≤ 2
with_within [] ms h = h
with_within (a ∷ as') ms h = put_within 2 _ _ ms (omega (arith, attributes_within (a ∷ as'))) h

event_within : (e : XmlEvent) → depth (event_value e) ≤ 3
event_within StartDocument = omega arith
event_within EndDocument = omega arith
event_within (StartElement n as' space) =
    let inner : members_depth (with_name (codes "element") n no_members) ≤ 2 = name_within 2 (codes "element") n no_members (omega arith) in
    let whole = with_optional_text (codes "default") space.default (with_name (codes "element") n no_members) in
    omega (arith, with_within as' whole (text_within 2 (codes "default") space.default (with_name (codes "element") n no_members) inner))
event_within (EndElement n) = omega (arith, name_within 2 (codes "end") n no_members (omega arith))
event_within (Characters s) = omega arith
event_within (CData s) = omega arith

events_within : (es : List XmlEvent) → items_depth (items_of (map event_value es)) ≤ 3
events_within [] = omega arith
events_within (e ∷ es) = omega (arith, event_within e, events_within es)

-- ---- documents

doc_within : (f : Form) (w : SpecVersion) (b : Tree) → HasBillShape b → IsShallow b → depth (doc_value (document_of f w b)) ≤ 105
doc_within in_json w b is s = omega (arith, nests b w is s)
doc_within in_xml w b is s = omega (arith, events_within (document (root b w)))

docs_within : (hs : List Hop) (x : Doc) (v : SpecVersion) (docs : List Doc) → hops_from x v hs ≡ Ok docs → items_depth (items_of (map doc_value docs)) ≤ 105
docs_within [] x v docs h = subst (λ (docs : List Doc). items_depth (items_of (map doc_value docs)) ≤ 105) (same_ok [] docs h) (omega arith)
docs_within (g ∷ hs) x v docs h =
    let b = bound (denotes x v) _ docs h in
    let is = denotes_shapes x v b.0 b.1 in
    let kept_bill = keep g.version b.0 a_bill in
    let doc = document_of g.form g.version kept_bill in
    let r = bound (hops_from doc g.version hs) (λ rest. Ok (doc ∷ rest)) docs b.2 in
    let one = doc_within g.form g.version kept_bill ((stays_bill b.0 g.version).1 is.0).0 (stays_shallow b.0 g.version is.1).0 in
    subst (λ (docs : List Doc). items_depth (items_of (map doc_value docs)) ≤ 105) (same_ok (doc ∷ r.0) docs r.2) (omega (arith, one, docs_within hs doc g.version r.0 r.1))

pub answers_nest : AnswersNest
answers_nest x v hops docs h =
    let b = bound (denotes x v) _ docs h in
    omega (arith, docs_within hops x v docs (chosen (fits_all hops b.0) (hops_from x v hops) _ docs b.2))
