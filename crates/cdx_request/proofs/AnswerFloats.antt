-- No answer of documents holds a float.
use Rattle.std.proofs.Common.{◌≡◌, ℕ, List, [], ◌∷◌, map, codes, Bool, true, false, ◌||◌, cond, Option, Some, None, Result, Ok, Err, Ordering, Less, Equal, Greater, refl, sym, ap, subst}
use Rattle.std.specs.Ordering.{nat_cmp, match_ordering}
use Rattle.std.specs.Cmp.Lexicographic.{slice_cmp}
use Rattle.serde_json.specs.Data.{Data, string, Members, no_members, member, put}
use Rattle.serde_json.specs.View.{items_of}
use Rattle.serde_json.specs.Written.{has_float, items_have_float, members_have_float}
use Rattle.cdx_events.specs.Nodes.{document}
use Rattle.cdx_events.specs.declared.name.OwnedName.{OwnedName}
use Rattle.cdx_events.specs.declared.name.OwnedAttribute.{OwnedAttribute}
use Rattle.cdx_events.specs.declared.event.XmlEvent.{XmlEvent}
use Rattle.cdx_events.specs.declared.event.XmlEvent.TheVariants.{StartDocument, EndDocument, StartElement, EndElement, Characters, CData}
use Rattle.cdx_models.specs.declared.bom.SpecVersion.{SpecVersion}
use Rattle.cdx_models.specs.Trees.{Tree}
use Rattle.cdx_schema.specs.Kinds.{a_bill}
use Rattle.cdx_schema.specs.Results.{◌>>=◌}
use Rattle.cdx_schema.specs.JsonSpelling.{jspell}
use Rattle.cdx_schema.specs.XmlSpelling.{root}
use Rattle.cdx_schema.specs.Keeping.{keep}
use Rattle.cdx_schema.specs.Trips.{Form, in_json, in_xml, Hop}
use Rattle.cdx_models.specs.declared.errors.XmlReadError.TheVariants.{ElementReadError, UnexpectedElementReadError, RequiredDataMissing, RequiredAttributeMissing, InvalidParseError, InvalidNamespaceError, TooDeep, Memory}
use Rattle.cdx_schema.specs.Roads.{Doc, of_json, of_xml, version_missing, denotes, document_of, fits_all, hops_from}
use Rattle.cdx_request.specs.EventValues.{with_optional_text, with_name, attribute_value, with_attributes, event_value}
use Rattle.cdx_request.specs.Replies.{doc_value}
use Rattle.cdx_request.specs.Served.{NoFloats, NoFloatRefused}
use Rattle.cdx_schema.proofs.Clear.{spelling_clear}
use Rattle.cdx_schema.proofs.Basics.{neither}

-- ---- events

ordered : (o : Ordering) (a b c : Members) → members_have_float a ≡ false → members_have_float b ≡ false → members_have_float c ≡ false → members_have_float (match_ordering o a b c) ≡ false
ordered Less a b c p q r = p
ordered Equal a b c p q r = q
ordered Greater a b c p q r = r

first_clear : (a b : Bool) → (a || b) ≡ false → a ≡ false
first_clear true b h = h
first_clear false b h = refl

second_clear : (a b : Bool) → (a || b) ≡ false → b ≡ false
second_clear true b h = cc
second_clear false b h = h

pub put_clear : (k : List ℕ) (d : Data) (ms : Members) → has_float d ≡ false → members_have_float ms ≡ false → members_have_float (put k d ms) ≡ false
put_clear k d no_members p q = neither (has_float d) false p refl
put_clear k d (member l e ms) p q =
    let e_clear = first_clear (has_float e) (members_have_float ms) q in
    let rest = second_clear (has_float e) (members_have_float ms) q in
    ordered (slice_cmp nat_cmp k l) _ _ _ (neither (has_float d) _ p q) (neither (has_float d) _ p rest) (neither (has_float e) _ e_clear (put_clear k d ms p rest))

text_clear : (k : List ℕ) (o : Option (List ℕ)) (ms : Members) → members_have_float ms ≡ false → members_have_float (with_optional_text k o ms) ≡ false
text_clear k None ms h = h
text_clear k (Some s) ms h = put_clear k (string s) ms refl h

name_clear : (k : List ℕ) (n : OwnedName) (ms : Members) → members_have_float ms ≡ false → members_have_float (with_name k n ms) ≡ false
name_clear k n ms h = text_clear _ n.prefix _ (text_clear _ n.namespace _ (put_clear k (string n.local_name) ms refl h))

attributes_clear : (as' : List OwnedAttribute) → items_have_float (items_of (map attribute_value as')) ≡ false
attributes_clear [] = refl
attributes_clear (a ∷ as') = neither (has_float (attribute_value a)) _ (name_clear (codes "name") a.name (member (codes "value") (string a.value) no_members) refl) (attributes_clear as')

with_clear : (as' : List OwnedAttribute) (ms : Members) → members_have_float ms ≡ false → members_have_float (with_attributes as' ms) ≡ false
with_clear [] ms h = h
with_clear (a ∷ as') ms h = put_clear _ _ ms (attributes_clear (a ∷ as')) h

event_clear : (e : XmlEvent) → has_float (event_value e) ≡ false
event_clear StartDocument = refl
event_clear EndDocument = refl
event_clear (StartElement n as' space) = with_clear as' _ (text_clear _ space.default _ (name_clear (codes "element") n no_members refl))
event_clear (EndElement n) = name_clear (codes "end") n no_members refl
event_clear (Characters s) = refl
event_clear (CData s) = refl

events_clear : (es : List XmlEvent) → items_have_float (items_of (map event_value es)) ≡ false
events_clear [] = refl
events_clear (e ∷ es) = neither (has_float (event_value e)) _ (event_clear e) (events_clear es)

-- ---- documents

doc_clear : (f : Form) (w : SpecVersion) (b : Tree) → has_float (doc_value (document_of f w b)) ≡ false
doc_clear in_json w b = neither (has_float (jspell b w a_bill)) false (spelling_clear b w a_bill) refl
doc_clear in_xml w b = neither _ false (events_clear (document (root b w))) refl

pub bound : {A B F : Type 0} (r : Result A F) (f : A → Result B F) (y : B) → (r >>= f) ≡ Ok y → (x : A) × (r ≡ Ok x) × (f x ≡ Ok y)
bound (Ok x) f y h = (x, refl, h)
bound (Err e) f y h = cc

abbrev value_or : {A F : Type 0} → A → Result A F → A
value_or d (Ok x) = x
value_or d (Err e) = d

pub same_ok : {A F : Type 0} (x y : A) → ◌≡◌ {A = Result A F} (Ok x) (Ok y) → x ≡ y
same_ok x y h = ap (value_or x) h

docs_clear : (hs : List Hop) (x : Doc) (v : SpecVersion) (docs : List Doc) → hops_from x v hs ≡ Ok docs → items_have_float (items_of (map doc_value docs)) ≡ false
docs_clear [] x v docs h = rw (sym (same_ok [] docs h)) refl
docs_clear (g ∷ hs) x v docs h =
    let b = bound (denotes x v) _ docs h in
    let kept_bill = keep g.version b.0 a_bill in
    let doc = document_of g.form g.version kept_bill in
    let r = bound (hops_from doc g.version hs) (λ rest. Ok (doc ∷ rest)) docs b.2 in
    subst (λ (docs : List Doc). items_have_float (items_of (map doc_value docs)) ≡ false) (same_ok (doc ∷ r.0) docs r.2)
    (neither (has_float (doc_value doc)) (items_have_float (items_of (map doc_value r.0))) (doc_clear g.form g.version kept_bill) (docs_clear hs doc g.version r.0 r.1))

pub chosen : {A F : Type 0} (b : Bool) (r : Result A F) (e : F) (y : A) → cond b r (Err e) ≡ Ok y → r ≡ Ok y
chosen true r e y h = h
chosen false r e y h = cc

pub no_floats : NoFloats
no_floats x v hops docs h =
    let b = bound (denotes x v) _ docs h in
    neither (items_have_float (items_of (map doc_value docs))) false (docs_clear hops x v docs (chosen (fits_all hops b.0) (hops_from x v hops) _ docs b.2)) refl

-- ---- refusals

pub refused_clear : NoFloatRefused
refused_clear (of_json f) = refl
refused_clear (of_xml (InvalidNamespaceError expected None)) = refl
refused_clear (of_xml (InvalidNamespaceError expected (Some actual))) = refl
refused_clear (of_xml (UnexpectedElementReadError place element found)) = refl
refused_clear (of_xml (RequiredDataMissing place element field)) = refl
refused_clear (of_xml (InvalidParseError place element text type)) = refl
refused_clear (of_xml (TooDeep place)) = refl
refused_clear (of_xml (ElementReadError kind place)) = refl
refused_clear (of_xml (RequiredAttributeMissing place element attribute)) = refl
refused_clear (of_xml (Memory e)) = refl
refused_clear version_missing = refl
