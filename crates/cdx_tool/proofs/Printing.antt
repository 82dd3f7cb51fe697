-- What is printed piece by piece is the value's text.
use Rattle.std.proofs.Common.{◌≡◌, ◌∙◌, ℕ, List, [], ◌∷◌, ◌++◌, map, codes, true, false, Option, Some, None, Result, Ok, Err, OnOk, refl, sym, ap, append_assoc}
use Rattle.serde_json.specs.Data.{Data, string, array, object, Items, Members, no_members, member, put}
use Rattle.serde_json.specs.View.{items_of}
use Rattle.serde_json.specs.Written.{compact_text, items_text, members_text}
use Rattle.serde_json.proofs.OnLiterals.{serde_json_on_literals}
use Rattle.cdx_events.specs.declared.event.XmlEvent.{XmlEvent}
use Rattle.cdx_events.specs.declared.name.OwnedName.{OwnedName}
use Rattle.cdx_events.specs.declared.name.OwnedAttribute.{OwnedAttribute}
use Rattle.cdx_request.specs.EventValues.{with_optional_text, with_name, attribute_value, with_attributes, only_text, event_value}
use Rattle.cdx_request.specs.Refusals.{only}
use Rattle.cdx_request.specs.Replies.{line_of}
use Rattle.cdx_print.specs.Prints.{then_text, key_text}
use Rattle.cdx_print.proofs.Printing.{member_printed, first_printed, led_printed}
use Rattle.cdx_tool.specs.Prints.{then_text_if, then_name, then_default, then_attributes}

-- ---- the members of an event

abbrev member_if : List ℕ → Option (List ℕ) → Members → Members
member_if k None ms = ms
member_if k (Some s) ms = member k (string s) ms

-- what a name has after its local part
abbrev space_members : OwnedName → Members → Members
space_members n ms = member_if (codes "prefix") n.prefix (member_if (codes "uri") n.namespace ms)

abbrev attributes_first : List OwnedAttribute → Members → Members
attributes_first [] ms = ms
attributes_first (a ∷ more) ms = member (codes "attributes") (array (items_of (map attribute_value (a ∷ more)))) ms

prefix_key : codes ",\"prefix\":" ≡ key_text true (codes "prefix")
unfolding serde_json_on_literals
prefix_key = refl

uri_key : codes ",\"uri\":" ≡ key_text true (codes "uri")
unfolding serde_json_on_literals
uri_key = refl

value_key : codes ",\"value\":" ≡ key_text true (codes "value")
unfolding serde_json_on_literals
value_key = refl

default_key : codes "\"default\":" ≡ key_text false (codes "default")
unfolding serde_json_on_literals
default_key = refl

attributes_key : codes "\"attributes\":" ≡ key_text false (codes "attributes")
unfolding serde_json_on_literals
attributes_key = refl

element_key : codes "\"element\":" ≡ key_text false (codes "element")
unfolding serde_json_on_literals
element_key = refl

name_key : codes "{\"name\":" ≡ 123 ∷ key_text false (codes "name")
unfolding serde_json_on_literals
name_key = refl

end_key : codes "{\"end\":" ≡ 123 ∷ key_text false (codes "end")
unfolding serde_json_on_literals
end_key = refl

if_printed : (before start k : List ℕ) (o : Option (List ℕ)) (ms : Members) → start ≡ key_text true k → then_text_if start o before ++ members_text true ms ≡ before ++ members_text true (member_if k o ms)
if_printed before start k None ms is = refl
if_printed before start k (Some s) ms is = member_printed before start true k (string s) ms is

-- what follows on a name's local part
space_printed : (before : List ℕ) (n : OwnedName) (ms : Members)
    → then_text_if (codes ",\"uri\":") n.namespace (then_text_if (codes ",\"prefix\":") n.prefix before) ++ members_text true ms ≡ before ++ members_text true (space_members n ms)
space_printed before n ms =
    if_printed (then_text_if (codes ",\"prefix\":") n.prefix before) (codes ",\"uri\":") (codes "uri") n.namespace ms uri_key
    ∙ if_printed before (codes ",\"prefix\":") (codes "prefix") n.prefix (member_if (codes "uri") n.namespace ms) prefix_key

default_printed : (before : List ℕ) (o : Option (List ℕ)) (k : List ℕ) (d : Data) (ms : Members)
    → then_default o before ++ members_text false (member k d ms) ≡ before ++ members_text false (member_if (codes "default") o (member k d ms))
default_printed before None k d ms = refl
default_printed before (Some s) k d ms = led_printed before (codes "\"default\":") (codes "default") (string s) k d ms default_key

attributes_printed : (before : List ℕ) (as' : List OwnedAttribute) (k : List ℕ) (d : Data) (ms : Members)
    → then_attributes as' before ++ members_text false (member k d ms) ≡ before ++ members_text false (attributes_first as' (member k d ms))
attributes_printed before [] k d ms = refl
attributes_printed before (a ∷ more) k d ms = led_printed before (codes "\"attributes\":") (codes "attributes") (array (items_of (map attribute_value (a ∷ more)))) k d ms attributes_key

both_printed : (before : List ℕ) (as' : List OwnedAttribute) (o : Option (List ℕ)) (k : List ℕ) (d : Data) (ms : Members)
    → then_default o (then_attributes as' before) ++ members_text false (member k d ms) ≡ before ++ members_text false (attributes_first as' (member_if (codes "default") o (member k d ms)))
both_printed before as' None k d ms = attributes_printed before as' k d ms
both_printed before as' (Some s) k d ms = default_printed (then_attributes as' before) (Some s) k d ms ∙ attributes_printed before as' (codes "default") (string s) (member k d ms)

-- ---- where putting places them

attribute_named : (l s : List ℕ) (u p : Option (List ℕ))
    → with_optional_text (codes "prefix") p (with_optional_text (codes "uri") u (put (codes "name") (string l) (member (codes "value") (string s) no_members)))
    ≡ member (codes "name") (string l) (member_if (codes "prefix") p (member_if (codes "uri") u (member (codes "value") (string s) no_members)))
attribute_named l s None None = refl
attribute_named l s None (Some p) = refl
attribute_named l s (Some u) None = refl
attribute_named l s (Some u) (Some p) = refl

end_named : (l : List ℕ) (u p : Option (List ℕ)) → with_optional_text (codes "prefix") p (with_optional_text (codes "uri") u (put (codes "end") (string l) no_members))
    ≡ member (codes "end") (string l) (member_if (codes "prefix") p (member_if (codes "uri") u no_members))
end_named l None None = refl
end_named l None (Some p) = refl
end_named l (Some u) None = refl
end_named l (Some u) (Some p) = refl

element_named : (l : List ℕ) (u p : Option (List ℕ)) → with_optional_text (codes "prefix") p (with_optional_text (codes "uri") u (put (codes "element") (string l) no_members))
    ≡ member (codes "element") (string l) (member_if (codes "prefix") p (member_if (codes "uri") u no_members))
element_named l None None = refl
element_named l None (Some p) = refl
element_named l (Some u) None = refl
element_named l (Some u) (Some p) = refl

both_first : (as' : List OwnedAttribute) (o : Option (List ℕ)) (d : Data) (ms : Members)
    → with_attributes as' (with_optional_text (codes "default") o (member (codes "element") d ms)) ≡ attributes_first as' (member_if (codes "default") o (member (codes "element") d ms))
both_first [] None d ms = refl
both_first [] (Some s) d ms = refl
both_first (a ∷ more) None d ms = refl
both_first (a ∷ more) (Some s) d ms = refl

-- ---- events

pub attribute_printed : (before : List ℕ) (a : OwnedAttribute) → then_text (codes ",\"value\":") a.value (then_name (codes "{\"name\":") a.name before) ++ codes "}" ≡ before ++ compact_text (attribute_value a)
attribute_printed before a =
    let n = a.name in
    let value = member (codes "value") (string a.value) no_members in
    member_printed (then_name (codes "{\"name\":") n before) (codes ",\"value\":") true (codes "value") (string a.value) no_members value_key
    ∙ space_printed (then_text (codes "{\"name\":") n.local_name before) n value
    ∙ first_printed before (codes "{\"name\":") (codes "name") (string n.local_name) (space_members n value) name_key
    ∙ ap (λ ms. before ++ compact_text (object ms)) (sym (attribute_named n.local_name a.value n.namespace n.prefix))

pub start_printed : (before : List ℕ) (n : OwnedName) (as' : List OwnedAttribute) (o : Option (List ℕ))
    → then_name (codes "\"element\":") n (then_default o (then_attributes as' (before ++ codes "{"))) ++ codes "}"
    ≡ before ++ compact_text (object (with_attributes as' (with_optional_text (codes "default") o (with_name (codes "element") n no_members))))
start_printed before n as' o =
    let first = then_default o (then_attributes as' (before ++ codes "{")) in
    let space = space_members n no_members in
    let named_is = element_named n.local_name n.namespace n.prefix in
    space_printed (then_text (codes "\"element\":") n.local_name first) n no_members
    ∙ member_printed first (codes "\"element\":") false (codes "element") (string n.local_name) space element_key
    ∙ both_printed (before ++ codes "{") as' o (codes "element") (string n.local_name) space
    ∙ append_assoc before (123 ∷ []) _
    ∙ ap (λ ms. before ++ compact_text (object ms)) (sym (ap (λ ms. with_attributes as' (with_optional_text (codes "default") o ms)) named_is ∙ both_first as' o (string n.local_name) space))

pub end_printed : (before : List ℕ) (n : OwnedName) → then_name (codes "{\"end\":") n before ++ codes "}" ≡ before ++ compact_text (object (with_name (codes "end") n no_members))
end_printed before n =
    space_printed (then_text (codes "{\"end\":") n.local_name before) n no_members
    ∙ first_printed before (codes "{\"end\":") (codes "end") (string n.local_name) (space_members n no_members) end_key
    ∙ ap (λ ms. before ++ compact_text (object ms)) (sym (end_named n.local_name n.namespace n.prefix))

only_printed : (before start name s : List ℕ) → start ≡ 123 ∷ key_text false name → then_text start s before ++ codes "}" ≡ before ++ compact_text (only_text name s)
only_printed before start name s is = first_printed before start name (string s) no_members is

pub document_printed : (before s : List ℕ) → then_text (codes "{\"document\":") s before ++ codes "}" ≡ before ++ compact_text (only_text (codes "document") s)
unfolding serde_json_on_literals
document_printed before s = only_printed before (codes "{\"document\":") (codes "document") s refl

pub text_printed : (before s : List ℕ) → then_text (codes "{\"text\":") s before ++ codes "}" ≡ before ++ compact_text (only_text (codes "text") s)
unfolding serde_json_on_literals
text_printed before s = only_printed before (codes "{\"text\":") (codes "text") s refl

pub cdata_printed : (before s : List ℕ) → then_text (codes "{\"cdata\":") s before ++ codes "}" ≡ before ++ compact_text (only_text (codes "cdata") s)
unfolding serde_json_on_literals
cdata_printed before s = only_printed before (codes "{\"cdata\":") (codes "cdata") s refl

-- what was printed of a known event is the event's text
pub event_printed : {T E : Type 0} (r : Result T E) (before pieces new : List ℕ) (event known : XmlEvent) → event ≡ known → OnOk r (new ≡ pieces) → pieces ≡ before ++ compact_text (event_value known)
    → OnOk r (new ≡ before ++ compact_text (event_value event))
event_printed (Ok u) before pieces new event known is printed whole = printed ∙ whole ∙ ap (λ e. before ++ compact_text (event_value e)) (sym is)
event_printed (Err e) before pieces new event known is printed whole = tt

-- ---- documents

pub json_printed : (before : List ℕ) (d : Data) → ((before ++ codes "{\"json\":") ++ compact_text d) ++ codes "}" ≡ before ++ compact_text (only (codes "json") d)
unfolding serde_json_on_literals
json_printed before d = first_printed before (codes "{\"json\":") (codes "json") d no_members refl

pub xml_printed : (before : List ℕ) (d : Data) → ((before ++ codes "{\"xml\":") ++ compact_text d) ++ codes "}" ≡ before ++ compact_text (only (codes "xml") d)
unfolding serde_json_on_literals
xml_printed before d = first_printed before (codes "{\"xml\":") (codes "xml") d no_members refl

pub documents_printed : (text : List ℕ) (ds : Items) → text ≡ codes "{\"documents\":[" ++ items_text false ds → text ++ codes "}\n" ≡ line_of (only (codes "documents") (array ds))
unfolding serde_json_on_literals
documents_printed text ds so_far =
    ap (λ s. s ++ codes "}\n") so_far
    ∙ sym (append_assoc (codes "{\"documents\":" ++ compact_text (array ds)) (codes "}") (10 ∷ []))
    ∙ ap (λ s. s ++ 10 ∷ []) (first_printed [] (codes "{\"documents\":") (codes "documents") (array ds) no_members refl)
