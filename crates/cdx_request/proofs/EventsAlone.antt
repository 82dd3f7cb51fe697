-- What is read as events is the value that writes them.
use Rattle.std.proofs.Common.{◌≡◌, ◌⊎◌, inl, inr, ℕ, ◌+◌, ◌==◌, List, [], ◌∷◌, map, codes, Bool, true, false, if◌then◌else◌, Option, Some, None, bytes_eq, refl, sym, ap, subst, ◌∙◌, arith}
use Rattle.std.proofs.lemmas.Slice.Eq.{bytes_eq-Decides}
use Rattle.serde_json.specs.Data.{Data, null, boolean, number, string, array, object, no_items, Members, no_members, member, put}
use Rattle.serde_json.specs.Find.{get_member, as_array}
use Rattle.serde_json.specs.Events.{members_len}
use Rattle.serde_json.specs.View.{items_of}
use Rattle.cdx_events.specs.declared.name.OwnedName.{OwnedName}
use Rattle.cdx_events.specs.declared.name.OwnedAttribute.{OwnedAttribute}
use Rattle.cdx_events.specs.declared.name.Namespace.{Namespace}
use Rattle.cdx_events.specs.declared.event.XmlEvent.{XmlEvent}
use Rattle.cdx_events.specs.declared.event.XmlEvent.TheVariants.{StartDocument, EndDocument, StartElement, EndElement, Characters, CData}
use Rattle.cdx_request.specs.Parts.{◌>>=◌, has, text_at, how_many, if_text, all_in}
use Rattle.cdx_request.specs.EventValues.{with_optional_text, with_name, attribute_value, only_text}
use Rattle.cdx_request.specs.EventReading.{name_at, members_of_name, attribute_parts, attribute_meant, if_attributes, mark_of, mark_event, start_parts, members_of_start, start_event, end_event, text_event, event_of}
use Rattle.cdx_request.specs.SameValues.{HoldsTheSame, HasMembers}
use Rattle.cdx_request.specs.Alone.{WritesEvent, EventsAlone}
use Rattle.cdx_request.proofs.Finding.{count, given, made, tested, same_some, Has, text_held, is_array, with_put, told, told_is, with_text_held, all_alone, same_items}

-- ---- names

-- the members name something under `local`
record IsNamed (local : List ℕ) (ds : Members) (n : OwnedName) : Type 0 where
  local_name : Has ds local (string n.local_name)
  uri : if_text (get_member (codes "uri") ds) ≡ Some n.namespace
  prefix : if_text (get_member (codes "prefix") ds) ≡ Some n.prefix

name_read : (local : List ℕ) (ds : Members) (n : OwnedName) → name_at local (object ds) ≡ Some n → IsNamed local ds n
name_read local ds n e =
    let name = given (text_at local (object ds)) _ n e in
    let uri = given (if_text (get_member (codes "uri") ds)) _ n name.2 in
    let prefix = given (if_text (get_member (codes "prefix") ds)) _ n uri.2 in
    subst (λ (n : OwnedName). IsNamed local ds n) (same_some (record { local_name = name.0; namespace = uri.0; prefix = prefix.0 }) n prefix.2)
    (record { local_name = text_held local ds name.0 name.1; uri = uri.1; prefix = prefix.1 })

named_held : (local : List ℕ) (ds : Members) (n : OwnedName) (ws : Members) → IsNamed local ds n → HasMembers ds ws → HasMembers ds (with_name local n ws)
named_held local ds n ws is held =
    with_text_held (codes "prefix") ds n.prefix _ is.prefix
    (with_text_held (codes "uri") ds n.namespace _ is.uri (with_put ds local (string n.local_name) ws is.local_name held))

-- how many members a name takes
abbrev name_told : OwnedName → ℕ
name_told n = 1 + told n.namespace + told n.prefix

name_counted : (local : List ℕ) (ds : Members) (n : OwnedName) → IsNamed local ds n → members_of_name (object ds) ≡ name_told n
name_counted local ds n is = rw (told_is (get_member (codes "uri") ds) n.namespace is.uri, told_is (get_member (codes "prefix") ds) n.prefix is.prefix) refl

-- ---- attributes

attribute_len : (n v : List ℕ) (u p : Option (List ℕ)) → members_len (with_name (codes "name") (record { local_name = n; namespace = u; prefix = p }) (member (codes "value") (string v) no_members)) ≡ 1 + told u + told p + 1
attribute_len n v None None = refl
attribute_len n v None (Some p) = refl
attribute_len n v (Some u) None = refl
attribute_len n v (Some u) (Some p) = refl

attribute_held : (ds : Members) (a : OwnedAttribute) → attribute_meant (object ds) ≡ Some a → HoldsTheSame (object ds) (attribute_value a)
attribute_held ds a e =
    let t = tested (members_len ds == members_of_name (object ds) + 1) (attribute_parts (object ds)) a e in
    let name = given (name_at (codes "name") (object ds)) _ a t.1 in
    let value = given (text_at (codes "value") (object ds)) _ a name.2 in
    let is = name_read (codes "name") ds name.0 name.1 in
    let many = count (members_len ds) (members_of_name (object ds) + 1) t.0 ∙ ap (λ (k : ℕ). k + 1) (name_counted (codes "name") ds name.0 is) in
    subst (λ (a : OwnedAttribute). HoldsTheSame (object ds) (attribute_value a)) (same_some (record { name = name.0; value = value.0 }) a value.2)
    (many ∙ sym (attribute_len name.0.local_name value.0 name.0.namespace name.0.prefix), named_held (codes "name") ds name.0 (member (codes "value") (string value.0) no_members) is (text_held (codes "value") ds value.0 value.1, tt))

attribute_alone : (d : Data) (a : OwnedAttribute) → attribute_meant d ≡ Some a → HoldsTheSame d (attribute_value a)
attribute_alone (object ds) a e = attribute_held ds a e
attribute_alone null a e = absurd cc
attribute_alone (boolean b) a e = absurd cc
attribute_alone (number n) a e = absurd cc
attribute_alone (string s) a e = absurd cc
attribute_alone (array ds) a e = absurd cc

-- what stands under `attributes`: nothing, or a list
abbrev IsListed : Option Data → List OwnedAttribute → Type 0
IsListed g as' = ((g ≡ None) × (as' ≡ [])) ⊎ ((how_many g ≡ 1) × ((d : Data) × (g ≡ Some d) × HoldsTheSame d (array (items_of (map attribute_value as')))))

array_alone : (d : Data) (as' : List OwnedAttribute) → (as_array d >>= all_in attribute_meant) ≡ Some as' → HoldsTheSame d (array (items_of (map attribute_value as')))
array_alone d as' e =
    let items = given (as_array d) _ as' e in
    subst (λ (d : Data). HoldsTheSame d (array (items_of (map attribute_value as')))) (sym (is_array d items.0 items.1))
    (same_items attribute_value items.0 as' (all_alone (λ d a. HoldsTheSame d (attribute_value a)) attribute_meant attribute_alone items.0 as' items.2))

listed : (g : Option Data) (as' : List OwnedAttribute) → if_attributes g ≡ Some as' → IsListed g as'
listed None as' e = inl (refl, sym (same_some [] as' e))
listed (Some d) as' e = inr (refl, (d, refl, array_alone d as' e))

-- ---- starts

-- the members of the start of an element without attributes
abbrev start_members : OwnedName → Namespace → Members
start_members n s = with_optional_text (codes "default") s.default (with_name (codes "element") n no_members)

start_len : (l : List ℕ) (u p d : Option (List ℕ)) → members_len (start_members (record { local_name = l; namespace = u; prefix = p }) (record { default = d })) ≡ 1 + told u + told p + told d
start_len l None None None = refl
start_len l None None (Some d) = refl
start_len l None (Some p) None = refl
start_len l None (Some p) (Some d) = refl
start_len l (Some u) None None = refl
start_len l (Some u) None (Some d) = refl
start_len l (Some u) (Some p) None = refl
start_len l (Some u) (Some p) (Some d) = refl

list_len : (l : List ℕ) (u p d : Option (List ℕ)) (w : Data) → members_len (put (codes "attributes") w (start_members (record { local_name = l; namespace = u; prefix = p }) (record { default = d }))) ≡ 1 + told u + told p + told d + 1
list_len l None None None w = refl
list_len l None None (Some d) w = refl
list_len l None (Some p) None w = refl
list_len l None (Some p) (Some d) w = refl
list_len l (Some u) None None w = refl
list_len l (Some u) None (Some d) w = refl
list_len l (Some u) (Some p) None w = refl
list_len l (Some u) (Some p) (Some d) w = refl

-- members that are those of a start but for the list of attributes
record Starts (ds : Members) (n : OwnedName) (s : Namespace) (as' : List OwnedAttribute) : Type 0 where
  many : members_len ds ≡ name_told n + told s.default + how_many (get_member (codes "attributes") ds)
  held : HasMembers ds (start_members n s)
  attributes : IsListed (get_member (codes "attributes") ds) as'

-- with the list
listed_held : (ds : Members) (n : OwnedName) (s : Namespace) (as' : List OwnedAttribute) (w : Data) → Starts ds n s as' → how_many (get_member (codes "attributes") ds) ≡ 1 → Has ds (codes "attributes") w
    → HoldsTheSame (object ds) (object (put (codes "attributes") w (start_members n s)))
listed_held ds n s as' w is one found =
    (is.many ∙ ap (λ (k : ℕ). name_told n + told s.default + k) one ∙ sym (list_len n.local_name n.namespace n.prefix s.default w), with_put ds (codes "attributes") w _ found is.held)

start_writes : (ds : Members) (n : OwnedName) (s : Namespace) (as' : List OwnedAttribute) → Starts ds n s as' → WritesEvent (object ds) (StartElement n as' s)
start_writes ds n s [] is = by is.attributes
  where
    by : IsListed (get_member (codes "attributes") ds) [] → WritesEvent (object ds) (StartElement n [] s)
    by (inl none) = inl (is.many ∙ ap (λ (g : Option Data). name_told n + told s.default + how_many g) none.0 ∙ omega (arith, start_len n.local_name n.namespace n.prefix s.default), is.held)
    by (inr some) = inr (listed_held ds n s [] (array no_items) is some.0 some.1)
start_writes ds n s (a ∷ as') is = by is.attributes
  where
    by : IsListed (get_member (codes "attributes") ds) (a ∷ as') → WritesEvent (object ds) (StartElement n (a ∷ as') s)
    by (inl none) = absurd cc
    by (inr some) = listed_held ds n s (a ∷ as') (array (items_of (map attribute_value (a ∷ as')))) is some.0 some.1

start_alone : (ds : Members) (e : XmlEvent) → start_event (object ds) ≡ Some e → WritesEvent (object ds) e
start_alone ds e h =
    let t = tested (members_len ds == members_of_start (object ds)) (start_parts (object ds)) e h in
    let name = given (name_at (codes "element") (object ds)) _ e t.1 in
    let default = given (if_text (get_member (codes "default") ds)) _ e name.2 in
    let attributes = given (if_attributes (get_member (codes "attributes") ds)) _ e default.2 in
    let is = name_read (codes "element") ds name.0 name.1 in
    let many = count (members_len ds) (members_of_start (object ds)) t.0 in
    let named_many = name_counted (codes "element") ds name.0 is in
    let default_many = told_is (get_member (codes "default") ds) default.0 default.1 in
    subst (λ (e : XmlEvent). WritesEvent (object ds) e) (same_some (StartElement name.0 attributes.0 (record { default = default.0 })) e attributes.2)
    (start_writes ds name.0 (record { default = default.0 }) attributes.0 (record {
      many = omega (arith, many, named_many, default_many);
      held = with_text_held (codes "default") ds default.0 _ default.1 (named_held (codes "element") ds name.0 no_members is tt);
      attributes = listed (get_member (codes "attributes") ds) attributes.0 attributes.1;
    }))

-- ---- the other events

end_len : (l : List ℕ) (u p : Option (List ℕ)) → members_len (with_name (codes "end") (record { local_name = l; namespace = u; prefix = p }) no_members) ≡ 1 + told u + told p
end_len l None None = refl
end_len l None (Some p) = refl
end_len l (Some u) None = refl
end_len l (Some u) (Some p) = refl

end_alone : (ds : Members) (e : XmlEvent) → end_event (object ds) ≡ Some e → WritesEvent (object ds) e
end_alone ds e h =
    let t = tested (members_len ds == members_of_name (object ds)) _ e h in
    let name = made (λ n. EndElement n) (name_at (codes "end") (object ds)) e t.1 in
    let is = name_read (codes "end") ds name.0 name.1 in
    let many = count (members_len ds) (members_of_name (object ds)) t.0 ∙ name_counted (codes "end") ds name.0 is in
    subst (λ (e : XmlEvent). WritesEvent (object ds) e) name.2
    (many ∙ sym (end_len name.0.local_name name.0.namespace name.0.prefix), named_held (codes "end") ds name.0 no_members is tt)

-- one text and no other member
one_held : (k : List ℕ) (ds : Members) (s : List ℕ) → (members_len ds == 1) ≡ true → text_at k (object ds) ≡ Some s → HoldsTheSame (object ds) (only_text k s)
one_held k ds s one e = (count (members_len ds) 1 one, (text_held k ds s e, tt))

text_alone : (k : List ℕ) (event : List ℕ → XmlEvent) → ((d : Data) (s : List ℕ) → HoldsTheSame d (only_text k s) → WritesEvent d (event s))
    → (ds : Members) (e : XmlEvent) → text_event k event (object ds) ≡ Some e → WritesEvent (object ds) e
text_alone k event writes ds e h =
    let t = tested (members_len ds == 1) _ e h in
    let text = made event (text_at k (object ds)) e t.1 in
    subst (λ (e : XmlEvent). WritesEvent (object ds) e) text.2 (writes (object ds) text.0 (one_held k ds text.0 t.0 text.1))

mark_writes : (d : Data) (s : List ℕ) (e : XmlEvent) → mark_of s ≡ Some e → HoldsTheSame d (only_text (codes "document") s) → WritesEvent d e
mark_writes d s e = by (bytes_eq s (codes "start")) (bytes_eq s (codes "end")) refl refl
  where
    as_text : (w : List ℕ) → bytes_eq s w ≡ true → HoldsTheSame d (only_text (codes "document") s) → HoldsTheSame d (only_text (codes "document") w)
    as_text w is = subst (λ (s : List ℕ). HoldsTheSame d (only_text (codes "document") s)) ((bytes_eq-Decides s w).0 is)

    by : (b c : Bool) → bytes_eq s (codes "start") ≡ b → bytes_eq s (codes "end") ≡ c → (if b then Some StartDocument else (if c then Some EndDocument else None)) ≡ Some e
        → HoldsTheSame d (only_text (codes "document") s) → WritesEvent d e
    by true c p q h held = subst (λ (e : XmlEvent). WritesEvent d e) (same_some StartDocument e h) (as_text (codes "start") p held)
    by false true p q h held = subst (λ (e : XmlEvent). WritesEvent d e) (same_some EndDocument e h) (as_text (codes "end") q held)
    by false false p q h held = absurd cc

mark_alone : (ds : Members) (e : XmlEvent) → mark_event (object ds) ≡ Some e → WritesEvent (object ds) e
mark_alone ds e h =
    let t = tested (members_len ds == 1) _ e h in
    let text = given (text_at (codes "document") (object ds)) mark_of e t.1 in
    mark_writes (object ds) text.0 e text.2 (one_held (codes "document") ds text.0 t.0 text.1)

-- ---- events

either : {A P : Type 0} (b : Bool) (o p : Option A) (x : A) → (o ≡ Some x → P) → (p ≡ Some x → P) → (if b then o else p) ≡ Some x → P
either true o p x first second e = first e
either false o p x first second e = second e

event_held : (ds : Members) (e : XmlEvent) → event_of (object ds) ≡ Some e → WritesEvent (object ds) e
event_held ds e =
    either (has (codes "document") (object ds)) _ _ e (mark_alone ds e)
    (either (has (codes "element") (object ds)) _ _ e (start_alone ds e)
    (either (has (codes "end") (object ds)) _ _ e (end_alone ds e)
    (either (has (codes "text") (object ds)) _ _ e (text_alone (codes "text") (λ s. Characters s) (λ d s h. h) ds e)
    (either (has (codes "cdata") (object ds)) _ _ e (text_alone (codes "cdata") (λ s. CData s) (λ d s h. h) ds e)
    (λ (h : None ≡ Some e). absurd cc)))))

event_alone : (d : Data) (e : XmlEvent) → event_of d ≡ Some e → WritesEvent d e
event_alone (object ds) e h = event_held ds e h
event_alone null e h = absurd cc
event_alone (boolean b) e h = absurd cc
event_alone (number n) e h = absurd cc
event_alone (string s) e h = absurd cc
event_alone (array ds) e h = absurd cc

pub events_alone : EventsAlone
events_alone d es h =
    let items = given (as_array d) _ es h in
    (items.0, is_array d items.0 items.1, all_alone WritesEvent event_of event_alone items.0 es items.2)
