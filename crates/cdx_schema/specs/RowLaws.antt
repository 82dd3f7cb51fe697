-- Laws of rows, as statements: members that no row has, rows in two groups, and one node more.
use Rattle.std.specs.Prelude.{◌≡◌, ℕ, suc, ◌+◌, List, [], ◌∷◌, ◌++◌, Bool, false, ◌||◌, if◌then◌else◌, Option, Some, None, Result, Ok, Err, codes}
use Rattle.std.specs.Str.{bytes_eq}
use Rattle.serde_json.specs.Data.{Data, Members, no_members, put}
use Rattle.serde_json.specs.Data as json
use Rattle.serde_json.specs.Find.{get_member}
use Rattle.cdx_models.specs.declared.bom.SpecVersion.{SpecVersion}
use Rattle.cdx_models.specs.declared.bom.SpecVersion.TheVariants.{V1_3, V1_4, V1_5}
use Rattle.cdx_models.specs.Versions.{knows}
use Rattle.cdx_models.specs.Trees.{Name, classification, service_data, tools_object, bill, fields, Trees, none, more, one, absent, ◌⧺◌, field}
use Rattle.cdx_models.specs.declared.errors.XmlReadError.{XmlReadError}
use Rattle.cdx_events.specs.declared.name.OwnedName.{OwnedName}
use Rattle.cdx_events.specs.declared.name.OwnedAttribute.{OwnedAttribute}
use Rattle.cdx_events.specs.declared.name.Namespace.{Namespace}
use Rattle.cdx_events.specs.Nodes.{Node, element, Nodes, no_nodes, node}
use Rattle.cdx_schema.specs.Nodes.{places_of, ◌⊕◌}
use Rattle.cdx_schema.specs.Kinds.{Lists, Kind, a_list, a_record, a_license_identifier, a_tools, an_entry, a_bill, Member, member, merged, Row}
use Rattle.cdx_schema.specs.Table.{rows}
use Rattle.cdx_schema.specs.Results.{◌>>=◌}
use Rattle.cdx_schema.specs.Faults.{JsonFault, here, wrong_kind, too_deep, nested}
use Rattle.cdx_schema.specs.Depth.{Depth, inside, name_too_deep}
use Rattle.cdx_schema.specs.Membership.{Never}
use Rattle.cdx_schema.specs.JsonReading.{jread, seen, rows_read, own_read, or_else}
use Rattle.cdx_schema.specs.JsonSpelling.{jspell, members_spelled, heading}
use Rattle.cdx_schema.specs.Keeping.{keep, rows_kept}
use Rattle.cdx_schema.specs.XmlReading.{Element, record_plan, plan_of_list, list_of, node_read, content_from, no_content, record_so_far, ended, end_of, xread, nodes_read}
use Rattle.cdx_schema.specs.XmlSpelling.{spelled, plain_element, ordered, attributes_in, fields_nodes}

-- ---- members that no row has

abbrev pub is_among : List ℕ → List (List ℕ) → Bool
is_among q [] = false
is_among q (n ∷ ns) = bytes_eq q n || is_among q ns

abbrev pub old_names : Option (List ℕ) → List (List ℕ)
old_names None = []
old_names (Some old) = old ∷ []

-- The names of the members in which a row that the version knows stands: its own and its old one, or those of the record
-- that is merged.
abbrev pub row_names : SpecVersion → Row → List (List ℕ) → List (List ℕ)
row_names v r merged_in = if knows r.since v then by r.json else []
  where
    by : Member → List (List ℕ)
    by (member name) = name ∷ old_names r.old_name
    by merged = merged_in

-- the names of rows of which none is merged
abbrev pub plain_names : SpecVersion → List Row → List (List ℕ)
plain_names v [] = []
plain_names v (r ∷ rs) = row_names v r [] ++ plain_names v rs

-- A license's id or name, and the flow and the classification of a service data, are merged.
abbrev pub merged_names : SpecVersion → Kind → List (List ℕ)
merged_names v a_license_identifier = codes "id" ∷ codes "name" ∷ []
merged_names v (a_record n) = plain_names v (rows n)
merged_names v _ = []

abbrev pub known_names : SpecVersion → List Row → List (List ℕ)
known_names v [] = []
known_names v (r ∷ rs) = row_names v r (merged_names v r.kind) ++ known_names v rs

-- No row of the record kind that the version knows has the name; and a bill's `bomFormat` has it neither.
abbrev pub IsUnknown : List ℕ → Kind → SpecVersion → Type 0
IsUnknown q (a_record n) v = is_among q (known_names v (rows n)) ≡ false
IsUnknown q a_bill v = is_among q (codes "bomFormat" ∷ known_names v (rows bill)) ≡ false
IsUnknown q a_tools v = is_among q (known_names v (rows tools_object)) ≡ false
IsUnknown q an_entry V1_3 = is_among q (known_names V1_3 (rows classification)) ≡ false
IsUnknown q an_entry V1_4 = is_among q (known_names V1_4 (rows classification)) ≡ false
IsUnknown q an_entry V1_5 = is_among q (known_names V1_5 (rows service_data)) ≡ false
IsUnknown q _ v = Never

-- Two objects have the same members, save one name's.
abbrev pub AreAlikeBut : List ℕ → Members → Members → Type 0
AreAlikeBut q ms ns = (n : List ℕ) → bytes_eq q n ≡ false → get_member n ms ≡ get_member n ns

-- With a member that no row has an object is read as without it.
abbrev pub PassesMembers : Type 0
PassesMembers = (q : List ℕ) (ms ns : Members) (k : Kind) (v : SpecVersion) (d : Depth) → IsUnknown q k v → AreAlikeBut q ms ns → jread (json.object ms) v k d ≡ jread (json.object ns) v k d

abbrev pub PassesPut : Type 0
PassesPut = (q : List ℕ) (x : Data) (ms : Members) (k : Kind) (v : SpecVersion) (d : Depth) → IsUnknown q k v → jread (json.object (put q x ms)) v k d ≡ jread (json.object ms) v k d

-- ---- rows in groups

-- There is a field for each row.
abbrev pub AreFor : Trees → List Row → Type 0
AreFor none [] = Unit {0}
AreFor (more t ts) (r ∷ rs) = AreFor ts rs
AreFor _ _ = Never

-- What is read of a value as a record with these rows alone: its fields, or the first fault.
abbrev pub fields_read : Name → List Row → Data → SpecVersion → Depth → Result Trees JsonFault
fields_read n rs x v d = if name_too_deep n d then here too_deep else of_value x
  where
    of_value : Data → Result Trees JsonFault
    of_value (json.object ms) = rows_read (seen ms) (own_read (seen ms) v (inside n d)) rs v (inside n d)
    of_value _ = here wrong_kind

-- A record is read as one with all its rows.
abbrev pub ReadsRows : Type 0
ReadsRows = (n : Name) (x : Data) (v : SpecVersion) (d : Depth) → jread x v (a_record n) d ≡ (fields_read n (rows n) x v d >>= λ ts. Ok (fields n ts))

-- With the rows of a front and a back: the front's fault, else the back's, else the fields of both.
abbrev pub ReadsGroups : Type 0
ReadsGroups = (n : Name) (front back : List Row) (x : Data) (v : SpecVersion) (d : Depth)
    → fields_read n (front ++ back) x v d ≡ (fields_read n front x v d >>= λ ts. fields_read n back x v d >>= λ us. Ok (ts ⧺ us))

abbrev pub SpellsRows : Type 0
SpellsRows = (n : Name) (ts : Trees) (w : SpecVersion) → jspell (fields n ts) w (a_record n) ≡ json.object (members_spelled ts w (rows n) (heading n))

-- The members of the back are set among those of the front.
abbrev pub SpellsGroups : Type 0
SpellsGroups = (front back : List Row) (ts us : Trees) (w : SpecVersion) (ms : Members) → AreFor ts front
    → members_spelled (ts ⧺ us) w (front ++ back) ms ≡ members_spelled us w back (members_spelled ts w front ms)

-- The members of rows that are set in an object: theirs, and the others that the object had.
abbrev pub SetsMembers : Type 0
SetsMembers = (rs : List Row) (ts : Trees) (w : SpecVersion) (ms : Members) (q : List ℕ)
    → get_member q (members_spelled ts w rs ms) ≡ or_else (get_member q (members_spelled ts w rs no_members)) (get_member q ms)

abbrev pub WritesRows : Type 0
WritesRows = (n : Name) (ts : Trees) (w : SpecVersion) (tag : List ℕ)
    → spelled (fields n ts) w tag (a_record n) ≡ plain_element tag (ordered n (attributes_in ts (rows n) w)) (fields_nodes ts w (rows n))

-- The attributes of the front are followed by those of the back, and so are the children.
abbrev pub WritesGroups : Type 0
WritesGroups = (front back : List Row) (ts us : Trees) (w : SpecVersion) → AreFor ts front
    → (attributes_in (ts ⧺ us) (front ++ back) w ≡ attributes_in ts front w ++ attributes_in us back w)
    × (fields_nodes (ts ⧺ us) w (front ++ back) ≡ fields_nodes ts w front ⊕ fields_nodes us w back)

abbrev pub KeepsRows : Type 0
KeepsRows = (n : Name) (ts : Trees) (w : SpecVersion) → keep w (fields n ts) (a_record n) ≡ fields n (rows_kept w w ts (rows n))

-- Each part is kept by itself.
abbrev pub KeepsGroups : Type 0
KeepsGroups = (front back : List Row) (ts us : Trees) (w l : SpecVersion) → AreFor ts front
    → rows_kept w l (ts ⧺ us) (front ++ back) ≡ rows_kept w l ts front ⧺ rows_kept w l us back

-- ---- one node more

-- an element at a place, as it is read
abbrev pub element_at : OwnedName → List OwnedAttribute → Namespace → Nodes → ℕ → Element
element_at n as' space xs p = record { name = n.local_name; attributes = as'; namespace = space.default; nodes = xs; start = p; read = λ plan v d ts. nodes_read xs plan n.local_name v d (suc p) ts }

-- What has been read of a list's items before the last step.
abbrev pub list_so_far : Element → Lists → SpecVersion → Depth → Result Trees XmlReadError
list_so_far e l v d = e.read (plan_of_list l) v d (one absent)

-- The last step gives the items.
abbrev pub LastStepGivesItems : Type 0
LastStepGivesItems = (n : OwnedName) (as' : List OwnedAttribute) (space : Namespace) (xs : Nodes) (l : Lists) (v : SpecVersion) (p : ℕ) (d : Depth)
    → xread (element n as' space xs) v (a_list l) p d ≡ (list_so_far (element_at n as' space xs p) l v d >>= λ ts. Ok (list_of (field 0 ts)))

-- With a node more as its last, a list is read up to it as before, and then the node is read by the list's plan.
abbrev pub ListOneMore : Type 0
ListOneMore = (n : OwnedName) (as' : List OwnedAttribute) (space : Namespace) (xs : Nodes) (m : Node) (l : Lists) (v : SpecVersion) (p : ℕ) (d : Depth)
    → list_so_far (element_at n as' space (xs ⊕ node m no_nodes) p) l v d
    ≡ (list_so_far (element_at n as' space xs p) l v d >>= λ ts. node_read m (xread m) (plan_of_list l) n.local_name v d (suc p + places_of xs) ts)

-- What has been read of a record's fields before the last step, the one on missing children.
abbrev pub fields_so_far : Element → Name → SpecVersion → Depth → Result Trees XmlReadError
fields_so_far e n v d = if name_too_deep n d then Err (nested e.start) else record_so_far e n v (inside n d)

abbrev pub ReadsRecord : Type 0
ReadsRecord = (n : OwnedName) (as' : List OwnedAttribute) (space : Namespace) (xs : Nodes) (k : Name) (v : SpecVersion) (p : ℕ) (d : Depth)
    → xread (element n as' space xs) v (a_record k) p d
    ≡ (fields_so_far (element_at n as' space xs p) k v d >>= λ ts. ended (rows k) ts v n.local_name (end_of (element_at n as' space xs p)) >>= λ us. Ok (fields k us))

-- With a node more as its last, a record without content is read up to it as before, and then the node is read by the record's plan.
abbrev pub RecordOneMore : Type 0
RecordOneMore = (n : OwnedName) (as' : List OwnedAttribute) (space : Namespace) (xs : Nodes) (m : Node) (k : Name) (v : SpecVersion) (p : ℕ) (d : Depth) → content_from 0 (rows k) ≡ no_content
    → fields_so_far (element_at n as' space (xs ⊕ node m no_nodes) p) k v d
    ≡ (fields_so_far (element_at n as' space xs p) k v d >>= λ ts. node_read m (xread m) (record_plan k) n.local_name v (inside k d) (suc p + places_of xs) ts)
