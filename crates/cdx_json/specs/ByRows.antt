-- The reading of a record, so that each row's reading is one word. It is `record_denoted`.
use Rattle.std.specs.Prelude.{◌≡◌, ℕ, List, [], ◌∷◌, if◌then◌else◌, Result, Ok, codes}
use Rattle.serde_json.specs.Data.{Items, Members}
use Rattle.cdx_models.specs.declared.bom.SpecVersion.{SpecVersion}
use Rattle.cdx_models.specs.declared.bom.SpecVersion.TheVariants.{V1_3, V1_4, V1_5}
use Rattle.cdx_models.specs.Versions.{knows}
use Rattle.cdx_models.specs.Trees.{Name, Tree, absent, items, fields, Trees, none, more}
use Rattle.cdx_schema.specs.Kinds.{Lists, Kind, a_text, a_record, a_reference, a_license_identifier, Member, member, merged, Need, Row}
use Rattle.cdx_schema.specs.Table.{rows, list}
use Rattle.cdx_schema.specs.Depth.{Depth}
use Rattle.cdx_schema.specs.Results.{◌>>=◌}
use Rattle.cdx_schema.specs.Faults.{to_member, wrong_kind, JsonFault, under, here}
use Rattle.cdx_schema.specs.JsonReading.{Object, Found, nothing, a_null, found, member_name, when_nothing, when_null, no_own, identifier_read, signature_read, choice_read, is_lone_license, seen, array_items_read}

-- JSON does not tell a reference from a text.
abbrev pub json_kind : Kind → Kind
json_kind a_reference = a_text
json_kind k = k

-- The list's items are of the kind.
abbrev pub IsJsonListOf : Kind → Lists → Type 0
IsJsonListOf k l = json_kind (list l).kind ≡ json_kind k

abbrev pub read_if_found : Found → Need → Kind → SpecVersion → Depth → Result Tree JsonFault
read_if_found nothing need k v d = when_nothing need v
read_if_found a_null need k v d = when_null need v
read_if_found (found read) need k v d = read v k d

-- a member of an object
unfoldable pub member_of : Object → List ℕ → Need → Kind → SpecVersion → Depth → Result Tree JsonFault
member_of o name need k v d = under (to_member name) (read_if_found (o name) need k v d)

-- what a version reads of a row that is known from `since` on
unfoldable pub late_read : SpecVersion → SpecVersion → Result Tree JsonFault → Result Tree JsonFault
late_read since v r = if knows since v then r else Ok absent

abbrev pub read_since : SpecVersion → SpecVersion → Result Tree JsonFault → Result Tree JsonFault
read_since V1_3 v r = r
read_since V1_4 v r = late_read V1_4 v r
read_since V1_5 v r = late_read V1_5 v r

abbrev pub member_made : Member → Object → (Kind → Result Tree JsonFault) → Row → SpecVersion → Depth → Result Tree JsonFault
member_made (member name) o own r v d = member_of o (member_name o name r.old_name) r.need r.kind v d
member_made merged o own r v d = own r.kind

abbrev pub row_made : Object → (Kind → Result Tree JsonFault) → Row → SpecVersion → Depth → Result Tree JsonFault
row_made o own r v d = read_since r.since v (member_made r.json o own r v d)

-- What `make` makes of the rows that were read one after the other.
unfoldable pub rows_made : {A : Type 0} → Object → (Kind → Result Tree JsonFault) → List Row → SpecVersion → Depth → (Trees → Result A JsonFault) → Result A JsonFault
rows_made o own [] v d make = make none
rows_made o own (r ∷ rs) v d make = row_made o own r v d >>= λ t. rows_made o own rs v d (λ ts. make (more t ts))

-- a record of the name
abbrev pub as_record : Name → Trees → Result Tree JsonFault
as_record n ts = Ok (fields n ts)

unfoldable pub identifier_of : Object → SpecVersion → Depth → Result Tree JsonFault
identifier_of o v d = identifier_read o v d

-- a record whose members stand in another's object
unfoldable pub own_by_rows : Name → Object → SpecVersion → Depth → Result Tree JsonFault
own_by_rows n o v d = rows_made o no_own (rows n) v d (as_record n)

abbrev pub own_made : Object → SpecVersion → Depth → Kind → Result Tree JsonFault
own_made o v d a_license_identifier = identifier_of o v d
own_made o v d (a_record n) = own_by_rows n o v d
own_made o v d k = here wrong_kind

abbrev pub by_rows : Name → Object → SpecVersion → Depth → Result Tree JsonFault
by_rows n o v d = rows_made o (own_made o v d) (rows n) v d (as_record n)

-- ---- the other objects and arrays

unfoldable pub signature_in : Object → SpecVersion → Depth → Result Tree JsonFault
signature_in o v d = signature_read (o (codes "signers")) o v d

unfoldable pub choice_of : Members → SpecVersion → Depth → Result Tree JsonFault
choice_of ms v d = choice_read (is_lone_license ms) (seen ms) v d

-- the items of an array as a list
abbrev pub list_read : Items → SpecVersion → Kind → Depth → Result Tree JsonFault
list_read xs v k d = array_items_read xs v k d 0 >>= λ ts. Ok (items ts)
