-- What a JSON value denotes, or its first fault.
use Rattle.std.specs.Prelude.{ℕ, suc, ◌^◌, List, [], ◌∷◌, Bool, true, false, nat_lt, if◌then◌else◌, Option, Some, None, Result, Ok, Err, codes}
use Rattle.std.specs.Str.{bytes_eq}
use Rattle.std.specs.Ordering.{nat_cmp, match_ordering}
use Rattle.std.specs.Cmp.Lexicographic.{slice_cmp}
use Rattle.serde_json.specs.Data.{Num, unsigned, negative, float, Data, Items, no_items, item, Members, no_members}
use Rattle.serde_json.specs.Data as json
use Rattle.cdx_models.specs.declared.bom.SpecVersion.{SpecVersion}
use Rattle.cdx_models.specs.declared.bom.SpecVersion.TheVariants.{V1_3, V1_4, V1_5}
use Rattle.cdx_models.specs.Versions.{knows, is_first, is_label}
use Rattle.cdx_models.specs.Trees.{Name, signer, signers, chain, spdx_id, license_name, license, expression, classification, service_data, tools_object, bill, Tree, absent, text, number, boolean, items, fields, Trees, none, more, one}
use Rattle.cdx_schema.specs.Kinds.{tool_list, signer_list, chain_list, Kind, a_text, a_boolean, a_number, a_version, a_list, a_record, a_reference, a_license_choice, a_license_identifier, a_tools, a_data, an_entry, a_signature, a_bill, Member, member, merged, Need, optional, required, required_first, else_empty, Row}
use Rattle.cdx_schema.specs.Table.{rows, list}
use Rattle.cdx_schema.specs.Results.{◌>>=◌}
use Rattle.cdx_models.specs.declared.errors.Step.{Step}
use Rattle.cdx_schema.specs.Faults.{to_member, to_item, is_float, missing, wrong_kind, out_of_range, bad_format, bad_spec_version, too_deep, JsonFault, under, here}
use Rattle.cdx_schema.specs.Depth.{Depth, top, is_too_deep, inside}
use Rattle.cdx_models.specs.Entries.{entry_of}

-- How a part of a value is read: in a version, as a kind, at a depth.
abbrev pub ValueReading : Type 0
ValueReading = SpecVersion → Kind → Depth → Result Tree JsonFault

-- What an object has under a name.
pub data Found : Type 0 where
  nothing : Found
  a_null : Found
  found : ValueReading → Found

-- An object is seen as what it has under each name.
abbrev pub Object : Type 0
Object = List ℕ → Found

-- ---- numbers and texts

abbrev pub number_read : Num → Result Tree JsonFault
number_read (unsigned n) = if nat_lt n (2 ^ 32) then Ok (number n) else here out_of_range
number_read (negative z) = here out_of_range
number_read (float x) = here wrong_kind

abbrev pub version_read : List ℕ → Result Tree JsonFault
version_read s = if is_label s then Ok (text s) else here bad_spec_version

-- ---- the rows of an object

-- Whether a field must be there.
abbrev pub is_required : Need → SpecVersion → Bool
is_required optional v = false
is_required required v = true
is_required required_first v = is_first v
is_required else_empty v = false

abbrev pub when_nothing : Need → SpecVersion → Result Tree JsonFault
when_nothing optional v = Ok absent
when_nothing required v = here missing
when_nothing required_first v = if is_first v then here missing else Ok absent
when_nothing else_empty v = Ok (items none)

abbrev pub when_null : Need → SpecVersion → Result Tree JsonFault
when_null optional v = Ok absent
when_null required v = here wrong_kind
when_null required_first v = if is_first v then here wrong_kind else Ok absent
when_null else_empty v = here wrong_kind

abbrev pub found_read : Found → Row → SpecVersion → Depth → Result Tree JsonFault
found_read nothing r v d = when_nothing r.need v
found_read a_null r v d = when_null r.need v
found_read (found read) r v d = read v r.kind d

abbrev pub named_read : List ℕ → Object → Row → SpecVersion → Depth → Result Tree JsonFault
named_read name o r v d = under (to_member name) (found_read (o name) r v d)

-- A member that old documents spell otherwise is read under its name where that is there and not null, else under the
-- old name.
abbrev pub first_or_old : Found → List ℕ → List ℕ → List ℕ
first_or_old nothing name old = old
first_or_old a_null name old = old
first_or_old (found read) name old = name

abbrev pub member_name : Object → List ℕ → Option (List ℕ) → List ℕ
member_name o name None = name
member_name o name (Some old) = first_or_old (o name) name old

-- A kind whose members stand in its record's own object is read by `own`.
abbrev pub member_read : Member → Object → (Kind → Result Tree JsonFault) → Row → SpecVersion → Depth → Result Tree JsonFault
member_read (member name) o own r v d = named_read (member_name o name r.old_name) o r v d
member_read merged o own r v d = own r.kind

abbrev pub row_read : Object → (Kind → Result Tree JsonFault) → Row → SpecVersion → Depth → Result Tree JsonFault
row_read o own r v d = if knows r.since v then member_read r.json o own r v d else Ok absent

-- The rows in their order, each to its depth.
unfoldable pub rows_read : Object → (Kind → Result Tree JsonFault) → List Row → SpecVersion → Depth → Result Trees JsonFault
rows_read o own [] v d = Ok none
rows_read o own (r ∷ rs) v d = do
  t ← row_read o own r v d
  ts ← rows_read o own rs v d
  Ok (more t ts)

abbrev pub no_own : Kind → Result Tree JsonFault
no_own k = here wrong_kind

abbrev pub under_name : Name → Result Trees JsonFault → Result Tree JsonFault
under_name n r = do
  ts ← r
  Ok (fields n ts)

-- A license's `id`, or else its `name`.
abbrev pub name_read : Found → SpecVersion → Depth → Result Tree JsonFault
name_read nothing v d = under (to_member (codes "id")) (here missing)
name_read a_null v d = under (to_member (codes "name")) (here wrong_kind)
name_read (found read) v d = do
  t ← under (to_member (codes "name")) (read v a_text d)
  Ok (fields license_name (one t))

abbrev pub id_read : Found → Object → SpecVersion → Depth → Result Tree JsonFault
id_read nothing o v d = name_read (o (codes "name")) v d
id_read a_null o v d = under (to_member (codes "id")) (here wrong_kind)
id_read (found read) o v d = do
  t ← under (to_member (codes "id")) (read v a_text d)
  Ok (fields spdx_id (one t))

abbrev pub identifier_read : Object → SpecVersion → Depth → Result Tree JsonFault
identifier_read o v d = id_read (o (codes "id")) o v d

-- the kinds whose members stand in their record's own object
abbrev pub own_read : Object → SpecVersion → Depth → Kind → Result Tree JsonFault
own_read o v d a_license_identifier = identifier_read o v d
own_read o v d (a_record n) = under_name n (rows_read o no_own (rows n) v d)
own_read o v d k = here wrong_kind

abbrev pub record_denoted : Name → Object → SpecVersion → Depth → Result Tree JsonFault
record_denoted n o v d = under_name n (rows_read o (own_read o v d) (rows n) v d)

-- ---- the other objects

-- A signature: `signers` where it is there and not null, else `chain`, else a single signer.
abbrev pub chain_read : Found → Object → SpecVersion → Depth → Result Tree JsonFault
chain_read (found read) o v d = do
  t ← under (to_member (codes "chain")) (read v (a_list chain_list) d)
  Ok (fields chain (one t))
chain_read nothing o v d = record_denoted signer o v d
chain_read a_null o v d = record_denoted signer o v d

abbrev pub signature_read : Found → Object → SpecVersion → Depth → Result Tree JsonFault
signature_read (found read) o v d = do
  t ← under (to_member (codes "signers")) (read v (a_list signer_list) d)
  Ok (fields signers (one t))
signature_read nothing o v d = chain_read (o (codes "chain")) o v d
signature_read a_null o v d = chain_read (o (codes "chain")) o v d

-- An object whose only member is `license` is a license, and any other object an expression.
abbrev pub is_lone_license : Members → Bool
is_lone_license no_members = false
is_lone_license (json.member l e no_members) = bytes_eq l (codes "license")
is_lone_license (json.member l e (json.member m f ms)) = false

abbrev pub license_read : Found → SpecVersion → Depth → Result Tree JsonFault
license_read (found read) v d = under (to_member (codes "license")) (read v (a_record license) d)
license_read nothing v d = here missing
license_read a_null v d = under (to_member (codes "license")) (here wrong_kind)

abbrev pub choice_read : Bool → Object → SpecVersion → Depth → Result Tree JsonFault
choice_read true o v d = license_read (o (codes "license")) v d
choice_read false o v d = record_denoted expression o v d

-- Only from 1.5 on tools may be an object.
abbrev pub tools_read : SpecVersion → Object → Depth → Result Tree JsonFault
tools_read V1_3 o d = here wrong_kind
tools_read V1_4 o d = here wrong_kind
tools_read V1_5 o d = record_denoted tools_object o V1_5 d

-- Only from 1.5 on an entry may be a flow.
abbrev pub entry_read : SpecVersion → Object → Depth → Result Tree JsonFault
entry_read V1_3 o d = record_denoted classification o V1_3 d
entry_read V1_4 o d = record_denoted classification o V1_4 d
entry_read V1_5 o d = do
  t ← record_denoted service_data o V1_5 d
  Ok (entry_of t)

-- `bomFormat` is read before the rows.
abbrev pub format_read : Found → SpecVersion → Depth → Result Tree JsonFault
format_read nothing v d = here missing
format_read a_null v d = here wrong_kind
format_read (found read) v d = do
  t ← read v a_text d
  if is_format t then Ok t else here bad_format
  where
    is_format : Tree → Bool
    is_format (text s) = bytes_eq s (codes "CycloneDX")
    is_format _ = false

abbrev pub bill_read : Object → SpecVersion → Depth → Result Tree JsonFault
bill_read o v d = do
  t ← under (to_member (codes "bomFormat")) (format_read (o (codes "bomFormat")) v d)
  record_denoted bill o v d

abbrev pub object_read : Members → Object → SpecVersion → Kind → Depth → Result Tree JsonFault
object_read ms o v a_text d = here wrong_kind
object_read ms o v a_boolean d = here wrong_kind
object_read ms o v a_number d = here wrong_kind
object_read ms o v a_version d = here wrong_kind
object_read ms o v (a_list l) d = here wrong_kind
object_read ms o v (a_record n) d = record_denoted n o v (inside n d)
object_read ms o v a_reference d = here wrong_kind
object_read ms o v a_license_choice d = choice_read (is_lone_license ms) o v d
object_read ms o v a_license_identifier d = identifier_read o v d
object_read ms o v a_tools d = tools_read v o d
object_read ms o v a_data d = here wrong_kind
object_read ms o v an_entry d = entry_read v o d
object_read ms o v a_signature d = signature_read (o (codes "signers")) o v d
object_read ms o v a_bill d = bill_read o v d

-- ---- values

abbrev pub text_read : List ℕ → Kind → Result Tree JsonFault
text_read s a_text = Ok (text s)
text_read s a_reference = Ok (text s)
text_read s a_version = version_read s
text_read s _ = here wrong_kind

abbrev pub boolean_read : Bool → Kind → Result Tree JsonFault
boolean_read b a_boolean = Ok (boolean b)
boolean_read b _ = here wrong_kind

abbrev pub integer_read : Num → Kind → Result Tree JsonFault
integer_read n a_number = number_read n
integer_read n _ = here wrong_kind

-- The kind of the items where a kind is read from an array.
abbrev pub item_kind : Kind → SpecVersion → Option Kind
item_kind (a_list l) v = Some (list l).kind
item_kind a_tools v = Some (list tool_list).kind
item_kind a_data v = Some an_entry
item_kind a_signature v = Some (a_record signer)
item_kind k v = None

-- What the items are together.
abbrev pub gathered : Kind → Trees → Tree
gathered a_signature ts = fields signers (one (items ts))
gathered k ts = items ts

abbrev pub array_read : Option Kind → (Kind → Result Trees JsonFault) → Kind → Result Tree JsonFault
array_read None read k = here wrong_kind
array_read (Some i) read k = do
  ts ← read i
  Ok (gathered k ts)

-- A component or a service that stands too deep is refused whatever it holds.
abbrev pub at_depth : Kind → Depth → Result Tree JsonFault → Result Tree JsonFault
at_depth k d r = if is_too_deep k d then here too_deep else r

abbrev pub as_found : Data → ValueReading → Found
as_found json.null read = a_null
as_found (json.boolean b) read = found read
as_found (json.number n) read = found read
as_found (json.string s) read = found read
as_found (json.array xs) read = found read
as_found (json.object ms) read = found read

unfoldable mutual
  pub jread : Data → ValueReading
  jread json.null v k d = at_depth k d (here wrong_kind)
  jread (json.boolean b) v k d = at_depth k d (boolean_read b k)
  jread (json.number n) v k d = at_depth k d (integer_read n k)
  jread (json.string s) v k d = at_depth k d (text_read s k)
  jread (json.array xs) v k d = at_depth k d (array_read (item_kind k v) (λ i. array_items_read xs v i d 0) k)
  jread (json.object ms) v k d = at_depth k d (object_read ms (seen ms) v k d)

  -- the items from the n-th on
  pub array_items_read : Items → SpecVersion → Kind → Depth → ℕ → Result Trees JsonFault
  array_items_read no_items v k d n = Ok none
  array_items_read (item x xs) v k d n = do
    t ← under (to_item n) (jread x v k d)
    ts ← array_items_read xs v k d (suc n)
    Ok (more t ts)

  pub seen : Members → Object
  seen no_members name = nothing
  seen (json.member l x ms) name = match_ordering (slice_cmp nat_cmp name l) (seen ms name) (as_found x (jread x)) (seen ms name)

-- ---- floats

-- The path of the first float of a value.
abbrev pub or_else : {A : Type 0} → Option A → Option A → Option A
or_else (Some x) o = Some x
or_else None o = o

abbrev pub behind : Step → Option (List Step) → Option (List Step)
behind s None = None
behind s (Some p) = Some (s ∷ p)

abbrev pub float_in : Num → Option (List Step)
float_in (unsigned n) = None
float_in (negative z) = None
float_in (float x) = Some []

unfoldable mutual
  pub first_float : Data → Option (List Step)
  first_float json.null = None
  first_float (json.boolean b) = None
  first_float (json.number n) = float_in n
  first_float (json.string s) = None
  first_float (json.array xs) = float_of_items 0 xs
  first_float (json.object ms) = float_of_members ms

  pub float_of_items : ℕ → Items → Option (List Step)
  float_of_items n no_items = None
  float_of_items n (item x xs) = or_else (behind (to_item n) (first_float x)) (float_of_items (suc n) xs)

  pub float_of_members : Members → Option (List Step)
  float_of_members no_members = None
  float_of_members (json.member l x ms) = or_else (behind (to_member l) (first_float x)) (float_of_members ms)

-- What a JSON document denotes in a version, or its first fault: a float anywhere comes first.
abbrev pub json_denotes : Data → SpecVersion → Result Tree JsonFault
json_denotes x v = float_or (first_float x) (jread x v a_bill top)
  where
    float_or : Option (List Step) → Result Tree JsonFault → Result Tree JsonFault
    float_or None r = r
    float_or (Some p) r = Err (record { path = p; cause = is_float })
