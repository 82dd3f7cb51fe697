-- Which trees are of a kind.
use Rattle.std.specs.Prelude.{◌≡◌, ℕ, ◌<◌, ◌^◌, List, [], ◌∷◌, Bool, true, false, ◌⊎◌}
use Rattle.std.specs.Str.{IsUtf8}
use Rattle.cdx_models.specs.Versions.{is_label}
use Rattle.cdx_models.specs.Trees.{Name, license, expression, spdx_id, license_name, classification, service_data, tools_object, signer, signers, chain, bill, Tree, absent, text, number, boolean, items, fields, Trees, none, more}
use Rattle.cdx_schema.specs.Kinds.{Kind, a_text, a_boolean, a_number, a_version, a_list, a_record, a_reference, a_license_choice, a_license_identifier, a_tools, a_data, an_entry, a_signature, a_bill, Need, optional, required, required_first, else_empty, Row}
use Rattle.cdx_models.specs.Entries.{is_flow}
use Rattle.cdx_schema.specs.Held.{held_kind}
use Rattle.cdx_schema.specs.Table.{rows}

abbrev pub Never : Type 0
Never = true ≡ false

-- Q is what is asked of a text.
abbrev pub IsTextOf : (List ℕ → Type 0) → Kind → List ℕ → Type 0
IsTextOf Q a_text s = Q s
IsTextOf Q a_reference s = Q s
IsTextOf Q a_version s = is_label s ≡ true
IsTextOf Q _ s = Never

abbrev pub IsNumberOf : Kind → ℕ → Type 0
IsNumberOf a_number n = n < 2 ^ 32
IsNumberOf _ n = Never

abbrev pub IsBooleanOf : Kind → Type 0
IsBooleanOf a_boolean = Unit {0}
IsBooleanOf _ = Never

abbrev pub IsListKind : Kind → Type 0
IsListKind (a_list l) = Unit {0}
IsListKind a_tools = Unit {0}
IsListKind a_data = Unit {0}
IsListKind _ = Never

abbrev pub IsRecordOf : Kind → Name → Trees → Type 0
IsRecordOf (a_record m) n ts = n ≡ m
IsRecordOf a_license_choice n ts = (n ≡ license) ⊎ (n ≡ expression)
IsRecordOf a_license_identifier n ts = (n ≡ spdx_id) ⊎ (n ≡ license_name)
IsRecordOf a_tools n ts = n ≡ tools_object
IsRecordOf an_entry n ts = (n ≡ classification) ⊎ ((n ≡ service_data) × (is_flow n ts ≡ true))
IsRecordOf a_signature n ts = (n ≡ signers) ⊎ ((n ≡ chain) ⊎ (n ≡ signer))
IsRecordOf a_bill n ts = n ≡ bill
IsRecordOf _ n ts = Never

-- Whether a field may be absent.
abbrev pub may_lack : Need → Bool
may_lack optional = true
may_lack required = false
may_lack required_first = true
may_lack else_empty = false

-- A tree of a kind, each text of which is as Q asks.
abbrev mutual
  pub IsOfAll : (List ℕ → Type 0) → Tree → Kind → Type 0
  IsOfAll Q absent k = Never
  IsOfAll Q (text s) k = IsTextOf Q k s
  IsOfAll Q (number n) k = IsNumberOf k n
  IsOfAll Q (boolean b) k = IsBooleanOf k
  IsOfAll Q (items ts) k = IsListKind k × AreOfAll Q ts (held_kind k)
  IsOfAll Q (fields n ts) k = IsRecordOf k n ts × AreFieldsAll Q ts (rows n)

  pub AreOfAll : (List ℕ → Type 0) → Trees → Kind → Type 0
  AreOfAll Q none k = Unit {0}
  AreOfAll Q (more t ts) k = IsOfAll Q t k × AreOfAll Q ts k

  -- A field for each row: of the row's kind, or absent.
  pub AreFieldsAll : (List ℕ → Type 0) → Trees → List Row → Type 0
  AreFieldsAll Q none [] = Unit {0}
  AreFieldsAll Q none (r ∷ rs) = Never
  AreFieldsAll Q (more t ts) [] = Never
  AreFieldsAll Q (more t ts) (r ∷ rs) = (((t ≡ absent) × (may_lack r.need ≡ true)) ⊎ IsOfAll Q t r.kind) × AreFieldsAll Q ts rs

-- A tree of a kind. Texts are in UTF-8.
abbrev pub IsOf : Tree → Kind → Type 0
IsOf t k = IsOfAll IsUtf8 t k

-- Nothing is asked of a text.
abbrev pub AnyText : List ℕ → Type 0
AnyText s = Unit {0}

-- A tree with the shape of a kind, whatever its texts are.
abbrev pub HasShape : Tree → Kind → Type 0
HasShape t k = IsOfAll AnyText t k

abbrev pub HaveShape : Trees → Kind → Type 0
HaveShape ts k = AreOfAll AnyText ts k

abbrev pub FieldsHaveShape : Trees → List Row → Type 0
FieldsHaveShape ts rs = AreFieldsAll AnyText ts rs
