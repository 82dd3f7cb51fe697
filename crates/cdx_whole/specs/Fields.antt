-- What a walk over a record tells of its fields.
use Rattle.std.specs.Prelude.{◌≡◌, true, ◌⊎◌, List}
use Rattle.std.specs.Str.{IsUtf8}
use Rattle.cdx_models.specs.Trees.{Tree, absent, Trees}
use Rattle.cdx_schema.specs.Kinds.{Lists, Kind, a_list, Need, optional, Row}
use Rattle.cdx_schema.specs.Table.{list}
use Rattle.cdx_schema.specs.Membership.{may_lack, IsOf, AreOfAll, AreFieldsAll}

-- Trees of a kind. Texts are in UTF-8.
abbrev pub AreOf : Trees → Kind → Type 0
AreOf ts k = AreOfAll IsUtf8 ts k

-- A field of a row with this need and of this kind.
abbrev pub IsField : Tree → Need → Kind → Type 0
IsField t n k = ((t ≡ absent) × (may_lack n ≡ true)) ⊎ IsOf t k

-- A field for each row.
abbrev pub AreFields : Trees → List Row → Type 0
AreFields ts rs = AreFieldsAll IsUtf8 ts rs

-- An optional field for a list, of any sort whose items are of the kind.
abbrev pub IsListField : Tree → Kind → Type 0
IsListField t k = (l : Lists) → (list l).kind ≡ k → IsField t optional (a_list l)
