-- What XML may leave out.
use Rattle.std.specs.Prelude.{ℕ, zero, suc, Bool, false, codes}
use Rattle.cdx_models.specs.Trees.{Tree, diff, source, entity, evidence, is_absent}
use Rattle.cdx_schema.specs.Kinds.{urls, contacts, a_record, optional, filled_child, Row}
use Rattle.cdx_schema.specs.Table.{row, every}
use Rattle.cdx_schema.specs.Trips.{none_is_absent, bare}

-- something that holds where there is a trip
abbrev pub after_a_trip : ℕ → Bool → Bool
after_a_trip zero b = false
after_a_trip (suc n) b = b

-- something that holds where there are two
abbrev pub after_two_trips : ℕ → Bool → Bool
after_two_trips zero b = false
after_two_trips (suc n) b = after_a_trip n b

-- Whether nothing of a list is there after a trip, where its items are written one by one.
abbrev pub is_left_out : Tree → Bool
is_left_out t = is_absent (none_is_absent optional (bare t))

-- ---- the rows that it may leave out, as the schema has them

abbrev pub urls_row : Row
urls_row = every urls "url"

abbrev pub contacts_row : Row
contacts_row = every contacts "contact"

abbrev pub diff_row : Row
diff_row = row (a_record diff) (filled_child (codes "diff")) "diff"

abbrev pub source_row : Row
source_row = row (a_record source) (filled_child (codes "source")) "source"

abbrev pub supplier_row : Row
supplier_row = row (a_record entity) (filled_child (codes "supplier")) "supplier"

abbrev pub evidence_row : Row
evidence_row = row (a_record evidence) (filled_child (codes "evidence")) "evidence"
