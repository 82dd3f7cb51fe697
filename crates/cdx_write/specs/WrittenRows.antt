-- What a record's rows are written as, one after the other.
use Rattle.std.specs.Prelude.{ℕ, List, [], ◌∷◌, ◌++◌, Bool, true, false, if◌then◌else◌}
use Rattle.cdx_events.specs.declared.name.OwnedAttribute.{OwnedAttribute}
use Rattle.cdx_events.specs.declared.event.XmlEvent.{XmlEvent}
use Rattle.cdx_events.specs.declared.event.XmlEvent.TheVariants.{CData}
use Rattle.cdx_models.specs.declared.bom.SpecVersion.{SpecVersion}
use Rattle.cdx_models.specs.declared.bom.SpecVersion.TheVariants.{V1_3, V1_4, V1_5}
use Rattle.cdx_models.specs.Versions.{knows}
use Rattle.cdx_models.specs.Trees.{Tree, Trees, none, more, is_absent}
use Rattle.cdx_schema.specs.Kinds.{Kind, Spelled, attribute, attribute_or, content, one_text, as_cdata, child, filled_child, children, either_child, the_version, Row}
use Rattle.cdx_schema.specs.Keeping.{keep}
use Rattle.cdx_schema.specs.Trips.{is_hollow}
use Rattle.cdx_schema.specs.XmlTexts.{text_of}
use Rattle.cdx_schema.specs.XmlSpelling.{attribute_of}
use Rattle.cdx_write.specs.Spelling.{spelled_events, inner}

-- ---- one row, as the version keeps it, where it is there

unfoldable pub attribute_written : List ℕ → Kind → Tree → SpecVersion → List OwnedAttribute
attribute_written name k t w = attribute_of name (keep w t k)

unfoldable pub child_written : List ℕ → Kind → Tree → SpecVersion → List XmlEvent
child_written name k t w = if is_absent (keep w t k) then [] else spelled_events t w name k

-- the same for a child that isn't written where it is hollow
unfoldable pub filled_written : List ℕ → Kind → Tree → SpecVersion → List XmlEvent
filled_written name k t w = if is_hollow (keep w t k) then [] else child_written name k t w

unfoldable pub cdata_written : Kind → Tree → SpecVersion → List XmlEvent
cdata_written k t w = if is_absent (keep w t k) then [] else CData (text_of (keep w t k)) ∷ []

-- nothing in a version before `since`
unfoldable pub late_written : {A : Type 0} → SpecVersion → SpecVersion → List A → List A
late_written since w xs = if knows since w then xs else []

abbrev pub written_since : {A : Type 0} → SpecVersion → SpecVersion → List A → List A
written_since V1_3 w xs = xs
written_since V1_4 w xs = late_written V1_4 w xs
written_since V1_5 w xs = late_written V1_5 w xs

-- ---- the rows of a record, or a group of them

-- the attributes from a row on
abbrev pub attribute_then : Row → Tree → SpecVersion → List OwnedAttribute → List OwnedAttribute
attribute_then r t w rest = by r.xml
  where
    by : Spelled → List OwnedAttribute
    by (attribute name) = written_since r.since w (attribute_written name r.kind t w) ++ rest
    by (attribute_or name n) = written_since r.since w (attribute_written name r.kind t w) ++ rest
    by _ = rest

unfoldable pub attributes_written : Trees → SpecVersion → List Row → List OwnedAttribute
attributes_written none w rs = []
attributes_written (more t ts) w [] = []
attributes_written (more t ts) w (r ∷ rs) = attribute_then r t w (attributes_written ts w rs)

-- the nodes from a row on
abbrev pub row_then : Row → Tree → SpecVersion → List XmlEvent → List XmlEvent
row_then r t w rest = by r.xml
  where
    by : Spelled → List XmlEvent
    by (attribute name) = rest
    by (attribute_or name n) = rest
    by content = written_since r.since w (inner t w r.kind) ++ rest
    by one_text = written_since r.since w (inner t w r.kind) ++ rest
    by as_cdata = written_since r.since w (cdata_written r.kind t w) ++ rest
    by (child name) = written_since r.since w (child_written name r.kind t w) ++ rest
    by (filled_child name) = written_since r.since w (filled_written name r.kind t w) ++ rest
    by (children name) = written_since r.since w (inner t w r.kind) ++ rest
    by (either_child m n) = written_since r.since w (child_written m r.kind t w) ++ rest
    by the_version = rest

unfoldable pub rows_written : Trees → SpecVersion → List Row → List XmlEvent
rows_written none w rs = []
rows_written (more t ts) w [] = []
rows_written (more t ts) w (r ∷ rs) = row_then r t w (rows_written ts w rs)

-- There is a tree for each row, as in a group of rows with the fields that stand in them.
abbrev pub are_rows_of : Trees → List Row → Bool
are_rows_of none [] = true
are_rows_of none (r ∷ rs) = false
are_rows_of (more t ts) [] = false
are_rows_of (more t ts) (r ∷ rs) = are_rows_of ts rs
