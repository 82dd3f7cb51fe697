-- A record's rows cut into groups, each of which is read by a plan of its own.
use Rattle.std.specs.Prelude.{ℕ, zero, suc, List}
use Rattle.cdx_models.specs.Trees.{Trees, none, more}
use Rattle.cdx_schema.specs.Kinds.{Rule, Row}
use Rattle.cdx_schema.specs.XmlReading.{Plan, children_from}

-- how many fields there are
abbrev pub size : Trees → ℕ
size none = zero
size (more t ts) = suc (size ts)

-- the children of these rows
abbrev pub rows_plan : Rule → List Row → Plan
rows_plan r rs = record { rule = r; children = children_from 0 rs }
