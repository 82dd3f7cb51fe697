-- A bill whose components are read apart from its other members.
use Rattle.std.specs.Prelude.{List, ℕ, if◌then◌else◌, Result, Option, codes}
use Rattle.std.specs.Str.{bytes_eq}
use Rattle.cdx_models.specs.declared.bom.SpecVersion.{SpecVersion}
use Rattle.cdx_models.specs.declared.errors.JsonReadError.{JsonReadError}
use Rattle.cdx_models.specs.Trees.{present}
use Rattle.cdx_schema.specs.Kinds.{a_list, components, optional}
use Rattle.cdx_schema.specs.Depth.{Depth}
use Rattle.cdx_schema.specs.JsonReading.{Object, Found}
use Rattle.cdx_json.specs.Gives.{Gives}
use Rattle.cdx_json.specs.ByRows.{member_of}
use Rattle.cdx_nest.specs.Nested.{Components, components_tree}

-- the object that has this under the name, and else what the other has
abbrev pub with_member : List ℕ → Found → Object → Object
with_member name held o other = if bytes_eq other name then held else o other

abbrev pub with_components : Found → Object → Object
with_components held o = with_member (codes "components") held o

-- The answer is that of reading what stands under the components' name.
abbrev pub AreComponents : Found → SpecVersion → Depth → Result (Option Components) JsonReadError → Type 0
AreComponents held v d result = Gives (present components_tree) result (member_of (λ other. held) (codes "components") optional (a_list components) v d)
