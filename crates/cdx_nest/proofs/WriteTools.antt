-- Tools as elements.
use Rattle.std.proofs.Common.{◌≡◌, ℕ, Bool, true, false, List, [], ◌∷◌, ◌++◌, refl, sym, ◌∙◌}
use Rattle.cdx_models.specs.declared.bom.SpecVersion.{SpecVersion}
use Rattle.cdx_models.specs.declared.bom.SpecVersion.TheVariants.{V1_3, V1_4, V1_5}
use Rattle.cdx_models.specs.Trees.{tools_object, items, fields, Trees}
use Rattle.cdx_models.specs.Versions.{knows}
use Rattle.cdx_schema.specs.Keeping.{kept}
use Rattle.cdx_schema.specs.Kinds.{tool_list, a_list, a_record, a_tools}
use Rattle.cdx_schema.specs.Table.{rows}
use Rattle.cdx_schema.specs.XmlSpelling.{nodes_of}
use Rattle.cdx_write.specs.Spelling.{inner, spelled_events}
use Rattle.cdx_write.specs.WrittenRows.{rows_written}
use Rattle.cdx_write.specs.Writing.{start_tag, end_tag}
use Rattle.cdx_write.proofs.RowsLaws.{record_inner}
use Rattle.cdx_nest.specs.declared.tools.Tools.{Tools}
use Rattle.cdx_nest.specs.declared.tools.Tools.TheVariants as variant
use Rattle.cdx_nest.specs.Trees.{tools_tree}

-- ---- what stands between the tags

pub list_inner : (ts : Trees) (w : SpecVersion) → inner (items ts) w (a_list tool_list) ≡ inner (items ts) w a_tools
unfolding inner kept nodes_of
list_inner ts w = refl

-- before 1.5 an object is the empty list
pub early_inner : (w : SpecVersion) (b : Bool) (ts : Trees) → b ≡ knows V1_5 w → b ≡ false → inner (fields tools_object ts) w a_tools ≡ []
unfolding inner kept nodes_of
early_inner V1_3 b ts is e = refl
early_inner V1_4 b ts is e = refl
early_inner V1_5 b ts is e = let wrong : true ≡ false = sym is ∙ e in absurd cc

object_inner : (ts : Trees) → inner (fields tools_object ts) V1_5 (a_record tools_object) ≡ inner (fields tools_object ts) V1_5 a_tools
unfolding inner kept nodes_of
object_inner ts = refl

pub late_inner : (w : SpecVersion) (b : Bool) (ts : Trees) → b ≡ knows V1_5 w → b ≡ true → rows_written ts w (rows tools_object) ≡ inner (fields tools_object ts) w a_tools
late_inner V1_3 b ts is e = let wrong : false ≡ true = sym is ∙ e in absurd cc
late_inner V1_4 b ts is e = let wrong : false ≡ true = sym is ∙ e in absurd cc
late_inner V1_5 b ts is e = sym (record_inner tools_object ts V1_5) ∙ object_inner ts

-- ---- under a tag

pub tools_written : (tag : List ℕ) (x : Tools) (w : SpecVersion) → start_tag tag ∷ inner (tools_tree x) w a_tools ++ end_tag tag ∷ [] ≡ spelled_events (tools_tree x) w tag a_tools
unfolding spelled_events inner kept nodes_of rows
tools_written tag (variant.List ts) w = refl
tools_written tag (variant.Object ss cs) V1_3 = refl
tools_written tag (variant.Object ss cs) V1_4 = refl
tools_written tag (variant.Object ss cs) V1_5 = refl
