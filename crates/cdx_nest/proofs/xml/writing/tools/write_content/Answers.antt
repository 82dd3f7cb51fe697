use Rattle.std.proofs.Common.{refl}
use Rattle.cdx_models.specs.Records.{tool_tree}
use Rattle.cdx_models.specs.Trees.{each}
use Rattle.cdx_schema.specs.Kinds.{tool_list}
use Rattle.cdx_schema.specs.Table.{list}
use Rattle.cdx_write.proofs.RowWords.{appends_same}
use Rattle.cdx_nest.proofs.WriteTools.{list_inner}
use Rattle.cdx_nest.proofs.xml.writing.tools.write_content.Goals as goal

pub returns-in-List : goal.returns-in-List
unfolding list
returns-in-List c =
    rw c.in-List.is (appends_same c.args.writer.now c.write_items.new.writer _ _ c.write_items.result (list_inner (each tool_tree c.in-List.held) c.args.target.version) (c.write_items.ensures tool_list (refl, refl)))
