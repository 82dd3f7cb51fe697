use Rattle.std.proofs.Common.{refl}
use Rattle.cdx_schema.specs.Kinds.{classifications, flows}
use Rattle.cdx_schema.specs.Table.{list}
use Rattle.cdx_write.proofs.RowWords.{appends_same}
use Rattle.cdx_service_data.proofs.DataSpelled.{classified_inner, flows_inner, unnamed_inner}
use Rattle.cdx_service_data.proofs.xml.writing.write_entries.Goals as goal

pub returns-in-Classification : goal.returns-in-Classification
unfolding list
returns-in-Classification c =
    rw c.in-Classification.is (appends_same c.args.writer.now c.write_items.new.writer _ _ c.write_items.result (classified_inner c.args.target.version c.in-Classification.held) (c.write_items.ensures classifications (refl, refl)))

pub returns-then-has_flow : goal.returns-then-has_flow
unfolding list
returns-then-has_flow c =
    rw c.in-ServiceData.is (appends_same c.args.writer.now c.write_items-then-has_flow.new.writer _ _ c.write_items-then-has_flow.result (flows_inner c.args.target.version c.in-ServiceData.held c.has_flow.result c.has_flow.ensures c.if-has_flow.true) (c.write_items-then-has_flow.ensures flows (refl, refl)))

pub returns-in_ok-held-in-ServiceData : goal.returns-in_ok-held-in-ServiceData
unfolding list
returns-in_ok-held-in-ServiceData c =
    rw c.in-ServiceData.is (appends_same c.args.writer.now c.write_items-in-ServiceData.new.writer _ _ c.write_items-in-ServiceData.result (unnamed_inner c.args.target.version c.in_ok-held-in-ServiceData.held c.in-ServiceData.held c.has_flow.result c.has_flow.ensures c.if-has_flow.false c.in_ok-held-in-ServiceData.ensures) (c.write_items-in-ServiceData.ensures classifications (refl, refl)))
