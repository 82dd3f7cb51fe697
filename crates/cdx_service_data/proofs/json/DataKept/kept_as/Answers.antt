use Rattle.std.proofs.Common.{true, false, refl, ◌∙◌}
use Rattle.cdx_schema.specs.Kinds.{classifications, flows}
use Rattle.cdx_schema.specs.Table.{list}
use Rattle.cdx_service_data.proofs.DataEntries.{classifications_kept, flows_kept, flows_dropped}
use Rattle.cdx_service_data.proofs.json.DataKept.kept_as.Goals as goal

pub returns-in_ok-keep_list-in-Classification : goal.returns-in_ok-keep_list-in-Classification
unfolding list
returns-in_ok-keep_list-in-Classification c = rw c.in-Classification.is (c.in_ok-keep_list-in-Classification.ensures classifications refl ∙ classifications_kept c.args.keeping.version c.args.keeping.label c.in-Classification.held)

pub returns-then-not-is_known_to : goal.returns-then-not-is_known_to
unfolding list
returns-then-not-is_known_to c =
    rw c.in-ServiceData.is (c.in_ok-keep_list-in-ServiceData.ensures classifications refl ∙ flows_dropped false c.args.keeping.version c.args.keeping.label c.in_ok-held-in-ServiceData.held c.in-ServiceData.held c.if-not-is_known_to.ensures refl c.in_ok-held-in-ServiceData.ensures)

pub returns-in_ok-keep_list-in-ServiceData-2 : goal.returns-in_ok-keep_list-in-ServiceData-2
unfolding list
returns-in_ok-keep_list-in-ServiceData-2 c =
    rw c.in-ServiceData.is (flows_kept true c.args.keeping.version c.args.keeping.label c.in_ok-keep_list-in-ServiceData-2.field-0 c.in-ServiceData.held c.if-not-is_known_to.ensures refl (c.in_ok-keep_list-in-ServiceData-2.ensures flows refl))
