use Rattle.std.proofs.Common.{sym, ◌∙◌, arith}
use Rattle.cdx_models.specs.Trees.{issue}
use Rattle.cdx_patch.specs.Records.{issue_tree}
use Rattle.cdx_schema.specs.Kinds.{a_record}
use Rattle.cdx_trips.proofs.Items.{from_end, from_goes, from_stops}
use Rattle.cdx_trips.proofs.Records.{issue_item}
use Rattle.cdx_trips.proofs.patch.issues_survive.Goals as goal

pub returns-then-not-source_row_survives : goal.returns-then-not-source_row_survives
returns-then-not-source_row_survives c =
    from_stops issue_tree (a_record issue) c.args.held.now c.loop-item.item-index c.item-item.result _ c.loop-item-test.true c.item-item.is (issue_item c.item-item.result ∙ (sym (c.source_row_survives.ensures) ∙ c.if-not-source_row_survives.true)) c.loop-item.invariant

pub loop-item-preserved : goal.loop-item-preserved
loop-item-preserved c =
    from_goes issue_tree (a_record issue) c.args.held.now c.loop-item.item-index c.item-item.result _ c.loop-item-test.true c.item-item.is (issue_item c.item-item.result ∙ (sym (c.source_row_survives.ensures) ∙ c.if-not-source_row_survives.false)) c.loop-item.invariant

pub returns : goal.returns
returns c = sym (from_end issue_tree (a_record issue) c.args.held.now c.loop-item.item-index (omega arith)) ∙ c.loop-item.invariant
