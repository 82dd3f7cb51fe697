use Rattle.std.proofs.Common.{sym, ◌∙◌, arith}
use Rattle.cdx_models.specs.Trees.{patch}
use Rattle.cdx_patch.specs.Records.{patch_tree}
use Rattle.cdx_schema.specs.Kinds.{a_record}
use Rattle.cdx_trips.proofs.Items.{from_end, from_goes, from_stops}
use Rattle.cdx_trips.proofs.Records.{patch_item}
use Rattle.cdx_trips.proofs.patch.patches_survive.Goals as goal

pub returns-then-not-patch_survives : goal.returns-then-not-patch_survives
returns-then-not-patch_survives c =
    from_stops patch_tree (a_record patch) c.args.held.now c.loop-item.item-index c.item-item.result _ c.loop-item-test.true c.item-item.is (patch_item c.item-item.result ∙ (sym (c.patch_survives.ensures) ∙ c.if-not-patch_survives.true)) c.loop-item.invariant

pub loop-item-preserved : goal.loop-item-preserved
loop-item-preserved c =
    from_goes patch_tree (a_record patch) c.args.held.now c.loop-item.item-index c.item-item.result _ c.loop-item-test.true c.item-item.is (patch_item c.item-item.result ∙ (sym (c.patch_survives.ensures) ∙ c.if-not-patch_survives.false)) c.loop-item.invariant

pub returns : goal.returns
returns c = sym (from_end patch_tree (a_record patch) c.args.held.now c.loop-item.item-index (omega arith)) ∙ c.loop-item.invariant
