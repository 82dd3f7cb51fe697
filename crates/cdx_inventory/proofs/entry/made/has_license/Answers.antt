use Rattle.std.proofs.Common.{sym, ◌∙◌}
use Rattle.std.specs.Str.{bytes_eq}
use Rattle.cdx_inventory.proofs.Made.{any_found, any_next}
use Rattle.cdx_inventory.proofs.entry.made.has_license.Goals as goal

pub returns-then-is : goal.returns-then-is
returns-then-is c =
    any_found (λ t. bytes_eq t c.args.license.now) c.as_slice-item-items.result.now c.loop-item.item-index c.item-item.result _ c.loop-item-test.true c.item-item.is (sym c.is.ensures ∙ c.if-is.true) c.loop-item.invariant

pub loop-item-preserved : goal.loop-item-preserved
loop-item-preserved c =
    any_next (λ t. bytes_eq t c.args.license.now) c.as_slice-item-items.result.now c.loop-item.item-index c.item-item.result _ c.loop-item-test.true c.item-item.is (sym c.is.ensures ∙ c.if-is.false) c.loop-item.invariant
