use Rattle.std.proofs.Common.{sym, ◌∙◌}
use Rattle.cdx_component.proofs.Fitting.{items-goes, items-stops}
use Rattle.cdx_component.proofs.component.fitting.+component_fits.Goals as goal

pub components_have_versions-returns-then-not-component_has_versions : goal.components_have_versions-returns-then-not-component_has_versions
components_have_versions-returns-then-not-component_has_versions t c =
    items-stops c.deref-item-items.result.now c.loop-item.item-index c.item-item.result _ c.loop-item-test.true c.item-item.is (sym c.component_has_versions.ensures ∙ c.if-not-component_has_versions.true) c.loop-item.invariant

pub components_have_versions-loop-item-preserved : goal.components_have_versions-loop-item-preserved
components_have_versions-loop-item-preserved t c =
    items-goes c.deref-item-items.result.now c.loop-item.item-index c.item-item.result _ c.loop-item-test.true c.item-item.is (sym c.component_has_versions.ensures ∙ c.if-not-component_has_versions.false) c.loop-item.invariant
