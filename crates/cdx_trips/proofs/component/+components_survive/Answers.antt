use Rattle.std.proofs.Common.{sym, ap, ◌∙◌, arith}
use Rattle.cdx_models.specs.Trees.{component, each}
use Rattle.cdx_schema.specs.Kinds.{a_record}
use Rattle.cdx_nest.specs.Nested.{component_tree}
use Rattle.cdx_trips.specs.Surviving.{items_survive}
use Rattle.cdx_trips.proofs.Items.{from_end, from_goes, from_stops}
use Rattle.cdx_trips.proofs.Nested.{component_item, components_items}
use Rattle.cdx_trips.proofs.component.+components_survive.Goals as goal

pub components_survive-loop-item-init : goal.components_survive-loop-item-init
components_survive-loop-item-init t c = ap (λ xs. items_survive (each component_tree xs) (a_record component)) c.as_slice-item-items.ensures ∙ sym (components_items c.args.held.now)

pub components_survive-returns-then-not-component_survives : goal.components_survive-returns-then-not-component_survives
components_survive-returns-then-not-component_survives t c =
    from_stops component_tree (a_record component) c.as_slice-item-items.result.now c.loop-item.item-index c.item-item.result _ c.loop-item-test.true c.item-item.is (component_item c.item-item.result ∙ (sym c.component_survives.ensures ∙ c.if-not-component_survives.true)) c.loop-item.invariant

pub components_survive-loop-item-preserved : goal.components_survive-loop-item-preserved
components_survive-loop-item-preserved t c =
    from_goes component_tree (a_record component) c.as_slice-item-items.result.now c.loop-item.item-index c.item-item.result _ c.loop-item-test.true c.item-item.is (component_item c.item-item.result ∙ (sym c.component_survives.ensures ∙ c.if-not-component_survives.false)) c.loop-item.invariant

pub components_survive-returns : goal.components_survive-returns
components_survive-returns t c = sym (from_end component_tree (a_record component) c.as_slice-item-items.result.now c.loop-item.item-index (omega arith)) ∙ c.loop-item.invariant
