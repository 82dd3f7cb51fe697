use Rattle.std.proofs.Common.{sym, ap, ◌∙◌, arith}
use Rattle.cdx_models.specs.Trees.{each}
use Rattle.cdx_schema.specs.Keeping.{are_shallow}
use Rattle.cdx_schema.specs.Depths.{depth_of}
use Rattle.cdx_nest.specs.Nested.{service_tree}
use Rattle.cdx_bom.proofs.Nested.{service_too_deep, service_levels, services_level, from-goes, from-stops, from-end}
use Rattle.cdx_bom.proofs.bom.shallow.+services_shallow.Goals as goal

pub service_is_shallow-returns-then-depth-ge32 : goal.service_is_shallow-returns-then-depth-ge32
service_is_shallow-returns-then-depth-ge32 t c = service_too_deep c.args.service.now (depth_of c.args.depth) c.if-depth-ge32.true

pub service_is_shallow-returns : goal.service_is_shallow-returns
service_is_shallow-returns t c = c.services_row_are_shallow.ensures ∙ sym (service_levels c.args.service.now (depth_of c.args.depth) c.if-depth-ge32.false)

pub services_are_shallow-loop-item-init : goal.services_are_shallow-loop-item-init
services_are_shallow-loop-item-init t c = ap (λ xs. are_shallow (each service_tree xs) (depth_of c.args.depth)) c.as_slice-item-items.ensures ∙ sym (services_level c.args.services.now (depth_of c.args.depth))

pub services_are_shallow-returns-then-not-service_is_shallow : goal.services_are_shallow-returns-then-not-service_is_shallow
services_are_shallow-returns-then-not-service_is_shallow t c =
    from-stops service_tree c.as_slice-item-items.result.now c.loop-item.item-index c.item-item.result (depth_of c.args.depth) _ c.loop-item-test.true c.item-item.is (sym c.service_is_shallow.ensures ∙ c.if-not-service_is_shallow.true) c.loop-item.invariant

pub services_are_shallow-loop-item-preserved : goal.services_are_shallow-loop-item-preserved
services_are_shallow-loop-item-preserved t c =
    from-goes service_tree c.as_slice-item-items.result.now c.loop-item.item-index c.item-item.result (depth_of c.args.depth) _ c.loop-item-test.true c.item-item.is (sym c.service_is_shallow.ensures ∙ c.if-not-service_is_shallow.false) c.loop-item.invariant

pub services_are_shallow-returns : goal.services_are_shallow-returns
services_are_shallow-returns t c = sym (from-end service_tree c.as_slice-item-items.result.now c.loop-item.item-index (depth_of c.args.depth) (omega arith)) ∙ c.loop-item.invariant
