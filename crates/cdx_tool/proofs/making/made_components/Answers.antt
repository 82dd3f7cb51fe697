use Rattle.std.proofs.Common.{◌≡◌, ℕ, ap, subst, ◌∙◌, arith}
use Rattle.cdx_models.specs.Trees.{each}
use Rattle.cdx_component.specs.Trees.{component_tree, component_items}
use Rattle.cdx_request.specs.Made.{made_components}
use Rattle.cdx_tool.proofs.MadeBills.{none_made, one_made, all_made}
use Rattle.cdx_tool.proofs.making.made_components.Goals as goal

pub loop-number-init : goal.loop-number-init
loop-number-init c = ap (each component_tree) c.new-components.ensures ∙ none_made

pub loop-number-preserved : goal.loop-number-preserved
loop-number-preserved c =
    one_made c.loop-number.components c.push.new.self c.in_ok-made_component.field-0 c.loop-number.number c.in_ok-push.ensures.ok c.in_ok-made_component.ensures c.loop-number.invariant

pub returns : goal.returns
returns c =
    let all : c.loop-number.number ≡ c.args.count = omega arith in
    all_made c.loop-number.components c.args.count (subst (λ (n : ℕ). each component_tree (component_items c.loop-number.components) ≡ made_components 0 n) all c.loop-number.invariant)
