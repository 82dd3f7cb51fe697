use Rattle.std.proofs.Common.{◌≡◌, ◌+◌, Ok, ap, ◌∙◌}
use Rattle.std.proofs.lemmas.Result.{err_from_is_err_and}
use Rattle.cdx_leaf.specs.Fault.{FailsAt}
use Rattle.cdx_nest_machine.specs.Forms.{last_step}
use Rattle.cdx_component.specs.Frames.{frame_kind, frame_fields, value_tree as component_value_tree}
use Rattle.cdx_component.specs.Trees.{component_tree, components_tree, pedigree_tree}
use Rattle.cdx_nest.proofs.NestFrames.{component_here}
use Rattle.cdx_nest.proofs.frames.components.finish_in_components.Goals as goal

pub returns-in_err-component-clause-gives : goal.returns-in_err-component-clause-gives
returns-in_err-component-clause-gives c =
    let q = err_from_is_err_and c.from_residual.result c.from_residual.ensures.1 in
    rw (q.1, q.2) (component_here (λ k. FailsAt c.in_err-component.field-0.0 (c.args.closed.now.place + 1) (last_step k c.args.closed.now.element.now.local_name c.args.closed.now.version c.args.closed.now.place (frame_fields c.args.frame))) (frame_kind c.args.frame) c.in_err-component.ensures.gives)

pub returns-in-Component-clause-gives : goal.returns-in-Component-clause-gives
returns-in-Component-clause-gives c =
    component_here (λ k. last_step k c.args.closed.now.element.now.local_name c.args.closed.now.version c.args.closed.now.place (frame_fields c.args.frame) ≡ Ok (component_tree c.in-Component.component)) (frame_kind c.args.frame) (c.in_ok-component.ensures.gives ∙ ap (λ x. Ok (component_value_tree x)) c.in-Component.is)

pub returns-in-Components-clause-gives : goal.returns-in-Components-clause-gives
returns-in-Components-clause-gives c =
    component_here (λ k. last_step k c.args.closed.now.element.now.local_name c.args.closed.now.version c.args.closed.now.place (frame_fields c.args.frame) ≡ Ok (components_tree c.in-Components.components)) (frame_kind c.args.frame) (c.in_ok-component.ensures.gives ∙ ap (λ x. Ok (component_value_tree x)) c.in-Components.is)

pub returns-in-Pedigree-clause-gives : goal.returns-in-Pedigree-clause-gives
returns-in-Pedigree-clause-gives c =
    component_here (λ k. last_step k c.args.closed.now.element.now.local_name c.args.closed.now.version c.args.closed.now.place (frame_fields c.args.frame) ≡ Ok (pedigree_tree c.in-Pedigree.pedigree)) (frame_kind c.args.frame) (c.in_ok-component.ensures.gives ∙ ap (λ x. Ok (component_value_tree x)) c.in-Pedigree.is)
