use Rattle.std.proofs.Common.{◌≡◌, ◌+◌, Ok, ap, ◌∙◌}
use Rattle.std.proofs.lemmas.Result.{err_from_is_err_and}
use Rattle.cdx_leaf.specs.Fault.{FailsAt}
use Rattle.cdx_nest_machine.specs.Forms.{last_step}
use Rattle.cdx_service.specs.Frames.{frame_kind, frame_fields, value_tree as service_value_tree}
use Rattle.cdx_service.specs.Trees.{service_tree, services_tree}
use Rattle.cdx_nest.proofs.NestFrames.{service_here}
use Rattle.cdx_nest.proofs.frames.services.finish_in_services.Goals as goal

pub returns-in_err-service-clause-gives : goal.returns-in_err-service-clause-gives
returns-in_err-service-clause-gives c =
    let q = err_from_is_err_and c.from_residual.result c.from_residual.ensures.1 in
    rw (q.1, q.2) (service_here (λ k. FailsAt c.in_err-service.field-0.0 (c.args.closed.now.place + 1) (last_step k c.args.closed.now.element.now.local_name c.args.closed.now.version c.args.closed.now.place (frame_fields c.args.frame))) (frame_kind c.args.frame) c.in_err-service.ensures.gives)

pub returns-in-Service-clause-gives : goal.returns-in-Service-clause-gives
returns-in-Service-clause-gives c =
    service_here (λ k. last_step k c.args.closed.now.element.now.local_name c.args.closed.now.version c.args.closed.now.place (frame_fields c.args.frame) ≡ Ok (service_tree c.in-Service.service)) (frame_kind c.args.frame) (c.in_ok-service.ensures.gives ∙ ap (λ x. Ok (service_value_tree x)) c.in-Service.is)

pub returns-in-Services-clause-gives : goal.returns-in-Services-clause-gives
returns-in-Services-clause-gives c =
    service_here (λ k. last_step k c.args.closed.now.element.now.local_name c.args.closed.now.version c.args.closed.now.place (frame_fields c.args.frame) ≡ Ok (services_tree c.in-Services.services)) (frame_kind c.args.frame) (c.in_ok-service.ensures.gives ∙ ap (λ x. Ok (service_value_tree x)) c.in-Services.is)
