use Rattle.cdx_service.specs.Frames.{frame_kind, frame_fields, value_kind, value_tree as service_value_tree}
use Rattle.cdx_nest.specs.Frames.{value_kind as nest_value_kind, value_tree}
use Rattle.cdx_nest.proofs.NestFrames.{service_nested, service_kinded, service_puts}
use Rattle.cdx_nest.proofs.frames.services.put_in_services.Goals as goal

pub value_within-requires : goal.value_within-requires
value_within-requires c = service_kinded (frame_kind c.args.frame.now) c.args.position (nest_value_kind c.args.value) c.requires

pub put-requires : goal.put-requires
put-requires c =
    service_nested (frame_kind c.args.frame.now) c.args.position (value_kind c.value_within.result) (nest_value_kind c.args.value) c.value_within.ensures.sort c.requires

pub returns-clause-puts : goal.returns-clause-puts
returns-clause-puts c =
    service_puts (frame_kind c.args.frame.now) c.args.position (service_value_tree c.value_within.result) (value_tree c.args.value) (frame_fields c.args.frame.now) (frame_fields c.put.new.self) c.put.result c.value_within.ensures.tree c.put.ensures.puts
