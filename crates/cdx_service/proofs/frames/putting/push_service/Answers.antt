use Rattle.cdx_schema.specs.Table.{list}
use Rattle.cdx_models.specs.Trees.{one}
use Rattle.cdx_machine.proofs.Names.{push_put}
use Rattle.cdx_service.specs.Trees.{service_tree, service_items}
use Rattle.cdx_service.proofs.frames.putting.push_service.Goals as goal

pub returns : goal.returns
unfolding list
returns c = rw (c.in-0-Service.is-0, c.in-0-Service.is-1) (push_put service_tree (λ t. one t) (service_items c.args.list.now) (service_items c.push.new.self) c.in-0-Service.service c.push.result c.push.ensures.ok)
