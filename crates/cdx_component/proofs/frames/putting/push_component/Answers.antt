use Rattle.cdx_models.specs.Trees.{one}
use Rattle.cdx_machine.proofs.Names.{push_put}
use Rattle.cdx_component.specs.Trees.{component_tree, component_items}
use Rattle.cdx_component.proofs.frames.putting.push_component.Goals as goal

pub returns : goal.returns
returns c = rw (c.in-0-Component.is-0, c.in-0-Component.is-1) (push_put component_tree (λ t. one t) (component_items c.args.list.now) (component_items c.push.new.self) c.in-0-Component.component c.push.result c.push.ensures.ok)
