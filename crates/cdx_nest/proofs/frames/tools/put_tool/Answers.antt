use Rattle.cdx_models.specs.Records.{tool_tree}
use Rattle.cdx_models.specs.Trees.{more, two, present}
use Rattle.cdx_component.specs.Trees.{components_tree}
use Rattle.cdx_service.specs.Trees.{services_tree}
use Rattle.cdx_machine.proofs.Names.{push_put}
use Rattle.cdx_nest.proofs.frames.tools.put_tool.Goals as goal

pub returns : goal.returns
returns c =
    let p = c.args.part.now in
    rw (c.in-0-Tool.is-0, c.in-0-Tool.is-1) (push_put tool_tree (λ t. more t (two (present services_tree p.services) (present components_tree p.components))) p.tools c.push.new.self c.in-0-Tool.tool c.push.result c.push.ensures.ok)
