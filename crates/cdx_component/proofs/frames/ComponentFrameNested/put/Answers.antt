use Rattle.cdx_schema.specs.Table.{list}
use Rattle.cdx_component.proofs.frames.ComponentFrameNested.put.Goals as goal

pub returns-in-Component-clause-puts : goal.returns-in-Component-clause-puts
returns-in-Component-clause-puts c =
    let part = c.in-Component.part in
    rw c.in-Component.is (c.put_part.ensures part.origin part.naming part.marks)

pub returns-in-Components-clause-puts : goal.returns-in-Components-clause-puts
unfolding list
returns-in-Components-clause-puts c = rw c.in-Components.is c.push_component.ensures
