use Rattle.std.proofs.Common.{Some, sym, ap, ◌∙◌}
use Rattle.cdx_nest_machine.specs.declared.nested.ChildReader.TheVariants.{Leaf, Nested}
use Rattle.cdx_service.specs.Frames.{frame_kind}
use Rattle.cdx_nest.proofs.NestFrames.{service_has, service_child}
use Rattle.cdx_nest.proofs.frames.services.child_in_services.Goals as goal

pub child-requires : goal.child-requires
child-requires c = service_has (frame_kind c.args.frame.now) c.args.position c.requires

pub returns-in-Leaf : goal.returns-in-Leaf
returns-in-Leaf c = service_child (frame_kind c.args.frame.now) c.args.position (Leaf c.in-Leaf.kind) (c.child.ensures ∙ ap (λ r. Some r) c.in-Leaf.is)

pub returns-in-Nested : goal.returns-in-Nested
returns-in-Nested c =
    service_child (frame_kind c.args.frame.now) c.args.position (Nested c.in-Nested.kind) (c.child.ensures ∙ ap (λ r. Some r) c.in-Nested.is)
    ∙ ap (λ k. Some (Nested k)) (sym c.kind_among.ensures)
