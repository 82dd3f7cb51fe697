use Rattle.cdx_schema.specs.Depths.{depth_of}
use Rattle.cdx_nest_machine.specs.Frames.{leaf_holds, shape_of}
use Rattle.cdx_nest_machine.proofs.Machine.{began}
use Rattle.cdx_nest_machine.proofs.stack.StackMachine.start.Goals as goal

pub returns : goal.returns
returns g c = λ z.
    let f = g.F.Nested in
    let l = g.F.Leaf.Leaves in
    let s = shape_of f.as_kind f.sort_of f.fields f.child_of in
    let k = leaf_holds f.as_kind f.child_of l.sort_of l.holds in
    let t = c.in_ok-open.open in
    let e = c.in_ok-open.ensures in
    began s g.met.F.Nested.nested k c.args.sort (f.sort_of t.part) c.new.result.items c.args.opened.now.version c.args.opened.now.place (depth_of c.args.depth) c.args.opened.now.element.now c.args.opened.now.attributes.now z t.name (depth_of t.depth) (f.fields t.part)
    c.new.ensures.items e.sort e.begins.0 e.begins.1 e.begins.2 e.begins.3
