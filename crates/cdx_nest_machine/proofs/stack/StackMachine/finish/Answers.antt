use Rattle.std.proofs.Common.{◌+◌, reverse}
use Rattle.cdx_schema.specs.Depths.{depth_of}
use Rattle.cdx_nest_machine.specs.Frames.{leaf_holds, shape_of}
use Rattle.cdx_nest_machine.proofs.Machine.{whole_ends, yields, of_root}
use Rattle.cdx_nest_machine.proofs.stack.StackMachine.finish.Goals as goal

pub unreachable-requires : goal.unreachable-requires
unreachable-requires g c =
    let r = c.requires in
    let e = whole_ends r.o c.args.event.now r.all r.ends in
    c.in_default.not-EndElement e.0 e.1

pub returns : goal.returns
returns g c = λ root v p d o y h is t w.
    let f = g.F.Nested in
    let l = g.F.Leaf.Leaves in
    let s = shape_of f.as_kind f.sort_of f.fields f.child_of in
    let k = leaf_holds f.as_kind f.child_of l.sort_of l.holds in
    let m = c.args.self in
    let e = yields s g.met.F.Nested.nested k (Unit {0}) root (reverse m.below.items) (f.sort_of m.top.part) m.top.name (depth_of m.top.depth) m.version v p d o c.args.place c.args.event.now (f.fields m.top.part) m.inside h f.tree c.in-EndElement.name (c.args.place + 1) c.finish.result y c.in-EndElement.is is t w c.finish.ensures.gives in
    (e.0, of_root f.value_sort root (f.sort_of m.top.part) c.finish.result e.1 c.finish.ensures.sort)
