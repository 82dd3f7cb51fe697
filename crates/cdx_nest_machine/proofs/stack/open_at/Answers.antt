use Rattle.std.proofs.Common.{◌+◌}
use Rattle.std.proofs.lemmas.Result.{err_from_is_err_and}
use Rattle.cdx_schema.specs.Depths.{depth_of}
use Rattle.cdx_nest_machine.proofs.Stacks.{begin_refuses}
use Rattle.cdx_nest_machine.proofs.stack.open_at.Goals as goal

pub returns-in_err-part-clause-begins : goal.returns-in_err-part-clause-begins
returns-in_err-part-clause-begins g c =
    let q = err_from_is_err_and c.from_residual.result c.from_residual.ensures.1 in
    rw (q.1, q.2) (λ s. begin_refuses (g.F.Nested.as_kind c.args.sort) (g.met.F.Nested.nested c.args.sort) c.in_err-part.field-0.0 (c.args.opened.now.place + 1) c.args.opened.now.element.now c.args.opened.now.attributes.now s c.args.opened.now.version c.args.opened.now.place (depth_of c.args.depth) c.in-Some.ensures.0 c.in_err-part.ensures.gives)
