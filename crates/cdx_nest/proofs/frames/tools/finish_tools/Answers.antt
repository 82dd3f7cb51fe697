use Rattle.std.proofs.Common.{◌+◌, true, false, Ok, sym, ap, ◌∙◌, subst, arith}
use Rattle.cdx_leaf.specs.Fault.{FailsAt}
use Rattle.cdx_nest_machine.specs.Forms.{tools_last}
use Rattle.cdx_nest.specs.Reading.{tools_part}
use Rattle.cdx_nest.proofs.ReadTools.{without_tool, with_tools}
use Rattle.cdx_nest.proofs.frames.tools.finish_tools.Goals as goal

pub returns-then-len-eq0 : goal.returns-then-len-eq0
returns-then-len-eq0 c =
    without_tool c.args.closed.now.version c.args.closed.now.element.now.local_name c.args.closed.now.place c.args.part c.len.result c.len.ensures c.if-len-eq0.true ∙ ap (λ t. Ok t) (sym c.object_in.ensures)

pub returns-then-has_object : goal.returns-then-has_object
returns-then-has_object c =
    let is = with_tools c.args.closed.now.version c.args.closed.now.element.now.local_name c.args.closed.now.place c.args.part c.len.result c.has_object.result true c.len.ensures c.if-len-eq0.false c.has_object.ensures c.if-has_object.true in
    subst (λ x. FailsAt x (c.args.closed.now.place + 1) (tools_last c.args.closed.now.element.now.local_name c.args.closed.now.version c.args.closed.now.place (tools_part c.args.part))) (sym c.in_ok-required_data_missing.ensures) (is, omega arith)

pub returns : goal.returns
returns c =
    with_tools c.args.closed.now.version c.args.closed.now.element.now.local_name c.args.closed.now.place c.args.part c.len.result c.has_object.result false c.len.ensures c.if-len-eq0.false c.has_object.ensures c.if-has_object.false
