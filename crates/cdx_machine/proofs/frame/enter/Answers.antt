use Rattle.std.proofs.Common.{sym, ◌∙◌}
use Rattle.std.proofs.lemmas.Result.{err_from_is_err_and}
use Rattle.cdx_machine.specs.Several.{reads_boxed}
use Rattle.cdx_machine.proofs.Names.{found_at, found_none, found_second}
use Rattle.cdx_machine.proofs.Children.{runs_kind, child_starts, there_is}
use Rattle.cdx_machine.proofs.Frames.{enters_fault, enters_second, enters_unknown, enters_skipped}
use Rattle.cdx_machine.proofs.frame.enter.Goals as goal

pub returns-in_err-child-in-At : goal.returns-in_err-child-in-At
returns-in_err-child-in-At g c = λ is d s.
    let q = err_from_is_err_and c.from_residual.result c.from_residual.ensures.1 in
    let f = g.F.Frame in
    let m = g.F.Child.Machines in
    let h = found_at (f.slots c.args.part.now) c.args.version c.args.name.now.local_name f.plan.children c.find.result c.in-At.position c.in-At.is c.find.ensures in
    rw (q.1, q.2) (enters_fault (reads_boxed f.plan m.position_of m.holds) f.plan (f.slots c.args.part.now) c.args.version c.args.element.now c.args.place d c.args.name.now c.args.attributes.now s c.in_err-child-in-At.field-0.0 c.in-At.position h (c.in_err-child-in-At.ensures.starts h.row.kind (runs_kind f.plan m.kinds g.met.F.Frame.child_kinds m.position_of m.holds m.tree c.in-At.position h.row h.is_at) d s))

pub returns-in_ok-boxed-in-At : goal.returns-in_ok-boxed-in-At
returns-in_ok-boxed-in-At g c = λ is d s.
    let f = g.F.Frame in
    let m = g.F.Child.Machines in
    let h = found_at (f.slots c.args.part.now) c.args.version c.args.name.now.local_name f.plan.children c.find.result c.in-At.position c.in-At.is c.find.ensures in
    child_starts f.plan m.kinds g.met.F.Frame.child_kinds m.position_of m.holds m.tree (f.slots c.args.part.now) c.args.version c.args.place d c.args.name.now c.args.attributes.now s c.in-At.position c.in_ok-child-in-At.child c.in_ok-boxed-in-At.field-0 h c.in_ok-boxed-in-At.ensures (c.in_ok-child-in-At.ensures.runs (there_is f.plan m.kinds g.met.F.Frame.child_kinds m.position_of m.holds m.tree c.in-At.position h.row h.is_at)) c.in_ok-child-in-At.ensures.starts

pub returns-then-not-skips : goal.returns-then-not-skips
returns-then-not-skips g c = λ is d s.
    let f = g.F.Frame in
    let m = g.F.Child.Machines in
    let ts = f.slots c.args.part.now in
    enters_unknown (reads_boxed f.plan m.position_of m.holds) f.plan ts c.args.version c.args.element.now c.args.place d c.args.name.now c.args.attributes.now s _ c.refuse_in.result c.rule.result
    (found_none ts c.args.version c.args.name.now.local_name f.plan.children c.find.result c.in-Unknown.is c.find.ensures)
    c.rule.ensures (sym c.skips.ensures ∙ c.if-not-skips.true) is c.refuse_in.ensures

pub returns-else-not-skips : goal.returns-else-not-skips
returns-else-not-skips g c = λ is d s.
    let f = g.F.Frame in
    let m = g.F.Child.Machines in
    let ts = f.slots c.args.part.now in
    enters_skipped (reads_boxed f.plan m.position_of m.holds) f.plan ts c.args.version c.args.element.now c.args.place d c.args.name.now c.args.attributes.now s c.rule.result
    (found_none ts c.args.version c.args.name.now.local_name f.plan.children c.find.result c.in-Unknown.is c.find.ensures)
    c.rule.ensures (sym c.skips.ensures ∙ c.if-not-skips.false)

pub returns-in-Second : goal.returns-in-Second
returns-in-Second g c = λ is d s.
    let f = g.F.Frame in
    let m = g.F.Child.Machines in
    let ts = f.slots c.args.part.now in
    enters_second (reads_boxed f.plan m.position_of m.holds) f.plan ts c.args.version c.args.element.now c.args.place d c.args.name.now c.args.attributes.now s _ c.refuse_in-in-Second.result
    (found_second ts c.args.version c.args.name.now.local_name f.plan.children c.find.result c.in-Second.is c.find.ensures)
    is c.refuse_in-in-Second.ensures
