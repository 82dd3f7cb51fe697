use Rattle.std.proofs.Common.{◌≡◌, Ok, Err, Some, true, false, refl, sym, ap, ◌∙◌, subst}
use Rattle.std.proofs.lemmas.Result.{err_from_is_err_and}
use Rattle.cdx_schema.specs.Kinds.{Kind}
use Rattle.cdx_machine.specs.Machines.{StepsChild, CanYield, YieldsAs}
use Rattle.cdx_machine.specs.Several.{at_position, reads_child}
use Rattle.cdx_machine.proofs.Children.{can_unboxed, can_finish, child_waits, child_put, child_refused, child_spoiled}
use Rattle.cdx_machine.proofs.frame.feed.Goals as goal

pub returns-in_err-step : goal.returns-in_err-step
returns-in_err-step g c =
    let q = err_from_is_err_and c.from_residual.result c.from_residual.ensures.1 in
    let f = g.F.Frame in
    let m = g.F.Child.Machines in
    rw (q.1, q.2) (subst (λ x. StepsChild (reads_child f.plan m.position_of m.holds) (f.slots c.args.part.now) (f.slots c.args.part.now) x c.args.child.value c.args.place c.args.event.now (Err c.in_err-step.field-0.0)) c.deref_mut.ensures.value
    (child_refused f.plan m.kinds g.met.F.Frame.child_kinds m.position_of m.holds m.tree c.deref_mut.result.now c.step.new.self c.in_err-step.ensures.runs c.args.place c.args.event.now (f.slots c.args.part.now) (f.slots c.args.part.now) c.args.child.value c.in_err-step.field-0.0 c.in_err-step.ensures.proceeds))

pub returns-then-not-branch : goal.returns-then-not-branch
returns-then-not-branch g c =
    let f = g.F.Frame in
    let m = g.F.Child.Machines in
    subst (λ x. StepsChild (reads_child f.plan m.position_of m.holds) (f.slots c.args.part.now) (f.slots c.args.part.now) x c.step.new.self c.args.place c.args.event.now (Ok false)) c.deref_mut.ensures.value
    (child_waits f.plan m.kinds g.met.F.Frame.child_kinds m.position_of m.holds m.tree c.deref_mut.result.now c.step.new.self c.in_ok-step.ensures.runs c.args.place c.args.event.now (f.slots c.args.part.now) (f.slots c.args.part.now) c.in_ok-step.field-0 c.if-not-branch.true refl c.in_ok-step.ensures.proceeds)

pub finish-requires : goal.finish-requires
finish-requires g c =
    let f = g.F.Frame in
    let m = g.F.Child.Machines in
    subst (λ x. CanYield m.holds x c.args.place c.args.event.now) (sym c.into_inner.ensures)
    (can_finish f.plan m.kinds g.met.F.Frame.child_kinds m.position_of m.holds m.tree c.deref_mut.result.now c.step.new.self c.in_ok-step.ensures.runs c.args.place c.args.event.now (f.slots c.args.part.now) (f.slots c.args.part.now) c.in_ok-step.field-0 c.if-not-branch.false c.in_ok-step.ensures.proceeds (can_unboxed f.plan m.kinds g.met.F.Frame.child_kinds m.position_of m.holds m.tree c.args.child c.deref_mut.result.now c.args.place c.args.event.now c.deref_mut.ensures.value c.requires))

pub returns-in_err-value : goal.returns-in_err-value
returns-in_err-value g c =
    let q = err_from_is_err_and c.from_residual-in_err-value.result c.from_residual-in_err-value.ensures.1 in
    let f = g.F.Frame in
    let m = g.F.Child.Machines in
    rw (q.1, q.2) (subst (λ x. StepsChild (reads_child f.plan m.position_of m.holds) (f.slots c.args.part.now) (f.slots c.args.part.now) x c.args.child.value c.args.place c.args.event.now (Err c.in_err-value.field-0.0)) c.deref_mut.ensures.value
    (child_spoiled f.plan m.kinds g.met.F.Frame.child_kinds m.position_of m.holds m.tree c.deref_mut.result.now c.step.new.self c.in_ok-step.ensures.runs c.args.place c.args.event.now (f.slots c.args.part.now) (f.slots c.args.part.now) c.in_ok-step.field-0 c.if-not-branch.false c.in_ok-step.ensures.proceeds c.args.child.value c.in_err-value.field-0.0 (subst (λ x. (k : Kind) → at_position m.kinds (m.position_of x) ≡ Some k → YieldsAs m.holds m.tree k x c.args.place c.args.event.now (Err c.in_err-value.field-0.0)) c.into_inner.ensures c.in_err-value.ensures.yields)))

pub returns : goal.returns
returns g c =
    let f = g.F.Frame in
    let m = g.F.Child.Machines in
    subst (λ x. StepsChild (reads_child f.plan m.position_of m.holds) (f.slots c.args.part.now) (f.slots c.put.new.self) x c.args.child.value c.args.place c.args.event.now (Ok true)) c.deref_mut.ensures.value
    (child_put f.plan m.kinds g.met.F.Frame.child_kinds m.position_of m.holds m.tree c.deref_mut.result.now c.step.new.self c.in_ok-step.ensures.runs c.args.place c.args.event.now (f.slots c.args.part.now) (f.slots c.put.new.self) c.in_ok-step.field-0 c.if-not-branch.false c.in_ok-step.ensures.proceeds c.args.child.value c.in_ok-value.value m.source (subst (λ x. (k : Kind) → at_position m.kinds (m.position_of x) ≡ Some k → YieldsAs m.holds m.tree k x c.args.place c.args.event.now (Ok c.in_ok-value.value)) c.into_inner.ensures c.in_ok-value.ensures.yields) (c.in_ok-value.ensures.source ∙ ap m.position_of c.into_inner.ensures) c.in_ok-put.ensures)
