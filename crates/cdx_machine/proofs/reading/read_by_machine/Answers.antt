use Rattle.std.proofs.Common.{◌+◌, None, sym, ◌∙◌, subst}
use Rattle.std.proofs.lemmas.Result.{err_from_is_err_and}
use Rattle.cdx_events.specs.Nodes.{element, no_nodes}
use Rattle.cdx_schema.specs.Depth.{top}
use Rattle.cdx_schema.specs.XmlReading.{xread}
use Rattle.cdx_leaf.specs.Reading.{behind_end}
use Rattle.cdx_leaf.proofs.Whole.{start_is}
use Rattle.cdx_machine.specs.Begun.{innermost}
use Rattle.cdx_machine.specs.Machines.{RefusesBefore}
use Rattle.cdx_machine.proofs.Feeding.{feeds_first, feeds_takes, feeds_on, feeds_never, feeds_refused, feeds_fails, feeds_ends}
use Rattle.cdx_machine.proofs.Yielding.{waits, fails, ends_with, can_yield}
use Rattle.cdx_machine.proofs.reading.read_by_machine.Goals as goal

pub returns-in_err-machine : goal.returns-in_err-machine
returns-in_err-machine g c = λ d s p nodes rest st.
    let q = err_from_is_err_and c.from_residual.result c.from_residual.ensures.1 in
    let e = c.in_err-machine.field-0.0 in
    rw (q.1, q.2) (feeds_refused g.M.Machine.tree g.M.Machine.kind c.args.version c.args.element.now c.args.attributes.now s p nodes rest d c.args.reader.now (behind_end c.args.reader.now nodes rest) e c.requires.kind st
    (subst (λ i. RefusesBefore e (i + 1) (xread (element c.args.element.now c.args.attributes.now s no_nodes) c.args.version g.M.Machine.kind i d)) (start_is c.args.reader.now.place c.place.result p (sym c.place.ensures) st.place) (c.in_err-machine.ensures d s)))

pub events-init : goal.events-init
events-init g c = record {
  fed = λ d s p nodes rest st.
      feeds_first g.M.Machine.holds c.args.version c.args.element.now c.args.attributes.now s p nodes rest d c.args.reader.now c.in_ok-machine.machine st
      (subst (λ i. g.M.Machine.holds c.in_ok-machine.machine c.args.version i d (innermost c.args.element.now c.args.attributes.now s no_nodes)) (start_is c.args.reader.now.place c.place.result p (sym c.place.ensures) st.place) (c.in_ok-machine.ensures d s).0);
}

pub unreachable-requires : goal.unreachable-requires
unreachable-requires g c =
    let i = c.requires.inside in
    feeds_never g.M.Machine.holds c.args.version c.args.element.now c.args.attributes.now (record { default = None }) i.p i.nodes i.rest top c.events.reader c.events.machine (c.events.invariant.fed top (record { default = None }) i.p i.nodes i.rest i.stands) c.in_default.ensures.takes.0

pub step-requires : goal.step-requires
step-requires g c =
    let i = c.requires.inside in
    let f = c.events.invariant.fed top (record { default = None }) i.p i.nodes i.rest i.stands in
    let t = c.in-Some.ensures.takes in
    record { v = c.args.version; p = i.p; d = top; o = f.o; held = f.held; place_is = c.place-place.ensures ∙ f.at; takes = feeds_takes g.M.Machine.holds c.args.version c.args.element.now c.args.attributes.now (record { default = None }) i.p i.nodes i.rest top c.events.reader c.next.new.self c.in-Some.event.now t.0 t.1 c.events.machine f }

pub returns-in_err-step : goal.returns-in_err-step
returns-in_err-step g c = λ d s p nodes rest st.
    let q = err_from_is_err_and c.from_residual-in_err-step.result c.from_residual-in_err-step.ensures.1 in
    let f = c.events.invariant.fed d s p nodes rest st in
    let t = c.in-Some.ensures.takes in
    rw (q.1, q.2) (feeds_fails g.M.Machine.holds g.M.Machine.tree g.M.Machine.kind c.args.version c.args.element.now c.args.attributes.now s p nodes rest d c.args.reader.now c.events.reader c.next.new.self c.in-Some.event.now t.0 t.1 c.events.machine c.step.new.self c.place-place.result f st c.place-place.ensures (behind_end c.args.reader.now nodes rest) c.in_err-step.field-0.0 c.requires.kind
    (fails g.M.Machine.holds g.M.Machine.tree g.M.Machine.kind c.events.machine c.step.new.self c.place-place.result c.in-Some.event.now c.in_err-step.field-0.0 c.in_err-step.ensures))

pub finish-requires : goal.finish-requires
finish-requires g c =
    let i = c.requires.inside in
    let f = c.events.invariant.fed top (record { default = None }) i.p i.nodes i.rest i.stands in
    let t = c.in-Some.ensures.takes in
    can_yield g.M.Machine.holds g.M.Machine.tree g.M.Machine.kind c.events.machine c.step.new.self c.place-place.result c.in-Some.event.now c.in_ok-step.field-0 c.if-branch.true
    (record { v = c.args.version; p = i.p; d = top; o = f.o; held = f.held; place_is = c.place-place.ensures ∙ f.at; takes = feeds_takes g.M.Machine.holds c.args.version c.args.element.now c.args.attributes.now (record { default = None }) i.p i.nodes i.rest top c.events.reader c.next.new.self c.in-Some.event.now t.0 t.1 c.events.machine f })
    c.in_ok-step.ensures

pub returns-then-branch : goal.returns-then-branch
returns-then-branch g c = λ d s p nodes rest st.
    let f = c.events.invariant.fed d s p nodes rest st in
    let t = c.in-Some.ensures.takes in
    feeds_ends g.M.Machine.holds g.M.Machine.tree g.M.Machine.kind c.args.version c.args.element.now c.args.attributes.now s p nodes rest d c.args.reader.now c.events.reader c.next.new.self c.in-Some.event.now t.0 t.1 c.events.machine c.step.new.self c.place-place.result f st c.place-place.ensures c.finish.result c.requires.kind
    (ends_with g.M.Machine.holds g.M.Machine.tree g.M.Machine.kind c.events.machine c.step.new.self c.place-place.result c.in-Some.event.now c.in_ok-step.field-0 c.finish.result c.if-branch.true c.in_ok-step.ensures c.finish.ensures)

pub events-preserved : goal.events-preserved
events-preserved g c = record {
  fed = λ d s p nodes rest st.
      let f = c.events.invariant.fed d s p nodes rest st in
      let t = c.in-Some.ensures.takes in
      feeds_on g.M.Machine.holds c.args.version c.args.element.now c.args.attributes.now s p nodes rest d c.events.reader c.next.new.self c.in-Some.event.now t.0 t.1 g.M.Machine.tree g.M.Machine.kind c.events.machine c.step.new.self c.place-place.result f c.place-place.ensures
      (waits g.M.Machine.holds g.M.Machine.tree g.M.Machine.kind c.events.machine c.step.new.self c.place-place.result c.in-Some.event.now c.in_ok-step.field-0 c.if-branch.false c.in_ok-step.ensures);
}
