use Rattle.std.proofs.Common.{◌+◌, None, sym, ◌∙◌, subst}
use Rattle.std.proofs.lemmas.Result.{err_from_is_err_and}
use Rattle.cdx_events.specs.declared.name.Namespace.{Namespace}
use Rattle.cdx_schema.specs.Depths.{depth_of}
use Rattle.cdx_leaf.specs.Reading.{behind_end}
use Rattle.cdx_events.specs.Nodes.{element, no_nodes}
use Rattle.cdx_schema.specs.XmlReading.{xread}
use Rattle.cdx_machine.specs.Begun.{innermost}
use Rattle.cdx_machine.specs.Machines.{RefusesBefore}
use Rattle.cdx_leaf.proofs.Whole.{start_is}
use Rattle.cdx_machine.proofs.Feeding.{feeds_first, feeds_takes, feeds_on, feeds_never, feeds_refused, feeds_fails, feeds_ends}
use Rattle.cdx_machine.proofs.Yielding.{waits, fails}
use Rattle.cdx_nest_machine.specs.Frames.{leaf_holds, shape_of, stack_holds}
use Rattle.cdx_nest_machine.proofs.Fed.{stack_can_yield, root_ends, root_value}
use Rattle.cdx_nest_machine.proofs.reading.read_element.Goals as goal

pub returns-in_err-machine-clause-reads : goal.returns-in_err-machine-clause-reads
returns-in_err-machine-clause-reads g c = λ d s p nodes rest st.
    let q = err_from_is_err_and c.from_residual.result c.from_residual.ensures.1 in
    let f = g.F.Nested in
    let e = g.F.Leaf.Leaves in
    let x = c.in_err-machine.field-0.0 in
    rw (q.1, q.2) (feeds_refused f.tree (f.as_kind c.args.sort) c.args.opened.now.version c.args.opened.now.element.now c.args.opened.now.attributes.now s p nodes rest (depth_of c.args.depth) c.args.reader.now (behind_end c.args.reader.now nodes rest) x (g.met.F.Nested.no_bill c.args.sort) st
    (subst (λ i. RefusesBefore x (i + 1) (xread (element c.args.opened.now.element.now c.args.opened.now.attributes.now s no_nodes) c.args.opened.now.version (f.as_kind c.args.sort) i (depth_of c.args.depth))) (start_is c.args.reader.now.place c.place.result p (sym c.place.ensures) st.place) (c.in_err-machine.ensures s)))

pub events-init : goal.events-init
events-init g c =
    let f = g.F.Nested in
    let e = g.F.Leaf.Leaves in
    record {
      fed = λ s p nodes rest st.
          feeds_first (λ m v p d o. stack_holds (shape_of f.as_kind f.sort_of f.fields f.child_of) (leaf_holds f.as_kind f.child_of e.sort_of e.holds) f.sort_of f.fields c.args.sort m.below.items m.top m.version m.inside v p d o) c.args.opened.now.version c.args.opened.now.element.now c.args.opened.now.attributes.now s p nodes rest (depth_of c.args.depth) c.args.reader.now c.in_ok-machine.machine st
          (subst (λ i. stack_holds (shape_of f.as_kind f.sort_of f.fields f.child_of) (leaf_holds f.as_kind f.child_of e.sort_of e.holds) f.sort_of f.fields c.args.sort c.in_ok-machine.machine.below.items c.in_ok-machine.machine.top c.in_ok-machine.machine.version c.in_ok-machine.machine.inside c.args.opened.now.version i (depth_of c.args.depth) (innermost c.args.opened.now.element.now c.args.opened.now.attributes.now s no_nodes)) (start_is c.args.reader.now.place c.place.result p (sym c.place.ensures) st.place) (c.in_ok-machine.ensures s).0);
    }

pub unreachable-requires : goal.unreachable-requires
unreachable-requires g c =
    let i = c.requires in
    let z : Namespace = record { default = None } in
    let f = g.F.Nested in
    let e = g.F.Leaf.Leaves in
    feeds_never (λ m v p d o. stack_holds (shape_of f.as_kind f.sort_of f.fields f.child_of) (leaf_holds f.as_kind f.child_of e.sort_of e.holds) f.sort_of f.fields c.args.sort m.below.items m.top m.version m.inside v p d o) c.args.opened.now.version c.args.opened.now.element.now c.args.opened.now.attributes.now z i.p i.nodes i.rest (depth_of c.args.depth) c.events.reader c.events.machine (c.events.invariant.fed z i.p i.nodes i.rest i.stands) c.in_default.ensures.takes.0

pub step-requires : goal.step-requires
step-requires g c =
    let i = c.requires in
    let z : Namespace = record { default = None } in
    let f = g.F.Nested in
    let e = g.F.Leaf.Leaves in
    let x = c.events.invariant.fed z i.p i.nodes i.rest i.stands in
    let t = c.in-Some.ensures.takes in
    record { root = c.args.sort; v = c.args.opened.now.version; p = i.p; d = depth_of c.args.depth; o = x.o; held = x.held; place_is = c.place-place.ensures ∙ x.at; takes = feeds_takes (λ m v p d o. stack_holds (shape_of f.as_kind f.sort_of f.fields f.child_of) (leaf_holds f.as_kind f.child_of e.sort_of e.holds) f.sort_of f.fields c.args.sort m.below.items m.top m.version m.inside v p d o) c.args.opened.now.version c.args.opened.now.element.now c.args.opened.now.attributes.now z i.p i.nodes i.rest (depth_of c.args.depth) c.events.reader c.next.new.self c.in-Some.event.now t.0 t.1 c.events.machine x }

pub returns-in_err-step-clause-reads : goal.returns-in_err-step-clause-reads
returns-in_err-step-clause-reads g c = λ d s p nodes rest st.
    let q = err_from_is_err_and c.from_residual-in_err-step.result c.from_residual-in_err-step.ensures.1 in
    let f = g.F.Nested in
    let e = g.F.Leaf.Leaves in
    let x = c.events.invariant.fed s p nodes rest st in
    let t = c.in-Some.ensures.takes in
    rw (q.1, q.2) (feeds_fails (λ m v p d o. stack_holds (shape_of f.as_kind f.sort_of f.fields f.child_of) (leaf_holds f.as_kind f.child_of e.sort_of e.holds) f.sort_of f.fields c.args.sort m.below.items m.top m.version m.inside v p d o) f.tree (f.as_kind c.args.sort) c.args.opened.now.version c.args.opened.now.element.now c.args.opened.now.attributes.now s p nodes rest (depth_of c.args.depth) c.args.reader.now c.events.reader c.next.new.self c.in-Some.event.now t.0 t.1 c.events.machine c.step.new.self c.place-place.result x st c.place-place.ensures (behind_end c.args.reader.now nodes rest) c.in_err-step.field-0.0 (g.met.F.Nested.no_bill c.args.sort)
    (fails (λ m v p d o. stack_holds (shape_of f.as_kind f.sort_of f.fields f.child_of) (leaf_holds f.as_kind f.child_of e.sort_of e.holds) f.sort_of f.fields c.args.sort m.below.items m.top m.version m.inside v p d o) f.tree (f.as_kind c.args.sort) c.events.machine c.step.new.self c.place-place.result c.in-Some.event.now c.in_err-step.field-0.0 (c.in_err-step.ensures c.args.sort)))

pub finish-requires : goal.finish-requires
finish-requires g c =
    let i = c.requires in
    let z : Namespace = record { default = None } in
    let f = g.F.Nested in
    let e = g.F.Leaf.Leaves in
    let x = c.events.invariant.fed z i.p i.nodes i.rest i.stands in
    let t = c.in-Some.ensures.takes in
    stack_can_yield (λ root m v p d o. stack_holds (shape_of f.as_kind f.sort_of f.fields f.child_of) (leaf_holds f.as_kind f.child_of e.sort_of e.holds) f.sort_of f.fields root m.below.items m.top m.version m.inside v p d o) f.as_kind c.events.machine c.step.new.self c.place-place.result c.in-Some.event.now c.in_ok-step.field-0 c.if-branch.true c.in_ok-step.ensures (record { root = c.args.sort; v = c.args.opened.now.version; p = i.p; d = depth_of c.args.depth; o = x.o; held = x.held; place_is = c.place-place.ensures ∙ x.at; takes = feeds_takes (λ m v p d o. stack_holds (shape_of f.as_kind f.sort_of f.fields f.child_of) (leaf_holds f.as_kind f.child_of e.sort_of e.holds) f.sort_of f.fields c.args.sort m.below.items m.top m.version m.inside v p d o) c.args.opened.now.version c.args.opened.now.element.now c.args.opened.now.attributes.now z i.p i.nodes i.rest (depth_of c.args.depth) c.events.reader c.next.new.self c.in-Some.event.now t.0 t.1 c.events.machine x })

pub returns-then-branch-clause-reads : goal.returns-then-branch-clause-reads
returns-then-branch-clause-reads g c = λ d s p nodes rest st.
    let f = g.F.Nested in
    let e = g.F.Leaf.Leaves in
    let x = c.events.invariant.fed s p nodes rest st in
    let t = c.in-Some.ensures.takes in
    feeds_ends (λ m v p d o. stack_holds (shape_of f.as_kind f.sort_of f.fields f.child_of) (leaf_holds f.as_kind f.child_of e.sort_of e.holds) f.sort_of f.fields c.args.sort m.below.items m.top m.version m.inside v p d o) f.tree (f.as_kind c.args.sort) c.args.opened.now.version c.args.opened.now.element.now c.args.opened.now.attributes.now s p nodes rest (depth_of c.args.depth) c.args.reader.now c.events.reader c.next.new.self c.in-Some.event.now t.0 t.1 c.events.machine c.step.new.self c.place-place.result x st c.place-place.ensures c.finish.result (g.met.F.Nested.no_bill c.args.sort)
    (root_ends (λ root m v p d o. stack_holds (shape_of f.as_kind f.sort_of f.fields f.child_of) (leaf_holds f.as_kind f.child_of e.sort_of e.holds) f.sort_of f.fields root m.below.items m.top m.version m.inside v p d o) f.as_kind c.events.machine c.step.new.self c.place-place.result c.in-Some.event.now c.in_ok-step.field-0 c.if-branch.true c.in_ok-step.ensures f.tree f.value_sort c.finish.result c.args.sort c.finish.ensures)

pub returns-then-branch-clause-sort : goal.returns-then-branch-clause-sort
returns-then-branch-clause-sort g c =
    let i = c.requires in
    let z : Namespace = record { default = None } in
    let f = g.F.Nested in
    let e = g.F.Leaf.Leaves in
    let x = c.events.invariant.fed z i.p i.nodes i.rest i.stands in
    let t = c.in-Some.ensures.takes in
    root_value (λ root m v p d o. stack_holds (shape_of f.as_kind f.sort_of f.fields f.child_of) (leaf_holds f.as_kind f.child_of e.sort_of e.holds) f.sort_of f.fields root m.below.items m.top m.version m.inside v p d o) f.as_kind c.events.machine c.step.new.self c.place-place.result c.in-Some.event.now c.in_ok-step.field-0 c.if-branch.true c.in_ok-step.ensures f.tree f.value_sort c.finish.result c.args.sort c.args.opened.now.version i.p (depth_of c.args.depth) x.o x.held (c.place-place.ensures ∙ x.at) (feeds_takes (λ m v p d o. stack_holds (shape_of f.as_kind f.sort_of f.fields f.child_of) (leaf_holds f.as_kind f.child_of e.sort_of e.holds) f.sort_of f.fields c.args.sort m.below.items m.top m.version m.inside v p d o) c.args.opened.now.version c.args.opened.now.element.now c.args.opened.now.attributes.now z i.p i.nodes i.rest (depth_of c.args.depth) c.events.reader c.next.new.self c.in-Some.event.now t.0 t.1 c.events.machine x) c.finish.ensures

pub events-preserved : goal.events-preserved
events-preserved g c =
    let f = g.F.Nested in
    let e = g.F.Leaf.Leaves in
    record {
      fed = λ s p nodes rest st.
          let x = c.events.invariant.fed s p nodes rest st in
          let t = c.in-Some.ensures.takes in
          feeds_on (λ m v p d o. stack_holds (shape_of f.as_kind f.sort_of f.fields f.child_of) (leaf_holds f.as_kind f.child_of e.sort_of e.holds) f.sort_of f.fields c.args.sort m.below.items m.top m.version m.inside v p d o) c.args.opened.now.version c.args.opened.now.element.now c.args.opened.now.attributes.now s p nodes rest (depth_of c.args.depth) c.events.reader c.next.new.self c.in-Some.event.now t.0 t.1 f.tree (f.as_kind c.args.sort) c.events.machine c.step.new.self c.place-place.result x c.place-place.ensures
          (waits (λ m v p d o. stack_holds (shape_of f.as_kind f.sort_of f.fields f.child_of) (leaf_holds f.as_kind f.child_of e.sort_of e.holds) f.sort_of f.fields c.args.sort m.below.items m.top m.version m.inside v p d o) f.tree (f.as_kind c.args.sort) c.events.machine c.step.new.self c.place-place.result c.in-Some.event.now c.in_ok-step.field-0 c.if-branch.false (c.in_ok-step.ensures c.args.sort));
    }
