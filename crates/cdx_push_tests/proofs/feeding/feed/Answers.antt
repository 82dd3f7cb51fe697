use Rattle.std.proofs.Common.{[], ◌∷◌, ◌++◌, None, Ok, sym, ◌∙◌, subst}
use Rattle.cdx_events.specs.declared.name.Namespace.{Namespace}
use Rattle.cdx_schema.specs.Depth.{top}
use Rattle.cdx_leaf.proofs.Whole.{start_is}
use Rattle.cdx_machine.specs.Heard.{Answers, IsListening}
use Rattle.cdx_push.specs.Leaf.{kind_of, value_tree}
use Rattle.cdx_push.specs.LeafSteps.{IsMore, step_or_fault}
use Rattle.cdx_push.specs.declared.kinds.LeafStep.{LeafStep}
use Rattle.cdx_push_tests.proofs.Fed.{heard, fed_first, fed_never, fed_begins, fed_on}
use Rattle.cdx_push_tests.proofs.feeding.feed.Goals as goal

pub events-init : goal.events-init
events-init c =
    let i = c.requires.inside in
    let m = c.in-Ok.machine in
    let e = c.in-Ok.ensures in
    let s : Namespace = record { default = None } in
    record { fed = fed_first (heard m) (IsListening m.machine) m.place i.p c.args.element.now c.args.attributes.now s i.nodes i.rest c.args.reader.now i.stands (e.made.2 ∙ start_is c.args.reader.now.place c.place-start.result i.p (sym c.place-start.ensures) i.stands.place) e.made.3 ((e.opens s).answers.1) }

pub unreachable-requires : goal.unreachable-requires
unreachable-requires c =
    let m = c.events.machine in
    fed_never (heard m) (IsListening m.machine) m.place c.events.reader c.events.invariant.fed c.in_default.ensures.takes.0

pub step-requires : goal.step-requires
step-requires c =
    let m = c.events.machine in
    let f = c.events.invariant.fed in
    let t = c.in-Some.ensures.takes in
    record {
      listens = f.listens;
      events = f.events;
      were_heard = f.were_heard;
      place_is = c.place-place.ensures ∙ f.place_is;
      goes_on = fed_begins (heard m) (IsListening m.machine) m.place c.events.reader c.next.new.self c.in-Some.event.now t.0 t.1 f;
    }

pub events-preserved : goal.events-preserved
events-preserved c =
    let m = c.events.machine in
    let n = c.step.new.self in
    let f = c.events.invariant.fed in
    let t = c.in-Some.ensures.takes in
    let at = c.place-place.ensures ∙ f.place_is in
    let begins = fed_begins (heard m) (IsListening m.machine) m.place c.events.reader c.next.new.self c.in-Some.event.now t.0 t.1 f in
    let e = c.in-Ok-More.ensures in
    let more = c.in-Ok-More.field-0-is in
    let listens = e.listening (subst (λ (r : LeafStep). IsMore (Ok r)) (sym more) tt) in
    let answers = subst (λ (r : LeafStep). Answers (heard n) value_tree m.version (kind_of m.kind) m.place top c.place-place.result (f.events ++ c.in-Some.event.now ∷ []) (step_or_fault (Ok r))) more (e.answers f.events f.were_heard at begins) in
    record { fed = fed_on (heard m) (IsListening m.machine) m.place c.events.reader c.next.new.self c.in-Some.event.now t.0 t.1 f (heard n) (IsListening n.machine) n.place e.kept.2 listens (e.heard f.events f.were_heard at begins (λ h. h)) answers.answers.1 }
