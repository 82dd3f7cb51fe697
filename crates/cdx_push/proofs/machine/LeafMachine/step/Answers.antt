use Rattle.std.proofs.Common.{◌≡◌, ℕ, Bool, true, Some, None, Result, Ok, Err, refl, sym, ◌∙◌, subst}
use Rattle.std.proofs.lemmas.Result.{err_from_is_err_and}
use Rattle.cdx_events.specs.declared.event.XmlEvent.{XmlEvent}
use Rattle.cdx_models.specs.declared.errors.XmlReadError.{XmlReadError}
use Rattle.cdx_schema.specs.Depth.{top}
use Rattle.cdx_machine.specs.Machines.{CanStep, CanYield, ProceedsAs, YieldsAs, StepsAs}
use Rattle.cdx_machine.proofs.Hearing.{listener_can, listener_answers, listener_heard}
use Rattle.cdx_machine.proofs.Yielding.{waits, fails, ends_with, ended_with, can_yield}
use Rattle.cdx_push.specs.Leaf.{kind_of, leaf_kind, value_tree}
use Rattle.cdx_push.specs.declared.kinds.LeafKind.{LeafKind}
use Rattle.cdx_push.specs.declared.kinds.LeafValue.{LeafValue}
use Rattle.cdx_push.specs.declared.leaf.Leaf.{Leaf}
use Rattle.cdx_push.specs.contracts.leaf.LeafLeaves.TheImpl.{ghosts}
use Rattle.cdx_push.proofs.machine.LeafMachine.step.Goals as goal
use Rattle.cdx_schema.proofs.Basics.{some_same}

-- The machine that is finished is the one that the step left.
module _ (old new ended : Leaf) (is : Some ended ≡ Some new) (place : ℕ) (event : XmlEvent) (b : Bool) (ends : b ≡ true) (proceeds : ProceedsAs ghosts.holds (kind_of (leaf_kind old)) old new place event (Ok b)) where
  can_end : CanStep ghosts.holds old place event → CanYield ghosts.holds ended place event
  can_end h = subst (λ (x : Leaf). CanYield ghosts.holds x place event) (sym (some_same is)) (can_yield ghosts.holds value_tree (kind_of (leaf_kind old)) old new place event b ends h proceeds)

  ended_steps : leaf_kind new ≡ leaf_kind old → (r : Result LeafValue XmlReadError) → YieldsAs ghosts.holds value_tree (kind_of (leaf_kind ended)) ended place event r → StepsAs ghosts.holds value_tree (kind_of (leaf_kind old)) old new place event (ended_with r)
  ended_steps same r yields =
      ends_with ghosts.holds value_tree (kind_of (leaf_kind old)) old new place event b r ends proceeds
      (subst (λ (k : LeafKind). YieldsAs ghosts.holds value_tree (kind_of k) new place event r) same
      (subst (λ (x : Leaf). YieldsAs ghosts.holds value_tree (kind_of (leaf_kind x)) x place event r) (some_same is) yields))

pub step-requires : goal.step-requires
step-requires c =
    let m = c.args.self.now in
    let r = c.requires in
    listener_can ghosts.holds leaf_kind kind_of value_tree m.kind m.version m.place top m.machine c.in-Some.leaf c.in-Some.is c.args.place c.args.event.now r.events r.were_heard r.place_is r.goes_on

pub finish-requires : goal.finish-requires
finish-requires c =
    let m = c.args.self.now in
    let r = c.requires in
    let t = c.in-Ok-true in
    can_end c.in-Some.leaf c.step.new.self c.in-Some-take.ended (sym c.in-Some-take.is ∙ c.take.ensures.value) c.args.place c.args.event.now t.field-0 t.field-0-test t.ensures.proceeds
    (listener_can ghosts.holds leaf_kind kind_of value_tree m.kind m.version m.place top m.machine c.in-Some.leaf c.in-Some.is c.args.place c.args.event.now r.events r.were_heard r.place_is r.goes_on)

pub returns-in_err-finish-in-Ok-true-clause-answers : goal.returns-in_err-finish-in-Ok-true-clause-answers
returns-in_err-finish-in-Ok-true-clause-answers c = λ events h at b.
    let q = err_from_is_err_and c.from_residual.result c.from_residual.ensures.1 in
    let m = c.args.self.now in
    let t = c.in-Ok-true in
    let f = c.in_err-finish-in-Ok-true in
    rw (q.1, q.2, c.take.ensures.after) (listener_answers ghosts.holds leaf_kind kind_of value_tree m.kind m.version m.place top m.machine c.in-Some.leaf c.in-Some.is c.args.place c.args.event.now c.step.new.self t.ensures.same (Err f.field-0.0) (Err f.field-0.0) refl
    (ended_steps c.in-Some.leaf c.step.new.self c.in-Some-take.ended (sym c.in-Some-take.is ∙ c.take.ensures.value) c.args.place c.args.event.now t.field-0 t.field-0-test t.ensures.proceeds t.ensures.same (Err f.field-0.0) f.ensures.yields)
    events h at b)

pub returns-in_ok-finish-in-Ok-true-clause-answers : goal.returns-in_ok-finish-in-Ok-true-clause-answers
returns-in_ok-finish-in-Ok-true-clause-answers c = λ events h at b.
    let m = c.args.self.now in
    let t = c.in-Ok-true in
    let f = c.in_ok-finish-in-Ok-true in
    rw c.take.ensures.after (listener_answers ghosts.holds leaf_kind kind_of value_tree m.kind m.version m.place top m.machine c.in-Some.leaf c.in-Some.is c.args.place c.args.event.now c.step.new.self t.ensures.same (Ok (Some f.field-0)) (Ok (Some f.field-0)) refl
    (ended_steps c.in-Some.leaf c.step.new.self c.in-Some-take.ended (sym c.in-Some-take.is ∙ c.take.ensures.value) c.args.place c.args.event.now t.field-0 t.field-0-test t.ensures.proceeds t.ensures.same (Ok f.field-0) f.ensures.yields)
    events h at b)

pub returns-in-Ok-false-clause-answers : goal.returns-in-Ok-false-clause-answers
returns-in-Ok-false-clause-answers c = λ events h at b.
    let m = c.args.self.now in
    let t = c.in-Ok-false in
    listener_answers ghosts.holds leaf_kind kind_of value_tree m.kind m.version m.place top m.machine c.in-Some.leaf c.in-Some.is c.args.place c.args.event.now c.step.new.self t.ensures.same (Ok None) (Ok None) refl
    (waits ghosts.holds value_tree (kind_of (leaf_kind c.in-Some.leaf)) c.in-Some.leaf c.step.new.self c.args.place c.args.event.now t.field-0 t.field-0-test t.ensures.proceeds)
    events h at b

pub returns-in-Ok-false-clause-heard : goal.returns-in-Ok-false-clause-heard
returns-in-Ok-false-clause-heard c = λ events h at b found.
    let m = c.args.self.now in
    let t = c.in-Ok-false in
    listener_heard ghosts.holds leaf_kind kind_of value_tree m.kind m.version m.place top m.machine c.in-Some.leaf c.in-Some.is c.args.place c.args.event.now c.step.new.self t.ensures.same (Ok None) (Ok None) refl
    (waits ghosts.holds value_tree (kind_of (leaf_kind c.in-Some.leaf)) c.in-Some.leaf c.step.new.self c.args.place c.args.event.now t.field-0 t.field-0-test t.ensures.proceeds)
    events h at b

pub returns-in-Err-clause-answers : goal.returns-in-Err-clause-answers
returns-in-Err-clause-answers c = λ events h at b.
    let m = c.args.self.now in
    let e = c.in-Err.ensures in
    listener_answers ghosts.holds leaf_kind kind_of value_tree m.kind m.version m.place top m.machine c.in-Some.leaf c.in-Some.is c.args.place c.args.event.now c.step.new.self e.same (Err c.in-Err.error) (Err c.in-Err.error) refl
    (fails ghosts.holds value_tree (kind_of (leaf_kind c.in-Some.leaf)) c.in-Some.leaf c.step.new.self c.args.place c.args.event.now c.in-Err.error e.proceeds)
    events h at b
