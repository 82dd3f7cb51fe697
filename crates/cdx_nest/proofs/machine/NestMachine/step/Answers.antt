use Rattle.std.proofs.Common.{Some, None, Ok, Err, refl, sym, ◌∙◌}
use Rattle.std.proofs.lemmas.Result.{err_from_is_err_and}
use Rattle.cdx_schema.specs.Depths.{depth_of}
use Rattle.cdx_machine.proofs.Hearing.{listener_can, listener_answers, listener_heard}
use Rattle.cdx_machine.proofs.Yielding.{waits, fails}
use Rattle.cdx_nest.specs.Frames.{nest_kind, value_kind, value_tree}
use Rattle.cdx_nest.proofs.NestHearing.{held, stack_can_end, stack_ended, stack_of_root}
use Rattle.cdx_nest.proofs.machine.NestMachine.step.Goals as goal

pub step-requires : goal.step-requires
step-requires c =
    let m = c.args.self.now in
    let k = m.kind in
    let r = c.requires in
    let h = listener_can (λ m v p d o. held k m.below.items m.top m.version m.inside v p d o) (λ _. k) nest_kind value_tree k m.version m.place (depth_of m.depth) m.machine c.in-Some.machine c.in-Some.is c.args.place c.args.event.now r.events r.were_heard r.place_is r.goes_on in
    record { root = k; v = h.v; p = h.p; d = h.d; o = h.o; held = h.held; place_is = h.place_is; takes = h.takes }

pub finish-requires : goal.finish-requires
finish-requires c =
    let m = c.args.self.now in
    let k = m.kind in
    let r = c.requires in
    stack_can_end (λ k m v p d o. held k m.below.items m.top m.version m.inside v p d o) nest_kind value_tree value_kind k c.in-Some.machine c.step.new.self c.in-Some-take.machine (sym c.in-Some-take.is ∙ c.take.ensures.value) c.args.place c.args.event.now c.in-Ok-true.field-0 c.in-Ok-true.field-0-test c.in-Ok-true.ensures
    (listener_can (λ m v p d o. held k m.below.items m.top m.version m.inside v p d o) (λ _. k) nest_kind value_tree k m.version m.place (depth_of m.depth) m.machine c.in-Some.machine c.in-Some.is c.args.place c.args.event.now r.events r.were_heard r.place_is r.goes_on)

pub returns-in_err-finish-in-Ok-true-clause-answers : goal.returns-in_err-finish-in-Ok-true-clause-answers
returns-in_err-finish-in-Ok-true-clause-answers c = λ events h at b.
    let q = err_from_is_err_and c.from_residual.result c.from_residual.ensures.1 in
    let m = c.args.self.now in
    let k = m.kind in
    let f = c.in_err-finish-in-Ok-true in
    rw (q.1, q.2, c.take.ensures.after) (listener_answers (λ m v p d o. held k m.below.items m.top m.version m.inside v p d o) (λ _. k) nest_kind value_tree k m.version m.place (depth_of m.depth) m.machine c.in-Some.machine c.in-Some.is c.args.place c.args.event.now c.step.new.self refl (Err f.field-0.0) (Err f.field-0.0) refl (stack_ended (λ k m v p d o. held k m.below.items m.top m.version m.inside v p d o) nest_kind value_tree value_kind k c.in-Some.machine c.step.new.self c.in-Some-take.machine (sym c.in-Some-take.is ∙ c.take.ensures.value) c.args.place c.args.event.now c.in-Ok-true.field-0 c.in-Ok-true.field-0-test c.in-Ok-true.ensures (Err f.field-0.0) f.ensures) events h at b)

pub returns-in_ok-finish-in-Ok-true-clause-answers : goal.returns-in_ok-finish-in-Ok-true-clause-answers
returns-in_ok-finish-in-Ok-true-clause-answers c = λ events h at b.
    let m = c.args.self.now in
    let k = m.kind in
    let f = c.in_ok-finish-in-Ok-true in
    rw c.take.ensures.after (listener_answers (λ m v p d o. held k m.below.items m.top m.version m.inside v p d o) (λ _. k) nest_kind value_tree k m.version m.place (depth_of m.depth) m.machine c.in-Some.machine c.in-Some.is c.args.place c.args.event.now c.step.new.self refl (Ok (Some f.field-0)) (Ok (Some f.field-0)) refl (stack_ended (λ k m v p d o. held k m.below.items m.top m.version m.inside v p d o) nest_kind value_tree value_kind k c.in-Some.machine c.step.new.self c.in-Some-take.machine (sym c.in-Some-take.is ∙ c.take.ensures.value) c.args.place c.args.event.now c.in-Ok-true.field-0 c.in-Ok-true.field-0-test c.in-Ok-true.ensures (Ok f.field-0) f.ensures) events h at b)

-- A value is of the kind.
pub returns-in_ok-finish-in-Ok-true-clause-kind : goal.returns-in_ok-finish-in-Ok-true-clause-kind
returns-in_ok-finish-in-Ok-true-clause-kind c =
    let m = c.args.self.now in
    let k = m.kind in
    let r = c.requires in
    stack_of_root (λ k m v p d o. held k m.below.items m.top m.version m.inside v p d o) nest_kind value_tree value_kind k c.in-Some.machine c.step.new.self c.in-Some-take.machine (sym c.in-Some-take.is ∙ c.take.ensures.value) c.args.place c.args.event.now c.in-Ok-true.field-0 c.in-Ok-true.field-0-test c.in-Ok-true.ensures (Ok c.in_ok-finish-in-Ok-true.field-0) c.in_ok-finish-in-Ok-true.ensures
    (listener_can (λ m v p d o. held k m.below.items m.top m.version m.inside v p d o) (λ _. k) nest_kind value_tree k m.version m.place (depth_of m.depth) m.machine c.in-Some.machine c.in-Some.is c.args.place c.args.event.now r.events r.were_heard r.place_is r.goes_on)

pub returns-in-Ok-false-clause-answers : goal.returns-in-Ok-false-clause-answers
returns-in-Ok-false-clause-answers c = λ events h at b.
    let m = c.args.self.now in
    let k = m.kind in
    let t = c.in-Ok-false in
    listener_answers (λ m v p d o. held k m.below.items m.top m.version m.inside v p d o) (λ _. k) nest_kind value_tree k m.version m.place (depth_of m.depth) m.machine c.in-Some.machine c.in-Some.is c.args.place c.args.event.now c.step.new.self refl (Ok None) (Ok None) refl
    (waits (λ m v p d o. held k m.below.items m.top m.version m.inside v p d o) value_tree (nest_kind k) c.in-Some.machine c.step.new.self c.args.place c.args.event.now t.field-0 t.field-0-test (t.ensures k)) events h at b

pub returns-in-Ok-false-clause-heard : goal.returns-in-Ok-false-clause-heard
returns-in-Ok-false-clause-heard c = λ events h at b found.
    let m = c.args.self.now in
    let k = m.kind in
    let t = c.in-Ok-false in
    listener_heard (λ m v p d o. held k m.below.items m.top m.version m.inside v p d o) (λ _. k) nest_kind value_tree k m.version m.place (depth_of m.depth) m.machine c.in-Some.machine c.in-Some.is c.args.place c.args.event.now c.step.new.self refl (Ok None) (Ok None) refl
    (waits (λ m v p d o. held k m.below.items m.top m.version m.inside v p d o) value_tree (nest_kind k) c.in-Some.machine c.step.new.self c.args.place c.args.event.now t.field-0 t.field-0-test (t.ensures k)) events h at b

pub returns-in-Err-clause-answers : goal.returns-in-Err-clause-answers
returns-in-Err-clause-answers c = λ events h at b.
    let m = c.args.self.now in
    let k = m.kind in
    listener_answers (λ m v p d o. held k m.below.items m.top m.version m.inside v p d o) (λ _. k) nest_kind value_tree k m.version m.place (depth_of m.depth) m.machine c.in-Some.machine c.in-Some.is c.args.place c.args.event.now c.step.new.self refl (Err c.in-Err.error) (Err c.in-Err.error) refl
    (fails (λ m v p d o. held k m.below.items m.top m.version m.inside v p d o) value_tree (nest_kind k) c.in-Some.machine c.step.new.self c.args.place c.args.event.now c.in-Err.error (c.in-Err.ensures k)) events h at b
