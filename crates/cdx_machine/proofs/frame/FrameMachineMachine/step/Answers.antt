use Rattle.std.proofs.Common.{sym, ap, ◌∙◌}
use Rattle.std.proofs.lemmas.Result.{err_from_is_err_and}
use Rattle.cdx_events.specs.Event.{event_kind}
use Rattle.cdx_machine.specs.declared.frame.Inside.TheVariants.{Nothing, Read, Skipped}
use Rattle.cdx_machine.specs.Frames.{read_as}
use Rattle.cdx_machine.specs.Several.{reads_boxed}
use Rattle.cdx_machine.proofs.FrameSteps.{own_enters_by, own_start_fails_by, own_end, own_text, own_text_fails, child_fed, child_fails, child_skipped, skip_fits, inside_is}
use Rattle.cdx_machine.proofs.frame.FrameMachineMachine.step.Goals as goal

pub returns-in_err-self-in-Read : goal.returns-in_err-self-in-Read
returns-in_err-self-in-Read g c = λ v p d o h is t.
    let q = err_from_is_err_and c.from_residual.result c.from_residual.ensures.1 in
    let f = g.F.Frame in
    let m = c.args.self.now in
    rw (q.1, q.2) (child_fails (read_as f.kind) f.plan f.first f.last g.met.F.Frame.frame (reads_boxed f.plan g.F.Child.Machines.position_of g.F.Child.Machines.holds) f.slots _ v p d m.name m.version _ (f.slots m.part) (f.slots c.feed.new.part) c.in-Read.child c.in-Read.child o c.args.place c.args.event.now c.in_err-self-in-Read.field-0.0 (inside_is (read_as f.kind) f.plan f.first f.last g.met.F.Frame.frame (reads_boxed f.plan g.F.Child.Machines.position_of g.F.Child.Machines.holds) f.slots (Unit {0}) v p d m.name m.version (f.slots m.part) m.inside (Read c.in-Read.child) o h (sym c.replace.ensures.value ∙ c.in-Read.is)) is t c.in_err-self-in-Read.ensures)

pub returns-in_ok-self-in-Read : goal.returns-in_ok-self-in-Read
returns-in_ok-self-in-Read g c = λ v p d o h is t.
    let f = g.F.Frame in
    let m = c.args.self.now in
    child_fed (read_as f.kind) f.plan f.first f.last g.met.F.Frame.frame (reads_boxed f.plan g.F.Child.Machines.position_of g.F.Child.Machines.holds) f.slots _ v p d m.name m.version m.part c.feed.new.part c.in-Read.child c.in_ok-self-in-Read.field-0 o c.args.place c.args.event.now (inside_is (read_as f.kind) f.plan f.first f.last g.met.F.Frame.frame (reads_boxed f.plan g.F.Child.Machines.position_of g.F.Child.Machines.holds) f.slots (Unit {0}) v p d m.name m.version (f.slots m.part) m.inside (Read c.in-Read.child) o h (sym c.replace.ensures.value ∙ c.in-Read.is)) is t c.in_ok-self-in-Read.ensures

pub returns-in-Skipped : goal.returns-in-Skipped
returns-in-Skipped g c = λ v p d o h is t.
    let f = g.F.Frame in
    let m = c.args.self.now in
    child_skipped (read_as f.kind) f.plan f.first f.last g.met.F.Frame.frame (reads_boxed f.plan g.F.Child.Machines.position_of g.F.Child.Machines.holds) f.slots _ v p d m.name m.version (f.slots m.part) c.in-Skipped.depth c.skip.result o c.args.event.now c.skip.ensures (inside_is (read_as f.kind) f.plan f.first f.last g.met.F.Frame.frame (reads_boxed f.plan g.F.Child.Machines.position_of g.F.Child.Machines.holds) f.slots (Unit {0}) v p d m.name m.version (f.slots m.part) m.inside (Skipped c.in-Skipped.depth) o h (sym c.replace.ensures.value ∙ c.in-Skipped.is)) t

pub skip-requires : goal.skip-requires
skip-requires g c =
    let f = g.F.Frame in
    let m = c.args.self.now in
    let v = c.requires.v in
    let p = c.requires.p in
    let d = c.requires.d in
    let o = c.requires.o in
    let h = c.requires.held in
    skip_fits (read_as f.kind) f.plan f.first f.last g.met.F.Frame.frame (reads_boxed f.plan g.F.Child.Machines.position_of g.F.Child.Machines.holds) f.slots (Unit {0}) v p d m.name m.version (f.slots m.part) c.in-Skipped.depth c.args.place o (inside_is (read_as f.kind) f.plan f.first f.last g.met.F.Frame.frame (reads_boxed f.plan g.F.Child.Machines.position_of g.F.Child.Machines.holds) f.slots (Unit {0}) v p d m.name m.version (f.slots m.part) m.inside (Skipped c.in-Skipped.depth) o h (sym c.replace.ensures.value ∙ c.in-Skipped.is)) c.requires.place_is

pub returns-in_err-self-in-StartElement : goal.returns-in_err-self-in-StartElement
returns-in_err-self-in-StartElement g c = λ v p d o h is t.
    let q = err_from_is_err_and c.from_residual-in_err-self-in-StartElement.result c.from_residual-in_err-self-in-StartElement.ensures.1 in
    let f = g.F.Frame in
    let m = c.args.self.now in
    rw (q.1, q.2) (own_start_fails_by (read_as f.kind) f.plan f.first f.last g.met.F.Frame.frame (reads_boxed f.plan g.F.Child.Machines.position_of g.F.Child.Machines.holds) f.slots _ v p d m.name m.version m.part _ o c.args.place c.args.event.now c.in-StartElement.name c.in-StartElement.attributes c.in-StartElement.namespace c.in_err-self-in-StartElement.field-0.0 c.in-StartElement.is (inside_is (read_as f.kind) f.plan f.first f.last g.met.F.Frame.frame (reads_boxed f.plan g.F.Child.Machines.position_of g.F.Child.Machines.holds) f.slots (Unit {0}) v p d m.name m.version (f.slots m.part) m.inside Nothing o h (sym c.replace.ensures.value ∙ c.in-Nothing.is)) is (c.in_err-self-in-StartElement.ensures (ap event_kind c.in-StartElement.is) d c.in-StartElement.namespace))

pub returns-in_ok-self-in-StartElement : goal.returns-in_ok-self-in-StartElement
returns-in_ok-self-in-StartElement g c = λ v p d o h is t.
    let f = g.F.Frame in
    let m = c.args.self.now in
    own_enters_by (read_as f.kind) f.plan f.first f.last g.met.F.Frame.frame (reads_boxed f.plan g.F.Child.Machines.position_of g.F.Child.Machines.holds) f.slots _ v p d m.name m.version m.part o c.args.place c.args.event.now c.in-StartElement.name c.in-StartElement.attributes c.in-StartElement.namespace c.in_ok-self-in-StartElement.field-0 c.in-StartElement.is (inside_is (read_as f.kind) f.plan f.first f.last g.met.F.Frame.frame (reads_boxed f.plan g.F.Child.Machines.position_of g.F.Child.Machines.holds) f.slots (Unit {0}) v p d m.name m.version (f.slots m.part) m.inside Nothing o h (sym c.replace.ensures.value ∙ c.in-Nothing.is)) is (c.in_ok-self-in-StartElement.ensures (ap event_kind c.in-StartElement.is) d c.in-StartElement.namespace)

pub returns-in-EndElement : goal.returns-in-EndElement
returns-in-EndElement g c = λ v p d o h is t.
    let f = g.F.Frame in
    let m = c.args.self.now in
    let here = (inside_is (read_as f.kind) f.plan f.first f.last g.met.F.Frame.frame (reads_boxed f.plan g.F.Child.Machines.position_of g.F.Child.Machines.holds) f.slots (Unit {0}) v p d m.name m.version (f.slots m.part) m.inside Nothing o h (sym c.replace.ensures.value ∙ c.in-Nothing.is)) in
    own_end (read_as f.kind) f.plan f.first f.last g.met.F.Frame.frame (reads_boxed f.plan g.F.Child.Machines.position_of g.F.Child.Machines.holds) f.slots _ v p d m.name m.version _ (f.slots m.part) o c.args.event.now c.in-EndElement.name c.in-EndElement.is here
    (inside_is (read_as f.kind) f.plan f.first f.last g.met.F.Frame.frame (reads_boxed f.plan g.F.Child.Machines.position_of g.F.Child.Machines.holds) f.slots (Unit {0}) v p d m.name m.version (f.slots m.part) Nothing c.replace.new.dest o here (sym c.replace.ensures.after))

pub returns-then-not-passes : goal.returns-then-not-passes
returns-then-not-passes g c = λ v p d o h is t.
    let f = g.F.Frame in
    let m = c.args.self.now in
    own_text_fails (read_as f.kind) f.plan f.first f.last g.met.F.Frame.frame (reads_boxed f.plan g.F.Child.Machines.position_of g.F.Child.Machines.holds) f.slots _ v p d m.name m.version m.part _ c.rule.result o c.args.place c.args.event.now c.refuse_in.result (inside_is (read_as f.kind) f.plan f.first f.last g.met.F.Frame.frame (reads_boxed f.plan g.F.Child.Machines.position_of g.F.Child.Machines.holds) f.slots (Unit {0}) v p d m.name m.version (f.slots m.part) m.inside Nothing o h (sym c.replace.ensures.value ∙ c.in-Nothing.is)) is t c.rule.ensures (sym c.passes.ensures ∙ c.if-not-passes.true) c.in_default.not-StartElement c.in_default.not-EndElement c.refuse_in.ensures

pub returns-else-not-passes : goal.returns-else-not-passes
returns-else-not-passes g c = λ v p d o h is t.
    let f = g.F.Frame in
    let m = c.args.self.now in
    own_text (read_as f.kind) f.plan f.first f.last g.met.F.Frame.frame (reads_boxed f.plan g.F.Child.Machines.position_of g.F.Child.Machines.holds) f.slots _ v p d m.name m.version m.part c.replace.new.dest c.rule.result o c.args.place c.args.event.now (inside_is (read_as f.kind) f.plan f.first f.last g.met.F.Frame.frame (reads_boxed f.plan g.F.Child.Machines.position_of g.F.Child.Machines.holds) f.slots (Unit {0}) v p d m.name m.version (f.slots m.part) m.inside Nothing o h (sym c.replace.ensures.value ∙ c.in-Nothing.is)) t c.rule.ensures (sym c.passes.ensures ∙ c.if-not-passes.false) c.in_default.not-StartElement c.in_default.not-EndElement c.replace.ensures.after
