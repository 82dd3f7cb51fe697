use Rattle.std.proofs.Common.{refl, sym, subst, [], ◌∷◌, ◌++◌}
use Rattle.std.proofs.lemmas.Result.{err_from_is_err_and}
use Rattle.cdx_models.specs.declared.bom.SpecVersion.{SpecVersion}
use Rattle.cdx_push_reader.specs.Pushed.{StandsAtStage, Outcome}
use Rattle.cdx_push_reader.proofs.Steps.{listens, reads_more, reads_fault, can_close, closes}
use Rattle.cdx_push_reader.proofs.Stands.{after_goes}
use Rattle.cdx_push_reader.proofs.hearing.Hearing.go_on.Goals as goal

pub step-requires : goal.step-requires
step-requires g c =
    let h = c.args.self.now in
    listens g.M.RootMachine.holds g.M.RootMachine.tree h.version c.in-Within.machine c.requires.events c.args.event.now
    (subst (λ x. StandsAtStage g.M.RootMachine.holds g.M.RootMachine.tree h.version x c.requires.events) c.in-Within.is c.requires.stands) c.requires.goes c.args.place c.requires.place_is

pub returns-in_err-step-in-Within-clause-moves : goal.returns-in_err-step-in-Within-clause-moves
returns-in_err-step-in-Within-clause-moves g c = λ events st go p.
    let q = err_from_is_err_and c.from_residual.result c.from_residual.ensures.1 in
    let h = c.args.self.now in
    rw (q.1, q.2) (reads_fault g.M.RootMachine.holds g.M.RootMachine.tree h.version c.in-Within.machine events c.args.event.now
    (subst (λ x. StandsAtStage g.M.RootMachine.holds g.M.RootMachine.tree h.version x events) c.in-Within.is st) go c.step.new.self c.args.place c.in_err-step-in-Within.field-0.0 c.in_err-step-in-Within.ensures p)

pub returns-then-not-branch-clause-moves : goal.returns-then-not-branch-clause-moves
returns-then-not-branch-clause-moves g c = λ events st go p.
    let h = c.args.self.now in
    reads_more g.M.RootMachine.holds g.M.RootMachine.tree h.version c.in-Within.machine events c.args.event.now
    (subst (λ x. StandsAtStage g.M.RootMachine.holds g.M.RootMachine.tree h.version x events) c.in-Within.is st) go c.step.new.self c.args.place c.in_ok-step-in-Within.field-0 c.if-not-branch.true c.in_ok-step-in-Within.ensures p

pub close-requires : goal.close-requires
close-requires g c =
    let h = c.args.self.now in
    let r = c.requires in
    (c.step.new.self, refl, can_close g.M.RootMachine.holds g.M.RootMachine.tree h.version c.in-Within.machine r.events c.args.event.now (subst (λ x. StandsAtStage g.M.RootMachine.holds g.M.RootMachine.tree h.version x r.events) c.in-Within.is r.stands) r.goes c.step.new.self c.args.place c.in_ok-step-in-Within.field-0 c.if-not-branch.false c.in_ok-step-in-Within.ensures r.place_is)

pub returns-else-not-branch-clause-moves : goal.returns-else-not-branch-clause-moves
returns-else-not-branch-clause-moves g c = λ events st go p.
    let h = c.args.self.now in
    subst (λ (v : SpecVersion). Outcome {A = Unit {0}} (λ u. StandsAtStage g.M.RootMachine.holds g.M.RootMachine.tree v c.close.new.self.stage (events ++ c.args.event.now ∷ [])) h.version (events ++ c.args.event.now ∷ []) c.close.result) (sym c.close.ensures.version)
    (closes g.M.RootMachine.holds g.M.RootMachine.tree h.version c.in-Within.machine events c.args.event.now (subst (λ x. StandsAtStage g.M.RootMachine.holds g.M.RootMachine.tree h.version x events) c.in-Within.is st) go c.step.new.self c.args.place c.in_ok-step-in-Within.field-0 c.if-not-branch.false c.in_ok-step-in-Within.ensures p c.close.new.self.stage c.close.result (c.close.ensures.closes c.step.new.self refl))

pub returns-in-After-clause-moves : goal.returns-in-After-clause-moves
returns-in-After-clause-moves g c = λ events st go p.
    let h = c.args.self.now in
    subst (λ x. StandsAtStage g.M.RootMachine.holds g.M.RootMachine.tree h.version x (events ++ c.args.event.now ∷ [])) (sym c.in-After.is)
    (after_goes g.M.RootMachine.holds g.M.RootMachine.tree h.version c.in-After.value events c.args.event.now (subst (λ x. StandsAtStage g.M.RootMachine.holds g.M.RootMachine.tree h.version x events) c.in-After.is st) go)
