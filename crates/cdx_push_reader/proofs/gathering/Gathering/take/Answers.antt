use Rattle.std.specs.Prelude.{Err}
use Rattle.std.proofs.Common.{[], ◌∷◌, ◌++◌, refl, sym, subst}
use Rattle.cdx_events.proofs.Broken.{not_alive}
use Rattle.cdx_events.specs.Balance as balances
use Rattle.cdx_push_reader.specs.Pushed.{Outcome}
use Rattle.cdx_push_reader.proofs.Gathered.{in_balance, hears_of, still_out, comes_out, still_faulty, still_nothing, finds_fault}
use Rattle.cdx_push_reader.proofs.gathering.Gathering.take.Goals as goal

pub returns-in-Imbalance-clause-gathered : goal.returns-in-Imbalance-clause-gathered
returns-in-Imbalance-clause-gathered g c = λ events f p.
    let s = c.args.self.now in
    still_out g.M.RootMachine.holds g.M.RootMachine.tree s.hearing s.found c.in-Imbalance.place events c.args.event.now c.in-Imbalance.is f

pub returns-then-not-branch-clause-gathered : goal.returns-then-not-branch-clause-gathered
returns-then-not-branch-clause-gathered g c = λ events f p.
    let s = c.args.self.now in
    let b = in_balance g.M.RootMachine.holds g.M.RootMachine.tree s.hearing s.found events (λ q i. c.in_default.not-Imbalance q i) f in
    let alive = c.in_ok-step.ensures.alive events b.1 in
    comes_out g.M.RootMachine.holds g.M.RootMachine.tree s.hearing s.found c.args.place events c.args.event.now (λ q i. c.in_default.not-Imbalance q i) f p
    (λ go. not_alive c.in_ok-step.field-0 (alive.1 go) c.if-not-branch.true)

pub returns-in-Fault-clause-gathered : goal.returns-in-Fault-clause-gathered
returns-in-Fault-clause-gathered g c = λ events f p.
    let s = c.args.self.now in
    let b = in_balance g.M.RootMachine.holds g.M.RootMachine.tree s.hearing s.found events (λ q i. c.in_default.not-Imbalance q i) f in
    still_faulty g.M.RootMachine.holds g.M.RootMachine.tree s.hearing (record { alloc = s.hearing.alloc; version = s.hearing.version; balance = c.step.new.self; stage = s.hearing.stage }) s.found c.in-Fault.fault events c.args.event.now c.in-Fault.is f refl
    ((c.in_ok-step.ensures.alive events b.1).0 c.if-not-branch.false) (c.in_ok-step.ensures.heard events b.1)

pub returns-in_ok-self-clause-gathered : goal.returns-in_ok-self-clause-gathered
returns-in_ok-self-clause-gathered g c = λ events f p.
    let s = c.args.self.now in
    let h = hears_of g.M.RootMachine.holds g.M.RootMachine.tree s.hearing s.found events (λ q i. c.in_default.not-Imbalance q i) (λ x i. c.in_default-found.not-Fault x i) f in
    let go = (c.in_ok-step.ensures.alive events h.0).0 c.if-not-branch.false in
    finds_fault g.M.RootMachine.holds g.M.RootMachine.tree c.go_on.new.self c.in_ok-self.field-0 c.in-Err.error (events ++ c.args.event.now ∷ []) c.in_ok-self.ensures go
    (subst (λ b. balances.heard b (events ++ c.args.event.now ∷ [])) (sym c.in-Err.ensures.balance) (c.in_ok-step.ensures.heard events h.0))
    (subst (λ v. Outcome {A = Unit {0}} (λ u. Unit {0}) v (events ++ c.args.event.now ∷ []) (Err c.in-Err.error)) (sym c.in-Err.ensures.version) (c.in-Err.ensures.moves events h.1 go p))

pub returns-in_default-go_on-clause-gathered : goal.returns-in_default-go_on-clause-gathered
returns-in_default-go_on-clause-gathered g c = λ events f p.
    let s = c.args.self.now in
    let h = hears_of g.M.RootMachine.holds g.M.RootMachine.tree s.hearing s.found events (λ q i. c.in_default.not-Imbalance q i) (λ x i. c.in_default-found.not-Fault x i) f in
    let go = (c.in_ok-step.ensures.alive events h.0).0 c.if-not-branch.false in
    still_nothing g.M.RootMachine.holds g.M.RootMachine.tree c.go_on.new.self s.found (events ++ c.args.event.now ∷ []) (λ q i. c.in_default.not-Imbalance q i) (λ x i. c.in_default-found.not-Fault x i) go
    (subst (λ b. balances.heard b (events ++ c.args.event.now ∷ [])) (sym c.in_default-go_on.ensures.balance) (c.in_ok-step.ensures.heard events h.0), c.in_default-go_on.ensures.moves events h.1 go p)
