use Rattle.cdx_events.proofs.Broken.{not_alive}
use Rattle.cdx_push_reader.proofs.Gathered.{in_balance, hears_of, ends_out, ends_short, ends_faulty, ends_whole}
use Rattle.cdx_push_reader.proofs.gathering.Gathering.finish.Goals as goal

pub returns-in-Imbalance : goal.returns-in-Imbalance
returns-in-Imbalance g c = λ events f p.
    let s = c.args.self in
    rw c.unbalanced.ensures (ends_out g.M.RootMachine.holds g.M.RootMachine.tree s.hearing s.found c.in-Imbalance.place events c.in-Imbalance.is f)

pub returns-then-not-whole : goal.returns-then-not-whole
returns-then-not-whole g c = λ events f p.
    let s = c.args.self in
    let b = in_balance g.M.RootMachine.holds g.M.RootMachine.tree s.hearing s.found events (λ q i. c.in_default.not-Imbalance q i) f in
    rw c.unbalanced-then-not-whole.ensures (ends_short g.M.RootMachine.holds g.M.RootMachine.tree s.hearing s.found c.args.count events (λ q i. c.in_default.not-Imbalance q i) f p
    (λ w. not_alive c.whole.result ((c.whole.ensures events b.1).1 w) c.if-not-whole.true))

pub returns-in-Fault : goal.returns-in-Fault
returns-in-Fault g c = λ events f p.
    let s = c.args.self in
    let b = in_balance g.M.RootMachine.holds g.M.RootMachine.tree s.hearing s.found events (λ q i. c.in_default.not-Imbalance q i) f in
    ends_faulty g.M.RootMachine.holds g.M.RootMachine.tree s.hearing s.found c.in-Fault.fault events c.in-Fault.is f ((c.whole.ensures events b.1).0 c.if-not-whole.false)

pub returns-in_default-found : goal.returns-in_default-found
returns-in_default-found g c = λ events f p.
    let s = c.args.self in
    let h = hears_of g.M.RootMachine.holds g.M.RootMachine.tree s.hearing s.found events (λ q i. c.in_default.not-Imbalance q i) (λ x i. c.in_default-found.not-Fault x i) f in
    ends_whole g.M.RootMachine.holds g.M.RootMachine.tree s.hearing events c.finish.result ((c.whole.ensures events h.0).0 c.if-not-whole.false) (c.finish.ensures.answer events h p)
