use Rattle.std.proofs.Common.{◌++◌, sym, subst, None, Err}
use Rattle.cdx_schema.specs.Early.{IsEarly}
use Rattle.cdx_push_reader.specs.Pushed.{Hears}
use Rattle.cdx_push_reader.specs.PushAnswers.{Feeds}
use Rattle.cdx_push_reader.proofs.Readers.{refused_of, still_refused, fed_more, hears_of, hears_none, feeds_fault}
use Rattle.cdx_push_reader.proofs.reader.DocumentReader.feed.Goals as goal

pub returns-in-Some-refused-clause-answer : goal.returns-in-Some-refused-clause-answer
returns-in-Some-refused-clause-answer g c = λ events h.
    let r = c.args.self.now in
    (c.in-Some-refused.fault, refused_of r.hearing.version (Hears g.M.RootMachine.holds g.M.RootMachine.tree r.hearing events) r.spent r.refused c.in-Some-refused.fault events c.args.piece.now h.1 c.in_default.is c.in-Some-refused.is, sym c.place_of.ensures)

pub returns-in-Some-refused-clause-heard : goal.returns-in-Some-refused-clause-heard
returns-in-Some-refused-clause-heard g c = λ events h.
    let r = c.args.self.now in
    (fed_more r.fed events c.args.piece.now h.0, still_refused r.hearing.version (Hears g.M.RootMachine.holds g.M.RootMachine.tree r.hearing events) (Hears g.M.RootMachine.holds g.M.RootMachine.tree r.hearing (events ++ c.args.piece.now)) r.spent r.refused c.in-Some-refused.fault events c.args.piece.now h.1 c.in_default.is c.in-Some-refused.is)

pub returns-in-Ok-clause-answer : goal.returns-in-Ok-clause-answer
returns-in-Ok-clause-answer g c = λ events h.
    let r = c.args.self.now in
    let e = hears_of r.hearing.version (Hears g.M.RootMachine.holds g.M.RootMachine.tree r.hearing events) r.spent r.refused events h.1 c.in_default.is c.in_default-refused.is in
    subst (λ v. IsEarly v (events ++ c.args.piece.now) None) c.in-Ok.ensures.version (hears_none g.M.RootMachine.holds g.M.RootMachine.tree c.hear_all.new.self (events ++ c.args.piece.now) (c.in-Ok.ensures.hears events e h.0))

pub returns-in-Err-clause-answer : goal.returns-in-Err-clause-answer
returns-in-Err-clause-answer g c = λ events h.
    let r = c.args.self.now in
    let e = hears_of r.hearing.version (Hears g.M.RootMachine.holds g.M.RootMachine.tree r.hearing events) r.spent r.refused events h.1 c.in_default.is c.in_default-refused.is in
    subst (λ x. Feeds r.hearing.version (events ++ c.args.piece.now) (Err x)) (sym c.refuse.ensures.error) (feeds_fault r.hearing.version (events ++ c.args.piece.now) c.in-Err.error (c.in-Err.ensures.hears events e h.0))
