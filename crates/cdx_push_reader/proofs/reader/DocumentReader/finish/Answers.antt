use Rattle.std.proofs.Common.{subst}
use Rattle.cdx_schema.specs.Early.{IsEarly}
use Rattle.cdx_push_reader.proofs.Readers.{reader_early, early_ends, not_want}
use Rattle.cdx_push_reader.proofs.reader.DocumentReader.finish.Goals as goal

pub returns-in-Some-refused-clause-answer : goal.returns-in-Some-refused-clause-answer
returns-in-Some-refused-clause-answer g c = λ events h s.
    let r = c.args.self in
    early_ends g.M.RootMachine.tree r.hearing.version events c.in-Some-refused.fault (subst (λ o. IsEarly r.hearing.version events o) c.in-Some-refused.is (reader_early g.M.RootMachine.holds g.M.RootMachine.tree r events h s))

pub returns-in-Some-refused-clause-sound : goal.returns-in-Some-refused-clause-sound
returns-in-Some-refused-clause-sound g c = λ events h s.
    let r = c.args.self in
    not_want g.M.RootMachine.tree r.hearing.version events c.in-Some-refused.fault (subst (λ o. IsEarly r.hearing.version events o) c.in-Some-refused.is (reader_early g.M.RootMachine.holds g.M.RootMachine.tree r events h s))
