use Rattle.std.proofs.Common.{sym, subst}
use Rattle.cdx_schema.specs.Early.{IsEarly}
use Rattle.cdx_push_reader.specs.PushAnswers.{reader_version}
use Rattle.cdx_push_reader.proofs.Readers.{reader_early}
use Rattle.cdx_push_reader.proofs.reader.DocumentReader.fault.Goals as goal

pub returns-clause-early : goal.returns-clause-early
returns-clause-early g c = λ events h s.
    subst (λ o. IsEarly (reader_version c.args.self.now) events o) (sym c.as_ref.ensures.value) (reader_early g.M.RootMachine.holds g.M.RootMachine.tree c.args.self.now events h s)
