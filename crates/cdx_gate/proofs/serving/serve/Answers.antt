use Rattle.std.proofs.Common.{rules, tests}
use Rattle.cdx_gate.proofs.Owed.{words_end}
use Rattle.cdx_gate.proofs.serving.serve.Goals as goal

pub returns-else-is_empty-clause-table : goal.returns-else-is_empty-clause-table
returns-else-is_empty-clause-table g c =
    words_end g.K.Sink.written c.args.words.now c.args.limit c.answer_words.result _ c.args.sink.now c.answer_words.new.sink _ _ _ (search (rules, tests)) c.answer_words.ensures.table
