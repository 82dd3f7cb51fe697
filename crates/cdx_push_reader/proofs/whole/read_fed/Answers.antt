use Rattle.std.proofs.Common.{[], subst, ◌∙◌, rules}
use Rattle.cdx_events.specs.Nodes.{IsBalanced}
use Rattle.cdx_push_reader.specs.PushAnswers.{reader_version, is_spent}
use Rattle.cdx_push_reader.specs.Documents.{ReadsDocument}
use Rattle.cdx_push_reader.proofs.Documents.{reads_document, reads_shallow, reads_refused, answered}
use Rattle.cdx_push_reader.proofs.whole.read_fed.Goals as goal

pub feed-requires : goal.feed-requires
feed-requires g c = ([], c.new-reader.ensures.heard, search rules)

pub returns-clause-reads : goal.returns-clause-reads
returns-clause-reads g c =
    let piece = c.as_slice.ensures in
    reads_document g.M.RootMachine.tree c.args.version c.args.events.now.list (subst IsBalanced piece.items piece.balanced) c.finish.result
    (answered g.M.RootMachine.tree (reader_version c.feed.new.self) c.args.version c.as_slice.result.now c.args.events.now.list c.finish.result (is_spent c.feed.new.self)
    (λ s. c.finish.ensures.answer c.as_slice.result.now (c.feed.ensures.heard [] c.new-reader.ensures.heard) s) (λ s. c.finish.ensures.again s) (c.feed.ensures.version ∙ c.new-reader.ensures.version) piece.items)

pub returns-clause-shallow : goal.returns-clause-shallow
returns-clause-shallow g c =
    let piece = c.as_slice.ensures in
    let r : ReadsDocument g.M.RootMachine.tree c.args.events.now.list c.args.version c.finish.result = returns-clause-reads g c in
    reads_shallow g.M.RootMachine.tree c.args.version c.args.events.now.list (subst IsBalanced piece.items piece.balanced) c.finish.result r

pub returns-clause-faults : goal.returns-clause-faults
returns-clause-faults g c =
    let piece = c.as_slice.ensures in
    let r : ReadsDocument g.M.RootMachine.tree c.args.events.now.list c.args.version c.finish.result = returns-clause-reads g c in
    reads_refused g.M.RootMachine.tree c.args.version c.args.events.now.list (subst IsBalanced piece.items piece.balanced) c.finish.result r
