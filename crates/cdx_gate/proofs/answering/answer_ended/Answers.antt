use Rattle.std.proofs.Common.{◌++◌, [], ◌∷◌, inr, length, take, arith, ap, ◌∙◌}
use Rattle.std.proofs.lemmas.Result.{err_from_is_err_and}
use Rattle.cdx_gate.specs.Lines.{line_feed}
use Rattle.cdx_gate.proofs.Served.{rest_after, turned_on, stops_among, stands_all, stops_all, weaker}
use Rattle.cdx_gate.proofs.answering.answer_ended.Goals as goal

pub returns-in_err-end_line-clause-err : goal.returns-in_err-end_line-clause-err
returns-in_err-end_line-clause-err g c = λ taken first s.
    let q = err_from_is_err_and c.from_residual.result c.from_residual.ensures.1 in
    let found = c.in-Some.ensures in
    let o = c.loop-at.invariant.so_far in
    rw (q.1, q.2) (stops_among taken c.args.bytes.now o.0 c.loop-at.rest.now c.loop-at.line.items c.in-Some.at c.in_err-end_line.field-0.0 first (g.K.Sink.written c.loop-at.sink) (g.K.Sink.written c.end_line.new.sink) o.1 found.0 found.1 found.2 (o.2 taken first s) (weaker g.K.Sink.written _ _ _ _ _ c.in_err-end_line.ensures.err))

pub loop-at-preserved : goal.loop-at-preserved
loop-at-preserved g c =
    let found = c.in-Some.ensures in
    let o = c.loop-at.invariant.so_far in
    let rest = c.loop-at.rest.now in
    let p = take c.in-Some.at rest in
    let ended = c.in_ok-end_line.ensures in
    record {
      few = omega (arith, c.end_line.new.line.ok.0, ap length ended.none);
      so_far = (o.0 ++ (p ++ line_feed ∷ []), rest_after c.args.bytes.now o.0 rest c.in-Some.at o.1 found.0 found.1, λ taken first s. turned_on taken o.0 p c.loop-at.line.items c.end_line.new.line.items first (g.K.Sink.written c.loop-at.sink) (g.K.Sink.written c.end_line.new.sink) found.2 ended.none (o.2 taken first s) ended.ok);
      flushed = inr ended.flushed;
      sound = ended.ok_cause ∙ c.loop-at.invariant.sound;
    }

pub returns-in-Ok-clause-ok : goal.returns-in-Ok-clause-ok
returns-in-Ok-clause-ok g c = λ taken first s.
    let o = c.loop-at.invariant.so_far in
    stands_all taken c.args.bytes.now o.0 c.loop-at.rest.now c.loop-at.line.items c.hold.new.line.items first (g.K.Sink.written c.loop-at.sink) o.1 c.in_default.ensures (o.2 taken first s) c.in-Ok.ensures.items

pub returns-in-Err-clause-err : goal.returns-in-Err-clause-err
returns-in-Err-clause-err g c = λ taken first s.
    let o = c.loop-at.invariant.so_far in
    stops_all taken c.args.bytes.now o.0 c.loop-at.rest.now c.loop-at.line.items first (g.K.Sink.written c.loop-at.sink) o.1 c.in_default.ensures (o.2 taken first s)
