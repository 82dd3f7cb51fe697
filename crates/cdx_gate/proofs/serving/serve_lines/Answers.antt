use Rattle.std.proofs.Common.{◌+◌, drop, arith, rules, sym, subst, ◌∙◌}
use Rattle.std.proofs.lemmas.List.{length-take}
use Rattle.cdx_gate.specs.Gate.{HasServed}
use Rattle.cdx_gate.proofs.Served.{flushed_on}
use Rattle.cdx_gate.proofs.Owed.{fault_ends, end_ends, turn_ends, turn_takes, beyond_ends, goes_on}
use Rattle.cdx_gate.proofs.serving.serve_lines.Goals as goal

pub returns-in-Err-clause-table : goal.returns-in-Err-clause-table
returns-in-Err-clause-table g c = fault_ends _ _ _ _ _ _ _ c.loop-count.invariant.so_far

pub returns-then-count-eq0-clause-table : goal.returns-then-count-eq0-clause-table
returns-then-count-eq0-clause-table g c =
    let written = g.K.Sink.written in
    end_ends c.args.limit c.loop-count.left _ _ _ _ (written c.loop-count.sink) (written c.answer_last.new.sink) c.loop-count.line.items c.take.new.buf c.in-Ok.count c.answer_last.result c.if-count-eq0.true c.loop-count.invariant.so_far c.in-Ok.ensures.bytes.0 (search rules) (λ taken first s. c.answer_last.ensures.table taken first (subst (λ h. HasServed taken first (written c.loop-count.sink) h) (sym c.as_slice.ensures.value) s))

pub returns-in-Err-answer_ended-clause-table : goal.returns-in-Err-answer_ended-clause-table
returns-in-Err-answer_ended-clause-table g c =
    let written = g.K.Sink.written in
    turn_ends c.args.limit c.loop-count.left _ _ _ _ (written c.loop-count.sink) (written c.answer_ended.new.sink) c.loop-count.line.items c.take.new.buf (drop (c.min-room.result + 1) c.loop-count.chunk) c.in-Ok.count c.min-within.result c.in-Err-answer_ended.status c.min-within.ensures c.in-Ok.ensures.bound.0 c.loop-count.invariant.so_far c.in-Ok.ensures.bytes.0 c.in-Err-answer_ended.ensures.err

pub returns-in-Err-answer_ended-clause-taken : goal.returns-in-Err-answer_ended-clause-taken
returns-in-Err-answer_ended-clause-taken g c =
    turn_takes c.args.limit c.loop-count.left _ _ _ _ _ c.loop-count.line.items c.take.new.buf c.in-Ok.count c.in-Ok.ensures.bound.0 (omega (arith, c.in-Ok.ensures.bound.0, c.take.auto.buf, length-take (c.min-room.result + 1) c.loop-count.chunk, c.min-room.ensures)) c.loop-count.invariant.so_far c.in-Ok.ensures.bytes.0

pub returns-then-within-count-clause-table : goal.returns-then-within-count-clause-table
returns-then-within-count-clause-table g c =
    let written = g.K.Sink.written in
    beyond_ends c.args.limit c.loop-count.left _ _ _ _ (written c.loop-count.sink) (written c.answer_ended.new.sink) c.loop-count.line.items c.answer_ended.new.line.items c.take.new.buf (drop (c.min-room.result + 1) c.loop-count.chunk) c.in-Ok.count c.min-within.result c.min-within.ensures c.if-within-count.true c.in-Ok.ensures.bound.0 c.loop-count.invariant.so_far c.in-Ok.ensures.bytes.0 c.in_default.ensures.ok

pub returns-then-within-count-clause-taken : goal.returns-then-within-count-clause-taken
returns-then-within-count-clause-taken g c =
    turn_takes c.args.limit c.loop-count.left _ _ _ _ _ c.loop-count.line.items c.take.new.buf c.in-Ok.count c.in-Ok.ensures.bound.0 (omega (arith, c.in-Ok.ensures.bound.0, c.take.auto.buf, length-take (c.min-room.result + 1) c.loop-count.chunk, c.min-room.ensures)) c.loop-count.invariant.so_far c.in-Ok.ensures.bytes.0

pub loop-count-preserved : goal.loop-count-preserved
loop-count-preserved g c =
    let written = g.K.Sink.written in
    let i = c.loop-count.invariant in
    let ended = c.in_default.ensures in
    record {
      few = ended.few;
      within = omega (arith, i.within);
      so_far = goes_on c.args.limit c.loop-count.left _ _ _ _ (written c.loop-count.sink) (written c.answer_ended.new.sink) c.loop-count.line.items c.answer_ended.new.line.items c.take.new.buf (drop (c.min-room.result + 1) c.loop-count.chunk) c.in-Ok.count c.min-within.result c.min-within.ensures c.if-within-count.false c.in-Ok.ensures.bound.0 i.so_far c.in-Ok.ensures.bytes.0 ended.ok;
      flushed = flushed_on written g.K.Sink.flushed c.args.sink.now c.loop-count.sink c.answer_ended.new.sink i.flushed ended.flushed;
      source_sound = c.in-Ok.ensures.cause.ok ∙ i.source_sound;
      sink_sound = ended.ok_cause ∙ i.sink_sound;
    }
