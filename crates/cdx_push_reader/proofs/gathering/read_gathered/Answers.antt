use Rattle.std.proofs.Common.{◌≡◌, ◌+◌, [], ◌∷◌, ◌++◌, length, refl, sym, ◌∙◌, arith, length-append}
use Rattle.std.proofs.lemmas.Result.{err_from_is_err_and}
use Rattle.cdx_events.proofs.Taken.{nothing_lost}
use Rattle.cdx_push_reader.proofs.Sources.{at_end, at_failure, at_want, at_close, takes_more, at_limit}
use Rattle.cdx_push_reader.proofs.gathering.read_gathered.Goals as goal

pub loop-taken-init : goal.loop-taken-init
loop-taken-init g c = record {
  events = [];
  after = nothing_lost (g.E.EventSource.left c.args.source.now);
  sound = refl;
  count = refl;
  no_end = refl;
  utf8 = refl;
  gathered = c.new-gathering.ensures.gathered;
  version = c.new-gathering.ensures.version;
}

pub returns-in-Ok-None : goal.returns-in-Ok-None
returns-in-Ok-None g c =
    let s = g.E.EventSource in
    let i = c.loop-taken.invariant in
    let n = rw c.in-Ok-None.field-0-is at c.in-Ok-None.ensures.events in
    let a = at_end g.M.RootMachine.holds g.M.RootMachine.tree c.loop-taken.gathering c.args.version (s.left c.args.source.now) (s.left c.loop-taken.source) (s.left c.next.new.self) (s.faults c.args.source.now) (s.faults c.loop-taken.source) (s.faults c.next.new.self) c.loop-taken.taken c.args.budget i
    c.finish.result c.loop-taken-test.true n c.in-Ok-None.ensures.cause.ok (c.finish.ensures i.events i.gathered (sym i.count)) in
    record { source = a.0; shallow = a.1; sound = a.2 }

pub returns-in-Err : goal.returns-in-Err
returns-in-Err g c =
    let s = g.E.EventSource in
    let i = c.loop-taken.invariant in
    let a = at_failure g.M.RootMachine.holds g.M.RootMachine.tree c.loop-taken.gathering c.args.version (s.left c.args.source.now) (s.left c.loop-taken.source) (s.left c.next.new.self) (s.faults c.args.source.now) (s.faults c.loop-taken.source) (s.faults c.next.new.self) c.loop-taken.taken c.args.budget i
    c.loop-taken-test.true c.in-Err.ensures.events c.in-Err.ensures.cause.failed in
    record { source = a.0; shallow = a.1; sound = a.2 }

pub take-requires : goal.take-requires
take-requires g c = let i = c.loop-taken.invariant in (i.events, i.gathered, sym i.count)

pub returns-in_err-take : goal.returns-in_err-take
returns-in_err-take g c =
    let s = g.E.EventSource in
    let i = c.loop-taken.invariant in
    let n = rw c.in-Ok-Some.field-0-is at c.in-Ok-Some.ensures.events in
    let q = err_from_is_err_and c.from_residual.result c.from_residual.ensures.1 in
    let a = at_want g.M.RootMachine.holds g.M.RootMachine.tree c.loop-taken.gathering c.args.version (s.left c.args.source.now) (s.left c.loop-taken.source) (s.left c.next.new.self) (s.faults c.args.source.now) (s.faults c.loop-taken.source) (s.faults c.next.new.self) c.loop-taken.taken c.args.budget i
    c.in-Ok-Some.event c.in_err-take.field-0.0 c.loop-taken-test.true n c.in-Ok-Some.ensures.cause.later in
    rw (q.1, q.2) (record { source = a.0; shallow = a.1; sound = a.2 })

pub returns-then-is_end : goal.returns-then-is_end
returns-then-is_end g c =
    let s = g.E.EventSource in
    let i = c.loop-taken.invariant in
    let n = rw c.in-Ok-Some.field-0-is at c.in-Ok-Some.ensures.events in
    let e = c.in-Ok-Some.event in
    let next = c.take.new.self in
    let all : c.loop-taken.taken + 1 ≡ length (i.events ++ e ∷ []) = omega (arith, length-append i.events (e ∷ []), i.count) in
    let a = at_close g.M.RootMachine.holds g.M.RootMachine.tree c.loop-taken.gathering c.args.version (s.left c.args.source.now) (s.left c.loop-taken.source) (s.left c.next.new.self) (s.faults c.args.source.now) (s.faults c.loop-taken.source) (s.faults c.next.new.self) c.loop-taken.taken c.args.budget i
    e next.hearing.version c.finish-then-is_end.result c.loop-taken-test.true n c.in-Ok-Some.ensures.cause.ok c.tell.ensures (sym c.is_end.ensures ∙ c.if-is_end.true) c.in_ok-take.ensures.version
    (c.finish-then-is_end.ensures (i.events ++ e ∷ []) (c.in_ok-take.ensures.gathered i.events i.gathered (sym i.count)) all) in
    record { source = a.0; shallow = a.1; sound = a.2 }

pub loop-taken-preserved : goal.loop-taken-preserved
loop-taken-preserved g c =
    let s = g.E.EventSource in
    let i = c.loop-taken.invariant in
    let n = rw c.in-Ok-Some.field-0-is at c.in-Ok-Some.ensures.events in
    takes_more g.M.RootMachine.holds g.M.RootMachine.tree c.loop-taken.gathering c.args.version (s.left c.args.source.now) (s.left c.loop-taken.source) (s.left c.next.new.self) (s.faults c.args.source.now) (s.faults c.loop-taken.source) (s.faults c.next.new.self) c.loop-taken.taken c.args.budget i
    c.take.new.self c.in-Ok-Some.event n c.in-Ok-Some.ensures.cause.ok c.tell.ensures (sym c.is_end.ensures ∙ c.if-is_end.false) c.in_ok-take.ensures.version (c.in_ok-take.ensures.gathered i.events i.gathered (sym i.count))

pub returns : goal.returns
returns g c =
    let s = g.E.EventSource in
    let i = c.loop-taken.invariant in
    let a = at_limit g.M.RootMachine.holds g.M.RootMachine.tree c.loop-taken.gathering c.args.version (s.left c.args.source.now) (s.left c.loop-taken.source) (s.faults c.args.source.now) (s.faults c.loop-taken.source) c.loop-taken.taken c.args.budget i (omega (arith, c.loop-taken-test.false, c.loop-taken.auto.taken-end)) in
    record { source = a.0; shallow = a.1; sound = a.2 }
