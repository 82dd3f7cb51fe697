use Rattle.std.proofs.Common.{[], ◌++◌, refl, arith, length-append}
use Rattle.cdx_push_reader_tests.proofs.feeding.feed_each.Goals as goal

pub pieces-init : goal.pieces-init
pieces-init c = record { fed = ([], c.new-reader.ensures.heard, refl) }

pub feed-answer-requires : goal.feed-answer-requires
feed-answer-requires c = let f = c.pieces.invariant.fed in (f.0, f.1, omega (arith, f.2, c.if-piece-count.false))

pub pieces-preserved : goal.pieces-preserved
pieces-preserved c =
    let f = c.pieces.invariant.fed in
    let piece = c.piece-item.result.now in
    record { fed = (f.0 ++ piece, c.feed-answer.ensures.heard f.0 f.1, omega (arith, length-append f.0 piece, f.2)) }
