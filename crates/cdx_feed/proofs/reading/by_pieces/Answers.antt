use Rattle.std.proofs.Common.{[], ◌++◌, refl, arith, length-append}
use Rattle.cdx_feed.proofs.reading.by_pieces.Goals as goal

pub pieces-init : goal.pieces-init
pieces-init c = record { heard = ([], c.new-reader.ensures.heard, refl) }

pub feed-requires : goal.feed-requires
feed-requires c = let h = c.pieces.invariant.heard in (h.0, h.1, omega (arith, h.2, c.if-piece-fed.false))

pub pieces-preserved : goal.pieces-preserved
pieces-preserved c =
    let h = c.pieces.invariant.heard in
    let piece = c.in-Some.piece.now in
    record { heard = (h.0 ++ piece, c.feed.ensures.heard h.0 h.1, omega (arith, length-append h.0 piece, h.2)) }
