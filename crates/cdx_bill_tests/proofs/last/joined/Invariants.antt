use Rattle.cdx_bill_tests.proofs.last.joined.Given as goal

abbrev pub decreases-loop-line : goal.decreases-loop-line
decreases-loop-line l = l.pieces.pieces
