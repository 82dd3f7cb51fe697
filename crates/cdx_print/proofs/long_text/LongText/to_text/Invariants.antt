use Rattle.std.proofs.Common.{◌≡◌, take, string_bytes}
use Rattle.std.specs.List.{concat}
use Rattle.cdx_print.proofs.long_text.LongText.to_text.Given as goal

-- the first pieces
abbrev pub invariant-loop-piece : goal.invariant-loop-piece
invariant-loop-piece l = string_bytes l.whole ≡ concat (take l.piece-index l.piece-items)
