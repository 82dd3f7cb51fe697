use Rattle.std.proofs.Common.{◌≡◌, ◌≤◌, ◌++◌, ◌-◌, ◌∙◌, length, take, min, ap, arith}
use Rattle.cdx_gate.specs.Gate.{most_held}
use Rattle.cdx_gate.proofs.Served.{held_first, on_ok}
use Rattle.cdx_gate.proofs.line.hold.Goals as goal

pub returns-clause-items : goal.returns-clause-items
returns-clause-items c =
    let line = c.args.line.now in
    let bytes = c.args.bytes.now in
    let few : length line.items ≤ most_held = omega (arith, c.requires, line.ok.0) in
    let room : c.min-room.result ≡ min (length bytes) (most_held - length line.items) = c.min-room.ensures ∙ ap (λ n. min (length bytes) (most_held - n)) (c.len.ensures ∙ line.ok.0) in
    on_ok _ _ _ _ c.extend_from_slice.result c.extend_from_slice.ensures.items (ap (λ n. line.items ++ take n bytes) room ∙ held_first most_held line.items bytes few)
