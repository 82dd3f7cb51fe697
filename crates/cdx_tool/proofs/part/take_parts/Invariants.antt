use Rattle.std.proofs.Common.{◌≡◌, ◌++◌, option_map, length}
use Rattle.std.specs.Vec.Iter.{into_iter_items, into_iter_len}
use Rattle.serde_json.specs.View.{items_view}
use Rattle.cdx_request.specs.Parts.{all_in}
use Rattle.cdx_tool.proofs.part.take_parts.Given as goal

-- the items so far, and then those of what is left
abbrev pub invariant-loop-value : goal.invariant-loop-value
invariant-loop-value g l =
    (option_map (λ xs. l.items ++ xs) (all_in g.P.RequestPart.part_of (items_view (into_iter_items l.value-iterator))) ≡ all_in g.P.RequestPart.part_of (items_view l.fn.values.items))
    × (into_iter_len l.value-iterator ≡ length (into_iter_items l.value-iterator))
