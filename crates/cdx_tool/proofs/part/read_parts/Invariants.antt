use Rattle.std.proofs.Common.{◌≡◌, ◌++◌, option_map, drop}
use Rattle.serde_json.specs.View.{items_view}
use Rattle.cdx_request.specs.Parts.{all_in}
use Rattle.cdx_tool.proofs.part.read_parts.Given as goal

-- the items so far, and then those of the rest
abbrev pub invariant-loop-value : goal.invariant-loop-value
invariant-loop-value g l = option_map (λ xs. l.items ++ xs) (all_in g.P.RequestPart.part_of (items_view (drop l.value-index l.values))) ≡ all_in g.P.RequestPart.part_of (items_view l.values)
