use Rattle.std.proofs.Common.{◌≡◌, ◌++◌, map, drop}
use Rattle.serde_json.specs.Data.{array}
use Rattle.serde_json.specs.View.{items_of}
use Rattle.serde_json.specs.Written.{compact_text, items_text}
use Rattle.cdx_print.specs.Printed.{printed}
use Rattle.cdx_print.specs.Prints.{kept_value}
use Rattle.cdx_print.proofs.items.print_items.Given as goal

-- the items so far, and then those of the rest
abbrev pub invariant-loop-item : goal.invariant-loop-item
invariant-loop-item g l =
    let value = kept_value g.T.HasTree.tree g.T.Kinded.kind l.version in
    printed l.out ++ items_text l.is_later (items_of (map value (drop l.item-index l.items))) ≡ printed l.fn.out ++ compact_text (array (items_of (map value l.items)))
