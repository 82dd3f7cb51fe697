use Rattle.std.proofs.Common.{◌≡◌, ◌++◌, map, drop, string_bytes}
use Rattle.serde_json.specs.Data.{array}
use Rattle.serde_json.specs.View.{items_of}
use Rattle.serde_json.specs.Written.{compact_text, items_text}
use Rattle.cdx_request.specs.EventValues.{attribute_value}
use Rattle.cdx_tool.proofs.events.print.print_list.Given as goal

-- the attributes so far, and then those of the rest
abbrev pub invariant-loop-attribute : goal.invariant-loop-attribute
invariant-loop-attribute l =
    string_bytes l.out ++ items_text l.is_later (items_of (map attribute_value (drop l.attribute-index l.attributes))) ≡ string_bytes l.fn.out ++ compact_text (array (items_of (map attribute_value l.attributes)))
