use Rattle.std.proofs.Common.{◌≡◌, ◌++◌, drop, string_bytes}
use Rattle.serde_json.specs.Data.{array}
use Rattle.serde_json.specs.Written.{compact_text, items_text, members_text}
use Rattle.cdx_json.specs.Spellings.{spelling_items, spelling_members}
use Rattle.cdx_print.proofs.spelling.+spellings.Given as goal

-- the items so far, and then those of the rest
abbrev pub invariant-print_array-loop-item : goal.invariant-print_array-loop-item
invariant-print_array-loop-item l =
    string_bytes l.out ++ items_text l.is_later (spelling_items (drop l.item-index l.item-items)) ≡ string_bytes l.fn.out ++ compact_text (array (spelling_items l.item-items))

-- the members so far, and then those of the rest
abbrev pub invariant-print_members-loop-member : goal.invariant-print_members-loop-member
invariant-print_members-loop-member l =
    string_bytes l.out ++ members_text l.follows (spelling_members (drop l.member-index l.member-items)) ≡ string_bytes l.fn.out ++ members_text l.is_later (spelling_members l.member-items)
