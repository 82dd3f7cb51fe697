use Rattle.std.proofs.Common.{◌≡◌, [], ◌∷◌, ◌++◌, take}
use Rattle.std.specs.List.{flat_map}
use Rattle.cdx_write.specs.Writing.{simple_tag}
use Rattle.cdx_write.specs.Writing.{start_tag}
use Rattle.cdx_write.proofs.tags.write_list_string_tag.Given as goal

abbrev pub invariant-loop-item : goal.invariant-loop-item
invariant-loop-item l = l.writer ≡ (l.fn.writer ++ start_tag l.fn.tag ∷ []) ++ flat_map (simple_tag l.fn.child_tag) (take l.item-index l.item-items)
