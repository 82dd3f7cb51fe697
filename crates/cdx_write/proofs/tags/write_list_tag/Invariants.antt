use Rattle.std.proofs.Common.{◌≡◌, [], ◌∷◌, ◌++◌, take}
use Rattle.std.specs.List.{flat_map}
use Rattle.cdx_write.specs.Spelling.{spelling}
use Rattle.cdx_write.specs.Writing.{start_tag}
use Rattle.cdx_write.proofs.tags.write_list_tag.Given as goal

abbrev pub invariant-loop-item : goal.invariant-loop-item
invariant-loop-item g l = l.writer ≡ (l.fn.writer ++ start_tag l.fn.tag ∷ []) ++ flat_map (λ x. spelling (g.X.ToXml.tag) (g.X.Shown.shown x) l.fn.version (g.X.Shown.shown_kind)) (take l.item-index l.item-items)
