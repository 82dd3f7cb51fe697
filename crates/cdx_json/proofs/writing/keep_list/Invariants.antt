use Rattle.std.proofs.Common.{◌≡◌, map, take}
use Rattle.cdx_schema.specs.Keeping.{kept}
use Rattle.cdx_json.proofs.writing.keep_list.Given as goal

abbrev pub invariant-loop-item : goal.invariant-loop-item
invariant-loop-item g l = map g.T.HasTree.tree l.copies ≡ map (λ x. kept l.keeping.version l.keeping.label (g.T.HasTree.tree x) g.T.Kinded.kind) (take l.item-index l.item-items)
