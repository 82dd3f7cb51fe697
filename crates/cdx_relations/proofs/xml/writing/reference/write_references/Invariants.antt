use Rattle.std.proofs.Common.{◌≡◌, ◌++◌, take}
use Rattle.std.specs.List.{flat_map}
use Rattle.cdx_models.specs.declared.bom.SpecVersion.{SpecVersion}
use Rattle.cdx_models.specs.Trees.{text}
use Rattle.cdx_schema.specs.Kinds.{a_reference}
use Rattle.cdx_write.proofs.Lists.{items_put}
use Rattle.cdx_relations.proofs.xml.writing.reference.write_references.Given as goal

abbrev pub invariant-loop-item : goal.invariant-loop-item
invariant-loop-item l = (w : SpecVersion) → l.writer ≡ l.fn.writer ++ flat_map (items_put text l.fn.tag a_reference w) (take l.item-index l.item-items)
