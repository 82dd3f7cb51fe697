use Rattle.std.proofs.Common.{◌≡◌, map, take}
use Rattle.cdx_models.specs.Trees.{component}
use Rattle.cdx_schema.specs.Kinds.{a_record}
use Rattle.cdx_json.specs.Spellings.{spelling_data}
use Rattle.cdx_json.proofs.Spelled.{spelled}
use Rattle.cdx_component.specs.Trees.{component_tree}
use Rattle.cdx_component.proofs.json.writing.+component_write.Given as goal

abbrev pub invariant-write_components-loop-item : goal.invariant-write_components-loop-item
invariant-write_components-loop-item l = map spelling_data l.values.items ≡ map (spelled component_tree (a_record component) l.target.version) (take l.item-index l.item-items)
