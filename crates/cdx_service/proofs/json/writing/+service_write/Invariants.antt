use Rattle.std.proofs.Common.{◌≡◌, map, take}
use Rattle.cdx_models.specs.Trees.{service}
use Rattle.cdx_schema.specs.Kinds.{a_record}
use Rattle.cdx_json.specs.Spellings.{spelling_data}
use Rattle.cdx_json.proofs.Spelled.{spelled}
use Rattle.cdx_service.specs.Trees.{service_tree}
use Rattle.cdx_service.proofs.json.writing.+service_write.Given as goal

abbrev pub invariant-write_services-loop-item : goal.invariant-write_services-loop-item
invariant-write_services-loop-item l = map spelling_data l.values.items ≡ map (spelled service_tree (a_record service) l.target.version) (take l.item-index l.item-items)
