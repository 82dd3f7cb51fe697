use Rattle.std.proofs.Common.{◌≡◌, map, take}
use Rattle.cdx_models.specs.Trees.{classification}
use Rattle.cdx_schema.specs.Kinds.{a_record}
use Rattle.cdx_json.specs.Spellings.{spelling_data}
use Rattle.cdx_json.proofs.Spelled.{spelled}
use Rattle.cdx_service_data.specs.Records.{service_classification}
use Rattle.cdx_service_data.proofs.json.early_spelling.Given as goal

abbrev pub invariant-loop-item : goal.invariant-loop-item
invariant-loop-item l = map spelling_data l.values.items ≡ map (spelled service_classification (a_record classification) l.version) (take l.item-index l.item-items)
