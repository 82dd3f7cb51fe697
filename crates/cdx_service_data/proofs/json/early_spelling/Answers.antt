use Rattle.std.proofs.Common.{arith, refl}
use Rattle.cdx_models.specs.Trees.{classification}
use Rattle.cdx_schema.specs.Kinds.{a_record, classifications}
use Rattle.cdx_schema.specs.Table.{list}
use Rattle.cdx_json.proofs.Spelled.{list_spelled}
use Rattle.cdx_service_data.specs.Records.{service_classification}
use Rattle.cdx_service_data.proofs.json.early_spelling.Goals as goal

pub returns : goal.returns
unfolding list
returns c = list_spelled service_classification (a_record classification) classifications c.args.version c.loop-item.values c.as_slice-item-items.result.now c.args.held.now c.loop-item.item-index refl c.as_slice-item-items.ensures (omega arith) c.loop-item.invariant
