use Rattle.cdx_models.specs.Entries.{entry_of}
use Rattle.cdx_service_data.specs.Records.{service_data_tree}
use Rattle.cdx_service_data.proofs.Entries.{over-equal}
use Rattle.cdx_service_data.proofs.service.DataHasTree.copy.Goals as goal

pub returns-in_ok-copy-in-ServiceData : goal.returns-in_ok-copy-in-ServiceData
returns-in_ok-copy-in-ServiceData c = rw c.in-ServiceData.is (over-equal entry_of service_data_tree c.in_ok-copy-in-ServiceData.field-0 c.in-ServiceData.held c.in_ok-copy-in-ServiceData.ensures)
