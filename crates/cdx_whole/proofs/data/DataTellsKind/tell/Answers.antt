use Rattle.cdx_models.specs.Trees.{classification, service_data}
use Rattle.cdx_schema.specs.Kinds.{a_record, an_entry}
use Rattle.cdx_service_data.specs.Records.{classification_tree, service_data_tree, service_entry}
use Rattle.cdx_whole.proofs.Lists.{as_others}
use Rattle.cdx_whole.proofs.Entries.{classification_entry, data_entry}
use Rattle.cdx_whole.proofs.data.DataTellsKind.tell.Goals as goal

pub returns-in-Classification : goal.returns-in-Classification
returns-in-Classification c =
    rw c.in-Classification.is (tt, as_others classification_tree classification_tree (a_record classification) an_entry classification_entry c.in-Classification.classifications c.tell_list.ensures)

pub returns-in-ServiceData : goal.returns-in-ServiceData
returns-in-ServiceData c =
    rw c.in-ServiceData.is (tt, as_others service_data_tree service_entry (a_record service_data) an_entry data_entry c.in-ServiceData.flows c.tell_list-in-ServiceData.ensures)
