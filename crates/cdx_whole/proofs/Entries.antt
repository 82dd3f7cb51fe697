-- The entries of a service's data, and the label of a bill.
use Rattle.std.proofs.Common.{◌≡◌, Bool, true, false, if◌then◌else◌, inl, inr, refl}
use Rattle.cdx_models.specs.Versions.{label}
use Rattle.cdx_models.specs.Trees.{classification, service_data, fields_of, field}
use Rattle.cdx_models.specs.Entries.{is_flow}
use Rattle.cdx_schema.specs.Kinds.{a_record, an_entry, required}
use Rattle.cdx_schema.specs.Table.{rows}
use Rattle.cdx_schema.specs.Membership.{IsOf}
use Rattle.cdx_service_data.specs.declared.service.DataClassification.{DataClassification}
use Rattle.cdx_service_data.specs.declared.service.ServiceData.{ServiceData}
use Rattle.cdx_service_data.specs.Records.{classification_tree, service_data_tree, service_entry}
use Rattle.cdx_whole.specs.Fields.{IsField, AreFields}

pub classification_entry : (x : DataClassification) → IsOf (classification_tree x) (a_record classification) → IsOf (classification_tree x) an_entry
classification_entry x h = (inl refl, h.1)

-- a service data's classification
within : (x : DataClassification) → IsField (classification_tree x) required (a_record classification) → IsOf (classification_tree x) an_entry
within x (inl lacks) = let e : false ≡ true = lacks.1 in absurd cc
within x (inr h) = classification_entry x h

by_flow : (x : ServiceData) (b : Bool) → is_flow service_data (fields_of (service_data_tree x)) ≡ b → AreFields (fields_of (service_data_tree x)) (rows service_data) → IsOf (if b then service_data_tree x else field 2 (fields_of (service_data_tree x))) an_entry
unfolding rows
by_flow x true e h = (inr (refl, e), h)
by_flow x false e h = within x.classification h.1.1.0

pub data_entry : (x : ServiceData) → IsOf (service_data_tree x) (a_record service_data) → IsOf (service_entry x) an_entry
data_entry x h = by_flow x (is_flow service_data (fields_of (service_data_tree x))) refl h.1
