-- The trees of the records that the machines here read, passed on for whoever names these machines.
pub use Rattle.cdx_license.specs.Records.{licenses_tree}
pub use Rattle.cdx_component_parts.specs.Records.{swid_tree, evidence_tree}
pub use Rattle.cdx_service_data.specs.Records.{data_tree}
