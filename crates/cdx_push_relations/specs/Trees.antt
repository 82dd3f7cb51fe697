-- The trees of the records that the machines here read, passed on for whoever names these machines.
pub use Rattle.cdx_relations.specs.Records.{dependencies_tree, compositions_tree}
pub use Rattle.cdx_signature.specs.Records.{signature_tree}
