-- The trees of the records that the machines here read, passed on for whoever names these machines.
pub use Rattle.cdx_code.specs.Records.{commits_tree}
pub use Rattle.cdx_patch.specs.Records.{patches_tree}
