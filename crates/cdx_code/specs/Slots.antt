-- The fields of commits while they are read from XML.
use Rattle.cdx_models.specs.Trees.{Trees, fields_of}
use Rattle.cdx_code.specs.Records.{action_tree, commit_tree}
use Rattle.cdx_code.specs.declared.code.IdentifiableAction.{IdentifiableAction}
use Rattle.cdx_code.specs.declared.code.Commit.{Commit}

abbrev pub action_slots : IdentifiableAction → Trees
action_slots x = fields_of (action_tree x)

abbrev pub commit_slots : Commit → Trees
commit_slots x = fields_of (commit_tree x)
