-- The fields of patches and issues while they are read from XML.
use Rattle.cdx_models.specs.Trees.{Trees, fields_of}
use Rattle.cdx_patch.specs.Records.{diff_tree, source_tree, issue_tree, patch_tree}
use Rattle.cdx_patch.specs.declared.code.Diff.{Diff}
use Rattle.cdx_patch.specs.declared.code.Source.{Source}
use Rattle.cdx_patch.specs.declared.code.Issue.{Issue}
use Rattle.cdx_patch.specs.declared.code.Patch.{Patch}

abbrev pub diff_slots : Diff → Trees
diff_slots x = fields_of (diff_tree x)

abbrev pub source_slots : Source → Trees
source_slots x = fields_of (source_tree x)

abbrev pub issue_slots : Issue → Trees
issue_slots x = fields_of (issue_tree x)

abbrev pub patch_slots : Patch → Trees
patch_slots x = fields_of (patch_tree x)
