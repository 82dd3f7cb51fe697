-- The trees of patches and issues, a field for each row of the schema and in its order.
use Rattle.std.specs.Prelude.{[], ◌∷◌}
use Rattle.cdx_models.specs.Trees.{patch, diff, issue, source, Tree, text, fields, trees, present, list_tree}
use Rattle.cdx_models.specs.Records.{attached_text_tree}
use Rattle.cdx_patch.specs.declared.code.Diff.{Diff}
use Rattle.cdx_patch.specs.declared.code.Source.{Source}
use Rattle.cdx_patch.specs.declared.code.Issue.{Issue}
use Rattle.cdx_patch.specs.declared.code.Patch.{Patch}
use Rattle.cdx_patch.specs.declared.code.Patches.{Patches}

abbrev pub diff_tree : Diff → Tree
diff_tree x = fields diff (trees (present attached_text_tree x.text ∷ present text x.url ∷ []))

abbrev pub source_tree : Source → Tree
source_tree x = fields source (trees (present text x.name ∷ present text x.url ∷ []))

abbrev pub issue_tree : Issue → Tree
issue_tree x = fields issue (trees (text x.issue_type ∷ present text x.id ∷ present text x.name ∷ present text x.description ∷ present source_tree x.source ∷ present (list_tree text) x.references ∷ []))

abbrev pub patch_tree : Patch → Tree
patch_tree x = fields patch (trees (text x.patch_type ∷ present diff_tree x.diff ∷ present (list_tree issue_tree) x.resolves ∷ []))

abbrev pub patches_tree : Patches → Tree
patches_tree xs = list_tree patch_tree xs.0
