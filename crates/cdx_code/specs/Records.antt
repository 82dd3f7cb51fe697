-- The trees of commits, a field for each row of the schema and in its order.
use Rattle.std.specs.Prelude.{[], ◌∷◌}
use Rattle.cdx_models.specs.Trees.{commit, action, Tree, text, fields, trees, present, list_tree}
use Rattle.cdx_code.specs.declared.code.IdentifiableAction.{IdentifiableAction}
use Rattle.cdx_code.specs.declared.code.Commit.{Commit}
use Rattle.cdx_code.specs.declared.code.Commits.{Commits}

abbrev pub action_tree : IdentifiableAction → Tree
action_tree x = fields action (trees (present text x.timestamp ∷ present text x.name ∷ present text x.email ∷ []))

abbrev pub commit_tree : Commit → Tree
commit_tree x = fields commit (trees (present text x.uid ∷ present text x.url ∷ present action_tree x.author ∷ present action_tree x.committer ∷ present text x.message ∷ []))

abbrev pub commits_tree : Commits → Tree
commits_tree xs = list_tree commit_tree xs.0
