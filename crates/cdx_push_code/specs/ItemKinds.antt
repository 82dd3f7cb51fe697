-- Of which kind the items of each list are.
use Rattle.std.specs.Prelude.{◌≡◌, refl}
use Rattle.cdx_models.specs.Trees.{commit, issue, patch}
use Rattle.cdx_schema.specs.Kinds.{a_record, commits, patches, resolved}
use Rattle.cdx_schema.specs.Table.{list}

pub commits_item : a_record commit ≡ (list commits).kind
unfolding list
commits_item = refl

pub resolved_item : a_record issue ≡ (list resolved).kind
unfolding list
resolved_item = refl

pub patches_item : a_record patch ≡ (list patches).kind
unfolding list
patches_item = refl
