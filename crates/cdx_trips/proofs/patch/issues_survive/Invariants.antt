use Rattle.std.proofs.Common.{◌≡◌}
use Rattle.cdx_models.specs.Trees.{issue, each}
use Rattle.cdx_patch.specs.Records.{issue_tree}
use Rattle.cdx_schema.specs.Kinds.{a_record}
use Rattle.cdx_trips.specs.Surviving.{items_survive}
use Rattle.cdx_trips.proofs.Items.{from}
use Rattle.cdx_trips.proofs.patch.issues_survive.Given as goal

-- the rest decides
abbrev pub invariant-loop-item : goal.invariant-loop-item
invariant-loop-item l = from issue_tree (a_record issue) l.held l.item-index ≡ items_survive (each issue_tree l.held) (a_record issue)
