-- A walk over a bill's components.
use Rattle.std.specs.Prelude.{◌≡◌, List, ◌++◌, map}
use Rattle.cdx_models.specs.declared.errors.Step.{Step}
use Rattle.cdx_models.specs.Trees.{Tree}
use Rattle.cdx_ways.specs.Ways.{At}
use Rattle.cdx_inventory.specs.declared.entry.Entry.{Entry}
use Rattle.cdx_inventory.specs.Entries.{Told, entry, all_told}

-- the entries of what is listed below a path
abbrev pub entries_below : List Step → List (At Tree) → List Told
entries_below p xs = map (λ x. entry (p ++ x.0, x.1)) xs

-- The walk ends at the path where it began, and adds the entries of what is listed below that.
abbrev pub AddsEntries : List (At Tree) → List Step → List Step → List Entry → List Entry → Type 0
AddsEntries xs before after old new = (after ≡ before) × (all_told new ≡ all_told old ++ entries_below before xs)
