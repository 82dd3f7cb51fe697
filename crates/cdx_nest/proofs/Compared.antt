-- Metadata compared, by its groups of rows.
use Rattle.std.proofs.Common.{◌≡◌, ◌&&◌, refl}
use Rattle.cdx_models.specs.Equal.{equal, equal_each}
use Rattle.cdx_models.proofs.Lists.{equal_each-append}
use Rattle.cdx_nest.specs.declared.metadata.Metadata.{Metadata}
use Rattle.cdx_nest.specs.Trees.{metadata_tree, makers, terms}

pub metadata_compared : (a b : Metadata) → equal (metadata_tree a) (metadata_tree b) ≡ (equal_each (makers a) (makers b) && equal_each (terms a) (terms b))
metadata_compared a b = equal_each-append (makers a) (makers b) (terms a) (terms b) refl
