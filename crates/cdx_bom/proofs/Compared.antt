-- Bills compared, by their groups of rows.
use Rattle.std.proofs.Common.{◌≡◌, ◌&&◌, refl}
use Rattle.cdx_models.specs.Trees.{Tree, more, present}
use Rattle.cdx_models.specs.Equal.{equal, equal_each}
use Rattle.cdx_models.proofs.Lists.{equal_each-append}
use Rattle.cdx_bom.specs.declared.bom.Bom.{Bom}
use Rattle.cdx_nest.specs.Trees.{metadata_tree}
use Rattle.cdx_bom.specs.Trees.{bom_tree, identity, bill_contents, inventory_with, inventory_groups, relations}

-- the metadata stand between what identifies a bill and what it contains
pub inventory_with_compared : (t u : Tree) (a b : Bom) → equal_each (inventory_with t a) (inventory_with u b) ≡ (equal_each (identity a) (identity b) && (equal t u && equal_each (bill_contents a) (bill_contents b)))
inventory_with_compared t u a b = equal_each-append (identity a) (identity b) (more t (bill_contents a)) (more u (bill_contents b)) refl

pub inventory_compared : (a b : Bom) → equal_each (inventory_groups a) (inventory_groups b)
    ≡ (equal_each (identity a) (identity b) && (equal (present metadata_tree a.metadata) (present metadata_tree b.metadata) && equal_each (bill_contents a) (bill_contents b)))
inventory_compared a b = inventory_with_compared (present metadata_tree a.metadata) (present metadata_tree b.metadata) a b

pub bom_compared : (a b : Bom) → equal (bom_tree a) (bom_tree b) ≡ (equal_each (inventory_groups a) (inventory_groups b) && equal_each (relations a) (relations b))
bom_compared a b = equal_each-append (inventory_groups a) (inventory_groups b) (relations a) (relations b) refl
