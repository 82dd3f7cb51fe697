-- A bill while its children are read, in two groups of rows.
use Rattle.cdx_models.specs.Trees.{Trees, ◌⧺◌}
use Rattle.cdx_bom.specs.declared.xml.reading.part.BillPart.{BillPart}
use Rattle.cdx_bom.specs.PartTrees.{inventory_trees, relations_trees}

abbrev pub bill_slots : BillPart → Trees
bill_slots p = inventory_trees p.inventory ⧺ relations_trees p.relations
