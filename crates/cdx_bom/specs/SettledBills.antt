-- A bill once an empty tool list counts as a tools object without parts: only the metadata may be another.
use Rattle.cdx_models.specs.Trees.{metadata, Trees, present}
use Rattle.cdx_schema.specs.Kinds.{a_record}
use Rattle.cdx_schema.specs.Trips.{settled}
use Rattle.cdx_nest.specs.Trees.{metadata_tree}
use Rattle.cdx_bom.specs.declared.bom.Bom.{Bom}
use Rattle.cdx_bom.specs.Trees.{inventory_with}

abbrev pub settled_inventory : Bom → Trees
settled_inventory b = inventory_with (settled (present metadata_tree b.metadata) (a_record metadata)) b
