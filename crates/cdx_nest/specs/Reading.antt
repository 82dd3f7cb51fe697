-- Tools and metadata while their children are read.
use Rattle.std.specs.Prelude.{Option}
use Rattle.cdx_models.specs.Records.{tool_tree}
use Rattle.cdx_models.specs.Trees.{absent, Trees, more, two, ◌⧺◌, present}
use Rattle.cdx_leaf.specs.Trees.{collected}
use Rattle.cdx_component.specs.Trees.{components_tree}
use Rattle.cdx_component.specs.declared.component.Components.{Components}
use Rattle.cdx_service.specs.Trees.{services_tree}
use Rattle.cdx_service.specs.declared.service.Services.{Services}
use Rattle.cdx_nest.specs.PartTrees.{makers_trees, terms_trees}
use Rattle.cdx_nest.specs.declared.frames.metadata.MetadataPart.{MetadataPart}
use Rattle.cdx_nest.specs.declared.frames.tools.ToolsPart.{ToolsPart}

-- the tools that were met so far, and the services and the components that were read last
abbrev pub tools_part : ToolsPart → Trees
tools_part x = more (collected tool_tree x.tools) (two (present services_tree x.services) (present components_tree x.components))

-- the same without a tool
abbrev pub object_slots : Option Services → Option Components → Trees
object_slots ss cs = more absent (two (present services_tree ss) (present components_tree cs))

abbrev pub metadata_part : MetadataPart → Trees
metadata_part p = makers_trees p.makers ⧺ terms_trees p.terms
