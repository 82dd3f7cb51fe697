-- The tree of a bill's label by itself.
use Rattle.cdx_models.specs.Trees.{Tree}
use Rattle.cdx_bom.specs.Trees.{label_tree}
use Rattle.cdx_bom.specs.declared.json.label.Label.{Label}

abbrev pub named_tree : Label → Tree
named_tree x = label_tree x.version
