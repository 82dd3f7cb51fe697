-- The trees of the fields that a reader or a copy makes together.
use Rattle.std.specs.Prelude.{[], ◌∷◌}
use Rattle.cdx_models.specs.Trees.{text, Trees, trees, present, list_tree}
use Rattle.cdx_models.specs.Records.{contact_tree, entity_tree, properties_tree}
use Rattle.cdx_license.specs.Records.{licenses_tree}
use Rattle.cdx_component.specs.Trees.{component_tree}
use Rattle.cdx_nest.specs.Trees.{tools_tree}
use Rattle.cdx_nest.specs.declared.metadata.parts.Makers.{Makers}
use Rattle.cdx_nest.specs.declared.metadata.parts.Terms.{Terms}

abbrev pub makers_trees : Makers → Trees
makers_trees p = trees (present text p.timestamp ∷ present tools_tree p.tools ∷ present (list_tree contact_tree) p.authors ∷ present component_tree p.component ∷ present entity_tree p.manufacture ∷ present entity_tree p.supplier ∷ [])

abbrev pub terms_trees : Terms → Trees
terms_trees p = trees (present licenses_tree p.licenses ∷ present properties_tree p.properties ∷ [])
