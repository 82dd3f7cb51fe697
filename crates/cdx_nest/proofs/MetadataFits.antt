-- Which versions metadata fits: the components of its tools are not asked.
use Rattle.std.proofs.Common.{◌≡◌, true, List, refl}
use mathlib.Core.Bool.{and-true}
use Rattle.cdx_models.specs.Trees.{component, metadata, entity, tool, present, list_tree}
use Rattle.cdx_models.specs.Records.{entity_tree, contact_tree, properties_tree, tool_tree}
use Rattle.cdx_license.specs.Records.{licenses_tree}
use Rattle.cdx_models.specs.declared.organization.OrganizationalContact.{OrganizationalContact}
use Rattle.cdx_schema.specs.Kinds.{licenses, properties, authors, a_text, a_list, a_record, a_tools}
use Rattle.cdx_schema.specs.Table.{rows, list}
use Rattle.cdx_schema.specs.Keeping.{has_versions}
use Rattle.cdx_nest.specs.declared.tools.Tools.{Tools}
use Rattle.cdx_nest.specs.declared.tools.Tools.TheVariants as variant
use Rattle.cdx_nest.specs.declared.metadata.Metadata.{Metadata}
use Rattle.cdx_component.specs.Trees.{component_tree}
use Rattle.cdx_nest.specs.Trees.{tools_tree, metadata_tree}
use Rattle.cdx_component.proofs.LeavesFit.{text_fits, row_fits, items_fit, list_fits, entity_fits, contact_fits, licenses_fit, properties_fit, tool_fits}

tools_fit : (x : Tools) → has_versions (tools_tree x) a_tools ≡ true
unfolding has_versions list
tools_fit (variant.List ts) = items_fit tool_tree (a_record tool) tool_fits ts
tools_fit (variant.Object ss cs) = refl

authors_fit : (xs : List OrganizationalContact) → has_versions (list_tree contact_tree xs) (a_list authors) ≡ true
unfolding list
authors_fit xs = list_fits contact_tree authors contact_fits xs

pub metadata_has : (m : Metadata) → has_versions (metadata_tree m) (a_record metadata) ≡ has_versions (present component_tree m.component) (a_record component)
unfolding has_versions rows
metadata_has m = rw (
  text_fits a_text m.timestamp,
  row_fits tools_tree a_tools tools_fit m.tools,
  row_fits (list_tree contact_tree) (a_list authors) authors_fit m.authors,
  row_fits entity_tree (a_record entity) entity_fits m.manufacture,
  row_fits entity_tree (a_record entity) entity_fits m.supplier,
  row_fits licenses_tree (a_list licenses) licenses_fit m.licenses,
  row_fits properties_tree (a_list properties) properties_fit m.properties,
  and-true (has_versions (present component_tree m.component) (a_record component)),
) refl
