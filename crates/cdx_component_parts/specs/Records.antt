-- The trees of the leaf records of components, a field for each row of the schema and in its order.
use Rattle.std.specs.Prelude.{[], ◌∷◌}
use Rattle.cdx_models.specs.Trees.{swid, evidence, copyright, Tree, text, number, boolean, fields, trees, present, list_tree}
use Rattle.cdx_models.specs.Records.{attached_text_tree}
use Rattle.cdx_license.specs.Records.{licenses_tree}
use Rattle.cdx_component_parts.specs.declared.component.Swid.{Swid}
use Rattle.cdx_component_parts.specs.declared.component.Cpe.{Cpe}
use Rattle.cdx_component_parts.specs.declared.component.MimeType.{MimeType}
use Rattle.cdx_component_parts.specs.declared.component.ComponentEvidence.{ComponentEvidence}
use Rattle.cdx_component_parts.specs.declared.component.Copyright.{Copyright}
use Rattle.cdx_component_parts.specs.declared.component.CopyrightTexts.{CopyrightTexts}

-- ---- components

abbrev pub swid_tree : Swid → Tree
swid_tree x = fields swid (trees (text x.tag_id ∷ text x.name ∷ present text x.version ∷ present number x.tag_version ∷ present boolean x.patch ∷ present attached_text_tree x.text ∷ present text x.url ∷ []))

abbrev pub cpe_tree : Cpe → Tree
cpe_tree x = text x.0

abbrev pub mime_type_tree : MimeType → Tree
mime_type_tree x = text x.0

abbrev pub copyright_tree : Copyright → Tree
copyright_tree x = fields copyright (trees (text x.text ∷ []))

abbrev pub copyrights_tree : CopyrightTexts → Tree
copyrights_tree xs = list_tree copyright_tree xs.0

abbrev pub evidence_tree : ComponentEvidence → Tree
evidence_tree x = fields evidence (trees (present licenses_tree x.licenses ∷ present copyrights_tree x.copyright ∷ []))
