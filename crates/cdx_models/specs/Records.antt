-- The trees of the common leaf records, a field for each row of the schema and in its order.
use Rattle.std.specs.Prelude.{[], ◌∷◌}
use Rattle.cdx_models.specs.Trees.{hash, property, attached_text, contact, entity, reference, tool, Tree, text, fields, trees, present, list_tree}
use Rattle.cdx_models.specs.Addresses.{uri_text}
use Rattle.cdx_models.specs.declared.bom.UrnUuid.{UrnUuid}
use Rattle.cdx_models.specs.declared.attached_text.AttachedText.{AttachedText}
use Rattle.cdx_models.specs.declared.hash.HashValue.{HashValue}
use Rattle.cdx_models.specs.declared.hash.Hash.{Hash}
use Rattle.cdx_models.specs.declared.hash.Hashes.{Hashes}
use Rattle.cdx_models.specs.declared.property.Property.{Property}
use Rattle.cdx_models.specs.declared.property.Properties.{Properties}
use Rattle.cdx_models.specs.declared.organization.OrganizationalContact.{OrganizationalContact}
use Rattle.cdx_models.specs.declared.organization.OrganizationalEntity.{OrganizationalEntity}
use Rattle.cdx_models.specs.declared.external_reference.Uri.{Uri}
use Rattle.cdx_models.specs.declared.external_reference.ExternalReference.{ExternalReference}
use Rattle.cdx_models.specs.declared.external_reference.ExternalReferences.{ExternalReferences}
use Rattle.cdx_models.specs.declared.tool.Tool.{Tool}

abbrev pub urn_tree : UrnUuid → Tree
urn_tree x = text x.0

abbrev pub attached_text_tree : AttachedText → Tree
attached_text_tree x = fields attached_text (trees (present text x.content_type ∷ present text x.encoding ∷ text x.content ∷ []))

abbrev pub hash_value_tree : HashValue → Tree
hash_value_tree x = text x.0

abbrev pub hash_tree : Hash → Tree
hash_tree x = fields hash (trees (text x.alg ∷ hash_value_tree x.content ∷ []))

abbrev pub hashes_tree : Hashes → Tree
hashes_tree xs = list_tree hash_tree xs.0

abbrev pub property_tree : Property → Tree
property_tree x = fields property (trees (text x.name ∷ text x.value ∷ []))

abbrev pub properties_tree : Properties → Tree
properties_tree xs = list_tree property_tree xs.0

-- ---- organizations

abbrev pub contact_tree : OrganizationalContact → Tree
contact_tree x = fields contact (trees (present text x.bom_ref ∷ present text x.name ∷ present text x.email ∷ present text x.phone ∷ []))

abbrev pub entity_tree : OrganizationalEntity → Tree
entity_tree x = fields entity (trees (present text x.bom_ref ∷ present text x.name ∷ present (list_tree text) x.url ∷ present (list_tree contact_tree) x.contact ∷ []))

-- ---- external references and tools

abbrev pub uri_tree : Uri → Tree
uri_tree x = text (uri_text x)

abbrev pub reference_tree : ExternalReference → Tree
reference_tree x = fields reference (trees (text x.external_reference_type ∷ uri_tree x.url ∷ present text x.comment ∷ present hashes_tree x.hashes ∷ []))

abbrev pub references_tree : ExternalReferences → Tree
references_tree xs = list_tree reference_tree xs.0

abbrev pub tool_tree : Tool → Tree
tool_tree x = fields tool (trees (present text x.vendor ∷ present text x.name ∷ present text x.version ∷ present hashes_tree x.hashes ∷ present references_tree x.external_references ∷ []))
