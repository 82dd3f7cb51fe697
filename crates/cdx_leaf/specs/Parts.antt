-- The fields of records while they are read.
use Rattle.std.specs.Prelude.{ℕ, List, [], ◌∷◌, Option}
use Rattle.cdx_models.specs.Trees.{text, absent, trees, Trees, present, fields_of}
use Rattle.cdx_models.specs.Records.{contact_tree, entity_tree, tool_tree, hashes_tree}
use Rattle.cdx_models.specs.declared.organization.OrganizationalContact.{OrganizationalContact}
use Rattle.cdx_models.specs.declared.organization.OrganizationalEntity.{OrganizationalEntity}
use Rattle.cdx_models.specs.declared.tool.Tool.{Tool}
use Rattle.cdx_leaf.specs.declared.reading.parts.ReferencePart.{ReferencePart}

abbrev pub contact_slots : OrganizationalContact → Trees
contact_slots c = fields_of (contact_tree c)

abbrev pub entity_slots : OrganizationalEntity → Trees
entity_slots x = fields_of (entity_tree x)

abbrev pub tool_slots : Tool → Trees
tool_slots x = fields_of (tool_tree x)

abbrev pub reference_part : ReferencePart → Trees
reference_part x = trees (text x.external_reference_type ∷ present text x.url ∷ present text x.comment ∷ present hashes_tree x.hashes ∷ [])

-- ---- what the attributes of a record begin, whose content is a text

abbrev pub text_alone : List ℕ → Trees
text_alone s = trees (text s ∷ absent ∷ [])

abbrev pub attached_start : Option (List ℕ) × Option (List ℕ) → Trees
attached_start x = trees (present text x.0 ∷ present text x.1 ∷ absent ∷ [])
