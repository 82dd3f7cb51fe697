-- The fields of records while they are read from XML.
use Rattle.cdx_models.specs.Trees.{Trees, one, absent, fields_of}
use Rattle.cdx_component_parts.specs.Records.{swid_tree, evidence_tree}
use Rattle.cdx_component_parts.specs.declared.component.Swid.{Swid}
use Rattle.cdx_component_parts.specs.declared.component.ComponentEvidence.{ComponentEvidence}

abbrev pub swid_slots : Swid → Trees
swid_slots x = fields_of (swid_tree x)

abbrev pub evidence_slots : ComponentEvidence → Trees
evidence_slots x = fields_of (evidence_tree x)

-- no attribute stands before a copyright's text
abbrev pub no_copyright_fields : Unit {0} → Trees
no_copyright_fields x = one absent
