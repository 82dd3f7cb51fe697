-- The kinds that don't contain themselves: their names, and what elements are read as.
use Rattle.cdx_push_code.specs.Trees.{commits_tree, patches_tree}
use Rattle.cdx_push_parts.specs.Trees.{swid_tree, evidence_tree, licenses_tree, data_tree}
use Rattle.cdx_push_relations.specs.Trees.{dependencies_tree, compositions_tree, signature_tree}
use Rattle.cdx_models.specs.Trees.{attached_text, entity, tool, swid, evidence, Tree, text, boolean, list_tree}
use Rattle.cdx_models.specs.Records.{attached_text_tree, contact_tree, entity_tree, hashes_tree, properties_tree, references_tree, tool_tree}
use Rattle.cdx_schema.specs.Kinds.{endpoints, authors, hashes, properties, commits, patches, external_references, dependencies, compositions, licenses, Kind, a_text, a_boolean, a_list, a_record, a_data, a_signature}
use Rattle.cdx_push.specs.declared.kinds.LeafKind.{LeafKind}
use Rattle.cdx_push.specs.declared.kinds.LeafKind.TheVariants as leaf_kinds
use Rattle.cdx_push.specs.declared.kinds.LeafValue.{LeafValue}
use Rattle.cdx_push.specs.declared.kinds.LeafValue.TheVariants as leaf_values
use Rattle.cdx_push.specs.declared.leaf.Leaf.{Leaf}
use Rattle.cdx_push.specs.declared.leaf.Leaf.TheVariants as leaves

-- the kind in the schema
abbrev pub kind_of : LeafKind → Kind
kind_of leaf_kinds.Text = a_text
kind_of leaf_kinds.Flag = a_boolean
kind_of leaf_kinds.AttachedText = a_record attached_text
kind_of leaf_kinds.Endpoints = a_list endpoints
kind_of leaf_kinds.Authors = a_list authors
kind_of leaf_kinds.Entity = a_record entity
kind_of leaf_kinds.Hashes = a_list hashes
kind_of leaf_kinds.Properties = a_list properties
kind_of leaf_kinds.Commits = a_list commits
kind_of leaf_kinds.Patches = a_list patches
kind_of leaf_kinds.ExternalReferences = a_list external_references
kind_of leaf_kinds.Dependencies = a_list dependencies
kind_of leaf_kinds.Compositions = a_list compositions
kind_of leaf_kinds.Licenses = a_list licenses
kind_of leaf_kinds.Signature = a_signature
kind_of leaf_kinds.Tool = a_record tool
kind_of leaf_kinds.Swid = a_record swid
kind_of leaf_kinds.Evidence = a_record evidence
kind_of leaf_kinds.Data = a_data

abbrev pub leaf_kind : Leaf → LeafKind
leaf_kind (leaves.Text m) = leaf_kinds.Text
leaf_kind (leaves.Flag m) = leaf_kinds.Flag
leaf_kind (leaves.AttachedText m) = leaf_kinds.AttachedText
leaf_kind (leaves.Endpoints m) = leaf_kinds.Endpoints
leaf_kind (leaves.Authors m) = leaf_kinds.Authors
leaf_kind (leaves.Entity m) = leaf_kinds.Entity
leaf_kind (leaves.Hashes m) = leaf_kinds.Hashes
leaf_kind (leaves.Properties m) = leaf_kinds.Properties
leaf_kind (leaves.Commits m) = leaf_kinds.Commits
leaf_kind (leaves.Patches m) = leaf_kinds.Patches
leaf_kind (leaves.ExternalReferences m) = leaf_kinds.ExternalReferences
leaf_kind (leaves.Dependencies m) = leaf_kinds.Dependencies
leaf_kind (leaves.Compositions m) = leaf_kinds.Compositions
leaf_kind (leaves.Licenses m) = leaf_kinds.Licenses
leaf_kind (leaves.Signature m) = leaf_kinds.Signature
leaf_kind (leaves.Tool m) = leaf_kinds.Tool
leaf_kind (leaves.Swid m) = leaf_kinds.Swid
leaf_kind (leaves.Evidence m) = leaf_kinds.Evidence
leaf_kind (leaves.Data m) = leaf_kinds.Data

abbrev pub value_kind : LeafValue → LeafKind
value_kind (leaf_values.Text x) = leaf_kinds.Text
value_kind (leaf_values.Flag x) = leaf_kinds.Flag
value_kind (leaf_values.AttachedText x) = leaf_kinds.AttachedText
value_kind (leaf_values.Endpoints x) = leaf_kinds.Endpoints
value_kind (leaf_values.Authors x) = leaf_kinds.Authors
value_kind (leaf_values.Entity x) = leaf_kinds.Entity
value_kind (leaf_values.Hashes x) = leaf_kinds.Hashes
value_kind (leaf_values.Properties x) = leaf_kinds.Properties
value_kind (leaf_values.Commits x) = leaf_kinds.Commits
value_kind (leaf_values.Patches x) = leaf_kinds.Patches
value_kind (leaf_values.ExternalReferences x) = leaf_kinds.ExternalReferences
value_kind (leaf_values.Dependencies x) = leaf_kinds.Dependencies
value_kind (leaf_values.Compositions x) = leaf_kinds.Compositions
value_kind (leaf_values.Licenses x) = leaf_kinds.Licenses
value_kind (leaf_values.Signature x) = leaf_kinds.Signature
value_kind (leaf_values.Tool x) = leaf_kinds.Tool
value_kind (leaf_values.Swid x) = leaf_kinds.Swid
value_kind (leaf_values.Evidence x) = leaf_kinds.Evidence
value_kind (leaf_values.Data x) = leaf_kinds.Data

abbrev pub value_tree : LeafValue → Tree
value_tree (leaf_values.Text x) = text x
value_tree (leaf_values.Flag x) = boolean x
value_tree (leaf_values.AttachedText x) = attached_text_tree x
value_tree (leaf_values.Endpoints x) = list_tree text x
value_tree (leaf_values.Authors x) = list_tree contact_tree x
value_tree (leaf_values.Entity x) = entity_tree x
value_tree (leaf_values.Hashes x) = hashes_tree x
value_tree (leaf_values.Properties x) = properties_tree x
value_tree (leaf_values.Commits x) = commits_tree x
value_tree (leaf_values.Patches x) = patches_tree x
value_tree (leaf_values.ExternalReferences x) = references_tree x
value_tree (leaf_values.Dependencies x) = dependencies_tree x
value_tree (leaf_values.Compositions x) = compositions_tree x
value_tree (leaf_values.Licenses x) = licenses_tree x
value_tree (leaf_values.Signature x) = signature_tree x
value_tree (leaf_values.Tool x) = tool_tree x
value_tree (leaf_values.Swid x) = swid_tree x
value_tree (leaf_values.Evidence x) = evidence_tree x
value_tree (leaf_values.Data x) = data_tree x
