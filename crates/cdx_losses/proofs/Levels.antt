-- What is taken of each record that the walk goes over, one level at a time.
use Rattle.std.specs.Prelude.{◌≡◌, refl, ℕ, List, [], ◌∷◌, ◌++◌, true, Option}
use mathlib.Core.Path.{ap, ◌∙◌}
use Rattle.cdx_models.specs.declared.bom.SpecVersion.{SpecVersion}
use Rattle.cdx_models.specs.declared.bom.SpecVersion.TheVariants.{V1_4, V1_5}
use Rattle.cdx_models.specs.Trees.{license, contact, entity, tool, composition, issue, patch, evidence, component, pedigree, service, metadata, tools_object, bill, Tree, text, number, boolean, ◌⧺◌, present, list_tree, each, trees}
use Rattle.cdx_models.specs.Records.{urn_tree, contact_tree, entity_tree, attached_text_tree, hash_tree, hashes_tree, reference_tree, references_tree, property_tree, properties_tree, tool_tree}
use Rattle.cdx_models.specs.declared.organization.OrganizationalContact.{OrganizationalContact}
use Rattle.cdx_models.specs.declared.organization.OrganizationalEntity.{OrganizationalEntity}
use Rattle.cdx_models.specs.declared.tool.Tool.{Tool}
use Rattle.cdx_license.specs.Records.{identifier_tree, license_tree, expression_tree, licenses_tree}
use Rattle.cdx_license.specs.declared.license.LicenseIdentifier.TheVariants as identifier
use Rattle.cdx_license.specs.declared.license.License.{License}
use Rattle.cdx_signature.specs.Records.{signer_tree, signature_tree}
use Rattle.cdx_signature.specs.declared.signature.Signature.TheVariants as variant
use Rattle.cdx_code.specs.Records.{action_tree, commit_tree, commits_tree}
use Rattle.cdx_patch.specs.Records.{diff_tree, source_tree, issue_tree, patch_tree, patches_tree}
use Rattle.cdx_patch.specs.declared.code.Issue.{Issue}
use Rattle.cdx_patch.specs.declared.code.Patch.{Patch}
use Rattle.cdx_component_parts.specs.Records.{mime_type_tree, cpe_tree, swid_tree, copyright_tree, copyrights_tree, evidence_tree}
use Rattle.cdx_component_parts.specs.declared.component.ComponentEvidence.{ComponentEvidence}
use Rattle.cdx_service_data.specs.Records.{classification_tree, data_tree}
use Rattle.cdx_relations.specs.Records.{dependency_tree, dependencies_tree, bom_reference_tree, composition_tree, compositions_tree}
use Rattle.cdx_relations.specs.declared.composition.Composition.{Composition}
use Rattle.cdx_component.specs.declared.component.Component.{Component}
use Rattle.cdx_component.specs.declared.component.Component.TheOpen.{Component-F, Pedigree-F}
use Rattle.cdx_component.specs.declared.component.Component.TheViews.{out-Component, out-Pedigree}
use Rattle.cdx_component.specs.declared.component.Components.{Components}
use Rattle.cdx_component.specs.declared.component.Pedigree.{Pedigree}
use Rattle.cdx_component.specs.Trees.{component_tree, components_tree, pedigree_tree, component_fields, pedigree_fields}
use Rattle.cdx_component.specs.Trees as nested
use Rattle.cdx_component.specs.Laws.{component_tree-out, components_tree-out, pedigree_tree-out}
use Rattle.cdx_service.specs.declared.service.Service.{Service}
use Rattle.cdx_service.specs.declared.service.Service.TheOpen.{Service-F}
use Rattle.cdx_service.specs.declared.service.Service.TheViews.{out-Service}
use Rattle.cdx_service.specs.declared.service.Services.{Services}
use Rattle.cdx_service.specs.Trees.{service_tree, services_tree, service_fields, service_items}
use Rattle.cdx_service.specs.Laws.{service_tree-out, services_tree-out}
use Rattle.cdx_nest.specs.Trees.{object_tree, tools_tree, metadata_tree}
use Rattle.cdx_nest.specs.declared.metadata.Metadata.{Metadata}
use Rattle.cdx_bom.specs.declared.bom.Bom.{Bom}
use Rattle.cdx_bom.specs.Trees.{bom_tree, inventory_groups, relations}
use Rattle.cdx_bom.proofs.Names.{lacks}
use Rattle.cdx_bom.proofs.Leaves.{texts_lack, row_lacks, list_lacks, text_lacks, number_lacks, boolean_lacks, mime_type_lacks, cpe_lacks, urn_lacks}
use Rattle.cdx_schema.specs.Kinds.{properties, licenses, compositions, vulnerabilities, patches, resolved, components, services, authors, external_references, a_text, a_list, a_record, a_data, a_tools, a_bill, Row}
use Rattle.cdx_schema.specs.Table.{rows, list, from, of, respelled_reference, signature_row}
use Rattle.cdx_losses.specs.Losses.{lost, items_lost, rows_lost}
use Rattle.cdx_losses.specs.LeftOut.{urls_row, contacts_row, diff_row, source_row, supplier_row, evidence_row}
use Rattle.cdx_losses.proofs.Spared.{is_losing, row_lost, rows_spared}

-- ---- values without records that lose something

-- whether a value may be there or not, its tree has none
abbrev pub Spared : {A : Type 0} → (A → Tree) → Type 0
Spared {A} f = (x : A) → lacks is_losing (f x) ≡ true

maybe : {A : Type 0} (f : A → Tree) → Spared f → (o : Option A) → lacks is_losing (present f o) ≡ true
maybe f h o = row_lacks is_losing f h o

pub line : (o : Option (List ℕ)) → lacks is_losing (present text o) ≡ true
line o = texts_lack is_losing o

pub text_spared : Spared text
text_spared s = text_lacks is_losing s

pub texts_spared : Spared (list_tree text)
texts_spared xs = list_lacks is_losing text text_spared xs

attached_text_spared : Spared attached_text_tree
unfolding lacks rows
attached_text_spared x = rw (line x.content_type, line x.encoding) refl

hash_spared : Spared hash_tree
unfolding lacks rows
hash_spared x = refl

hashes_spared : Spared hashes_tree
hashes_spared x = list_lacks is_losing hash_tree hash_spared x.0

property_spared : Spared property_tree
unfolding lacks rows
property_spared x = refl

pub properties_spared : Spared properties_tree
properties_spared x = list_lacks is_losing property_tree property_spared x.0

reference_spared : Spared reference_tree
unfolding lacks rows
reference_spared x = rw (line x.comment, maybe hashes_tree hashes_spared x.hashes) refl

pub references_spared : Spared references_tree
references_spared x = list_lacks is_losing reference_tree reference_spared x.0

identifier_spared : Spared identifier_tree
unfolding lacks rows
identifier_spared (identifier.SpdxId s) = refl
identifier_spared (identifier.Name s) = refl

pub expression_spared : Spared expression_tree
unfolding lacks rows
expression_spared x = rw (line x.bom_ref) refl

signer_spared : Spared signer_tree
unfolding lacks rows
signer_spared x = refl

pub signature_spared : Spared signature_tree
unfolding lacks rows
signature_spared (variant.Signers xs) = rw (list_lacks is_losing signer_tree signer_spared xs) refl
signature_spared (variant.Chain xs) = rw (list_lacks is_losing signer_tree signer_spared xs) refl
signature_spared (variant.Single x) = signer_spared x

action_spared : Spared action_tree
unfolding lacks rows
action_spared x = rw (line x.timestamp, line x.name, line x.email) refl

commit_spared : Spared commit_tree
unfolding lacks rows
commit_spared x = rw (line x.uid, line x.url, maybe action_tree action_spared x.author, maybe action_tree action_spared x.committer, line x.message) refl

commits_spared : Spared commits_tree
commits_spared x = list_lacks is_losing commit_tree commit_spared x.0

pub diff_spared : Spared diff_tree
unfolding lacks rows
diff_spared x = rw (maybe attached_text_tree attached_text_spared x.text, line x.url) refl

pub source_spared : Spared source_tree
unfolding lacks rows
source_spared x = rw (line x.name, line x.url) refl

swid_spared : Spared swid_tree
unfolding lacks rows
swid_spared x = rw (line x.version, maybe number (number_lacks is_losing) x.tag_version, maybe boolean (boolean_lacks is_losing) x.patch, maybe attached_text_tree attached_text_spared x.text, line x.url) refl

copyright_spared : Spared copyright_tree
unfolding lacks rows
copyright_spared x = refl

copyrights_spared : Spared copyrights_tree
copyrights_spared x = list_lacks is_losing copyright_tree copyright_spared x.0

pub classification_spared : Spared classification_tree
unfolding lacks rows
classification_spared x = refl

pub classifications_spared : Spared (list_tree classification_tree)
classifications_spared xs = list_lacks is_losing classification_tree classification_spared xs

dependency_spared : Spared dependency_tree
unfolding lacks rows
dependency_spared x = rw (texts_spared x.depends_on) refl

dependencies_spared : Spared dependencies_tree
dependencies_spared x = list_lacks is_losing dependency_tree dependency_spared x.0

reference_text_spared : Spared bom_reference_tree
reference_text_spared x = text_spared x.0

pub reference_texts_spared : Spared (list_tree bom_reference_tree)
reference_texts_spared xs = list_lacks is_losing bom_reference_tree reference_text_spared xs

-- ---- the rows of which something is taken

abbrev pub reference_row : Row
reference_row = from V1_5 respelled_reference

abbrev pub properties_row : Row
properties_row = from V1_5 (of (a_list properties) "properties")

abbrev pub vulnerabilities_row : Row
vulnerabilities_row = from V1_5 (of (a_list vulnerabilities) "vulnerabilities")

abbrev pub tool_references_row : Row
tool_references_row = from V1_4 (of (a_list external_references) "externalReferences")

abbrev pub zone_row : Row
zone_row = from V1_5 (of a_text "trustZone")

abbrev pub licenses_row : Row
licenses_row = of (a_list licenses) "licenses"

-- ---- leaves

pub license_lost : (u : SpecVersion) (n : ℕ) (x : License) → lost u n (license_tree x) (a_record license)
    ≡ row_lost u n reference_row (present text x.bom_ref) ++ (row_lost u n properties_row (present properties_tree x.properties) ++ [])
unfolding lost lacks rows
license_lost u n x = rows_spared u n (trees (present text x.bom_ref ∷ identifier_tree x.license_identifier ∷ present attached_text_tree x.text ∷ present text x.url ∷ present properties_tree x.properties ∷ [])) (rows license)
    (rw (identifier_spared x.license_identifier, maybe attached_text_tree attached_text_spared x.text, line x.url) refl)

pub contact_lost : (u : SpecVersion) (n : ℕ) (x : OrganizationalContact) → lost u n (contact_tree x) (a_record contact) ≡ []
unfolding lost lacks rows
contact_lost u n x = rows_spared u n (trees (present text x.bom_ref ∷ present text x.name ∷ present text x.email ∷ present text x.phone ∷ [])) (rows contact) (rw (line x.bom_ref, line x.name, line x.email, line x.phone) refl)

pub entity_lost : (u : SpecVersion) (n : ℕ) (x : OrganizationalEntity) → lost u n (entity_tree x) (a_record entity)
    ≡ row_lost u n urls_row (present (list_tree text) x.url) ++ (row_lost u n contacts_row (present (list_tree contact_tree) x.contact) ++ [])
unfolding lost lacks rows
entity_lost u n x = rows_spared u n (trees (present text x.bom_ref ∷ present text x.name ∷ present (list_tree text) x.url ∷ present (list_tree contact_tree) x.contact ∷ [])) (rows entity) (rw (line x.bom_ref, line x.name) refl)

pub tool_lost : (u : SpecVersion) (n : ℕ) (x : Tool) → lost u n (tool_tree x) (a_record tool) ≡ row_lost u n tool_references_row (present references_tree x.external_references) ++ []
unfolding lost lacks rows
tool_lost u n x = rows_spared u n (trees (present text x.vendor ∷ present text x.name ∷ present text x.version ∷ present hashes_tree x.hashes ∷ present references_tree x.external_references ∷ [])) (rows tool)
    (rw (line x.vendor, line x.name, line x.version, maybe hashes_tree hashes_spared x.hashes) refl)

pub composition_lost : (u : SpecVersion) (n : ℕ) (x : Composition) → lost u n (composition_tree x) (a_record composition)
    ≡ row_lost u n reference_row (present text x.bom_ref) ++ (row_lost u n vulnerabilities_row (present (list_tree bom_reference_tree) x.vulnerabilities) ++ (row_lost u n signature_row (present signature_tree x.signature) ++ []))
unfolding lost lacks rows
composition_lost u n x = rows_spared u n (trees (present text x.bom_ref ∷ text x.aggregate ∷ present (list_tree bom_reference_tree) x.assemblies ∷ present (list_tree bom_reference_tree) x.dependencies ∷ present (list_tree bom_reference_tree) x.vulnerabilities ∷ present signature_tree x.signature ∷ [])) (rows composition)
    (rw (maybe (list_tree bom_reference_tree) reference_texts_spared x.assemblies, maybe (list_tree bom_reference_tree) reference_texts_spared x.dependencies) refl)

pub issue_lost : (u : SpecVersion) (n : ℕ) (x : Issue) → lost u n (issue_tree x) (a_record issue) ≡ row_lost u n source_row (present source_tree x.source) ++ []
unfolding lost lacks rows
issue_lost u n x = rows_spared u n (trees (text x.issue_type ∷ present text x.id ∷ present text x.name ∷ present text x.description ∷ present source_tree x.source ∷ present (list_tree text) x.references ∷ [])) (rows issue)
    (rw (line x.id, line x.name, line x.description, maybe (list_tree text) texts_spared x.references) refl)

pub patch_lost : (u : SpecVersion) (n : ℕ) (x : Patch) → lost u n (patch_tree x) (a_record patch)
    ≡ row_lost u n diff_row (present diff_tree x.diff) ++ (row_lost u n (of (a_list resolved) "resolves") (present (list_tree issue_tree) x.resolves) ++ [])
unfolding lost lacks rows
patch_lost u n x = rows_spared u n (trees (text x.patch_type ∷ present diff_tree x.diff ∷ present (list_tree issue_tree) x.resolves ∷ [])) (rows patch) refl

pub evidence_lost : (u : SpecVersion) (n : ℕ) (x : ComponentEvidence) → lost u n (evidence_tree x) (a_record evidence) ≡ row_lost u n licenses_row (present licenses_tree x.licenses) ++ []
unfolding lost lacks rows
evidence_lost u n x = rows_spared u n (trees (present licenses_tree x.licenses ∷ present copyrights_tree x.copyright ∷ [])) (rows evidence) (rw (maybe copyrights_tree copyrights_spared x.copyright) refl)

-- ---- components

component_level : {C L P : Type 0} (u : SpecVersion) (n : ℕ) (l : L → Tree) (p : P → Tree) (x : Component-F C L P) → rows_lost u n (component_fields l p x) (rows component)
    ≡ row_lost u n supplier_row (present entity_tree x.supplier) ++ (row_lost u n licenses_row (present licenses_tree x.licenses)
    ++ (row_lost u n (of (a_record pedigree) "pedigree") (present p x.pedigree) ++ (row_lost u n (of (a_list components) "components") (present l x.components)
    ++ (row_lost u n evidence_row (present evidence_tree x.evidence) ++ (row_lost u n signature_row (present signature_tree x.signature) ++ [])))))
unfolding lost lacks rows
component_level u n l p x = rows_spared u n (component_fields l p x) (rows component) (rw (
  maybe mime_type_tree (mime_type_lacks is_losing) x.mime_type,
  line x.bom_ref,
  line x.author,
  line x.publisher,
  line x.group,
  line x.version,
  line x.description,
  line x.scope,
  maybe hashes_tree hashes_spared x.hashes,
  line x.copyright,
  maybe cpe_tree (cpe_lacks is_losing) x.cpe,
  line x.purl,
  maybe swid_tree swid_spared x.swid,
  maybe boolean (boolean_lacks is_losing) x.modified,
  maybe references_tree references_spared x.external_references,
  maybe properties_tree properties_spared x.properties,
) refl)

pub component_lost : (u : SpecVersion) (n : ℕ) (c : Component) → lost u n (component_tree c) (a_record component)
    ≡ row_lost u n supplier_row (present entity_tree (out-Component c).supplier) ++ (row_lost u n licenses_row (present licenses_tree (out-Component c).licenses)
    ++ (row_lost u n (of (a_record pedigree) "pedigree") (present pedigree_tree (out-Component c).pedigree) ++ (row_lost u n (of (a_list components) "components") (present components_tree (out-Component c).components)
    ++ (row_lost u n evidence_row (present evidence_tree (out-Component c).evidence) ++ (row_lost u n signature_row (present signature_tree (out-Component c).signature) ++ [])))))
unfolding lost
component_lost u n c = ap (λ t. lost u n t (a_record component)) (component_tree-out c) ∙ component_level u n components_tree pedigree_tree (out-Component c)

pedigree_level : {C L P : Type 0} (u : SpecVersion) (n : ℕ) (l : L → Tree) (x : Pedigree-F C L P) → rows_lost u n (pedigree_fields l x) (rows pedigree)
    ≡ row_lost u n (of (a_list components) "ancestors") (present l x.ancestors) ++ (row_lost u n (of (a_list components) "descendants") (present l x.descendants)
    ++ (row_lost u n (of (a_list components) "variants") (present l x.variants) ++ (row_lost u n (of (a_list patches) "patches") (present patches_tree x.patches) ++ [])))
unfolding lost lacks rows
pedigree_level u n l x = rows_spared u n (pedigree_fields l x) (rows pedigree) (rw (maybe commits_tree commits_spared x.commits, line x.notes) refl)

pub pedigree_lost : (u : SpecVersion) (n : ℕ) (p : Pedigree) → lost u n (pedigree_tree p) (a_record pedigree)
    ≡ row_lost u n (of (a_list components) "ancestors") (present components_tree (out-Pedigree p).ancestors) ++ (row_lost u n (of (a_list components) "descendants") (present components_tree (out-Pedigree p).descendants)
    ++ (row_lost u n (of (a_list components) "variants") (present components_tree (out-Pedigree p).variants) ++ (row_lost u n (of (a_list patches) "patches") (present patches_tree (out-Pedigree p).patches) ++ [])))
unfolding lost
pedigree_lost u n p = ap (λ t. lost u n t (a_record pedigree)) (pedigree_tree-out p) ∙ pedigree_level u n components_tree (out-Pedigree p)

pub components_lost : (u : SpecVersion) (n : ℕ) (cs : Components) → lost u n (components_tree cs) (a_list components) ≡ items_lost u n (each component_tree (nested.component_items cs)) (a_record component) 0
unfolding lost list
components_lost u n cs = ap (λ t. lost u n t (a_list components)) (components_tree-out cs)

-- ---- services

service_level : {S L : Type 0} (u : SpecVersion) (n : ℕ) (l : L → Tree) (x : Service-F S L) → rows_lost u n (service_fields l x) (rows service)
    ≡ row_lost u n (of (a_record entity) "provider") (present entity_tree x.provider) ++ (row_lost u n (of a_data "data") (present data_tree x.data_items)
    ++ (row_lost u n licenses_row (present licenses_tree x.licenses) ++ (row_lost u n (of (a_list services) "services") (present l x.services)
    ++ (row_lost u n signature_row (present signature_tree x.signature) ++ (row_lost u n zone_row (present text x.trust_zone) ++ [])))))
unfolding lost lacks rows
service_level u n l x = rows_spared u n (service_fields l x) (rows service) (rw (
  line x.bom_ref,
  line x.group,
  line x.version,
  line x.description,
  maybe (list_tree text) texts_spared x.endpoints,
  maybe boolean (boolean_lacks is_losing) x.authenticated,
  maybe boolean (boolean_lacks is_losing) x.x_trust_boundary,
  maybe references_tree references_spared x.external_references,
  maybe properties_tree properties_spared x.properties,
) refl)

pub service_lost : (u : SpecVersion) (n : ℕ) (s : Service) → lost u n (service_tree s) (a_record service)
    ≡ row_lost u n (of (a_record entity) "provider") (present entity_tree (out-Service s).provider) ++ (row_lost u n (of a_data "data") (present data_tree (out-Service s).data_items)
    ++ (row_lost u n licenses_row (present licenses_tree (out-Service s).licenses) ++ (row_lost u n (of (a_list services) "services") (present services_tree (out-Service s).services)
    ++ (row_lost u n signature_row (present signature_tree (out-Service s).signature) ++ (row_lost u n zone_row (present text (out-Service s).trust_zone) ++ [])))))
unfolding lost
service_lost u n s = ap (λ t. lost u n t (a_record service)) (service_tree-out s) ∙ service_level u n services_tree (out-Service s)

pub services_lost : (u : SpecVersion) (n : ℕ) (ss : Services) → lost u n (services_tree ss) (a_list services) ≡ items_lost u n (each service_tree (service_items ss)) (a_record service) 0
unfolding lost list
services_lost u n ss = ap (λ t. lost u n t (a_list services)) (services_tree-out ss)

-- ---- the bill

pub object_lost : (u : SpecVersion) (n : ℕ) (ss : Option Services) (cs : Option Components) → lost u n (object_tree ss cs) a_tools
    ≡ row_lost u n (of (a_list services) "services") (present services_tree ss) ++ (row_lost u n (of (a_list components) "components") (present components_tree cs) ++ [])
unfolding lost lacks rows
object_lost u n ss cs = rows_spared u n (trees (present services_tree ss ∷ present components_tree cs ∷ [])) (rows tools_object) refl

pub metadata_lost : (u : SpecVersion) (n : ℕ) (m : Metadata) → lost u n (metadata_tree m) (a_record metadata)
    ≡ row_lost u n (of a_tools "tools") (present tools_tree m.tools) ++ (row_lost u n (of (a_list authors) "authors") (present (list_tree contact_tree) m.authors)
    ++ (row_lost u n (of (a_record component) "component") (present component_tree m.component) ++ (row_lost u n (of (a_record entity) "manufacture") (present entity_tree m.manufacture)
    ++ (row_lost u n (of (a_record entity) "supplier") (present entity_tree m.supplier) ++ (row_lost u n licenses_row (present licenses_tree m.licenses) ++ [])))))
unfolding lost lacks rows
metadata_lost u n m = rows_spared u n (trees (present text m.timestamp ∷ present tools_tree m.tools ∷ present (list_tree contact_tree) m.authors ∷ present component_tree m.component ∷ present entity_tree m.manufacture ∷ present entity_tree m.supplier ∷ present licenses_tree m.licenses ∷ present properties_tree m.properties ∷ [])) (rows metadata)
    (rw (line m.timestamp, maybe properties_tree properties_spared m.properties) refl)

pub bill_lost : (u : SpecVersion) (n : ℕ) (b : Bom) → lost u n (bom_tree b) a_bill
    ≡ row_lost u n (of (a_record metadata) "metadata") (present metadata_tree b.metadata) ++ (row_lost u n (of (a_list components) "components") (present components_tree b.components)
    ++ (row_lost u n (of (a_list services) "services") (present services_tree b.services) ++ (row_lost u n (of (a_list compositions) "compositions") (present compositions_tree b.compositions)
    ++ (row_lost u n properties_row (present properties_tree b.properties) ++ (row_lost u n signature_row (present signature_tree b.signature) ++ [])))))
unfolding lost lacks rows
bill_lost u n b = rows_spared u n (inventory_groups b ⧺ relations b) (rows bill)
    (rw (maybe urn_tree (urn_lacks is_losing) b.serial_number, maybe references_tree references_spared b.external_references, maybe dependencies_tree dependencies_spared b.dependencies) refl)
