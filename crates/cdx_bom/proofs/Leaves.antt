-- The leaf records hold no component, no service and no metadata.
use Rattle.std.proofs.Common.{◌≡◌, ℕ, Bool, true, false, List, [], ◌∷◌, ◌&&◌, not, if◌then◌else◌, Option, Some, None, refl}
use Rattle.cdx_models.specs.Trees.{Name, hash, property, attached_text, contact, entity, reference, tool, license, expression, spdx_id, license_name, signer, signers, chain, action, commit, diff, source, issue, patch, swid, copyright, evidence, classification, service_data, dependency, composition, Tree, text, number, boolean, present, list_tree, each, is_absent}
use Rattle.cdx_models.specs.Records.{urn_tree, hash_tree, hashes_tree, property_tree, properties_tree, attached_text_tree, contact_tree, entity_tree, reference_tree, references_tree, tool_tree}
use Rattle.cdx_license.specs.Records.{identifier_tree, license_tree, expression_tree, choice_tree, licenses_tree}
use Rattle.cdx_signature.specs.Records.{signer_tree, signature_tree}
use Rattle.cdx_code.specs.Records.{action_tree, commit_tree, commits_tree}
use Rattle.cdx_patch.specs.Records.{diff_tree, source_tree, issue_tree, patch_tree, patches_tree}
use Rattle.cdx_component_parts.specs.Records.{mime_type_tree, cpe_tree, swid_tree, copyright_tree, copyrights_tree, evidence_tree}
use Rattle.cdx_service_data.specs.Records.{classification_tree, service_data_tree, service_entry, data_tree}
use Rattle.cdx_relations.specs.Records.{dependency_tree, dependencies_tree, bom_reference_tree, composition_tree, compositions_tree}
use Rattle.cdx_models.specs.declared.bom.UrnUuid.{UrnUuid}
use Rattle.cdx_models.specs.declared.hash.Hash.{Hash}
use Rattle.cdx_models.specs.declared.hash.Hashes.{Hashes}
use Rattle.cdx_models.specs.declared.property.Property.{Property}
use Rattle.cdx_models.specs.declared.property.Properties.{Properties}
use Rattle.cdx_models.specs.declared.attached_text.AttachedText.{AttachedText}
use Rattle.cdx_models.specs.declared.organization.OrganizationalContact.{OrganizationalContact}
use Rattle.cdx_models.specs.declared.organization.OrganizationalEntity.{OrganizationalEntity}
use Rattle.cdx_models.specs.declared.external_reference.ExternalReference.{ExternalReference}
use Rattle.cdx_models.specs.declared.external_reference.ExternalReferences.{ExternalReferences}
use Rattle.cdx_models.specs.declared.tool.Tool.{Tool}
use Rattle.cdx_license.specs.declared.license.LicenseIdentifier.{LicenseIdentifier}
use Rattle.cdx_license.specs.declared.license.License.{License}
use Rattle.cdx_license.specs.declared.license.Expression.{Expression}
use Rattle.cdx_license.specs.declared.license.LicenseChoice.{LicenseChoice}
use Rattle.cdx_license.specs.declared.license.Licenses.{Licenses}
use Rattle.cdx_signature.specs.declared.signature.Signer.{Signer}
use Rattle.cdx_signature.specs.declared.signature.Signature.{Signature}
use Rattle.cdx_code.specs.declared.code.IdentifiableAction.{IdentifiableAction}
use Rattle.cdx_code.specs.declared.code.Commit.{Commit}
use Rattle.cdx_code.specs.declared.code.Commits.{Commits}
use Rattle.cdx_patch.specs.declared.code.Diff.{Diff}
use Rattle.cdx_patch.specs.declared.code.Source.{Source}
use Rattle.cdx_patch.specs.declared.code.Issue.{Issue}
use Rattle.cdx_patch.specs.declared.code.Patch.{Patch}
use Rattle.cdx_patch.specs.declared.code.Patches.{Patches}
use Rattle.cdx_component_parts.specs.declared.component.Swid.{Swid}
use Rattle.cdx_component_parts.specs.declared.component.Copyright.{Copyright}
use Rattle.cdx_component_parts.specs.declared.component.CopyrightTexts.{CopyrightTexts}
use Rattle.cdx_component_parts.specs.declared.component.ComponentEvidence.{ComponentEvidence}
use Rattle.cdx_license.specs.declared.license.LicenseIdentifier.TheVariants as identifier
use Rattle.cdx_license.specs.declared.license.LicenseChoice.TheVariants as choice
use Rattle.cdx_signature.specs.declared.signature.Signature.TheVariants as variant
use Rattle.cdx_component_parts.specs.declared.component.MimeType.{MimeType}
use Rattle.cdx_component_parts.specs.declared.component.Cpe.{Cpe}
use Rattle.cdx_service_data.specs.declared.service.DataClassification.{DataClassification}
use Rattle.cdx_service_data.specs.declared.service.ServiceData.{ServiceData}
use Rattle.cdx_service_data.specs.declared.service.Data.{Data}
use Rattle.cdx_service_data.specs.declared.service.Data.TheVariants as data_of
use Rattle.cdx_relations.specs.declared.dependency.Dependency.{Dependency}
use Rattle.cdx_relations.specs.declared.dependency.Dependencies.{Dependencies}
use Rattle.cdx_relations.specs.declared.composition.BomReference.{BomReference}
use Rattle.cdx_relations.specs.declared.composition.Composition.{Composition}
use Rattle.cdx_relations.specs.declared.composition.Compositions.{Compositions}
use Rattle.cdx_schema.specs.Table.{rows}
use Rattle.cdx_bom.proofs.Names.{lacks, all_lack, SparesLeaves}

-- ---- fields and lists

pub texts_lack : (Q : Name → Bool) (o : Option (List ℕ)) → lacks Q (present text o) ≡ true
unfolding lacks
texts_lack Q None = refl
texts_lack Q (Some s) = refl

pub row_lacks : {A : Type 0} (Q : Name → Bool) (f : A → Tree) → ((x : A) → lacks Q (f x) ≡ true) → (o : Option A) → lacks Q (present f o) ≡ true
unfolding lacks
row_lacks Q f h None = refl
row_lacks Q f h (Some x) = h x

pub items_lack : {A : Type 0} (Q : Name → Bool) (f : A → Tree) → ((x : A) → lacks Q (f x) ≡ true) → (xs : List A) → all_lack Q (each f xs) ≡ true
unfolding lacks
items_lack Q f h [] = refl
items_lack Q f h (x ∷ xs) = rw (h x, items_lack Q f h xs) refl

pub list_lacks : {A : Type 0} (Q : Name → Bool) (f : A → Tree) → ((x : A) → lacks Q (f x) ≡ true) → (xs : List A) → lacks Q (list_tree f xs) ≡ true
unfolding lacks
list_lacks Q f h xs = items_lack Q f h xs

pub text_lacks : (Q : Name → Bool) (s : List ℕ) → lacks Q (text s) ≡ true
unfolding lacks
text_lacks Q s = refl

pub number_lacks : (Q : Name → Bool) (n : ℕ) → lacks Q (number n) ≡ true
unfolding lacks
number_lacks Q n = refl

pub boolean_lacks : (Q : Name → Bool) (b : Bool) → lacks Q (boolean b) ≡ true
unfolding lacks
boolean_lacks Q b = refl

-- ---- records

pub hash_lacks : (Q : Name → Bool) → SparesLeaves Q → (x : Hash) → lacks Q (hash_tree x) ≡ true
unfolding lacks rows
hash_lacks Q h x = rw (h hash refl) refl

pub hashes_lack : (Q : Name → Bool) → SparesLeaves Q → (x : Hashes) → lacks Q (hashes_tree x) ≡ true
hashes_lack Q h x = list_lacks Q hash_tree (hash_lacks Q h) x.0

pub property_lacks : (Q : Name → Bool) → SparesLeaves Q → (x : Property) → lacks Q (property_tree x) ≡ true
unfolding lacks rows
property_lacks Q h x = rw (h property refl) refl

pub properties_lack : (Q : Name → Bool) → SparesLeaves Q → (x : Properties) → lacks Q (properties_tree x) ≡ true
properties_lack Q h x = list_lacks Q property_tree (property_lacks Q h) x.0

pub attached_text_lacks : (Q : Name → Bool) → SparesLeaves Q → (x : AttachedText) → lacks Q (attached_text_tree x) ≡ true
unfolding lacks rows
attached_text_lacks Q h x = rw (h attached_text refl, texts_lack Q x.content_type, texts_lack Q x.encoding) refl

pub contact_lacks : (Q : Name → Bool) → SparesLeaves Q → (x : OrganizationalContact) → lacks Q (contact_tree x) ≡ true
unfolding lacks rows
contact_lacks Q h x = rw (h contact refl, texts_lack Q x.bom_ref, texts_lack Q x.name, texts_lack Q x.email, texts_lack Q x.phone) refl

pub entity_lacks : (Q : Name → Bool) → SparesLeaves Q → (x : OrganizationalEntity) → lacks Q (entity_tree x) ≡ true
unfolding lacks rows
entity_lacks Q h x = rw (h entity refl, texts_lack Q x.bom_ref, texts_lack Q x.name, row_lacks Q (list_tree text) (list_lacks Q text (text_lacks Q)) x.url, row_lacks Q (list_tree contact_tree) (list_lacks Q contact_tree (contact_lacks Q h)) x.contact) refl

pub reference_lacks : (Q : Name → Bool) → SparesLeaves Q → (x : ExternalReference) → lacks Q (reference_tree x) ≡ true
unfolding lacks rows
reference_lacks Q h x = rw (h reference refl, texts_lack Q x.comment, row_lacks Q hashes_tree (hashes_lack Q h) x.hashes) refl

pub references_lack : (Q : Name → Bool) → SparesLeaves Q → (x : ExternalReferences) → lacks Q (references_tree x) ≡ true
references_lack Q h x = list_lacks Q reference_tree (reference_lacks Q h) x.0

pub tool_lacks : (Q : Name → Bool) → SparesLeaves Q → (x : Tool) → lacks Q (tool_tree x) ≡ true
unfolding lacks rows
tool_lacks Q h x = rw (h tool refl, texts_lack Q x.vendor, texts_lack Q x.name, texts_lack Q x.version, row_lacks Q hashes_tree (hashes_lack Q h) x.hashes, row_lacks Q references_tree (references_lack Q h) x.external_references) refl

identifier_lacks : (Q : Name → Bool) → SparesLeaves Q → (x : LicenseIdentifier) → lacks Q (identifier_tree x) ≡ true
unfolding lacks rows
identifier_lacks Q h (identifier.SpdxId s) = rw (h spdx_id refl) refl
identifier_lacks Q h (identifier.Name s) = rw (h license_name refl) refl

pub license_lacks : (Q : Name → Bool) → SparesLeaves Q → (x : License) → lacks Q (license_tree x) ≡ true
unfolding lacks rows
license_lacks Q h x = rw (h license refl, texts_lack Q x.bom_ref, identifier_lacks Q h x.license_identifier, row_lacks Q attached_text_tree (attached_text_lacks Q h) x.text, texts_lack Q x.url, row_lacks Q properties_tree (properties_lack Q h) x.properties) refl

pub expression_lacks : (Q : Name → Bool) → SparesLeaves Q → (x : Expression) → lacks Q (expression_tree x) ≡ true
unfolding lacks rows
expression_lacks Q h x = rw (h expression refl, texts_lack Q x.bom_ref) refl

choice_lacks : (Q : Name → Bool) → SparesLeaves Q → (x : LicenseChoice) → lacks Q (choice_tree x) ≡ true
choice_lacks Q h (choice.License x) = license_lacks Q h x
choice_lacks Q h (choice.Expression x) = expression_lacks Q h x

pub licenses_lack : (Q : Name → Bool) → SparesLeaves Q → (x : Licenses) → lacks Q (licenses_tree x) ≡ true
licenses_lack Q h x = list_lacks Q choice_tree (choice_lacks Q h) x.0

pub signer_lacks : (Q : Name → Bool) → SparesLeaves Q → (x : Signer) → lacks Q (signer_tree x) ≡ true
unfolding lacks rows
signer_lacks Q h x = rw (h signer refl) refl

pub signature_lacks : (Q : Name → Bool) → SparesLeaves Q → (x : Signature) → lacks Q (signature_tree x) ≡ true
unfolding lacks rows
signature_lacks Q h (variant.Signers xs) = rw (h signers refl, list_lacks Q signer_tree (signer_lacks Q h) xs) refl
signature_lacks Q h (variant.Chain xs) = rw (h chain refl, list_lacks Q signer_tree (signer_lacks Q h) xs) refl
signature_lacks Q h (variant.Single x) = signer_lacks Q h x

pub action_lacks : (Q : Name → Bool) → SparesLeaves Q → (x : IdentifiableAction) → lacks Q (action_tree x) ≡ true
unfolding lacks rows
action_lacks Q h x = rw (h action refl, texts_lack Q x.timestamp, texts_lack Q x.name, texts_lack Q x.email) refl

pub commit_lacks : (Q : Name → Bool) → SparesLeaves Q → (x : Commit) → lacks Q (commit_tree x) ≡ true
unfolding lacks rows
commit_lacks Q h x = rw (h commit refl, texts_lack Q x.uid, texts_lack Q x.url, row_lacks Q action_tree (action_lacks Q h) x.author, row_lacks Q action_tree (action_lacks Q h) x.committer, texts_lack Q x.message) refl

pub commits_lack : (Q : Name → Bool) → SparesLeaves Q → (x : Commits) → lacks Q (commits_tree x) ≡ true
commits_lack Q h x = list_lacks Q commit_tree (commit_lacks Q h) x.0

pub diff_lacks : (Q : Name → Bool) → SparesLeaves Q → (x : Diff) → lacks Q (diff_tree x) ≡ true
unfolding lacks rows
diff_lacks Q h x = rw (h diff refl, row_lacks Q attached_text_tree (attached_text_lacks Q h) x.text, texts_lack Q x.url) refl

pub source_lacks : (Q : Name → Bool) → SparesLeaves Q → (x : Source) → lacks Q (source_tree x) ≡ true
unfolding lacks rows
source_lacks Q h x = rw (h source refl, texts_lack Q x.name, texts_lack Q x.url) refl

pub issue_lacks : (Q : Name → Bool) → SparesLeaves Q → (x : Issue) → lacks Q (issue_tree x) ≡ true
unfolding lacks rows
issue_lacks Q h x = rw (h issue refl, texts_lack Q x.id, texts_lack Q x.name, texts_lack Q x.description, row_lacks Q source_tree (source_lacks Q h) x.source, row_lacks Q (list_tree text) (list_lacks Q text (text_lacks Q)) x.references) refl

pub patch_lacks : (Q : Name → Bool) → SparesLeaves Q → (x : Patch) → lacks Q (patch_tree x) ≡ true
unfolding lacks rows
patch_lacks Q h x = rw (h patch refl, row_lacks Q diff_tree (diff_lacks Q h) x.diff, row_lacks Q (list_tree issue_tree) (list_lacks Q issue_tree (issue_lacks Q h)) x.resolves) refl

pub patches_lack : (Q : Name → Bool) → SparesLeaves Q → (x : Patches) → lacks Q (patches_tree x) ≡ true
patches_lack Q h x = list_lacks Q patch_tree (patch_lacks Q h) x.0

pub swid_lacks : (Q : Name → Bool) → SparesLeaves Q → (x : Swid) → lacks Q (swid_tree x) ≡ true
unfolding lacks rows
swid_lacks Q h x = rw (h swid refl, texts_lack Q x.version, row_lacks Q number (number_lacks Q) x.tag_version, row_lacks Q boolean (boolean_lacks Q) x.patch, row_lacks Q attached_text_tree (attached_text_lacks Q h) x.text, texts_lack Q x.url) refl

pub copyright_lacks : (Q : Name → Bool) → SparesLeaves Q → (x : Copyright) → lacks Q (copyright_tree x) ≡ true
unfolding lacks rows
copyright_lacks Q h x = rw (h copyright refl) refl

pub copyrights_lack : (Q : Name → Bool) → SparesLeaves Q → (x : CopyrightTexts) → lacks Q (copyrights_tree x) ≡ true
copyrights_lack Q h x = list_lacks Q copyright_tree (copyright_lacks Q h) x.0

pub evidence_lacks : (Q : Name → Bool) → SparesLeaves Q → (x : ComponentEvidence) → lacks Q (evidence_tree x) ≡ true
unfolding lacks rows
evidence_lacks Q h x = rw (h evidence refl, row_lacks Q licenses_tree (licenses_lack Q h) x.licenses, row_lacks Q copyrights_tree (copyrights_lack Q h) x.copyright) refl

pub cpe_lacks : (Q : Name → Bool) (x : Cpe) → lacks Q (cpe_tree x) ≡ true
cpe_lacks Q x = text_lacks Q x.0

pub mime_type_lacks : (Q : Name → Bool) (x : MimeType) → lacks Q (mime_type_tree x) ≡ true
mime_type_lacks Q x = text_lacks Q x.0

pub urn_lacks : (Q : Name → Bool) (x : UrnUuid) → lacks Q (urn_tree x) ≡ true
urn_lacks Q x = text_lacks Q x.0

pub classification_lacks : (Q : Name → Bool) → SparesLeaves Q → (x : DataClassification) → lacks Q (classification_tree x) ≡ true
unfolding lacks rows
classification_lacks Q h x = rw (h classification refl) refl

pub service_data_lacks : (Q : Name → Bool) → SparesLeaves Q → (x : ServiceData) → lacks Q (service_data_tree x) ≡ true
unfolding lacks rows
service_data_lacks Q h x = rw (h service_data refl, texts_lack Q x.name, texts_lack Q x.description, classification_lacks Q h x.classification) refl

one_of : (Q : Name → Bool) (b : Bool) (t u : Tree) → lacks Q t ≡ true → lacks Q u ≡ true → lacks Q (if b then t else u) ≡ true
one_of Q true t u p q = p
one_of Q false t u p q = q

entry_lacks : (Q : Name → Bool) → SparesLeaves Q → (x : ServiceData) → lacks Q (service_entry x) ≡ true
entry_lacks Q h x =
    one_of Q (not (is_absent (present text x.name) && is_absent (present text x.description))) (service_data_tree x) (classification_tree x.classification) (service_data_lacks Q h x) (classification_lacks Q h x.classification)

pub data_lacks : (Q : Name → Bool) → SparesLeaves Q → (x : Data) → lacks Q (data_tree x) ≡ true
data_lacks Q h (data_of.Classification xs) = list_lacks Q classification_tree (classification_lacks Q h) xs
data_lacks Q h (data_of.ServiceData xs) = list_lacks Q service_entry (entry_lacks Q h) xs

pub dependency_lacks : (Q : Name → Bool) → SparesLeaves Q → (x : Dependency) → lacks Q (dependency_tree x) ≡ true
unfolding lacks rows
dependency_lacks Q h x = rw (h dependency refl, list_lacks Q text (text_lacks Q) x.depends_on) refl

pub dependencies_lack : (Q : Name → Bool) → SparesLeaves Q → (x : Dependencies) → lacks Q (dependencies_tree x) ≡ true
dependencies_lack Q h x = list_lacks Q dependency_tree (dependency_lacks Q h) x.0

bom_reference_lacks : (Q : Name → Bool) (x : BomReference) → lacks Q (bom_reference_tree x) ≡ true
bom_reference_lacks Q x = text_lacks Q x.0

pub composition_lacks : (Q : Name → Bool) → SparesLeaves Q → (x : Composition) → lacks Q (composition_tree x) ≡ true
unfolding lacks rows
composition_lacks Q h x = rw (h composition refl, texts_lack Q x.bom_ref, row_lacks Q (list_tree bom_reference_tree) (list_lacks Q bom_reference_tree (bom_reference_lacks Q)) x.assemblies, row_lacks Q (list_tree bom_reference_tree) (list_lacks Q bom_reference_tree (bom_reference_lacks Q)) x.dependencies, row_lacks Q (list_tree bom_reference_tree) (list_lacks Q bom_reference_tree (bom_reference_lacks Q)) x.vulnerabilities, row_lacks Q signature_tree (signature_lacks Q h) x.signature) refl

pub compositions_lack : (Q : Name → Bool) → SparesLeaves Q → (x : Compositions) → lacks Q (compositions_tree x) ≡ true
compositions_lack Q h x = list_lacks Q composition_tree (composition_lacks Q h) x.0
