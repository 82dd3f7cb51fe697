-- The leaf records fit every version: none of them holds a component.
use Rattle.std.proofs.Common.{◌≡◌, ℕ, Bool, true, List, [], ◌∷◌, ◌&&◌, Option, Some, None, refl, ap, ◌∙◌}
use Rattle.cdx_models.specs.Trees.{hash, property, attached_text, contact, entity, reference, tool, license, expression, signer, action, commit, diff, source, issue, patch, swid, copyright, evidence, Tree, text, number, boolean, present, list_tree, each}
use Rattle.cdx_models.specs.Records.{hash_tree, hashes_tree, property_tree, properties_tree, attached_text_tree, contact_tree, entity_tree, reference_tree, references_tree, tool_tree}
use Rattle.cdx_license.specs.Records.{identifier_tree, license_tree, expression_tree, choice_tree, licenses_tree}
use Rattle.cdx_signature.specs.Records.{signer_tree, signature_tree}
use Rattle.cdx_code.specs.Records.{action_tree, commit_tree, commits_tree}
use Rattle.cdx_patch.specs.Records.{diff_tree, source_tree, issue_tree, patch_tree, patches_tree}
use Rattle.cdx_component_parts.specs.Records.{swid_tree, copyright_tree, copyrights_tree, evidence_tree}
use Rattle.cdx_models.specs.declared.hash.Hash.{Hash}
use Rattle.cdx_models.specs.declared.hash.Hashes.{Hashes}
use Rattle.cdx_models.specs.declared.property.Property.{Property}
use Rattle.cdx_models.specs.declared.property.Properties.{Properties}
use Rattle.cdx_models.specs.declared.attached_text.AttachedText.{AttachedText}
use Rattle.cdx_models.specs.declared.organization.OrganizationalContact.{OrganizationalContact}
use Rattle.cdx_models.specs.declared.organization.OrganizationalEntity.{OrganizationalEntity}
use Rattle.cdx_models.specs.declared.external_reference.ExternalReference.{ExternalReference}
use Rattle.cdx_models.specs.declared.external_reference.ExternalReferences.{ExternalReferences}
use Rattle.cdx_models.specs.declared.tool.Tool.{Tool}
use Rattle.cdx_license.specs.declared.license.LicenseIdentifier.{LicenseIdentifier}
use Rattle.cdx_license.specs.declared.license.License.{License}
use Rattle.cdx_license.specs.declared.license.Expression.{Expression}
use Rattle.cdx_license.specs.declared.license.LicenseChoice.{LicenseChoice}
use Rattle.cdx_license.specs.declared.license.Licenses.{Licenses}
use Rattle.cdx_signature.specs.declared.signature.Signer.{Signer}
use Rattle.cdx_signature.specs.declared.signature.Signature.{Signature}
use Rattle.cdx_code.specs.declared.code.IdentifiableAction.{IdentifiableAction}
use Rattle.cdx_code.specs.declared.code.Commit.{Commit}
use Rattle.cdx_code.specs.declared.code.Commits.{Commits}
use Rattle.cdx_patch.specs.declared.code.Diff.{Diff}
use Rattle.cdx_patch.specs.declared.code.Source.{Source}
use Rattle.cdx_patch.specs.declared.code.Issue.{Issue}
use Rattle.cdx_patch.specs.declared.code.Patch.{Patch}
use Rattle.cdx_patch.specs.declared.code.Patches.{Patches}
use Rattle.cdx_component_parts.specs.declared.component.Swid.{Swid}
use Rattle.cdx_component_parts.specs.declared.component.Copyright.{Copyright}
use Rattle.cdx_component_parts.specs.declared.component.CopyrightTexts.{CopyrightTexts}
use Rattle.cdx_component_parts.specs.declared.component.ComponentEvidence.{ComponentEvidence}
use Rattle.cdx_license.specs.declared.license.LicenseIdentifier.TheVariants as identifier
use Rattle.cdx_license.specs.declared.license.LicenseChoice.TheVariants as choice
use Rattle.cdx_signature.specs.declared.signature.Signature.TheVariants as variant
use Rattle.cdx_schema.specs.Kinds.{Lists, hashes, properties, urls, contacts, external_references, licenses, commits, patches, resolved, links, signer_list, chain_list, copyright_texts, Kind, a_text, a_boolean, a_number, a_list, a_record, a_license_identifier, a_license_choice, a_signature}
use Rattle.cdx_schema.specs.Table.{rows, list}
use Rattle.cdx_schema.specs.Keeping.{has_versions, items_have_versions}

pub text_fit : (s : List ℕ) → has_versions (text s) a_text ≡ true
unfolding has_versions
text_fit s = refl

pub text_fits : (k : Kind) (o : Option (List ℕ)) → has_versions (present text o) k ≡ true
unfolding has_versions
text_fits k None = refl
text_fits k (Some s) = refl

pub boolean_fits : (b : Bool) → has_versions (boolean b) a_boolean ≡ true
unfolding has_versions
boolean_fits b = refl

pub number_fits : (n : ℕ) → has_versions (number n) a_number ≡ true
unfolding has_versions
number_fits n = refl

pub row_fits : {A : Type 0} (f : A → Tree) (k : Kind) → ((x : A) → has_versions (f x) k ≡ true) → (o : Option A) → has_versions (present f o) k ≡ true
unfolding has_versions
row_fits f k fit None = refl
row_fits f k fit (Some x) = fit x

pub items_fit : {A : Type 0} (f : A → Tree) (k : Kind) → ((x : A) → has_versions (f x) k ≡ true) → (xs : List A) → items_have_versions (each f xs) k ≡ true
unfolding has_versions
items_fit f k fit [] = refl
items_fit f k fit (x ∷ xs) = ap (λ b. b && items_have_versions (each f xs) k) (fit x) ∙ items_fit f k fit xs

pub list_fits : {A : Type 0} (f : A → Tree) (l : Lists) → ((x : A) → has_versions (f x) (list l).kind ≡ true) → (xs : List A) → has_versions (list_tree f xs) (a_list l) ≡ true
unfolding has_versions
list_fits f l fit xs = items_fit f (list l).kind fit xs

pub hash_fits : (x : Hash) → has_versions (hash_tree x) (a_record hash) ≡ true
unfolding has_versions rows list
hash_fits x = refl

pub property_fits : (x : Property) → has_versions (property_tree x) (a_record property) ≡ true
unfolding has_versions rows list
property_fits x = refl

pub attached_text_fits : (x : AttachedText) → has_versions (attached_text_tree x) (a_record attached_text) ≡ true
unfolding has_versions rows list
attached_text_fits x = rw (text_fits a_text x.content_type, text_fits a_text x.encoding) refl

pub contact_fits : (x : OrganizationalContact) → has_versions (contact_tree x) (a_record contact) ≡ true
unfolding has_versions rows list
contact_fits x = rw (text_fits a_text x.bom_ref, text_fits a_text x.name, text_fits a_text x.email, text_fits a_text x.phone) refl

pub entity_fits : (x : OrganizationalEntity) → has_versions (entity_tree x) (a_record entity) ≡ true
unfolding has_versions rows list
entity_fits x = rw (text_fits a_text x.bom_ref, text_fits a_text x.name, row_fits (list_tree text) (a_list urls) (list_fits text urls (λ s. text_fit s)) x.url, row_fits (list_tree contact_tree) (a_list contacts) (list_fits contact_tree contacts contact_fits) x.contact) refl

pub hashes_fit : (x : Hashes) → has_versions (hashes_tree x) (a_list hashes) ≡ true
unfolding list
hashes_fit x = list_fits hash_tree hashes hash_fits x.0

pub properties_fit : (x : Properties) → has_versions (properties_tree x) (a_list properties) ≡ true
unfolding list
properties_fit x = list_fits property_tree properties property_fits x.0

pub reference_fits : (x : ExternalReference) → has_versions (reference_tree x) (a_record reference) ≡ true
unfolding has_versions rows list
reference_fits x = rw (text_fits a_text x.comment, row_fits hashes_tree (a_list hashes) hashes_fit x.hashes) refl

pub references_fit : (x : ExternalReferences) → has_versions (references_tree x) (a_list external_references) ≡ true
unfolding list
references_fit x = list_fits reference_tree external_references reference_fits x.0

pub tool_fits : (x : Tool) → has_versions (tool_tree x) (a_record tool) ≡ true
unfolding has_versions rows list
tool_fits x = rw (text_fits a_text x.vendor, text_fits a_text x.name, text_fits a_text x.version, row_fits hashes_tree (a_list hashes) hashes_fit x.hashes, row_fits references_tree (a_list external_references) references_fit x.external_references) refl

pub identifier_fits : (x : LicenseIdentifier) → has_versions (identifier_tree x) a_license_identifier ≡ true
unfolding has_versions rows
identifier_fits (identifier.SpdxId s) = refl
identifier_fits (identifier.Name s) = refl

pub license_fits : (x : License) → has_versions (license_tree x) (a_record license) ≡ true
unfolding has_versions rows list
license_fits x = rw (text_fits a_text x.bom_ref, identifier_fits x.license_identifier, row_fits attached_text_tree (a_record attached_text) attached_text_fits x.text, text_fits a_text x.url, row_fits properties_tree (a_list properties) properties_fit x.properties) refl

pub expression_fits : (x : Expression) → has_versions (expression_tree x) (a_record expression) ≡ true
unfolding has_versions rows list
expression_fits x = rw (text_fits a_text x.bom_ref) refl

in_choice : (x : LicenseChoice) → has_versions (choice_tree x) a_license_choice ≡ true
unfolding has_versions rows
in_choice (choice.License x) = license_fits x
in_choice (choice.Expression x) = expression_fits x

pub choice_fits : (x : LicenseChoice) → has_versions (choice_tree x) (list licenses).kind ≡ true
unfolding list
choice_fits x = in_choice x

pub licenses_fit : (x : Licenses) → has_versions (licenses_tree x) (a_list licenses) ≡ true
unfolding list
licenses_fit x = list_fits choice_tree licenses choice_fits x.0

pub signer_fits : (x : Signer) → has_versions (signer_tree x) (a_record signer) ≡ true
unfolding has_versions rows list
signer_fits x = refl

signers_fit : (l : Lists) (xs : List Signer) → (list l).kind ≡ a_record signer → has_versions (list_tree signer_tree xs) (a_list l) ≡ true
signers_fit l xs e = list_fits signer_tree l (λ x. ap (has_versions (signer_tree x)) e ∙ signer_fits x) xs

pub signature_fits : (x : Signature) → has_versions (signature_tree x) a_signature ≡ true
unfolding has_versions rows list
signature_fits (variant.Signers xs) = rw (signers_fit signer_list xs refl) refl
signature_fits (variant.Chain xs) = rw (signers_fit chain_list xs refl) refl
signature_fits (variant.Single x) = refl

pub action_fits : (x : IdentifiableAction) → has_versions (action_tree x) (a_record action) ≡ true
unfolding has_versions rows list
action_fits x = rw (text_fits a_text x.timestamp, text_fits a_text x.name, text_fits a_text x.email) refl

pub commit_fits : (x : Commit) → has_versions (commit_tree x) (a_record commit) ≡ true
unfolding has_versions rows list
commit_fits x = rw (text_fits a_text x.uid, text_fits a_text x.url, row_fits action_tree (a_record action) action_fits x.author, row_fits action_tree (a_record action) action_fits x.committer, text_fits a_text x.message) refl

pub commits_fit : (x : Commits) → has_versions (commits_tree x) (a_list commits) ≡ true
unfolding list
commits_fit x = list_fits commit_tree commits commit_fits x.0

pub diff_fits : (x : Diff) → has_versions (diff_tree x) (a_record diff) ≡ true
unfolding has_versions rows list
diff_fits x = rw (row_fits attached_text_tree (a_record attached_text) attached_text_fits x.text, text_fits a_text x.url) refl

pub source_fits : (x : Source) → has_versions (source_tree x) (a_record source) ≡ true
unfolding has_versions rows list
source_fits x = rw (text_fits a_text x.name, text_fits a_text x.url) refl

pub issue_fits : (x : Issue) → has_versions (issue_tree x) (a_record issue) ≡ true
unfolding has_versions rows list
issue_fits x = rw (text_fits a_text x.id, text_fits a_text x.name, text_fits a_text x.description, row_fits source_tree (a_record source) source_fits x.source, row_fits (list_tree text) (a_list links) (list_fits text links (λ s. text_fit s)) x.references) refl

pub patch_fits : (x : Patch) → has_versions (patch_tree x) (a_record patch) ≡ true
unfolding has_versions rows list
patch_fits x = rw (row_fits diff_tree (a_record diff) diff_fits x.diff, row_fits (list_tree issue_tree) (a_list resolved) (list_fits issue_tree resolved issue_fits) x.resolves) refl

pub patches_fit : (x : Patches) → has_versions (patches_tree x) (a_list patches) ≡ true
unfolding list
patches_fit x = list_fits patch_tree patches patch_fits x.0

pub swid_fits : (x : Swid) → has_versions (swid_tree x) (a_record swid) ≡ true
unfolding has_versions rows list
swid_fits x = rw (text_fits a_text x.version, row_fits number a_number number_fits x.tag_version, row_fits boolean a_boolean boolean_fits x.patch, row_fits attached_text_tree (a_record attached_text) attached_text_fits x.text, text_fits a_text x.url) refl

pub copyright_fits : (x : Copyright) → has_versions (copyright_tree x) (a_record copyright) ≡ true
unfolding has_versions rows list
copyright_fits x = refl

pub copyrights_fit : (x : CopyrightTexts) → has_versions (copyrights_tree x) (a_list copyright_texts) ≡ true
unfolding list
copyrights_fit x = list_fits copyright_tree copyright_texts copyright_fits x.0

pub evidence_fits : (x : ComponentEvidence) → has_versions (evidence_tree x) (a_record evidence) ≡ true
unfolding has_versions rows list
evidence_fits x = rw (row_fits licenses_tree (a_list licenses) licenses_fit x.licenses, row_fits copyrights_tree (a_list copyright_texts) copyrights_fit x.copyright) refl
