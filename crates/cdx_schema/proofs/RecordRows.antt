-- Worked rows on records: each with all its fields, in JSON and in XML, read and written.
use Prim.Native.String.{String}
use Rattle.std.specs.Prelude.{◌≡◌, refl, List, [], ◌∷◌, true, false, codes, Ok}
use Rattle.serde_json.specs.Data.{Data, no_items, no_members}
use Rattle.serde_json.specs.Data as json
use Rattle.cdx_models.specs.declared.bom.SpecVersion.{SpecVersion}
use Rattle.cdx_models.specs.declared.bom.SpecVersion.TheVariants.{V1_3, V1_4, V1_5}
use Rattle.cdx_models.specs.Trees as name
use Rattle.cdx_models.specs.Trees.{Tree, absent, number, boolean, items, fields, Trees, none, more}
use Rattle.cdx_schema.specs.Kinds as kind
use Rattle.cdx_schema.specs.Depth.{top}
use Rattle.cdx_events.specs.Nodes.{Node, cdata, no_nodes}
use Rattle.cdx_schema.specs.JsonReading.{jread, json_denotes}
use Rattle.cdx_schema.specs.JsonSpelling.{jspell}
use Rattle.cdx_schema.specs.XmlReading.{xread, xml_denotes}
use Rattle.cdx_schema.specs.XmlSpelling.{spelled, root}
use Rattle.cdx_schema.proofs.Literals.{str, num, obj, arr, ◌↪◌⨟◌, ◌⨠◌, ◌⊳◌, at, el, tag, txt, leaf, bom, t', reading_on_literals}

abbrev pub trees : List Tree → Trees
trees [] = none
trees (t ∷ ts) = more t (trees ts)

abbrev pub of_fields : name.Name → List Tree → Tree
of_fields n ts = fields n (trees ts)

abbrev pub list_of : List Tree → Tree
list_of ts = items (trees ts)

-- A JSON value and an element are read as the tree, and the tree is written as them.
abbrev pub Agrees : SpecVersion → kind.Kind → String → Tree → Data → Node → Type 0
Agrees v k name t x e = (jread x v k top ≡ Ok t) × (xread e v k 1 top ≡ Ok t) × (jspell t v k ≡ x) × (spelled t v (codes name) k ≡ e)

-- ---- records without records

abbrev pub hash_tree : Tree
hash_tree = of_fields name.hash (t' "SHA-1" ∷ t' "ab" ∷ [])

abbrev pub hash_json : Data
hash_json = obj ("alg" ↪ str "SHA-1" ⨟ "content" ↪ str "ab" ⨟ no_members)

abbrev pub hash_xml : Node
hash_xml = el "hash" (at "alg" "SHA-1" ∷ []) (txt "ab" ⊳ no_nodes)

a_hash : Agrees V1_5 (kind.a_record name.hash) "hash" hash_tree hash_json hash_xml
unfolding reading_on_literals
a_hash = (refl, refl, refl, refl)

abbrev pub property_tree : Tree
property_tree = of_fields name.property (t' "n" ∷ t' "v" ∷ [])

abbrev pub property_json : Data
property_json = obj ("name" ↪ str "n" ⨟ "value" ↪ str "v" ⨟ no_members)

abbrev pub property_xml : Node
property_xml = el "property" (at "name" "n" ∷ []) (txt "v" ⊳ no_nodes)

a_property : Agrees V1_5 (kind.a_record name.property) "property" property_tree property_json property_xml
unfolding reading_on_literals
a_property = (refl, refl, refl, refl)

abbrev pub text_tree : Tree
text_tree = of_fields name.attached_text (t' "text/plain" ∷ t' "base64" ∷ t' "eA==" ∷ [])

abbrev pub text_json : Data
text_json = obj ("contentType" ↪ str "text/plain" ⨟ "encoding" ↪ str "base64" ⨟ "content" ↪ str "eA==" ⨟ no_members)

abbrev pub text_xml : Node
text_xml = el "text" (at "content-type" "text/plain" ∷ at "encoding" "base64" ∷ []) (txt "eA==" ⊳ no_nodes)

an_attached_text : Agrees V1_5 (kind.a_record name.attached_text) "text" text_tree text_json text_xml
unfolding reading_on_literals
an_attached_text = (refl, refl, refl, refl)

abbrev pub contact_tree : Tree
contact_tree = of_fields name.contact (t' "r" ∷ t' "n" ∷ t' "e" ∷ t' "p" ∷ [])

abbrev pub contact_json : Data
contact_json = obj ("bom-ref" ↪ str "r" ⨟ "name" ↪ str "n" ⨟ "email" ↪ str "e" ⨟ "phone" ↪ str "p" ⨟ no_members)

abbrev pub contact_xml : String → Node
contact_xml s = el s (at "bom-ref" "r" ∷ []) (leaf "name" "n" ⊳ leaf "email" "e" ⊳ leaf "phone" "p" ⊳ no_nodes)

a_contact : Agrees V1_5 (kind.a_record name.contact) "contact" contact_tree contact_json (contact_xml "contact")
unfolding reading_on_literals
a_contact = (refl, refl, refl, refl)

abbrev pub action_tree : Tree
action_tree = of_fields name.action (t' "2024" ∷ t' "n" ∷ t' "e" ∷ [])

abbrev pub action_json : Data
action_json = obj ("timestamp" ↪ str "2024" ⨟ "name" ↪ str "n" ⨟ "email" ↪ str "e" ⨟ no_members)

abbrev pub action_xml : String → Node
action_xml s = tag s (leaf "timestamp" "2024" ⊳ leaf "name" "n" ⊳ leaf "email" "e" ⊳ no_nodes)

an_action : Agrees V1_5 (kind.a_record name.action) "author" action_tree action_json (action_xml "author")
unfolding reading_on_literals
an_action = (refl, refl, refl, refl)

abbrev pub source_tree : Tree
source_tree = of_fields name.source (t' "n" ∷ t' "u" ∷ [])

abbrev pub source_json : Data
source_json = obj ("name" ↪ str "n" ⨟ "url" ↪ str "u" ⨟ no_members)

abbrev pub source_xml : Node
source_xml = tag "source" (leaf "name" "n" ⊳ leaf "url" "u" ⊳ no_nodes)

a_source : Agrees V1_5 (kind.a_record name.source) "source" source_tree source_json source_xml
unfolding reading_on_literals
a_source = (refl, refl, refl, refl)

abbrev pub class_tree : Tree
class_tree = of_fields name.classification (t' "inbound" ∷ t' "PII" ∷ [])

abbrev pub class_json : Data
class_json = obj ("flow" ↪ str "inbound" ⨟ "classification" ↪ str "PII" ⨟ no_members)

abbrev pub class_xml : Node
class_xml = el "classification" (at "flow" "inbound" ∷ []) (txt "PII" ⊳ no_nodes)

a_classification : Agrees V1_5 (kind.a_record name.classification) "classification" class_tree class_json class_xml
unfolding reading_on_literals
a_classification = (refl, refl, refl, refl)

-- A copyright text is CDATA.
abbrev pub copyright_tree : Tree
copyright_tree = of_fields name.copyright (t' "c" ∷ [])

abbrev pub copyright_json : Data
copyright_json = obj ("text" ↪ str "c" ⨟ no_members)

abbrev pub copyright_xml : Node
copyright_xml = tag "text" (cdata (codes "c") ⊳ no_nodes)

a_copyright : Agrees V1_5 (kind.a_record name.copyright) "text" copyright_tree copyright_json copyright_xml
unfolding reading_on_literals
a_copyright = (refl, refl, refl, refl)

abbrev pub expression_tree : Tree
expression_tree = of_fields name.expression (t' "r" ∷ t' "MIT OR ISC" ∷ [])

abbrev pub expression_json : Data
expression_json = obj ("bom-ref" ↪ str "r" ⨟ "expression" ↪ str "MIT OR ISC" ⨟ no_members)

abbrev pub expression_xml : Node
expression_xml = el "expression" (at "bom-ref" "r" ∷ []) (txt "MIT OR ISC" ⊳ no_nodes)

an_expression : Agrees V1_5 (kind.a_record name.expression) "expression" expression_tree expression_json expression_xml
unfolding reading_on_literals
an_expression = (refl, refl, refl, refl)

-- An id and a license name are the one member of the license's object, and an element of their own name.
abbrev pub id_tree : Tree
id_tree = of_fields name.spdx_id (t' "MIT" ∷ [])

an_id : Agrees V1_5 kind.a_license_identifier "id" id_tree (obj ("id" ↪ str "MIT" ⨟ no_members)) (leaf "id" "MIT")
unfolding reading_on_literals
an_id = (refl, refl, refl, refl)

abbrev pub license_name_tree : Tree
license_name_tree = of_fields name.license_name (t' "Mine" ∷ [])

a_license_name : Agrees V1_5 kind.a_license_identifier "name" license_name_tree (obj ("name" ↪ str "Mine" ⨟ no_members)) (leaf "name" "Mine")
unfolding reading_on_literals
a_license_name = (refl, refl, refl, refl)

-- ---- records of records

abbrev pub entity_tree : Tree
entity_tree = of_fields name.entity (t' "r" ∷ t' "n" ∷ list_of (t' "u" ∷ t' "w" ∷ []) ∷ list_of (contact_tree ∷ []) ∷ [])

abbrev pub entity_json : Data
entity_json = obj ("bom-ref" ↪ str "r" ⨟ "name" ↪ str "n" ⨟ "url" ↪ arr (str "u" ⨠ str "w" ⨠ no_items) ⨟ "contact" ↪ arr (contact_json ⨠ no_items) ⨟ no_members)

abbrev pub entity_xml : String → Node
entity_xml s = el s (at "bom-ref" "r" ∷ []) (leaf "name" "n" ⊳ leaf "url" "u" ⊳ leaf "url" "w" ⊳ contact_xml "contact" ⊳ no_nodes)

an_entity : Agrees V1_5 (kind.a_record name.entity) "supplier" entity_tree entity_json (entity_xml "supplier")
unfolding reading_on_literals
an_entity = (refl, refl, refl, refl)

abbrev pub commit_tree : Tree
commit_tree = of_fields name.commit (t' "i" ∷ t' "u" ∷ action_tree ∷ action_tree ∷ t' "m" ∷ [])

abbrev pub commit_json : Data
commit_json = obj ("uid" ↪ str "i" ⨟ "url" ↪ str "u" ⨟ "author" ↪ action_json ⨟ "committer" ↪ action_json ⨟ "message" ↪ str "m" ⨟ no_members)

abbrev pub commit_xml : Node
commit_xml = tag "commit" (leaf "uid" "i" ⊳ leaf "url" "u" ⊳ action_xml "author" ⊳ action_xml "committer" ⊳ leaf "message" "m" ⊳ no_nodes)

a_commit : Agrees V1_5 (kind.a_record name.commit) "commit" commit_tree commit_json commit_xml
unfolding reading_on_literals
a_commit = (refl, refl, refl, refl)

abbrev pub diff_tree : Tree
diff_tree = of_fields name.diff (text_tree ∷ t' "u" ∷ [])

abbrev pub diff_json : Data
diff_json = obj ("text" ↪ text_json ⨟ "url" ↪ str "u" ⨟ no_members)

abbrev pub diff_xml : Node
diff_xml = tag "diff" (text_xml ⊳ leaf "url" "u" ⊳ no_nodes)

a_diff : Agrees V1_5 (kind.a_record name.diff) "diff" diff_tree diff_json diff_xml
unfolding reading_on_literals
a_diff = (refl, refl, refl, refl)

abbrev pub issue_tree : Tree
issue_tree = of_fields name.issue (t' "defect" ∷ t' "i" ∷ t' "n" ∷ t' "d" ∷ source_tree ∷ list_of (t' "a" ∷ t' "b" ∷ []) ∷ [])

abbrev pub issue_json : Data
issue_json = obj ("type" ↪ str "defect" ⨟ "id" ↪ str "i" ⨟ "name" ↪ str "n" ⨟ "description" ↪ str "d" ⨟ "source" ↪ source_json ⨟ "references" ↪ arr (str "a" ⨠ str "b" ⨠ no_items) ⨟ no_members)

abbrev pub issue_xml : Node
issue_xml = el "issue" (at "type" "defect" ∷ []) (leaf "id" "i" ⊳ leaf "name" "n" ⊳ leaf "description" "d" ⊳ source_xml ⊳ tag "references" (leaf "url" "a" ⊳ leaf "url" "b" ⊳ no_nodes) ⊳ no_nodes)

an_issue : Agrees V1_5 (kind.a_record name.issue) "issue" issue_tree issue_json issue_xml
unfolding reading_on_literals
an_issue = (refl, refl, refl, refl)

abbrev pub patch_tree : Tree
patch_tree = of_fields name.patch (t' "backport" ∷ diff_tree ∷ list_of (issue_tree ∷ []) ∷ [])

abbrev pub patch_json : Data
patch_json = obj ("type" ↪ str "backport" ⨟ "diff" ↪ diff_json ⨟ "resolves" ↪ arr (issue_json ⨠ no_items) ⨟ no_members)

abbrev pub patch_xml : Node
patch_xml = el "patch" (at "type" "backport" ∷ []) (diff_xml ⊳ tag "resolves" (issue_xml ⊳ no_nodes) ⊳ no_nodes)

a_patch : Agrees V1_5 (kind.a_record name.patch) "patch" patch_tree patch_json patch_xml
unfolding reading_on_literals
a_patch = (refl, refl, refl, refl)

abbrev pub reference_tree : Tree
reference_tree = of_fields name.reference (t' "vcs" ∷ t' "u" ∷ t' "c" ∷ list_of (hash_tree ∷ []) ∷ [])

abbrev pub reference_json : Data
reference_json = obj ("type" ↪ str "vcs" ⨟ "url" ↪ str "u" ⨟ "comment" ↪ str "c" ⨟ "hashes" ↪ arr (hash_json ⨠ no_items) ⨟ no_members)

abbrev pub reference_xml : Node
reference_xml = el "reference" (at "type" "vcs" ∷ []) (leaf "url" "u" ⊳ leaf "comment" "c" ⊳ tag "hashes" (hash_xml ⊳ no_nodes) ⊳ no_nodes)

a_reference : Agrees V1_5 (kind.a_record name.reference) "reference" reference_tree reference_json reference_xml
unfolding reading_on_literals
a_reference = (refl, refl, refl, refl)

abbrev pub dependency_tree : Tree
dependency_tree = of_fields name.dependency (t' "a" ∷ list_of (t' "b" ∷ []) ∷ [])

abbrev pub dependency_json : Data
dependency_json = obj ("ref" ↪ str "a" ⨟ "dependsOn" ↪ arr (str "b" ⨠ no_items) ⨟ no_members)

abbrev pub dependency_xml : Node
dependency_xml = el "dependency" (at "ref" "a" ∷ []) (el "dependency" (at "ref" "b" ∷ []) no_nodes ⊳ no_nodes)

a_dependency : Agrees V1_5 (kind.a_record name.dependency) "dependency" dependency_tree dependency_json dependency_xml
unfolding reading_on_literals
a_dependency = (refl, refl, refl, refl)

-- A dependency on nothing has no member `dependsOn`.
no_dependency : Agrees V1_5 (kind.a_record name.dependency) "dependency" (of_fields name.dependency (t' "a" ∷ list_of [] ∷ [])) (obj ("ref" ↪ str "a" ⨟ no_members)) (el "dependency" (at "ref" "a" ∷ []) no_nodes)
unfolding reading_on_literals
no_dependency = (refl, refl, refl, refl)

-- ---- signatures

abbrev pub signer_tree : Tree
signer_tree = of_fields name.signer (t' "ES256" ∷ t' "x" ∷ [])

abbrev pub signer_json : Data
signer_json = obj ("algorithm" ↪ str "ES256" ⨟ "value" ↪ str "x" ⨟ no_members)

abbrev pub signer_xml : String → Node
signer_xml s = tag s (leaf "algorithm" "ES256" ⊳ leaf "value" "x" ⊳ no_nodes)

a_signer : Agrees V1_5 kind.a_signature "signature" signer_tree signer_json (signer_xml "signature")
unfolding reading_on_literals
a_signer = (refl, refl, refl, refl)

some_signers : Agrees V1_5 kind.a_signature "signature" (of_fields name.signers (list_of (signer_tree ∷ signer_tree ∷ []) ∷ [])) (obj ("signers" ↪ arr (signer_json ⨠ signer_json ⨠ no_items) ⨟ no_members))
    (tag "signature" (tag "signers" (signer_xml "signer" ⊳ signer_xml "signer" ⊳ no_nodes) ⊳ no_nodes))
unfolding reading_on_literals
some_signers = (refl, refl, refl, refl)

a_chain : Agrees V1_5 kind.a_signature "signature" (of_fields name.chain (list_of (signer_tree ∷ []) ∷ [])) (obj ("chain" ↪ arr (signer_json ⨠ no_items) ⨟ no_members))
    (tag "signature" (tag "chain" (signer_xml "chain" ⊳ no_nodes) ⊳ no_nodes))
unfolding reading_on_literals
a_chain = (refl, refl, refl, refl)

-- ---- records with rows of later versions

abbrev pub composition_tree : Tree
composition_tree = of_fields name.composition (t' "r" ∷ t' "complete" ∷ list_of (t' "a" ∷ []) ∷ list_of (t' "d" ∷ []) ∷ list_of (t' "v" ∷ []) ∷ signer_tree ∷ [])

abbrev pub composition_json : Data
composition_json = obj ("bom-ref" ↪ str "r" ⨟ "aggregate" ↪ str "complete" ⨟ "assemblies" ↪ arr (str "a" ⨠ no_items) ⨟ "dependencies" ↪ arr (str "d" ⨠ no_items) ⨟ "vulnerabilities" ↪ arr (str "v" ⨠ no_items) ⨟ "signature" ↪ signer_json ⨟ no_members)

abbrev pub composition_xml : Node
composition_xml = el "composition" (at "bom-ref" "r" ∷ []) (leaf "aggregate" "complete" ⊳ tag "assemblies" (el "assembly" (at "ref" "a" ∷ []) no_nodes ⊳ no_nodes)
    ⊳ tag "dependencies" (el "dependency" (at "ref" "d" ∷ []) no_nodes ⊳ no_nodes) ⊳ tag "vulnerabilities" (el "vulnerability" (at "ref" "v" ∷ []) no_nodes ⊳ no_nodes) ⊳ signer_xml "signature" ⊳ no_nodes)

a_composition : Agrees V1_5 (kind.a_record name.composition) "composition" composition_tree composition_json composition_xml
unfolding reading_on_literals
a_composition = (refl, refl, refl, refl)

-- 1.4 knows neither the reference nor the vulnerabilities of a composition.
composition_in_1_4 : jread composition_json V1_4 (kind.a_record name.composition) top
    ≡ Ok (of_fields name.composition (absent ∷ t' "complete" ∷ list_of (t' "a" ∷ []) ∷ list_of (t' "d" ∷ []) ∷ absent ∷ signer_tree ∷ []))
unfolding reading_on_literals
composition_in_1_4 = refl

abbrev pub license_tree : Tree
license_tree = of_fields name.license (t' "r" ∷ id_tree ∷ text_tree ∷ t' "u" ∷ list_of (property_tree ∷ []) ∷ [])

abbrev pub license_json : Data
license_json = obj ("bom-ref" ↪ str "r" ⨟ "id" ↪ str "MIT" ⨟ "text" ↪ text_json ⨟ "url" ↪ str "u" ⨟ "properties" ↪ arr (property_json ⨠ no_items) ⨟ no_members)

abbrev pub license_xml : Node
license_xml = el "license" (at "bom-ref" "r" ∷ []) (leaf "id" "MIT" ⊳ text_xml ⊳ leaf "url" "u" ⊳ tag "properties" (property_xml ⊳ no_nodes) ⊳ no_nodes)

a_license : Agrees V1_5 (kind.a_record name.license) "license" license_tree license_json license_xml
unfolding reading_on_literals
a_license = (refl, refl, refl, refl)

-- A license stands in a list as the one member `license`, an expression as its own object.
some_licenses : Agrees V1_5 (kind.a_list kind.licenses) "licenses" (list_of (license_tree ∷ expression_tree ∷ [])) (arr (obj ("license" ↪ license_json ⨟ no_members) ⨠ expression_json ⨠ no_items)) (tag "licenses" (license_xml ⊳ expression_xml ⊳ no_nodes))
unfolding reading_on_literals
some_licenses = (refl, refl, refl, refl)

abbrev pub tool_tree : Tree
tool_tree = of_fields name.tool (t' "v" ∷ t' "n" ∷ t' "1" ∷ list_of (hash_tree ∷ []) ∷ list_of (reference_tree ∷ []) ∷ [])

abbrev pub tool_json : Data
tool_json = obj ("vendor" ↪ str "v" ⨟ "name" ↪ str "n" ⨟ "version" ↪ str "1" ⨟ "hashes" ↪ arr (hash_json ⨠ no_items) ⨟ "externalReferences" ↪ arr (reference_json ⨠ no_items) ⨟ no_members)

abbrev pub tool_xml : Node
tool_xml = tag "tool" (leaf "vendor" "v" ⊳ leaf "name" "n" ⊳ leaf "version" "1" ⊳ tag "hashes" (hash_xml ⊳ no_nodes) ⊳ tag "externalReferences" (reference_xml ⊳ no_nodes) ⊳ no_nodes)

a_tool : Agrees V1_4 (kind.a_record name.tool) "tool" tool_tree tool_json tool_xml
unfolding reading_on_literals
a_tool = (refl, refl, refl, refl)

-- ---- what stands in components

abbrev pub swid_tree : Tree
swid_tree = of_fields name.swid (t' "t" ∷ t' "n" ∷ t' "1.0" ∷ number 7 ∷ boolean true ∷ text_tree ∷ t' "u" ∷ [])

abbrev pub swid_json : Data
swid_json = obj ("tagId" ↪ str "t" ⨟ "name" ↪ str "n" ⨟ "version" ↪ str "1.0" ⨟ "tagVersion" ↪ num 7 ⨟ "patch" ↪ json.boolean true ⨟ "text" ↪ text_json ⨟ "url" ↪ str "u" ⨟ no_members)

abbrev pub swid_xml : Node
swid_xml = el "swid" (at "tagId" "t" ∷ at "name" "n" ∷ at "version" "1.0" ∷ at "tagVersion" "7" ∷ at "patch" "true" ∷ []) (text_xml ⊳ leaf "url" "u" ⊳ no_nodes)

a_swid : Agrees V1_5 (kind.a_record name.swid) "swid" swid_tree swid_json swid_xml
unfolding reading_on_literals
a_swid = (refl, refl, refl, refl)

abbrev pub evidence_tree : Tree
evidence_tree = of_fields name.evidence (list_of (expression_tree ∷ []) ∷ list_of (copyright_tree ∷ []) ∷ [])

abbrev pub evidence_json : Data
evidence_json = obj ("licenses" ↪ arr (expression_json ⨠ no_items) ⨟ "copyright" ↪ arr (copyright_json ⨠ no_items) ⨟ no_members)

abbrev pub evidence_xml : Node
evidence_xml = tag "evidence" (tag "licenses" (expression_xml ⊳ no_nodes) ⊳ tag "copyright" (copyright_xml ⊳ no_nodes) ⊳ no_nodes)

some_evidence : Agrees V1_5 (kind.a_record name.evidence) "evidence" evidence_tree evidence_json evidence_xml
unfolding reading_on_literals
some_evidence = (refl, refl, refl, refl)

-- a component with nothing that isn't required
abbrev pub small_tree : Tree
small_tree = of_fields name.component (t' "library" ∷ absent ∷ absent ∷ absent ∷ absent ∷ absent ∷ absent ∷ t' "s" ∷ absent ∷ absent ∷ absent ∷ absent ∷ absent ∷ absent ∷ absent ∷ absent ∷ absent ∷ absent ∷ absent ∷ absent ∷ absent ∷ absent ∷ absent ∷ absent ∷ [])

abbrev pub small_json : Data
small_json = obj ("type" ↪ str "library" ⨟ "name" ↪ str "s" ⨟ no_members)

abbrev pub small_xml : Node
small_xml = el "component" (at "type" "library" ∷ []) (leaf "name" "s" ⊳ no_nodes)

a_small_component : Agrees V1_4 (kind.a_record name.component) "component" small_tree small_json small_xml
unfolding reading_on_literals
a_small_component = (refl, refl, refl, refl)

abbrev pub pedigree_tree : Tree
pedigree_tree = of_fields name.pedigree (list_of (small_tree ∷ []) ∷ list_of [] ∷ list_of (small_tree ∷ []) ∷ list_of (commit_tree ∷ []) ∷ list_of (patch_tree ∷ []) ∷ t' "n" ∷ [])

abbrev pub pedigree_json : Data
pedigree_json = obj ("ancestors" ↪ arr (small_json ⨠ no_items) ⨟ "descendants" ↪ arr no_items ⨟ "variants" ↪ arr (small_json ⨠ no_items) ⨟ "commits" ↪ arr (commit_json ⨠ no_items) ⨟ "patches" ↪ arr (patch_json ⨠ no_items) ⨟ "notes" ↪ str "n" ⨟ no_members)

abbrev pub pedigree_xml : Node
pedigree_xml = tag "pedigree" (tag "ancestors" (small_xml ⊳ no_nodes) ⊳ tag "descendants" no_nodes ⊳ tag "variants" (small_xml ⊳ no_nodes) ⊳ tag "commits" (commit_xml ⊳ no_nodes) ⊳ tag "patches" (patch_xml ⊳ no_nodes) ⊳ leaf "notes" "n" ⊳ no_nodes)

a_pedigree : Agrees V1_5 (kind.a_record name.pedigree) "pedigree" pedigree_tree pedigree_json pedigree_xml
unfolding reading_on_literals
a_pedigree = (refl, refl, refl, refl)

abbrev pub component_tree : Tree
component_tree = of_fields name.component (t' "application" ∷ t' "text/x" ∷ t' "r" ∷ entity_tree ∷ t' "au" ∷ t' "pu" ∷ t' "gr" ∷ t' "na" ∷ t' "1" ∷ t' "de" ∷ t' "required" ∷ list_of (hash_tree ∷ []) ∷ list_of (license_tree ∷ [])
    ∷ t' "co" ∷ t' "cpe" ∷ t' "pkg" ∷ swid_tree ∷ boolean false ∷ pedigree_tree ∷ list_of (reference_tree ∷ []) ∷ list_of (property_tree ∷ []) ∷ list_of (small_tree ∷ []) ∷ evidence_tree ∷ signer_tree ∷ [])

abbrev pub component_json : Data
component_json = obj ("type" ↪ str "application" ⨟ "mime-type" ↪ str "text/x" ⨟ "bom-ref" ↪ str "r" ⨟ "supplier" ↪ entity_json ⨟ "author" ↪ str "au" ⨟ "publisher" ↪ str "pu" ⨟ "group" ↪ str "gr" ⨟ "name" ↪ str "na" ⨟ "version" ↪ str "1"
    ⨟ "description" ↪ str "de" ⨟ "scope" ↪ str "required" ⨟ "hashes" ↪ arr (hash_json ⨠ no_items) ⨟ "licenses" ↪ arr (obj ("license" ↪ license_json ⨟ no_members) ⨠ no_items) ⨟ "copyright" ↪ str "co" ⨟ "cpe" ↪ str "cpe" ⨟ "purl" ↪ str "pkg"
    ⨟ "swid" ↪ swid_json ⨟ "modified" ↪ json.boolean false ⨟ "pedigree" ↪ pedigree_json ⨟ "externalReferences" ↪ arr (reference_json ⨠ no_items) ⨟ "properties" ↪ arr (property_json ⨠ no_items) ⨟ "components" ↪ arr (small_json ⨠ no_items)
    ⨟ "evidence" ↪ evidence_json ⨟ "signature" ↪ signer_json ⨟ no_members)

abbrev pub component_xml : Node
component_xml = el "component" (at "type" "application" ∷ at "mime-type" "text/x" ∷ at "bom-ref" "r" ∷ []) (entity_xml "supplier" ⊳ leaf "author" "au" ⊳ leaf "publisher" "pu" ⊳ leaf "group" "gr" ⊳ leaf "name" "na" ⊳ leaf "version" "1"
    ⊳ leaf "description" "de" ⊳ leaf "scope" "required" ⊳ tag "hashes" (hash_xml ⊳ no_nodes) ⊳ tag "licenses" (license_xml ⊳ no_nodes) ⊳ leaf "copyright" "co" ⊳ leaf "cpe" "cpe" ⊳ leaf "purl" "pkg" ⊳ swid_xml ⊳ leaf "modified" "false"
    ⊳ pedigree_xml ⊳ tag "externalReferences" (reference_xml ⊳ no_nodes) ⊳ tag "properties" (property_xml ⊳ no_nodes) ⊳ tag "components" (small_xml ⊳ no_nodes) ⊳ evidence_xml ⊳ signer_xml "signature" ⊳ no_nodes)

a_component : Agrees V1_5 (kind.a_record name.component) "component" component_tree component_json component_xml
unfolding reading_on_literals
a_component = (refl, refl, refl, refl)

-- ---- services

abbrev pub flow_tree : Tree
flow_tree = of_fields name.service_data (t' "n" ∷ t' "d" ∷ class_tree ∷ [])

-- The flow and the classification stand in the object of the service data.
abbrev pub flow_json : Data
flow_json = obj ("name" ↪ str "n" ⨟ "description" ↪ str "d" ⨟ "flow" ↪ str "inbound" ⨟ "classification" ↪ str "PII" ⨟ no_members)

abbrev pub flow_xml : Node
flow_xml = el "dataflow" (at "name" "n" ∷ at "description" "d" ∷ []) (class_xml ⊳ no_nodes)

-- By itself a service data is the same in every version.
a_flow : Agrees V1_3 (kind.a_record name.service_data) "dataflow" flow_tree flow_json flow_xml
unfolding reading_on_literals
a_flow = (refl, refl, refl, refl)

-- Beside a flow each entry is a dataflow.
some_flows : Agrees V1_5 kind.a_data "data" (list_of (flow_tree ∷ class_tree ∷ [])) (arr (flow_json ⨠ class_json ⨠ no_items)) (tag "data" (flow_xml ⊳ tag "dataflow" (class_xml ⊳ no_nodes) ⊳ no_nodes))
unfolding reading_on_literals
some_flows = (refl, refl, refl, refl)

-- Without a flow each entry is a classification.
some_classes : Agrees V1_5 kind.a_data "data" (list_of (class_tree ∷ class_tree ∷ [])) (arr (class_json ⨠ class_json ⨠ no_items)) (tag "data" (class_xml ⊳ class_xml ⊳ no_nodes))
unfolding reading_on_literals
some_classes = (refl, refl, refl, refl)

abbrev pub small_service_tree : Tree
small_service_tree = of_fields name.service (absent ∷ absent ∷ absent ∷ t' "s" ∷ absent ∷ absent ∷ absent ∷ absent ∷ absent ∷ absent ∷ absent ∷ absent ∷ absent ∷ absent ∷ absent ∷ absent ∷ [])

abbrev pub small_service_json : Data
small_service_json = obj ("name" ↪ str "s" ⨟ no_members)

abbrev pub small_service_xml : Node
small_service_xml = tag "service" (leaf "name" "s" ⊳ no_nodes)

abbrev pub service_tree : Tree
service_tree = of_fields name.service (t' "r" ∷ entity_tree ∷ t' "gr" ∷ t' "na" ∷ t' "1" ∷ t' "de" ∷ list_of (t' "e" ∷ []) ∷ boolean true ∷ boolean false ∷ list_of (flow_tree ∷ []) ∷ list_of (expression_tree ∷ []) ∷ list_of (reference_tree ∷ [])
    ∷ list_of (property_tree ∷ []) ∷ list_of (small_service_tree ∷ []) ∷ signer_tree ∷ t' "tz" ∷ [])

abbrev pub service_json : Data
service_json = obj ("bom-ref" ↪ str "r" ⨟ "provider" ↪ entity_json ⨟ "group" ↪ str "gr" ⨟ "name" ↪ str "na" ⨟ "version" ↪ str "1" ⨟ "description" ↪ str "de" ⨟ "endpoints" ↪ arr (str "e" ⨠ no_items) ⨟ "authenticated" ↪ json.boolean true
    ⨟ "x-trust-boundary" ↪ json.boolean false ⨟ "data" ↪ arr (flow_json ⨠ no_items) ⨟ "licenses" ↪ arr (expression_json ⨠ no_items) ⨟ "externalReferences" ↪ arr (reference_json ⨠ no_items) ⨟ "properties" ↪ arr (property_json ⨠ no_items)
    ⨟ "services" ↪ arr (small_service_json ⨠ no_items) ⨟ "signature" ↪ signer_json ⨟ "trustZone" ↪ str "tz" ⨟ no_members)

abbrev pub service_xml : Node
service_xml = el "service" (at "bom-ref" "r" ∷ []) (entity_xml "provider" ⊳ leaf "group" "gr" ⊳ leaf "name" "na" ⊳ leaf "version" "1" ⊳ leaf "description" "de" ⊳ tag "endpoints" (leaf "endpoint" "e" ⊳ no_nodes) ⊳ leaf "authenticated" "true"
    ⊳ leaf "x-trust-boundary" "false" ⊳ tag "data" (flow_xml ⊳ no_nodes) ⊳ tag "licenses" (expression_xml ⊳ no_nodes) ⊳ tag "externalReferences" (reference_xml ⊳ no_nodes) ⊳ tag "properties" (property_xml ⊳ no_nodes)
    ⊳ tag "services" (small_service_xml ⊳ no_nodes) ⊳ signer_xml "signature" ⊳ leaf "trustZone" "tz" ⊳ no_nodes)

a_service : Agrees V1_5 (kind.a_record name.service) "service" service_tree service_json service_xml
unfolding reading_on_literals
a_service = (refl, refl, refl, refl)

-- ---- tools, metadata and bills

abbrev pub tools_tree : Tree
tools_tree = of_fields name.tools_object (list_of (small_service_tree ∷ []) ∷ list_of (small_tree ∷ []) ∷ [])

abbrev pub tools_json : Data
tools_json = obj ("services" ↪ arr (small_service_json ⨠ no_items) ⨟ "components" ↪ arr (small_json ⨠ no_items) ⨟ no_members)

abbrev pub tools_xml : Node
tools_xml = tag "tools" (tag "services" (small_service_xml ⊳ no_nodes) ⊳ tag "components" (small_xml ⊳ no_nodes) ⊳ no_nodes)

a_tools_object : Agrees V1_5 kind.a_tools "tools" tools_tree tools_json tools_xml
unfolding reading_on_literals
a_tools_object = (refl, refl, refl, refl)

a_tool_list : Agrees V1_4 kind.a_tools "tools" (list_of (tool_tree ∷ [])) (arr (tool_json ⨠ no_items)) (tag "tools" (tool_xml ⊳ no_nodes))
unfolding reading_on_literals
a_tool_list = (refl, refl, refl, refl)

abbrev pub metadata_tree : Tree
metadata_tree = of_fields name.metadata (t' "2024" ∷ tools_tree ∷ list_of (contact_tree ∷ []) ∷ small_tree ∷ entity_tree ∷ entity_tree ∷ list_of (license_tree ∷ []) ∷ list_of (property_tree ∷ []) ∷ [])

abbrev pub metadata_json : Data
metadata_json = obj ("timestamp" ↪ str "2024" ⨟ "tools" ↪ tools_json ⨟ "authors" ↪ arr (contact_json ⨠ no_items) ⨟ "component" ↪ small_json ⨟ "manufacture" ↪ entity_json ⨟ "supplier" ↪ entity_json
    ⨟ "licenses" ↪ arr (obj ("license" ↪ license_json ⨟ no_members) ⨠ no_items) ⨟ "properties" ↪ arr (property_json ⨠ no_items) ⨟ no_members)

abbrev pub metadata_xml : Node
metadata_xml = tag "metadata" (leaf "timestamp" "2024" ⊳ tools_xml ⊳ tag "authors" (contact_xml "author" ⊳ no_nodes) ⊳ small_xml ⊳ entity_xml "manufacture" ⊳ entity_xml "supplier" ⊳ tag "licenses" (license_xml ⊳ no_nodes) ⊳ tag "properties" (property_xml ⊳ no_nodes) ⊳ no_nodes)

some_metadata : Agrees V1_5 (kind.a_record name.metadata) "metadata" metadata_tree metadata_json metadata_xml
unfolding reading_on_literals
some_metadata = (refl, refl, refl, refl)

abbrev pub bill_tree : Tree
bill_tree = of_fields name.bill (t' "1.5" ∷ number 2 ∷ t' "urn:uuid:1" ∷ metadata_tree ∷ list_of (small_tree ∷ []) ∷ list_of (small_service_tree ∷ []) ∷ list_of (reference_tree ∷ []) ∷ list_of (dependency_tree ∷ []) ∷ list_of (composition_tree ∷ []) ∷ list_of (property_tree ∷ []) ∷ signer_tree ∷ [])

abbrev pub bill_json : Data
bill_json = obj ("bomFormat" ↪ str "CycloneDX" ⨟ "specVersion" ↪ str "1.5" ⨟ "version" ↪ num 2 ⨟ "serialNumber" ↪ str "urn:uuid:1" ⨟ "metadata" ↪ metadata_json ⨟ "components" ↪ arr (small_json ⨠ no_items) ⨟ "services" ↪ arr (small_service_json ⨠ no_items)
    ⨟ "externalReferences" ↪ arr (reference_json ⨠ no_items) ⨟ "dependencies" ↪ arr (dependency_json ⨠ no_items) ⨟ "compositions" ↪ arr (composition_json ⨠ no_items) ⨟ "properties" ↪ arr (property_json ⨠ no_items) ⨟ "signature" ↪ signer_json ⨟ no_members)

-- The serial number stands before the version.
abbrev pub bill_xml : Node
bill_xml = bom V1_5 (at "serialNumber" "urn:uuid:1" ∷ at "version" "2" ∷ []) (metadata_xml ⊳ tag "components" (small_xml ⊳ no_nodes) ⊳ tag "services" (small_service_xml ⊳ no_nodes) ⊳ tag "externalReferences" (reference_xml ⊳ no_nodes)
    ⊳ tag "dependencies" (dependency_xml ⊳ no_nodes) ⊳ tag "compositions" (composition_xml ⊳ no_nodes) ⊳ tag "properties" (property_xml ⊳ no_nodes) ⊳ signer_xml "signature" ⊳ no_nodes)

a_bill : (json_denotes bill_json V1_5 ≡ Ok bill_tree) × (jspell bill_tree V1_5 kind.a_bill ≡ bill_json) × (xml_denotes bill_xml V1_5 ≡ Ok bill_tree) × (root bill_tree V1_5 ≡ bill_xml)
unfolding reading_on_literals
a_bill = (refl, refl, refl, refl)
