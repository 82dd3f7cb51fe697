-- The schema: the rows of each record, in the order in which they are written, and the items of each list.
use Prim.Native.String.{String}
use Rattle.std.specs.Prelude.{List, [], ◌∷◌, Some, None, codes}
use Rattle.cdx_models.specs.declared.bom.SpecVersion.{SpecVersion}
use Rattle.cdx_models.specs.declared.bom.SpecVersion.TheVariants.{V1_3, V1_4, V1_5}
use Rattle.cdx_models.specs.Trees.{Name, hash, property, attached_text, contact, entity, commit, action, patch, diff, issue, source, reference, dependency, composition, license, expression, spdx_id, license_name, tool, component, swid, pedigree, evidence, copyright, service, classification, service_data, tools_object, metadata, signer, signers, chain, bill}
use Rattle.cdx_schema.specs.Kinds.{Lists, hashes, properties, urls, contacts, commits, patches, resolved, links, external_references, dependencies, depended, compositions, assemblies, composed, vulnerabilities, licenses, components, services, copyright_texts, endpoints, authors, tool_list, signer_list, chain_list, classifications, flows, Kind, a_text, a_boolean, a_number, a_version, a_list, a_record, a_reference, a_license_choice, a_license_identifier, a_tools, a_data, a_signature, Rule, lax, strict, passing, Spelled, attribute, attribute_or, content, one_text, as_cdata, child, filled_child, children, either_child, the_version, member, merged, optional, required, required_first, else_empty, Row, Listed}

-- ---- how a row is written below

abbrev pub row : Kind → Spelled → String → Row
row k x j = record { kind = k; xml = x; json = member (codes j); old_name = None; since = V1_3; need = optional }

abbrev pub must : Row → Row
must r = record r { need = required }

abbrev pub from : SpecVersion → Row → Row
from v r = record r { since = v }

-- an attribute, a child, and children under the same name in JSON
abbrev pub at : Kind → String → Row
at k name = row k (attribute (codes name)) name

abbrev pub of : Kind → String → Row
of k name = row k (child (codes name)) name

abbrev pub every : Lists → String → Row
every l name = row (a_list l) (children (codes name)) name

-- a reference that old documents spell otherwise in JSON
abbrev pub respelled_reference : Row
respelled_reference = record (at a_text "bom-ref") { old_name = Some (codes "bomRef") }

abbrev pub signature_row : Row
signature_row = from V1_4 (of a_signature "signature")

-- a license's id or name, and a flow's classification: their members stand among those of the license and the flow
abbrev pub identifier_row : Row
identifier_row = record { kind = a_license_identifier; xml = either_child (codes "id") (codes "name"); json = merged; old_name = None; since = V1_3; need = required }

abbrev pub class_row : Row
class_row = record { kind = a_record classification; xml = child (codes "classification"); json = merged; old_name = None; since = V1_3; need = required }

-- the rows of a bill that are children of the root
abbrev pub bill_children : List Row
bill_children = of (a_record metadata) "metadata"
    ∷ of (a_list components) "components"
    ∷ of (a_list services) "services"
    ∷ of (a_list external_references) "externalReferences"
    ∷ of (a_list dependencies) "dependencies"
    ∷ of (a_list compositions) "compositions"
    ∷ from V1_5 (of (a_list properties) "properties")
    ∷ signature_row
    ∷ []

-- ---- the records

unfoldable pub rows : Name → List Row
rows hash = must (at a_text "alg") ∷ must (row a_text content "content") ∷ []
rows property = must (at a_text "name") ∷ must (row a_text content "value") ∷ []
rows attached_text = row a_text (attribute (codes "content-type")) "contentType"
    ∷ at a_text "encoding"
    ∷ must (row a_text one_text "content")
    ∷ []
rows contact = respelled_reference ∷ of a_text "name" ∷ of a_text "email" ∷ of a_text "phone" ∷ []
rows entity = respelled_reference ∷ of a_text "name" ∷ every urls "url" ∷ every contacts "contact" ∷ []
rows commit = of a_text "uid"
    ∷ of a_text "url"
    ∷ of (a_record action) "author"
    ∷ of (a_record action) "committer"
    ∷ of a_text "message"
    ∷ []
rows action = of a_text "timestamp" ∷ of a_text "name" ∷ of a_text "email" ∷ []
rows patch = must (at a_text "type")
    ∷ row (a_record diff) (filled_child (codes "diff")) "diff"
    ∷ of (a_list resolved) "resolves"
    ∷ []
rows diff = of (a_record attached_text) "text" ∷ of a_text "url" ∷ []
rows issue = must (at a_text "type")
    ∷ of a_text "id"
    ∷ of a_text "name"
    ∷ of a_text "description"
    ∷ row (a_record source) (filled_child (codes "source")) "source"
    ∷ of (a_list links) "references"
    ∷ []
rows source = of a_text "name" ∷ of a_text "url" ∷ []
rows reference = must (at a_text "type")
    ∷ must (of a_text "url")
    ∷ of a_text "comment"
    ∷ of (a_list hashes) "hashes"
    ∷ []
rows dependency = must (at a_text "ref")
    ∷ record (row (a_list depended) (children (codes "dependency")) "dependsOn") { need = else_empty }
    ∷ []
rows composition = from V1_5 respelled_reference
    ∷ must (of a_text "aggregate")
    ∷ of (a_list assemblies) "assemblies"
    ∷ of (a_list composed) "dependencies"
    ∷ from V1_5 (of (a_list vulnerabilities) "vulnerabilities")
    ∷ signature_row
    ∷ []
rows license = from V1_5 respelled_reference
    ∷ identifier_row
    ∷ of (a_record attached_text) "text"
    ∷ of a_text "url"
    ∷ from V1_5 (of (a_list properties) "properties")
    ∷ []
rows expression = respelled_reference ∷ must (row a_text content "expression") ∷ []
rows spdx_id = must (row a_text one_text "id") ∷ []
rows license_name = must (row a_text one_text "name") ∷ []
rows tool = of a_text "vendor"
    ∷ of a_text "name"
    ∷ of a_text "version"
    ∷ of (a_list hashes) "hashes"
    ∷ from V1_4 (of (a_list external_references) "externalReferences")
    ∷ []
rows component = must (at a_text "type")
    ∷ at a_text "mime-type"
    ∷ at a_text "bom-ref"
    ∷ row (a_record entity) (filled_child (codes "supplier")) "supplier"
    ∷ of a_text "author"
    ∷ of a_text "publisher"
    ∷ of a_text "group"
    ∷ must (of a_text "name")
    ∷ record (of a_text "version") { need = required_first }
    ∷ of a_text "description"
    ∷ of a_text "scope"
    ∷ of (a_list hashes) "hashes"
    ∷ of (a_list licenses) "licenses"
    ∷ of a_text "copyright"
    ∷ of a_text "cpe"
    ∷ of a_text "purl"
    ∷ of (a_record swid) "swid"
    ∷ of a_boolean "modified"
    ∷ of (a_record pedigree) "pedigree"
    ∷ of (a_list external_references) "externalReferences"
    ∷ of (a_list properties) "properties"
    ∷ of (a_list components) "components"
    ∷ row (a_record evidence) (filled_child (codes "evidence")) "evidence"
    ∷ signature_row
    ∷ []
rows swid = must (at a_text "tagId")
    ∷ must (at a_text "name")
    ∷ at a_text "version"
    ∷ at a_number "tagVersion"
    ∷ at a_boolean "patch"
    ∷ of (a_record attached_text) "text"
    ∷ of a_text "url"
    ∷ []
rows pedigree = of (a_list components) "ancestors"
    ∷ of (a_list components) "descendants"
    ∷ of (a_list components) "variants"
    ∷ of (a_list commits) "commits"
    ∷ of (a_list patches) "patches"
    ∷ of a_text "notes"
    ∷ []
rows evidence = of (a_list licenses) "licenses" ∷ of (a_list copyright_texts) "copyright" ∷ []
rows copyright = must (row a_text as_cdata "text") ∷ []
rows service = at a_text "bom-ref"
    ∷ of (a_record entity) "provider"
    ∷ of a_text "group"
    ∷ must (of a_text "name")
    ∷ of a_text "version"
    ∷ of a_text "description"
    ∷ of (a_list endpoints) "endpoints"
    ∷ of a_boolean "authenticated"
    ∷ of a_boolean "x-trust-boundary"
    ∷ of a_data "data"
    ∷ of (a_list licenses) "licenses"
    ∷ of (a_list external_references) "externalReferences"
    ∷ of (a_list properties) "properties"
    ∷ of (a_list services) "services"
    ∷ signature_row
    ∷ from V1_5 (of a_text "trustZone")
    ∷ []
rows classification = must (at a_text "flow") ∷ must (row a_text content "classification") ∷ []
rows service_data = at a_text "name"
    ∷ at a_text "description"
    ∷ class_row
    ∷ []
rows tools_object = of (a_list services) "services" ∷ of (a_list components) "components" ∷ []
rows metadata = of a_text "timestamp"
    ∷ of a_tools "tools"
    ∷ of (a_list authors) "authors"
    ∷ of (a_record component) "component"
    ∷ of (a_record entity) "manufacture"
    ∷ of (a_record entity) "supplier"
    ∷ of (a_list licenses) "licenses"
    ∷ of (a_list properties) "properties"
    ∷ []
rows signer = must (of a_text "algorithm") ∷ must (of a_text "value") ∷ []
rows signers = must (row (a_list signer_list) (children (codes "signer")) "signers") ∷ []
rows chain = must (row (a_list chain_list) (children (codes "chain")) "chain") ∷ []
rows bill = must (row a_version the_version "specVersion")
    ∷ must (row a_number (attribute_or (codes "version") 1) "version")
    ∷ at a_text "serialNumber"
    ∷ bill_children

-- what a record is to what it doesn't know
unfoldable pub rule : Name → Rule
rule hash = strict
rule property = strict
rule attached_text = strict
rule contact = lax
rule entity = lax
rule commit = lax
rule action = lax
rule patch = lax
rule diff = lax
rule issue = lax
rule source = strict
rule reference = strict
rule dependency = strict
rule composition = strict
rule license = lax
rule expression = strict
rule spdx_id = strict
rule license_name = strict
rule tool = lax
rule component = lax
rule swid = lax
rule pedigree = lax
rule evidence = passing
rule copyright = strict
rule service = lax
rule classification = strict
rule service_data = lax
rule tools_object = strict
rule metadata = lax
rule signer = strict
rule signers = strict
rule chain = strict
rule bill = lax

-- ---- the lists

abbrev pub list_with : String → Kind → Rule → Listed
list_with name k r = record { name = codes name; kind = k; rule = r }

unfoldable pub list : Lists → Listed
list hashes = list_with "hash" (a_record hash) strict
list properties = list_with "property" (a_record property) lax
list urls = list_with "url" a_text lax
list contacts = list_with "contact" (a_record contact) lax
list commits = list_with "commit" (a_record commit) lax
list patches = list_with "patch" (a_record patch) lax
list resolved = list_with "issue" (a_record issue) strict
list links = list_with "url" a_text strict
list external_references = list_with "reference" (a_record reference) strict
list dependencies = list_with "dependency" (a_record dependency) strict
list depended = list_with "dependency" a_reference strict
list compositions = list_with "composition" (a_record composition) lax
list assemblies = list_with "assembly" a_reference lax
list composed = list_with "dependency" a_reference lax
list vulnerabilities = list_with "vulnerability" a_reference lax
list licenses = list_with "license" a_license_choice strict
list components = list_with "component" (a_record component) lax
list services = list_with "service" (a_record service) lax
list copyright_texts = list_with "text" (a_record copyright) strict
list endpoints = list_with "endpoint" a_text strict
list authors = list_with "author" (a_record contact) strict
list tool_list = list_with "tool" (a_record tool) strict
list signer_list = list_with "signer" (a_record signer) strict
list chain_list = list_with "chain" (a_record signer) strict
list classifications = list_with "classification" (a_record classification) passing
list flows = list_with "dataflow" (a_record service_data) passing
