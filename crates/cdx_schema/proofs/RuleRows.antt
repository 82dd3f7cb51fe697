-- Worked rows on the rules of reading and writing: which fault comes, and what is passed over.
use Prim.Native.String.{String}
use Rattle.std.specs.Prelude.{◌≡◌, refl, ℤ, [], ◌∷◌, List, true, false, codes, Result, Ok, Err, Some, None}
use Rattle.serde_json.specs.Data.{Data, no_items, no_members, null}
use Rattle.serde_json.specs.Data as json
use Rattle.cdx_models.specs.declared.bom.SpecVersion.{SpecVersion}
use Rattle.cdx_models.specs.declared.bom.SpecVersion.TheVariants.{V1_3, V1_4, V1_5}
use Rattle.cdx_models.specs.declared.errors.Step.{Step}
use Rattle.cdx_models.specs.declared.errors.JsonKind.{JsonKind}
use Rattle.cdx_models.specs.declared.errors.XmlReadError.{XmlReadError}
use Rattle.cdx_models.specs.Trees as name
use Rattle.cdx_models.specs.Trees.{Tree, absent, number, boolean}
use Rattle.cdx_events.specs.declared.event.EventKind.TheVariants as kinds
use Rattle.cdx_events.specs.Nodes.{Node, cdata, element, no_nodes}
use Rattle.cdx_schema.specs.Kinds as kind
use Rattle.cdx_schema.specs.Depth.{Depth, top}
use Rattle.cdx_schema.specs.Faults.{JsonFault, to_member, to_item, missing, wrong_kind, out_of_range, too_deep, unexpected, lacking, unreadable, namespaced}
use Rattle.cdx_schema.specs.Faults as faults
use Rattle.cdx_schema.specs.JsonReading.{jread, json_denotes}
use Rattle.cdx_schema.specs.JsonSpelling.{jspell}
use Rattle.cdx_schema.specs.XmlReading.{xread, xml_denotes}
use Rattle.cdx_schema.specs.XmlSpelling.{spelled, plain_name}
use Rattle.cdx_schema.specs.Keeping.{keep, fits}
use Rattle.cdx_schema.specs.Trips.{bare}
use Rattle.cdx_schema.specs.Table.{rows}
use Rattle.cdx_schema.specs.RowLaws.{known_names}
use Rattle.cdx_schema.proofs.Literals.{str, num, obj, arr, ◌↪◌⨟◌, ◌⨠◌, ◌⊳◌, at, el, tag, txt, leaf, t', reading_on_literals}
use Rattle.cdx_schema.proofs.RecordRows.{of_fields, list_of, hash_json, hash_xml, class_tree, class_xml, flow_tree, signer_tree, signer_json, signer_xml, small_tree, small_xml}

-- an element at place 1, and a value
abbrev Reads : SpecVersion → kind.Kind → Node → Result Tree XmlReadError → Type 0
Reads v k x r = xread x v k 1 top ≡ r

abbrev pub Values : SpecVersion → kind.Kind → Data → Result Tree JsonFault → Type 0
Values v k x r = jread x v k top ≡ r

abbrev pub wrong : List Step → JsonKind → Result Tree JsonFault
wrong p c = Err (record { path = p; cause = c })

abbrev inside_32 : Depth
inside_32 = record { components = 32; services = 32 }

abbrev a_contact : Tree → Tree
a_contact n = of_fields name.contact (absent ∷ n ∷ absent ∷ absent ∷ [])

-- ---- elements: the order of faults

-- The depth comes before the attributes.
depth_first : (xread (tag "component" no_nodes) V1_5 (kind.a_record name.component) 1 inside_32 ≡ Err (faults.nested 1)) × (xread (tag "service" no_nodes) V1_5 (kind.a_record name.service) 1 inside_32 ≡ Err (faults.nested 1))
unfolding reading_on_literals
depth_first = (refl, refl)

-- Attributes come in row order, and before the content.
attributes_first : Reads V1_5 (kind.a_record name.swid) (tag "swid" (txt "x" ⊳ no_nodes)) (Err (lacking 1 (codes "swid") (codes "tagId")))
    × Reads V1_5 (kind.a_record name.swid) (el "swid" (at "tagId" "t" ∷ at "patch" "x" ∷ []) no_nodes) (Err (lacking 1 (codes "swid") (codes "name")))
    × Reads V1_5 (kind.a_record name.hash) (tag "hash" (tag "x" no_nodes ⊳ no_nodes)) (Err (lacking 1 (codes "hash") (codes "alg")))
unfolding reading_on_literals
attributes_first = (refl, refl, refl)

-- What is missing is missed at the end, in row order. Only 1.3 needs a component's version.
missing_last : Reads V1_3 (kind.a_record name.component) (el "component" (at "type" "t" ∷ []) no_nodes) (Err (lacking 2 (codes "component") (codes "name")))
    × Reads V1_3 (kind.a_record name.component) small_xml (Err (lacking 5 (codes "component") (codes "version")))
    × Reads V1_4 (kind.a_record name.component) small_xml (Ok small_tree)
unfolding reading_on_literals
missing_last = (refl, refl, refl)

-- ---- elements: what no row has

lax_record : Reads V1_5 (kind.a_record name.contact) (tag "author" (tag "x" (txt "t" ⊳ no_nodes) ⊳ leaf "name" "n" ⊳ no_nodes)) (Ok (a_contact (t' "n")))
    × Reads V1_5 (kind.a_record name.contact) (tag "author" (txt "t" ⊳ no_nodes)) (Err (unexpected 2 (codes "author") kinds.Characters))
unfolding reading_on_literals
lax_record = (refl, refl)

strict_record : Reads V1_5 (kind.a_record name.source) (tag "source" (tag "x" no_nodes ⊳ no_nodes)) (Err (unexpected 2 (codes "source") kinds.StartElement))
    × Reads V1_5 (kind.a_record name.source) (tag "source" (leaf "name" "n" ⊳ cdata [] ⊳ no_nodes)) (Err (unexpected 5 (codes "source") kinds.CData))
unfolding reading_on_literals
strict_record = (refl, refl)

some_lists : Reads V1_5 (kind.a_list kind.hashes) (tag "hashes" (hash_xml ⊳ tag "x" no_nodes ⊳ no_nodes)) (Err (unexpected 5 (codes "hashes") kinds.StartElement))
    × Reads V1_5 (kind.a_list kind.properties) (tag "properties" (txt "t" ⊳ no_nodes)) (Err (unexpected 2 (codes "properties") kinds.Characters))
unfolding reading_on_literals
some_lists = (refl, refl)

-- A child or an attribute of a later version is unknown.
later_child : Reads V1_4 (kind.a_record name.composition) (tag "composition" (leaf "aggregate" "a" ⊳ tag "vulnerabilities" no_nodes ⊳ no_nodes)) (Err (unexpected 5 (codes "composition") kinds.StartElement))
    × Reads V1_4 (kind.a_record name.composition) (el "composition" (at "bom-ref" "r" ∷ []) (leaf "aggregate" "a" ⊳ no_nodes)) (Ok (of_fields name.composition (absent ∷ t' "a" ∷ absent ∷ absent ∷ absent ∷ absent ∷ [])))
    × Reads V1_3 (kind.a_record name.tool) (tag "tool" (leaf "externalReferences" "x" ⊳ no_nodes)) (Ok (of_fields name.tool (absent ∷ absent ∷ absent ∷ absent ∷ absent ∷ [])))
unfolding reading_on_literals
later_child = (refl, refl, refl)

-- ---- elements: texts, booleans, numbers and references

-- A text child has no node or one text; the text child is the element of its faults.
text_child : Reads V1_5 (kind.a_record name.contact) (tag "author" (tag "name" no_nodes ⊳ no_nodes)) (Ok (a_contact (t' "")))
    × Reads V1_5 (kind.a_record name.contact) (tag "author" (tag "name" (cdata (codes "n") ⊳ no_nodes) ⊳ no_nodes)) (Ok (a_contact (t' "n")))
    × Reads V1_5 (kind.a_record name.contact) (tag "author" (tag "name" (tag "x" no_nodes ⊳ no_nodes) ⊳ no_nodes)) (Err (unexpected 3 (codes "name") kinds.StartElement))
    × Reads V1_5 (kind.a_record name.contact) (tag "author" (tag "name" (txt "n" ⊳ cdata [] ⊳ no_nodes) ⊳ no_nodes)) (Err (unexpected 4 (codes "name") kinds.CData))
unfolding reading_on_literals
text_child = (refl, refl, refl, refl)

one_text : Reads V1_5 (kind.a_record name.license) (tag "license" (tag "id" no_nodes ⊳ no_nodes)) (Err (unexpected 3 (codes "id") kinds.EndElement))
    × Reads V1_5 (kind.a_record name.attached_text) (tag "text" (txt "a" ⊳ txt "b" ⊳ no_nodes)) (Err (unexpected 3 (codes "text") kinds.Characters))
unfolding reading_on_literals
one_text = (refl, refl)

-- A second id of a license is refused at its start.
second_id : Reads V1_5 (kind.a_record name.license) (tag "license" (leaf "id" "MIT" ⊳ tag "id" (tag "x" no_nodes ⊳ no_nodes) ⊳ no_nodes)) (Err (unexpected 5 (codes "license") kinds.StartElement))
unfolding reading_on_literals
second_id = refl

-- Neither booleans nor numbers in attributes are trimmed.
booleans : Reads V1_5 kind.a_boolean (leaf "b" "0") (Ok (boolean false))
    × Reads V1_5 kind.a_boolean (leaf "b" " true") (Err (unreadable 3 (codes "b") (codes " true") (codes "xs:boolean")))
    × Reads V1_5 (kind.a_record name.swid) (el "swid" (at "tagId" "t" ∷ at "name" "n" ∷ at "patch" "TRUE" ∷ []) no_nodes) (Err (unreadable 1 (codes "patch") (codes "TRUE") (codes "xs:boolean")))
unfolding reading_on_literals
booleans = (refl, refl, refl)

abbrev tag_version : String → Node
tag_version s = el "swid" (at "tagId" "t" ∷ at "name" "n" ∷ at "tagVersion" s ∷ []) no_nodes

abbrev swid_with : Tree → Tree
swid_with t = of_fields name.swid (t' "t" ∷ t' "n" ∷ absent ∷ t ∷ absent ∷ absent ∷ absent ∷ [])

numbers : Reads V1_5 (kind.a_record name.swid) (tag_version "+007") (Ok (swid_with (number 7)))
    × Reads V1_5 (kind.a_record name.swid) (tag_version "4294967295") (Ok (swid_with (number 4294967295)))
    × Reads V1_5 (kind.a_record name.swid) (tag_version "+") (Err (unreadable 1 (codes "tagVersion") (codes "+") (codes "xs:integer")))
    × Reads V1_5 (kind.a_record name.swid) (tag_version " 7") (Err (unreadable 1 (codes "tagVersion") (codes " 7") (codes "xs:integer")))
unfolding reading_on_literals
numbers = (refl, refl, refl, refl)

-- A reference has the one attribute, looked for first, and no content.
references : Reads V1_5 kind.a_reference (tag "assembly" (txt "" ⊳ no_nodes)) (Err (lacking 1 (codes "assembly") (codes "ref")))
    × Reads V1_5 kind.a_reference (el "assembly" (at "ref" "a" ∷ []) (txt "" ⊳ no_nodes)) (Err (unexpected 2 (codes "assembly") kinds.Characters))
    × Reads V1_5 kind.a_reference (el "assembly" (at "ref" "a" ∷ []) no_nodes) (Ok (t' "a"))
unfolding reading_on_literals
references = (refl, refl, refl)

-- ---- elements: the forms of their own

other_names : Reads V1_5 kind.a_license_choice (tag "x" no_nodes) (Err (lacking 1 (codes "x") (codes "license or expression")))
    × Reads V1_5 kind.a_license_identifier (tag "x" no_nodes) (Err (lacking 1 (codes "x") (codes "id or name")))
unfolding reading_on_literals
other_names = (refl, refl)

abbrev tools_of : Tree → Tree → Tree
tools_of s c = of_fields name.tools_object (s ∷ c ∷ [])

no_tool : Reads V1_5 kind.a_tools (tag "tools" no_nodes) (Ok (tools_of absent absent))
    × Reads V1_4 kind.a_tools (tag "tools" no_nodes) (Ok (list_of []))
    × Reads V1_5 kind.a_tools (tag "tools" (txt "t" ⊳ no_nodes)) (Err (unexpected 2 (codes "tools") kinds.Characters))
unfolding reading_on_literals
no_tool = (refl, refl, refl)

-- The last components count, and a fault in a later child comes before that on both kinds of tools.
more_tools : Reads V1_5 kind.a_tools (tag "tools" (tag "components" (small_xml ⊳ no_nodes) ⊳ tag "components" no_nodes ⊳ no_nodes)) (Ok (tools_of absent (list_of [])))
    × Reads V1_5 kind.a_tools (tag "tools" (tag "tool" no_nodes ⊳ tag "services" (txt "t" ⊳ no_nodes) ⊳ no_nodes)) (Err (unexpected 5 (codes "services") kinds.Characters))
unfolding reading_on_literals
more_tools = (refl, refl)

-- A flow without name and description makes the value the flows, and is its classification there.
unnamed_flow : Reads V1_5 kind.a_data (tag "data" (txt "t" ⊳ class_xml ⊳ tag "dataflow" (class_xml ⊳ no_nodes) ⊳ no_nodes)) (Ok (list_of (class_tree ∷ [])))
    × Reads V1_5 kind.a_data (tag "data" (tag "x" no_nodes ⊳ no_nodes)) (Ok (list_of []))
    × Reads V1_5 kind.a_data (tag "data" (class_xml ⊳ tag "dataflow" no_nodes ⊳ no_nodes)) (Err (lacking 6 (codes "dataflow") (codes "classification")))
unfolding reading_on_literals
unnamed_flow = (refl, refl, refl)

-- The last list of a signature counts, and what stands beside it is still read.
last_list : Reads V1_5 kind.a_signature (tag "signature" (tag "signers" no_nodes ⊳ tag "chain" (signer_xml "chain" ⊳ no_nodes) ⊳ leaf "value" "x" ⊳ no_nodes)) (Ok (of_fields name.chain (list_of (signer_tree ∷ []) ∷ [])))
    × Reads V1_5 kind.a_signature (tag "signature" (tag "chain" no_nodes ⊳ tag "signers" no_nodes ⊳ no_nodes)) (Ok (of_fields name.signers (list_of [] ∷ [])))
    × Reads V1_5 kind.a_signature (tag "signature" (tag "chain" no_nodes ⊳ tag "algorithm" (tag "x" no_nodes ⊳ no_nodes) ⊳ no_nodes)) (Err (unexpected 5 (codes "algorithm") kinds.StartElement))
    × Reads V1_5 kind.a_signature (tag "signature" (tag "chain" (tag "signer" no_nodes ⊳ no_nodes) ⊳ no_nodes)) (Err (unexpected 3 (codes "chain") kinds.StartElement))
    × Reads V1_5 kind.a_signature (tag "signature" (tag "signers" (tag "signer" (leaf "algorithm" "a" ⊳ no_nodes) ⊳ no_nodes) ⊳ no_nodes)) (Err (lacking 7 (codes "signer") (codes "value")))
unfolding reading_on_literals
last_list = (refl, refl, refl, refl, refl)

-- The namespace is asked for before the version; an empty one is one.
namespaces : (xml_denotes (el "bom" (at "version" "x" ∷ []) no_nodes) V1_5 ≡ Err (namespaced (codes "http://cyclonedx.org/schema/bom/1.5") None))
    × (xml_denotes (element (plain_name (codes "bom")) [] (record { default = Some [] }) no_nodes) V1_5 ≡ Err (namespaced (codes "http://cyclonedx.org/schema/bom/1.5") (Some [])))
unfolding reading_on_literals
namespaces = (refl, refl)

-- ---- values

-- An optional member that is null is absent; a required one that is null is of the wrong kind; unknown members are passed over.
members : Values V1_5 (kind.a_record name.contact) (obj ("name" ↪ null ⨟ "x" ↪ num 1 ⨟ no_members)) (Ok (a_contact absent))
    × Values V1_5 (kind.a_record name.contact) (obj ("name" ↪ num 1 ⨟ no_members)) (wrong (to_member (codes "name") ∷ []) wrong_kind)
    × Values V1_5 (kind.a_record name.hash) (obj ("alg" ↪ null ⨟ no_members)) (wrong (to_member (codes "alg") ∷ []) wrong_kind)
    × Values V1_5 (kind.a_record name.hash) (obj ("content" ↪ num 1 ⨟ no_members)) (wrong (to_member (codes "alg") ∷ []) missing)
    × Values V1_5 (kind.a_record name.hash) (str "x") (wrong [] wrong_kind)
unfolding reading_on_literals
members = (refl, refl, refl, refl, refl)

first_version : Values V1_3 (kind.a_record name.component) (obj ("type" ↪ str "library" ⨟ "name" ↪ str "s" ⨟ "version" ↪ null ⨟ no_members)) (wrong (to_member (codes "version") ∷ []) wrong_kind)
    × Values V1_4 (kind.a_record name.component) (obj ("type" ↪ str "library" ⨟ "name" ↪ str "s" ⨟ "version" ↪ null ⨟ no_members)) (Ok small_tree)
unfolding reading_on_literals
first_version = (refl, refl)

some_numbers : Values V1_5 (kind.a_record name.swid) (obj ("tagId" ↪ str "t" ⨟ "name" ↪ str "n" ⨟ "tagVersion" ↪ num 4294967296 ⨟ no_members)) (wrong (to_member (codes "tagVersion") ∷ []) out_of_range)
    × Values V1_5 (kind.a_record name.swid) (obj ("tagId" ↪ str "t" ⨟ "name" ↪ str "n" ⨟ "tagVersion" ↪ str "7" ⨟ no_members)) (wrong (to_member (codes "tagVersion") ∷ []) wrong_kind)
    × Values V1_5 (kind.a_record name.swid) (obj ("tagId" ↪ str "t" ⨟ "name" ↪ str "n" ⨟ "tagVersion" ↪ num 4294967295 ⨟ no_members)) (Ok (swid_with (number 4294967295)))
unfolding reading_on_literals
some_numbers = (refl, refl, refl)

negatives : (z : ℤ) → Values V1_5 kind.a_number (json.number (json.negative z)) (wrong [] out_of_range)
unfolding reading_on_literals
negatives z = refl

arrays : Values V1_5 (kind.a_list kind.hashes) (arr (hash_json ⨠ num 1 ⨠ no_items)) (wrong (to_item 1 ∷ []) wrong_kind)
    × Values V1_5 (kind.a_list kind.hashes) hash_json (wrong [] wrong_kind)
    × Values V1_5 kind.a_data hash_json (wrong [] wrong_kind)
unfolding reading_on_literals
arrays = (refl, refl, refl)

-- A component or a service that stands too deep is refused whatever it is.
deep_values : (jread null V1_5 (kind.a_record name.component) inside_32 ≡ wrong [] too_deep) × (jread (num 1) V1_5 (kind.a_record name.service) inside_32 ≡ wrong [] too_deep) × (jread null V1_5 (kind.a_record name.hash) inside_32 ≡ wrong [] wrong_kind)
unfolding reading_on_literals
deep_values = (refl, refl, refl)

choices : Values V1_5 kind.a_license_choice (obj ("license" ↪ null ⨟ no_members)) (wrong (to_member (codes "license") ∷ []) wrong_kind)
    × Values V1_5 kind.a_license_choice (obj no_members) (wrong (to_member (codes "expression") ∷ []) missing)
    × Values V1_5 kind.a_license_choice (str "MIT") (wrong [] wrong_kind)
    × Values V1_5 kind.a_license_choice (obj ("license" ↪ obj no_members ⨟ no_members)) (wrong (to_member (codes "license") ∷ to_member (codes "id") ∷ []) missing)
unfolding reading_on_literals
choices = (refl, refl, refl, refl)

identifiers : Values V1_5 kind.a_license_identifier (obj ("id" ↪ null ⨟ "name" ↪ str "M" ⨟ no_members)) (wrong (to_member (codes "id") ∷ []) wrong_kind)
    × Values V1_5 kind.a_license_identifier (obj ("name" ↪ num 1 ⨟ no_members)) (wrong (to_member (codes "name") ∷ []) wrong_kind)
    × Values V1_5 kind.a_license_identifier (obj no_members) (wrong (to_member (codes "id") ∷ []) missing)
unfolding reading_on_literals
identifiers = (refl, refl, refl)

signatures : Values V1_5 kind.a_signature (obj ("signers" ↪ arr no_items ⨟ "chain" ↪ num 1 ⨟ no_members)) (Ok (of_fields name.signers (list_of [] ∷ [])))
    × Values V1_5 kind.a_signature (obj ("signers" ↪ arr (obj ("algorithm" ↪ str "a" ⨟ no_members) ⨠ no_items) ⨟ no_members)) (wrong (to_member (codes "signers") ∷ to_item 0 ∷ to_member (codes "value") ∷ []) missing)
    × Values V1_5 kind.a_signature (arr (signer_json ⨠ obj no_members ⨠ no_items)) (wrong (to_item 1 ∷ to_member (codes "algorithm") ∷ []) missing)
    × Values V1_5 kind.a_signature (obj ("chain" ↪ num 1 ⨟ no_members)) (wrong (to_member (codes "chain") ∷ []) wrong_kind)
    × Values V1_5 kind.a_signature (num 1) (wrong [] wrong_kind)
unfolding reading_on_literals
signatures = (refl, refl, refl, refl, refl)

tools_values : Values V1_5 kind.a_tools (obj ("x" ↪ num 1 ⨟ no_members)) (Ok (tools_of absent absent))
    × Values V1_5 kind.a_tools (obj ("services" ↪ num 1 ⨟ no_members)) (wrong (to_member (codes "services") ∷ []) wrong_kind)
    × Values V1_3 kind.a_tools (arr no_items) (Ok (list_of []))
    × Values V1_5 kind.a_tools (str "x") (wrong [] wrong_kind)
unfolding reading_on_literals
tools_values = (refl, refl, refl, refl)

-- A bill's format comes first, then its label, then its version.
bill_members : (json_denotes (obj no_members) V1_5 ≡ wrong (to_member (codes "bomFormat") ∷ []) missing)
    × (json_denotes (obj ("bomFormat" ↪ num 1 ⨟ no_members)) V1_5 ≡ wrong (to_member (codes "bomFormat") ∷ []) wrong_kind)
    × (json_denotes (obj ("bomFormat" ↪ str "CycloneDX" ⨟ "version" ↪ str "x" ⨟ no_members)) V1_5 ≡ wrong (to_member (codes "specVersion") ∷ []) missing)
    × (json_denotes (obj ("bomFormat" ↪ str "CycloneDX" ⨟ "specVersion" ↪ str "1.5" ⨟ no_members)) V1_5 ≡ wrong (to_member (codes "version") ∷ []) missing)
unfolding reading_on_literals
bill_members = (refl, refl, refl, refl)

-- ---- writing

-- An empty text is one text, an empty list a start and an end.
empty_written : (spelled (a_contact (t' "")) V1_5 (codes "author") (kind.a_record name.contact) ≡ tag "author" (tag "name" (txt "" ⊳ no_nodes) ⊳ no_nodes))
    × (spelled (list_of []) V1_5 (codes "hashes") (kind.a_list kind.hashes) ≡ tag "hashes" no_nodes)
unfolding reading_on_literals
empty_written = (refl, refl)

-- a component with this supplier and this evidence
abbrev component_of : Tree → Tree → Tree
component_of s e = of_fields name.component (t' "library" ∷ absent ∷ absent ∷ s ∷ absent ∷ absent ∷ absent ∷ t' "s" ∷ absent ∷ absent ∷ absent ∷ absent ∷ absent ∷ absent ∷ absent ∷ absent ∷ absent ∷ absent ∷ absent ∷ absent ∷ absent ∷ absent ∷ e ∷ absent ∷ [])

abbrev no_entity : Tree
no_entity = of_fields name.entity (t' "r" ∷ absent ∷ absent ∷ absent ∷ [])

abbrev no_evidence : Tree
no_evidence = of_fields name.evidence (absent ∷ absent ∷ [])

-- A supplier and evidence without children aren't written, in XML.
hollow_left_out : (spelled (component_of no_entity no_evidence) V1_5 (codes "component") (kind.a_record name.component) ≡ small_xml)
    × (jspell (component_of no_entity no_evidence) V1_5 (kind.a_record name.component) ≡ obj ("type" ↪ str "library" ⨟ "name" ↪ str "s" ⨟ "supplier" ↪ obj ("bom-ref" ↪ str "r" ⨟ no_members) ⨟ "evidence" ↪ obj no_members ⨟ no_members))
    × (bare (component_of no_entity no_evidence) ≡ small_tree)
unfolding reading_on_literals
hollow_left_out = (refl, refl, refl)

hollow_diff : bare (of_fields name.patch (t' "t" ∷ of_fields name.diff (absent ∷ absent ∷ []) ∷ absent ∷ [])) ≡ of_fields name.patch (t' "t" ∷ absent ∷ absent ∷ [])
unfolding reading_on_literals
hollow_diff = refl

hollow_source : bare (of_fields name.issue (t' "t" ∷ absent ∷ absent ∷ absent ∷ of_fields name.source (absent ∷ absent ∷ []) ∷ absent ∷ [])) ≡ of_fields name.issue (t' "t" ∷ absent ∷ absent ∷ absent ∷ absent ∷ absent ∷ [])
unfolding reading_on_literals
hollow_source = refl

abbrev no_contact : Tree
no_contact = of_fields name.contact (t' "r" ∷ absent ∷ absent ∷ absent ∷ [])

-- An entity's empty lists become absent, also one that only nameless contacts made up.
entity_lists : bare (of_fields name.entity (absent ∷ t' "n" ∷ list_of [] ∷ list_of (no_contact ∷ []) ∷ [])) ≡ of_fields name.entity (absent ∷ t' "n" ∷ absent ∷ absent ∷ [])
unfolding reading_on_literals
entity_lists = refl

abbrev metadata_of : Tree → Tree → Tree
metadata_of a s = of_fields name.metadata (absent ∷ absent ∷ a ∷ absent ∷ absent ∷ s ∷ absent ∷ absent ∷ [])

-- The list of the authors and the metadata's supplier stay.
metadata_stays : (bare (metadata_of (list_of (no_contact ∷ [])) no_entity) ≡ metadata_of (list_of []) no_entity)
    × (spelled (metadata_of (list_of (no_contact ∷ [])) no_entity) V1_5 (codes "metadata") (kind.a_record name.metadata) ≡ tag "metadata" (tag "authors" no_nodes ⊳ el "supplier" (at "bom-ref" "r" ∷ []) no_nodes ⊳ no_nodes))
unfolding reading_on_literals
metadata_stays = (refl, refl)

-- ---- what versions keep

-- Before 1.5 a flow in data is its classification; by itself it stays.
flows_kept : (keep V1_4 (list_of (flow_tree ∷ class_tree ∷ [])) kind.a_data ≡ list_of (class_tree ∷ class_tree ∷ []))
    × (keep V1_3 flow_tree (kind.a_record name.service_data) ≡ flow_tree)
    × (keep V1_5 (list_of (flow_tree ∷ [])) kind.a_data ≡ list_of (flow_tree ∷ []))
unfolding reading_on_literals
flows_kept = (refl, refl, refl)

abbrev composition_of : Tree → Tree → Tree → Tree
composition_of r v s = of_fields name.composition (r ∷ t' "a" ∷ absent ∷ absent ∷ v ∷ s ∷ [])

later_rows : (keep V1_4 (composition_of (t' "r") (list_of []) signer_tree) (kind.a_record name.composition) ≡ composition_of absent absent signer_tree)
    × (keep V1_3 (composition_of (t' "r") (list_of []) signer_tree) (kind.a_record name.composition) ≡ composition_of absent absent absent)
    × (jspell (composition_of (t' "r") (list_of []) signer_tree) V1_3 (kind.a_record name.composition) ≡ obj ("aggregate" ↪ str "a" ⨟ no_members))
unfolding reading_on_literals
later_rows = (refl, refl, refl)

-- A component in a pedigree needs a version in 1.3.
pedigree_fits : (fits V1_3 (of_fields name.pedigree (absent ∷ absent ∷ list_of (small_tree ∷ []) ∷ absent ∷ absent ∷ absent ∷ [])) (kind.a_record name.pedigree) ≡ false)
    × (fits V1_4 (of_fields name.pedigree (absent ∷ absent ∷ list_of (small_tree ∷ []) ∷ absent ∷ absent ∷ absent ∷ [])) (kind.a_record name.pedigree) ≡ true)
unfolding reading_on_literals
pedigree_fits = (refl, refl)

-- ---- which names a version knows

known_of_license : (known_names V1_5 (rows name.license) ≡ codes "bom-ref" ∷ codes "bomRef" ∷ codes "id" ∷ codes "name" ∷ codes "text" ∷ codes "url" ∷ codes "properties" ∷ [])
    × (known_names V1_4 (rows name.license) ≡ codes "id" ∷ codes "name" ∷ codes "text" ∷ codes "url" ∷ [])
unfolding reading_on_literals
known_of_license = (refl, refl)

known_of_flow : known_names V1_5 (rows name.service_data) ≡ codes "name" ∷ codes "description" ∷ codes "flow" ∷ codes "classification" ∷ []
unfolding reading_on_literals
known_of_flow = refl
