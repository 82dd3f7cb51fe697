-- Worked rows on whole roads, by computation, with the JSON given as text.
use Prim.Native.String.{String}
use Rattle.std.specs.Prelude.{◌≡◌, refl, List, [], ◌∷◌, codes, Result, Ok, Err, Option, Some, option_map, option_and_then}
use Rattle.serde_json.specs.Read.{read}
use Rattle.serde_json.proofs.OnLiterals.{serde_json_on_literals}
use Rattle.cdx_models.specs.declared.bom.SpecVersion.{SpecVersion}
use Rattle.cdx_models.specs.declared.bom.SpecVersion.TheVariants.{V1_3, V1_4, V1_5}
use Rattle.cdx_schema.specs.Trips.{in_json, in_xml, Form, Hop}
use Rattle.cdx_schema.specs.Roads.{Doc, json, xml, Refusal, version_missing, road}
use Rattle.cdx_schema.proofs.Literals.{◌⊳◌, at, el, tag, txt, leaf, bom, reading_on_literals}
use Rattle.cdx_events.specs.Nodes.{Node, Nodes, no_nodes}

abbrev to : Form → SpecVersion → Hop
to f v = record { form = f; version = v }

abbrev js : SpecVersion → Hop
js v = to in_json v

abbrev xs : SpecVersion → Hop
xs v = to in_xml v

-- a road from a JSON text
abbrev road_from : String → SpecVersion → List Hop → Option (Result (List Doc) Refusal)
road_from s v hs = option_map (λ d. road (json d) v hs) (read (codes s))

-- the documents, each a JSON text or XML
abbrev text_doc : String → Option Doc
text_doc s = option_map json (read (codes s))

abbrev then_doc : Option Doc → Option (List Doc) → Option (List Doc)
then_doc o ds = option_and_then (λ d. option_map (λ rest. d ∷ rest) ds) o

abbrev docs : List (Option Doc) → Option (List Doc)
docs [] = Some []
docs (d ∷ ds) = then_doc d (docs ds)

abbrev gives : List (Option Doc) → Option (Result (List Doc) Refusal)
gives ds = option_map Ok (docs ds)

abbrev an_xml : Node → Option Doc
an_xml x = Some (xml x)

no_hops : road_from "{\"bomFormat\":\"CycloneDX\",\"specVersion\":\"1.5\",\"serialNumber\":\"U\",\"version\":1}" V1_5 [] ≡ Some (Ok [])
unfolding reading_on_literals serde_json_on_literals
no_hops = refl

one_hop : road_from "{\"bomFormat\":\"CycloneDX\",\"specVersion\":\"1.5\",\"serialNumber\":\"U\",\"version\":1}" V1_5 (js V1_4 ∷ [])
    ≡ gives (text_doc "{\"bomFormat\":\"CycloneDX\",\"serialNumber\":\"U\",\"specVersion\":\"1.4\",\"version\":1}" ∷ [])
unfolding reading_on_literals serde_json_on_literals
one_hop = refl

a_tool : road_from "{\"bomFormat\":\"CycloneDX\",\"specVersion\":\"1.5\",\"version\":1,\"serialNumber\":\"U\",\"metadata\":{\"tools\":[{\"name\":\"my_tool\"}]}}" V1_5 (xs V1_5 ∷ js V1_5 ∷ [])
    ≡ gives (an_xml (bom V1_5 (at "serialNumber" "U" ∷ at "version" "1" ∷ []) (tag "metadata" (tag "tools" (tag "tool" (leaf "name" "my_tool" ⊳ no_nodes) ⊳ no_nodes) ⊳ no_nodes) ⊳ no_nodes))
    ∷ text_doc "{\"bomFormat\":\"CycloneDX\",\"specVersion\":\"1.5\",\"version\":1,\"serialNumber\":\"U\",\"metadata\":{\"tools\":[{\"name\":\"my_tool\"}]}}" ∷ [])
unfolding reading_on_literals serde_json_on_literals
a_tool = refl

-- ---- the bill of a build tool

abbrev shop : String
shop = "{\"$schema\":\"http://cyclonedx.org/schema/bom-1.4.schema.json\",\"bomFormat\":\"CycloneDX\",\"specVersion\":\"1.4\",\"serialNumber\":\"U\",\"version\":1,\"metadata\":{\"timestamp\":\"2024-05-01T10:00:00Z\",\"tools\":[{\"vendor\":\"acme\",\"name\":\"scan\",\"version\":\"2.1.0\",\"hashes\":[{\"alg\":\"SHA-256\",\"content\":\"ab12\"}]}],\"component\":{\"type\":\"application\",\"bom-ref\":\"app\",\"name\":\"shop\",\"version\":\"1.0.0\"}},\"components\":[{\"type\":\"library\",\"bom-ref\":\"pkg:cargo/log@0.4.20\",\"name\":\"log\",\"version\":\"0.4.20\",\"scope\":\"required\",\"licenses\":[{\"license\":{\"id\":\"MIT\"}},{\"expression\":\"MIT OR Apache-2.0\"}],\"purl\":\"pkg:cargo/log@0.4.20\",\"externalReferences\":[{\"type\":\"vcs\",\"url\":\"https://example.org/log\"}]}],\"dependencies\":[{\"ref\":\"app\",\"dependsOn\":[\"pkg:cargo/log@0.4.20\"]},{\"ref\":\"pkg:cargo/log@0.4.20\"}],\"vulnerabilities\":[]}"

abbrev shop_again : String
shop_again = "{\"bomFormat\":\"CycloneDX\",\"specVersion\":\"1.4\",\"serialNumber\":\"U\",\"version\":1,\"metadata\":{\"timestamp\":\"2024-05-01T10:00:00Z\",\"tools\":[{\"vendor\":\"acme\",\"name\":\"scan\",\"version\":\"2.1.0\",\"hashes\":[{\"alg\":\"SHA-256\",\"content\":\"ab12\"}]}],\"component\":{\"type\":\"application\",\"bom-ref\":\"app\",\"name\":\"shop\",\"version\":\"1.0.0\"}},\"components\":[{\"type\":\"library\",\"bom-ref\":\"pkg:cargo/log@0.4.20\",\"name\":\"log\",\"version\":\"0.4.20\",\"scope\":\"required\",\"licenses\":[{\"license\":{\"id\":\"MIT\"}},{\"expression\":\"MIT OR Apache-2.0\"}],\"purl\":\"pkg:cargo/log@0.4.20\",\"externalReferences\":[{\"type\":\"vcs\",\"url\":\"https://example.org/log\"}]}],\"dependencies\":[{\"ref\":\"app\",\"dependsOn\":[\"pkg:cargo/log@0.4.20\"]},{\"ref\":\"pkg:cargo/log@0.4.20\"}]}"

abbrev shop_xml : Node
shop_xml = bom V1_4 (at "serialNumber" "U" ∷ at "version" "1" ∷ []) (
    tag "metadata" (
    leaf "timestamp" "2024-05-01T10:00:00Z"
    ⊳ tag "tools" (tag "tool" (leaf "vendor" "acme" ⊳ leaf "name" "scan" ⊳ leaf "version" "2.1.0" ⊳ tag "hashes" (el "hash" (at "alg" "SHA-256" ∷ []) (txt "ab12" ⊳ no_nodes) ⊳ no_nodes) ⊳ no_nodes) ⊳ no_nodes)
    ⊳ el "component" (at "type" "application" ∷ at "bom-ref" "app" ∷ []) (leaf "name" "shop" ⊳ leaf "version" "1.0.0" ⊳ no_nodes)
    ⊳ no_nodes)
    ⊳ tag "components" (
    el "component" (at "type" "library" ∷ at "bom-ref" "pkg:cargo/log@0.4.20" ∷ []) (
    leaf "name" "log" ⊳ leaf "version" "0.4.20" ⊳ leaf "scope" "required"
    ⊳ tag "licenses" (tag "license" (leaf "id" "MIT" ⊳ no_nodes) ⊳ leaf "expression" "MIT OR Apache-2.0" ⊳ no_nodes)
    ⊳ leaf "purl" "pkg:cargo/log@0.4.20"
    ⊳ tag "externalReferences" (el "reference" (at "type" "vcs" ∷ []) (leaf "url" "https://example.org/log" ⊳ no_nodes) ⊳ no_nodes)
    ⊳ no_nodes)
    ⊳ no_nodes)
    ⊳ tag "dependencies" (
    el "dependency" (at "ref" "app" ∷ []) (el "dependency" (at "ref" "pkg:cargo/log@0.4.20" ∷ []) no_nodes ⊳ no_nodes)
    ⊳ el "dependency" (at "ref" "pkg:cargo/log@0.4.20" ∷ []) no_nodes
    ⊳ no_nodes)
    ⊳ no_nodes)

shop_road : road_from shop V1_4 (xs V1_4 ∷ js V1_4 ∷ []) ≡ gives (an_xml shop_xml ∷ text_doc shop_again ∷ [])
unfolding reading_on_literals serde_json_on_literals
shop_road = refl

-- ---- bills of one part

abbrev xml15 : Nodes → Node
xml15 ns = bom V1_5 (at "version" "1" ∷ []) ns

-- a chain in JSON
abbrev chain_bill : String
chain_bill = "{\"bomFormat\":\"CycloneDX\",\"specVersion\":\"1.5\",\"version\":1,\"signature\":{\"chain\":[{\"algorithm\":\"ES256\",\"value\":\"abcdefgh\"},{\"algorithm\":\"HS512\",\"value\":\"1234567890\"}]}}"

chain_in_json : road_from chain_bill V1_5 (js V1_5 ∷ []) ≡ gives (text_doc chain_bill ∷ [])
unfolding reading_on_literals serde_json_on_literals
chain_in_json = refl

array_is_signers : road_from "{\"bomFormat\":\"CycloneDX\",\"specVersion\":\"1.5\",\"version\":1,\"signature\":[{\"algorithm\":\"ES256\",\"value\":\"a\"}]}" V1_5 (js V1_5 ∷ [])
    ≡ gives (text_doc "{\"bomFormat\":\"CycloneDX\",\"specVersion\":\"1.5\",\"version\":1,\"signature\":{\"signers\":[{\"algorithm\":\"ES256\",\"value\":\"a\"}]}}" ∷ [])
unfolding reading_on_literals serde_json_on_literals
array_is_signers = refl

chain_in_xml : road_from chain_bill V1_5 (xs V1_5 ∷ js V1_5 ∷ [])
    ≡ gives (an_xml (xml15 (tag "signature" (tag "chain"
    (tag "chain" (leaf "algorithm" "ES256" ⊳ leaf "value" "abcdefgh" ⊳ no_nodes)
    ⊳ tag "chain" (leaf "algorithm" "HS512" ⊳ leaf "value" "1234567890" ⊳ no_nodes) ⊳ no_nodes) ⊳ no_nodes) ⊳ no_nodes))
    ∷ text_doc chain_bill ∷ [])
unfolding reading_on_literals serde_json_on_literals
chain_in_xml = refl

abbrev signed_component : String
signed_component = "{\"bomFormat\":\"CycloneDX\",\"specVersion\":\"1.5\",\"version\":1,\"components\":[{\"type\":\"library\",\"name\":\"a\",\"signature\":{\"algorithm\":\"XY1\",\"value\":\"v\"}}]}"

abbrev a_component : Nodes → Nodes
a_component ns = tag "components" (el "component" (at "type" "library" ∷ []) ns ⊳ no_nodes) ⊳ no_nodes

component_signature : road_from signed_component V1_5 (xs V1_5 ∷ js V1_5 ∷ [])
    ≡ gives (an_xml (xml15 (a_component (leaf "name" "a" ⊳ tag "signature" (leaf "algorithm" "XY1" ⊳ leaf "value" "v" ⊳ no_nodes) ⊳ no_nodes))) ∷ text_doc signed_component ∷ [])
unfolding reading_on_literals serde_json_on_literals
component_signature = refl

empty_urls : road_from "{\"bomFormat\":\"CycloneDX\",\"specVersion\":\"1.5\",\"version\":1,\"components\":[{\"type\":\"library\",\"name\":\"a\",\"supplier\":{\"url\":[]}}]}" V1_5 (xs V1_5 ∷ xs V1_5 ∷ xs V1_5 ∷ [])
    ≡ gives (an_xml (xml15 (a_component (tag "supplier" no_nodes ⊳ leaf "name" "a" ⊳ no_nodes))) ∷ an_xml (xml15 (a_component (leaf "name" "a" ⊳ no_nodes))) ∷ an_xml (xml15 (a_component (leaf "name" "a" ⊳ no_nodes))) ∷ [])
unfolding reading_on_literals serde_json_on_literals
empty_urls = refl

abbrev empty_tools : String
empty_tools = "{\"bomFormat\":\"CycloneDX\",\"specVersion\":\"1.5\",\"version\":1,\"metadata\":{\"tools\":[]}}"

abbrev empty_tools_xml : SpecVersion → Node
empty_tools_xml v = bom v (at "version" "1" ∷ []) (tag "metadata" (tag "tools" no_nodes ⊳ no_nodes) ⊳ no_nodes)

tools_through_1_5 : road_from empty_tools V1_5 (xs V1_5 ∷ js V1_5 ∷ [])
    ≡ gives (an_xml (empty_tools_xml V1_5) ∷ text_doc "{\"bomFormat\":\"CycloneDX\",\"specVersion\":\"1.5\",\"version\":1,\"metadata\":{\"tools\":{}}}" ∷ [])
unfolding reading_on_literals serde_json_on_literals
tools_through_1_5 = refl

tools_through_1_4 : road_from empty_tools V1_5 (xs V1_4 ∷ js V1_5 ∷ []) ≡ gives (an_xml (empty_tools_xml V1_4) ∷ text_doc empty_tools ∷ [])
unfolding reading_on_literals serde_json_on_literals
tools_through_1_4 = refl

abbrev unversioned : String
unversioned = "{\"bomFormat\":\"CycloneDX\",\"specVersion\":\"1.5\",\"version\":1,\"components\":[{\"type\":\"library\",\"name\":\"a\"}]}"

missing_version : road_from unversioned V1_5 (js V1_4 ∷ js V1_3 ∷ []) ≡ Some (Err version_missing)
unfolding reading_on_literals serde_json_on_literals
missing_version = refl

tool_components : road_from "{\"bomFormat\":\"CycloneDX\",\"specVersion\":\"1.5\",\"version\":1,\"metadata\":{\"tools\":{\"components\":[{\"type\":\"library\",\"name\":\"a\"}]}}}" V1_5 (js V1_3 ∷ js V1_5 ∷ [])
    ≡ gives (text_doc "{\"bomFormat\":\"CycloneDX\",\"specVersion\":\"1.3\",\"version\":1,\"metadata\":{\"tools\":[]}}" ∷ text_doc empty_tools ∷ [])
unfolding reading_on_literals serde_json_on_literals
tool_components = refl

evidence_doc : option_map (λ d. Ok (d ∷ [])) (text_doc "{\"bomFormat\":\"CycloneDX\",\"specVersion\":\"1.5\",\"version\":1,\"components\":[{\"type\":\"library\",\"name\":\"a\",\"evidence\":{\"copyright\":[{\"text\":\"c\"}]}}]}")
    ≡ Some (road (xml (xml15 (a_component (leaf "name" "a" ⊳ tag "evidence" (tag "note" (tag "licenses" (leaf "expression" "X" ⊳ no_nodes) ⊳ no_nodes) ⊳ tag "copyright" (leaf "text" "c" ⊳ no_nodes) ⊳ no_nodes) ⊳ no_nodes)))) V1_5 (js V1_5 ∷ []))
unfolding reading_on_literals serde_json_on_literals
evidence_doc = refl

-- ---- roads from XML

-- the same for XML documents: the documents that come out
abbrev xml_road : Node → SpecVersion → List Hop → Option (Result (List Doc) Refusal)
xml_road x v hs = Some (road (xml x) v hs)

abbrev bill15 : String → Option Doc
bill15 s = text_doc s

abbrev service_doc : SpecVersion → Node
service_doc v = bom v (at "version" "1" ∷ []) (tag "services" (tag "service" (leaf "name" "s" ⊳ tag "data" (
    el "classification" (at "flow" "inbound" ∷ []) (txt "PII" ⊳ no_nodes)
    ⊳ el "dataflow" (at "name" "n" ∷ []) (el "classification" (at "flow" "outbound" ∷ []) (txt "public" ⊳ no_nodes) ⊳ no_nodes)
    ⊳ el "classification" (at "flow" "unknown" ∷ []) (txt "x" ⊳ no_nodes) ⊳ no_nodes) ⊳ no_nodes) ⊳ no_nodes) ⊳ no_nodes)

flows_of_a_service : xml_road (service_doc V1_5) V1_5 (js V1_5 ∷ js V1_4 ∷ [])
    ≡ gives (text_doc "{\"bomFormat\":\"CycloneDX\",\"specVersion\":\"1.5\",\"version\":1,\"services\":[{\"name\":\"s\",\"data\":[{\"classification\":\"public\",\"flow\":\"outbound\",\"name\":\"n\"}]}]}"
    ∷ text_doc "{\"bomFormat\":\"CycloneDX\",\"specVersion\":\"1.4\",\"version\":1,\"services\":[{\"name\":\"s\",\"data\":[{\"classification\":\"public\",\"flow\":\"outbound\"}]}]}" ∷ [])
unfolding reading_on_literals serde_json_on_literals
flows_of_a_service = refl

classes_of_a_service : xml_road (service_doc V1_4) V1_4 (js V1_4 ∷ [])
    ≡ gives (text_doc "{\"bomFormat\":\"CycloneDX\",\"specVersion\":\"1.4\",\"version\":1,\"services\":[{\"name\":\"s\",\"data\":[{\"classification\":\"PII\",\"flow\":\"inbound\"},{\"classification\":\"x\",\"flow\":\"unknown\"}]}]}" ∷ [])
unfolding reading_on_literals serde_json_on_literals
classes_of_a_service = refl

empty_text : xml_road (xml15 (a_component (leaf "name" "a" ⊳ el "swid" (at "tagId" "t" ∷ at "name" "n" ∷ []) (leaf "text" "" ⊳ no_nodes) ⊳ no_nodes))) V1_5 (js V1_5 ∷ [])
    ≡ gives (text_doc "{\"bomFormat\":\"CycloneDX\",\"specVersion\":\"1.5\",\"version\":1,\"components\":[{\"type\":\"library\",\"name\":\"a\",\"swid\":{\"name\":\"n\",\"tagId\":\"t\",\"text\":{\"content\":\"\"}}}]}" ∷ [])
unfolding reading_on_literals serde_json_on_literals
empty_text = refl

-- a flow among the entries makes each entry a dataflow, and a copyright is CData
mixed_data : road_from "{\"bomFormat\":\"CycloneDX\",\"specVersion\":\"1.5\",\"version\":1,\"services\":[{\"name\":\"s\",\"data\":[{\"flow\":\"f\",\"classification\":\"c\"},{\"name\":\"n\",\"flow\":\"g\",\"classification\":\"d\"}]}]}" V1_5 (xs V1_5 ∷ js V1_5 ∷ [])
    ≡ gives (an_xml (xml15 (tag "services" (tag "service" (leaf "name" "s" ⊳ tag "data" (
    tag "dataflow" (el "classification" (at "flow" "f" ∷ []) (txt "c" ⊳ no_nodes) ⊳ no_nodes)
    ⊳ el "dataflow" (at "name" "n" ∷ []) (el "classification" (at "flow" "g" ∷ []) (txt "d" ⊳ no_nodes) ⊳ no_nodes) ⊳ no_nodes) ⊳ no_nodes) ⊳ no_nodes) ⊳ no_nodes))
    ∷ text_doc "{\"bomFormat\":\"CycloneDX\",\"specVersion\":\"1.5\",\"version\":1,\"services\":[{\"name\":\"s\",\"data\":[{\"flow\":\"f\",\"classification\":\"c\"},{\"name\":\"n\",\"flow\":\"g\",\"classification\":\"d\"}]}]}" ∷ [])
unfolding reading_on_literals serde_json_on_literals
mixed_data = refl

-- hollow contacts and entities: authors without a name, a metadata's supplier, an entity's contacts
hollows : road_from "{\"bomFormat\":\"CycloneDX\",\"specVersion\":\"1.5\",\"version\":1,\"metadata\":{\"authors\":[{\"bomRef\":\"r\"}],\"supplier\":{\"contact\":[{}]}}}" V1_5 (xs V1_5 ∷ js V1_5 ∷ [])
    ≡ gives (an_xml (xml15 (tag "metadata" (tag "authors" no_nodes ⊳ tag "supplier" no_nodes ⊳ no_nodes) ⊳ no_nodes))
    ∷ text_doc "{\"bomFormat\":\"CycloneDX\",\"specVersion\":\"1.5\",\"version\":1,\"metadata\":{\"authors\":[],\"supplier\":{}}}" ∷ [])
unfolding reading_on_literals serde_json_on_literals
hollows = refl

component_chain : road_from "{\"bomFormat\":\"CycloneDX\",\"specVersion\":\"1.5\",\"version\":1,\"components\":[{\"type\":\"library\",\"name\":\"a\",\"signature\":{\"chain\":[{\"algorithm\":\"x\",\"value\":\"y\"}]}}]}" V1_5 (xs V1_5 ∷ js V1_5 ∷ [])
    ≡ gives (an_xml (xml15 (a_component (leaf "name" "a" ⊳ tag "signature" (tag "chain" (tag "chain" (leaf "algorithm" "x" ⊳ leaf "value" "y" ⊳ no_nodes) ⊳ no_nodes) ⊳ no_nodes) ⊳ no_nodes)))
    ∷ text_doc "{\"bomFormat\":\"CycloneDX\",\"specVersion\":\"1.5\",\"version\":1,\"components\":[{\"type\":\"library\",\"name\":\"a\",\"signature\":{\"chain\":[{\"algorithm\":\"x\",\"value\":\"y\"}]}}]}" ∷ [])
unfolding reading_on_literals serde_json_on_literals
component_chain = refl
