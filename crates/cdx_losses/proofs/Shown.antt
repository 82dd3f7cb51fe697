-- How worked rows of losses are written.
use Prim.Native.String.{String}
use Rattle.std.specs.Prelude.{ℕ, List, ◌∷◌, Bool, false, ◌&&◌, is_some, codes, map, Result, Ok, Err, Option, Some, None, option_map, option_and_then, ⊤}
use Rattle.std.specs.Fmt.{digits}
use Rattle.std.specs.Str.{chars, is_utf8}
use lib.Utf8.{encode}
use Rattle.std.specs.List.{list_all}
use Rattle.cdx_events.specs.Nodes.{Node}
use Rattle.serde_json.specs.Read.{read}
use Rattle.serde_json.specs.Written.{compact_text}
use Rattle.cdx_models.specs.declared.bom.SpecVersion.{SpecVersion}
use Rattle.cdx_models.specs.Trees.{Tree}
use Rattle.cdx_models.specs.Equal.{equal}
use Rattle.cdx_schema.specs.Kinds.{a_bill}
use Rattle.cdx_schema.specs.JsonReading.{json_denotes}
use Rattle.cdx_schema.specs.XmlReading.{xml_denotes}
use Rattle.cdx_schema.specs.Trips.{in_json, in_xml, Hop, settled, after_road, last_of}
use Rattle.cdx_ways.specs.Ways.{found}
use Rattle.cdx_losses.specs.Losses.{lost, taken, struck, struck_in}
use Rattle.cdx_losses.specs.Laws.{are_apart}
use Rattle.cdx_losses.specs.Answers.{losses_answer}

abbrev pub js : SpecVersion → Hop
js v = record { form = in_json; version = v }

abbrev pub xs : SpecVersion → Hop
xs v = record { form = in_xml; version = v }

abbrev pub good : {A F : Type 0} → Result A F → Option A
good (Ok x) = Some x
good (Err e) = None

-- the bill of a JSON text
abbrev pub bill_of : String → SpecVersion → Option Tree
bill_of s v = option_and_then (λ d. good (json_denotes d v)) (read (codes s))

-- what a report of losses answers, as text
abbrev pub report : String → SpecVersion → List Hop → Option (List ℕ)
report s v hops = option_map (λ b. compact_text (losses_answer (taken b hops))) (bill_of s v)

abbrev pub says : String → Option (List ℕ)
says s = Some (codes s)

-- the bill of an XML root
abbrev pub xml_bill : Node → SpecVersion → Option Tree
xml_bill x v = good (xml_denotes x v)

abbrev pub report_of : Option Tree → List Hop → Option (List ℕ)
report_of o hops = option_map (λ b. compact_text (losses_answer (taken b hops))) o

abbrev pub holds : Option Tree → (Tree → Bool) → Bool
holds None f = false
holds (Some b) f = f b

-- Whether a bill, less what a road takes, is the same as after it.
abbrev pub are_struck_well : Hop → List Hop → Option Tree → Bool
are_struck_well h hs o = holds o (λ b. equal (settled (struck b (taken b (h ∷ hs)) (last_of h.version hs)) a_bill) (settled (after_road b h hs) a_bill))

-- Whether each entry leads to something, and none lies below another.
abbrev pub are_found : List Hop → Option Tree → Bool
are_found hops o = holds o (λ b. list_all (λ x. is_some (found b a_bill x.0)) (taken b hops) && are_apart (map (λ x. x.0) (taken b hops)))

unfoldable pub on_reports : ⊤
unfolding lost struck_in found digits is_utf8 chars encode
on_reports = tt
