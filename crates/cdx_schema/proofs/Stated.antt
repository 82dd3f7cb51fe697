-- The laws, proved.
use Rattle.std.specs.Prelude.{◌≡◌, not, ◌||◌, Result, Ok, Err}
use Rattle.std.specs.Str.{IsUtf8}
use Rattle.std.proofs.lemmas.Str.{IsUtf8-nil}
use Rattle.serde_json.specs.View.{view}
use Rattle.cdx_schema.specs.Membership.{AnyText}
use Rattle.cdx_models.specs.declared.errors.XmlReadError.{XmlReadError}
use Rattle.cdx_schema.specs.Faults.{JsonFault}
use Rattle.cdx_schema.specs.JsonReading.{json_denotes}
use Rattle.cdx_schema.specs.XmlReading.{xml_denotes}
use Rattle.cdx_schema.specs.Roads.{json, xml, from_json, from_xml}
use Rattle.cdx_schema.proofs.JsonBack.{err_ok}
use Rattle.cdx_schema.proofs.ReadOf.{ok_same, json_bill}
use Rattle.cdx_schema.proofs.ReadOfXml.{xml_bill}
use mathlib.Core.Path.{ap}
use Rattle.cdx_models.specs.Versions.{is_first}
use Rattle.cdx_models.specs.Trees.{Tree}
use Rattle.cdx_schema.specs.Kinds.{a_bill}
use Rattle.cdx_schema.specs.Depth.{top}
use Rattle.cdx_schema.proofs.Shape.{shape, any_texts, any_node}
use Rattle.cdx_schema.proofs.ViewTexts.{view_texts}
use Rattle.cdx_schema.proofs.EventTexts.{root_texts}
use Rattle.cdx_schema.specs.Keeping.{keep}
use Rattle.cdx_schema.specs.Laws.{ReadsBackJson, ReadsBackXml, KeepsTwice, HasBillShape, IsShallow, BillsHaveShape, StaysBill, StaysFit, StaysShallow, Commutes, SameOfSame, TakesTwice, Nests, DenotesShapes, JsonDenotesBills, XmlDenotesBills, RoadsLead, RoadsJoin, RoadsSettle}
use Rattle.cdx_schema.proofs.XmlLaw.{tripped}
use Rattle.cdx_schema.proofs.SameTrip.{trip_same}
use Rattle.cdx_schema.proofs.BillRead.{reads_json, reads_xml}
use Rattle.cdx_schema.proofs.KeptTwice.{kept_twice}
use Rattle.cdx_schema.proofs.KeptOf.{kept_of, kept_versions, kept_shallow}
use Rattle.cdx_schema.proofs.TrippedOf.{bare_of, bare_versions, bare_shallow}
use Rattle.cdx_schema.proofs.Commute.{bare_kept}
use Rattle.cdx_schema.proofs.Alike.{kept_alike, bare_alike}
use Rattle.cdx_schema.proofs.BareTwice.{bare_twice, bare_thrice}
use Rattle.cdx_schema.proofs.Nesting.{bill_nests}
use Rattle.cdx_schema.proofs.RoadAfter.{roads_lead}
use Rattle.cdx_schema.proofs.RoadJoin.{roads_join}
use Rattle.cdx_schema.proofs.RoadSettle.{roads_settle}

pub json_back : ReadsBackJson
json_back b w is s f = reads_json b w is f s

pub xml_back : ReadsBackXml
xml_back b w is s f = (tripped w (keep w b a_bill) a_bill, reads_xml b w is f s, trip_same w (keep w b a_bill) a_bill)

pub keeps_twice : KeepsTwice
keeps_twice b v w is = kept_twice v w w v b a_bill is

pub bills_shaped : BillsHaveShape
bills_shaped b is = shape IsUtf8 b a_bill is

pub stays_bill : StaysBill
stays_bill b w = ((λ is. (kept_of IsUtf8 w w b a_bill is, bare_of IsUtf8 b a_bill is)), (λ is. (kept_of AnyText w w b a_bill is, bare_of AnyText b a_bill is)))

pub stays_fit : StaysFit
stays_fit b v w is = (ap (λ x. not (is_first v) || x) (kept_versions w w b a_bill is), ap (λ x. not (is_first v) || x) (bare_versions b a_bill is))

pub stays_shallow : StaysShallow
stays_shallow b w s = (kept_shallow w w b a_bill top s, bare_shallow b top s)

pub commutes : Commutes
commutes b w is = bare_kept w w b a_bill is

pub same_of_same : SameOfSame
same_of_same b c w e = (kept_alike w w b c a_bill e, bare_alike b c a_bill e)

pub takes_twice : TakesTwice
takes_twice b is = (bare_twice b a_bill is, bare_thrice b a_bill is)

from_json_was : (r : Result Tree JsonFault) (b : Tree) → from_json r ≡ Ok b → r ≡ Ok b
from_json_was (Ok x) b h = ap Ok (ok_same h)
from_json_was (Err f) b h = absurd (err_ok h)

from_xml_was : (r : Result Tree XmlReadError) (b : Tree) → from_xml r ≡ Ok b → r ≡ Ok b
from_xml_was (Ok x) b h = ap Ok (ok_same h)
from_xml_was (Err f) b h = absurd (err_ok h)

pub denotes_shapes : DenotesShapes
denotes_shapes (json x) v b h = json_bill AnyText x v b (any_texts x) (from_json_was (json_denotes x v) b h)
denotes_shapes (xml x) v b h = xml_bill AnyText tt x v b (any_node x) (from_xml_was (xml_denotes x v) b h)

pub json_denotes_bills : JsonDenotesBills
json_denotes_bills x v b h = json_bill IsUtf8 (view x) v b (view_texts x) h

pub xml_denotes_bills : XmlDenotesBills
xml_denotes_bills events x v b e h = xml_bill IsUtf8 IsUtf8-nil x v b (root_texts events x e) h

pub leads : RoadsLead
leads b x v hops h f = let p : HasBillShape b × IsShallow b = denotes_shapes x v b h in roads_lead b x v hops h p.0 p.1 f

pub nests : Nests
nests = bill_nests

pub join : RoadsJoin
join = roads_join denotes_shapes

pub settle : RoadsSettle
settle = roads_settle denotes_shapes
