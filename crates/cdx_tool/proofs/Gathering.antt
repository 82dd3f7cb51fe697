-- The items of an array that are read as events one after another, and what is made of the bill.
use Rattle.std.proofs.Common.{◌≡◌, ℕ, ◌+◌, List, [], ◌∷◌, ◌++◌, length, Option, Some, None, option_map, Result, Ok, Err, refl, ap, ◌∙◌, append_assoc, length-append, arith}
use Rattle.serde_json.specs.declared.value.Value.{Value}
use Rattle.serde_json.specs.View.{view, items_view}
use Rattle.cdx_events.specs.declared.event.XmlEvent.{XmlEvent}
use Rattle.cdx_events.specs.Nodes.{Node, document, IsBalanced}
use Rattle.cdx_models.specs.declared.bom.SpecVersion.{SpecVersion}
use Rattle.cdx_models.specs.declared.errors.XmlReadError.{XmlReadError}
use Rattle.cdx_models.specs.declared.errors.XmlReadError.TheVariants.{ElementReadError, UnexpectedElementReadError, RequiredDataMissing, RequiredAttributeMissing, InvalidParseError, InvalidNamespaceError, TooDeep, Memory}
use Rattle.cdx_models.specs.Trees.{Tree}
use Rattle.cdx_schema.specs.Roads.{from_xml, of_xml}
use Rattle.cdx_schema.specs.XmlReading.{xml_denotes}
use Rattle.cdx_push_reader.specs.Gathered.{ReadsList}
use Rattle.cdx_bom.specs.declared.bom.Bom.{Bom}
use Rattle.cdx_bom.specs.declared.push.gathering.GatheringReader.{GatheringReader}
use Rattle.cdx_bom.specs.Trees.{bom_tree}
use Rattle.cdx_request.specs.Breaks.{BreaksLaw}
use Rattle.cdx_request.specs.EventReading.{event_of}
use Rattle.cdx_request.specs.Parts.{◌>>=◌, all_in}
use Rattle.cdx_request.specs.Requests.{sent_events}
use Rattle.cdx_tool.specs.Asks.{WhyNoBill, bill_of, billed, inquiring, bill_sent, IsWhyNoBill, HasTaken, no_bill_of}
use Rattle.cdx_tool.proofs.Reading.{balanced_is, broken_is}

abbrev events_among : List Value → Option (List XmlEvent)
events_among values = all_in event_of (items_view values)

-- The reader has taken the events of the values before the rest.
pub record IsGathering (all rest : List Value) (reader : GatheringReader) (count : ℕ) : Type 0 where
  pub events : List XmlEvent
  pub so_far : option_map (λ more. events ++ more) (events_among rest) ≡ events_among all
  pub taken : HasTaken reader events
  pub count_is : count ≡ length events

module _ (all rest : List Value) (value : Value) (reader : GatheringReader) (count : ℕ) (g : IsGathering all (value ∷ rest) reader count) where
  -- one event more
  pub goes_on : (next : GatheringReader) → (e : XmlEvent) × (event_of (view value) ≡ Some e) × HasTaken next (g.events ++ e ∷ []) → IsGathering all rest next (count + 1)
  goes_on next (e, is, taken) = record {
    events = g.events ++ e ∷ [];
    so_far = more (event_of (view value)) (events_among rest) is ∙ g.so_far;
    taken = taken;
    count_is = omega (arith, length-append g.events (e ∷ []), g.count_is);
  }
    where
      more : (o : Option XmlEvent) (os : Option (List XmlEvent)) → o ≡ Some e → option_map (λ xs. (g.events ++ e ∷ []) ++ xs) os ≡ option_map (λ xs. g.events ++ xs) (o >>= λ x. (os >>= λ xs. Some (x ∷ xs)))
      more o None is = rw is refl
      more o (Some xs) is = rw is (ap Some (append_assoc g.events (e ∷ []) xs))

-- ---- the bill

abbrev bill_among : Option (List XmlEvent) → SpecVersion → Result Tree WhyNoBill
bill_among o v = bill_sent (option_map (λ es. sent_events es) o) v

module _ (o : Option (List XmlEvent)) (events : List XmlEvent) (v : SpecVersion) (are : o ≡ Some events) where
  -- balanced events are asked of what they denote
  denoted : (denoted : Result Tree XmlReadError) → IsBalanced events → ((root : Node) → events ≡ document root → xml_denotes root v ≡ denoted) → bill_among o v ≡ billed (from_xml denoted)
  denoted d b is =
      let r = balanced_is events events refl b in
      ap (λ o. bill_among o v) are ∙ (ap (λ x. bill_of (inquiring v x)) r.1 ∙ ap (λ y. billed (from_xml y)) (is r.0 r.2))

  pub bill_read : (bill : Bom) → ReadsList bom_tree events v (Ok bill) → bill_among o v ≡ Ok (bom_tree bill)
  bill_read bill (b, is) = denoted (Ok (bom_tree bill)) b is

  pub bill_lacks : (e : XmlReadError) → BreaksLaw → ReadsList bom_tree events v (Err e) → IsWhyNoBill (bill_among o v) (no_bill_of e)
  bill_lacks (ElementReadError kind place) law (k, broken) = ap (λ o. bill_among o v) are ∙ ap (λ x. bill_of (inquiring v x)) (broken_is events place law broken)
  bill_lacks (Memory m) law r = tt
  bill_lacks (UnexpectedElementReadError p el k) law (b, is) = (of_xml (UnexpectedElementReadError p el k), refl, denoted (Err (UnexpectedElementReadError p el k)) b is)
  bill_lacks (RequiredDataMissing p el k) law (b, is) = (of_xml (RequiredDataMissing p el k), refl, denoted (Err (RequiredDataMissing p el k)) b is)
  bill_lacks (RequiredAttributeMissing p el k) law (b, is) = (of_xml (RequiredAttributeMissing p el k), refl, denoted (Err (RequiredAttributeMissing p el k)) b is)
  bill_lacks (InvalidParseError p el k t) law (b, is) = (of_xml (InvalidParseError p el k t), refl, denoted (Err (InvalidParseError p el k t)) b is)
  bill_lacks (InvalidNamespaceError x y) law (b, is) = (of_xml (InvalidNamespaceError x y), refl, denoted (Err (InvalidNamespaceError x y)) b is)
  bill_lacks (TooDeep p) law (b, is) = (of_xml (TooDeep p), refl, denoted (Err (TooDeep p)) b is)
