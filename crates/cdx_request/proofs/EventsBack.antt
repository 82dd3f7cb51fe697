-- Events that are written as JSON values are read back.
use Rattle.std.proofs.Common.{◌≡◌, ℕ, List, [], ◌∷◌, map, Option, Some, None, refl}
use Rattle.serde_json.specs.Data.{Data}
use Rattle.serde_json.specs.View.{items_of}
use Rattle.cdx_events.specs.declared.name.OwnedAttribute.{OwnedAttribute}
use Rattle.cdx_events.specs.declared.event.XmlEvent.{XmlEvent}
use Rattle.cdx_events.specs.declared.event.XmlEvent.TheVariants.{StartDocument, EndDocument, StartElement, EndElement, Characters, CData}
use Rattle.cdx_request.specs.Parts.{all_in}
use Rattle.cdx_request.specs.EventValues.{attribute_value, event_value}
use Rattle.cdx_request.specs.EventReading.{attribute_meant, event_of}
use Rattle.cdx_request.specs.Served.{EventsBack}

-- items that are each read back
pub all_back : {A : Type 0} (shown : A → Data) (read : Data → Option A) → ((x : A) → read (shown x) ≡ Some x) → (xs : List A) → all_in read (items_of (map shown xs)) ≡ Some xs
all_back shown read back [] = refl
all_back shown read back (x ∷ xs) = rw (back x, all_back shown read back xs) refl

attribute_back : (a : OwnedAttribute) → attribute_meant (attribute_value a) ≡ Some a
attribute_back a = by a.name.namespace a.name.prefix
  where
    by : (u p : Option (List ℕ)) → attribute_meant (attribute_value (record { name = record { local_name = a.name.local_name; namespace = u; prefix = p }; value = a.value })) ≡ Some (record { name = record { local_name = a.name.local_name; namespace = u; prefix = p }; value = a.value })
    by None None = refl
    by None (Some p) = refl
    by (Some u) None = refl
    by (Some u) (Some p) = refl

end_back : (l : List ℕ) (u p : Option (List ℕ)) → event_of (event_value (EndElement (record { local_name = l; namespace = u; prefix = p }))) ≡ Some (EndElement (record { local_name = l; namespace = u; prefix = p }))
end_back l None None = refl
end_back l None (Some p) = refl
end_back l (Some u) None = refl
end_back l (Some u) (Some p) = refl

start : List ℕ → Option (List ℕ) → Option (List ℕ) → Option (List ℕ) → List OwnedAttribute → XmlEvent
start l u p d as' = StartElement (record { local_name = l; namespace = u; prefix = p }) as' (record { default = d })

start_back : (l : List ℕ) (u p d : Option (List ℕ)) (as' : List OwnedAttribute) → event_of (event_value (start l u p d as')) ≡ Some (start l u p d as')
unfolding start
start_back l None None None [] = refl
start_back l None None (Some d) [] = refl
start_back l None (Some p) None [] = refl
start_back l None (Some p) (Some d) [] = refl
start_back l (Some u) None None [] = refl
start_back l (Some u) None (Some d) [] = refl
start_back l (Some u) (Some p) None [] = refl
start_back l (Some u) (Some p) (Some d) [] = refl
start_back l None None None (a ∷ as') = rw (all_back attribute_value attribute_meant attribute_back (a ∷ as')) refl
start_back l None None (Some d) (a ∷ as') = rw (all_back attribute_value attribute_meant attribute_back (a ∷ as')) refl
start_back l None (Some p) None (a ∷ as') = rw (all_back attribute_value attribute_meant attribute_back (a ∷ as')) refl
start_back l None (Some p) (Some d) (a ∷ as') = rw (all_back attribute_value attribute_meant attribute_back (a ∷ as')) refl
start_back l (Some u) None None (a ∷ as') = rw (all_back attribute_value attribute_meant attribute_back (a ∷ as')) refl
start_back l (Some u) None (Some d) (a ∷ as') = rw (all_back attribute_value attribute_meant attribute_back (a ∷ as')) refl
start_back l (Some u) (Some p) None (a ∷ as') = rw (all_back attribute_value attribute_meant attribute_back (a ∷ as')) refl
start_back l (Some u) (Some p) (Some d) (a ∷ as') = rw (all_back attribute_value attribute_meant attribute_back (a ∷ as')) refl

event_back : (e : XmlEvent) → event_of (event_value e) ≡ Some e
unfolding start
event_back StartDocument = refl
event_back EndDocument = refl
event_back (StartElement n as' s) = start_back n.local_name n.namespace n.prefix s.default as'
event_back (EndElement n) = end_back n.local_name n.namespace n.prefix
event_back (Characters t) = refl
event_back (CData t) = refl

pub events_back : EventsBack
events_back es = all_back event_value event_of event_back es
