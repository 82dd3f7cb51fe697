-- Elements that hold one text at most.
use Rattle.std.specs.Prelude.{◌≡◌, ℕ, suc, ◌+◌, ◌⊎◌, List, Bool, true, false, Option, Some, None, Result, Ok, Err}
use Rattle.cdx_events.specs.declared.name.OwnedName.{OwnedName}
use Rattle.cdx_events.specs.declared.name.OwnedAttribute.{OwnedAttribute}
use Rattle.cdx_events.specs.declared.name.Namespace.{Namespace}
use Rattle.cdx_events.specs.declared.event.XmlEvent.{XmlEvent}
use Rattle.cdx_events.specs.declared.event.XmlEvent.TheVariants.{StartDocument, EndDocument, StartElement, EndElement, Characters, CData}
use Rattle.cdx_events.specs.Event.{event_kind}
use Rattle.cdx_events.specs.Nodes.{characters, cdata, element, Nodes, no_nodes}
use Rattle.cdx_models.specs.declared.bom.SpecVersion.{SpecVersion}
use Rattle.cdx_models.specs.declared.errors.XmlReadError.{XmlReadError}
use Rattle.cdx_models.specs.declared.errors.XmlReadError.TheVariants.{Memory}
use Rattle.cdx_models.specs.Trees.{Tree, Trees}
use Rattle.cdx_schema.specs.Depth.{Depth}
use Rattle.cdx_schema.specs.Faults.{unexpected}
use Rattle.cdx_schema.specs.Kinds.{Kind}
use Rattle.cdx_schema.specs.Locality.{fault_place}
use Rattle.cdx_schema.specs.Nodes.{places_of}
use Rattle.cdx_schema.specs.Results.{◌>>=◌}
use Rattle.cdx_schema.specs.XmlReading.{xread}
use Rattle.cdx_leaf.specs.Fault.{Refused}
use Rattle.cdx_leaf.specs.Tags.{text_or_none}
use Rattle.cdx_schema.specs.XmlSpelling.{lone}
use Rattle.cdx_machine.specs.Begun.{Begun, innermost, around}

-- What a kind's start begins, by the element's name, its attributes, the version and the start's place.
abbrev pub First : Type 0
First = List ℕ → List OwnedAttribute → SpecVersion → ℕ → Result Trees XmlReadError

-- What it comes to at the element's end, by the element's name, the end's place, what was begun and the text, where there is one.
abbrev pub TextLast : Type 0
TextLast = List ℕ → ℕ → Trees → Option (List ℕ) → Result Tree XmlReadError

-- The kind is what the attributes begin, and then one text at most.
pub record IsContent {C : Type 0} (kind : Kind) (first : First) (last : TextLast) (start : C → Trees) : Type 0 where
  pub begun : (c : C) (n : OwnedName) (a : List OwnedAttribute) (s : Namespace) (xs : Nodes) (v : SpecVersion) (p : ℕ) (d : Depth) → first n.local_name a v p ≡ Ok (start c)
      → xread (element n a s xs) v kind p d ≡ (text_or_none xs n.local_name (suc p) >>= λ o. last n.local_name (suc (p + places_of xs)) (start c) o)
  pub fails_at_start : (n : OwnedName) (a : List OwnedAttribute) (s : Namespace) (xs : Nodes) (v : SpecVersion) (p : ℕ) (d : Depth) (f : XmlReadError) → first n.local_name a v p ≡ Err f → xread (element n a s xs) v kind p d ≡ Err f
  pub first_place : (el : List ℕ) (a : List OwnedAttribute) (v : SpecVersion) (p : ℕ) (f : XmlReadError) → first el a v p ≡ Err f → fault_place f ≡ p
  pub last_place : (el : List ℕ) (q : ℕ) (c : C) (o : Option (List ℕ)) (f : XmlReadError) → last el q (start c) o ≡ Err f → fault_place f ≡ q

-- The nodes are the text that was heard, where one was.
abbrev pub AreText : Option (List ℕ) → Nodes → Type 0
AreText None xs = xs ≡ no_nodes
AreText (Some t) xs = (xs ≡ lone (characters t)) ⊎ (xs ≡ lone (cdata t))

-- What was begun, and the text so far.
abbrev pub content_holds : {C : Type 0} → First → (C → Trees) → List ℕ → C → Option (List ℕ) → SpecVersion → ℕ → Begun → Type 0
content_holds first start name c text v p (innermost n a s xs) = (name ≡ n.local_name) × (first n.local_name a v p ≡ Ok (start c)) × AreText text xs
content_holds first start name c text v p (around n a s xs o) = ⊥

-- a text where none was heard yet
abbrev pub TakesNew : Option (List ℕ) → Option (List ℕ) → List ℕ → ℕ → XmlEvent → List ℕ → Result Bool XmlReadError → Type 0
TakesNew None new el place event t (Ok b) = (b ≡ false) × (new ≡ Some t)
TakesNew None new el place event t (Err (Memory m)) = Unit {0}
TakesNew None new el place event t (Err e) = ⊥
TakesNew (Some u) new el place event t result = Refused result (unexpected place el (event_kind event))

-- One event in an element that holds one text at most: whether it is the end.
abbrev pub TakesText : Option (List ℕ) → Option (List ℕ) → List ℕ → ℕ → XmlEvent → Result Bool XmlReadError → Type 0
TakesText old new el place StartDocument result = Refused result (unexpected place el (event_kind StartDocument))
TakesText old new el place EndDocument result = Refused result (unexpected place el (event_kind EndDocument))
TakesText old new el place (StartElement n a s) result = Refused result (unexpected place el (event_kind (StartElement n a s)))
TakesText old new el place (EndElement n) result = (result ≡ Ok true) × (new ≡ old)
TakesText old new el place (Characters t) result = TakesNew old new el place (Characters t) t result
TakesText old new el place (CData t) result = TakesNew old new el place (CData t) t result
