-- What a writer appends.
use Rattle.std.specs.Prelude.{◌≡◌, ℕ, List, [], ◌∷◌, ◌++◌, None, Option, Some, Result, Ok, Err}
use Rattle.std.specs.List.{flat_map}
use Rattle.cdx_events.specs.declared.name.OwnedAttribute.{OwnedAttribute}
use Rattle.cdx_events.specs.declared.event.XmlEvent.{XmlEvent}
use Rattle.cdx_events.specs.declared.event.XmlEvent.TheVariants.{StartElement, EndElement, Characters}
use Rattle.cdx_events.specs.Name.{local}
use Rattle.cdx_models.specs.declared.errors.XmlWriteError.{XmlWriteError}
use Rattle.cdx_models.specs.declared.errors.XmlWriteError.TheVariants.{XmlElementWriteError, BomError, Memory}

-- A prefix of the spelling was appended.
pub record Partly (old new spelling : List XmlEvent) : Type 0 where
  pub part : List XmlEvent
  pub rest : List XmlEvent
  pub new_is : new ≡ old ++ part
  pub spelling_is : spelling ≡ part ++ rest

-- The spelling was appended; where memory ran out, a prefix of it. There is no other refusal.
abbrev pub Appends : List XmlEvent → List XmlEvent → List XmlEvent → Result (Unit {0}) XmlWriteError → Type 0
Appends old new spelling (Ok u) = new ≡ old ++ spelling
Appends old new spelling (Err (Memory e)) = Partly old new spelling
Appends old new spelling (Err (BomError e)) = ⊥
Appends old new spelling (Err (XmlElementWriteError put)) = ⊥

abbrev pub opening : List ℕ → List OwnedAttribute → XmlEvent
opening tag attributes = StartElement (local tag) attributes (record { default = None })

abbrev pub start_tag : List ℕ → XmlEvent
start_tag tag = opening tag []

abbrev pub end_tag : List ℕ → XmlEvent
end_tag tag = EndElement (local tag)

-- an element that holds a text alone, and may hold the empty one
abbrev pub simple_tag : List ℕ → List ℕ → List XmlEvent
simple_tag tag content = start_tag tag ∷ Characters content ∷ end_tag tag ∷ []

abbrev pub simple_option_tag : List ℕ → Option (List ℕ) → List XmlEvent
simple_option_tag tag None = []
simple_option_tag tag (Some content) = simple_tag tag content

-- the spellings of items, one after the other, under a tag
abbrev pub list_tag : {X : Type 0} → List ℕ → (X → List XmlEvent) → List X → List XmlEvent
list_tag tag spells xs = start_tag tag ∷ flat_map spells xs ++ end_tag tag ∷ []
