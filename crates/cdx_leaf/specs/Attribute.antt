-- What is read of attributes.
use Rattle.std.specs.Prelude.{◌≡◌, ℕ, List, Option, Some, None, Result, Ok, Err}
use Rattle.std.specs.Prelude.{if◌then◌else◌}
use Rattle.cdx_models.specs.declared.bom.SpecVersion.{SpecVersion}
use Rattle.cdx_models.specs.Versions.{knows}
use Rattle.cdx_schema.specs.Kinds.{Kind, Row, Member, Need, optional, a_text, attribute}
use Rattle.cdx_models.specs.declared.bom.SpecVersion.TheVariants.{V1_3}
use Rattle.cdx_models.specs.declared.errors.XmlReadError.{XmlReadError}
use Rattle.cdx_events.specs.declared.name.OwnedAttribute.{OwnedAttribute}
use Rattle.cdx_models.specs.Trees.{Name, Trees}
use Rattle.cdx_schema.specs.Table.{rows}
use Rattle.cdx_schema.specs.XmlReading.{attributes_read, in_force}
use Rattle.cdx_leaf.specs.Fault.{FailsAt}

-- there is a value, or the fault is what is denoted
abbrev pub or_fault : {T : Type 0} → Option T → XmlReadError → Result T XmlReadError
or_fault None fault = Err fault
or_fault (Some t) fault = Ok t

-- What was returned, seen by view, is what is denoted, with a reader at this place.
abbrev pub GivesAt : {X T : Type 0} → (X → T) → ℕ → Result T XmlReadError → Result X XmlReadError → Type 0
GivesAt view place denoted (Ok x) = denoted ≡ Ok (view x)
GivesAt view place denoted (Err e) = FailsAt e place denoted

-- something that is there from `since` on
abbrev pub known_since : {A : Type 0} → SpecVersion → SpecVersion → Option A → Option A
known_since since v o = if knows since v then o else None

abbrev pub text_row : List ℕ → Member → Option (List ℕ) → SpecVersion → Need → Row
text_row name j old since need = record { kind = a_text; xml = attribute name; json = j; old_name = old; since = since; need = need }

abbrev pub plain_attribute_row : Kind → List ℕ → Member → Row
plain_attribute_row k name j = record { kind = k; xml = attribute name; json = j; old_name = None; since = V1_3; need = optional }

-- what the attributes of a record's element give, for an element of this name whose start stands at this place
abbrev pub start_read : Name → SpecVersion → List ℕ → List OwnedAttribute → ℕ → Result Trees XmlReadError
start_read name v el attributes place = attributes_read (rows name) (in_force name attributes) v el place
