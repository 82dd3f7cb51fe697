-- What one event makes of where a reader of documents stands.
use Rattle.std.specs.Prelude.{◌≡◌, ℕ, List, [], ◌∷◌, ◌++◌, length, Result, Ok, Err}
use Rattle.cdx_events.specs.declared.event.XmlEvent.{XmlEvent}
use Rattle.cdx_events.specs.Nodes.{GoesOn}
use Rattle.cdx_models.specs.declared.bom.SpecVersion.{SpecVersion}
use Rattle.cdx_models.specs.declared.errors.XmlReadError.{XmlReadError}
use Rattle.cdx_models.specs.Trees.{bill, Tree}
use Rattle.cdx_schema.specs.Kinds.{a_record}
use Rattle.cdx_machine.specs.Machines.{Holding, YieldsAs}
use Rattle.cdx_push_reader.specs.declared.hearing.ReadingStage.{ReadingStage}
use Rattle.cdx_push_reader.specs.declared.hearing.ReadingStage.TheVariants.{Before, Within, After}
use Rattle.cdx_push_reader.specs.Pushed.{StandsAtStage, Outcome}

-- The events that were heard, of which the next stands at this place and goes on with a document.
pub record CanGoOn {M X : Type 0} (holds : Holding M) (tree : X → Tree) (v : SpecVersion) (stage : ReadingStage M X) (place : ℕ) (event : XmlEvent) : Type 0 where
  pub events : List XmlEvent
  pub stands : StandsAtStage holds tree v stage events
  pub goes : GoesOn (events ++ event ∷ [])
  pub place_is : place ≡ length events

-- From one stage to the next, or a fault.
abbrev pub Moves : {M X A : Type 0} → Holding M → (X → Tree) → SpecVersion → ReadingStage M X → ℕ → XmlEvent → (List XmlEvent → A → Type 0) → Result A XmlReadError → Type 0
Moves holds tree v stage place event gives result =
    (events : List XmlEvent) → StandsAtStage holds tree v stage events → GoesOn (events ++ event ∷ []) → place ≡ length events → Outcome (gives (events ++ event ∷ [])) v (events ++ event ∷ []) result

-- The root has ended: what it is read as stands there, or it has a fault.
abbrev pub Closes : {M X : Type 0} → Holding M → (X → Tree) → M → ℕ → XmlEvent → ReadingStage M X → Result (Unit {0}) XmlReadError → Type 0
Closes holds tree m place event Before (Ok u) = ⊥
Closes holds tree m place event (Within n) (Ok u) = ⊥
Closes holds tree m place event (After x) (Ok u) = YieldsAs holds tree (a_record bill) m place event (Ok x)
Closes {X = X} holds tree m place event stage (Err e) = YieldsAs {X = X} holds tree (a_record bill) m place event (Err e)
