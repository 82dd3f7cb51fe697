-- What the readers of sources of events answer.
use Rattle.std.specs.Prelude.{◌≡◌, ℕ, List, Option, Result, Ok, Err}
use Rattle.cdx_events.specs.declared.event.XmlEvent.{XmlEvent}
use Rattle.cdx_events.specs.declared.events.Events.{Events}
use Rattle.cdx_events.specs.declared.gathering.GatherError.{GatherError}
use Rattle.cdx_events.specs.declared.gathering.GatherError.TheVariants as gathering
use Rattle.cdx_events.specs.Gather.{Gathers}
use Rattle.cdx_models.specs.declared.bom.SpecVersion.{SpecVersion}
use Rattle.cdx_models.specs.declared.errors.ReadKind.TheVariants as kinds
use Rattle.cdx_models.specs.declared.errors.XmlReadError.{XmlReadError}
use Rattle.cdx_models.specs.declared.errors.XmlReadError.TheVariants.{ElementReadError, Memory}
use Rattle.cdx_models.specs.Trees.{Tree}
use Rattle.cdx_push_reader.specs.Documents.{ReadsDocument}

-- Why events could not be gathered, with how many were taken, or where they break.
abbrev pub gathering_error : GatherError → XmlReadError
gathering_error (gathering.Fault taken) = ElementReadError kinds.Fault taken
gathering_error (gathering.Unbalanced place) = ElementReadError kinds.Unbalanced place
gathering_error (gathering.Budget taken) = ElementReadError kinds.Budget taken
gathering_error (gathering.Memory e) = Memory e

abbrev pub ReadsGathered : {X : Type 0} → (X → Tree) → Result Events GatherError → SpecVersion → Result X XmlReadError → Type 0
ReadsGathered tree (Ok events) v result = ReadsDocument tree events.list v result
ReadsGathered tree (Err e) v result = result ≡ Err (gathering_error e)

-- The events of a source are gathered, and then read.
abbrev pub ReadsSource : {X : Type 0} → (X → Tree) → ℕ → Option (List XmlEvent) → Option (List XmlEvent) → ℕ → ℕ → SpecVersion → Result X XmlReadError → Type 0
ReadsSource tree budget old new before now v result = (gathered : Result Events GatherError) × Gathers budget old new before now gathered × ReadsGathered tree gathered v result
