-- What gathering takes from a source, and what it answers.
use Rattle.std.specs.Prelude.{◌≡◌, ℕ, ◌<◌, ◌≤◌, Bool, true, false, cond, List, [], ◌∷◌, length, take, Option, IfSome, Result, Ok, Err, ◌||◌}
use Rattle.cdx_events.specs.declared.event.XmlEvent.{XmlEvent}
use Rattle.cdx_events.specs.declared.event.XmlEvent.TheVariants.{EndDocument}
use Rattle.cdx_events.specs.declared.events.Events.{Events}
use Rattle.cdx_events.specs.declared.events.EventsError.{EventsError}
use Rattle.cdx_events.specs.declared.events.EventsError.TheVariants as events_errors
use Rattle.cdx_events.specs.declared.gathering.GatherError.{GatherError}
use Rattle.cdx_events.specs.declared.gathering.GatherError.TheVariants.{Fault, Unbalanced, Budget, Memory}
use Rattle.cdx_events.specs.Causes.{Rose}
use Rattle.cdx_events.specs.Nodes.{IsBalanced, IsBroken}
use Rattle.cdx_events.specs.Told.{Loses}

abbrev pub is_end : XmlEvent → Bool
is_end EndDocument = true
is_end event = false

-- a document end is among the events
abbrev pub has_end : List XmlEvent → Bool
has_end [] = false
has_end (event ∷ events) = is_end event || has_end events

-- the events through the first document end
abbrev pub through_end : List XmlEvent → List XmlEvent
through_end [] = []
through_end (event ∷ events) = event ∷ cond (is_end event) [] (through_end events)

-- the events cut after their first document end or after so many of them, whichever comes first
abbrev pub cut : ℕ → List XmlEvent → List XmlEvent
cut budget events = take budget (through_end events)

-- `budget` events were taken, and none of them is a document end
pub record IsSpent (budget : ℕ) (taken : List XmlEvent) : Type 0 where
  pub all : length taken ≡ budget
  pub no_end : has_end taken ≡ false

-- Taking stopped of itself: nothing failed, and what was taken is what was left, cut.
pub record Stops (budget : ℕ) (left : Option (List XmlEvent)) (taken : List XmlEvent) (before now : ℕ) : Type 0 where
  pub sound : now ≡ before
  pub whole : IfSome left (λ events. taken ≡ cut budget events)

-- A call failed where fewer than `budget` events were taken, and none of them is a document end.
pub record SourceFails (budget : ℕ) (taken : List XmlEvent) (before now : ℕ) : Type 0 where
  pub rose : Rose before now
  pub early : length taken < budget
  pub no_end : has_end taken ≡ false

-- what is answered for these events, which were taken of those that were left
abbrev pub AnswersGathered : ℕ → Option (List XmlEvent) → List XmlEvent → ℕ → ℕ → Result Events GatherError → Type 0
AnswersGathered budget left taken before now (Ok events) = (events.list ≡ taken) × IsBalanced taken × Stops budget left taken before now × (IsSpent budget taken → ⊥)
AnswersGathered budget left taken before now (Err (Fault count)) = (count ≡ length taken) × SourceFails budget taken before now
AnswersGathered budget left taken before now (Err (Unbalanced place)) = IsBroken taken place × Stops budget left taken before now × (IsSpent budget taken → ⊥)
AnswersGathered budget left taken before now (Err (Budget count)) = (count ≡ length taken) × IsSpent budget taken × Stops budget left taken before now
AnswersGathered budget left taken before now (Err (Memory error)) = before ≤ now

-- Events were taken, at most `budget` of them and none after a document end, and the source stands after them.
pub record Gathers (budget : ℕ) (old new : Option (List XmlEvent)) (before now : ℕ) (result : Result Events GatherError) : Type 0 where
  pub taken : List XmlEvent
  pub after : Loses old new taken
  pub within : cut budget taken ≡ taken
  pub answer : AnswersGathered budget old taken before now result

-- the same of the list that is taken before it is seen whether it is balanced
abbrev pub AnswersList : ℕ → Option (List XmlEvent) → List XmlEvent → ℕ → ℕ → Result (List XmlEvent) GatherError → Type 0
AnswersList budget left taken before now (Ok list) = (list ≡ taken) × Stops budget left taken before now × (IsSpent budget taken → ⊥)
AnswersList budget left taken before now (Err (Fault count)) = (count ≡ length taken) × SourceFails budget taken before now
AnswersList budget left taken before now (Err (Unbalanced place)) = ⊥
AnswersList budget left taken before now (Err (Budget count)) = (count ≡ length taken) × IsSpent budget taken × Stops budget left taken before now
AnswersList budget left taken before now (Err (Memory error)) = before ≤ now

pub record TakesEvents (budget : ℕ) (old new : Option (List XmlEvent)) (before now : ℕ) (result : Result (List XmlEvent) GatherError) : Type 0 where
  pub taken : List XmlEvent
  pub after : Loses old new taken
  pub within : cut budget taken ≡ taken
  pub answer : AnswersList budget old taken before now result

-- a refused list is a refused gathering
abbrev pub refused_gathering : EventsError → GatherError
refused_gathering (events_errors.Unbalanced place) = Unbalanced place
refused_gathering (events_errors.Memory error) = Memory error
