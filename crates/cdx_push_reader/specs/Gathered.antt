-- What is kept of the events of a source, and what they are read as where no more are taken.
use Rattle.std.specs.Prelude.{◌≡◌, ℕ, List, [], ◌∷◌, ◌++◌, length, Some, Result, Ok, Err}
use Rattle.std.specs.declared.alloc.AllocError.{AllocError}
use Rattle.cdx_events.specs.declared.event.XmlEvent.{XmlEvent}
use Rattle.cdx_events.specs.Balance as balances
use Rattle.cdx_events.specs.Nodes.{IsBalanced, IsBroken, GoesOn}
use Rattle.cdx_models.specs.declared.bom.SpecVersion.{SpecVersion}
use Rattle.cdx_models.specs.declared.errors.ReadKind.TheVariants as kinds
use Rattle.cdx_models.specs.declared.errors.XmlReadError.{XmlReadError}
use Rattle.cdx_models.specs.declared.errors.XmlReadError.TheVariants.{ElementReadError, Memory}
use Rattle.cdx_models.specs.Trees.{Tree}
use Rattle.cdx_schema.specs.Early.{IsEarly, unbalanced}
use Rattle.cdx_machine.specs.Machines.{Holding}
use Rattle.cdx_push_reader.specs.declared.gathering.Wrong.{Wrong}
use Rattle.cdx_push_reader.specs.declared.gathering.Wrong.TheVariants.{Nothing, Fault, Imbalance}
use Rattle.cdx_push_reader.specs.declared.gathering.Gathering.{Gathering}
use Rattle.cdx_push_reader.specs.declared.hearing.Hearing.{Hearing}
use Rattle.cdx_push_reader.specs.Pushed.{Hears}
use Rattle.cdx_push_reader.specs.Documents.{ReadsDocument}

-- The event at this place is the first out of balance.
pub record IsOut (place : ℕ) (events : List XmlEvent) : Type 0 where
  pub front : List XmlEvent
  pub event : XmlEvent
  pub rest : List XmlEvent
  pub events_are : events ≡ front ++ event ∷ rest
  pub place_is : place ≡ length front
  pub goes : GoesOn front
  pub breaks : GoesOn (front ++ event ∷ []) → ⊥

-- Where the events are in balance as yet, they were heard, or their fault was.
abbrev pub FoundIn : {M X : Type 0} → Holding M → (X → Tree) → Hearing M X → Wrong → List XmlEvent → Type 0
FoundIn holds tree h Nothing events = GoesOn events × Hears holds tree h events
FoundIn holds tree h (Fault f) events = GoesOn events × balances.heard h.balance events × IsEarly h.version events (Some f)
FoundIn holds tree h (Imbalance place) events = IsOut place events

abbrev pub Gathered : {M X : Type 0} → Holding M → (X → Tree) → Gathering M X → List XmlEvent → Type 0
Gathered holds tree g events = FoundIn holds tree g.hearing g.found events

-- the version that the events are read in
abbrev pub gathering_version : {M X : Type 0} → Gathering M X → SpecVersion
gathering_version g = g.hearing.version

-- what is found by an error of the document
abbrev pub found_by : XmlReadError → Result Wrong AllocError
found_by (Memory e) = Err e
found_by f = Ok (Fault f)

-- Balanced events are read, and others are refused where they break.
pub data Concludes {X : Type 0} (tree : X → Tree) (v : SpecVersion) (events : List XmlEvent) (result : Result X XmlReadError) : Type 0 where
  reads : IsBalanced events → ReadsDocument tree events v result → Concludes tree v events result
  breaks : (place : ℕ) → IsBroken events place → result ≡ Err (unbalanced place) → Concludes tree v events result

-- What a list of events is read as: where it is balanced, the bill that it denotes or its first fault, and else where it
-- breaks.
abbrev pub ReadsList : {X : Type 0} → (X → Tree) → List XmlEvent → SpecVersion → Result X XmlReadError → Type 0
ReadsList tree events v (Err (ElementReadError kind place)) = (kind ≡ kinds.Unbalanced) × IsBroken events place
ReadsList tree events v result = IsBalanced events × ReadsDocument tree events v result
