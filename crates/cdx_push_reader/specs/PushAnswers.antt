-- What a reader of documents answers.
use Rattle.std.specs.Prelude.{◌≡◌, ◌⊎◌, List, length, Bool, true, false, Option, Some, None, Result, Ok, Err, is_some}
use Rattle.std.specs.declared.alloc.AllocError.{AllocError}
use Rattle.cdx_events.specs.declared.event.XmlEvent.{XmlEvent}
use Rattle.cdx_events.specs.Nodes.{IsBalanced}
use Rattle.cdx_models.specs.declared.bom.SpecVersion.{SpecVersion}
use Rattle.cdx_models.specs.declared.errors.XmlReadError.{XmlReadError}
use Rattle.cdx_models.specs.declared.errors.XmlReadError.TheVariants as errors
use Rattle.cdx_models.specs.Trees.{Tree}
use Rattle.cdx_schema.specs.Locality.{balanced_root}
use Rattle.cdx_schema.specs.XmlReading.{xml_denotes}
use Rattle.cdx_schema.specs.Early.{IsEarly, place_of, unbalanced}
use Rattle.cdx_push_reader.specs.declared.reader.PushError.{PushError}
use Rattle.cdx_push_reader.specs.declared.reader.PushError.TheVariants.{Refused, Memory}
use Rattle.cdx_push_reader.specs.declared.reader.DocumentReader.{DocumentReader}

-- the version that the reader was made for
abbrev pub reader_version : {M X : Type 0} → DocumentReader M X → SpecVersion
reader_version r = r.hearing.version

-- the fault that it has told
abbrev pub fault_of : {M X : Type 0} → DocumentReader M X → Option XmlReadError
fault_of r = r.refused

-- memory has run out
abbrev pub is_spent : {M X : Type 0} → DocumentReader M X → Bool
is_spent r = is_some r.spent

abbrev pub lacks_memory : {A : Type 0} → Result A PushError → Bool
lacks_memory (Ok x) = false
lacks_memory (Err (Refused place)) = false
lacks_memory (Err (Memory e)) = true

-- Refused exactly where the events fed so far have an early fault, with its place. Want of memory may come in place of either.
abbrev pub Feeds : SpecVersion → List XmlEvent → Result (Unit {0}) PushError → Type 0
Feeds v events (Ok u) = IsEarly v events None
Feeds v events (Err (Refused place)) = (f : XmlReadError) × IsEarly v events (Some f) × (place_of f ≡ place)
Feeds v events (Err (Memory e)) = Unit {0}

-- What the reader has told after a piece: nothing where it wasn't refused, and else the fault at that place.
abbrev pub TellsFault : Result (Unit {0}) PushError → Option XmlReadError → Option XmlReadError → Type 0
TellsFault (Ok u) old new = new ≡ None
TellsFault (Err (Refused place)) old new = (f : XmlReadError) × (new ≡ Some f) × (place_of f ≡ place)
TellsFault (Err (Memory e)) old new = new ≡ old

-- What balanced events denote.
pub record IsValueOf {X : Type 0} (tree : X → Tree) (v : SpecVersion) (events : List XmlEvent) (x : X) : Type 0 where
  pub balanced : IsBalanced events
  pub denotes : xml_denotes (balanced_root balanced) v ≡ Ok (tree x)

-- The early fault; or, where there is none and the events aren't balanced, that they are too few.
abbrev pub IsRefusedFor : SpecVersion → List XmlEvent → XmlReadError → Type 0
IsRefusedFor v events f = IsEarly v events (Some f) ⊎ (IsEarly v events None × (IsBalanced events → ⊥) × (f ≡ unbalanced (length events)))

abbrev pub Finishes : {X : Type 0} → (X → Tree) → SpecVersion → List XmlEvent → Result X XmlReadError → Type 0
Finishes tree v events (Ok x) = IsValueOf tree v events x
Finishes tree v events (Err (errors.Memory e)) = Unit {0}
Finishes tree v events (Err f) = IsRefusedFor v events f

abbrev pub is_want : {A : Type 0} → Result A XmlReadError → Bool
is_want (Ok x) = false
is_want (Err (errors.Memory e)) = true
is_want (Err f) = false

-- ---- what becomes of a reader that meets an error

abbrev pub refused_by : XmlReadError → Option XmlReadError → Option XmlReadError
refused_by (errors.Memory e) o = o
refused_by f o = Some f

abbrev pub spent_by : XmlReadError → Option AllocError → Option AllocError
spent_by (errors.Memory e) o = Some e
spent_by f o = o

abbrev pub push_error : XmlReadError → PushError
push_error (errors.Memory e) = Memory e
push_error f = Refused (place_of f)
