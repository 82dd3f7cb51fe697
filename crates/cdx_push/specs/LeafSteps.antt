-- The answers of the machine of a kind.
use Rattle.std.specs.Prelude.{◌≡◌, Option, Some, None, Result, Ok, Err}
use Rattle.cdx_models.specs.declared.errors.XmlReadError.{XmlReadError}
use Rattle.cdx_models.specs.declared.errors.XmlReadError.TheVariants.{Memory}
use Rattle.cdx_push.specs.declared.kinds.LeafKind.{LeafKind}
use Rattle.cdx_push.specs.declared.kinds.LeafValue.{LeafValue}
use Rattle.cdx_push.specs.declared.kinds.LeafStep.{LeafStep}
use Rattle.cdx_push.specs.declared.kinds.LeafStep.TheVariants.{More, Done}
use Rattle.cdx_push.specs.Leaf.{value_kind}

-- A value is of the kind.
abbrev pub IsOfKind : LeafKind → LeafStep → Type 0
IsOfKind k More = Unit {0}
IsOfKind k (Done x) = value_kind x ≡ k

abbrev pub as_step : LeafStep → Option LeafValue
as_step More = None
as_step (Done x) = Some x

abbrev pub step_or_fault : Result LeafStep XmlReadError → Result (Option LeafValue) XmlReadError
step_or_fault (Ok s) = Ok (as_step s)
step_or_fault (Err e) = Err e

abbrev pub IsMore : Result LeafStep XmlReadError → Type 0
IsMore (Ok More) = Unit {0}
IsMore (Ok (Done x)) = ⊥
IsMore (Err e) = ⊥

-- Memory was lacking.
abbrev pub IsMemory : Result LeafStep XmlReadError → Type 0
IsMemory (Err (Memory m)) = Unit {0}
IsMemory r = ⊥
