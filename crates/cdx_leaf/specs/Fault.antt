-- What a reading gives: what is denoted, or the first fault, with the reader at most one past it.
use Rattle.std.specs.Prelude.{◌≡◌, ℕ, ◌+◌, ◌≤◌, Result, Ok, Err}
use Rattle.cdx_models.specs.declared.errors.XmlReadError.{XmlReadError}
use Rattle.cdx_models.specs.declared.errors.XmlReadError.TheVariants.{UnexpectedElementReadError, RequiredDataMissing, InvalidParseError, TooDeep, Memory}

-- A reader at this place is at most one past the fault's.
abbrev pub within : ℕ → XmlReadError → Type 0
within place (UnexpectedElementReadError p element found) = place ≤ p + 1
within place (RequiredDataMissing p element field) = place ≤ p + 1
within place (InvalidParseError p element value kind) = place ≤ p + 1
within place (TooDeep p) = place ≤ p + 1
within place e = Unit {0}

-- A refusal, with the reader at a place, is what is denoted, and the reader is at most one past it. Want of memory is the exception.
abbrev pub FailsAt : {T : Type 0} → XmlReadError → ℕ → Result T XmlReadError → Type 0
FailsAt (Memory m) place denoted = Unit {0}
FailsAt e place denoted = (denoted ≡ Err e) × within place e

-- refused with this fault, or for want of memory
abbrev pub Refused : {X : Type 0} → Result X XmlReadError → XmlReadError → Type 0
Refused (Ok x) fault = ⊥
Refused (Err (Memory m)) fault = Unit {0}
Refused (Err e) fault = e ≡ fault

-- What was returned, seen by view, is what is denoted.
abbrev pub Denotes : {X T : Type 0} → (X → T) → Result T XmlReadError → Result X XmlReadError → Type 0
Denotes view denoted (Ok x) = denoted ≡ Ok (view x)
Denotes view denoted (Err (Memory m)) = Unit {0}
Denotes view denoted (Err e) = denoted ≡ Err e
