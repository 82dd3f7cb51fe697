-- A piece of events, one by one.
use Rattle.std.specs.Prelude.{Err}
use Rattle.std.proofs.lemmas.List.{take-append-drop, length-take-le}
use Rattle.std.proofs.Common.{◌≡◌, ℕ, ◌+◌, ◌<◌, List, [], ◌∷◌, ◌++◌, length, take, drop, get_or, subst, ap, ◌∙◌, append_assoc, length-append, arith}
use Rattle.cdx_events.specs.declared.event.XmlEvent.{XmlEvent}
use Rattle.cdx_events.proofs.Broken.{take_event}
use Rattle.cdx_models.specs.declared.bom.SpecVersion.{SpecVersion}
use Rattle.cdx_models.specs.declared.errors.XmlReadError.{XmlReadError}
use Rattle.cdx_models.specs.declared.errors.XmlReadError.TheVariants.{ElementReadError, UnexpectedElementReadError, RequiredDataMissing, RequiredAttributeMissing, InvalidParseError, InvalidNamespaceError, TooDeep, Memory}
use Rattle.cdx_schema.proofs.EarlyLaws.{early_stays}
use Rattle.cdx_push_reader.specs.Pushed.{Outcome}

pub one_more : (events xs : List XmlEvent) (i : ℕ) (x : XmlEvent) → i < length xs → x ≡ get_or xs i x → (events ++ take i xs) ++ x ∷ [] ≡ events ++ take (i + 1) xs
one_more events xs i x l e = append_assoc events (take i xs) (x ∷ []) ∙ ap (λ es. events ++ es) (take_event xs i x l e)

pub all_more : (events xs : List XmlEvent) (i : ℕ) (x : XmlEvent) → i < length xs → x ≡ get_or xs i x → ((events ++ take i xs) ++ x ∷ []) ++ drop (i + 1) xs ≡ events ++ xs
all_more events xs i x l e =
    ap (λ es. es ++ drop (i + 1) xs) (one_more events xs i x l e) ∙ (append_assoc events (take (i + 1) xs) (drop (i + 1) xs) ∙ ap (λ es. events ++ es) (take-append-drop (i + 1) xs))

pub next_place : (events xs : List XmlEvent) (first i : ℕ) → i < length xs → first ≡ length events → first + i ≡ length (events ++ take i xs)
next_place events xs first i l e = omega (arith, e, length-append events (take i xs), length-take-le i xs (omega (arith, l)))

-- a fault stays
pub fails_longer : (v w : SpecVersion) (events all rest : List XmlEvent) (e : XmlReadError) → v ≡ w → events ++ rest ≡ all → Outcome {A = Unit {0}} (λ u. Unit {0}) v events (Err e) → Outcome {A = Unit {0}} (λ u. Unit {0}) w all (Err e)
fails_longer v w events all rest e i j h = subst (λ u. Outcome {A = Unit {0}} (λ x. Unit {0}) u all (Err e)) i (subst (λ es. Outcome {A = Unit {0}} (λ x. Unit {0}) v es (Err e)) j (by e h))
  where
    by : (e : XmlReadError) → Outcome {A = Unit {0}} (λ u. Unit {0}) v events (Err e) → Outcome {A = Unit {0}} (λ u. Unit {0}) v (events ++ rest) (Err e)
    by (Memory m) h = tt
    by (ElementReadError k p) h = early_stays v events rest (ElementReadError k p) h
    by (UnexpectedElementReadError p el k) h = early_stays v events rest (UnexpectedElementReadError p el k) h
    by (RequiredDataMissing p el k) h = early_stays v events rest (RequiredDataMissing p el k) h
    by (RequiredAttributeMissing p el k) h = early_stays v events rest (RequiredAttributeMissing p el k) h
    by (InvalidParseError p el k t) h = early_stays v events rest (InvalidParseError p el k t) h
    by (InvalidNamespaceError x y) h = early_stays v events rest (InvalidNamespaceError x y) h
    by (TooDeep p) h = early_stays v events rest (TooDeep p) h
