-- A bill's format, read as a text that has to be there.
use Rattle.std.proofs.Common.{◌≡◌, ℕ, List, [], codes, Bool, true, false, if◌then◌else◌, Result, Ok, Err, refl, sym, ap, ◌∙◌, subst}
use Rattle.std.specs.Str.{bytes_eq}
use Rattle.cdx_models.specs.declared.bom.SpecVersion.{SpecVersion}
use Rattle.cdx_models.specs.declared.errors.Step.{Step}
use Rattle.cdx_models.specs.declared.errors.Step.TheVariants.{Member}
use Rattle.cdx_models.specs.declared.errors.JsonReadError.{JsonReadError}
use Rattle.cdx_models.specs.declared.errors.JsonReadError.TheVariants.{JsonElementReadError, BomError, Memory}
use Rattle.cdx_models.specs.declared.errors.JsonKind.TheVariants.{BadFormat}
use Rattle.cdx_models.specs.Trees.{Tree, text}
use Rattle.cdx_schema.specs.Kinds.{a_text, required}
use Rattle.cdx_schema.specs.Depth.{Depth}
use Rattle.cdx_schema.specs.Faults.{to_member, JsonFault, under, here}
use Rattle.cdx_schema.specs.Results.{◌>>=◌}
use Rattle.cdx_schema.specs.JsonReading.{Object, Found, nothing, a_null, found, format_read}
use Rattle.cdx_json.specs.Gives.{Fails, IsFaultAt, IsWithin}
use Rattle.cdx_json.specs.ByRows.{read_if_found, member_of}
use Rattle.cdx_json.proofs.Rows.{fails_here, within_fails}
use Rattle.std.proofs.lemmas.Slice.Eq.{bytes_eq-Decides}
use Rattle.cdx_bom.specs.Groups.{format_of}

-- what becomes of the text
abbrev checked : List ℕ → Result Tree JsonFault
checked t = if bytes_eq t (codes "CycloneDX") then Ok (text t) else here BadFormat

under_ok : (s : Step) (r : Result Tree JsonFault) (t : Tree) → under s r ≡ Ok t → r ≡ Ok t
under_ok s (Ok u) t e = e
under_ok s (Err f) t e = absurd cc

found_is : (f : Found) (v : SpecVersion) (d : Depth) (t : List ℕ) → under (to_member (codes "bomFormat")) (read_if_found f required a_text v d) ≡ Ok (text t) → format_read f v d ≡ checked t
found_is nothing v d t e = absurd cc
found_is a_null v d t e = absurd cc
found_is (found read) v d t e = rw (under_ok (to_member (codes "bomFormat")) (read v a_text d) (text t) e) refl

format_is : (o : Object) (v : SpecVersion) (d : Depth) (t : List ℕ) → member_of o (codes "bomFormat") required a_text v d ≡ Ok (text t) → format_of o v d ≡ under (to_member (codes "bomFormat")) (checked t)
unfolding member_of
format_is o v d t e = ap (under (to_member (codes "bomFormat"))) (found_is (o (codes "bomFormat")) v d t e)

pub format_ok : (o : Object) (v : SpecVersion) (d : Depth) (t : List ℕ) (b : Bool) → member_of o (codes "bomFormat") required a_text v d ≡ Ok (text t) → b ≡ bytes_eq t (codes "CycloneDX") → b ≡ true → format_of o v d ≡ Ok (text (codes "CycloneDX"))
format_ok o v d t b e is on =
    let same = (bytes_eq-Decides t (codes "CycloneDX")).0 (sym is ∙ on) in
    format_is o v d t e ∙ ap (λ x. under (to_member (codes "bomFormat")) (if x then Ok (text t) else here BadFormat)) (sym is ∙ on) ∙ ap (λ u. Ok (text u)) same

pub format_bad : (old new : JsonReadError) (o : Object) (v : SpecVersion) (d : Depth) (t : List ℕ) (b : Bool) → member_of o (codes "bomFormat") required a_text v d ≡ Ok (text t) → b ≡ bytes_eq t (codes "CycloneDX") → b ≡ false
    → IsFaultAt [] BadFormat old → IsWithin (Member (codes "bomFormat")) old new → Fails new (format_of o v d)
format_bad old new o v d t b e is off at w =
    let bad : format_of o v d ≡ under (Member (codes "bomFormat")) (here {A = Tree} BadFormat) = format_is o v d t e ∙ ap (λ x. under (to_member (codes "bomFormat")) (if x then Ok (text t) else here BadFormat)) (sym is ∙ off) in
    subst (Fails new) (sym bad) (within_fails (Member (codes "bomFormat")) old new (here {A = Tree} BadFormat) (fails_here old BadFormat (here {A = Tree} BadFormat) at refl) w)

still_fails : (e : JsonReadError) (s : Step) (r : Result Tree JsonFault) (f : Tree → Result Tree JsonFault) → Fails e (under s r) → Fails e (under s (r >>= f))
still_fails (Memory m) s r f h = tt
still_fails (BomError b) s r f h = absurd h
still_fails (JsonElementReadError path kind) s (Ok t) f h = absurd cc
still_fails (JsonElementReadError path kind) s (Err x) f h = h

found_fails : (e : JsonReadError) (f : Found) (v : SpecVersion) (d : Depth) → Fails e (under (to_member (codes "bomFormat")) (read_if_found f required a_text v d)) → Fails e (under (to_member (codes "bomFormat")) (format_read f v d))
found_fails e nothing v d h = h
found_fails e a_null v d h = h
found_fails e (found read) v d h = still_fails e (to_member (codes "bomFormat")) (read v a_text d) _ h

pub format_err : (e : JsonReadError) (o : Object) (v : SpecVersion) (d : Depth) → Fails e (member_of o (codes "bomFormat") required a_text v d) → Fails e (format_of o v d)
unfolding member_of
format_err e o v d h = found_fails e (o (codes "bomFormat")) v d h
