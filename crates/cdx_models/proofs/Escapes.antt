-- What is escaped of a text goes character by character.
use Rattle.std.proofs.Common.{◌≡◌, ℕ, ◌+◌, ◌/◌, ◌%◌, ◌≤◌, List, [], ◌∷◌, ◌++◌, codes, Bool, true, false, eqb, ltb, cond, refl, sym, ap, ◌∙◌, append_assoc, arith}
use Rattle.std.specs.Char.{encode_utf8}
use Rattle.std.specs.Prelude.{encode_utf8_all}
use Rattle.std.proofs.lemmas.Grind.{flat_map-append}
use Rattle.std.proofs.lemmas.List.{append-nil}
use Rattle.std.proofs.lemmas.Bool.Decides.{nat_tests}
use Rattle.cdx_models.specs.Path.{escaped_byte, escaped}

all-more : (cs : List ℕ) (c : ℕ) → encode_utf8_all (cs ++ c ∷ []) ≡ encode_utf8_all cs ++ encode_utf8 c
all-more [] c = append-nil (encode_utf8 c)
all-more (x ∷ cs) c = ap (λ bs. encode_utf8 x ++ bs) (all-more cs c) ∙ sym (append_assoc (encode_utf8 x) (encode_utf8_all cs) (encode_utf8 c))

-- a character more was written
pub escaped-more : (before after first piece : List ℕ) (cs : List ℕ) (c : ℕ) → before ≡ first ++ escaped (encode_utf8_all cs) → after ≡ before ++ piece → piece ≡ escaped (encode_utf8 c)
    → after ≡ first ++ escaped (encode_utf8_all (cs ++ c ∷ []))
escaped-more before after first piece cs c is more piece_is =
    more ∙ ap (λ bs. bs ++ piece) is ∙ append_assoc first (escaped (encode_utf8_all cs)) piece
    ∙ ap (λ bs. first ++ bs) (ap (λ bs. escaped (encode_utf8_all cs) ++ bs) piece_is ∙ sym (flat_map-append escaped_byte (encode_utf8_all cs) (encode_utf8 c)) ∙ ap escaped (sym (all-more cs c)))

-- a byte that is neither `~` nor `/` stays
same_byte : (c : ℕ) → (c ≡ 126 → ⊥) → (c ≡ 47 → ⊥) → escaped_byte c ≡ c ∷ []
same_byte c tilde slash = by (eqb c 126) (eqb c 47) refl refl
  where
    by : (a b : Bool) → eqb c 126 ≡ a → eqb c 47 ≡ b → cond a (codes "~0") (cond b (codes "~1") (c ∷ [])) ≡ c ∷ []
    by true b e f = absurd (tilde (grind (arith, nat_tests)))
    by false true e f = absurd (slash (grind (arith, nat_tests)))
    by false false e f = refl

high : (c : ℕ) → 128 ≤ c → escaped_byte c ≡ c ∷ []
high c h = same_byte c (λ e. omega arith) (λ e. omega arith)

pub escaped-other : (c : ℕ) → (c ≡ 126 → ⊥) → (c ≡ 47 → ⊥) → encode_utf8 c ≡ escaped (encode_utf8 c)
unfolding encode_utf8
escaped-other c tilde slash = by (ltb c 128) (ltb c 2048) (ltb c 65536)
  where
    by : (x y z : Bool) → cond x (c ∷ []) (cond y ((192 + c / 64) ∷ (128 + c % 64) ∷ []) (cond z ((224 + c / 4096) ∷ (128 + c / 64 % 64) ∷ (128 + c % 64) ∷ []) ((240 + c / 262144) ∷ (128 + c / 4096 % 64) ∷ (128 + c / 64 % 64) ∷ (128 + c % 64) ∷ [])))
        ≡ escaped (cond x (c ∷ []) (cond y ((192 + c / 64) ∷ (128 + c % 64) ∷ []) (cond z ((224 + c / 4096) ∷ (128 + c / 64 % 64) ∷ (128 + c % 64) ∷ []) ((240 + c / 262144) ∷ (128 + c / 4096 % 64) ∷ (128 + c / 64 % 64) ∷ (128 + c % 64) ∷ []))))
    by true y z = rw (same_byte c tilde slash) refl
    by false true z = rw (high (192 + c / 64) (omega arith), high (128 + c % 64) (omega arith)) refl
    by false false true = rw (high (224 + c / 4096) (omega arith), high (128 + c / 64 % 64) (omega arith), high (128 + c % 64) (omega arith)) refl
    by false false false = rw (high (240 + c / 262144) (omega arith), high (128 + c / 4096 % 64) (omega arith), high (128 + c / 64 % 64) (omega arith), high (128 + c % 64) (omega arith)) refl

pub escaped-tilde : codes "~0" ≡ escaped (encode_utf8 126)
unfolding encode_utf8
escaped-tilde = refl

pub escaped-slash : codes "~1" ≡ escaped (encode_utf8 47)
unfolding encode_utf8
escaped-slash = refl
