-- The text of an algorithm that a text gives is that text.
use Rattle.std.proofs.Common.{◌≡◌, ℕ, List, Bool, true, false, refl, sym, ◌∙◌}
use Rattle.std.specs.Prelude.{bytes_eq, codes, if◌then◌else◌}
use Rattle.std.proofs.lemmas.Slice.Eq.{bytes_eq-Decides}
use Rattle.cdx_signature.specs.declared.signature.Algorithm.{Algorithm}
use Rattle.cdx_signature.specs.declared.signature.Algorithm.TheVariants.{RS256, RS384, RS512, PS256, PS384, PS512, ES256, ES384, ES512, Ed25519, Ed448, HS256, HS384, HS512, Unknown}
use Rattle.cdx_signature.specs.Signatures.{algorithm_of, algorithm_name}

-- one name after the other
named : (s name : List ℕ) (a other : Algorithm) → algorithm_name a ≡ name → algorithm_name other ≡ s → algorithm_name (if bytes_eq s name then a else other) ≡ s
named s name a other is rest = go (bytes_eq s name) refl
  where
    go : (b : Bool) → bytes_eq s name ≡ b → algorithm_name (if b then a else other) ≡ s
    go true e = is ∙ sym ((bytes_eq-Decides s name).0 e)
    go false e = rest

pub name_of_algorithm : (s : List ℕ) → algorithm_name (algorithm_of s) ≡ s
name_of_algorithm s =
    named s (codes "RS256") RS256 _ refl (named s (codes "RS384") RS384 _ refl (named s (codes "RS512") RS512 _ refl
    (named s (codes "PS256") PS256 _ refl (named s (codes "PS384") PS384 _ refl (named s (codes "PS512") PS512 _ refl
    (named s (codes "ES256") ES256 _ refl (named s (codes "ES384") ES384 _ refl (named s (codes "ES512") ES512 _ refl
    (named s (codes "Ed25519") Ed25519 _ refl (named s (codes "Ed448") Ed448 _ refl
    (named s (codes "HS256") HS256 _ refl (named s (codes "HS384") HS384 _ refl (named s (codes "HS512") HS512 (Unknown s) refl refl)))))))))))))
