-- `equal` decides whether two trees are equal.
use Rattle.std.proofs.Common.{◌≡◌, Bool, true, false, ◌&&◌, ◌==◌, refl, sym, ap, ◌∙◌, subst, Decides, eq-eqb}
use Rattle.std.proofs.lemmas.Bool.{eqb-true, false≢true}
use Rattle.std.proofs.lemmas.Bool.Decides.{same_from_decides}
use Rattle.std.proofs.lemmas.Slice.Eq.{bytes_eq-Decides}
use Rattle.std.specs.Cmp.{IsPartialEquivalence}
use Rattle.cdx_models.specs.Trees.{Tree, absent, text, number, boolean, items, fields, Trees, none, more}
use Rattle.cdx_models.specs.Names.{code-injective}
use Rattle.cdx_models.specs.Equal.{name_code, equal_bool, equal, equal_each}

-- a test of two parts
both : (a b : Bool) → (a && b) ≡ true → (a ≡ true) × (b ≡ true)
both true b e = (refl, e)
both false b e = absurd (false≢true e)

both_hold : (a b : Bool) → a ≡ true → b ≡ true → (a && b) ≡ true
both_hold a b p q = rw (p, q) refl

equal_bool-sound : (a b : Bool) → equal_bool a b ≡ true → a ≡ b
equal_bool-sound true true e = refl
equal_bool-sound true false e = absurd (false≢true e)
equal_bool-sound false true e = absurd (false≢true e)
equal_bool-sound false false e = refl

equal_bool-refl : (a : Bool) → equal_bool a a ≡ true
equal_bool-refl true = refl
equal_bool-refl false = refl

mutual
  pub equal-sound : (t u : Tree) → equal t u ≡ true → t ≡ u
  equal-sound absent absent e = refl
  equal-sound (text a) (text b) e = ap text ((bytes_eq-Decides a b).0 e)
  equal-sound (number a) (number b) e = ap number (eqb-true a b e)
  equal-sound (boolean a) (boolean b) e = ap boolean (equal_bool-sound a b e)
  equal-sound (items ts) (items us) e = ap items (equal_each-sound ts us e)
  equal-sound (fields n ts) (fields m us) e =
      let p = both (name_code n == name_code m) (equal_each ts us) e in
      let named = code-injective n m (eqb-true _ _ p.0) in
      let parts = equal_each-sound ts us p.1 in
      cc
  equal-sound absent _ e = absurd (false≢true e)
  equal-sound (text a) _ e = absurd (false≢true e)
  equal-sound (number a) _ e = absurd (false≢true e)
  equal-sound (boolean a) _ e = absurd (false≢true e)
  equal-sound (items ts) _ e = absurd (false≢true e)
  equal-sound (fields n ts) _ e = absurd (false≢true e)

  pub equal_each-sound : (ts us : Trees) → equal_each ts us ≡ true → ts ≡ us
  equal_each-sound none none e = refl
  equal_each-sound none (more u us) e = absurd (false≢true e)
  equal_each-sound (more t ts) none e = absurd (false≢true e)
  equal_each-sound (more t ts) (more u us) e =
      let p = both (equal t u) (equal_each ts us) e in
      let first = equal-sound t u p.0 in
      let others = equal_each-sound ts us p.1 in
      cc

mutual
  pub equal-refl : (t : Tree) → equal t t ≡ true
  equal-refl absent = refl
  equal-refl (text a) = (bytes_eq-Decides a a).1 refl
  equal-refl (number a) = eq-eqb a a refl
  equal-refl (boolean a) = equal_bool-refl a
  equal-refl (items ts) = equal_each-refl ts
  equal-refl (fields n ts) = both_hold (name_code n == name_code n) (equal_each ts ts) (eq-eqb _ _ refl) (equal_each-refl ts)

  pub equal_each-refl : (ts : Trees) → equal_each ts ts ≡ true
  equal_each-refl none = refl
  equal_each-refl (more t ts) = both_hold (equal t t) (equal_each ts ts) (equal-refl t) (equal_each-refl ts)

pub equal-Decides : (t u : Tree) → Decides (equal t u) (t ≡ u)
equal-Decides t u = (equal-sound t u, λ e. subst (λ x. equal t x ≡ true) e (equal-refl t))

-- a comparison by the trees of two values
pub equal_laws : {A : Type 0} (f : A → Tree) → IsPartialEquivalence (λ (a b : A). equal (f a) (f b))
equal_laws f = record {
  symm = λ x y. same_from_decides (equal (f x) (f y)) (equal (f y) (f x)) (equal-Decides (f x) (f y)) ((λ e. sym (equal-sound (f y) (f x) e)), λ e. (equal-Decides (f y) (f x)).1 (sym e));
  trans = λ x y z p q. (equal-Decides (f x) (f z)).1 (equal-sound (f x) (f y) p ∙ equal-sound (f y) (f z) q);
}
