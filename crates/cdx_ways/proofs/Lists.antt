-- Lists of paths: which begin with what, which differ, and what stands at them.
use Rattle.std.specs.Prelude.{◌≡◌, ◌≢◌, refl, ℕ, zero, suc, ◌≤◌, length, take, List, [], ◌∷◌, ◌++◌, Bool, true, false, if◌then◌else◌, Option, Some, None, AllPairs, All, Contains, ◌⊎◌}
use Rattle.std.proofs.Math.Seq.{take-append_seam}
use Rattle.std.proofs.Common.{◌∙◌, true≢false, inl, inr, eq-eqb, eqb-true}
use Rattle.std.proofs.lemmas.Slice.Eq.{bytes_eq-Decides}
use Rattle.std.proofs.lemmas.List.Elements.{All-nil, All-cons}
use Rattle.std.proofs.lemmas.List.Kept.{AllPairs-cons}
use mathlib.Core.Path.{ap, sym, subst}
use native.Mathlib.Omega.{arith}
use Rattle.cdx_models.specs.declared.errors.Step.{Step}
use Rattle.cdx_models.specs.declared.errors.Step.TheVariants.{Member, Item}
use Rattle.cdx_schema.specs.Membership.{Never}
use Rattle.cdx_ways.specs.Ways.{At, behind_step, is_step, after_step}
use Rattle.cdx_schema.proofs.Basics.{some_same}

-- ---- steps

pub own_step : (s : Step) → is_step s s ≡ true
own_step (Member n) = (bytes_eq-Decides n n).1 refl
own_step (Item i) = eq-eqb i i refl

-- a path that went on by a step and is cut back
pub cut_back : (p q r t : List Step) (s : Step) (n : ℕ) → q ≡ p ++ s ∷ [] → r ≡ q → n ≡ length p → t ≡ take n r → t ≡ p
cut_back p q r t s n is same long cut = cut ∙ (ap (λ m. take m r) long ∙ (ap (take (length p)) (same ∙ is) ∙ take-append_seam p (s ∷ [])))

pub step_is : (s s' : Step) → is_step s s' ≡ true → s ≡ s'
step_is (Member m) (Member n) h = ap Member ((bytes_eq-Decides m n).0 h)
step_is (Item i) (Item j) h = ap Item (eqb-true i j h)
step_is (Member m) (Item j) h = absurd (true≢false (sym h))
step_is (Item i) (Member n) h = absurd (true≢false (sym h))

pub after_own : (s : Step) (p : List Step) → after_step s (s ∷ p) ≡ Some p
after_own s p = ap (λ b. if b then Some p else None) (own_step s)

pub after_other : (s s' : Step) (p : List Step) → is_step s s' ≡ false → after_step s (s' ∷ p) ≡ None
after_other s s' p h = ap (λ b. if b then Some p else None) h

none_some : {p : List Step} → {B : Type 0} → None ≡ Some p → B
none_some e = absurd (true≢false (ap is_there (sym e)))
  where
    is_there : Option (List Step) → Bool
    is_there None = false
    is_there (Some p) = true

-- A path behind a step is the step and the rest.
pub after_is : (s : Step) (p q : List Step) → after_step s p ≡ Some q → p ≡ s ∷ q
after_is s [] q h = none_some h
after_is s (s' ∷ p) q h = by (is_step s s') refl h
  where
    by : (b : Bool) → is_step s s' ≡ b → (if b then Some p else None) ≡ Some q → s' ∷ p ≡ s ∷ q
    by true e h = rw (sym (step_is s s' e), some_same h) refl
    by false e h = none_some h

-- ---- what is listed

-- x is listed
abbrev pub In : {X : Type 0} → X → List X → Type 0
In z [] = ⊥
In z (x ∷ xs) = (x ≡ z) ⊎ In z xs

pub in_left : {X : Type 0} (z : X) (us vs : List X) → In z us → In z (us ++ vs)
in_left z [] vs h = elim h [ ]
in_left z (x ∷ us) vs (inl e) = inl e
in_left z (x ∷ us) vs (inr h) = inr (in_left z us vs h)

pub in_right : {X : Type 0} (z : X) (us vs : List X) → In z vs → In z (us ++ vs)
in_right z [] vs h = h
in_right z (x ∷ us) vs h = inr (in_right z us vs h)

pub in_either : {X : Type 0} (z : X) (us vs : List X) → In z (us ++ vs) → In z us ⊎ In z vs
in_either z [] vs h = inr h
in_either z (x ∷ us) vs (inl e) = inl (inl e)
in_either z (x ∷ us) vs (inr h) = elim (in_either z us vs h) [ inl g ↦ inl (inr g) | inr g ↦ inr g ]

pub contains_in : {X : Type 0} (z : X) (xs : List X) → Contains xs z → In z xs
contains_in z [] h = absurd (omega (arith, h.1))
contains_in z (x ∷ xs) (zero, lt, e) = inl e
contains_in z (x ∷ xs) (suc k, lt, e) = inr (contains_in z xs (k, omega (arith, lt), e))

pub in_contains : {X : Type 0} (z : X) (xs : List X) → In z xs → Contains xs z
in_contains z [] h = elim h [ ]
in_contains z (x ∷ xs) (inl e) = (0, omega arith, e)
in_contains z (x ∷ xs) (inr h) = let c = in_contains z xs h in (suc c.0, omega (arith, c.1), c.2)

pub in_behind : {A : Type 0} (s : Step) (p : List Step) (c : A) (xs : List (At A)) → In (p, c) (behind_step s xs) → (q : List Step) × (p ≡ s ∷ q) × In (q, c) xs
in_behind s p c [] h = elim h [ ]
in_behind s p c (x ∷ xs) (inl e) = (x.0, sym (ap (λ z. z.0) e), inl (ap (λ a. (x.0, a)) (ap (λ z. z.1) e)))
in_behind s p c (x ∷ xs) (inr h) = let r = in_behind s p c xs h in (r.0, r.1, inr r.2)

pub behind_in : {A : Type 0} (s : Step) (q : List Step) (c : A) (xs : List (At A)) → In (q, c) xs → In (s ∷ q, c) (behind_step s xs)
behind_in s q c [] h = elim h [ ]
behind_in s q c (x ∷ xs) (inl e) = inl (ap (λ z. (s ∷ z.0, z.1)) e)
behind_in s q c (x ∷ xs) (inr h) = inr (behind_in s q c xs h)

-- ---- first steps

-- The path has a first step, which passes Q.
abbrev pub StartsIn : (Step → Type 0) → List Step → Type 0
StartsIn Q [] = Never
StartsIn Q (s ∷ p) = Q s

abbrev pub AllStart : {A : Type 0} → (Step → Type 0) → List (At A) → Type 0
AllStart Q [] = Unit {0}
AllStart Q (x ∷ xs) = StartsIn Q x.0 × AllStart Q xs

pub starts_behind : {A : Type 0} (Q : Step → Type 0) (s : Step) (xs : List (At A)) → Q s → AllStart Q (behind_step s xs)
starts_behind Q s [] h = tt
starts_behind Q s (x ∷ xs) h = (h, starts_behind Q s xs h)

pub starts_append : {A : Type 0} (Q : Step → Type 0) (us vs : List (At A)) → AllStart Q us → AllStart Q vs → AllStart Q (us ++ vs)
starts_append Q [] vs h g = g
starts_append Q (x ∷ us) vs h g = (h.0, starts_append Q us vs h.1 g)

starts_wider : (Q R : Step → Type 0) → ((s : Step) → Q s → R s) → (p : List Step) → StartsIn Q p → StartsIn R p
starts_wider Q R f [] h = h
starts_wider Q R f (s ∷ p) h = f s h

pub all_start_wider : {A : Type 0} (Q R : Step → Type 0) → ((s : Step) → Q s → R s) → (xs : List (At A)) → AllStart Q xs → AllStart R xs
all_start_wider Q R f [] h = tt
all_start_wider Q R f (x ∷ xs) h = (starts_wider Q R f x.0 h.0, all_start_wider Q R f xs h.1)

pub in_starts : {A : Type 0} (Q : Step → Type 0) (p : List Step) (c : A) (xs : List (At A)) → AllStart Q xs → In (p, c) xs → StartsIn Q p
in_starts Q p c [] h g = elim g [ ]
in_starts Q p c (x ∷ xs) h (inl e) = subst (λ (z : At _). StartsIn Q z.0) e h.0
in_starts Q p c (x ∷ xs) h (inr g) = in_starts Q p c xs h.1 g

-- The step is to an item from this one on.
abbrev pub IsFrom : ℕ → Step → Type 0
IsFrom i (Item j) = i ≤ j
IsFrom i (Member name) = Never

pub from_next : (i : ℕ) (s : Step) → IsFrom (suc i) s → IsFrom i s
from_next i (Item j) h = omega (arith, h)
from_next i (Member name) h = h

-- ---- paths that differ

-- No step passes both.
abbrev pub Disjoint : (Step → Type 0) → (Step → Type 0) → Type 0
Disjoint Q R = (s : Step) → Q s → R s → ⊥

abbrev pub DiffersFrom : {A : Type 0} → List Step → List (At A) → Type 0
DiffersFrom p [] = Unit {0}
DiffersFrom p (x ∷ xs) = (p ≢ x.0) × DiffersFrom p xs

abbrev pub Differ : {A : Type 0} → List (At A) → Type 0
Differ [] = Unit {0}
Differ (x ∷ xs) = DiffersFrom x.0 xs × Differ xs

starts_both : (Q R : Step → Type 0) → Disjoint Q R → (p : List Step) → StartsIn Q p → StartsIn R p → ⊥
starts_both Q R d [] h g = absurd (true≢false h)
starts_both Q R d (s ∷ p) h g = d s h g

differs_disjoint : {A : Type 0} (Q R : Step → Type 0) → Disjoint Q R → (p : List Step) (xs : List (At A)) → StartsIn Q p → AllStart R xs → DiffersFrom p xs
differs_disjoint Q R d p [] h g = tt
differs_disjoint Q R d p (x ∷ xs) h g = (λ e. starts_both Q R d x.0 (subst (StartsIn Q) e h) g.0, differs_disjoint Q R d p xs h g.1)

differs_append : {A : Type 0} (p : List Step) (us vs : List (At A)) → DiffersFrom p us → DiffersFrom p vs → DiffersFrom p (us ++ vs)
differs_append p [] vs h g = g
differs_append p (x ∷ us) vs h g = (h.0, differs_append p us vs h.1 g)

pub differ_append : {A : Type 0} (Q R : Step → Type 0) → Disjoint Q R → (us vs : List (At A)) → Differ us → Differ vs → AllStart Q us → AllStart R vs → Differ (us ++ vs)
differ_append Q R d [] vs h g a b = g
differ_append Q R d (x ∷ us) vs h g a b = (differs_append x.0 us vs h.0 (differs_disjoint Q R d x.0 vs a.0 b), differ_append Q R d us vs h.1 g a.1 b)

rest_of : List Step → List Step
rest_of [] = []
rest_of (s ∷ p) = p

differs_behind : {A : Type 0} (s : Step) (p : List Step) (xs : List (At A)) → DiffersFrom p xs → DiffersFrom (s ∷ p) (behind_step s xs)
unfolding rest_of
differs_behind s p [] h = tt
differs_behind s p (x ∷ xs) h = (λ e. h.0 (ap rest_of e), differs_behind s p xs h.1)

pub differ_behind : {A : Type 0} (s : Step) (xs : List (At A)) → Differ xs → Differ (behind_step s xs)
differ_behind s [] h = tt
differ_behind s (x ∷ xs) h = (differs_behind s x.0 xs h.0, differ_behind s xs h.1)

-- The empty path differs from those with a first step.
pub empty_differs : {A : Type 0} (Q : Step → Type 0) (xs : List (At A)) → AllStart Q xs → DiffersFrom [] xs
empty_differs Q [] h = tt
empty_differs Q (x ∷ xs) h = (λ e. absurd (true≢false (subst (StartsIn Q) (sym e) h.0)), empty_differs Q xs h.1)

differs_all : {A : Type 0} (x : At A) (xs : List (At A)) → DiffersFrom x.0 xs → All (λ y. x.0 ≢ y.0) xs
differs_all x [] h = All-nil (λ y. x.0 ≢ y.0)
differs_all x (y ∷ ys) h = All-cons (λ y. x.0 ≢ y.0) y ys h.0 (differs_all x ys h.1)

pub all_pairs : {A : Type 0} (xs : List (At A)) → Differ xs → AllPairs (λ x y. x.0 ≢ y.0) xs
all_pairs [] h = λ i j d lt below. absurd (omega (arith, lt, below))
all_pairs (x ∷ xs) h = AllPairs-cons (λ x y. x.0 ≢ y.0) x xs (differs_all x xs h.0) (all_pairs xs h.1)
