-- No loss lies at or below another.
use Rattle.std.specs.Prelude.{◌≡◌, refl, ℕ, suc, List, [], ◌∷◌, ◌++◌, map, Bool, true, false, not, ◌&&◌, Option, Some, None}
use Rattle.std.specs.List.{list_all}
use Rattle.std.proofs.Common.{true≢false}
use mathlib.Core.Path.{sym, ◌∙◌, subst}
use native.Mathlib.Omega.{arith}
use Rattle.cdx_models.specs.declared.errors.Step.{Step}
use Rattle.cdx_models.specs.declared.errors.Step.TheVariants.{Member, Item}
use Rattle.cdx_models.specs.declared.bom.SpecVersion.{SpecVersion}
use Rattle.cdx_models.specs.Trees.{Name, license, Tree, absent, text, number, boolean, items, fields, Trees, none, more}
use Rattle.cdx_schema.specs.Kinds.{Kind, a_license_choice, a_bill, Row}
use Rattle.cdx_schema.specs.Kinds as kinds
use Rattle.cdx_schema.specs.Held.{held_kind}
use Rattle.cdx_schema.specs.Table.{rows}
use Rattle.cdx_schema.specs.Faults.{to_member, to_item}
use Rattle.cdx_schema.specs.Membership.{Never, HasShape, HaveShape, FieldsHaveShape}
use Rattle.cdx_schema.proofs.JsonBack.{and_true}
use Rattle.cdx_schema.proofs.Sound.{both}
use Rattle.cdx_schema.proofs.KeptOf.{IsField}
use Rattle.cdx_ways.specs.Ways.{At, behind_step, behind_row, behind_choice, is_step, begins}
use Rattle.cdx_ways.proofs.Lists.{own_step, step_is, Disjoint, StartsIn, AllStart, starts_behind, starts_append, all_start_wider, IsFrom, from_next}
use Rattle.cdx_losses.specs.declared.loss.Reason.{Reason}
use Rattle.cdx_losses.specs.Losses.{field_reason, item_reason, entry_or, lost, items_lost, rows_lost}
use Rattle.cdx_losses.specs.Laws.{are_apart, ListsApart}
use Rattle.cdx_losses.proofs.Members.{IsKnown, IsOwn, known_own, known_more, own_new, members_differ, differ, differ_rest, is_sound, all_merged_sound, merged_sound, merged_whole}

-- ---- paths that lie apart

-- Neither of two paths begins with the other.
abbrev pub apart : List Step → List Step → Bool
apart p q = not (begins p q) && not (begins q p)

abbrev pub ApartFrom : {A : Type 0} → List Step → List (At A) → Type 0
ApartFrom p [] = Unit {0}
ApartFrom p (x ∷ xs) = (apart p x.0 ≡ true) × ApartFrom p xs

abbrev pub Apart : {A : Type 0} → List (At A) → Type 0
Apart [] = Unit {0}
Apart (x ∷ xs) = ApartFrom x.0 xs × Apart xs

apart_from : {A : Type 0} (p : List Step) (xs : List (At A)) → ApartFrom p xs → list_all (λ q. not (begins p q) && not (begins q p)) (map (λ x. x.0) xs) ≡ true
apart_from p [] h = refl
apart_from p (x ∷ xs) h = both (apart p x.0) _ h.0 (apart_from p xs h.1)

pub apart_all : {A : Type 0} (xs : List (At A)) → Apart xs → are_apart (map (λ x. x.0) xs) ≡ true
apart_all [] h = refl
apart_all (x ∷ xs) h = both _ (are_apart (map (λ x. x.0) xs)) (apart_from x.0 xs h.0) (apart_all xs h.1)

pub other_step : (Q R : Step → Type 0) → Disjoint Q R → (s s' : Step) → Q s → R s' → is_step s s' ≡ false
other_step Q R d s s' h g = by (is_step s s') refl
  where
    by : (b : Bool) → is_step s s' ≡ b → b ≡ false
    by true e = absurd (d s' (subst Q (step_is s s' e) h) g)
    by false e = refl

apart_steps : (s s' : Step) (p q : List Step) → is_step s s' ≡ false → is_step s' s ≡ false → apart (s ∷ p) (s' ∷ q) ≡ true
apart_steps s s' p q e f = rw (e, f) refl

swapped : (Q R : Step → Type 0) → Disjoint Q R → Disjoint R Q
swapped Q R d s h g = d s g h

apart_starts : (Q R : Step → Type 0) → Disjoint Q R → (p q : List Step) → StartsIn Q p → StartsIn R q → apart p q ≡ true
apart_starts Q R d [] q h g = absurd (true≢false h)
apart_starts Q R d (s ∷ p) [] h g = absurd (true≢false g)
apart_starts Q R d (s ∷ p) (s' ∷ q) h g = apart_steps s s' p q (other_step Q R d s s' h g) (other_step R Q (swapped Q R d) s' s g h)

apart_from_starts : {A : Type 0} (Q R : Step → Type 0) → Disjoint Q R → (p : List Step) (xs : List (At A)) → StartsIn Q p → AllStart R xs → ApartFrom p xs
apart_from_starts Q R d p [] h g = tt
apart_from_starts Q R d p (x ∷ xs) h g = (apart_starts Q R d p x.0 h g.0, apart_from_starts Q R d p xs h g.1)

from_append : {A : Type 0} (p : List Step) (us vs : List (At A)) → ApartFrom p us → ApartFrom p vs → ApartFrom p (us ++ vs)
from_append p [] vs h g = g
from_append p (x ∷ us) vs h g = (h.0, from_append p us vs h.1 g)

pub apart_append : {A : Type 0} (Q R : Step → Type 0) → Disjoint Q R → (us vs : List (At A)) → Apart us → Apart vs → AllStart Q us → AllStart R vs → Apart (us ++ vs)
apart_append Q R d [] vs h g a b = g
apart_append Q R d (x ∷ us) vs h g a b = (from_append x.0 us vs h.0 (apart_from_starts Q R d x.0 vs a.0 b), apart_append Q R d us vs h.1 g a.1 b)

apart_behind : (s : Step) (p q : List Step) → apart (s ∷ p) (s ∷ q) ≡ apart p q
apart_behind s p q = rw (own_step s) refl

from_behind : {A : Type 0} (s : Step) (p : List Step) (xs : List (At A)) → ApartFrom p xs → ApartFrom (s ∷ p) (behind_step s xs)
from_behind s p [] h = tt
from_behind s p (x ∷ xs) h = (apart_behind s p x.0 ∙ h.0, from_behind s p xs h.1)

pub apart_step : {A : Type 0} (s : Step) (xs : List (At A)) → Apart xs → Apart (behind_step s xs)
apart_step s [] h = tt
apart_step s (x ∷ xs) h = (from_behind s x.0 xs h.0, apart_step s xs h.1)

apart_choice : {A : Type 0} (k : Kind) (n : Name) (xs : List (At A)) → Apart xs → Apart (behind_choice k n xs)
apart_choice a_license_choice license xs h = apart_step _ xs h
apart_choice _ n xs h = h

apart_entry : (o : Option Reason) (xs : List (At Reason)) → Apart xs → Apart (entry_or o xs)
apart_entry None xs h = h
apart_entry (Some why) xs h = (tt, tt)

-- ---- items

-- this item
abbrev pub IsItem : ℕ → Step → Type 0
IsItem i (Item j) = j ≡ i
IsItem i (Member name) = Never

pub item_new : (i : ℕ) → Disjoint (IsItem i) (IsFrom (suc i))
item_new i (Item j) h g = omega (arith, h, g)
item_new i (Member name) h g = true≢false h

-- ---- rows

row_apart : (r : Row) (rs : List Row) (us vs : List (At Reason)) → members_differ (r ∷ rs) ≡ true → Apart us → Apart vs → AllStart (IsOwn r) us → AllStart (IsKnown rs) vs
    → Apart (us ++ vs) × AllStart (IsKnown (r ∷ rs)) (us ++ vs)
row_apart r rs us vs d a b h g = (
  apart_append (IsOwn r) (IsKnown rs) (own_new r rs d) us vs a b h g,
  starts_append (IsKnown (r ∷ rs)) us vs (all_start_wider (IsOwn r) (IsKnown (r ∷ rs)) (known_own r rs) us h) (all_start_wider (IsKnown rs) (IsKnown (r ∷ rs)) (known_more r rs) vs g),
)

-- What is taken in a row lies apart, and begins with the row's member.
pub row_lies : (u : SpecVersion) (n : ℕ) (r : Row) (t : Tree) → is_sound r r.json ≡ true → IsField t r → Apart (lost u n t r.kind)
    → Apart (behind_row r.json (entry_or (field_reason u n r t) (lost u n t r.kind))) × AllStart (IsOwn r) (behind_row r.json (entry_or (field_reason u n r t) (lost u n t r.kind)))
row_lies u n r t s h a = by r.json s
  where
    es : List (At Reason)
    es = entry_or (field_reason u n r t) (lost u n t r.kind)

    by : (m : kinds.Member) → is_sound r m ≡ true → Apart (behind_row m es) × AllStart (λ x. Rattle.cdx_losses.proofs.Members.is_own r.kind m x ≡ true) (behind_row m es)
    by (kinds.member name) e = (apart_step (to_member name) es (apart_entry (field_reason u n r t) (lost u n t r.kind) a), starts_behind (λ x. is_step (to_member name) x ≡ true) (to_member name) es (own_step (to_member name)))
    by kinds.merged e =
        let w : (field_reason u n r t ≡ None) × (lost u n t r.kind ≡ []) × HasShape t r.kind = merged_whole u n r t e h in
        rw (w.0, w.1) (tt, tt)

pub absent_apart : (u : SpecVersion) (n : ℕ) (t : Tree) (r : Row) → IsField t r → (HasShape t r.kind → Apart (lost u n t r.kind)) → Apart (lost u n t r.kind)
unfolding lost
absent_apart u n t r (Rattle.std.proofs.Common.inl h) f = subst (λ (x : Tree). Apart (lost u n x r.kind)) (sym h.0) tt
absent_apart u n t r (Rattle.std.proofs.Common.inr h) f = f h

item_lies : (u : SpecVersion) (n : ℕ) (t : Tree) (ts : Trees) (k : Kind) (i : ℕ) → Apart (lost u n t k) → Apart (items_lost u n ts k (suc i)) → AllStart (IsFrom (suc i)) (items_lost u n ts k (suc i))
    → Apart (items_lost u n (more t ts) k i) × AllStart (IsFrom i) (items_lost u n (more t ts) k i)
unfolding lost
item_lies u n t ts k i a b g =
    let es : List (At Reason) = entry_or (item_reason u n k t) (lost u n t k) in
    let mine : Apart (behind_step (to_item i) es) = apart_step (to_item i) es (apart_entry (item_reason u n k t) (lost u n t k) a) in (
      apart_append (IsItem i) (IsFrom (suc i)) (item_new i) (behind_step (to_item i) es) (items_lost u n ts k (suc i)) mine b (starts_behind (IsItem i) (to_item i) es refl) g,
      starts_append (IsFrom i) (behind_step (to_item i) es) (items_lost u n ts k (suc i)) (starts_behind (IsFrom i) (to_item i) es (omega arith)) (all_start_wider (IsFrom (suc i)) (IsFrom i) (from_next i) (items_lost u n ts k (suc i)) g),
    )

mutual
  unfolding lost

  pub lost_apart : (u : SpecVersion) (n : ℕ) (t : Tree) (k : Kind) → HasShape t k → Apart (lost u n t k)
  lost_apart u n absent k h = tt
  lost_apart u n (text s) k h = tt
  lost_apart u n (number m) k h = tt
  lost_apart u n (boolean b) k h = tt
  lost_apart u n (items ts) k h = (items_lie u n ts (held_kind k) 0 h.1).0
  lost_apart u n (fields m ts) k h = apart_choice k m (rows_lost u n ts (rows m)) (rows_lie u n ts (rows m) (differ m) (merged_sound m) h.1).0

  pub items_lie : (u : SpecVersion) (n : ℕ) (ts : Trees) (k : Kind) (i : ℕ) → HaveShape ts k → Apart (items_lost u n ts k i) × AllStart (IsFrom i) (items_lost u n ts k i)
  items_lie u n none k i h = (tt, tt)
  items_lie u n (more t ts) k i h =
      let rest : Apart (items_lost u n ts k (suc i)) × AllStart (IsFrom (suc i)) (items_lost u n ts k (suc i)) = items_lie u n ts k (suc i) h.1 in
      item_lies u n t ts k i (lost_apart u n t k h.0) rest.0 rest.1

  pub rows_lie : (u : SpecVersion) (n : ℕ) (ts : Trees) (rs : List Row) → members_differ rs ≡ true → all_merged_sound rs ≡ true → FieldsHaveShape ts rs → Apart (rows_lost u n ts rs) × AllStart (IsKnown rs) (rows_lost u n ts rs)
  rows_lie u n none rs d s h = (tt, tt)
  rows_lie u n (more t ts) [] d s h = (tt, tt)
  rows_lie u n (more t ts) (r ∷ rs) d s h =
      let p : (is_sound r r.json ≡ true) × (all_merged_sound rs ≡ true) = and_true (is_sound r r.json) (all_merged_sound rs) s in
      let mine : Apart (behind_row r.json (entry_or (field_reason u n r t) (lost u n t r.kind))) × AllStart (IsOwn r) (behind_row r.json (entry_or (field_reason u n r t) (lost u n t r.kind))) =
      row_lies u n r t p.0 h.0 (absent_apart u n t r h.0 (lost_apart u n t r.kind)) in
      let rest : Apart (rows_lost u n ts rs) × AllStart (IsKnown rs) (rows_lost u n ts rs) = rows_lie u n ts rs (differ_rest r rs d) p.1 h.1 in
      row_apart r rs (behind_row r.json (entry_or (field_reason u n r t) (lost u n t r.kind))) (rows_lost u n ts rs) d mine.0 rest.0 mine.1 rest.1

pub losses_lie_apart : ListsApart
losses_lie_apart b [] shape = refl
losses_lie_apart b (h ∷ hs) shape = apart_all _ (lost_apart _ _ b a_bill shape)
