-- Each loss leads to something that the bill holds.
use Rattle.std.specs.Prelude.{◌≡◌, refl, ℕ, zero, suc, List, [], ◌∷◌, true, false, is_some, Option, Some, None, option_and_then, codes, ◌⊎◌}
use Rattle.std.proofs.Common.{true≢false, inl, inr}
use mathlib.Core.Path.{ap, sym, ◌∙◌, subst}
use Rattle.cdx_models.specs.declared.errors.Step.{Step}
use Rattle.cdx_models.specs.declared.bom.SpecVersion.{SpecVersion}
use Rattle.cdx_models.specs.Trees.{Name, license, Tree, absent, text, number, boolean, items, fields, Trees, none, more, is_absent}
use Rattle.cdx_schema.specs.Kinds.{Kind, a_license_choice, Row}
use Rattle.cdx_schema.specs.Kinds as kinds
use Rattle.cdx_schema.specs.Held.{held_kind}
use Rattle.cdx_schema.specs.Table.{rows}
use Rattle.cdx_schema.specs.Faults.{to_member, to_item}
use Rattle.cdx_schema.specs.JsonReading.{or_else}
use Rattle.cdx_ways.specs.Ways.{At, behind_step, behind_row, behind_choice, after_step, after_row, after_choice, whole, found, found_item, found_row}
use Rattle.cdx_ways.proofs.Lists.{In, in_either, in_behind, contains_in, after_own}
use Rattle.cdx_losses.specs.declared.loss.Reason.{Reason}
use Rattle.cdx_losses.specs.Losses.{field_reason, item_reason, entry_or, lost, items_lost, rows_lost}
use Rattle.cdx_losses.specs.Laws.{LeadsToLosses}

left_some : {A : Type 0} (a b : Option A) → is_some a ≡ true → is_some (or_else a b) ≡ true
left_some (Some x) b h = refl
left_some None b h = absurd (true≢false (sym h))

right_some : {A : Type 0} (a b : Option A) → is_some b ≡ true → is_some (or_else a b) ≡ true
right_some (Some x) b h = refl
right_some None b h = h

-- ---- behind a step

-- a path that is listed behind a part, and the path behind it
abbrev Behind : {A : Type 0} → Option (List Step) → A → List (At A) → Type 0
Behind o why xs = (q : List Step) × (o ≡ Some q) × In (q, why) xs

in_step : {A : Type 0} (s : Step) (p : List Step) (why : A) (xs : List (At A)) → In (p, why) (behind_step s xs) → Behind (after_step s p) why xs
in_step s p why xs h = let b = in_behind s p why xs h in (b.0, ap (after_step s) b.1 ∙ after_own s b.0, b.2)

in_row : {A : Type 0} (m : kinds.Member) (p : List Step) (why : A) (xs : List (At A)) → In (p, why) (behind_row m xs) → Behind (after_row m p) why xs
in_row (kinds.member name) p why xs h = in_step (to_member name) p why xs h
in_row kinds.merged p why xs h = (p, refl, h)

in_choice : {A : Type 0} (k : Kind) (n : Name) (p : List Step) (why : A) (xs : List (At A)) → In (p, why) (behind_choice k n xs) → Behind (after_choice k n p) why xs
in_choice a_license_choice license p why xs h = in_step (to_member (codes "license")) p why xs h
in_choice _ n p why xs h = (p, refl, h)

-- What leads on from the part leads on from the value around it.
on_from : {A : Type 0} (f : List Step → Option A) (o : Option (List Step)) (q : List Step) → o ≡ Some q → is_some (f q) ≡ true → is_some (option_and_then f o) ≡ true
on_from f o q is h = ap (λ x. is_some (option_and_then f x)) is ∙ h

-- ---- entries

found_itself : (t : Tree) (k : Kind) → is_absent t ≡ false → is_some (found t k []) ≡ true
unfolding found
found_itself absent k h = absurd (true≢false h)
found_itself (text s) k h = refl
found_itself (number n) k h = refl
found_itself (boolean b) k h = refl
found_itself (items ts) k h = refl
found_itself (fields n ts) k h = refl

field_there : (u : SpecVersion) (n : ℕ) (r : Row) (t : Tree) → is_some (field_reason u n r t) ≡ true → is_absent t ≡ false
field_there u n r absent h = absurd (true≢false (sym h))
field_there u n r (text s) h = refl
field_there u n r (number m) h = refl
field_there u n r (boolean b) h = refl
field_there u n r (items ts) h = refl
field_there u n r (fields m ts) h = refl

item_there : (u : SpecVersion) (n : ℕ) (k : Kind) (t : Tree) → is_some (item_reason u n k t) ≡ true → is_absent t ≡ false
item_there u zero k absent h = absurd (true≢false (sym h))
item_there u (suc n) k absent h = absurd (true≢false (sym h))
item_there u n k (text s) h = refl
item_there u n k (number m) h = refl
item_there u n k (boolean b) h = refl
item_there u n k (items ts) h = refl
item_there u n k (fields m ts) h = refl

entry_leads : (o : Option Reason) (xs : List (At Reason)) (t : Tree) (k : Kind) (p : List Step) (why : Reason) → (is_some o ≡ true → is_absent t ≡ false)
    → (In (p, why) xs → is_some (found t k p) ≡ true) → In (p, why) (entry_or o xs) → is_some (found t k p) ≡ true
entry_leads None xs t k p why h f g = f g
entry_leads (Some w) xs t k p why h f (inl e) = subst (λ (q : List Step). is_some (found t k q) ≡ true) (ap (λ z. z.0) e) (found_itself t k (h refl))
entry_leads (Some w) xs t k p why h f (inr g) = elim g [ ]

-- ---- losses

item_leads : (u : SpecVersion) (n : ℕ) (t : Tree) (ts : Trees) (k : Kind) (i : ℕ) (p : List Step) (why : Reason)
    → ((q : List Step) (w : Reason) → In (q, w) (lost u n t k) → is_some (found t k q) ≡ true)
    → (In (p, why) (items_lost u n ts k (suc i)) → is_some (found_item ts k (suc i) p) ≡ true)
    → In (p, why) (behind_step (to_item i) (entry_or (item_reason u n k t) (lost u n t k))) ⊎ In (p, why) (items_lost u n ts k (suc i))
    → is_some (found_item (more t ts) k i p) ≡ true
unfolding found
item_leads u n t ts k i p why f g (inl h) =
    let b : Behind (after_step (to_item i) p) why (entry_or (item_reason u n k t) (lost u n t k)) = in_step (to_item i) p why (entry_or (item_reason u n k t) (lost u n t k)) h in
    left_some (option_and_then (λ q. found t k q) (after_step (to_item i) p)) (found_item ts k (suc i) p)
    (on_from (λ q. found t k q) (after_step (to_item i) p) b.0 b.1 (entry_leads (item_reason u n k t) (lost u n t k) t k b.0 why (item_there u n k t) (f b.0 why) b.2))
item_leads u n t ts k i p why f g (inr h) = right_some (option_and_then (λ q. found t k q) (after_step (to_item i) p)) (found_item ts k (suc i) p) (g h)

row_leads : (u : SpecVersion) (n : ℕ) (t : Tree) (ts : Trees) (r : Row) (rs : List Row) (p : List Step) (why : Reason)
    → ((q : List Step) (w : Reason) → In (q, w) (lost u n t r.kind) → is_some (found t r.kind q) ≡ true)
    → (In (p, why) (rows_lost u n ts rs) → is_some (found_row ts rs p) ≡ true)
    → In (p, why) (behind_row r.json (entry_or (field_reason u n r t) (lost u n t r.kind))) ⊎ In (p, why) (rows_lost u n ts rs)
    → is_some (found_row (more t ts) (r ∷ rs) p) ≡ true
unfolding found
row_leads u n t ts r rs p why f g (inl h) =
    let b : Behind (after_row r.json p) why (entry_or (field_reason u n r t) (lost u n t r.kind)) = in_row r.json p why (entry_or (field_reason u n r t) (lost u n t r.kind)) h in
    left_some (option_and_then (λ q. found t r.kind q) (after_row r.json p)) (found_row ts rs p)
    (on_from (λ q. found t r.kind q) (after_row r.json p) b.0 b.1 (entry_leads (field_reason u n r t) (lost u n t r.kind) t r.kind b.0 why (field_there u n r t) (f b.0 why) b.2))
row_leads u n t ts r rs p why f g (inr h) = right_some (option_and_then (λ q. found t r.kind q) (after_row r.json p)) (found_row ts rs p) (g h)

mutual
  unfolding lost found

  lost_lead : (u : SpecVersion) (n : ℕ) (t : Tree) (k : Kind) (p : List Step) (why : Reason) → In (p, why) (lost u n t k) → is_some (found t k p) ≡ true
  lost_lead u n absent k p why h = elim h [ ]
  lost_lead u n (text s) k p why h = elim h [ ]
  lost_lead u n (number m) k p why h = elim h [ ]
  lost_lead u n (boolean b) k p why h = elim h [ ]
  lost_lead u n (items ts) k p why h = right_some (whole (items ts) p) (found_item ts (held_kind k) 0 p) (items_lead u n ts (held_kind k) 0 p why h)
  lost_lead u n (fields m ts) k p why h =
      let b : Behind (after_choice k m p) why (rows_lost u n ts (rows m)) = in_choice k m p why (rows_lost u n ts (rows m)) h in
      right_some (whole (fields m ts) p) (option_and_then (λ q. found_row ts (rows m) q) (after_choice k m p))
      (on_from (λ q. found_row ts (rows m) q) (after_choice k m p) b.0 b.1 (rows_lead u n ts (rows m) b.0 why b.2))

  items_lead : (u : SpecVersion) (n : ℕ) (ts : Trees) (k : Kind) (i : ℕ) (p : List Step) (why : Reason) → In (p, why) (items_lost u n ts k i) → is_some (found_item ts k i p) ≡ true
  items_lead u n none k i p why h = elim h [ ]
  items_lead u n (more t ts) k i p why h =
      item_leads u n t ts k i p why (lost_lead u n t k) (items_lead u n ts k (suc i) p why) (in_either (p, why) (behind_step (to_item i) (entry_or (item_reason u n k t) (lost u n t k))) (items_lost u n ts k (suc i)) h)

  rows_lead : (u : SpecVersion) (n : ℕ) (ts : Trees) (rs : List Row) (p : List Step) (why : Reason) → In (p, why) (rows_lost u n ts rs) → is_some (found_row ts rs p) ≡ true
  rows_lead u n none rs p why h = elim h [ ]
  rows_lead u n (more t ts) [] p why h = elim h [ ]
  rows_lead u n (more t ts) (r ∷ rs) p why h =
      row_leads u n t ts r rs p why (lost_lead u n t r.kind) (rows_lead u n ts rs p why) (in_either (p, why) (behind_row r.json (entry_or (field_reason u n r t) (lost u n t r.kind))) (rows_lost u n ts rs) h)

pub losses_lead : LeadsToLosses
losses_lead b [] p why h = elim (contains_in (p, why) [] h) [ ]
losses_lead b (h ∷ hs) p why c = lost_lead _ _ b _ p why (contains_in (p, why) _ c)
