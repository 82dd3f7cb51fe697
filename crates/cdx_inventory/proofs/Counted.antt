-- As many components are listed as stand in a bill.
use Rattle.std.specs.Prelude.{◌≡◌, refl, ℕ, suc, ◌+◌, List, [], ◌∷◌, length, Bool, true, false, if◌then◌else◌, ◌⊎◌}
use Rattle.std.proofs.Common.{true≢false, inl, inr}
use Rattle.std.proofs.lemmas.List.{length-append, length-map}
use mathlib.Core.Path.{ap, sym, ◌∙◌}
use Rattle.cdx_models.specs.declared.errors.Step.{Step}
use Rattle.cdx_models.specs.Trees.{Name, license, Tree, absent, text, number, boolean, items, fields, Trees, none, more}
use Rattle.cdx_schema.specs.Kinds.{Kind, a_license_choice, a_bill, Row}
use Rattle.cdx_schema.specs.Kinds as kinds
use Rattle.cdx_schema.specs.Held.{held_kind}
use Rattle.cdx_schema.specs.Table.{rows}
use Rattle.cdx_schema.specs.Membership.{HasShape, HaveShape, FieldsHaveShape}
use Rattle.cdx_schema.specs.Laws.{HasBillShape}
use Rattle.cdx_ways.specs.Ways.{At, behind_step, behind_row, behind_choice}
use Rattle.cdx_inventory.specs.Listing.{is_component, itself, listed_in, items_listed, rows_listed, listed, count_in, count_in_each}

step_length : {A : Type 0} (s : Step) (us : List (At A)) → length (behind_step s us) ≡ length us
step_length s us = length-map us _

row_length : {A : Type 0} (m : kinds.Member) (us : List (At A)) → length (behind_row m us) ≡ length us
row_length (kinds.member name) us = step_length _ us
row_length kinds.merged us = refl

choice_length : {A : Type 0} (k : Kind) (n : Name) (us : List (At A)) → length (behind_choice k n us) ≡ length us
choice_length a_license_choice license us = step_length _ us
choice_length a_license_choice n us = refl
choice_length _ n us = refl

itself_length : (n : Name) (ts : Trees) (b : Bool) → length {A = At Tree} (if b then ([], fields n ts) ∷ [] else []) ≡ (if b then 1 else 0)
itself_length n ts true = refl
itself_length n ts false = refl

plus : {a b c d : ℕ} → a ≡ b → c ≡ d → a + c ≡ b + d
plus p q = rw (p, q) refl

field_count : {B : Type 0} (t : Tree) (k : Kind) → (HasShape t k → length (listed_in t k) ≡ count_in t) → ((t ≡ absent) × B) ⊎ HasShape t k → length (listed_in t k) ≡ count_in t
unfolding listed_in count_in
field_count t k f (inr h) = f h
field_count t k f (inl e) = ap (λ x. length (listed_in x k)) e.0 ∙ sym (ap count_in e.0)

mutual
  unfolding listed_in count_in

  listed_count : (t : Tree) (k : Kind) → HasShape t k → length (listed_in t k) ≡ count_in t
  listed_count absent k h = refl
  listed_count (text s) k h = refl
  listed_count (number n) k h = refl
  listed_count (boolean b) k h = refl
  listed_count (items ts) k h = items_count ts (held_kind k) 0 h.1
  listed_count (fields n ts) k h =
      length-append (itself n ts) (behind_choice k n (rows_listed ts (rows n)))
      ∙ plus (itself_length n ts (is_component n)) (choice_length k n (rows_listed ts (rows n)) ∙ rows_count ts (rows n) h.1)

  items_count : (ts : Trees) (k : Kind) (i : ℕ) → HaveShape ts k → length (items_listed ts k i) ≡ count_in_each ts
  items_count none k i h = refl
  items_count (more t ts) k i h =
      length-append (behind_step _ (listed_in t k)) (items_listed ts k (suc i)) ∙ plus (step_length _ (listed_in t k) ∙ listed_count t k h.0) (items_count ts k (suc i) h.1)

  rows_count : (ts : Trees) (rs : List Row) → FieldsHaveShape ts rs → length (rows_listed ts rs) ≡ count_in_each ts
  rows_count none rs h = refl
  rows_count (more t ts) [] h = absurd (true≢false h)
  rows_count (more t ts) (r ∷ rs) h =
      length-append (behind_row r.json (listed_in t r.kind)) (rows_listed ts rs)
      ∙ plus (row_length r.json (listed_in t r.kind) ∙ field_count t r.kind (listed_count t r.kind) h.0) (rows_count ts rs h.1)

pub counts_all : (b : Tree) → HasBillShape b → length (listed b) ≡ count_in b
counts_all b h = listed_count b a_bill h
