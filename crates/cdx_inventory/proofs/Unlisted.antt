-- Kinds in whose trees no component is listed.
use Rattle.std.specs.Prelude.{◌≡◌, refl, ℕ, suc, List, [], ◌∷◌, ◌++◌, Bool, true, false, ◌&&◌}
use Rattle.std.proofs.Common.{true≢false, inl, inr}
use mathlib.Core.Path.{ap, sym, ◌∙◌}
use Rattle.cdx_models.specs.Trees.{Name, component, pedigree, tools_object, metadata, bill, license, expression, spdx_id, license_name, classification, service_data, signers, chain, signer, Tree, absent, text, number, boolean, items, fields, Trees, none, more}
use Rattle.cdx_schema.specs.Kinds.{Lists, components, Kind, a_list, a_record, a_license_choice, a_license_identifier, a_tools, an_entry, a_signature, a_bill, Row}
use Rattle.cdx_schema.specs.Kinds as kinds
use Rattle.cdx_schema.specs.Held.{held_kind}
use Rattle.cdx_schema.specs.Table.{rows, list}
use Rattle.cdx_schema.specs.Membership.{HasShape, HaveShape, FieldsHaveShape, IsRecordOf}
use Rattle.cdx_schema.proofs.JsonBack.{and_true}
use Rattle.cdx_schema.proofs.Sound.{free_name, free_list}
use Rattle.cdx_ways.specs.Ways.{behind_step, behind_row, behind_choice}
use Rattle.cdx_inventory.specs.Listing.{itself, listed_in, items_listed, rows_listed}

-- nothing is listed in a tree of the kind
abbrev pub lists_none : Kind → Bool
lists_none (a_list l) = free_list l
lists_none (a_record n) = free_name n
lists_none a_tools = false
lists_none a_bill = false
lists_none _ = true

abbrev pub rows_list_none : List Row → Bool
rows_list_none [] = true
rows_list_none (r ∷ rs) = lists_none r.kind && rows_list_none rs

free_rows : (n : Name) → free_name n ≡ true → rows_list_none (rows n) ≡ true
unfolding rows
free_rows component h = absurd (true≢false (sym h))
free_rows pedigree h = absurd (true≢false (sym h))
free_rows tools_object h = absurd (true≢false (sym h))
free_rows metadata h = absurd (true≢false (sym h))
free_rows bill h = absurd (true≢false (sym h))
free_rows _ h = refl

free_items : (l : Lists) → free_list l ≡ true → lists_none (list l).kind ≡ true
unfolding list
free_items components h = absurd (true≢false (sym h))
free_items _ h = refl

held_none : (k : Kind) → lists_none k ≡ true → lists_none (held_kind k) ≡ true
unfolding list
held_none (a_list l) h = free_items l h
held_none a_tools h = absurd (true≢false (sym h))
held_none _ h = refl

free_itself : (n : Name) (ts : Trees) → free_name n ≡ true → itself n ts ≡ []
free_itself component ts h = absurd (true≢false (sym h))
free_itself _ ts h = refl

pub behind_none : (m : kinds.Member) → behind_row {A = Tree} m [] ≡ []
behind_none (kinds.member name) = refl
behind_none kinds.merged = refl

pub choice_none : (k : Kind) (n : Name) → behind_choice {A = Tree} k n [] ≡ []
choice_none a_license_choice license = refl
choice_none a_license_choice _ = refl
choice_none _ n = refl

pub append_none : {A : Type 0} (us vs : List A) → us ≡ [] → vs ≡ [] → us ++ vs ≡ []
append_none us vs p q = rw (p, q) refl

name_free : (n m : Name) → n ≡ m → free_name m ≡ true → free_name n ≡ true
name_free n m e h = ap free_name e ∙ h

-- The record of such a kind holds no component.
record_free : (k : Kind) (n : Name) (ts : Trees) → IsRecordOf k n ts → lists_none k ≡ true → free_name n ≡ true
record_free (a_record m) n ts is h = name_free n m is h
record_free a_license_choice n ts (inl e) h = name_free n license e refl
record_free a_license_choice n ts (inr e) h = name_free n expression e refl
record_free a_license_identifier n ts (inl e) h = name_free n spdx_id e refl
record_free a_license_identifier n ts (inr e) h = name_free n license_name e refl
record_free an_entry n ts (inl e) h = name_free n classification e refl
record_free an_entry n ts (inr e) h = name_free n service_data e.0 refl
record_free a_signature n ts (inl e) h = name_free n signers e refl
record_free a_signature n ts (inr (inl e)) h = name_free n chain e refl
record_free a_signature n ts (inr (inr e)) h = name_free n signer e refl
record_free a_tools n ts is h = absurd (true≢false (sym h))
record_free a_bill n ts is h = absurd (true≢false (sym h))
record_free _ n ts is h = absurd (true≢false is)

nothing_of : (n : Name) (ts : Trees) (k : Kind) → free_name n ≡ true → rows_listed ts (rows n) ≡ [] → itself n ts ++ behind_choice k n (rows_listed ts (rows n)) ≡ []
nothing_of n ts k f e = append_none (itself n ts) (behind_choice k n (rows_listed ts (rows n))) (free_itself n ts f) (ap (behind_choice k n) e ∙ choice_none k n)

mutual
  unfolding listed_in

  pub unlisted : (t : Tree) (k : Kind) → HasShape t k → lists_none k ≡ true → listed_in t k ≡ []
  unlisted absent k h f = refl
  unlisted (text s) k h f = refl
  unlisted (number n) k h f = refl
  unlisted (boolean b) k h f = refl
  unlisted (items ts) k h f = items_unlisted ts (held_kind k) 0 h.1 (held_none k f)
  unlisted (fields n ts) k h f = nothing_of n ts k (record_free k n ts h.0 f) (rows_unlisted ts (rows n) h.1 (free_rows n (record_free k n ts h.0 f)))

  pub items_unlisted : (ts : Trees) (k : Kind) (i : ℕ) → HaveShape ts k → lists_none k ≡ true → items_listed ts k i ≡ []
  items_unlisted none k i h f = refl
  items_unlisted (more t ts) k i h f = append_none (behind_step _ (listed_in t k)) (items_listed ts k (suc i)) (ap (behind_step _) (unlisted t k h.0 f)) (items_unlisted ts k (suc i) h.1 f)

  pub rows_unlisted : (ts : Trees) (rs : List Row) → FieldsHaveShape ts rs → rows_list_none rs ≡ true → rows_listed ts rs ≡ []
  rows_unlisted none rs h f = refl
  rows_unlisted (more t ts) [] h f = refl
  rows_unlisted (more t ts) (r ∷ rs) h f =
      let p : (lists_none r.kind ≡ true) × (rows_list_none rs ≡ true) = and_true (lists_none r.kind) (rows_list_none rs) f in
      append_none (behind_row r.json (listed_in t r.kind)) (rows_listed ts rs)
      (ap (behind_row r.json) (elim h.0 [ inl e ↦ ap (λ x. listed_in x r.kind) e.0 | inr e ↦ unlisted t r.kind e p.0 ]) ∙ behind_none r.json)
      (rows_unlisted ts rs h.1 p.1)

-- A record that holds no component lists none.
pub record_unlisted : (n : Name) (ts : Trees) (k : Kind) → FieldsHaveShape ts (rows n) → free_name n ≡ true → listed_in (fields n ts) k ≡ []
unfolding listed_in
record_unlisted n ts k h f = nothing_of n ts k f (rows_unlisted ts (rows n) h (free_rows n f))
