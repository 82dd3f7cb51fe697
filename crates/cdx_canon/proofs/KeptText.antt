-- 1.5 keeps a bill as it is, but for its label. So what it keeps has the bill's canonical text.
use Rattle.std.specs.Prelude.{◌≡◌, refl, ℕ, List, [], ◌∷◌, Bool, true, false, not, ◌&&◌, if◌then◌else◌, ◌⊎◌}
use Rattle.std.proofs.Common.{true≢false, inl, inr}
use mathlib.Core.Path.{ap, sym, ◌∙◌, subst}
use Rattle.serde_json.specs.Written.{compact_text}
use Rattle.cdx_models.specs.declared.bom.SpecVersion.{SpecVersion}
use Rattle.cdx_models.specs.declared.bom.SpecVersion.TheVariants.{V1_3, V1_4, V1_5}
use Rattle.cdx_models.specs.Versions.{knows, label}
use Rattle.cdx_models.specs.Trees.{Name, license, expression, spdx_id, license_name, classification, service_data, tools_object, signer, signers, chain, bill, Tree, absent, text, number, boolean, items, fields, Trees, none, more, with_field}
use Rattle.cdx_schema.specs.Kinds.{Lists, hashes, Kind, a_version, a_list, a_record, a_license_choice, a_license_identifier, a_tools, a_data, an_entry, a_signature, a_bill, Row}
use Rattle.cdx_schema.specs.Held.{held_kind}
use Rattle.cdx_schema.specs.Table.{rows, list}
use Rattle.cdx_schema.specs.Keeping.{kept, items_kept, rows_kept, kept_text}
use Rattle.cdx_schema.specs.Trips.{settled}
use Rattle.cdx_schema.specs.JsonSpelling.{jspell}
use Rattle.cdx_schema.specs.Membership.{Never, HasShape, HaveShape, FieldsHaveShape, IsRecordOf, may_lack}
use Rattle.cdx_schema.specs.Laws.{HasBillShape}
use Rattle.cdx_schema.proofs.JsonBack.{and_true, not_true}
use Rattle.cdx_bom.proofs.Names.{no_more, lacks, all_lack, fields_lack}
use Rattle.cdx_canon.specs.Canon.{labelled, KeepsText}
use Rattle.cdx_schema.proofs.Basics.{more_is}
use Rattle.cdx_schema.proofs.Sound.{both}

-- ---- trees that hold no bill

abbrev pub is_bill : Name → Bool
is_bill bill = true
is_bill _ = false

-- Not the kind of a label, and not that of a bill.
abbrev is_inner : Kind → Bool
is_inner a_version = false
is_inner a_bill = false
is_inner (a_record n) = not (is_bill n)
is_inner _ = true

abbrev all_inner : List Row → Bool
all_inner [] = true
all_inner (r ∷ rs) = is_inner r.kind && all_inner rs

rows_inner : (n : Name) → is_bill n ≡ false → all_inner (rows n) ≡ true
unfolding rows
rows_inner bill h = absurd (true≢false h)
rows_inner _ h = refl

list_inner : (l : Lists) → is_inner (list l).kind ≡ true
unfolding list
list_inner hashes = refl
list_inner _ = refl

held_inner : (k : Kind) → is_inner (held_kind k) ≡ true
unfolding list
held_inner (a_list l) = list_inner l
held_inner a_tools = refl
held_inner a_data = refl
held_inner _ = refl

known_to_last : (s : SpecVersion) → knows s V1_5 ≡ true
known_to_last V1_3 = refl
known_to_last V1_4 = refl
known_to_last V1_5 = refl

text_whole : (l : SpecVersion) (k : Kind) (s : List ℕ) → is_inner k ≡ true → kept_text l k s ≡ text s
text_whole l a_version s h = absurd (true≢false (sym h))
text_whole l _ s h = refl

row_whole : (l : SpecVersion) (t : Tree) (k : Kind) (b : Bool) → b ≡ true → kept V1_5 l t k ≡ t → (if b then kept V1_5 l t k else absent) ≡ t
row_whole l t k false e f = absurd (true≢false (sym e))
row_whole l t k true e f = f

mutual
  unfolding kept lacks

  -- What holds no bill is kept whole.
  pub whole_kept : (l : SpecVersion) (t : Tree) (k : Kind) → lacks is_bill t ≡ true → is_inner k ≡ true → kept V1_5 l t k ≡ t
  whole_kept l absent k h f = refl
  whole_kept l (text s) k h f = text_whole l k s f
  whole_kept l (number n) k h f = refl
  whole_kept l (boolean b) k h f = refl
  whole_kept l (items ts) k h f = ap items (whole_items l ts (held_kind k) h (held_inner k))
  whole_kept l (fields n ts) k h f =
      let p = fields_lack is_bill n ts h in
      ap (fields n) (whole_rows l ts (rows n) p.1 p.2 (rows_inner n p.0))

  whole_items : (l : SpecVersion) (ts : Trees) (k : Kind) → all_lack is_bill ts ≡ true → is_inner k ≡ true → items_kept V1_5 l ts k ≡ ts
  whole_items l none k h f = refl
  whole_items l (more t ts) k h f =
      let p : (lacks is_bill t ≡ true) × (all_lack is_bill ts ≡ true) = and_true (lacks is_bill t) (all_lack is_bill ts) h in
      more_is (whole_kept l t k p.0 f) (whole_items l ts k p.1 f)

  whole_rows : (l : SpecVersion) (ts : Trees) (rs : List Row) → no_more ts rs ≡ true → all_lack is_bill ts ≡ true → all_inner rs ≡ true → rows_kept V1_5 l ts rs ≡ ts
  whole_rows l none rs m h f = refl
  whole_rows l (more t ts) [] m h f = absurd (true≢false (sym m))
  whole_rows l (more t ts) (r ∷ rs) m h f =
      let p : (lacks is_bill t ≡ true) × (all_lack is_bill ts ≡ true) = and_true (lacks is_bill t) (all_lack is_bill ts) h in
      let q : (is_inner r.kind ≡ true) × (all_inner rs ≡ true) = and_true (is_inner r.kind) (all_inner rs) f in
      more_is (row_whole l t r.kind (knows r.since V1_5) (known_to_last r.since) (whole_kept l t r.kind p.0 q.0)) (whole_rows l ts rs m p.1 q.1)

-- ---- under one label, a bill and what 1.5 keeps of it are equal

-- A bill that holds no other, and of which no record has more fields than rows.
abbrev pub IsWhole : Tree → Type 0
IsWhole (fields n ts) = (n ≡ bill) × ((no_more ts (rows bill) ≡ true) × (all_lack is_bill ts ≡ true))
IsWhole (items ts) = Never
IsWhole _ = Unit {0}

bill_whole : (v l : SpecVersion) (ts : Trees) → no_more ts (rows bill) ≡ true → all_lack is_bill ts ≡ true → with_field 0 (text (label v)) (rows_kept V1_5 l ts (rows bill)) ≡ with_field 0 (text (label v)) ts
unfolding kept rows lacks
bill_whole v l none m h = refl
bill_whole v l (more t ts) m h = ap (more (text (label v))) (whole_rows l ts _ m (and_true (lacks is_bill t) (all_lack is_bill ts) h).1 refl)

pub labelled_whole : (v l : SpecVersion) (b : Tree) → IsWhole b → labelled v (kept V1_5 l b a_bill) ≡ labelled v b
unfolding kept
labelled_whole v l absent h = refl
labelled_whole v l (text s) h = refl
labelled_whole v l (number n) h = refl
labelled_whole v l (boolean b) h = refl
labelled_whole v l (items ts) h = absurd (true≢false h)
labelled_whole v l (fields n ts) h =
    ap (fields n) (subst (λ (m : Name). with_field 0 (text (label v)) (rows_kept V1_5 l ts (rows m)) ≡ with_field 0 (text (label v)) ts) (sym h.0) (bill_whole v l ts h.1.0 h.1.1))

-- ---- the shape of a bill

name_inner : (n m : Name) → n ≡ m → is_bill m ≡ false → is_bill n ≡ false
name_inner n m e h = ap is_bill e ∙ h

record_inner : (k : Kind) (n : Name) (ts : Trees) → IsRecordOf k n ts → is_inner k ≡ true → is_bill n ≡ false
record_inner (a_record m) n ts is h = name_inner n m is (not_true (is_bill m) h)
record_inner a_license_choice n ts is h = elim is [ inl e ↦ name_inner n license e refl | inr e ↦ name_inner n expression e refl ]
record_inner a_license_identifier n ts is h = elim is [ inl e ↦ name_inner n spdx_id e refl | inr e ↦ name_inner n license_name e refl ]
record_inner a_tools n ts is h = name_inner n tools_object is refl
record_inner an_entry n ts is h = elim is [ inl e ↦ name_inner n classification e refl | inr e ↦ name_inner n service_data e.0 refl ]
record_inner a_signature n ts is h = by is
  where
    by : (n ≡ signers) ⊎ ((n ≡ chain) ⊎ (n ≡ signer)) → is_bill n ≡ false
    by (inl e) = name_inner n signers e refl
    by (inr (inl e)) = name_inner n chain e refl
    by (inr (inr e)) = name_inner n signer e refl
record_inner a_bill n ts is h = absurd (true≢false (sym h))
record_inner _ n ts is h = absurd (true≢false is)

no_more_shaped : (ts : Trees) (rs : List Row) → FieldsHaveShape ts rs → no_more ts rs ≡ true
no_more_shaped none rs h = refl
no_more_shaped (more t ts) [] h = absurd (true≢false h)
no_more_shaped (more t ts) (r ∷ rs) h = no_more_shaped ts rs h.1

field_lacks : (t : Tree) (r : Row) → ((t ≡ absent) × (may_lack r.need ≡ true)) ⊎ HasShape t r.kind → (HasShape t r.kind → lacks is_bill t ≡ true) → lacks is_bill t ≡ true
unfolding lacks
field_lacks t r (inl h) f = ap (lacks is_bill) h.0
field_lacks t r (inr h) f = f h

mutual
  unfolding lacks

  shaped_lacks : (t : Tree) (k : Kind) → HasShape t k → is_inner k ≡ true → lacks is_bill t ≡ true
  shaped_lacks absent k h f = refl
  shaped_lacks (text s) k h f = refl
  shaped_lacks (number n) k h f = refl
  shaped_lacks (boolean b) k h f = refl
  shaped_lacks (items ts) k h f = shaped_items ts (held_kind k) h.1 (held_inner k)
  shaped_lacks (fields n ts) k h f =
      let inner : is_bill n ≡ false = record_inner k n ts h.0 f in
      both (not (is_bill n)) (no_more ts (rows n) && all_lack is_bill ts) (ap not inner)
      (both (no_more ts (rows n)) (all_lack is_bill ts) (no_more_shaped ts (rows n) h.1) (shaped_rows ts (rows n) h.1 (rows_inner n inner)))

  shaped_items : (ts : Trees) (k : Kind) → HaveShape ts k → is_inner k ≡ true → all_lack is_bill ts ≡ true
  shaped_items none k h f = refl
  shaped_items (more t ts) k h f = both (lacks is_bill t) (all_lack is_bill ts) (shaped_lacks t k h.0 f) (shaped_items ts k h.1 f)

  shaped_rows : (ts : Trees) (rs : List Row) → FieldsHaveShape ts rs → all_inner rs ≡ true → all_lack is_bill ts ≡ true
  shaped_rows none rs h f = refl
  shaped_rows (more t ts) [] h f = absurd (true≢false h)
  shaped_rows (more t ts) (r ∷ rs) h f =
      let q : (is_inner r.kind ≡ true) × (all_inner rs ≡ true) = and_true (is_inner r.kind) (all_inner rs) f in
      both (lacks is_bill t) (all_lack is_bill ts) (field_lacks t r h.0 (λ g. shaped_lacks t r.kind g q.0)) (shaped_rows ts rs h.1 q.1)

label_lacks : (t : Tree) (b : Bool) → ((t ≡ absent) × (b ≡ true)) ⊎ HasShape t a_version → lacks is_bill t ≡ true
unfolding lacks
label_lacks absent b h = refl
label_lacks (text s) b h = refl
label_lacks (number n) b h = refl
label_lacks (boolean c) b h = refl
label_lacks (items ts) b (inl h) = ap (lacks is_bill) h.0
label_lacks (items ts) b (inr h) = absurd (true≢false h.0)
label_lacks (fields n ts) b (inl h) = ap (lacks is_bill) h.0
label_lacks (fields n ts) b (inr h) = absurd (true≢false h.0)

fields_whole : (ts : Trees) → FieldsHaveShape ts (rows bill) → all_lack is_bill ts ≡ true
unfolding lacks rows
fields_whole none h = refl
fields_whole (more t ts) h = both (lacks is_bill t) (all_lack is_bill ts) (label_lacks t false h.0) (shaped_rows ts _ h.1 refl)

pub shaped_whole : (b : Tree) → HasBillShape b → IsWhole b
shaped_whole absent h = tt
shaped_whole (text s) h = tt
shaped_whole (number n) h = tt
shaped_whole (boolean b) h = tt
shaped_whole (items ts) h = absurd (true≢false h.0)
shaped_whole (fields n ts) h =
    let shaped : FieldsHaveShape ts (rows bill) = subst (λ (m : Name). FieldsHaveShape ts (rows m)) h.0 h.1 in
    (h.0, (no_more_shaped ts (rows bill) shaped, fields_whole ts shaped))

-- ---- the law

pub keeps_text : KeepsText
keeps_text b is = ap (λ x. compact_text (jspell (settled x a_bill) V1_5 a_bill)) (labelled_whole V1_5 V1_5 b (shaped_whole b is))
