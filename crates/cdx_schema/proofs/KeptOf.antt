-- What a version keeps of a tree of a kind is of that kind, and fits what the tree fits. Q is what is asked of a text.
use Rattle.std.specs.Prelude.{◌≡◌, refl, ℕ, zero, suc, List, [], ◌∷◌, Bool, true, false, not, ◌&&◌, if◌then◌else◌, ◌⊎◌}
use Rattle.std.proofs.Common.{true≢false, inl, inr}
use mathlib.Core.Path.{ap, sym, ◌∙◌, subst}
use Rattle.cdx_models.specs.declared.bom.SpecVersion.{SpecVersion}
use Rattle.cdx_models.specs.declared.bom.SpecVersion.TheVariants.{V1_3, V1_4, V1_5}
use Rattle.cdx_models.specs.Versions.{knows}
use Rattle.cdx_models.specs.Trees.{Name, classification, service_data, tools_object, Tree, absent, text, number, boolean, items, fields, Trees, none, more, field, is_absent}
use Rattle.cdx_schema.specs.Kinds.{Kind, a_version, a_record, a_license_choice, a_license_identifier, a_tools, an_entry, a_signature, a_bill, Need, optional, required_first, Row}
use Rattle.cdx_schema.specs.Table.{rows}
use Rattle.cdx_schema.specs.Held.{held_kind}
use Rattle.cdx_models.specs.Entries.{is_flow}
use Rattle.cdx_schema.specs.Depth.{Depth, inside, name_too_deep}
use Rattle.cdx_schema.specs.Keeping.{kept, items_kept, rows_kept, kept_text, kept_record, before_1_5, has_versions, items_have_versions, rows_have_versions, is_there, is_shallow, are_shallow}
use Rattle.cdx_schema.specs.Membership.{IsOfAll, AreOfAll, AreFieldsAll, AnyText, HasShape, HaveShape, FieldsHaveShape, IsTextOf, IsRecordOf, may_lack}
use Rattle.cdx_schema.proofs.JsonBack.{and_true}
use Rattle.cdx_schema.proofs.KeptTwice.{stays}
use Rattle.cdx_schema.proofs.HeldKept.{label_is, flow_stays}
use Rattle.cdx_schema.proofs.Sound.{both, free_kind, there, free_need, free_there, free_rows, sound_since, all_sound, sound, sound_parts}

pub class_entry : (Q : List ℕ → Type 0) (t : Tree) → IsOfAll Q t (a_record classification) → IsOfAll Q t an_entry
class_entry Q (items ts) h = absurd (true≢false h.0)
class_entry Q (fields n ts) h = (inl h.0, h.1)
class_entry Q _ h = h

required_of : (Q : List ℕ → Type 0) (t : Tree) (k : Kind) → ((t ≡ absent) × (false ≡ true)) ⊎ IsOfAll Q t k → IsOfAll Q t k
required_of Q t k (inl h) = absurd (true≢false (sym h.1))
required_of Q t k (inr h) = h

pub third_of : (Q : List ℕ → Type 0) (ts : Trees) → AreFieldsAll Q ts (rows service_data) → IsOfAll Q (field 2 ts) (a_record classification)
unfolding rows
third_of Q none h = absurd (true≢false h)
third_of Q (more a none) h = absurd (true≢false h.1)
third_of Q (more a (more b none)) h = absurd (true≢false h.1.1)
third_of Q (more a (more b (more c ts))) h = required_of Q c (a_record classification) h.1.1.0

text_of_kept : (Q : List ℕ → Type 0) (l : SpecVersion) (k : Kind) (s : List ℕ) → IsTextOf Q k s → IsOfAll Q (kept_text l k s) k
text_of_kept Q l a_version s h = label_is l
text_of_kept Q l _ s h = h

plain_of : (Q : List ℕ → Type 0) (w : SpecVersion) (k : Kind) (n : Name) (us : Trees) → before_1_5 k n us ≡ fields n us → IsOfAll Q (fields n us) k → IsOfAll Q (kept_record w k n us) k
plain_of Q w k n us e h = subst (λ (t : Tree). IsOfAll Q t k) (sym (stays w k n us e)) h

tools_of_kept : (Q : List ℕ → Type 0) (w l : SpecVersion) (us : Trees) → AreFieldsAll Q us (rows tools_object) → IsOfAll Q (kept_record w a_tools tools_object us) a_tools
tools_of_kept Q V1_3 l us h = (tt, tt)
tools_of_kept Q V1_4 l us h = (tt, tt)
tools_of_kept Q V1_5 l us h = (refl, h)

flow_of_kept : (Q : List ℕ → Type 0) (w l : SpecVersion) (ts : Trees) → is_flow service_data ts ≡ true → AreFieldsAll Q (rows_kept w l ts (rows service_data)) (rows service_data)
    → IsOfAll Q (kept_record w an_entry service_data (rows_kept w l ts (rows service_data))) an_entry
flow_of_kept Q V1_3 l ts f h = class_entry Q _ (third_of Q (rows_kept V1_3 l ts (rows service_data)) h)
flow_of_kept Q V1_4 l ts f h = class_entry Q _ (third_of Q (rows_kept V1_4 l ts (rows service_data)) h)
flow_of_kept Q V1_5 l ts f h = (inr (refl, flow_stays V1_5 l ts ∙ f), h)

record_of_kept : (Q : List ℕ → Type 0) (w l : SpecVersion) (k : Kind) (n : Name) (ts : Trees) → IsRecordOf k n ts → AreFieldsAll Q (rows_kept w l ts (rows n)) (rows n) → IsOfAll Q (kept_record w k n (rows_kept w l ts (rows n))) k
record_of_kept Q w l (a_record m) n ts is h = plain_of Q w (a_record m) n (rows_kept w l ts (rows n)) refl (is, h)
record_of_kept Q w l a_license_choice n ts is h = plain_of Q w a_license_choice n (rows_kept w l ts (rows n)) refl (is, h)
record_of_kept Q w l a_license_identifier n ts is h = plain_of Q w a_license_identifier n (rows_kept w l ts (rows n)) refl (is, h)
record_of_kept Q w l a_tools n ts is h = subst (λ (m : Name). AreFieldsAll Q (rows_kept w l ts (rows m)) (rows m) → IsOfAll Q (kept_record w a_tools m (rows_kept w l ts (rows m))) a_tools) (sym is) (tools_of_kept Q w l (rows_kept w l ts (rows tools_object))) h
record_of_kept Q w l an_entry n ts (inl is) h = plain_of Q w an_entry n (rows_kept w l ts (rows n)) (subst (λ (m : Name). before_1_5 an_entry m (rows_kept w l ts (rows n)) ≡ fields m (rows_kept w l ts (rows n))) (sym is) refl) (inl is, h)
record_of_kept Q w l an_entry n ts (inr is) h = subst (λ (m : Name). is_flow m ts ≡ true → AreFieldsAll Q (rows_kept w l ts (rows m)) (rows m) → IsOfAll Q (kept_record w an_entry m (rows_kept w l ts (rows m))) an_entry) (sym is.0) (flow_of_kept Q w l ts) is.1 h
record_of_kept Q w l a_signature n ts is h = plain_of Q w a_signature n (rows_kept w l ts (rows n)) refl (is, h)
record_of_kept Q w l a_bill n ts is h = plain_of Q w a_bill n (rows_kept w l ts (rows n)) refl (is, h)
record_of_kept Q w l _ n ts is h = absurd (true≢false is)

-- A field of a row: of the row's kind, or absent where it may be.
abbrev pub IsFieldAll : (List ℕ → Type 0) → Tree → Row → Type 0
IsFieldAll Q t r = ((t ≡ absent) × (may_lack r.need ≡ true)) ⊎ IsOfAll Q t r.kind

abbrev pub IsField : Tree → Row → Type 0
IsField t r = IsFieldAll AnyText t r

pub lacks_since : (v : SpecVersion) (n : Need) (k : Kind) (w : SpecVersion) → sound_since v n k ≡ true → knows v w ≡ false → may_lack n ≡ true
lacks_since V1_3 n k w s h = absurd (true≢false h)
lacks_since V1_4 optional k w s h = refl
lacks_since V1_4 _ k w s h = absurd (true≢false (sym s))
lacks_since V1_5 optional k w s h = refl
lacks_since V1_5 _ k w s h = absurd (true≢false (sym s))

row_of_kept : (Q : List ℕ → Type 0) (w l : SpecVersion) (t : Tree) (r : Row) (b : Bool) → knows r.since w ≡ b → sound_since r.since r.need r.kind ≡ true → IsFieldAll Q t r → (IsOfAll Q t r.kind → IsOfAll Q (kept w l t r.kind) r.kind) → IsFieldAll Q (if b then kept w l t r.kind else absent) r
unfolding kept
row_of_kept Q w l t r false known s h f = inl (refl, lacks_since r.since r.need r.kind w s known)
row_of_kept Q w l t r true known s (inl h) f = inl (ap (λ x. kept w l x r.kind) h.0, h.1)
row_of_kept Q w l t r true known s (inr h) f = inr (f h)

mutual
  unfolding kept

  pub kept_of : (Q : List ℕ → Type 0) (w l : SpecVersion) (t : Tree) (k : Kind) → IsOfAll Q t k → IsOfAll Q (kept w l t k) k
  kept_of Q w l absent k h = absurd (true≢false h)
  kept_of Q w l (text s) k h = text_of_kept Q l k s h
  kept_of Q w l (number n) k h = h
  kept_of Q w l (boolean b) k h = h
  kept_of Q w l (items ts) k h = (h.0, items_kept_of Q w l ts (held_kind k) h.1)
  kept_of Q w l (fields n ts) k h = record_of_kept Q w l k n ts h.0 (rows_kept_of Q w l ts (rows n) (sound n) h.1)

  pub items_kept_of : (Q : List ℕ → Type 0) (w l : SpecVersion) (ts : Trees) (k : Kind) → AreOfAll Q ts k → AreOfAll Q (items_kept w l ts k) k
  items_kept_of Q w l none k h = tt
  items_kept_of Q w l (more t ts) k h = (kept_of Q w l t k h.0, items_kept_of Q w l ts k h.1)

  pub rows_kept_of : (Q : List ℕ → Type 0) (w l : SpecVersion) (ts : Trees) (rs : List Row) → all_sound rs ≡ true → AreFieldsAll Q ts rs → AreFieldsAll Q (rows_kept w l ts rs) rs
  rows_kept_of Q w l none [] s h = tt
  rows_kept_of Q w l none (r ∷ rs) s h = h
  rows_kept_of Q w l (more t ts) [] s h = absurd (true≢false h)
  rows_kept_of Q w l (more t ts) (r ∷ rs) s h = (
    row_of_kept Q w l t r (knows r.since w) refl (sound_parts r rs s).0 h.0 (kept_of Q w l t r.kind),
    rows_kept_of Q w l ts rs (sound_parts r rs s).2 h.1,
  )

-- ---- versions

pub of_there : (Q : List ℕ → Type 0) (t : Tree) (k : Kind) → IsOfAll Q t k → is_absent t ≡ false
of_there Q absent k h = absurd (true≢false h)
of_there Q _ k h = refl

pub absent_kept : (w l : SpecVersion) (t : Tree) (r : Row) → IsField t r → is_absent (kept w l t r.kind) ≡ is_absent t
unfolding kept
absent_kept w l t r (inl h) = ap (λ x. is_absent (kept w l x r.kind)) h.0 ∙ sym (ap is_absent h.0)
absent_kept w l t r (inr h) = of_there AnyText (kept w l t r.kind) r.kind (kept_of AnyText w l t r.kind h) ∙ sym (of_there AnyText t r.kind h)

pub there_alike : (n : Need) (t u : Tree) → is_absent t ≡ is_absent u → is_there n t ≡ is_there n u
there_alike required_first t u h = ap not h
there_alike _ t u h = refl

text_versions : (l : SpecVersion) (k : Kind) (s : List ℕ) → has_versions (kept_text l k s) k ≡ true
unfolding has_versions
text_versions l a_version s = refl
text_versions l _ s = refl

tools_versions : (w : SpecVersion) (us : Trees) → has_versions (kept_record w a_tools tools_object us) a_tools ≡ true
unfolding has_versions
tools_versions V1_3 us = refl
tools_versions V1_4 us = refl
tools_versions V1_5 us = refl

flow_versions : (w l : SpecVersion) (ts : Trees) → HasShape (kept_record w an_entry service_data (rows_kept w l ts (rows service_data))) an_entry → FieldsHaveShape ts (rows service_data)
    → has_versions (kept_record w an_entry service_data (rows_kept w l ts (rows service_data))) an_entry ≡ rows_have_versions ts (rows service_data)
flow_versions w l ts f h = free_there _ an_entry f refl ∙ sym (free_rows ts (rows service_data) h (unfold rows in refl))

plain_versions : (w : SpecVersion) (k : Kind) (n : Name) (us : Trees) (b : Bool) → before_1_5 k n us ≡ fields n us → has_versions (fields n us) k ≡ b → has_versions (kept_record w k n us) k ≡ b
plain_versions w k n us b e h = ap (λ t. has_versions t k) (stays w k n us e) ∙ h

record_versions : (w l : SpecVersion) (k : Kind) (n : Name) (ts : Trees) → IsRecordOf k n ts → FieldsHaveShape ts (rows n) → FieldsHaveShape (rows_kept w l ts (rows n)) (rows n)
    → rows_have_versions (rows_kept w l ts (rows n)) (rows n) ≡ rows_have_versions ts (rows n)
    → has_versions (kept_record w k n (rows_kept w l ts (rows n))) k ≡ has_versions (fields n ts) k
unfolding has_versions
record_versions w l (a_record m) n ts is f g h = plain_versions w (a_record m) n (rows_kept w l ts (rows n)) (rows_have_versions ts (rows n)) refl h
record_versions w l a_license_choice n ts is f g h = plain_versions w a_license_choice n (rows_kept w l ts (rows n)) (rows_have_versions ts (rows n)) refl h
record_versions w l a_license_identifier n ts is f g h = plain_versions w a_license_identifier n (rows_kept w l ts (rows n)) (rows_have_versions ts (rows n)) refl h
record_versions w l a_tools n ts is f g h = subst (λ (m : Name). has_versions (kept_record w a_tools m (rows_kept w l ts (rows n))) a_tools ≡ true) (sym is) (tools_versions w (rows_kept w l ts (rows n)))
record_versions w l an_entry n ts (inl is) f g h = plain_versions w an_entry n (rows_kept w l ts (rows n)) (rows_have_versions ts (rows n)) (subst (λ (m : Name). before_1_5 an_entry m (rows_kept w l ts (rows n)) ≡ fields m (rows_kept w l ts (rows n))) (sym is) refl) h
record_versions w l an_entry n ts (inr is) f g h =
    subst (λ (m : Name). HasShape (kept_record w an_entry m (rows_kept w l ts (rows m))) an_entry → FieldsHaveShape ts (rows m) → has_versions (kept_record w an_entry m (rows_kept w l ts (rows m))) an_entry ≡ rows_have_versions ts (rows m)) (sym is.0)
    (flow_versions w l ts) (record_of_kept AnyText w l an_entry n ts (inr is) g) f
record_versions w l a_signature n ts is f g h = plain_versions w a_signature n (rows_kept w l ts (rows n)) (rows_have_versions ts (rows n)) refl h
record_versions w l a_bill n ts is f g h = plain_versions w a_bill n (rows_kept w l ts (rows n)) (rows_have_versions ts (rows n)) refl h
record_versions w l _ n ts is f g h = absurd (true≢false is)

optional_since : (v : SpecVersion) (n : Need) (k : Kind) (w : SpecVersion) → sound_since v n k ≡ true → knows v w ≡ false → (free_need n ≡ true) × (free_kind k ≡ true)
optional_since V1_3 n k w s h = absurd (true≢false h)
optional_since V1_4 optional k w s h = (refl, s)
optional_since V1_4 _ k w s h = absurd (true≢false (sym s))
optional_since V1_5 optional k w s h = (refl, s)
optional_since V1_5 _ k w s h = absurd (true≢false (sym s))

-- A field that may be dropped has its versions.
pub dropped_versions : (t : Tree) (r : Row) → free_need r.need ≡ true → free_kind r.kind ≡ true → IsField t r → (is_there r.need absent && has_versions absent r.kind) ≡ (is_there r.need t && has_versions t r.kind)
unfolding has_versions
dropped_versions t r n k h = both (is_there r.need absent) true (there r.need absent n) refl
    ∙ sym (both (is_there r.need t) (has_versions t r.kind) (there r.need t n) (elim h [ inl e ↦ ap (λ x. has_versions x r.kind) e.0 | inr e ↦ free_there t r.kind e k ]))

pub and_alike : {a b c d : Bool} → a ≡ c → b ≡ d → (a && b) ≡ (c && d)
and_alike p q = rw (p, q) refl

row_versions : (w l : SpecVersion) (t : Tree) (r : Row) (b : Bool) → knows r.since w ≡ b → sound_since r.since r.need r.kind ≡ true → IsField t r
    → (HasShape t r.kind → has_versions (kept w l t r.kind) r.kind ≡ has_versions t r.kind)
    → (is_there r.need (if b then kept w l t r.kind else absent) && has_versions (if b then kept w l t r.kind else absent) r.kind) ≡ (is_there r.need t && has_versions t r.kind)
unfolding kept has_versions
row_versions w l t r false known s h f = dropped_versions t r (optional_since r.since r.need r.kind w s known).0 (optional_since r.since r.need r.kind w s known).1 h
row_versions w l t r true known s h f = and_alike (there_alike r.need (kept w l t r.kind) t (absent_kept w l t r h))
    (elim h [ inl e ↦ ap (λ x. has_versions (kept w l x r.kind) r.kind) e.0 ∙ sym (ap (λ x. has_versions x r.kind) e.0) | inr e ↦ f e ])

mutual
  unfolding kept has_versions

  pub kept_versions : (w l : SpecVersion) (t : Tree) (k : Kind) → HasShape t k → has_versions (kept w l t k) k ≡ has_versions t k
  kept_versions w l (text s) k h = text_versions l k s
  kept_versions w l (items ts) k h = items_kept_versions w l ts (held_kind k) h.1
  kept_versions w l (fields n ts) k h = record_versions w l k n ts h.0 h.1 (rows_kept_of AnyText w l ts (rows n) (sound n) h.1) (rows_kept_versions w l ts (rows n) (sound n) h.1)
  kept_versions w l _ k h = refl

  items_kept_versions : (w l : SpecVersion) (ts : Trees) (k : Kind) → HaveShape ts k → items_have_versions (items_kept w l ts k) k ≡ items_have_versions ts k
  items_kept_versions w l none k h = refl
  items_kept_versions w l (more t ts) k h = and_alike (kept_versions w l t k h.0) (items_kept_versions w l ts k h.1)

  rows_kept_versions : (w l : SpecVersion) (ts : Trees) (rs : List Row) → all_sound rs ≡ true → FieldsHaveShape ts rs → rows_have_versions (rows_kept w l ts rs) rs ≡ rows_have_versions ts rs
  rows_kept_versions w l none rs s h = refl
  rows_kept_versions w l (more t ts) [] s h = refl
  rows_kept_versions w l (more t ts) (r ∷ rs) s h = and_alike (row_versions w l t r (knows r.since w) refl (sound_parts r rs s).0 h.0 (kept_versions w l t r.kind)) (rows_kept_versions w l ts rs (sound_parts r rs s).2 h.1)

-- ---- depth

field_shallow : (i : ℕ) (ts : Trees) (d : Depth) → are_shallow ts d ≡ true → is_shallow (field i ts) d ≡ true
unfolding is_shallow
field_shallow i none d h = refl
field_shallow zero (more t ts) d h = (and_true (is_shallow t d) (are_shallow ts d) h).0
field_shallow (suc i) (more t ts) d h = field_shallow i ts d (and_true (is_shallow t d) (are_shallow ts d) h).1

before_shallow : (k : Kind) (n : Name) (us : Trees) (d : Depth) → is_shallow (fields n us) d ≡ true → is_shallow (before_1_5 k n us) d ≡ true
unfolding is_shallow
before_shallow a_tools tools_object us d h = refl
before_shallow a_tools _ us d h = h
before_shallow an_entry service_data us d h = field_shallow 2 us d h
before_shallow an_entry _ us d h = h
before_shallow _ n us d h = h

record_shallow : (w : SpecVersion) (k : Kind) (n : Name) (us : Trees) (d : Depth) → is_shallow (fields n us) d ≡ true → is_shallow (kept_record w k n us) d ≡ true
record_shallow V1_3 k n us d h = before_shallow k n us d h
record_shallow V1_4 k n us d h = before_shallow k n us d h
record_shallow V1_5 k n us d h = h

text_shallow : (l : SpecVersion) (k : Kind) (s : List ℕ) (d : Depth) → is_shallow (kept_text l k s) d ≡ true
unfolding is_shallow
text_shallow l a_version s d = refl
text_shallow l _ s d = refl

row_shallow : (b : Bool) (t : Tree) (d : Depth) → is_shallow t d ≡ true → is_shallow (if b then t else absent) d ≡ true
unfolding is_shallow
row_shallow true t d h = h
row_shallow false t d h = refl

mutual
  unfolding kept is_shallow

  pub kept_shallow : (w l : SpecVersion) (t : Tree) (k : Kind) (d : Depth) → is_shallow t d ≡ true → is_shallow (kept w l t k) d ≡ true
  kept_shallow w l (text s) k d h = text_shallow l k s d
  kept_shallow w l (items ts) k d h = items_kept_shallow w l ts (held_kind k) d h
  kept_shallow w l (fields n ts) k d h =
      let p : (not (name_too_deep n d) ≡ true) × (are_shallow ts (inside n d) ≡ true) = and_true (not (name_too_deep n d)) (are_shallow ts (inside n d)) h in
      record_shallow w k n (rows_kept w l ts (rows n)) d (both (not (name_too_deep n d)) (are_shallow (rows_kept w l ts (rows n)) (inside n d)) p.0 (rows_kept_shallow w l ts (rows n) (inside n d) p.1))
  kept_shallow w l _ k d h = refl

  items_kept_shallow : (w l : SpecVersion) (ts : Trees) (k : Kind) (d : Depth) → are_shallow ts d ≡ true → are_shallow (items_kept w l ts k) d ≡ true
  items_kept_shallow w l none k d h = refl
  items_kept_shallow w l (more t ts) k d h =
      let p : (is_shallow t d ≡ true) × (are_shallow ts d ≡ true) = and_true (is_shallow t d) (are_shallow ts d) h in
      both (is_shallow (kept w l t k) d) (are_shallow (items_kept w l ts k) d) (kept_shallow w l t k d p.0) (items_kept_shallow w l ts k d p.1)

  rows_kept_shallow : (w l : SpecVersion) (ts : Trees) (rs : List Row) (d : Depth) → are_shallow ts d ≡ true → are_shallow (rows_kept w l ts rs) d ≡ true
  rows_kept_shallow w l none rs d h = refl
  rows_kept_shallow w l (more t ts) [] d h = refl
  rows_kept_shallow w l (more t ts) (r ∷ rs) d h =
      let p : (is_shallow t d ≡ true) × (are_shallow ts d ≡ true) = and_true (is_shallow t d) (are_shallow ts d) h in
      both (is_shallow (if knows r.since w then kept w l t r.kind else absent) d) (are_shallow (rows_kept w l ts rs) d) (row_shallow (knows r.since w) (kept w l t r.kind) d (kept_shallow w l t r.kind d p.0)) (rows_kept_shallow w l ts rs d p.1)
