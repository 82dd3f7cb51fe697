-- A version and a trip take from a bill independently of each other.
use Rattle.std.specs.Prelude.{◌≡◌, refl, ℕ, List, [], ◌∷◌, Bool, true, false, not, ◌&&◌, if◌then◌else◌, ◌⊎◌}
use Rattle.std.proofs.Common.{true≢false, inl, inr}
use mathlib.Core.Path.{ap, sym, ◌∙◌, subst}
use Rattle.cdx_models.specs.declared.bom.SpecVersion.{SpecVersion}
use Rattle.cdx_models.specs.declared.bom.SpecVersion.TheVariants.{V1_3, V1_4, V1_5}
use Rattle.cdx_models.specs.Versions.{knows}
use Rattle.cdx_models.specs.Trees.{Name, contact, entity, diff, source, evidence, service_data, tools_object, signer, signers, chain, Tree, absent, text, number, boolean, items, fields, Trees, none, more, field, is_absent}
use Rattle.cdx_schema.specs.Kinds.{Kind, a_version, a_list, a_record, a_license_choice, a_license_identifier, a_tools, an_entry, a_signature, a_bill, Need, optional, Spelled, filled_child, children, Row}
use Rattle.cdx_schema.specs.Table.{rows}
use Rattle.cdx_schema.specs.Held.{held_kind}
use Rattle.cdx_schema.specs.Keeping.{kept, items_kept, rows_kept, kept_text, kept_record, before_1_5}
use Rattle.cdx_schema.specs.Membership.{AnyText, HasShape, HaveShape, FieldsHaveShape, IsRecordOf}
use Rattle.cdx_schema.specs.Trips.{bare, items_bare, rows_bare, is_hollow, is_passed_over, field_after, none_is_absent, no_child, is_child}
use Rattle.cdx_schema.proofs.JsonBack.{and_true}
use Rattle.cdx_schema.proofs.KeptTwice.{stays}
use Rattle.cdx_schema.proofs.XmlLaw.{is_list_kind}
use Rattle.cdx_schema.proofs.Sound.{free_kind, sound_xml, all_sound, sound, sound_parts, whole_kind, whole_name}
use Rattle.std.specs.Prelude.{◌||◌}
use Rattle.cdx_models.specs.Versions.{is_first}
use Rattle.cdx_schema.proofs.KeptOf.{IsField, kept_of, absent_kept, and_alike}
use Rattle.cdx_schema.proofs.Basics.{more_is}

-- ---- what a version keeps is hollow where the record was

first_known : (v w : SpecVersion) → is_first v ≡ true → knows v w ≡ true
first_known V1_3 w h = refl
first_known _ w h = absurd (true≢false (sym h))

abbrev all_first : List Row → Bool
all_first [] = true
all_first (r ∷ rs) = is_first r.since && all_first rs

whole_rows : (n : Name) → whole_name n ≡ true → all_first (rows n) ≡ true
unfolding rows
whole_rows contact h = refl
whole_rows entity h = refl
whole_rows diff h = refl
whole_rows source h = refl
whole_rows evidence h = refl
whole_rows _ h = absurd (true≢false (sym h))

pub no_child_row : (r : Row) (t u : Tree) (ts us : Trees) (rs : List Row) → is_absent t ≡ is_absent u → no_child ts rs ≡ no_child us rs → no_child (more t ts) (r ∷ rs) ≡ no_child (more u us) (r ∷ rs)
no_child_row r t u ts us rs p q = and_alike (ap (λ b. not (is_child r.xml) || b) p) q

known_absent : (b : Bool) (x : Tree) (c : Bool) → b ≡ true → is_absent x ≡ c → is_absent (if b then x else absent) ≡ c
known_absent true x c h e = e
known_absent false x c h e = absurd (true≢false (sym h))

no_child_kept : (w l : SpecVersion) (ts : Trees) (rs : List Row) → all_first rs ≡ true → FieldsHaveShape ts rs → no_child (rows_kept w l ts rs) rs ≡ no_child ts rs
unfolding kept
no_child_kept w l none rs f h = refl
no_child_kept w l (more t ts) [] f h = refl
no_child_kept w l (more t ts) (r ∷ rs) f h =
    let p : (is_first r.since ≡ true) × (all_first rs ≡ true) = and_true (is_first r.since) (all_first rs) f in
    no_child_row r (if knows r.since w then kept w l t r.kind else absent) t (rows_kept w l ts rs) ts rs (known_absent (knows r.since w) (kept w l t r.kind) (is_absent t) (first_known r.since w p.0) (absent_kept w l t r h.0)) (no_child_kept w l ts rs p.1 h.1)

hollow_kept : (w l : SpecVersion) (t : Tree) (k : Kind) → whole_kind k ≡ true → HasShape t k → is_hollow (kept w l t k) ≡ is_hollow t
unfolding kept is_hollow
hollow_kept w l (fields n ts) (a_record m) e h =
    ap is_hollow (stays w (a_record m) n (rows_kept w l ts (rows n)) refl) ∙ no_child_kept w l ts (rows n) (whole_rows n (ap whole_name h.0 ∙ e)) h.1
hollow_kept w l absent (a_record m) e h = absurd (true≢false h)
hollow_kept w l (text s) (a_record m) e h = absurd (true≢false h)
hollow_kept w l (number s) (a_record m) e h = absurd (true≢false h)
hollow_kept w l (boolean s) (a_record m) e h = absurd (true≢false h)
hollow_kept w l (items s) (a_record m) e h = absurd (true≢false h.0)
hollow_kept w l _ _ e h = absurd (true≢false (sym e))

-- ---- contacts

abbrev pub is_contact : Name → Bool
is_contact contact = true
is_contact _ = false

abbrev pub is_contact_kind : Kind → Bool
is_contact_kind (a_record n) = is_contact n
is_contact_kind _ = false

name_passed : (n : Name) (ts : Trees) → is_contact n ≡ false → is_passed_over (fields n ts) ≡ false
name_passed contact ts h = absurd (true≢false h)
name_passed _ ts h = refl

record_passed : (k : Kind) (n : Name) (ts : Trees) → is_contact_kind k ≡ false → IsRecordOf k n ts → is_contact n ≡ false
record_passed (a_record m) n ts e is = ap is_contact is ∙ e
record_passed a_license_choice n ts e is = elim is [ inl q ↦ ap is_contact q | inr q ↦ ap is_contact q ]
record_passed a_license_identifier n ts e is = elim is [ inl q ↦ ap is_contact q | inr q ↦ ap is_contact q ]
record_passed a_tools n ts e is = ap is_contact is
record_passed an_entry n ts e is = elim is [ inl q ↦ ap is_contact q | inr q ↦ ap is_contact q.0 ]
record_passed a_signature n ts e is = by is
  where
    by : (n ≡ signers) ⊎ ((n ≡ chain) ⊎ (n ≡ signer)) → is_contact n ≡ false
    by (inl q) = ap is_contact q
    by (inr (inl q)) = ap is_contact q
    by (inr (inr q)) = ap is_contact q
record_passed a_bill n ts e is = ap is_contact is
record_passed _ n ts e is = absurd (true≢false is)

pub passed_not : (t : Tree) (k : Kind) → is_contact_kind k ≡ false → HasShape t k → is_passed_over t ≡ false
passed_not (fields n ts) k e h = name_passed n ts (record_passed k n ts e h.0)
passed_not _ k e h = refl

contact_is : (n : Name) → is_contact n ≡ true → n ≡ contact
contact_is contact h = refl
contact_is _ h = absurd (true≢false (sym h))

-- The kind is a contact's, or no tree of it is passed over.
contact_cases : (k : Kind) → (k ≡ a_record contact) ⊎ (is_contact_kind k ≡ false)
contact_cases (a_record n) = by (is_contact n) refl
  where
    by : (b : Bool) → is_contact n ≡ b → (a_record n ≡ a_record contact) ⊎ (is_contact n ≡ false)
    by true e = inl (ap a_record (contact_is n e))
    by false e = inr e
contact_cases _ = inr refl

passed_contact : (w l : SpecVersion) (ts : Trees) → FieldsHaveShape ts (rows contact) → is_passed_over (kept w l (fields contact ts) (a_record contact)) ≡ is_passed_over (fields contact ts)
unfolding kept is_hollow
passed_contact w l ts h = ap is_passed_over (stays w (a_record contact) contact (rows_kept w l ts (rows contact)) refl) ∙ no_child_kept w l ts (rows contact) (unfold rows in refl) h

passed_at : (w l : SpecVersion) (t : Tree) → HasShape t (a_record contact) → is_passed_over (kept w l t (a_record contact)) ≡ is_passed_over t
passed_at w l (items s) h = absurd (true≢false h.0)
passed_at w l (fields n ts) h = subst (λ (m : Name). FieldsHaveShape ts (rows m) → is_passed_over (kept w l (fields m ts) (a_record contact)) ≡ is_passed_over (fields m ts)) (sym h.0) (passed_contact w l ts) h.1
passed_at w l _ h = absurd (true≢false h)

pub passed_kept : (w l : SpecVersion) (t : Tree) (k : Kind) → HasShape t k → is_passed_over (kept w l t k) ≡ is_passed_over t
passed_kept w l t k h = by (contact_cases k)
  where
    by : (k ≡ a_record contact) ⊎ (is_contact_kind k ≡ false) → is_passed_over (kept w l t k) ≡ is_passed_over t
    by (inl e) = subst (λ (j : Kind). HasShape t j → is_passed_over (kept w l t j) ≡ is_passed_over t) (sym e) (passed_at w l t) h
    by (inr e) = passed_not (kept w l t k) k e (kept_of AnyText w l t k h) ∙ sym (passed_not t k e h)

-- ---- a version and a trip

text_bare : (l : SpecVersion) (k : Kind) (s : List ℕ) → bare (kept_text l k s) ≡ kept_text l k s
unfolding bare
text_bare l a_version s = refl
text_bare l _ s = refl

third_bare : (us : Trees) → bare (field 2 us) ≡ field 2 (rows_bare us (rows service_data))
unfolding bare rows
third_bare none = refl
third_bare (more a none) = refl
third_bare (more a (more b none)) = refl
third_bare (more a (more b (more c us))) = refl

before_bare : (k : Kind) (n : Name) (us : Trees) → bare (before_1_5 k n us) ≡ before_1_5 k n (rows_bare us (rows n))
unfolding bare
before_bare a_tools tools_object us = refl
before_bare a_tools _ us = refl
before_bare an_entry service_data us = third_bare us
before_bare an_entry _ us = refl
before_bare _ n us = refl

record_bare : (w : SpecVersion) (k : Kind) (n : Name) (us : Trees) → bare (kept_record w k n us) ≡ kept_record w k n (rows_bare us (rows n))
unfolding bare
record_bare V1_3 k n us = before_bare k n us
record_bare V1_4 k n us = before_bare k n us
record_bare V1_5 k n us = refl

item_commute : (w l : SpecVersion) (b c : Bool) (t u : Tree) (ts us : Trees) (k : Kind) → b ≡ c → t ≡ kept w l u k → ts ≡ items_kept w l us k
    → (if b then ts else more t ts) ≡ items_kept w l (if c then us else more u us) k
unfolding kept
item_commute w l b true t u ts us k e p q = ap (λ x. if x then ts else more t ts) e ∙ q
item_commute w l b false t u ts us k e p q = ap (λ x. if x then ts else more t ts) e ∙ more_is p q

none_gone : (n : Need) → none_is_absent n absent ≡ absent
none_gone optional = refl
none_gone _ = refl

gone_after : (r : Row) → field_after r absent absent ≡ absent
gone_after r = by r.xml
  where
    by : (x : Spelled) → field_after (record r { xml = x }) absent absent ≡ absent
    by (filled_child q) = unfold is_hollow in refl
    by (children q) = none_gone r.need
    by _ = refl

none_kept : (w l : SpecVersion) (n : Need) (u : Tree) (k : Kind) → is_list_kind k ≡ true → none_is_absent n (kept w l u k) ≡ kept w l (none_is_absent n u) k
unfolding kept
none_kept w l optional absent (a_list x) e = refl
none_kept w l optional (text s) (a_list x) e = refl
none_kept w l optional (number s) (a_list x) e = refl
none_kept w l optional (boolean s) (a_list x) e = refl
none_kept w l optional (items none) (a_list x) e = refl
none_kept w l optional (items (more t ts)) (a_list x) e = refl
none_kept w l optional (fields n ts) (a_list x) e = ap (none_is_absent optional) (stays w (a_list x) n (rows_kept w l ts (rows n)) refl) ∙ sym (stays w (a_list x) n (rows_kept w l ts (rows n)) refl)
none_kept w l optional u _ e = absurd (true≢false (sym e))
none_kept w l _ u k e = refl

pub filled_whole : (n : Need) (k : Kind) → sound_xml (filled_child []) n k ≡ true → whole_kind k ≡ true
filled_whole optional k s = (and_true (free_kind k) (whole_kind k) s).1
filled_whole _ k s = absurd (true≢false (sym s))

hollow_field : (w l : SpecVersion) (t : Tree) (r : Row) → whole_kind r.kind ≡ true → IsField t r → is_hollow (kept w l t r.kind) ≡ is_hollow t
unfolding kept
hollow_field w l t r e (inl h) = ap (λ x. is_hollow (kept w l x r.kind)) h.0 ∙ sym (ap is_hollow h.0)
hollow_field w l t r e (inr h) = hollow_kept w l t r.kind e h

field_commute : (w l : SpecVersion) (r : Row) (t : Tree) → sound_xml r.xml r.need r.kind ≡ true → IsField t r → bare (kept w l t r.kind) ≡ kept w l (bare t) r.kind
    → field_after r (kept w l t r.kind) (bare (kept w l t r.kind)) ≡ kept w l (field_after r t (bare t)) r.kind
field_commute w l r t s h e = by r.xml s
  where
    by : (x : Spelled) → sound_xml x r.need r.kind ≡ true → field_after (record r { xml = x }) (kept w l t r.kind) (bare (kept w l t r.kind)) ≡ kept w l (field_after (record r { xml = x }) t (bare t)) r.kind
    by (filled_child q) g = at (is_hollow (kept w l t r.kind)) (is_hollow t) (hollow_field w l t r (filled_whole r.need r.kind g) h)
      where
        to : (c : Bool) → (if c then absent else bare (kept w l t r.kind)) ≡ kept w l (if c then absent else bare t) r.kind
        to true = unfold kept in refl
        to false = e

        at : (b c : Bool) → b ≡ c → (if b then absent else bare (kept w l t r.kind)) ≡ kept w l (if c then absent else bare t) r.kind
        at b c i = ap (λ x. if x then absent else bare (kept w l t r.kind)) i ∙ to c
    by (children q) g = ap (none_is_absent r.need) e ∙ none_kept w l r.need (bare t) r.kind g
    by _ g = e

row_commute : (w l : SpecVersion) (r : Row) (t : Tree) (b : Bool) → sound_xml r.xml r.need r.kind ≡ true → IsField t r → bare (kept w l t r.kind) ≡ kept w l (bare t) r.kind
    → field_after r (if b then kept w l t r.kind else absent) (bare (if b then kept w l t r.kind else absent)) ≡ (if b then kept w l (field_after r t (bare t)) r.kind else absent)
unfolding bare
row_commute w l r t true s h e = field_commute w l r t s h e
row_commute w l r t false s h e = gone_after r

absent_commute : (w l : SpecVersion) (t : Tree) (r : Row) → IsField t r → (HasShape t r.kind → bare (kept w l t r.kind) ≡ kept w l (bare t) r.kind) → bare (kept w l t r.kind) ≡ kept w l (bare t) r.kind
unfolding kept bare
absent_commute w l t r (inl h) f = ap (λ x. bare (kept w l x r.kind)) h.0 ∙ sym (ap (λ x. kept w l (bare x) r.kind) h.0)
absent_commute w l t r (inr h) f = f h

mutual
  unfolding kept bare

  pub bare_kept : (w l : SpecVersion) (t : Tree) (k : Kind) → HasShape t k → bare (kept w l t k) ≡ kept w l (bare t) k
  bare_kept w l (text s) k h = text_bare l k s
  bare_kept w l (items ts) k h = ap items (items_bare_kept w l ts (held_kind k) h.1)
  bare_kept w l (fields n ts) k h = record_bare w k n (rows_kept w l ts (rows n)) ∙ ap (kept_record w k n) (rows_bare_kept w l ts (rows n) (sound n) h.1)
  bare_kept w l _ k h = refl

  items_bare_kept : (w l : SpecVersion) (ts : Trees) (k : Kind) → HaveShape ts k → items_bare (items_kept w l ts k) ≡ items_kept w l (items_bare ts) k
  items_bare_kept w l none k h = refl
  items_bare_kept w l (more t ts) k h = item_commute w l (is_passed_over (kept w l t k)) (is_passed_over t) (bare (kept w l t k)) (bare t) (items_bare (items_kept w l ts k)) (items_bare ts) k (passed_kept w l t k h.0) (bare_kept w l t k h.0) (items_bare_kept w l ts k h.1)

  rows_bare_kept : (w l : SpecVersion) (ts : Trees) (rs : List Row) → all_sound rs ≡ true → FieldsHaveShape ts rs → rows_bare (rows_kept w l ts rs) rs ≡ rows_kept w l (rows_bare ts rs) rs
  rows_bare_kept w l none rs s h = refl
  rows_bare_kept w l (more t ts) [] s h = refl
  rows_bare_kept w l (more t ts) (r ∷ rs) s h = more_is
      (row_commute w l r t (knows r.since w) (sound_parts r rs s).1 h.0 (absent_commute w l t r h.0 (bare_kept w l t r.kind)))
      (rows_bare_kept w l ts rs (sound_parts r rs s).2 h.1)
