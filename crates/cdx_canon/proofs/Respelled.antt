-- One member of an object anew: a name that is put twice, and what stands there after other names.
use Rattle.std.proofs.Common.{◌≡◌, refl, sym, ap, ◌∙◌, ℕ, zero, suc, List, [], ◌∷◌, Bool, true, false, not, ◌&&◌, if◌then◌else◌, bytes_eq, is_eq, Ordering, Less, Equal, Greater, true≢false}
use Rattle.std.specs.Ordering.{nat_cmp, match_ordering, ordering_reverse}
use Rattle.std.specs.Cmp.Lexicographic.{slice_cmp}
use Rattle.std.proofs.lemmas.Cmp.{nat_list_cmp_total, tied_itself}
use Rattle.std.proofs.lemmas.Map.Text.{is_eq-slice_cmp}
use Rattle.std.proofs.lemmas.Slice.Eq.{bytes_eq-Decides}
use Rattle.serde_json.specs.Data.{Data, Members, no_members, put}
use Rattle.serde_json.specs.Data as json
use Rattle.cdx_models.specs.declared.bom.SpecVersion.{SpecVersion}
use Rattle.cdx_models.specs.Trees.{Tree, Trees, none, more, with_field}
use Rattle.cdx_schema.specs.Kinds.{Kind, a_text, Member, member, merged, Row}
use Rattle.cdx_schema.specs.JsonSpelling.{jspell, members_spelled, own_members, is_spelled, set_member}
use Rattle.cdx_schema.proofs.JsonBack.{and_true, not_true}
use Rattle.cdx_ordered.proofs.ReadBack.{turned}

-- ---- putting twice

itself : (k : List ℕ) → slice_cmp nat_cmp k k ≡ Equal
itself k = tied_itself nat_list_cmp_total k

-- The later value of a name stays.
pub put_twice : (q : List ℕ) (x y : Data) (ms : Members) → put q y (put q x ms) ≡ put q y ms
put_twice q x y no_members = rw (itself q) refl
put_twice q x y (json.member l e ms) = by (slice_cmp nat_cmp q l) refl (put_twice q x y ms)
  where
    by : (o : Ordering) → slice_cmp nat_cmp q l ≡ o → put q y (put q x ms) ≡ put q y ms → put q y (match_ordering o (json.member q x (json.member l e ms)) (json.member l x ms) (json.member l e (put q x ms)))
        ≡ match_ordering o (json.member q y (json.member l e ms)) (json.member l y ms) (json.member l e (put q y ms))
    by Less s f = rw (itself q) refl
    by Equal s f = rw s refl
    by Greater s f = rw s (ap (json.member l e) f)

equal_less : (o : Ordering) → o ≡ Equal → o ≡ Less → ⊥
equal_less o e f = cc

greater_less : (o : Ordering) → o ≡ Greater → o ≡ Less → ⊥
greater_less o e f = cc

-- Two names may be put in either order: the lower one first, or the other.
lower_first : (p q : List ℕ) (x y : Data) (ms : Members) → slice_cmp nat_cmp p q ≡ Less → slice_cmp nat_cmp q p ≡ Greater → put p x (put q y ms) ≡ put q y (put p x ms)
lower_first p q x y no_members s r = rw (s, r) refl
lower_first p q x y (json.member l e ms) s r = by (slice_cmp nat_cmp q l) (slice_cmp nat_cmp p l) refl refl (lower_first p q x y ms s r)
  where
    below : slice_cmp nat_cmp q l ≡ Equal → slice_cmp nat_cmp p l ≡ Less
    below f = nat_list_cmp_total.antisymm p l ∙ ap ordering_reverse (sym (nat_list_cmp_total.congr q l p f) ∙ r)

    by : (b a : Ordering) → slice_cmp nat_cmp q l ≡ b → slice_cmp nat_cmp p l ≡ a → put p x (put q y ms) ≡ put q y (put p x ms)
        → put p x (match_ordering b (json.member q y (json.member l e ms)) (json.member l y ms) (json.member l e (put q y ms)))
        ≡ put q y (match_ordering a (json.member p x (json.member l e ms)) (json.member l x ms) (json.member l e (put p x ms)))
    by Less Less f g k = rw (s, r, f) refl
    by Equal Less f g k = rw (g, r, f) refl
    by Greater Less f g k = rw (g, r, f) refl
    by Greater Equal f g k = rw (g, f) refl
    by Greater Greater f g k = rw (g, f) (ap (json.member l e) k)
    by Less Equal f g k = absurd (equal_less (slice_cmp nat_cmp p l) g (nat_list_cmp_total.trans p q l s f))
    by Less Greater f g k = absurd (greater_less (slice_cmp nat_cmp p l) g (nat_list_cmp_total.trans p q l s f))
    by Equal Equal f g k = absurd (equal_less (slice_cmp nat_cmp p l) g (below f))
    by Equal Greater f g k = absurd (greater_less (slice_cmp nat_cmp p l) g (below f))

pub put_in_turn : (p q : List ℕ) (x y : Data) (ms : Members) → bytes_eq p q ≡ false → put p x (put q y ms) ≡ put q y (put p x ms)
put_in_turn p q x y ms h = by (slice_cmp nat_cmp p q) refl (is_eq-slice_cmp p q ∙ h)
  where
    by : (o : Ordering) → slice_cmp nat_cmp p q ≡ o → is_eq (slice_cmp nat_cmp p q) ≡ false → put p x (put q y ms) ≡ put q y (put p x ms)
    by Less s e = lower_first p q x y ms s (turned p q Less s)
    by Equal s e = absurd (true≢false (sym (ap is_eq s) ∙ e))
    by Greater s e = sym (lower_first q p y x ms (turned p q Greater s) s)

-- ---- after other rows

-- the row has a member of its own, of another name
abbrev is_other : List ℕ → Member → Bool
is_other q (member p) = not (bytes_eq p q)
is_other q merged = false

abbrev pub are_other : List ℕ → List Row → Bool
are_other q [] = true
are_other q (r ∷ rs) = is_other q r.json && are_other q rs

row_past : (b : Bool) (m : Member) (v : Data) (own : Members → Members) (q : List ℕ) (y : Data) (ms : Members) → is_other q m ≡ true
    → (if b then set_member m v own (put q y ms) else put q y ms) ≡ put q y (if b then set_member m v own ms else ms)
row_past false m v own q y ms h = refl
row_past true (member p) v own q y ms h = put_in_turn p q v y ms (not_true (bytes_eq p q) h)
row_past true merged v own q y ms h = absurd (true≢false (sym h))

past : (ts : Trees) (w : SpecVersion) (rs : List Row) (q : List ℕ) (y : Data) (ms : Members) → are_other q rs ≡ true → members_spelled ts w rs (put q y ms) ≡ put q y (members_spelled ts w rs ms)
unfolding jspell
past none w rs q y ms h = refl
past (more t ts) w [] q y ms h = refl
past (more t ts) w (r ∷ rs) q y ms h =
    let p : (is_other q r.json ≡ true) × (are_other q rs ≡ true) = and_true (is_other q r.json) (are_other q rs) h in
    ap (members_spelled ts w rs) (row_past (is_spelled r t w) r.json (jspell t w r.kind) (own_members t w) q y ms p.0)
    ∙ past ts w rs q y (if is_spelled r t w then set_member r.json (jspell t w r.kind) (own_members t w) ms else ms) p.1

-- What is put before other rows may be put anew after them.
pub put_anew : (ts : Trees) (w : SpecVersion) (rs : List Row) (q : List ℕ) (x y : Data) (ms : Members) → are_other q rs ≡ true
    → members_spelled ts w rs (put q y ms) ≡ put q y (members_spelled ts w rs (put q x ms))
put_anew ts w rs q x y ms h =
    past ts w rs q y ms h ∙ sym (ap (put q y) (past ts w rs q x ms h) ∙ put_twice q x y (members_spelled ts w rs ms))

-- ---- one field of a record anew

abbrev is_named : List ℕ → Member → Bool
is_named q (member p) = bytes_eq p q
is_named q merged = false

-- The row at a place has this member, is written with either tree, and no later row has it. There are as many fields.
abbrev pub may_change : ℕ → List ℕ → Tree → Tree → SpecVersion → Trees → List Row → Bool
may_change i q t u w none rs = false
may_change i q t u w (more x ts) [] = false
may_change zero q t u w (more x ts) (r ∷ rs) = is_named q r.json && ((is_spelled r t w && is_spelled r u w) && are_other q rs)
may_change (suc i) q t u w (more x ts) (r ∷ rs) = may_change i q t u w ts rs

abbrev pub kind_at : ℕ → List Row → Kind
kind_at i [] = a_text
kind_at zero (r ∷ rs) = r.kind
kind_at (suc i) (r ∷ rs) = kind_at i rs

set_is : (b : Bool) (m : Member) (v : Data) (own : Members → Members) (q : List ℕ) (ms : Members) → b ≡ true → is_named q m ≡ true → (if b then set_member m v own ms else ms) ≡ put q v ms
set_is false m v own q ms e h = absurd (true≢false (sym e))
set_is true (member p) v own q ms e h = ap (λ n. put n v ms) ((bytes_eq-Decides p q).0 h)
set_is true merged v own q ms e h = absurd (true≢false (sym h))

pub field_anew : (i : ℕ) (q : List ℕ) (t u : Tree) (w : SpecVersion) (ts : Trees) (rs : List Row) (ms : Members) → may_change i q t u w ts rs ≡ true
    → members_spelled (with_field i t ts) w rs ms ≡ put q (jspell t w (kind_at i rs)) (members_spelled (with_field i u ts) w rs ms)
unfolding jspell
field_anew i q t u w none rs ms h = absurd (true≢false (sym h))
field_anew i q t u w (more x ts) [] ms h = absurd (true≢false (sym h))
field_anew (suc i) q t u w (more x ts) (r ∷ rs) ms h = field_anew i q t u w ts rs (if is_spelled r x w then set_member r.json (jspell x w r.kind) (own_members x w) ms else ms) h
field_anew zero q t u w (more x ts) (r ∷ rs) ms h =
    let p : (is_named q r.json ≡ true) × (((is_spelled r t w && is_spelled r u w) && are_other q rs) ≡ true) = and_true (is_named q r.json) ((is_spelled r t w && is_spelled r u w) && are_other q rs) h in
    let b : ((is_spelled r t w && is_spelled r u w) ≡ true) × (are_other q rs ≡ true) = and_true (is_spelled r t w && is_spelled r u w) (are_other q rs) p.1 in
    let c : (is_spelled r t w ≡ true) × (is_spelled r u w ≡ true) = and_true (is_spelled r t w) (is_spelled r u w) b.0 in
    ap (members_spelled ts w rs) (set_is (is_spelled r t w) r.json (jspell t w r.kind) (own_members t w) q ms c.0 p.0)
    ∙ (put_anew ts w rs q (jspell u w r.kind) (jspell t w r.kind) ms b.1
    ∙ ap (λ ns. put q (jspell t w r.kind) (members_spelled ts w rs ns)) (sym (set_is (is_spelled r u w) r.json (jspell u w r.kind) (own_members u w) q ms c.1 p.0)))
