-- A bill less its losses is the bill of a walk that decides by the reasons itself.
use Rattle.std.specs.Prelude.{◌≡◌, refl, ℕ, suc, ◌≤◌, List, [], ◌∷◌, ◌++◌, true, false, Option, Some, None, option_map}
use Rattle.std.proofs.Common.{true≢false, inl, inr, append-nil}
use mathlib.Core.Path.{ap, sym, ◌∙◌, subst}
use native.Mathlib.Omega.{arith}
use Rattle.cdx_models.specs.declared.errors.Step.{Step}
use Rattle.cdx_models.specs.declared.bom.SpecVersion.{SpecVersion}
use Rattle.cdx_models.specs.Trees.{Name, license, Tree, absent, text, number, boolean, items, fields, Trees, none, more}
use Rattle.cdx_schema.specs.Kinds.{Kind, a_record, a_license_choice, a_license_identifier, Row}
use Rattle.cdx_schema.specs.Kinds as kinds
use Rattle.cdx_schema.specs.Held.{held_kind}
use Rattle.cdx_schema.specs.Table.{rows}
use Rattle.cdx_schema.specs.Faults.{to_member, to_item}
use Rattle.cdx_schema.specs.Keeping.{kept_text}
use Rattle.cdx_schema.specs.Membership.{HasShape, HaveShape, FieldsHaveShape}
use Rattle.cdx_schema.proofs.JsonBack.{and_true}
use Rattle.cdx_schema.proofs.KeptOf.{IsField}
use Rattle.cdx_ways.specs.Ways.{At, behind_step, behind_row, behind_choice, after_step, after_row, after_choice, is_step}
use Rattle.cdx_ways.proofs.Lists.{own_step, after_own, after_other, StartsIn, AllStart, starts_behind, IsFrom}
use Rattle.cdx_losses.specs.declared.loss.Reason.{Reason}
use Rattle.cdx_losses.specs.declared.loss.Reason.TheVariants.{Version, Tools, Flow, Xml}
use Rattle.cdx_losses.specs.Losses.{field_reason, item_reason, entry_or, lost, items_lost, rows_lost, entries_behind, reason_here, field_struck, item_struck, struck_in, items_struck, rows_struck}
use Rattle.cdx_losses.proofs.Members.{is_own, is_inner, IsKnown, IsOwn, known_own, known_more, own_new, inner_known, quiet_merged, quiet_record, quiet_rows, members_differ, differ, differ_rest, is_sound, is_quiet_kind, all_merged_sound, merged_sound, merged_whole}
use Rattle.cdx_losses.proofs.Apart.{other_step, IsItem, item_new, row_lies, rows_lie, items_lie, lost_apart, absent_apart}
use Rattle.cdx_schema.proofs.Basics.{more_is}

-- A tree of a kind less what is taken of it, for the reasons.
unfoldable mutual
  pub cut : SpecVersion → ℕ → SpecVersion → Tree → Kind → Tree
  cut u n l absent k = absent
  cut u n l (text s) k = kept_text l k s
  cut u n l (number m) k = number m
  cut u n l (boolean b) k = boolean b
  cut u n l (items ts) k = items (items_cut u n l ts (held_kind k))
  cut u n l (fields m ts) k = fields m (rows_cut u n l ts (rows m))

  pub items_cut : SpecVersion → ℕ → SpecVersion → Trees → Kind → Trees
  items_cut u n l none k = none
  items_cut u n l (more t ts) k = item_struck (item_reason u n k t) t (cut u n l t k) (items_cut u n l ts k)

  pub rows_cut : SpecVersion → ℕ → SpecVersion → Trees → List Row → Trees
  rows_cut u n l none rs = none
  rows_cut u n l (more t ts) [] = none
  rows_cut u n l (more t ts) (r ∷ rs) = more (field_struck (field_reason u n r t) t (cut u n l t r.kind)) (rows_cut u n l ts rs)

-- ---- the entries behind a step

abbrev Entries : Type 0
Entries = List (At Reason)

put_if : Option (At Reason) → Entries → Entries
put_if None xs = xs
put_if (Some x) xs = x ∷ xs

behind_one : (go : List Step → Option (List Step)) (x : At Reason) (xs : Entries) → entries_behind go (x ∷ xs) ≡ put_if (option_map (λ p. (p, x.1)) (go x.0)) (entries_behind go xs)
unfolding put_if
behind_one go x xs = by (option_map (λ p. (p, x.1)) (go x.0)) refl
  where
    by : (o : Option (At Reason)) → option_map (λ p. (p, x.1)) (go x.0) ≡ o → entries_behind go (x ∷ xs) ≡ put_if (option_map (λ p. (p, x.1)) (go x.0)) (entries_behind go xs)
    by None e = rw e refl
    by (Some y) e = rw e refl

put_append : (o : Option (At Reason)) (us vs : Entries) → put_if o (us ++ vs) ≡ put_if o us ++ vs
unfolding put_if
put_append None us vs = refl
put_append (Some x) us vs = refl

behind_append : (go : List Step → Option (List Step)) (us vs : Entries) → entries_behind go (us ++ vs) ≡ entries_behind go us ++ entries_behind go vs
behind_append go [] vs = refl
behind_append go (x ∷ us) vs =
    behind_one go x (us ++ vs)
    ∙ (ap (put_if (option_map (λ p. (p, x.1)) (go x.0))) (behind_append go us vs)
    ∙ (put_append (option_map (λ p. (p, x.1)) (go x.0)) (entries_behind go us) (entries_behind go vs)
    ∙ ap (λ ys. ys ++ entries_behind go vs) (sym (behind_one go x us))))

behind_own : (s : Step) (xs : Entries) → entries_behind (after_step s) (behind_step s xs) ≡ xs
unfolding put_if
behind_own s [] = refl
behind_own s (x ∷ xs) =
    behind_one (after_step s) (s ∷ x.0, x.1) (behind_step s xs)
    ∙ (ap (λ o. put_if (option_map (λ p. (p, x.1)) o) (entries_behind (after_step s) (behind_step s xs))) (after_own s x.0)
    ∙ ap (x ∷◌) (behind_own s xs))

other_starts : (s : Step) (Q : Step → Type 0) → ((s' : Step) → Q s' → is_step s s' ≡ false) → (p : List Step) → StartsIn Q p → after_step s p ≡ None
other_starts s Q f [] h = refl
other_starts s Q f (s' ∷ p) h = after_other s s' p (f s' h)

behind_other : (s : Step) (Q : Step → Type 0) → ((s' : Step) → Q s' → is_step s s' ≡ false) → (xs : Entries) → AllStart Q xs → entries_behind (after_step s) xs ≡ []
unfolding put_if
behind_other s Q f [] h = refl
behind_other s Q f (x ∷ xs) h =
    behind_one (after_step s) x xs
    ∙ (ap (λ o. put_if (option_map (λ p. (p, x.1)) o) (entries_behind (after_step s) xs)) (other_starts s Q f x.0 h.0)
    ∙ behind_other s Q f xs h.1)

behind_all : (xs : Entries) → entries_behind (λ p. Some p) xs ≡ xs
behind_all [] = refl
behind_all (x ∷ xs) = ap (x ∷◌) (behind_all xs)

behind_merged : (xs : Entries) → entries_behind (after_row kinds.merged) xs ≡ xs
behind_merged xs = behind_all xs

behind_own_choice : (k : Kind) (m : Name) (xs : Entries) → entries_behind (after_choice k m) (behind_choice k m xs) ≡ xs
behind_own_choice a_license_choice license xs = behind_own _ xs
behind_own_choice _ m xs = behind_all xs

-- Of a part and what stands behind it, the part.
part_alone : (s : Step) (Q : Step → Type 0) → ((s' : Step) → Q s' → is_step s s' ≡ false) → (us vs : Entries) → AllStart Q vs → entries_behind (after_step s) (behind_step s us ++ vs) ≡ us
part_alone s Q f us vs h =
    behind_append (after_step s) (behind_step s us) vs
    ∙ (ap (λ ys. ys ++ entries_behind (after_step s) vs) (behind_own s us)
    ∙ (ap (λ ys. us ++ ys) (behind_other s Q f vs h)
    ∙ append-nil us))

-- And what stands behind it.
rest_alone : (s : Step) (Q : Step → Type 0) → ((s' : Step) → Q s' → is_step s s' ≡ false) → (us vs : Entries) → AllStart Q us → entries_behind (after_step s) (us ++ vs) ≡ entries_behind (after_step s) vs
rest_alone s Q f us vs h = behind_append (after_step s) us vs ∙ ap (λ ys. ys ++ entries_behind (after_step s) vs) (behind_other s Q f us h)

-- ---- no reason of its own

none_here : (Q : Step → Type 0) (xs : Entries) → AllStart Q xs → reason_here xs ≡ None
none_here Q [] h = refl
none_here Q (([], why) ∷ xs) h = absurd (true≢false h.0)
none_here Q ((s ∷ p, why) ∷ xs) h = none_here Q xs h.1

choice_here : (k : Kind) (m : Name) (Q : Step → Type 0) (xs : Entries) → AllStart Q xs → reason_here (behind_choice k m xs) ≡ None
choice_here a_license_choice license Q xs h = none_here (λ s. Unit {0}) _ (starts_behind (λ s. Unit {0}) _ xs tt)
choice_here _ m Q xs h = none_here Q xs h

lost_here : (u : SpecVersion) (n : ℕ) (t : Tree) (k : Kind) → HasShape t k → reason_here (lost u n t k) ≡ None
unfolding lost
lost_here u n absent k h = refl
lost_here u n (text s) k h = refl
lost_here u n (number m) k h = refl
lost_here u n (boolean b) k h = refl
lost_here u n (items ts) k h = none_here (IsFrom 0) _ (items_lie u n ts (held_kind k) 0 h.1).1
lost_here u n (fields m ts) k h = choice_here k m (IsKnown (rows m)) _ (rows_lie u n ts (rows m) (differ m) (merged_sound m) h.1).1

-- ---- entries that are enough

-- Behind each step from here on, entries are those of what is taken.
abbrev ItemsAgree : SpecVersion → ℕ → Entries → Trees → Kind → ℕ → Type 0
ItemsAgree u n xs ts k i = (j : ℕ) → i ≤ j → entries_behind (after_step (to_item j)) xs ≡ entries_behind (after_step (to_item j)) (items_lost u n ts k i)

abbrev RowsAgree : SpecVersion → ℕ → Entries → Trees → List Row → Type 0
RowsAgree u n xs ts rs = (s : Step) → IsKnown rs s → entries_behind (after_step s) xs ≡ entries_behind (after_step s) (rows_lost u n ts rs)

abbrev Agree : SpecVersion → ℕ → Entries → Tree → Kind → Type 0
Agree u n xs (items ts) k = ItemsAgree u n xs ts (held_kind k) 0
Agree u n xs (fields m ts) k = (reason_here (entries_behind (after_choice k m) xs) ≡ None) × RowsAgree u n (entries_behind (after_choice k m) xs) ts (rows m)
Agree u n xs _ k = Unit {0}

own_agree : (u : SpecVersion) (n : ℕ) (t : Tree) (k : Kind) → HasShape t k → Agree u n (lost u n t k) t k
unfolding lost
own_agree u n absent k h = tt
own_agree u n (text s) k h = tt
own_agree u n (number m) k h = tt
own_agree u n (boolean b) k h = tt
own_agree u n (items ts) k h = λ j le. refl
own_agree u n (fields m ts) k h =
    let own : entries_behind (after_choice k m) (behind_choice k m (rows_lost u n ts (rows m))) ≡ rows_lost u n ts (rows m) = behind_own_choice k m (rows_lost u n ts (rows m)) in (
      ap reason_here own ∙ none_here (IsKnown (rows m)) _ (rows_lie u n ts (rows m) (differ m) (merged_sound m) h.1).1,
      λ s g. ap (entries_behind (after_step s)) own,
    )

-- ---- one part

field_cut : (o : Option Reason) (l : SpecVersion) (below : Entries) (t c : Tree) (k : Kind) → reason_here below ≡ None → struck_in l below t k ≡ c
    → field_struck (reason_here (entry_or o below)) t (struck_in l (entry_or o below) t k) ≡ field_struck o t c
field_cut None l below t c k e f = rw (e, f) refl
field_cut (Some Version) l below t c k e f = refl
field_cut (Some Tools) l below t c k e f = refl
field_cut (Some Flow) l below t c k e f = refl
field_cut (Some Xml) l below t c k e f = refl

item_cut : (o : Option Reason) (l : SpecVersion) (below : Entries) (t c : Tree) (k : Kind) (us vs : Trees) → reason_here below ≡ None → struck_in l below t k ≡ c → us ≡ vs
    → item_struck (reason_here (entry_or o below)) t (struck_in l (entry_or o below) t k) us ≡ item_struck o t c vs
item_cut None l below t c k us vs e f g = rw (e, f, g) refl
item_cut (Some Version) l below t c k us vs e f g = g
item_cut (Some Tools) l below t c k us vs e f g = rw g refl
item_cut (Some Flow) l below t c k us vs e f g = rw g refl
item_cut (Some Xml) l below t c k us vs e f g = g

-- What the walk below a part gives, for all entries that are enough.
abbrev Cuts : SpecVersion → ℕ → SpecVersion → Tree → Kind → Type 0
Cuts u n l t k = (xs : Entries) → HasShape t k → Agree u n xs t k → struck_in l xs t k ≡ cut u n l t k

own_cut : (u : SpecVersion) (n : ℕ) (l : SpecVersion) (t : Tree) (r : Row) → IsField t r → Cuts u n l t r.kind → (struck_in l (lost u n t r.kind) t r.kind ≡ cut u n l t r.kind) × (reason_here (lost u n t r.kind) ≡ None)
unfolding lost cut struck_in
own_cut u n l t r (inl h) f = subst (λ (x : Tree). (struck_in l (lost u n x r.kind) x r.kind ≡ cut u n l x r.kind) × (reason_here (lost u n x r.kind) ≡ None)) (sym h.0) (refl, refl)
own_cut u n l t r (inr h) f = (f (lost u n t r.kind) h (own_agree u n t r.kind h), lost_here u n t r.kind h)

-- ---- items

item_other : (i : ℕ) (s' : Step) → IsFrom (suc i) s' → is_step (to_item i) s' ≡ false
item_other i s' h = other_step (IsItem i) (IsFrom (suc i)) (item_new i) (to_item i) s' refl h

other_item : (i j : ℕ) → suc i ≤ j → (s' : Step) → IsItem i s' → is_step (to_item j) s' ≡ false
other_item i j le s' h = other_step (IsFrom (suc i)) (IsItem i) (λ s a b. item_new i s b a) (to_item j) s' le h

items_step : (u : SpecVersion) (n : ℕ) (l : SpecVersion) (xs : Entries) (t : Tree) (ts : Trees) (k : Kind) (i : ℕ) → HasShape t k → HaveShape ts k → ItemsAgree u n xs (more t ts) k i
    → Cuts u n l t k → (ItemsAgree u n xs ts k (suc i) → items_struck l xs ts k (suc i) ≡ items_cut u n l ts k) → items_struck l xs (more t ts) k i ≡ items_cut u n l (more t ts) k
unfolding struck_in cut lost
items_step u n l xs t ts k i h hs a f g =
    let es : Entries = entry_or (item_reason u n k t) (lost u n t k) in
    let rest : Entries = items_lost u n ts k (suc i) in
    let mine : entries_behind (after_step (to_item i)) xs ≡ es = a i (omega arith) ∙ part_alone (to_item i) (IsFrom (suc i)) (item_other i) es rest (items_lie u n ts k (suc i) hs).1 in
    let more_agree : ItemsAgree u n xs ts k (suc i) = λ j le. a j (omega (arith, le)) ∙ rest_alone (to_item j) (IsItem i) (other_item i j le) (behind_step (to_item i) es) rest (starts_behind (IsItem i) (to_item i) es refl) in
    ap (λ ys. item_struck (reason_here ys) t (struck_in l ys t k) (items_struck l xs ts k (suc i))) mine
    ∙ item_cut (item_reason u n k t) l (lost u n t k) t (cut u n l t k) k (items_struck l xs ts k (suc i)) (items_cut u n l ts k) (lost_here u n t k h) (f (lost u n t k) h (own_agree u n t k h)) (g more_agree)

-- ---- rows

-- The entries of a record that is merged are among those of the record around it.
merged_agree : (u : SpecVersion) (n : ℕ) (xs : Entries) (t : Tree) (k : Kind) → is_quiet_kind k ≡ true → HasShape t k → reason_here xs ≡ None → ((s : Step) → is_inner k s ≡ true → entries_behind (after_step s) xs ≡ []) → Agree u n xs t k
merged_agree u n xs absent k q h e f = tt
merged_agree u n xs (text s) k q h e f = tt
merged_agree u n xs (number m) k q h e f = tt
merged_agree u n xs (boolean b) k q h e f = tt
merged_agree u n xs (items ts) a_license_identifier q h e f = absurd (true≢false h.0)
merged_agree u n xs (items ts) (a_record m) q h e f = absurd (true≢false h.0)
merged_agree u n xs (items ts) _ q h e f = absurd (true≢false (sym q))
merged_agree u n xs (fields m ts) k q h e f = at k q h f
  where
    known : (j : Kind) → is_quiet_kind j ≡ true → HasShape (fields m ts) j → ((s : Step) → is_inner j s ≡ true → entries_behind (after_step s) xs ≡ []) → (reason_here (entries_behind (λ p. Some p) xs) ≡ None) × RowsAgree u n (entries_behind (λ p. Some p) xs) ts (rows m)
    known j q h f = (
      ap reason_here (behind_all xs) ∙ e,
      λ s g. ap (entries_behind (after_step s)) (behind_all xs) ∙ (f s (inner_known j m ts s q h g) ∙ sym (ap (entries_behind (after_step s)) (quiet_rows u n ts (rows m) (quiet_record j m ts q h) h.1))),
    )

    at : (j : Kind) → is_quiet_kind j ≡ true → HasShape (fields m ts) j → ((s : Step) → is_inner j s ≡ true → entries_behind (after_step s) xs ≡ []) → Agree u n xs (fields m ts) j
    at a_license_identifier q h f = known a_license_identifier q h f
    at (a_record o) q h f = known (a_record o) q h f
    at _ q h f = absurd (true≢false (sym q))

known_other : (r : Row) (rs : List Row) (s : Step) → members_differ (r ∷ rs) ≡ true → IsKnown rs s → (s' : Step) → IsOwn r s' → is_step s s' ≡ false
known_other r rs s d g s' h = other_step (IsKnown rs) (IsOwn r) (λ x a b. own_new r rs d x b a) s s' g h

own_other : (r : Row) (rs : List Row) (s : Step) → members_differ (r ∷ rs) ≡ true → IsOwn r s → (s' : Step) → IsKnown rs s' → is_step s s' ≡ false
own_other r rs s d g s' h = other_step (IsOwn r) (IsKnown rs) (own_new r rs d) s s' g h

-- The field of a row, whose member is m.
row_head : (u : SpecVersion) (n : ℕ) (l : SpecVersion) (xs : Entries) (t : Tree) (r : Row) (rs : List Row) (rest : Entries) (m : kinds.Member)
    → is_sound r m ≡ true → IsField t r → reason_here xs ≡ None
    → ((s : Step) → is_own r.kind m s ≡ true → (s' : Step) → IsKnown rs s' → is_step s s' ≡ false) → AllStart (IsKnown rs) rest
    → ((s : Step) → is_own r.kind m s ≡ true → entries_behind (after_step s) xs ≡ entries_behind (after_step s) (behind_row m (entry_or (field_reason u n r t) (lost u n t r.kind)) ++ rest))
    → Cuts u n l t r.kind
    → field_struck (reason_here (entries_behind (after_row m) xs)) t (struck_in l (entries_behind (after_row m) xs) t r.kind) ≡ field_struck (field_reason u n r t) t (cut u n l t r.kind)
row_head u n l xs t r rs rest (kinds.member name) sound h e others starts a f =
    let es : Entries = entry_or (field_reason u n r t) (lost u n t r.kind) in
    let s : Step = to_member name in
    let mine : entries_behind (after_step s) xs ≡ es = a s (own_step s) ∙ part_alone s (IsKnown rs) (others s (own_step s)) es rest starts in
    let own : (struck_in l (lost u n t r.kind) t r.kind ≡ cut u n l t r.kind) × (reason_here (lost u n t r.kind) ≡ None) = own_cut u n l t r h f in
    ap (λ ys. field_struck (reason_here ys) t (struck_in l ys t r.kind)) mine
    ∙ field_cut (field_reason u n r t) l (lost u n t r.kind) t (cut u n l t r.kind) r.kind own.1 own.0
row_head u n l xs t r rs rest kinds.merged sound h e others starts a f =
    let w : (field_reason u n r t ≡ None) × (lost u n t r.kind ≡ []) × HasShape t r.kind = merged_whole u n r t sound h in
    let nothing : entry_or (field_reason u n r t) (lost u n t r.kind) ≡ [] = ap (λ o. entry_or o (lost u n t r.kind)) w.0 ∙ w.1 in
    let agree : Agree u n xs t r.kind = merged_agree u n xs t r.kind (quiet_merged r sound) w.2 e (λ s g. a s g ∙ (ap (λ es. entries_behind (after_step s) (es ++ rest)) nothing ∙ behind_other s (IsKnown rs) (others s g) rest starts)) in
    ap (λ ys. field_struck (reason_here ys) t (struck_in l ys t r.kind)) (behind_merged xs)
    ∙ (ap (λ o. field_struck o t (struck_in l xs t r.kind)) e
    ∙ (f xs w.2 agree
    ∙ sym (ap (λ o. field_struck o t (cut u n l t r.kind)) w.0)))

rows_step : (u : SpecVersion) (n : ℕ) (l : SpecVersion) (xs : Entries) (t : Tree) (ts : Trees) (r : Row) (rs : List Row) → members_differ (r ∷ rs) ≡ true → all_merged_sound (r ∷ rs) ≡ true → FieldsHaveShape (more t ts) (r ∷ rs)
    → reason_here xs ≡ None → RowsAgree u n xs (more t ts) (r ∷ rs) → Cuts u n l t r.kind → (RowsAgree u n xs ts rs → rows_struck l xs ts rs ≡ rows_cut u n l ts rs)
    → rows_struck l xs (more t ts) (r ∷ rs) ≡ rows_cut u n l (more t ts) (r ∷ rs)
unfolding struck_in cut lost
rows_step u n l xs t ts r rs d s h e a f g =
    let p : (is_sound r r.json ≡ true) × (all_merged_sound rs ≡ true) = and_true (is_sound r r.json) (all_merged_sound rs) s in
    let es : Entries = behind_row r.json (entry_or (field_reason u n r t) (lost u n t r.kind)) in
    let starts : AllStart (IsOwn r) es = (row_lies u n r t p.0 h.0 (absent_apart u n t r h.0 (lost_apart u n t r.kind))).1 in
    let behind : AllStart (IsKnown rs) (rows_lost u n ts rs) = (rows_lie u n ts rs (differ_rest r rs d) p.1 h.1).1 in
    more_is
    (row_head u n l xs t r rs (rows_lost u n ts rs) r.json p.0 h.0 e (λ x g. own_other r rs x d g) behind (λ x g. a x (known_own r rs x g)) f)
    (g (λ x k. a x (known_more r rs x k) ∙ rest_alone x (IsOwn r) (known_other r rs x d k) es (rows_lost u n ts rs) starts))

-- ---- the walk

mutual
  unfolding struck_in cut

  pub struck_cut : (u : SpecVersion) (n : ℕ) (l : SpecVersion) (t : Tree) (k : Kind) → Cuts u n l t k
  struck_cut u n l absent k xs h a = refl
  struck_cut u n l (text s) k xs h a = refl
  struck_cut u n l (number m) k xs h a = refl
  struck_cut u n l (boolean b) k xs h a = refl
  struck_cut u n l (items ts) k xs h a = ap items (items_struck_cut u n l xs ts (held_kind k) 0 h.1 a)
  struck_cut u n l (fields m ts) k xs h a = ap (fields m) (rows_struck_cut u n l (entries_behind (after_choice k m) xs) ts (rows m) (differ m) (merged_sound m) h.1 a.0 a.1)

  items_struck_cut : (u : SpecVersion) (n : ℕ) (l : SpecVersion) (xs : Entries) (ts : Trees) (k : Kind) (i : ℕ) → HaveShape ts k → ItemsAgree u n xs ts k i → items_struck l xs ts k i ≡ items_cut u n l ts k
  items_struck_cut u n l xs none k i h a = refl
  items_struck_cut u n l xs (more t ts) k i h a = items_step u n l xs t ts k i h.0 h.1 a (struck_cut u n l t k) (items_struck_cut u n l xs ts k (suc i) h.1)

  rows_struck_cut : (u : SpecVersion) (n : ℕ) (l : SpecVersion) (xs : Entries) (ts : Trees) (rs : List Row) → members_differ rs ≡ true → all_merged_sound rs ≡ true → FieldsHaveShape ts rs → reason_here xs ≡ None → RowsAgree u n xs ts rs
      → rows_struck l xs ts rs ≡ rows_cut u n l ts rs
  rows_struck_cut u n l xs none rs d s h e a = refl
  rows_struck_cut u n l xs (more t ts) [] d s h e a = refl
  rows_struck_cut u n l xs (more t ts) (r ∷ rs) d s h e a =
      rows_step u n l xs t ts r rs d s h e a (struck_cut u n l t r.kind) (rows_struck_cut u n l xs ts rs (differ_rest r rs d) (and_true (is_sound r r.json) (all_merged_sound rs) s).1 h.1 e)

pub own_struck : (u : SpecVersion) (n : ℕ) (l : SpecVersion) (t : Tree) (k : Kind) → HasShape t k → struck_in l (lost u n t k) t k ≡ cut u n l t k
own_struck u n l t k h = struck_cut u n l t k (lost u n t k) h (own_agree u n t k h)
