-- The second trip takes the suppliers that the first has emptied, and a third takes nothing more.
use Rattle.std.specs.Prelude.{◌≡◌, refl, ℕ, List, [], ◌∷◌, Bool, true, false, not, ◌&&◌, if◌then◌else◌}
use Rattle.std.proofs.Common.{true≢false, inl, inr}
use mathlib.Core.Path.{ap, sym, ◌∙◌}
use Rattle.cdx_models.specs.Trees.{Name, contact, entity, diff, source, evidence, Tree, absent, text, number, boolean, items, fields, Trees, none, more, is_absent}
use Rattle.cdx_schema.specs.Kinds.{Kind, a_record, Need, optional, Spelled, filled_child, children, Row}
use Rattle.cdx_schema.specs.Table.{rows}
use Rattle.cdx_schema.specs.Held.{held_kind}
use Rattle.cdx_schema.specs.Membership.{AnyText, HasShape, HaveShape, FieldsHaveShape}
use Rattle.cdx_schema.specs.Trips.{bare, items_bare, rows_bare, is_hollow, is_passed_over, field_after, none_is_absent, no_child}
use Rattle.cdx_schema.proofs.JsonBack.{and_true}
use Rattle.cdx_schema.proofs.Sound.{sound_xml, all_sound, sound, sound_parts, whole_kind, whole_name}
use Rattle.cdx_schema.specs.Suppliers.{is_entity, is_entity_kind, is_supplier, unsupplied, items_unsupplied, rows_unsupplied}
use Rattle.cdx_schema.proofs.XmlLaw.{same_either}
use Rattle.cdx_schema.proofs.KeptOf.{IsField}
use Rattle.cdx_schema.proofs.TrippedOf.{bare_of}
use Rattle.cdx_schema.proofs.Commute.{no_child_row, filled_whole}
use Rattle.cdx_schema.proofs.Basics.{more_is}

bare_there : (t : Tree) → is_absent (bare t) ≡ is_absent t
unfolding bare
bare_there absent = refl
bare_there _ = refl

-- rows whose fields a trip looks into and never takes
abbrev is_steady : Spelled → Bool
is_steady (filled_child q) = false
is_steady (children q) = false
is_steady _ = true

abbrev all_steady : List Row → Bool
all_steady [] = true
all_steady (r ∷ rs) = is_steady r.xml && all_steady rs

steady_after : (r : Row) (t u : Tree) → is_steady r.xml ≡ true → field_after r t u ≡ u
steady_after r t u h = by r.xml h
  where
    by : (x : Spelled) → is_steady x ≡ true → field_after (record r { xml = x }) t u ≡ u
    by (filled_child q) e = absurd (true≢false (sym e))
    by (children q) e = absurd (true≢false (sym e))
    by _ e = refl

no_child_bare : (ts : Trees) (rs : List Row) → all_steady rs ≡ true → no_child (rows_bare ts rs) rs ≡ no_child ts rs
unfolding bare
no_child_bare none rs h = refl
no_child_bare (more t ts) [] h = refl
no_child_bare (more t ts) (r ∷ rs) h =
    let p : (is_steady r.xml ≡ true) × (all_steady rs ≡ true) = and_true (is_steady r.xml) (all_steady rs) h in
    no_child_row r (field_after r t (bare t)) t (rows_bare ts rs) ts rs (ap is_absent (steady_after r t (bare t) p.0) ∙ bare_there t) (no_child_bare ts rs p.1)

steady_rows : (n : Name) → whole_name n ≡ true → is_entity n ≡ false → all_steady (rows n) ≡ true
unfolding rows
steady_rows contact h e = refl
steady_rows diff h e = refl
steady_rows source h e = refl
steady_rows evidence h e = refl
steady_rows entity h e = absurd (true≢false e)
steady_rows _ h e = absurd (true≢false (sym h))

hollow_bare : (t : Tree) (k : Kind) → whole_kind k ≡ true → is_entity_kind k ≡ false → HasShape t k → is_hollow (bare t) ≡ is_hollow t
unfolding bare is_hollow
hollow_bare (fields n ts) (a_record m) w e h = no_child_bare ts (rows n) (steady_rows n (ap whole_name h.0 ∙ w) (ap is_entity h.0 ∙ e))
hollow_bare (fields n ts) _ w e h = absurd (true≢false (sym w))
hollow_bare _ k w e h = refl

passed_bare : (t : Tree) → is_passed_over (bare t) ≡ is_passed_over t
unfolding bare is_hollow
passed_bare (fields contact ts) = no_child_bare ts (rows contact) (unfold rows in refl)
passed_bare _ = refl

lists_twice : (n : Need) (x : Tree) → bare x ≡ unsupplied x → none_is_absent n (bare (none_is_absent n x)) ≡ unsupplied (none_is_absent n x)
unfolding bare unsupplied
lists_twice optional (items none) e = refl
lists_twice optional (items (more t ts)) e = ap (none_is_absent optional) e
lists_twice optional absent e = refl
lists_twice optional (text s) e = refl
lists_twice optional (number s) e = refl
lists_twice optional (boolean s) e = refl
lists_twice optional (fields n ts) e = e
lists_twice _ x e = e

hollow_bare_field : (t : Tree) (r : Row) → whole_kind r.kind ≡ true → is_entity_kind r.kind ≡ false → IsField t r → is_hollow (bare t) ≡ is_hollow t
unfolding bare
hollow_bare_field t r w e (inl h) = ap (λ x. is_hollow (bare x)) h.0 ∙ sym (ap is_hollow h.0)
hollow_bare_field t r w e (inr h) = hollow_bare t r.kind w e h

abbrev Twice : Spelled → Row → Tree → Type 0
Twice x r u = field_after (record r { xml = x }) u (bare u) ≡ (if is_supplier x r.kind && is_hollow u then absent else unsupplied u)

filled_twice : (r : Row) (t : Tree) (q : List ℕ) → whole_kind r.kind ≡ true → IsField t r → bare (bare t) ≡ unsupplied (bare t) → (b : Bool) → is_hollow t ≡ b → Twice (filled_child q) r (if b then absent else bare t)
filled_twice r t q w h e true i = unfold is_hollow bare unsupplied in sym (same_either (is_entity_kind r.kind && false) absent)
filled_twice r t q w h e false i = by (is_entity_kind r.kind) refl
  where
    by : (c : Bool) → is_entity_kind r.kind ≡ c → (if is_hollow (bare t) then absent else bare (bare t)) ≡ (if c && is_hollow (bare t) then absent else unsupplied (bare t))
    by true f = ap (λ x. if is_hollow (bare t) then absent else x) e
    by false f = ap (λ b. if b then absent else bare (bare t)) (hollow_bare_field t r w f h ∙ i) ∙ e

field_twice : (r : Row) (t : Tree) → sound_xml r.xml r.need r.kind ≡ true → IsField t r → bare (bare t) ≡ unsupplied (bare t) → Twice r.xml r (field_after r t (bare t))
field_twice r t s h e = by r.xml s
  where
    by : (x : Spelled) → sound_xml x r.need r.kind ≡ true → Twice x r (field_after (record r { xml = x }) t (bare t))
    by (filled_child q) g = filled_twice r t q (filled_whole r.need r.kind g) h e (is_hollow t) refl
    by (children q) g = lists_twice r.need (bare t) e
    by _ g = e

item_twice : (b : Bool) (t : Tree) (ts : Trees) → is_passed_over t ≡ b → bare t ≡ unsupplied t → items_bare ts ≡ items_unsupplied ts → (b ≡ false → items_bare (more t ts) ≡ items_unsupplied (more t ts))
unfolding bare unsupplied
item_twice b t ts i e f g = ap (λ x. if x then items_bare ts else more (bare t) (items_bare ts)) (i ∙ g) ∙ more_is e f

items_step : (b : Bool) (t : Tree) (ts : Trees) → is_passed_over (bare t) ≡ b → bare (bare t) ≡ unsupplied (bare t) → items_bare ts ≡ items_unsupplied ts
    → items_bare (if b then ts else more (bare t) ts) ≡ items_unsupplied (if b then ts else more (bare t) ts)
items_step true t ts i e f = f
items_step false t ts i e f = item_twice false (bare t) ts i e f refl

absent_bare : (t : Tree) (r : Row) → IsField t r → (HasShape t r.kind → bare (bare t) ≡ unsupplied (bare t)) → bare (bare t) ≡ unsupplied (bare t)
unfolding bare unsupplied
absent_bare t r (inl h) f = ap (λ x. bare (bare x)) h.0 ∙ sym (ap (λ x. unsupplied (bare x)) h.0)
absent_bare t r (inr h) f = f h

mutual
  unfolding bare unsupplied

  -- What the second trip takes.
  pub bare_twice : (t : Tree) (k : Kind) → HasShape t k → bare (bare t) ≡ unsupplied (bare t)
  bare_twice (items ts) k h = ap items (items_bare_twice ts (held_kind k) h.1)
  bare_twice (fields n ts) k h = ap (fields n) (rows_bare_twice ts (rows n) (sound n) h.1)
  bare_twice _ k h = refl

  items_bare_twice : (ts : Trees) (k : Kind) → HaveShape ts k → items_bare (items_bare ts) ≡ items_unsupplied (items_bare ts)
  items_bare_twice none k h = refl
  items_bare_twice (more t ts) k h = items_step (is_passed_over t) t (items_bare ts) (passed_bare t) (bare_twice t k h.0) (items_bare_twice ts k h.1)

  rows_bare_twice : (ts : Trees) (rs : List Row) → all_sound rs ≡ true → FieldsHaveShape ts rs → rows_bare (rows_bare ts rs) rs ≡ rows_unsupplied (rows_bare ts rs) rs
  rows_bare_twice none rs s h = refl
  rows_bare_twice (more t ts) [] s h = refl
  rows_bare_twice (more t ts) (r ∷ rs) s h = more_is (field_twice r t (sound_parts r rs s).1 h.0 (absent_bare t r h.0 (bare_twice t r.kind))) (rows_bare_twice ts rs (sound_parts r rs s).2 h.1)

-- ---- a third trip

pub unsupplied_there : (t : Tree) → is_absent (unsupplied t) ≡ is_absent t
unfolding unsupplied
unsupplied_there absent = refl
unsupplied_there _ = refl

abbrev pub no_supplier : List Row → Bool
no_supplier [] = true
no_supplier (r ∷ rs) = not (is_supplier r.xml r.kind) && no_supplier rs

unsupplied_row : (b : Bool) (t : Tree) (c : Bool) → not b ≡ true → is_absent (if b && c then absent else unsupplied t) ≡ is_absent t
unsupplied_row true t c h = absurd (true≢false (sym h))
unsupplied_row false t c h = unsupplied_there t

pub no_child_unsupplied : (ts : Trees) (rs : List Row) → no_supplier rs ≡ true → no_child (rows_unsupplied ts rs) rs ≡ no_child ts rs
unfolding unsupplied
no_child_unsupplied none rs h = refl
no_child_unsupplied (more t ts) [] h = refl
no_child_unsupplied (more t ts) (r ∷ rs) h =
    let p : (not (is_supplier r.xml r.kind) ≡ true) × (no_supplier rs ≡ true) = and_true (not (is_supplier r.xml r.kind)) (no_supplier rs) h in
    no_child_row r (if is_supplier r.xml r.kind && is_hollow t then absent else unsupplied t) t (rows_unsupplied ts rs) ts rs (unsupplied_row (is_supplier r.xml r.kind) t (is_hollow t) p.0) (no_child_unsupplied ts rs p.1)

entity_rows : (n : Name) → is_entity n ≡ true → no_supplier (rows n) ≡ true
unfolding rows
entity_rows entity h = refl
entity_rows _ h = absurd (true≢false (sym h))

hollow_unsupplied : (t : Tree) (k : Kind) → is_entity_kind k ≡ true → HasShape t k → is_hollow (unsupplied t) ≡ is_hollow t
unfolding unsupplied is_hollow
hollow_unsupplied (fields n ts) (a_record m) e h = no_child_unsupplied ts (rows n) (entity_rows n (ap is_entity h.0 ∙ e))
hollow_unsupplied (fields n ts) _ e h = absurd (true≢false (sym e))
hollow_unsupplied _ k e h = refl

supplier_entity : (x : Spelled) (k : Kind) → is_supplier x k ≡ true → is_entity_kind k ≡ true
supplier_entity (filled_child q) k h = h
supplier_entity _ k h = absurd (true≢false (sym h))

hollow_field : (t : Tree) (r : Row) → is_supplier r.xml r.kind ≡ true → IsField t r → is_hollow (unsupplied t) ≡ is_hollow t
unfolding unsupplied
hollow_field t r e (inl h) = ap (λ x. is_hollow (unsupplied x)) h.0 ∙ sym (ap is_hollow h.0)
hollow_field t r e (inr h) = hollow_unsupplied t r.kind (supplier_entity r.xml r.kind e) h

abbrev Again : Bool → Tree → Type 0
Again s u = (if s && is_hollow u then absent else unsupplied u) ≡ u

again : (s : Bool) (t : Tree) (b : Bool) → is_hollow t ≡ b → (s ≡ true → is_hollow (unsupplied t) ≡ is_hollow t) → unsupplied (unsupplied t) ≡ unsupplied t → Again s (if s && b then absent else unsupplied t)
again false t b i h e = e
again true t true i h e = unfold is_hollow unsupplied in refl
again true t false i h e = ap (λ c. if c then absent else unsupplied (unsupplied t)) (h refl ∙ i) ∙ e

absent_again : (t : Tree) (r : Row) → IsField t r → (HasShape t r.kind → unsupplied (unsupplied t) ≡ unsupplied t) → unsupplied (unsupplied t) ≡ unsupplied t
unfolding unsupplied
absent_again t r (inl h) f = ap (λ x. unsupplied (unsupplied x)) h.0 ∙ sym (ap unsupplied h.0)
absent_again t r (inr h) f = f h

mutual
  unfolding unsupplied

  unsupplied_twice : (t : Tree) (k : Kind) → HasShape t k → unsupplied (unsupplied t) ≡ unsupplied t
  unsupplied_twice (items ts) k h = ap items (items_unsupplied_twice ts (held_kind k) h.1)
  unsupplied_twice (fields n ts) k h = ap (fields n) (rows_unsupplied_twice ts (rows n) h.1)
  unsupplied_twice _ k h = refl

  items_unsupplied_twice : (ts : Trees) (k : Kind) → HaveShape ts k → items_unsupplied (items_unsupplied ts) ≡ items_unsupplied ts
  items_unsupplied_twice none k h = refl
  items_unsupplied_twice (more t ts) k h = more_is (unsupplied_twice t k h.0) (items_unsupplied_twice ts k h.1)

  rows_unsupplied_twice : (ts : Trees) (rs : List Row) → FieldsHaveShape ts rs → rows_unsupplied (rows_unsupplied ts rs) rs ≡ rows_unsupplied ts rs
  rows_unsupplied_twice none rs h = refl
  rows_unsupplied_twice (more t ts) [] h = refl
  rows_unsupplied_twice (more t ts) (r ∷ rs) h = more_is (again (is_supplier r.xml r.kind) t (is_hollow t) refl (λ e. hollow_field t r e h.0) (absent_again t r h.0 (unsupplied_twice t r.kind))) (rows_unsupplied_twice ts rs h.1)

-- A third trip takes nothing.
pub bare_thrice : (t : Tree) (k : Kind) → HasShape t k → bare (bare (bare t)) ≡ bare (bare t)
bare_thrice t k h = bare_twice (bare t) k (bare_of AnyText t k h)
    ∙ (ap unsupplied (bare_twice t k h) ∙ (unsupplied_twice (bare t) k (bare_of AnyText t k h) ∙ sym (bare_twice t k h)))
