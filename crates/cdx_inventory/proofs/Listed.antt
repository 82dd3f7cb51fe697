-- The paths of the listed components: they differ, each leads to its component, and none is left out.
use Rattle.std.specs.Prelude.{◌≡◌, refl, ℕ, suc, List, [], ◌∷◌, ◌++◌, Bool, true, false, ◌&&◌, ◌||◌, Option, Some, None, option_and_then, codes, ◌⊎◌}
use Rattle.std.proofs.Common.{true≢false, inl, inr}
use mathlib.Core.Path.{ap, sym, ◌∙◌, subst}
use native.Mathlib.Omega.{arith}
use Rattle.cdx_models.specs.declared.errors.Step.{Step}
use Rattle.cdx_models.specs.declared.errors.Step.TheVariants.{Member, Item}
use Rattle.cdx_models.specs.Trees.{Name, license, component, pedigree, tools_object, metadata, bill, Tree, absent, text, number, boolean, items, fields, Trees, none, more}
use Rattle.cdx_schema.specs.Kinds.{Kind, a_license_choice, a_bill, Row}
use Rattle.cdx_schema.specs.Kinds as kinds
use Rattle.cdx_schema.specs.Held.{held_kind}
use Rattle.cdx_schema.specs.Table.{rows}
use Rattle.cdx_schema.specs.Faults.{to_member, to_item}
use Rattle.cdx_schema.specs.JsonReading.{or_else}
use Rattle.cdx_schema.specs.Membership.{HasShape, HaveShape, FieldsHaveShape}
use Rattle.cdx_schema.proofs.JsonBack.{and_true}
use Rattle.cdx_schema.proofs.Sound.{free_name}
use Rattle.cdx_ways.specs.Ways.{At, behind_step, behind_row, behind_choice, is_step, after_step, after_row, after_choice, whole, found, found_item, found_row}
use Rattle.cdx_ways.proofs.Lists.{own_step, after_own, after_other, after_is, In, in_left, in_right, in_either, contains_in, in_contains, in_behind, behind_in, StartsIn, AllStart, starts_behind, starts_append, all_start_wider, in_starts, IsFrom, from_next, Disjoint, Differ, differ_append, differ_behind, empty_differs, all_pairs}
use Rattle.cdx_ways.proofs.Names.{is_row, is_named, IsRow, IsNamed, is_new, names_differ, differ_in, new_row}
use Rattle.cdx_inventory.specs.Listing.{is_component, itself, listed_in, items_listed, rows_listed, listed, IsPartOf, IsInOne, ListsPaths, ListsAll}
use Rattle.cdx_inventory.proofs.Unlisted.{record_unlisted}
use Rattle.cdx_inventory.proofs.Counted.{counts_all}
use Rattle.cdx_schema.proofs.Basics.{some_same}

-- ---- every listed component is one, and every component is listed

-- What is listed as a record itself is the record, which is a component, at the empty path.
is_itself : (n : Name) (ts : Trees) (p : List Step) (c : Tree) → In (p, c) (itself n ts) → (p ≡ []) × (fields n ts ≡ c)
is_itself component ts p c (inl e) = (sym (ap (λ z. z.0) e), ap (λ z. z.1) e)
is_itself component ts p c (inr h) = elim h [ ]
is_itself _ ts p c h = elim h [ ]

is_one : (n : Name) (ts : Trees) (p : List Step) (c : Tree) → In (p, c) (itself n ts) → (p ≡ []) × (n ≡ component) × (c ≡ fields component ts)
is_one component ts p c (inl e) = (sym (ap (λ z. z.0) e), refl, sym (ap (λ z. z.1) e))
is_one component ts p c (inr h) = elim h [ ]
is_one _ ts p c h = elim h [ ]

abbrev IsComponent : Tree → Type 0
IsComponent c = (ts : Trees) × (c ≡ fields component ts)

in_row : (m : kinds.Member) (p : List Step) (c : Tree) (xs : List (At Tree)) → In (p, c) (behind_row m xs) → (q : List Step) × In (q, c) xs
in_row (kinds.member name) p c xs h = let r = in_behind _ p c xs h in (r.0, r.2)
in_row kinds.merged p c xs h = (p, h)

in_choice : (k : Kind) (n : Name) (p : List Step) (c : Tree) (xs : List (At Tree)) → In (p, c) (behind_choice k n xs) → (q : List Step) × In (q, c) xs
in_choice a_license_choice license p c xs h = let r = in_behind _ p c xs h in (r.0, r.2)
in_choice a_license_choice n p c xs h = (p, h)
in_choice _ n p c xs h = (p, h)

mutual
  unfolding listed_in

  is_component_in : (t : Tree) (k : Kind) (p : List Step) (c : Tree) → In (p, c) (listed_in t k) → IsComponent c
  is_component_in absent k p c h = elim h [ ]
  is_component_in (text s) k p c h = elim h [ ]
  is_component_in (number n) k p c h = elim h [ ]
  is_component_in (boolean b) k p c h = elim h [ ]
  is_component_in (items ts) k p c h = is_component_item ts (held_kind k) 0 p c h
  is_component_in (fields n ts) k p c h = elim (in_either (p, c) (itself n ts) (behind_choice k n (rows_listed ts (rows n))) h) [
    | inl g ↦ (ts, (is_one n ts p c g).2)
    | inr g ↦ let r = in_choice k n p c (rows_listed ts (rows n)) g in is_component_row ts (rows n) r.0 c r.1
  ]

  is_component_item : (ts : Trees) (k : Kind) (i : ℕ) (p : List Step) (c : Tree) → In (p, c) (items_listed ts k i) → IsComponent c
  is_component_item none k i p c h = elim h [ ]
  is_component_item (more t ts) k i p c h = elim (in_either (p, c) (behind_step (to_item i) (listed_in t k)) (items_listed ts k (suc i)) h) [
    | inl g ↦ let r = in_behind (to_item i) p c (listed_in t k) g in is_component_in t k r.0 c r.2
    | inr g ↦ is_component_item ts k (suc i) p c g
  ]

  is_component_row : (ts : Trees) (rs : List Row) (p : List Step) (c : Tree) → In (p, c) (rows_listed ts rs) → IsComponent c
  is_component_row none rs p c h = elim h [ ]
  is_component_row (more t ts) [] p c h = elim h [ ]
  is_component_row (more t ts) (r ∷ rs) p c h = elim (in_either (p, c) (behind_row r.json (listed_in t r.kind)) (rows_listed ts rs) h) [
    | inl g ↦ let q = in_row r.json p c (listed_in t r.kind) g in is_component_in t r.kind q.0 c q.1
    | inr g ↦ is_component_row ts rs p c g
  ]

-- ---- paths that lead to a component

path_row : (m : kinds.Member) (q : List Step) (c : Tree) (xs : List (At Tree)) → In (q, c) xs → (p : List Step) × In (p, c) (behind_row m xs)
path_row (kinds.member name) q c xs h = (_, behind_in (to_member name) q c xs h)
path_row kinds.merged q c xs h = (q, h)

path_choice : (k : Kind) (n : Name) (q : List Step) (c : Tree) (xs : List (At Tree)) → In (q, c) xs → (p : List Step) × In (p, c) (behind_choice k n xs)
path_choice a_license_choice license q c xs h = (_, behind_in (to_member (codes "license")) q c xs h)
path_choice a_license_choice n q c xs h = (q, h)
path_choice _ n q c xs h = (q, h)

abbrev IsListed : Trees → List (At Tree) → Type 0
IsListed us xs = (p : List Step) × In (p, fields component us) xs

abbrev is_fields : Tree → Bool
is_fields (fields n ts) = true
is_fields _ = false

abbrev record_name : Tree → Name
record_name (fields n ts) = n
record_name _ = license

no_text : {B : Type 0} (us : Trees) (t : Tree) → is_fields t ≡ false → fields component us ≡ t → B
no_text us t h e = absurd (true≢false (ap is_fields e ∙ h))

record_here : (us : Trees) (n : Name) (ts : Trees) → fields component us ≡ fields n ts → In ([], fields component us) (itself n ts)
record_here us component ts e = inl (ap (λ t. ([], t)) (sym e))
record_here us _ ts e = absurd (true≢false (ap (λ t. is_component (record_name t)) e))

mutual
  unfolding listed_in

  somewhere : (us : Trees) (t : Tree) (k : Kind) → HasShape t k → IsPartOf (fields component us) t → IsListed us (listed_in t k)
  somewhere us absent k h g = absurd (true≢false h)
  somewhere us (text s) k h g = no_text us (text s) refl g
  somewhere us (number n) k h g = no_text us (number n) refl g
  somewhere us (boolean b) k h g = no_text us (boolean b) refl g
  somewhere us (items ts) k h (inl e) = no_text us (items ts) refl e
  somewhere us (items ts) k h (inr g) = somewhere_item us ts (held_kind k) 0 h.1 g
  somewhere us (fields n ts) k h (inl e) = ([], in_left _ (itself n ts) (behind_choice k n (rows_listed ts (rows n))) (record_here us n ts e))
  somewhere us (fields n ts) k h (inr g) =
      let r = somewhere_row us ts (rows n) h.1 g in
      let q = path_choice k n r.0 (fields component us) (rows_listed ts (rows n)) r.1 in
      (q.0, in_right _ (itself n ts) (behind_choice k n (rows_listed ts (rows n))) q.1)

  somewhere_item : (us ts : Trees) (k : Kind) (i : ℕ) → HaveShape ts k → IsInOne (fields component us) ts → IsListed us (items_listed ts k i)
  somewhere_item us none k i h g = elim g [ ]
  somewhere_item us (more t ts) k i h (inl g) =
      let r = somewhere us t k h.0 g in
      (_, in_left _ (behind_step (to_item i) (listed_in t k)) (items_listed ts k (suc i)) (behind_in (to_item i) r.0 (fields component us) (listed_in t k) r.1))
  somewhere_item us (more t ts) k i h (inr g) =
      let r = somewhere_item us ts k (suc i) h.1 g in
      (r.0, in_right _ (behind_step (to_item i) (listed_in t k)) (items_listed ts k (suc i)) r.1)

  somewhere_row : (us ts : Trees) (rs : List Row) → FieldsHaveShape ts rs → IsInOne (fields component us) ts → IsListed us (rows_listed ts rs)
  somewhere_row us none rs h g = elim g [ ]
  somewhere_row us (more t ts) [] h g = absurd (true≢false h)
  somewhere_row us (more t ts) (r ∷ rs) h (inl g) =
      let l : IsListed us (listed_in t r.kind) = elim h.0 [ inl e ↦ no_text us absent refl (subst (IsPartOf (fields component us)) e.0 g) | inr s ↦ somewhere us t r.kind s g ] in
      let q = path_row r.json l.0 (fields component us) (listed_in t r.kind) l.1 in
      (q.0, in_left _ (behind_row r.json (listed_in t r.kind)) (rows_listed ts rs) q.1)
  somewhere_row us (more t ts) (r ∷ rs) h (inr g) =
      let q = somewhere_row us ts rs h.1 g in
      (q.0, in_right _ (behind_row r.json (listed_in t r.kind)) (rows_listed ts rs) q.1)

-- ---- what stands at a path is listed there

abbrev is_there : {A : Type 0} → Option A → Bool
is_there None = false
is_there (Some x) = true

none_is : {A B : Type 0} (x : A) → None ≡ Some x → B
none_is x e = absurd (true≢false (ap is_there (sym e)))

whole_is : (t : Tree) (p : List Step) (c : Tree) → whole t p ≡ Some c → (p ≡ []) × (t ≡ c)
whole_is t [] c h = (refl, some_same h)
whole_is t (s ∷ p) c h = none_is c h

or_either : {A : Type 0} (o o' : Option A) (x : A) → or_else o o' ≡ Some x → (o ≡ Some x) ⊎ (o' ≡ Some x)
or_either None o' x h = inr h
or_either (Some y) o' x h = inl h

then_is : {A B : Type 0} (f : A → Option B) (o : Option A) (y : B) → option_and_then f o ≡ Some y → (x : A) × (o ≡ Some x) × (f x ≡ Some y)
then_is f None y h = none_is y h
then_is f (Some x) y h = (x, refl, h)

row_in : (m : kinds.Member) (p q : List Step) (c : Tree) (xs : List (At Tree)) → after_row m p ≡ Some q → In (q, c) xs → In (p, c) (behind_row m xs)
row_in (kinds.member name) p q c xs e h = subst (λ (z : List Step). In (z, c) (behind_step (to_member name) xs)) (sym (after_is (to_member name) p q e)) (behind_in (to_member name) q c xs h)
row_in kinds.merged p q c xs e h = subst (λ (z : List Step). In (z, c) xs) (sym (some_same e)) h

choice_in : (k : Kind) (n : Name) (p q : List Step) (c : Tree) (xs : List (At Tree)) → after_choice k n p ≡ Some q → In (q, c) xs → In (p, c) (behind_choice k n xs)
choice_in a_license_choice license p q c xs e h = subst (λ (z : List Step). In (z, c) (behind_step (to_member (codes "license")) xs)) (sym (after_is (to_member (codes "license")) p q e)) (behind_in (to_member (codes "license")) q c xs h)
choice_in a_license_choice n p q c xs e h = subst (λ (z : List Step). In (z, c) xs) (sym (some_same e)) h
choice_in _ n p q c xs e h = subst (λ (z : List Step). In (z, c) xs) (sym (some_same e)) h

mutual
  unfolding listed_in found

  stands : (t : Tree) (k : Kind) (p : List Step) (us : Trees) → found t k p ≡ Some (fields component us) → In (p, fields component us) (listed_in t k)
  stands absent k p us h = none_is (fields component us) h
  stands (text s) k p us h = no_text us (text s) refl (sym (whole_is (text s) p (fields component us) h).1)
  stands (number n) k p us h = no_text us (number n) refl (sym (whole_is (number n) p (fields component us) h).1)
  stands (boolean b) k p us h = no_text us (boolean b) refl (sym (whole_is (boolean b) p (fields component us) h).1)
  stands (items ts) k p us h = elim (or_either (whole (items ts) p) (found_item ts (held_kind k) 0 p) (fields component us) h) [
    | inl e ↦ no_text us (items ts) refl (sym (whole_is (items ts) p (fields component us) e).1)
    | inr g ↦ stands_item ts (held_kind k) 0 p us g
  ]
  stands (fields n ts) k p us h = elim (or_either (whole (fields n ts) p) (option_and_then (λ q. found_row ts (rows n) q) (after_choice k n p)) (fields component us) h) [
    | inl e ↦
        let w = whole_is (fields n ts) p (fields component us) e in
        in_left (p, fields component us) (itself n ts) (behind_choice k n (rows_listed ts (rows n)))
        (subst (λ (z : List Step). In (z, fields component us) (itself n ts)) (sym w.0) (record_here us n ts (sym w.1)))
    | inr g ↦
        let q = then_is (λ q. found_row ts (rows n) q) (after_choice k n p) (fields component us) g in
        in_right (p, fields component us) (itself n ts) (behind_choice k n (rows_listed ts (rows n)))
        (choice_in k n p q.0 (fields component us) (rows_listed ts (rows n)) q.1 (stands_row ts (rows n) q.0 us q.2))
  ]

  stands_item : (ts : Trees) (k : Kind) (i : ℕ) (p : List Step) (us : Trees) → found_item ts k i p ≡ Some (fields component us) → In (p, fields component us) (items_listed ts k i)
  stands_item none k i p us h = none_is (fields component us) h
  stands_item (more t ts) k i p us h = elim (or_either (option_and_then (λ q. found t k q) (after_step (to_item i) p)) (found_item ts k (suc i) p) (fields component us) h) [
    | inl g ↦
        let q = then_is (λ q. found t k q) (after_step (to_item i) p) (fields component us) g in
        in_left (p, fields component us) (behind_step (to_item i) (listed_in t k)) (items_listed ts k (suc i))
        (subst (λ (z : List Step). In (z, fields component us) (behind_step (to_item i) (listed_in t k))) (sym (after_is (to_item i) p q.0 q.1)) (behind_in (to_item i) q.0 (fields component us) (listed_in t k) (stands t k q.0 us q.2)))
    | inr g ↦ in_right (p, fields component us) (behind_step (to_item i) (listed_in t k)) (items_listed ts k (suc i)) (stands_item ts k (suc i) p us g)
  ]

  stands_row : (ts : Trees) (rs : List Row) (p : List Step) (us : Trees) → found_row ts rs p ≡ Some (fields component us) → In (p, fields component us) (rows_listed ts rs)
  stands_row none rs p us h = none_is (fields component us) h
  stands_row (more t ts) [] p us h = none_is (fields component us) h
  stands_row (more t ts) (r ∷ rs) p us h = elim (or_either (option_and_then (λ q. found t r.kind q) (after_row r.json p)) (found_row ts rs p) (fields component us) h) [
    | inl g ↦
        let q = then_is (λ q. found t r.kind q) (after_row r.json p) (fields component us) g in
        in_left (p, fields component us) (behind_row r.json (listed_in t r.kind)) (rows_listed ts rs)
        (row_in r.json p q.0 (fields component us) (listed_in t r.kind) q.1 (stands t r.kind q.0 us q.2))
    | inr g ↦ in_right (p, fields component us) (behind_row r.json (listed_in t r.kind)) (rows_listed ts rs) (stands_row ts rs p us g)
  ]

-- ---- the records that hold components

abbrev is_member : kinds.Member → Bool
is_member (kinds.member name) = true
is_member kinds.merged = false

abbrev all_members : List Row → Bool
all_members [] = true
all_members (r ∷ rs) = is_member r.json && all_members rs

plain_rows : (n : Name) → free_name n ≡ false → all_members (rows n) ≡ true
unfolding rows
plain_rows component h = refl
plain_rows pedigree h = refl
plain_rows tools_object h = refl
plain_rows metadata h = refl
plain_rows bill h = refl
plain_rows _ h = absurd (true≢false h)

plain_behind : (k : Kind) (n : Name) (xs : List (At Tree)) → free_name n ≡ false → behind_choice k n xs ≡ xs
plain_behind a_license_choice license xs h = absurd (true≢false h)
plain_behind a_license_choice _ xs h = refl
plain_behind _ n xs h = refl

plain_after : (k : Kind) (n : Name) (p : List Step) → free_name n ≡ false → after_choice k n p ≡ Some p
plain_after a_license_choice license p h = absurd (true≢false h)
plain_after a_license_choice _ p h = refl
plain_after _ n p h = refl

-- ---- the first steps of what is listed

not_next : (i : ℕ) (s : Step) → IsFrom (suc i) s → is_step (to_item i) s ≡ false
not_next i (Item j) h = grind (arith, h)
not_next i (Member m) h = absurd (true≢false h)

or_left : (a b : Bool) → a ≡ true → (a || b) ≡ true
or_left a b h = rw h refl

or_right : (a b : Bool) → b ≡ true → (a || b) ≡ true
or_right true b h = refl
or_right false b h = h

mutual
  unfolding listed_in

  items_start : (ts : Trees) (k : Kind) (i : ℕ) → AllStart (IsFrom i) (items_listed ts k i)
  items_start none k i = tt
  items_start (more t ts) k i = starts_append (IsFrom i) (behind_step (to_item i) (listed_in t k)) (items_listed ts k (suc i))
      (starts_behind (IsFrom i) (to_item i) (listed_in t k) (omega arith)) (all_start_wider (IsFrom (suc i)) (IsFrom i) (from_next i) (items_listed ts k (suc i)) (items_start ts k (suc i)))

row_starts : (m : kinds.Member) (rs : List Row) (xs : List (At Tree)) → is_member m ≡ true → AllStart (λ s. (is_row m s || is_named rs s) ≡ true) (behind_row m xs)
row_starts (kinds.member name) rs xs h = starts_behind (λ s. (is_row (kinds.member name) s || is_named rs s) ≡ true) (to_member name) xs (or_left (is_step (to_member name) (to_member name)) (is_named rs (to_member name)) (own_step (to_member name)))
row_starts kinds.merged rs xs h = absurd (true≢false (sym h))

rows_start : (ts : Trees) (rs : List Row) → all_members rs ≡ true → AllStart (IsNamed rs) (rows_listed ts rs)
unfolding listed_in
rows_start none rs h = tt
rows_start (more t ts) [] h = tt
rows_start (more t ts) (r ∷ rs) h =
    let p = and_true (is_member r.json) (all_members rs) h in
    starts_append (IsNamed (r ∷ rs)) (behind_row r.json (listed_in t r.kind)) (rows_listed ts rs) (row_starts r.json rs (listed_in t r.kind) p.0)
    (all_start_wider (IsNamed rs) (IsNamed (r ∷ rs)) (λ s e. or_right (is_row r.json s) (is_named rs s) e) (rows_listed ts rs) (rows_start ts rs p.1))

-- ---- each path leads to its component

not_whole : (Q : Step → Type 0) (t : Tree) (p : List Step) → StartsIn Q p → whole t p ≡ None
not_whole Q t [] h = absurd (true≢false h)
not_whole Q t (s ∷ p) h = refl

item_passed : (i : ℕ) (p : List Step) → StartsIn (IsFrom (suc i)) p → after_step (to_item i) p ≡ None
item_passed i [] h = refl
item_passed i (s ∷ p) h = after_other (to_item i) s p (not_next i s h)

pub bool_cases : (b : Bool) → (b ≡ true) ⊎ (b ≡ false)
bool_cases true = inl refl
bool_cases false = inr refl

row_passed : (m : kinds.Member) (rs : List Row) (p : List Step) → is_member m ≡ true → is_new m rs ≡ true → StartsIn (IsNamed rs) p → after_row m p ≡ None
row_passed (kinds.member name) rs [] a h g = refl
row_passed (kinds.member name) rs (s ∷ p) a h g = elim (bool_cases (is_step (to_member name) s)) [ inl e ↦ elim (new_row (kinds.member name) rs h s e g) [ ] | inr e ↦ after_other (to_member name) s p e ]
row_passed kinds.merged rs p a h g = absurd (true≢false (sym a))

or_first : {A : Type 0} (o o' : Option A) (x : A) → o ≡ Some x → or_else o o' ≡ Some x
or_first o o' x h = ap (λ z. or_else z o') h

or_second : {A : Type 0} (o o' : Option A) (x : A) → o ≡ None → o' ≡ Some x → or_else o o' ≡ Some x
or_second o o' x h g = ap (λ z. or_else z o') h ∙ g

step_leads : (s : Step) (t : Tree) (k : Kind) (p q : List Step) (c : Tree) → p ≡ s ∷ q → found t k q ≡ Some c → option_and_then (λ z. found t k z) (after_step s p) ≡ Some c
step_leads s t k p q c e h = ap (λ z. option_and_then (λ y. found t k y) (after_step s z)) e ∙ (ap (option_and_then (λ y. found t k y)) (after_own s q) ∙ h)

abbrev LeadsBack : Tree → Kind → Type 0
LeadsBack t k = (p : List Step) (c : Tree) → In (p, c) (listed_in t k) → found t k p ≡ Some c

row_leads : (m : kinds.Member) (t : Tree) (k : Kind) → is_member m ≡ true → LeadsBack t k → (p : List Step) (c : Tree) → In (p, c) (behind_row m (listed_in t k)) → option_and_then (λ z. found t k z) (after_row m p) ≡ Some c
row_leads (kinds.member name) t k a f p c h =
    let q = in_behind (to_member name) p c (listed_in t k) h in
    step_leads (to_member name) t k p q.0 c q.1 (f q.0 c q.2)
row_leads kinds.merged t k a f p c h = absurd (true≢false (sym a))

absent_leads : (k : Kind) → LeadsBack absent k
unfolding listed_in
absent_leads k p c h = elim h [ ]

mutual
  unfolding listed_in found

  leads : (t : Tree) (k : Kind) → HasShape t k → LeadsBack t k
  leads absent k h p c g = elim g [ ]
  leads (text s) k h p c g = elim g [ ]
  leads (number n) k h p c g = elim g [ ]
  leads (boolean b) k h p c g = elim g [ ]
  leads (items ts) k h p c g =
      or_second (whole (items ts) p) (found_item ts (held_kind k) 0 p) c
      (not_whole (IsFrom 0) (items ts) p (in_starts (IsFrom 0) p c (items_listed ts (held_kind k) 0) (items_start ts (held_kind k) 0) g))
      (leads_item ts (held_kind k) 0 h.1 p c g)
  leads (fields n ts) k h p c g = elim (bool_cases (free_name n)) [
    | inl e ↦ elim (subst (In (p, c)) (record_unlisted n ts k h.1 e) g) [ ]
    | inr e ↦ elim (in_either (p, c) (itself n ts) (behind_choice k n (rows_listed ts (rows n))) g) [
      | inl i ↦
          let w = is_itself n ts p c i in
          or_first (whole (fields n ts) p) (option_and_then (λ q. found_row ts (rows n) q) (after_choice k n p)) c (ap (whole (fields n ts)) w.0 ∙ ap Some w.1)
      | inr i ↦
          let j = subst (In (p, c)) (plain_behind k n (rows_listed ts (rows n)) e) i in
          or_second (whole (fields n ts) p) (option_and_then (λ q. found_row ts (rows n) q) (after_choice k n p)) c
          (not_whole (IsNamed (rows n)) (fields n ts) p (in_starts (IsNamed (rows n)) p c (rows_listed ts (rows n)) (rows_start ts (rows n) (plain_rows n e)) j))
          (ap (option_and_then (λ q. found_row ts (rows n) q)) (plain_after k n p e) ∙ leads_row ts (rows n) h.1 (plain_rows n e) (differ_in n) p c j)
    ]
  ]

  leads_item : (ts : Trees) (k : Kind) (i : ℕ) → HaveShape ts k → (p : List Step) (c : Tree) → In (p, c) (items_listed ts k i) → found_item ts k i p ≡ Some c
  leads_item none k i h p c g = elim g [ ]
  leads_item (more t ts) k i h p c g = elim (in_either (p, c) (behind_step (to_item i) (listed_in t k)) (items_listed ts k (suc i)) g) [
    | inl j ↦
        let q = in_behind (to_item i) p c (listed_in t k) j in
        or_first (option_and_then (λ z. found t k z) (after_step (to_item i) p)) (found_item ts k (suc i) p) c (step_leads (to_item i) t k p q.0 c q.1 (leads t k h.0 q.0 c q.2))
    | inr j ↦
        or_second (option_and_then (λ z. found t k z) (after_step (to_item i) p)) (found_item ts k (suc i) p) c
        (ap (option_and_then (λ z. found t k z)) (item_passed i p (in_starts (IsFrom (suc i)) p c (items_listed ts k (suc i)) (items_start ts k (suc i)) j)))
        (leads_item ts k (suc i) h.1 p c j)
  ]

  leads_row : (ts : Trees) (rs : List Row) → FieldsHaveShape ts rs → all_members rs ≡ true → names_differ rs ≡ true → (p : List Step) (c : Tree) → In (p, c) (rows_listed ts rs) → found_row ts rs p ≡ Some c
  leads_row none rs h a d p c g = elim g [ ]
  leads_row (more t ts) [] h a d p c g = elim g [ ]
  leads_row (more t ts) (r ∷ rs) h a d p c g =
      let m = and_true (is_member r.json) (all_members rs) a in
      let w = and_true (is_new r.json rs) (names_differ rs) d in
      elim (in_either (p, c) (behind_row r.json (listed_in t r.kind)) (rows_listed ts rs) g) [
        | inl j ↦
            or_first (option_and_then (λ z. found t r.kind z) (after_row r.json p)) (found_row ts rs p) c
            (row_leads r.json t r.kind m.0 (elim h.0 [ inl e ↦ subst (λ (x : Tree). LeadsBack x r.kind) (sym e.0) (absent_leads r.kind) | inr s ↦ leads t r.kind s ]) p c j)
        | inr j ↦
            or_second (option_and_then (λ z. found t r.kind z) (after_row r.json p)) (found_row ts rs p) c
            (ap (option_and_then (λ z. found t r.kind z)) (row_passed r.json rs p m.0 w.0 (in_starts (IsNamed rs) p c (rows_listed ts rs) (rows_start ts rs m.1) j)))
            (leads_row ts rs h.1 m.1 w.1 p c j)
      ]

-- ---- the paths differ

differ_row : (m : kinds.Member) (xs : List (At Tree)) → Differ xs → Differ (behind_row m xs)
differ_row (kinds.member name) xs h = differ_behind (to_member name) xs h
differ_row kinds.merged xs h = h

starts_row : (m : kinds.Member) (xs : List (At Tree)) → is_member m ≡ true → AllStart (IsRow m) (behind_row m xs)
starts_row (kinds.member name) xs h = starts_behind (IsRow (kinds.member name)) (to_member name) xs (own_step (to_member name))
starts_row kinds.merged xs h = absurd (true≢false (sym h))

differ_itself : (Q : Step → Type 0) (n : Name) (ts : Trees) (xs : List (At Tree)) → AllStart Q xs → Differ xs → Differ (itself n ts ++ xs)
differ_itself Q component ts xs h d = (empty_differs Q xs h, d)
differ_itself Q _ ts xs h d = d

this_not_next : (i : ℕ) → Disjoint (λ s. s ≡ to_item i) (IsFrom (suc i))
this_not_next i s e h = absurd (omega (arith, subst (IsFrom (suc i)) e h))

mutual
  unfolding listed_in

  differ_in_tree : (t : Tree) (k : Kind) → HasShape t k → Differ (listed_in t k)
  differ_in_tree absent k h = tt
  differ_in_tree (text s) k h = tt
  differ_in_tree (number n) k h = tt
  differ_in_tree (boolean b) k h = tt
  differ_in_tree (items ts) k h = differ_items ts (held_kind k) 0 h.1
  differ_in_tree (fields n ts) k h = elim (bool_cases (free_name n)) [
    | inl e ↦ subst Differ (sym (record_unlisted n ts k h.1 e)) tt
    | inr e ↦ subst (λ (xs : List (At Tree)). Differ (itself n ts ++ xs)) (sym (plain_behind k n (rows_listed ts (rows n)) e))
        (differ_itself (IsNamed (rows n)) n ts (rows_listed ts (rows n)) (rows_start ts (rows n) (plain_rows n e)) (differ_rows ts (rows n) h.1 (plain_rows n e) (differ_in n)))
  ]

  differ_items : (ts : Trees) (k : Kind) (i : ℕ) → HaveShape ts k → Differ (items_listed ts k i)
  differ_items none k i h = tt
  differ_items (more t ts) k i h =
      differ_append (λ s. s ≡ to_item i) (IsFrom (suc i)) (this_not_next i) (behind_step (to_item i) (listed_in t k)) (items_listed ts k (suc i))
      (differ_behind (to_item i) (listed_in t k) (differ_in_tree t k h.0)) (differ_items ts k (suc i) h.1)
      (starts_behind (λ s. s ≡ to_item i) (to_item i) (listed_in t k) refl) (items_start ts k (suc i))

  differ_rows : (ts : Trees) (rs : List Row) → FieldsHaveShape ts rs → all_members rs ≡ true → names_differ rs ≡ true → Differ (rows_listed ts rs)
  differ_rows none rs h a d = tt
  differ_rows (more t ts) [] h a d = tt
  differ_rows (more t ts) (r ∷ rs) h a d =
      let m = and_true (is_member r.json) (all_members rs) a in
      let w = and_true (is_new r.json rs) (names_differ rs) d in
      differ_append (IsRow r.json) (IsNamed rs) (new_row r.json rs w.0) (behind_row r.json (listed_in t r.kind)) (rows_listed ts rs)
      (differ_row r.json (listed_in t r.kind) (elim h.0 [ inl e ↦ subst (λ (x : Tree). Differ (listed_in x r.kind)) (sym e.0) tt | inr s ↦ differ_in_tree t r.kind s ]))
      (differ_rows ts rs h.1 m.1 w.1) (starts_row r.json (listed_in t r.kind) m.0) (rows_start ts rs m.1)

-- ---- the laws

pub lists_paths : ListsPaths
lists_paths b h = (
  all_pairs (listed b) (differ_in_tree b a_bill h),
  λ p c g. let i = contains_in (p, c) (listed b) g in (leads b a_bill h p c i, is_component_in b a_bill p c i),
)

pub lists_all : ListsAll
lists_all b h = (
  λ ts g. let r = somewhere ts b a_bill h g in (r.0, in_contains (r.0, fields component ts) (listed b) r.1),
  λ p ts g. in_contains (p, fields component ts) (listed b) (stands b a_bill p ts g),
  counts_all b h,
)
