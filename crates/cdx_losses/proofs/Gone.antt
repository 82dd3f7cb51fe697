-- What trips through XML leave out of records and lists.
use Prim.Native.String.{String}
use Rattle.std.specs.Prelude.{◌≡◌, refl, ℕ, zero, suc, ◌+◌, ◌<◌, ◌≤◌, ◌==◌, List, [], ◌∷◌, length, drop, Bool, true, false, not, ◌&&◌, ◌||◌, if◌then◌else◌, Option, Some, None, is_some, codes}
use Rattle.std.proofs.Common.{true≢false, get_or, eqb-true}
use Rattle.std.proofs.lemmas.List.{at_drop_more, at_drop_all}
use mathlib.Core.Path.{ap, sym, ◌∙◌}
use native.Mathlib.Omega.{arith}
use Rattle.cdx_models.specs.declared.bom.SpecVersion.{SpecVersion}
use Rattle.cdx_models.specs.declared.bom.SpecVersion.TheVariants.{V1_3, V1_4, V1_5}
use Rattle.cdx_models.specs.Trees.{Name, entity, Tree, absent, text, number, boolean, items, fields, Trees, present, list_tree, is_absent}
use Rattle.cdx_models.specs.Records.{contact_tree, entity_tree}
use Rattle.cdx_models.specs.declared.organization.OrganizationalContact.{OrganizationalContact}
use Rattle.cdx_models.specs.declared.organization.OrganizationalEntity.{OrganizationalEntity}
use Rattle.cdx_schema.specs.Kinds.{Lists, Kind, a_list, a_record, a_tools, an_entry, Spelled, filled_child, children, Row}
use Rattle.cdx_schema.specs.Table as table
use Rattle.cdx_schema.specs.Table.{rows}
use Rattle.cdx_schema.specs.Trips.{bare, is_hollow}
use Rattle.cdx_schema.specs.Suppliers.{is_entity}
use Rattle.cdx_schema.specs.JsonReading.{or_else}
use Rattle.cdx_losses.specs.declared.loss.Reason.{Reason}
use Rattle.cdx_losses.specs.declared.loss.Reason.TheVariants.{Xml}
use Rattle.cdx_losses.specs.Losses.{reason_in, changed_by, is_tripped, if_so, field_reason}
use Rattle.cdx_losses.specs.LeftOut.{after_a_trip, after_two_trips, is_left_out, supplier_row}
use Rattle.cdx_trips.proofs.Childless.{absent_row, three_gone}
use Rattle.cdx_losses.proofs.Members.{bare_there}
use Rattle.cdx_losses.proofs.Spared.{or_end, reason_there}

-- ---- kinds that no version changes

abbrev pub is_fixed : Kind → Bool
is_fixed a_tools = false
is_fixed an_entry = false
is_fixed _ = true

fixed_record : (u : SpecVersion) (k : Kind) (m : Name) (ts : Trees) → is_fixed k ≡ true → reason_in u k m ts ≡ None
fixed_record u a_tools m ts h = absurd (true≢false (sym h))
fixed_record u an_entry m ts h = absurd (true≢false (sym h))
fixed_record V1_3 _ m ts h = refl
fixed_record V1_4 _ m ts h = refl
fixed_record V1_5 _ m ts h = refl

pub unchanged : (u : SpecVersion) (k : Kind) (t : Tree) → is_fixed k ≡ true → changed_by u k t ≡ None
unchanged u k absent h = refl
unchanged u k (text s) h = refl
unchanged u k (number m) h = refl
unchanged u k (boolean b) h = refl
unchanged u k (items ts) h = refl
unchanged u k (fields m ts) h = fixed_record u k m ts h

-- ---- rows that trips may take

-- a row that every version knows, of a kind that none changes
trip_reason : (u : SpecVersion) (n : ℕ) (k : Kind) (x : Spelled) (s : String) (t : Tree) → is_fixed k ≡ true → is_absent t ≡ false → field_reason u n (table.row k x s) t ≡ if_so (is_tripped n (table.row k x s) t) Xml
trip_reason u n k x s t f h = reason_there u n (table.row k x s) t h ∙ ap (λ o. or_else o (if_so (is_tripped n (table.row k x s) t) Xml)) (unchanged u k t f)

listed_tripped : (n : ℕ) (l : Lists) (s : String) (t : Tree) → is_tripped n (table.every l s) t ≡ after_a_trip n (is_left_out t)
listed_tripped zero l s t = refl
listed_tripped (suc zero) l s t = refl
listed_tripped (suc (suc n)) l s t = or_end (is_left_out t)

pub listed_reason : (u : SpecVersion) (n : ℕ) (l : Lists) (s : String) (t : Tree) → is_absent t ≡ false → field_reason u n (table.every l s) t ≡ if_so (after_a_trip n (is_left_out t)) Xml
listed_reason u n l s t h = trip_reason u n (a_list l) (children (codes s)) s t refl h ∙ ap (λ b. if_so b Xml) (listed_tripped n l s t)

filled_gone : (t : Tree) → is_absent t ≡ false → is_absent (if is_hollow t then absent else bare t) ≡ is_hollow t
filled_gone t h = by (is_hollow t)
  where
    by : (b : Bool) → is_absent (if b then absent else bare t) ≡ b
    by true = refl
    by false = bare_there t ∙ h

filled_tripped : (n : ℕ) (m : Name) (q : List ℕ) (s : String) (t : Tree) → is_entity m ≡ false → is_absent t ≡ false → is_tripped n (table.row (a_record m) (filled_child q) s) t ≡ after_a_trip n (is_hollow t)
filled_tripped zero m q s t e h = refl
filled_tripped (suc zero) m q s t e h = filled_gone t h
filled_tripped (suc (suc n)) m q s t e h =
    ap (λ b. is_absent (if is_hollow t then absent else bare t) || (b && is_hollow (bare t))) e ∙ (or_end (is_absent (if is_hollow t then absent else bare t)) ∙ filled_gone t h)

pub filled_reason : (u : SpecVersion) (n : ℕ) (m : Name) (q : List ℕ) (s : String) (t : Tree) → is_entity m ≡ false → is_absent t ≡ false
    → field_reason u n (table.row (a_record m) (filled_child q) s) t ≡ if_so (after_a_trip n (is_hollow t)) Xml
filled_reason u n m q s t e h = trip_reason u n (a_record m) (filled_child q) s t refl h ∙ ap (λ b. if_so b Xml) (filled_tripped n m q s t e h)

supplier_tripped : (n : ℕ) (t : Tree) → is_absent t ≡ false → is_tripped n supplier_row t ≡ after_a_trip n (is_hollow t || after_two_trips n (is_hollow (bare t)))
supplier_tripped zero t h = refl
supplier_tripped (suc zero) t h = filled_gone t h ∙ sym (or_end (is_hollow t))
supplier_tripped (suc (suc n)) t h = ap (λ b. b || is_hollow (bare t)) (filled_gone t h)

pub supplier_reason : (u : SpecVersion) (n : ℕ) (t : Tree) → is_absent t ≡ false → field_reason u n supplier_row t ≡ if_so (after_a_trip n (is_hollow t || after_two_trips n (is_hollow (bare t)))) Xml
supplier_reason u n t h = trip_reason u n (a_record entity) (filled_child (codes "supplier")) "supplier" t refl h ∙ ap (λ b. if_so b Xml) (supplier_tripped n t h)

-- ---- hollow records

-- after a trip
pub entity_hollow_after : (x : OrganizationalEntity) (a p : Bool) → is_some x.name ≡ not a → p ≡ (is_left_out (present (list_tree text) x.url) && is_left_out (present (list_tree contact_tree) x.contact)) → is_hollow (bare (entity_tree x)) ≡ (a && p)
unfolding is_hollow bare rows
entity_hollow_after x a p h q =
    ap (λ b. b && (is_left_out (present (list_tree text) x.url) && (is_left_out (present (list_tree contact_tree) x.contact) && true))) (bare_there (present text x.name) ∙ absent_row text x.name a (λ y. refl) h)
    ∙ (three_gone a (is_left_out (present (list_tree text) x.url)) (is_left_out (present (list_tree contact_tree) x.contact)) ∙ ap (λ b. a && b) (sym q))

pub two_trips : (n : ℕ) (b : Bool) → 1 < n → after_two_trips n b ≡ b
two_trips zero b h = let e : ⊥ = omega (arith, h) in absurd e
two_trips (suc zero) b h = let e : ⊥ = omega (arith, h) in absurd e
two_trips (suc (suc n)) b h = refl

pub no_two_trips : (n : ℕ) (b : Bool) → n ≤ 1 → after_two_trips n b ≡ false
no_two_trips zero b h = refl
no_two_trips (suc zero) b h = refl
no_two_trips (suc (suc n)) b h = let e : ⊥ = omega (arith, h) in absurd e

-- ---- reasons of what is there

pub held_reason : {A : Type 0} (f : A → Tree) (u : SpecVersion) (n : ℕ) (r : Row) (o : Option A) (x : A) (why : Option Reason) (b c : Bool) → o ≡ Some x → why ≡ if_so (after_a_trip n b) Xml → b ≡ c
    → field_reason u n r (f x) ≡ if_so (after_a_trip n c) Xml → why ≡ field_reason u n r (present f o)
held_reason f u n r o x why b c is w e h = w ∙ (ap (λ z. if_so (after_a_trip n z) Xml) e ∙ (sym h ∙ sym (ap (λ z. field_reason u n r (present f z)) is)))

-- ---- lists

pub none_left_out : is_left_out absent ≡ true
unfolding bare
none_left_out = refl

pub urls_left_out : (xs : List (List ℕ)) → (length xs == 0) ≡ is_left_out (list_tree text xs)
unfolding bare
urls_left_out [] = refl
urls_left_out (x ∷ xs) = by (length (x ∷ xs) == 0) refl
  where
    by : (b : Bool) → (length (x ∷ xs) == 0) ≡ b → (length (x ∷ xs) == 0) ≡ false
    by true e =
        let same : suc (length xs) ≡ 0 = eqb-true (suc (length xs)) 0 e in
        let none : ⊥ = omega (arith, same) in
        absurd none
    by false e = e

no_contacts : is_left_out (list_tree contact_tree []) ≡ true
unfolding bare
no_contacts = refl

contact_passed : (x : OrganizationalContact) (xs : List OrganizationalContact) → is_hollow (contact_tree x) ≡ true → is_left_out (list_tree contact_tree (x ∷ xs)) ≡ is_left_out (list_tree contact_tree xs)
unfolding bare
contact_passed x xs h = rw h refl

contact_stays : (x : OrganizationalContact) (xs : List OrganizationalContact) → is_hollow (contact_tree x) ≡ false → is_left_out (list_tree contact_tree (x ∷ xs)) ≡ false
unfolding bare
contact_stays x xs h = rw h refl

-- from an item on as from the first
abbrev pub SoFar : List OrganizationalContact → ℕ → Type 0
SoFar xs i = is_left_out (list_tree contact_tree (drop i xs)) ≡ is_left_out (list_tree contact_tree xs)

pub blank_next : (xs : List OrganizationalContact) (i : ℕ) (x : OrganizationalContact) → i < length xs → x ≡ get_or xs i x → is_hollow (contact_tree x) ≡ true → SoFar xs i → SoFar xs (i + 1)
blank_next xs i x h is b r =
    sym (at_drop_more (λ zs. is_left_out (list_tree contact_tree zs)) xs i x h ∙ contact_passed (get_or xs i x) (drop (i + 1) xs) (ap (λ z. is_hollow (contact_tree z)) (sym is) ∙ b)) ∙ r

pub blank_not : (xs : List OrganizationalContact) (i : ℕ) (x : OrganizationalContact) → i < length xs → x ≡ get_or xs i x → is_hollow (contact_tree x) ≡ false → SoFar xs i → false ≡ is_left_out (list_tree contact_tree xs)
blank_not xs i x h is b r =
    sym (at_drop_more (λ zs. is_left_out (list_tree contact_tree zs)) xs i x h ∙ contact_stays (get_or xs i x) (drop (i + 1) xs) (ap (λ z. is_hollow (contact_tree z)) (sym is) ∙ b)) ∙ r

pub blank_all : (xs : List OrganizationalContact) (i : ℕ) → length xs ≤ i → SoFar xs i → true ≡ is_left_out (list_tree contact_tree xs)
blank_all xs i h r = sym (at_drop_all (λ zs. is_left_out (list_tree contact_tree zs)) xs i h ∙ no_contacts) ∙ r
