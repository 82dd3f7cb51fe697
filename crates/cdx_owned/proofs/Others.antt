-- An object whose member is taken out, and its other members.
use Rattle.std.proofs.Common.{◌≡◌, ℕ, List, [], ◌∷◌, Bool, true, false, true≢false, if◌then◌else◌, Option, Some, String, Global, Ordering, Less, Equal, Greater, cond, is_eq, bytes_eq, nat_cmp, string_bytes, refl, sym, ap, ◌∙◌}
use Rattle.std.proofs.lemmas.Cmp.{nat_list_cmp_total, nat_list_eq_equiv, tied_itself}
use Rattle.std.proofs.lemmas.Map.Text.{is_eq-slice_cmp}
use Rattle.std.proofs.lemmas.Slice.Eq.{bytes_eq-Decides}
use Rattle.std.specs.BTreeMap.{is_at}
use Rattle.std.specs.Cmp.Lexicographic.{slice_cmp}
use Rattle.std.specs.Map.{remove_entry}
use Rattle.std.specs.Ordering.{match_ordering}
use Rattle.serde_json.specs.Data.{Data, Members, no_members, member}
use Rattle.serde_json.specs.Find.{get_member}
use Rattle.serde_json.specs.View.{view, members_view}
use Rattle.serde_json.proofs.Views.{Entry}
use Rattle.cdx_owned.specs.Without.{without}

-- ---- one member, looked up under a name

pub same_name : (name l : List ℕ) → bytes_eq l name ≡ true → l ≡ name
same_name name l is = (bytes_eq-Decides l name).0 is

at_equal : (o : Ordering) (x : Data) (a : Option Data) → o ≡ Equal → match_ordering o a (Some x) a ≡ Some x
at_equal o x a e = rw e refl

at_other : (o : Ordering) (x : Data) (a : Option Data) → is_eq o ≡ false → match_ordering o a (Some x) a ≡ a
at_other Less x a e = refl
at_other Equal x a e = absurd (true≢false e)
at_other Greater x a e = refl

pub found_here : (name l : List ℕ) (x : Data) (ms : Members) → bytes_eq l name ≡ true → get_member name (member l x ms) ≡ Some x
found_here name l x ms is = at_equal (slice_cmp nat_cmp name l) x _ (ap (slice_cmp nat_cmp name) (same_name name l is) ∙ tied_itself nat_list_cmp_total name)

pub found_later : (name l : List ℕ) (x : Data) (ms : Members) → bytes_eq l name ≡ false → get_member name (member l x ms) ≡ get_member name ms
found_later name l x ms other = at_other (slice_cmp nat_cmp name l) x _ (is_eq-slice_cmp name l ∙ nat_list_eq_equiv.symm name l ∙ other)

-- ---- the members that stay

other_stays_at : (name other l : List ℕ) (x : Data) (ms : Members) (b : Bool) → bytes_eq other name ≡ false → bytes_eq l name ≡ b → get_member other (without name ms) ≡ get_member other ms
    → get_member other (if b then ms else member l x (without name ms)) ≡ get_member other (member l x ms)
other_stays_at name other l x ms true apart is later = sym (found_later other l x ms (ap (λ k. bytes_eq k other) (same_name name l is) ∙ nat_list_eq_equiv.symm name other ∙ apart))
other_stays_at name other l x ms false apart is later = ap (λ r. match_ordering (slice_cmp nat_cmp other l) r (Some x) r) later

-- Another name finds what it found.
pub other_stays : (name other : List ℕ) → bytes_eq other name ≡ false → (ms : Members) → get_member other (without name ms) ≡ get_member other ms
other_stays name other apart no_members = refl
other_stays name other apart (member l x ms) = other_stays_at name other l x ms (bytes_eq l name) apart refl (other_stays name other apart ms)

-- ---- the entry that a map's look-up removes

-- the test for the name
abbrev is_named : List ℕ → String Global → Bool
is_named name = is_at (λ k. slice_cmp nat_cmp name (string_bytes k))

removed_at : (name : List ℕ) (e : Entry) (es : List Entry) (b : Bool) → members_view (remove_entry (is_named name) es) ≡ without name (members_view es)
    → members_view (cond b es (e ∷ remove_entry (is_named name) es)) ≡ (if b then members_view es else member (string_bytes e.0) (view e.1) (without name (members_view es)))
removed_at name e es true later = refl
removed_at name e es false later = ap (member (string_bytes e.0) (view e.1)) later

-- The members that a map has without the entry of a name.
pub removed : (name : List ℕ) (es : List Entry) → members_view (remove_entry (is_named name) es) ≡ without name (members_view es)
removed name [] = refl
removed name (e ∷ es) =
    removed_at name e es (is_named name e.0) (removed name es)
    ∙ ap (λ b. if b then members_view es else member (string_bytes e.0) (view e.1) (without name (members_view es))) (is_eq-slice_cmp name (string_bytes e.0) ∙ nat_list_eq_equiv.symm name (string_bytes e.0))
