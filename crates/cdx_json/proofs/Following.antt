-- An object's members, one after another.
use Rattle.std.proofs.Common.{◌≡◌, ℕ, List, [], ◌∷◌, ◌++◌, length, Bool, true, false, if◌then◌else◌, Option, Some, Ordering, Less, Equal, Greater, refl, sym, ap, ◌∙◌}
use Rattle.std.proofs.lemmas.Slice.Eq.{bytes_eq-Decides}
use Rattle.std.proofs.lemmas.Map.Text.{is_eq-slice_cmp}
use Rattle.std.specs.Str.{bytes_eq}
use Rattle.std.specs.Ordering.{nat_cmp, match_ordering, is_eq}
use Rattle.std.specs.Cmp.Lexicographic.{slice_cmp}
use Rattle.serde_json.specs.Data.{Data, Members, no_members, member}
use Rattle.serde_json.specs.Find.{get_member}
use Rattle.serde_json.specs.View.{view}
use Rattle.cdx_json.specs.declared.seen_member.SeenMember.{SeenMember}
use Rattle.cdx_json.specs.SeenOf.{seen_of}

-- these members, and then others
abbrev pub follow : List SeenMember → Members → Members
follow [] ms = ms
follow (x ∷ xs) ms = member x.name.now (view x.value.now) (follow xs ms)

pub follow_none : (xs : List SeenMember) → follow xs no_members ≡ seen_of xs
follow_none [] = refl
follow_none (x ∷ xs) = ap (member x.name.now (view x.value.now)) (follow_none xs)

pub follow_one : (xs : List SeenMember) (x : SeenMember) (ms : Members) → follow (xs ++ x ∷ []) ms ≡ follow xs (member x.name.now (view x.value.now) ms)
follow_one [] x ms = refl
follow_one (y ∷ xs) x ms = ap (member y.name.now (view y.value.now)) (follow_one xs x ms)

-- ---- a name among them

by_order : (o : Ordering) (here : Option Data) (later : Option Data) → match_ordering o later here later ≡ (if is_eq o then here else later)
by_order Less here later = refl
by_order Equal here later = refl
by_order Greater here later = refl

-- what stands at a name, where there is a member more before the others
pub looked_up : (k : List ℕ) (x : SeenMember) (xs : List SeenMember) (b : Bool) → b ≡ bytes_eq k x.name.now → get_member k (seen_of (x ∷ xs)) ≡ (if b then Some (view x.value.now) else get_member k (seen_of xs))
looked_up k x xs b is =
    let later = get_member k (seen_of xs) in
    by_order (slice_cmp nat_cmp k x.name.now) (Some (view x.value.now)) later ∙ ap (λ c. if c then Some (view x.value.now) else later) (is_eq-slice_cmp k x.name.now ∙ sym is)

pub of_other_length : (k l : List ℕ) → (length k ≡ length l → ⊥) → bytes_eq k l ≡ false
of_other_length k l h = by (bytes_eq k l) refl
  where
    by : (b : Bool) → bytes_eq k l ≡ b → bytes_eq k l ≡ false
    by true e = absurd (h (ap length ((bytes_eq-Decides k l).0 e)))
    by false e = e
