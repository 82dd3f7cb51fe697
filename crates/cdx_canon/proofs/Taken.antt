-- Two members taken out of an object.
use Rattle.std.proofs.Common.{◌≡◌, List, [], ◌∷◌, length, ℕ, Bool, true, false, cond, codes, Option, Some, None, option_map, String, BTreeMap, Global, string_bytes, nat_cmp, bytes_eq, refl, sym, ap, ◌∙◌, subst}
use Rattle.std.proofs.lemmas.Bool.{false≢true, ne_eqb}
use Rattle.std.proofs.lemmas.Map.Text.{is_eq-slice_cmp}
use Rattle.std.proofs.lemmas.Slice.Eq.{bytes_eq-Decides}
use Rattle.std.specs.BTreeMap.{is_at}
use Rattle.std.specs.Cmp.Lexicographic.{slice_cmp}
use Rattle.std.specs.Map.{lookup, remove_entry}
use Rattle.serde_json.specs.Data.{Data}
use Rattle.serde_json.specs.Find.{get}
use Rattle.serde_json.specs.View.{view}
use Rattle.serde_json.specs.declared.value.Value.{Value, Object}
use Rattle.serde_json.proofs.Views.{Entry, view-lookup, view-Object, members_len-members_view}
use Rattle.cdx_request.specs.Parts.{member_count}
use Rattle.cdx_canon.specs.Answers.{pair_parts, pair_of}

abbrev pub is_named : List ℕ → String Global → Bool
is_named name = is_at (λ k. slice_cmp nat_cmp name (string_bytes k))

-- ---- what is found beside an entry that is taken out

beside : (p q : Bool) (e : Entry) (es rest : List Entry) (test : String Global → Bool) → (p ≡ true → q ≡ false) → test e.0 ≡ q → lookup test rest ≡ lookup test es
    → lookup test (cond p es (e ∷ rest)) ≡ cond q (Some e.1) (lookup test es)
beside true true e es rest test apart is h = absurd (false≢true (sym (apart refl)))
beside true false e es rest test apart is h = refl
beside false q e es rest test apart is h = rw (is, h) refl

found_beside : (p q : String Global → Bool) → ((k : String Global) → p k ≡ true → q k ≡ false) → (es : List Entry) → lookup q (remove_entry p es) ≡ lookup q es
found_beside p q apart [] = refl
found_beside p q apart (e ∷ es) = beside (p e.0) (q e.0) e es (remove_entry p es) q (apart e.0) refl (found_beside p q apart es)

named_apart : (taken name : List ℕ) → bytes_eq name taken ≡ false → (k : String Global) → is_named taken k ≡ true → is_named name k ≡ false
named_apart taken name differ k h =
    let is : taken ≡ string_bytes k = (bytes_eq-Decides taken (string_bytes k)).0 (sym (is_eq-slice_cmp taken (string_bytes k)) ∙ h) in
    is_eq-slice_cmp name (string_bytes k) ∙ subst (λ s. bytes_eq name s ≡ false) is differ

-- a member that is taken out is the one of that name
pub taken_is : (name : List ℕ) (m : BTreeMap (String Global) Value) (r : Option Value) → r ≡ lookup (is_named name) m.entries → option_map view r ≡ get name (view (Object m))
taken_is name m r e = ap (option_map view) e ∙ (view-lookup name m.entries ∙ sym (ap (get name) (view-Object m)))

-- and so is one that is taken out after another
pub taken_next : (taken name : List ℕ) (m : BTreeMap (String Global) Value) (rest : List Entry) (r : Option Value) → bytes_eq name taken ≡ false → rest ≡ remove_entry (is_named taken) m.entries → r ≡ lookup (is_named name) rest
    → option_map view r ≡ get name (view (Object m))
taken_next taken name m rest r differ left e =
    taken_is name m r (e ∙ (ap (lookup (is_named name)) left ∙ found_beside (is_named taken) (is_named name) (named_apart taken name differ) m.entries))

-- ---- the pair of an object

pub count_is : (m : BTreeMap (String Global) Value) (n : ℕ) → n ≡ length m.entries → member_count (view (Object m)) ≡ n
count_is m n e = rw (view-Object m) (members_len-members_view m.entries ∙ sym e)

pub pair_is : (d : Data) (l r : Option Data) → member_count d ≡ 2 → l ≡ get (codes "left") d → r ≡ get (codes "right") d → pair_parts l r ≡ pair_of d
pair_is d l r count is_left is_right = rw (count, sym is_left, sym is_right) refl

pub no_pair : (d : Data) (n : ℕ) → member_count d ≡ n → (n ≡ 2 → ⊥) → None ≡ pair_of d
no_pair d n count other = rw (count, ne_eqb n 2 other) refl
