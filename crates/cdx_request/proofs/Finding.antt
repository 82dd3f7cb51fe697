-- What a value holds where a step of reading gave something.
use Rattle.std.proofs.Common.{◌≡◌, ℕ, ◌==◌, List, [], ◌∷◌, map, Bool, true, false, if◌then◌else◌, Option, Some, None, option_map, Ordering, Less, Equal, Greater, nat_cmp, is_eq, refl, sym, ap, subst, ◌∙◌}
use Rattle.std.specs.Ordering.{match_ordering}
use Rattle.std.specs.Cmp.Lexicographic.{slice_cmp}
use Rattle.std.proofs.lemmas.Bool.Decides.{Decides-eqb}
use Rattle.std.proofs.lemmas.Map.Text.{is_eq-slice_cmp}
use Rattle.std.proofs.lemmas.Slice.Eq.{bytes_eq-Decides}
use Rattle.serde_json.specs.Data.{Data, null, boolean, number, string, array, object, Items, no_items, item, Members, no_members, member, put}
use Rattle.serde_json.specs.Find.{get_member, as_str, as_array}
use Rattle.serde_json.specs.View.{items_of}
use Rattle.cdx_request.specs.Parts.{◌>>=◌, text_at, how_many, if_text, all_in}
use Rattle.cdx_request.specs.EventValues.{with_optional_text}
use Rattle.cdx_request.specs.SameValues.{HoldsTheSame, HoldTheSame, HasMembers}
use Rattle.cdx_request.specs.Alone.{EachWrites}

-- ---- steps that may give nothing

pub given : {A B : Type 0} (o : Option A) (f : A → Option B) (y : B) → (o >>= f) ≡ Some y → (x : A) × (o ≡ Some x) × (f x ≡ Some y)
given None f y e = absurd cc
given (Some x) f y e = (x, refl, e)

pub made : {A B : Type 0} (f : A → B) (o : Option A) (y : B) → option_map f o ≡ Some y → (x : A) × (o ≡ Some x) × (f x ≡ y)
made f None y e = absurd cc
made f (Some x) y e = (x, refl, cc)

pub tested : {A : Type 0} (b : Bool) (o : Option A) (y : A) → (if b then o else None) ≡ Some y → (b ≡ true) × (o ≡ Some y)
tested true o y e = (refl, e)
tested false o y e = absurd cc

pub same_some : {A : Type 0} (x y : A) → Some x ≡ Some y → x ≡ y
same_some x y e = cc

pub count : (a b : ℕ) → (a == b) ≡ true → a ≡ b
count a b = (Decides-eqb a b).0

-- ---- members

-- the members have a value at a name, up to the order of its own members
abbrev pub Has : Members → List ℕ → Data → Type 0
Has ds k w = (d : Data) × (get_member k ds ≡ Some d) × HoldsTheSame d w

pub is_string : (d : Data) (s : List ℕ) → as_str d ≡ Some s → d ≡ string s
is_string (string t) s e = cc
is_string null s e = absurd cc
is_string (boolean b) s e = absurd cc
is_string (number n) s e = absurd cc
is_string (array ds) s e = absurd cc
is_string (object ds) s e = absurd cc

text_same : (d : Data) (s : List ℕ) → as_str d ≡ Some s → HoldsTheSame d (string s)
text_same d s e = subst (λ (d : Data). HoldsTheSame d (string s)) (sym (is_string d s e)) refl

pub text_held : (k : List ℕ) (ds : Members) (s : List ℕ) → text_at k (object ds) ≡ Some s → Has ds k (string s)
text_held k ds s e = let g = given (get_member k ds) as_str s e in (g.0, g.1, text_same g.0 s g.2)

pub is_array : (d : Data) (ds : Items) → as_array d ≡ Some ds → d ≡ array ds
is_array (array cs) ds e = cc
is_array null ds e = absurd cc
is_array (boolean b) ds e = absurd cc
is_array (number n) ds e = absurd cc
is_array (string s) ds e = absurd cc
is_array (object cs) ds e = absurd cc

pub same_name : (k l : List ℕ) → slice_cmp nat_cmp k l ≡ Equal → k ≡ l
same_name k l is = (bytes_eq-Decides k l).0 (sym (is_eq-slice_cmp k l) ∙ ap is_eq is)

put_at : (o : Ordering) (ds : Members) (k l : List ℕ) (w v : Data) (ws : Members) → slice_cmp nat_cmp k l ≡ o → Has ds k w → HasMembers ds (member l v ws) → HasMembers ds (put k w ws)
    → HasMembers ds (match_ordering o (member k w (member l v ws)) (member l w ws) (member l v (put k w ws)))
put_at Less ds k l w v ws is found held later = (found, held)
put_at Equal ds k l w v ws is found held later = (subst (λ (k : List ℕ). Has ds k w) (same_name k l is) found, held.1)
put_at Greater ds k l w v ws is found held later = (held.0, later)

pub with_put : (ds : Members) (k : List ℕ) (w : Data) (ws : Members) → Has ds k w → HasMembers ds ws → HasMembers ds (put k w ws)
with_put ds k w no_members found held = (found, tt)
with_put ds k w (member l v ws) found held = put_at _ ds k l w v ws refl found held (with_put ds k w ws found held.1)

-- ---- texts that may be absent

-- how many members an optional text takes
abbrev pub told : Option (List ℕ) → ℕ
told None = 0
told (Some s) = 1

pub told_is : (g : Option Data) (o : Option (List ℕ)) → if_text g ≡ Some o → how_many g ≡ told o
told_is None o e = ap told (same_some None o e)
told_is (Some (string s)) o e = ap told (same_some (Some s) o e)
told_is (Some d) o e = absurd cc

there : (g : Option Data) (s : List ℕ) → if_text g ≡ Some (Some s) → (d : Data) × (g ≡ Some d) × HoldsTheSame d (string s)
there (Some (string t)) s e = (string t, refl, cc)
there None s e = absurd cc
there (Some d) s e = absurd cc

pub with_text_held : (k : List ℕ) (ds : Members) (o : Option (List ℕ)) (ws : Members) → if_text (get_member k ds) ≡ Some o → HasMembers ds ws → HasMembers ds (with_optional_text k o ws)
with_text_held k ds None ws e held = held
with_text_held k ds (Some s) ws e held = with_put ds k (string s) ws (there (get_member k ds) s e) held

-- ---- items

pub all_alone : {A : Type 0} (writes : Data → A → Type 0) (read : Data → Option A) → ((d : Data) (x : A) → read d ≡ Some x → writes d x) → (ds : Items) (xs : List A) → all_in read ds ≡ Some xs → EachWrites writes ds xs
all_alone {A = A} writes read one no_items xs e = subst (λ (xs : List A). EachWrites writes no_items xs) (same_some [] xs e) tt
all_alone {A = A} writes read one (item d ds) xs e =
    let x = given (read d) _ xs e in
    let more = given (all_in read ds) _ xs x.2 in
    subst (λ (xs : List A). EachWrites writes (item d ds) xs) (same_some (x.0 ∷ more.0) xs more.2) (one d x.0 x.1, all_alone writes read one ds more.0 more.1)

pub same_items : {A : Type 0} (shown : A → Data) (ds : Items) (xs : List A) → EachWrites (λ d x. HoldsTheSame d (shown x)) ds xs → HoldTheSame ds (items_of (map shown xs))
same_items shown no_items [] each = tt
same_items shown (item d ds) (x ∷ xs) each = (each.0, same_items shown ds xs each.1)
same_items shown no_items (x ∷ xs) each = absurd each
same_items shown (item d ds) [] each = absurd each
