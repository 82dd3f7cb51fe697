-- The members of an object that is written, and one that is set among them.
use Rattle.std.proofs.Common.{◌≡◌, ℕ, ◌+◌, ◌<◌, ◌≤◌, List, [], ◌∷◌, ◌++◌, length, take, drop, get_or, slice_set, Bor, Vec, Global, Ordering, Less, Equal, Greater, refl, sym, ap, ◌∙◌, rules}
use Rattle.std.proofs.lemmas.List.{at_drop_more, at_drop_all, take_more, take-append-drop, take-set, drop-set}
use Rattle.std.specs.List.{insert}
use Rattle.std.specs.Ordering.{nat_cmp, match_ordering}
use Rattle.std.specs.Cmp.Lexicographic.{slice_cmp}
use Rattle.serde_json.specs.Data.{Data, array, object, Members, member, put}
use Rattle.cdx_json.specs.Spellings.{spelling_data, spelling_items, spelling_members}
use Rattle.cdx_json.specs.declared.spelling.Spelling.{Spelling, Array, Object, the_lemmas}

abbrev pub Entry : Type 0
Entry = Bor (List ℕ) × Spelling

pub spelling_data-Array : (v : Vec Spelling Global) → spelling_data (Array v) ≡ array (spelling_items v.items)
spelling_data-Array v = search (rules, the_lemmas)

pub spelling_data-Object : (v : Vec Entry Global) → spelling_data (Object v) ≡ object (spelling_members v.items)
spelling_data-Object v = search (rules, the_lemmas)

-- these members, and then others
abbrev pub before : List Entry → Members → Members
before [] ms = ms
before (e ∷ es) ms = member e.0.now (spelling_data e.1) (before es ms)

before_one : (es : List Entry) (e : Entry) (ms : Members) → before (es ++ e ∷ []) ms ≡ before es (member e.0.now (spelling_data e.1) ms)
before_one [] e ms = refl
before_one (x ∷ es) e ms = ap (member x.0.now (spelling_data x.1)) (before_one es e ms)

before_all : (es fs : List Entry) → before es (spelling_members fs) ≡ spelling_members (es ++ fs)
before_all [] fs = refl
before_all (e ∷ es) fs = ap (member e.0.now (spelling_data e.1)) (before_all es fs)

-- ---- a member that is set, found by a walk over the names

-- the members with one set, where it is set after the first i
abbrev pub IsSetFrom : List ℕ → Data → List Entry → ℕ → Type 0
IsSetFrom k d all i = put k d (spelling_members all) ≡ before (take i all) (put k d (spelling_members (drop i all)))

-- at a member in the walk
at_member : (k : List ℕ) (d : Data) (all : List Entry) (i : ℕ) (e : Entry) (o : Ordering) → i < length all → e ≡ get_or all i e → o ≡ slice_cmp nat_cmp k e.0.now → IsSetFrom k d all i
    → put k d (spelling_members all)
    ≡ before (take i all) (match_ordering o (member k d (spelling_members (e ∷ drop (i + 1) all))) (member e.0.now d (spelling_members (drop (i + 1) all))) (member e.0.now (spelling_data e.1) (put k d (spelling_members (drop (i + 1) all)))))
at_member k d all i e o within is way from =
    let rest = drop (i + 1) all in
    from ∙ at_drop_more (λ es. before (take i all) (put k d (spelling_members es))) all i e within
    ∙ ap (λ (x : Entry). before (take i all) (put k d (spelling_members (x ∷ rest)))) (sym is)
    ∙ ap (λ q. before (take i all) (match_ordering q (member k d (spelling_members (e ∷ rest))) (member e.0.now d (spelling_members rest)) (member e.0.now (spelling_data e.1) (put k d (spelling_members rest))))) (sym way)

pub set_from_more : (k : List ℕ) (d : Data) (all : List Entry) (i : ℕ) (e : Entry) (o : Ordering) → i < length all → e ≡ get_or all i e → o ≡ slice_cmp nat_cmp k e.0.now → o ≡ Greater → IsSetFrom k d all i → IsSetFrom k d all (i + 1)
set_from_more k d all i e o within is way greater from =
    let rest = put k d (spelling_members (drop (i + 1) all)) in
    at_member k d all i e Greater within is (sym greater ∙ way) from ∙ sym (before_one (take i all) e rest)
    ∙ ap (λ (x : Entry). before (take i all ++ x ∷ []) rest) is ∙ ap (λ es. before es rest) (sym (take_more all i e within))

-- at the end of the walk, or before a name that is greater
pub set_at_end : (name : Bor (List ℕ)) (value : Spelling) (all : List Entry) (i : ℕ) → length all ≤ i → IsSetFrom name.now (spelling_data value) all i → spelling_members (insert all i (name, value)) ≡ put name.now (spelling_data value) (spelling_members all)
set_at_end name value all i end from =
    let d = spelling_data value in
    let k = name.now in
    sym (before_all (take i all) ((name, value) ∷ drop i all))
    ∙ at_drop_all (λ es. before (take i all) (member k d (spelling_members es))) all i end
    ∙ sym (at_drop_all (λ es. before (take i all) (put k d (spelling_members es))) all i end) ∙ sym from

pub set_before : (name : Bor (List ℕ)) (value : Spelling) (all : List Entry) (i : ℕ) (e : Entry) (o : Ordering) → i < length all → e ≡ get_or all i e → o ≡ slice_cmp nat_cmp name.now e.0.now → o ≡ Less → IsSetFrom name.now (spelling_data value) all i
    → spelling_members (insert all i (name, value)) ≡ put name.now (spelling_data value) (spelling_members all)
set_before name value all i e o within is way less from =
    let d = spelling_data value in
    let k = name.now in
    let rest = drop (i + 1) all in
    sym (before_all (take i all) ((name, value) ∷ drop i all))
    ∙ at_drop_more (λ es. before (take i all) (member k d (spelling_members es))) all i e within
    ∙ ap (λ (x : Entry). before (take i all) (member k d (spelling_members (x ∷ rest)))) (sym is)
    ∙ sym (at_member k d all i e Less within is (sym less ∙ way) from)

-- in the place of the value at the name
pub set_over : (k : List ℕ) (value : Spelling) (all : List Entry) (i : ℕ) (e : Entry) (o : Ordering) → i < length all → e ≡ get_or all i e → o ≡ slice_cmp nat_cmp k e.0.now → o ≡ Equal → IsSetFrom k (spelling_data value) all i
    → spelling_members (slice_set all i (e.0, value)) ≡ put k (spelling_data value) (spelling_members all)
set_over k value all i e o within is way equal from =
    let new = slice_set all i (e.0, value) in
    ap spelling_members (sym (take-append-drop i new)) ∙ sym (before_all (take i new) (drop i new))
    ∙ ap (λ es. before es (spelling_members (drop i new))) (take-set all i (e.0, value))
    ∙ ap (λ es. before (take i all) (spelling_members es)) (drop-set all i (e.0, value) within)
    ∙ sym (at_member k (spelling_data value) all i e Equal within is (sym equal ∙ way) from)
