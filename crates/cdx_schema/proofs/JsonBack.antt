-- Reading back what was spelled in JSON.
use Rattle.std.specs.Prelude.{◌≡◌, refl, ℕ, suc, ◌^◌, List, [], ◌∷◌, ◌++◌, Bool, true, false, not, ◌&&◌, ◌||◌, nat_lt, if◌then◌else◌, ◌⊎◌, Option, Some, None, Result, Ok, Err, codes}
use Rattle.std.proofs.Common.{true≢false, inl, inr, Ordering, Less, Equal, Greater}
use Rattle.std.proofs.lemmas.Slice.Eq.{bytes_eq-Decides}
use Rattle.std.specs.Str.{bytes_eq}
use Rattle.std.specs.Ordering.{nat_cmp, match_ordering}
use Rattle.std.specs.Cmp.Lexicographic.{slice_cmp}
use mathlib.Core.Path.{ap, sym, ◌∙◌, subst}
use native.Mathlib.Omega.{arith}
use Rattle.serde_json.specs.Data.{Data, Members, no_members, put}
use Rattle.serde_json.specs.Data as json
use Rattle.serde_json.specs.Find.{get_member}
use Rattle.serde_json.proofs.Views.{get_member-put, get_member-put_other}
use Rattle.cdx_models.specs.declared.bom.SpecVersion.{SpecVersion}
use Rattle.cdx_models.specs.declared.bom.SpecVersion.TheVariants.{V1_3, V1_4, V1_5}
use Rattle.cdx_models.specs.Versions.{knows, is_label}
use Rattle.cdx_models.specs.Trees.{Name, hash, attached_text, license, expression, spdx_id, license_name, classification, service_data, tools_object, signer, signers, chain, bill, Tree, absent, text, number, boolean, items, fields, Trees, none, more, one, two}
use Rattle.cdx_schema.specs.Kinds.{properties, signer_list, chain_list, Kind, a_text, a_boolean, a_number, a_version, a_list, a_record, a_reference, a_license_choice, a_license_identifier, a_tools, a_data, an_entry, a_signature, a_bill, Member, member, merged, Need, required, content, children, Row}
use Rattle.cdx_schema.specs.Table.{rows, from, of, at, row, must, respelled_reference, identifier_row, class_row}
use Rattle.cdx_schema.specs.Results.{◌>>=◌}
use Rattle.cdx_models.specs.declared.errors.Step.{Step}
use Rattle.cdx_schema.specs.Faults.{JsonFault, to_member, under}
use Rattle.cdx_schema.specs.Depth.{Depth, inside, name_too_deep}
use Rattle.cdx_schema.specs.JsonReading.{Found, nothing, found, Object, jread, array_items_read, seen, as_found, rows_read, row_read, member_read, named_read, member_name, first_or_old, found_read, when_nothing, own_read, record_denoted, identifier_read, id_read, name_read, no_own, is_lone_license, choice_read, signature_read, chain_read, format_read}
use Rattle.cdx_schema.specs.JsonSpelling.{jspell, items_spelled, members_spelled, own_members, is_written, is_spelled, set_member, heading}
use Rattle.cdx_schema.specs.RowLaws.{old_names}
use Rattle.cdx_schema.specs.Membership.{Never, IsRecordOf, IsBooleanOf, IsListKind}
use Rattle.cdx_models.specs.Entries.{is_flow, entry_of}
use Rattle.cdx_schema.specs.Held.{held_kind}
use Rattle.cdx_schema.proofs.Basics.{more_is, neither}

-- ---- what an object has under a name

abbrev pub as_seen : Option Data → Found
as_seen None = nothing
as_seen (Some x) = as_found x (jread x)

pub seen_at : (o : Ordering) (x : Data) (s : Found) (g : Option Data) → s ≡ as_seen g
    → match_ordering o s (as_found x (jread x)) s ≡ as_seen (match_ordering o g (Some x) g)
seen_at Less x s g h = h
seen_at Equal x s g h = refl
seen_at Greater x s g h = h

pub seen_is : (ms : Members) (q : List ℕ) → seen ms q ≡ as_seen (get_member q ms)
unfolding jread
seen_is no_members q = refl
seen_is (json.member l x ms) q = seen_at (slice_cmp nat_cmp q l) x (seen ms q) (get_member q ms) (seen_is ms q)

-- ---- names

abbrev pub is_in : List ℕ → List (List ℕ) → Bool
is_in q [] = false
is_in q (n ∷ ns) = bytes_eq q n || is_in q ns

abbrev pub distinct : List (List ℕ) → Bool
distinct [] = true
distinct (n ∷ ns) = not (is_in n ns) && distinct ns

abbrev pub row_names : Option (List ℕ) → Member → List (List ℕ) → List (List ℕ)
row_names old (member n) own = n ∷ old_names old
row_names old merged own = own

abbrev pub plain_names : List Row → List (List ℕ)
plain_names [] = []
plain_names (r ∷ rs) = row_names r.old_name r.json [] ++ plain_names rs

abbrev pub own_names : Kind → List (List ℕ)
own_names a_license_identifier = codes "id" ∷ codes "name" ∷ []
own_names (a_record n) = plain_names (rows n)
own_names _ = []

abbrev pub names : List Row → List (List ℕ)
names [] = []
names (r ∷ rs) = row_names r.old_name r.json (own_names r.kind) ++ names rs

abbrev pub are_distinct : Name → Bool
are_distinct n = distinct (names (rows n))

-- No two members of a record have one name.
pub distinct_names : (n : Name) → are_distinct n ≡ true
unfolding rows
distinct_names hash = refl
distinct_names _ = refl

pub same_name : (q n : List ℕ) → bytes_eq q n ≡ true → q ≡ n
same_name q n h = (bytes_eq-Decides q n).0 h

pub other_name : (q n : List ℕ) → bytes_eq q n ≡ false → q ≡ n → ⊥
other_name q n h e = true≢false (sym ((bytes_eq-Decides q n).1 e) ∙ h)

pub or_false : (a b : Bool) → (a || b) ≡ false → (a ≡ false) × (b ≡ false)
or_false true b h = absurd (true≢false h)
or_false false true h = absurd (true≢false h)
or_false false false h = (refl, refl)

pub and_true : (a b : Bool) → (a && b) ≡ true → (a ≡ true) × (b ≡ true)
and_true true true h = (refl, refl)
and_true true false h = absurd (true≢false (sym h))
and_true false b h = absurd (true≢false (sym h))

pub not_true : (a : Bool) → not a ≡ true → a ≡ false
not_true true h = absurd (true≢false (sym h))
not_true false h = refl

pub not_in_append : (q : List ℕ) (xs ys : List (List ℕ)) → is_in q (xs ++ ys) ≡ false → (is_in q xs ≡ false) × (is_in q ys ≡ false)
not_in_append q [] ys h = (refl, h)
not_in_append q (x ∷ xs) ys h =
    let p : (bytes_eq q x ≡ false) × (is_in q (xs ++ ys) ≡ false) = or_false (bytes_eq q x) (is_in q (xs ++ ys)) h in
    let r : (is_in q xs ≡ false) × (is_in q ys ≡ false) = not_in_append q xs ys p.1 in
    (neither (bytes_eq q x) (is_in q xs) p.0 r.0, r.1)

-- What stands in one part of a list of distinct names doesn't stand in the other.
pub apart_at : (b : Bool) (q x : List ℕ) (xs ys : List (List ℕ)) → bytes_eq q x ≡ b → distinct ((x ∷ xs) ++ ys) ≡ true → (b || is_in q xs) ≡ true → (is_in q xs ≡ true → is_in q ys ≡ false) → is_in q ys ≡ false
apart_at true q x xs ys e d h later =
    rw (same_name q x e) (not_in_append x xs ys (not_true (is_in x (xs ++ ys)) (and_true (not (is_in x (xs ++ ys))) (distinct (xs ++ ys)) d).0)).1
apart_at false q x xs ys e d h later = later h

pub apart : (q : List ℕ) (xs ys : List (List ℕ)) → distinct (xs ++ ys) ≡ true → is_in q xs ≡ true → is_in q ys ≡ false
apart q [] ys d h = absurd (true≢false (sym h))
apart q (x ∷ xs) ys d h = apart_at (bytes_eq q x) q x xs ys refl d h (apart q xs ys (and_true (not (is_in x (xs ++ ys))) (distinct (xs ++ ys)) d).1)

pub distinct_later : (xs ys : List (List ℕ)) → distinct (xs ++ ys) ≡ true → distinct ys ≡ true
distinct_later [] ys d = d
distinct_later (x ∷ xs) ys d = distinct_later xs ys (and_true (not (is_in x (xs ++ ys))) (distinct (xs ++ ys)) d).1

-- ---- what setting members leaves

-- A tree whose members stand in its record's own object.
abbrev pub IsOwnRecord : Kind → Name → Type 0
IsOwnRecord a_license_identifier n = (n ≡ spdx_id) ⊎ (n ≡ license_name)
IsOwnRecord (a_record m) n = (n ≡ m) × (plain_names (rows m) ≡ names (rows m))
IsOwnRecord _ n = Never

abbrev mutual
  IsOwn : Tree → Member → Kind → Type 0
  IsOwn t (member n) k = Unit {0}
  IsOwn (fields n ts) merged k = IsOwnRecord k n × AreOwn ts (rows n)
  IsOwn absent merged k = Never
  IsOwn (text s) merged k = Never
  IsOwn (number n) merged k = Never
  IsOwn (boolean b) merged k = Never
  IsOwn (items ts) merged k = Never

  AreOwn : Trees → List Row → Type 0
  AreOwn none rs = Unit {0}
  AreOwn (more t ts) [] = Unit {0}
  AreOwn (more t ts) (r ∷ rs) = IsOwn t r.json r.kind × AreOwn ts rs

-- the names of a record are among those of the kind that it is of
pub own_name : (q : List ℕ) (k : Kind) (n : Name) → IsOwnRecord k n → is_in q (own_names k) ≡ false → is_in q (names (rows n)) ≡ false
unfolding rows
own_name q a_license_identifier n (inl e) h = subst (λ (m : Name). is_in q (names (rows m)) ≡ false) (sym e) (neither (bytes_eq q (codes "id")) false (or_false (bytes_eq q (codes "id")) _ h).0 refl)
own_name q a_license_identifier n (inr e) h = subst (λ (m : Name). is_in q (names (rows m)) ≡ false) (sym e) (or_false (bytes_eq q (codes "id")) _ h).1
own_name q (a_record m) n e h = subst (λ (l : Name). is_in q (names (rows l)) ≡ false) (sym e.0) (ap (is_in q) (sym e.1) ∙ h)
own_name q _ n e h = absurd (true≢false e)

pub left_at : (q : List ℕ) (b : Bool) (r : Row) (x : Data) (own : Members → Members) (ms : Members) → is_in q (row_names r.old_name r.json (own_names r.kind)) ≡ false
    → (r.json ≡ merged → get_member q (own ms) ≡ get_member q ms)
    → get_member q (if b then set_member r.json x own ms else ms) ≡ get_member q ms
left_at q false r x own ms h same = refl
left_at q true r x own ms h same = by r.json h same
  where
    by : (j : Member) → is_in q (row_names r.old_name j (own_names r.kind)) ≡ false → (j ≡ merged → get_member q (own ms) ≡ get_member q ms) → get_member q (set_member j x own ms) ≡ get_member q ms
    by (member n) h' same' = get_member-put_other q n x ms (other_name q n (or_false (bytes_eq q n) (is_in q (old_names r.old_name)) h').0)
    by merged h' same' = same' refl

-- A name that no row has keeps what it has.
mutual
  unfolding jspell

  other : (q : List ℕ) (ts : Trees) (w : SpecVersion) (rs : List Row) (ms : Members) → AreOwn ts rs → is_in q (names rs) ≡ false
      → get_member q (members_spelled ts w rs ms) ≡ get_member q ms
  other q none w rs ms own h = refl
  other q (more t ts) w [] ms own h = refl
  other q (more t ts) w (r ∷ rs) ms own h =
      other q ts w rs _ own.1 (not_in_append q (row_names r.old_name r.json (own_names r.kind)) (names rs) h).1
      ∙ left_at q (is_spelled r t w) r (jspell t w r.kind) (own_members t w) ms (not_in_append q (row_names r.old_name r.json (own_names r.kind)) (names rs) h).0
      (λ e. own_other q t w r.kind ms (subst (λ (j : Member). IsOwn t j r.kind) e own.0) (subst (λ (j : Member). is_in q (row_names r.old_name j (own_names r.kind)) ≡ false) e (not_in_append q (row_names r.old_name r.json (own_names r.kind)) (names rs) h).0))

  own_other : (q : List ℕ) (t : Tree) (w : SpecVersion) (k : Kind) (ms : Members) → IsOwn t merged k → is_in q (own_names k) ≡ false
      → get_member q (own_members t w ms) ≡ get_member q ms
  own_other q (fields n ts) w k ms own h = other q ts w (rows n) ms own.1 (own_name q k n own.0 h)
  own_other q _ w k ms own h = refl

-- ---- rows that are read back

-- What each row reads is the field.
abbrev pub Gets : Object → (Kind → Result Tree JsonFault) → SpecVersion → Depth → Trees → List Row → Type 0
Gets o own w d none [] = Unit {0}
Gets o own w d none (r ∷ rs) = Never
Gets o own w d (more t ts) [] = Never
Gets o own w d (more t ts) (r ∷ rs) = (row_read o own r w d ≡ Ok t) × Gets o own w d ts rs

pub rows_of : (o : Object) (own : Kind → Result Tree JsonFault) (w : SpecVersion) (d : Depth) (ts : Trees) (rs : List Row) → Gets o own w d ts rs → rows_read o own rs w d ≡ Ok ts
unfolding rows_read
rows_of o own w d none [] g = refl
rows_of o own w d none (r ∷ rs) g = absurd (true≢false g)
rows_of o own w d (more t ts) [] g = absurd (true≢false g)
rows_of o own w d (more t ts) (r ∷ rs) g = rw (g.0, rows_of o own w d ts rs g.1) refl

-- What is known of a field before its object is read: it is dropped, it isn't written, or it is read back from its spelling.
abbrev pub IsBack : SpecVersion → Depth → Tree → Row → Type 0
IsBack w d t r = ((knows r.since w ≡ false) × (t ≡ absent))
    ⊎ (((knows r.since w ≡ true) × (is_written r.need t ≡ false) × (when_nothing r.need w ≡ Ok t))
    ⊎ ((knows r.since w ≡ true) × (is_written r.need t ≡ true) × (as_found (jspell t w r.kind) (jread (jspell t w r.kind)) ≡ found (jread (jspell t w r.kind))) × (jread (jspell t w r.kind) w r.kind d ≡ Ok t)))

abbrev pub AreBack : SpecVersion → Depth → Trees → List Row → Type 0
AreBack w d none [] = Unit {0}
AreBack w d none (r ∷ rs) = Never
AreBack w d (more t ts) [] = Never
AreBack w d (more t ts) (r ∷ rs) = IsBack w d t r × AreBack w d ts rs

-- no name of the rows stands in the object yet
abbrev pub IsClear : List (List ℕ) → Members → Type 0
IsClear ns ms = (q : List ℕ) → is_in q ns ≡ true → get_member q ms ≡ None

pub if_true : {A : Type 0} (b : Bool) (x y : A) → b ≡ true → (if b then x else y) ≡ x
if_true true x y h = refl
if_true false x y h = absurd (true≢false (sym h))

pub if_false : {A : Type 0} (b : Bool) (x y : A) → b ≡ false → (if b then x else y) ≡ y
if_false true x y h = absurd (true≢false h)
if_false false x y h = refl

pub same_itself : (q : List ℕ) → bytes_eq q q ≡ true
same_itself q = (bytes_eq-Decides q q).1 refl

pub under_ok : {A : Type 0} (s : Step) (x : Result A JsonFault) (a : A) → x ≡ Ok a → under s x ≡ Ok a
under_ok s x a h = rw h refl

-- what a kind whose members stand in its record's object has to give
abbrev pub OwnAt : Member → (Kind → Result Tree JsonFault) → Row → Tree → SpecVersion → Type 0
OwnAt (member n) own r t w = Unit {0}
OwnAt merged own r t w = own r.kind ≡ Ok t

abbrev pub OwnBack : (Kind → Result Tree JsonFault) → SpecVersion → Trees → List Row → Type 0
OwnBack own w none rs = Unit {0}
OwnBack own w (more t ts) [] = Unit {0}
OwnBack own w (more t ts) (r ∷ rs) = OwnAt r.json own r t w × OwnBack own w ts rs

-- A row isn't written and stands for nothing, or it is written and read back.
abbrev pub IsSpelled : SpecVersion → Depth → Tree → Row → Type 0
IsSpelled w d t r = ((is_written r.need t ≡ false) × (when_nothing r.need w ≡ Ok t))
    ⊎ ((is_written r.need t ≡ true) × (as_found (jspell t w r.kind) (jread (jspell t w r.kind)) ≡ found (jread (jspell t w r.kind))) × (jread (jspell t w r.kind) w r.kind d ≡ Ok t))

-- a name under which the row was set, if it stands
abbrev pub IsSetAt : List ℕ → SpecVersion → Tree → Row → Members → Members → Type 0
IsSetAt n w t r ms final = get_member n final ≡ get_member n (if is_spelled r t w then put n (jspell t w r.kind) ms else ms)

-- what is read under a name of which there is nothing
pub nothing_gets : (n : List ℕ) (w : SpecVersion) (d : Depth) (t : Tree) (r : Row) (final : Members) → get_member n final ≡ None → when_nothing r.need w ≡ Ok t → named_read n (seen final) r w d ≡ Ok t
nothing_gets n w d t r final at h = under_ok (to_member n) _ t (ap (λ f. found_read f r w d) (seen_is final n ∙ ap as_seen at) ∙ h)

-- An old name has nothing, and the row is read under it only where the first has nothing.
pub named_gets : (n : List ℕ) (old : Option (List ℕ)) (w : SpecVersion) (d : Depth) (t : Tree) (r : Row) (ms final : Members)
    → get_member n ms ≡ None → IsSetAt n w t r ms final
    → ((q : List ℕ) → is_in q (old_names old) ≡ true → is_spelled r t w ≡ false → get_member q final ≡ None)
    → IsSpelled w d t r → knows r.since w ≡ true
    → named_read (member_name (seen final) n old) (seen final) r w d ≡ Ok t
named_gets n old w d t r ms final clear is olds (inl h) known = by old olds
  where
    unset : is_spelled r t w ≡ false
    unset = rw (known, h.0) refl

    at : get_member n final ≡ None
    at = is ∙ (ap (get_member n) (if_false (is_spelled r t w) (put n (jspell t w r.kind) ms) ms unset) ∙ clear)

    by : (o : Option (List ℕ)) → ((q : List ℕ) → is_in q (old_names o) ≡ true → is_spelled r t w ≡ false → get_member q final ≡ None) → named_read (member_name (seen final) n o) (seen final) r w d ≡ Ok t
    by None f = nothing_gets n w d t r final at h.1
    by (Some m) f = ap (λ x. named_read (first_or_old x n m) (seen final) r w d) (seen_is final n ∙ ap as_seen at)
        ∙ nothing_gets m w d t r final (f m (rw (same_itself m) refl) unset) h.1
named_gets n old w d t r ms final clear is olds (inr h) known = by old
  where
    at : get_member n final ≡ Some (jspell t w r.kind)
    at = is ∙ (ap (get_member n) (if_true (is_spelled r t w) (put n (jspell t w r.kind) ms) ms (rw (known, h.0) refl)) ∙ get_member-put n (jspell t w r.kind) ms)

    there : seen final n ≡ found (jread (jspell t w r.kind))
    there = seen_is final n ∙ (ap as_seen at ∙ h.1)

    first : named_read n (seen final) r w d ≡ Ok t
    first = under_ok (to_member n) _ t (ap (λ f. found_read f r w d) there ∙ h.2)

    by : (o : Option (List ℕ)) → named_read (member_name (seen final) n o) (seen final) r w d ≡ Ok t
    by None = first
    by (Some m) = ap (λ x. named_read (first_or_old x n m) (seen final) r w d) there ∙ first

pub row_gets_known : (j : Member) (own : Kind → Result Tree JsonFault) (w : SpecVersion) (d : Depth) (t : Tree) (r : Row) (ms final : Members)
    → ((q : List ℕ) → is_in q (row_names r.old_name j (own_names r.kind)) ≡ true → get_member q ms ≡ None)
    → ((q : List ℕ) → is_in q (row_names r.old_name j (own_names r.kind)) ≡ true → get_member q final ≡ get_member q (if is_spelled r t w then set_member j (jspell t w r.kind) (own_members t w) ms else ms))
    → IsSpelled w d t r
    → knows r.since w ≡ true
    → OwnAt j own r t w
    → member_read j (seen final) own r w d ≡ Ok t
row_gets_known (member n) own w d t r ms final clear later h known o =
    named_gets n r.old_name w d t r ms final (clear n (rw (same_itself n) refl)) (later n (rw (same_itself n) refl))
    (λ q i unset. later q (behind q i) ∙ (ap (get_member q) (if_false (is_spelled r t w) (put n (jspell t w r.kind) ms) ms unset) ∙ clear q (behind q i))) h known
  where
    behind : (q : List ℕ) → is_in q (old_names r.old_name) ≡ true → is_in q (n ∷ old_names r.old_name) ≡ true
    behind q i = by (bytes_eq q n)
      where
        by : (b : Bool) → (b || is_in q (old_names r.old_name)) ≡ true
        by true = refl
        by false = i
row_gets_known merged own w d t r ms final clear later h known o = o

pub row_gets : (own : Kind → Result Tree JsonFault) (w : SpecVersion) (d : Depth) (t : Tree) (r : Row) (ms final : Members)
    → ((q : List ℕ) → is_in q (row_names r.old_name r.json (own_names r.kind)) ≡ true → get_member q ms ≡ None)
    → ((q : List ℕ) → is_in q (row_names r.old_name r.json (own_names r.kind)) ≡ true → get_member q final ≡ get_member q (if is_spelled r t w then set_member r.json (jspell t w r.kind) (own_members t w) ms else ms))
    → IsBack w d t r
    → OwnAt r.json own r t w
    → row_read (seen final) own r w d ≡ Ok t
row_gets own w d t r ms final clear later (inl h) o = if_false (knows r.since w) _ _ h.0 ∙ ap Ok (sym h.1)
row_gets own w d t r ms final clear later (inr (inl h)) o = if_true (knows r.since w) _ _ h.0 ∙ row_gets_known r.json own w d t r ms final clear later (inl (h.1, h.2)) h.0 o
row_gets own w d t r ms final clear later (inr (inr h)) o = if_true (knows r.since w) _ _ h.0 ∙ row_gets_known r.json own w d t r ms final clear later (inr (h.1, h.2, h.3)) h.0 o

pub is_in_later : (q : List ℕ) (xs ys : List (List ℕ)) → is_in q ys ≡ true → is_in q (xs ++ ys) ≡ true
is_in_later q [] ys h = h
is_in_later q (x ∷ xs) ys h = by (bytes_eq q x) (is_in_later q xs ys h)
  where
    by : (b : Bool) → is_in q (xs ++ ys) ≡ true → (b || is_in q (xs ++ ys)) ≡ true
    by true e = refl
    by false e = e

pub is_in_first : (q : List ℕ) (xs ys : List (List ℕ)) → is_in q xs ≡ true → is_in q (xs ++ ys) ≡ true
is_in_first q [] ys h = absurd (true≢false (sym h))
is_in_first q (x ∷ xs) ys h = by (bytes_eq q x) h (is_in_first q xs ys)
  where
    by : (b : Bool) → (b || is_in q xs) ≡ true → (is_in q xs ≡ true → is_in q (xs ++ ys) ≡ true) → (b || is_in q (xs ++ ys)) ≡ true
    by true e f = refl
    by false e f = f e

pub apart_first : (q : List ℕ) (xs ys : List (List ℕ)) → distinct (xs ++ ys) ≡ true → is_in q ys ≡ true → is_in q xs ≡ false
apart_first q xs ys d h = by (is_in q xs) refl
  where
    by : (b : Bool) → is_in q xs ≡ b → b ≡ false
    by true e = absurd (true≢false (sym h ∙ apart q xs ys d e))
    by false e = refl

-- what the row leaves of a name that it doesn't have
pub left_row : (q : List ℕ) (t : Tree) (r : Row) (w : SpecVersion) (ms : Members) → IsOwn t r.json r.kind → is_in q (row_names r.old_name r.json (own_names r.kind)) ≡ false
    → get_member q (if is_spelled r t w then set_member r.json (jspell t w r.kind) (own_members t w) ms else ms) ≡ get_member q ms
left_row q t r w ms own h = left_at q (is_spelled r t w) r (jspell t w r.kind) (own_members t w) ms h
    (λ e. own_other q t w r.kind ms (subst (λ (j : Member). IsOwn t j r.kind) e own) (subst (λ (j : Member). is_in q (row_names r.old_name j (own_names r.kind)) ≡ false) e h))

-- The rows of what was spelled by the rows are the fields.
pub gets : (own : Kind → Result Tree JsonFault) (w : SpecVersion) (d : Depth) (ts : Trees) (rs : List Row) (ms final : Members)
    → distinct (names rs) ≡ true → IsClear (names rs) ms → AreOwn ts rs → AreBack w d ts rs → OwnBack own w ts rs
    → final ≡ members_spelled ts w rs ms
    → Gets (seen final) own w d ts rs
unfolding jspell
gets own w d none [] ms final distinct' clear owns back ob is = tt
gets own w d none (r ∷ rs) ms final distinct' clear owns back ob is = absurd (true≢false back)
gets own w d (more t ts) [] ms final distinct' clear owns back ob is = absurd (true≢false back)
gets own w d (more t ts) (r ∷ rs) ms final distinct' clear owns back ob is = (
  row_gets own w d t r ms final
      (λ q h. clear q (is_in_first q (row_names r.old_name r.json (own_names r.kind)) (names rs) h))
      (λ q h. ap (get_member q) is ∙ other q ts w rs _ owns.1 (apart q (row_names r.old_name r.json (own_names r.kind)) (names rs) distinct' h))
      back.0 ob.0,
  gets own w d ts rs _ final (distinct_later (row_names r.old_name r.json (own_names r.kind)) (names rs) distinct')
      (λ q h. left_row q t r w ms owns.0 (apart_first q (row_names r.old_name r.json (own_names r.kind)) (names rs) distinct' h) ∙ clear q (is_in_later q (row_names r.old_name r.json (own_names r.kind)) (names rs) h))
      owns.1 back.1 ob.1 is,
)

-- A record whose members all have names of their own.
abbrev pub is_named : Member → Bool
is_named (member n) = true
is_named merged = false

abbrev pub all_named : List Row → Bool
all_named [] = true
all_named (r ∷ rs) = is_named r.json && all_named rs

pub named_names : (rs : List Row) → all_named rs ≡ true → plain_names rs ≡ names rs
named_names [] h = refl
named_names (r ∷ rs) h = by r.json (and_true (is_named r.json) (all_named rs) h) (named_names rs (and_true (is_named r.json) (all_named rs) h).1)
  where
    by : (j : Member) → (is_named j ≡ true) × (all_named rs ≡ true) → plain_names rs ≡ names rs → (row_names r.old_name j [] ++ plain_names rs) ≡ (row_names r.old_name j (own_names r.kind) ++ names rs)
    by (member n) e f = ap ((n ∷ old_names r.old_name) ++◌) f
    by merged e f = absurd (true≢false (sym e.0))

-- The kinds whose members may stand in their record's own object.
abbrev pub is_own_kind : Kind → Bool
is_own_kind a_license_identifier = true
is_own_kind (a_record n) = all_named (rows n)
is_own_kind _ = false

abbrev pub is_must : Row → Bool
is_must r = by r.need r.since
  where
    by : Need → SpecVersion → Bool
    by required V1_3 = true
    by _ s = false

abbrev pub owns_well : List Row → Bool
owns_well [] = true
owns_well (r ∷ rs) = (is_named r.json || (is_own_kind r.kind && is_must r)) && owns_well rs

pub owns_well_all : (n : Name) → owns_well (rows n) ≡ true
unfolding rows
owns_well_all hash = refl
owns_well_all _ = refl

pub heading_clear : (n : Name) → IsClear (names (rows n)) (heading n)
unfolding rows
heading_clear bill q h = get_member-put_other q (codes "bomFormat") (json.string (codes "CycloneDX")) no_members (λ e. true≢false (sym h ∙ subst (λ (x : List ℕ). is_in x (names (rows bill)) ≡ false) (sym e) refl))
heading_clear _ q h = refl

-- ---- trees that a version holds at a depth

abbrev pub IsTextHeld : Kind → List ℕ → Type 0
IsTextHeld a_text s = Unit {0}
IsTextHeld a_reference s = Unit {0}
IsTextHeld a_version s = is_label s ≡ true
IsTextHeld _ s = Never

abbrev pub IsNumberHeld : Kind → ℕ → Type 0
IsNumberHeld a_number n = nat_lt n (2 ^ 32) ≡ true
IsNumberHeld _ n = Never

abbrev pub IsRecordHeld : SpecVersion → Kind → Name → Trees → Type 0
IsRecordHeld w a_tools n ts = (n ≡ tools_object) × (w ≡ V1_5)
IsRecordHeld w an_entry n ts = (n ≡ classification) ⊎ ((n ≡ service_data) × (is_flow n ts ≡ true) × (w ≡ V1_5))
IsRecordHeld w k n ts = IsRecordOf k n ts

abbrev mutual
  pub Held : SpecVersion → Depth → Tree → Kind → Type 0
  Held w d absent k = Never
  Held w d (text s) k = IsTextHeld k s
  Held w d (number n) k = IsNumberHeld k n
  Held w d (boolean b) k = IsBooleanOf k
  Held w d (items ts) k = IsListKind k × AllHeld w d ts (held_kind k)
  Held w d (fields n ts) k = IsRecordHeld w k n ts × (name_too_deep n d ≡ false) × FieldsHeld w (inside n d) ts (rows n)

  pub AllHeld : SpecVersion → Depth → Trees → Kind → Type 0
  AllHeld w d none k = Unit {0}
  AllHeld w d (more t ts) k = Held w d t k × AllHeld w d ts k

  pub FieldsHeld : SpecVersion → Depth → Trees → List Row → Type 0
  FieldsHeld w d none [] = Unit {0}
  FieldsHeld w d none (r ∷ rs) = Never
  FieldsHeld w d (more t ts) [] = Never
  FieldsHeld w d (more t ts) (r ∷ rs) = (((knows r.since w ≡ false) × (t ≡ absent))
      ⊎ (((knows r.since w ≡ true) × (is_written r.need t ≡ false) × (when_nothing r.need w ≡ Ok t))
      ⊎ ((knows r.since w ≡ true) × (is_written r.need t ≡ true) × Held w d t r.kind))) × FieldsHeld w d ts rs

-- What a value is read back as.
abbrev pub IsRead : SpecVersion → Depth → Tree → Kind → Type 0
IsRead w d t k = (as_found (jspell t w k) (jread (jspell t w k)) ≡ found (jread (jspell t w k))) × (jread (jspell t w k) w k d ≡ Ok t)

pub text_back : (w : SpecVersion) (d : Depth) (s : List ℕ) (k : Kind) → IsTextHeld k s → IsRead w d (text s) k
unfolding jspell jread
text_back w d s a_text h = (refl, refl)
text_back w d s a_reference h = (refl, refl)
text_back w d s a_version h = (refl, if_true (is_label s) (Ok (text s)) _ h)
text_back w d s _ h = absurd (true≢false h)

pub number_back : (w : SpecVersion) (d : Depth) (n : ℕ) (k : Kind) → IsNumberHeld k n → IsRead w d (number n) k
unfolding jspell jread
number_back w d n a_number h = (refl, if_true (nat_lt n (2 ^ 32)) (Ok (number n)) _ h)
number_back w d n _ h = absurd (true≢false h)

pub boolean_back : (w : SpecVersion) (d : Depth) (b : Bool) (k : Kind) → IsBooleanOf k → IsRead w d (boolean b) k
unfolding jspell jread
boolean_back w d b a_boolean h = (refl, refl)
boolean_back w d b _ h = absurd (true≢false h)

pub list_back : (w : SpecVersion) (d : Depth) (ts : Trees) (k : Kind) → IsListKind k → array_items_read (items_spelled ts w (held_kind k)) w (held_kind k) d 0 ≡ Ok ts → IsRead w d (items ts) k
unfolding jspell jread
list_back w d ts (a_list l) h e = (refl, rw e refl)
list_back w d ts a_tools h e = (refl, rw e refl)
list_back w d ts a_data h e = (refl, rw e refl)
list_back w d ts _ h e = absurd (true≢false h)

-- ---- records that are read back

-- the object that a record is spelled as
abbrev pub spelled : Name → Trees → SpecVersion → Members
spelled n ts w = members_spelled ts w (rows n) (heading n)

pub record_gets : (n : Name) (w : SpecVersion) (d : Depth) (ts : Trees) → AreOwn ts (rows n) → AreBack w d ts (rows n) → OwnBack (own_read (seen (spelled n ts w)) w d) w ts (rows n)
    → record_denoted n (seen (spelled n ts w)) w d ≡ Ok (fields n ts)
record_gets n w d ts owns back ob =
    ap (λ x. x >>= (λ us. Ok (fields n us))) (rows_of (seen (spelled n ts w)) (own_read (seen (spelled n ts w)) w d) w d ts (rows n)
    (gets (own_read (seen (spelled n ts w)) w d) w d ts (rows n) (heading n) (spelled n ts w) (distinct_names n) (heading_clear n) owns back ob refl))

pub own_back_named : (own : Kind → Result Tree JsonFault) (w : SpecVersion) (ts : Trees) (rs : List Row) → all_named rs ≡ true → OwnBack own w ts rs
own_back_named own w none rs h = tt
own_back_named own w (more t ts) [] h = tt
own_back_named own w (more t ts) (r ∷ rs) h = (by r.json (and_true (is_named r.json) (all_named rs) h).0, own_back_named own w ts rs (and_true (is_named r.json) (all_named rs) h).1)
  where
    by : (j : Member) → is_named j ≡ true → OwnAt j own r t w
    by (member n) e = tt
    by merged e = absurd (true≢false (sym e))

pub held_text : (w : SpecVersion) (d : Depth) (t : Tree) → Held w d t a_text → (s : List ℕ) × (t ≡ text s)
held_text w d (text s) h = (s, refl)
held_text w d (items ts) h = absurd (true≢false h.0)
held_text w d (fields n ts) h = absurd (true≢false h.0)
held_text w d _ h = absurd (true≢false h)

abbrev pub RowHeld : SpecVersion → Depth → Tree → Row → Type 0
RowHeld w d t r = ((knows r.since w ≡ false) × (t ≡ absent))
    ⊎ (((knows r.since w ≡ true) × (is_written r.need t ≡ false) × (when_nothing r.need w ≡ Ok t))
    ⊎ ((knows r.since w ≡ true) × (is_written r.need t ≡ true) × Held w d t r.kind))

pub err_ok : {A F : Type 0} {f : F} {a : A} → Err f ≡ Ok a → ⊥
err_ok h = grind arith

-- a required field that every version knows is there
pub required_held : (w : SpecVersion) (d : Depth) (t : Tree) (r : Row) → r.need ≡ required → r.since ≡ V1_3 → RowHeld w d t r → Held w d t r.kind
required_held w d t r need since (inl h) = absurd (true≢false (subst (λ (s : SpecVersion). knows s w ≡ false) since h.0))
required_held w d t r need since (inr (inl h)) = absurd (err_ok (subst (λ (n : Need). when_nothing n w ≡ Ok t) need h.2))
required_held w d t r need since (inr (inr h)) = h.2

-- the one text of an identifier
pub one_text_of : (w : SpecVersion) (d : Depth) (js : Trees) (r : Row) → r.need ≡ required → r.since ≡ V1_3 → r.kind ≡ a_text → FieldsHeld w d js (r ∷ []) → (s : List ℕ) × (js ≡ one (text s))
one_text_of w d none r need since kind h = absurd (true≢false h)
one_text_of w d (more t (more u us)) r need since kind h = absurd (true≢false h.1)
one_text_of w d (more t none) r need since kind h =
    let e : (s : List ℕ) × (t ≡ text s) = held_text w d t (subst (λ (k : Kind). Held w d t k) kind (required_held w d t r need since h.0)) in
    (e.0, ap (λ u. more u none) e.1)

-- ---- identifiers

-- a license's rows behind its identifier, and its members before it
abbrev pub license_rest : List Row
license_rest = of (a_record attached_text) "text" ∷ of a_text "url" ∷ from V1_5 (of (a_list properties) "properties") ∷ []

abbrev pub license_front : Tree → SpecVersion → Members
license_front b w = members_spelled (one b) w (from V1_5 respelled_reference ∷ []) no_members

pub id_gets : (w : SpecVersion) (d : Depth) (b : Tree) (s : List ℕ) (us : Trees) → AreOwn (more b (more (fields spdx_id (one (text s))) us)) (rows license)
    → identifier_read (seen (spelled license (more b (more (fields spdx_id (one (text s))) us)) w)) w d ≡ Ok (fields spdx_id (one (text s)))
unfolding jspell jread rows
id_gets w d b s us owns = ap (λ f. id_read f (seen MS) w d) (seen_is MS (codes "id") ∙ ap as_seen at)
  where
    MS : Members
    MS = spelled license (more b (more (fields spdx_id (one (text s))) us)) w

    at : get_member (codes "id") MS ≡ Some (json.string s)
    at = other (codes "id") us w license_rest (put (codes "id") (json.string s) (license_front b w)) owns.1.1 refl ∙ get_member-put (codes "id") (json.string s) (license_front b w)

pub name_gets : (w : SpecVersion) (d : Depth) (b : Tree) (s : List ℕ) (us : Trees) → AreOwn (more b (more (fields license_name (one (text s))) us)) (rows license)
    → identifier_read (seen (spelled license (more b (more (fields license_name (one (text s))) us)) w)) w d ≡ Ok (fields license_name (one (text s)))
unfolding jspell jread rows
name_gets w d b s us owns =
    ap (λ f. id_read f (seen MS) w d) (seen_is MS (codes "id") ∙ ap as_seen no_id) ∙ ap (λ f. name_read f w d) (seen_is MS (codes "name") ∙ ap as_seen at)
  where
    MS : Members
    MS = spelled license (more b (more (fields license_name (one (text s))) us)) w

    no_id : get_member (codes "id") MS ≡ None
    no_id = other (codes "id") us w license_rest (put (codes "name") (json.string s) (license_front b w)) owns.1.1 refl
        ∙ (get_member-put_other (codes "id") (codes "name") (json.string s) (license_front b w) (other_name (codes "id") (codes "name") refl)
        ∙ left_row (codes "id") b (from V1_5 respelled_reference) w no_members tt refl)

    at : get_member (codes "name") MS ≡ Some (json.string s)
    at = other (codes "name") us w license_rest (put (codes "name") (json.string s) (license_front b w)) owns.1.1 refl ∙ get_member-put (codes "name") (json.string s) (license_front b w)

-- ---- what stands in an object of another record

pub identifier_of : (w : SpecVersion) (d : Depth) (t : Tree) → Held w d t a_license_identifier
    → ((s : List ℕ) × (t ≡ fields spdx_id (one (text s)))) ⊎ ((s : List ℕ) × (t ≡ fields license_name (one (text s))))
unfolding rows
identifier_of w d (items ts) h = absurd (true≢false h.0)
identifier_of w d (fields n ts) h = by h.0
  where
    by : (n ≡ spdx_id) ⊎ (n ≡ license_name) → ((s : List ℕ) × (fields n ts ≡ fields spdx_id (one (text s)))) ⊎ ((s : List ℕ) × (fields n ts ≡ fields license_name (one (text s))))
    by (inl e) = inl (by_text spdx_id e (one_text_of w d ts _ refl refl refl (subst (λ (m : Name). FieldsHeld w (inside m d) ts (rows m)) e h.2)))
      where
        by_text : (m : Name) → n ≡ m → (s : List ℕ) × (ts ≡ one (text s)) → (s : List ℕ) × (fields n ts ≡ fields m (one (text s)))
        by_text m e' p = (p.0, rw (e', p.1) refl)
    by (inr e) = inr (by_text license_name e (one_text_of w d ts _ refl refl refl (subst (λ (m : Name). FieldsHeld w (inside m d) ts (rows m)) e h.2)))
      where
        by_text : (m : Name) → n ≡ m → (s : List ℕ) × (ts ≡ one (text s)) → (s : List ℕ) × (fields n ts ≡ fields m (one (text s)))
        by_text m e' p = (p.0, rw (e', p.1) refl)
identifier_of w d _ h = absurd (true≢false h)

abbrev pub IdGets : SpecVersion → Depth → Tree → Trees → Tree → Type 0
IdGets w d b us j = AreOwn (more b (more j us)) (rows license) → identifier_read (seen (spelled license (more b (more j us)) w)) w d ≡ Ok j

pub identifier_gets : (w : SpecVersion) (d d' : Depth) (b i : Tree) (us : Trees) → Held w d i a_license_identifier → IdGets w d' b us i
identifier_gets w d d' b i us h = by (identifier_of w d i h)
  where
    by : ((s : List ℕ) × (i ≡ fields spdx_id (one (text s)))) ⊎ ((s : List ℕ) × (i ≡ fields license_name (one (text s)))) → IdGets w d' b us i
    by (inl e) = subst (IdGets w d' b us) (sym e.1) (id_gets w d' b e.0 us)
    by (inr e) = subst (IdGets w d' b us) (sym e.1) (name_gets w d' b e.0 us)

pub own_back_license : (w : SpecVersion) (d d' : Depth) (ts : Trees) → FieldsHeld w d ts (rows license) → AreOwn ts (rows license)
    → OwnBack (own_read (seen (spelled license ts w)) w d') w ts (rows license)
unfolding rows
own_back_license w d d' none h owns = absurd (true≢false h)
own_back_license w d d' (more b none) h owns = absurd (true≢false h.1)
own_back_license w d d' (more b (more i us)) h owns =
    (tt, (identifier_gets w d d' b i us (required_held w d i identifier_row refl refl h.1.0) owns, own_back_named _ w us license_rest refl))

-- ---- a flow's classification

pub fields_same : {n m : Name} {ts us : Trees} → n ≡ m → ts ≡ us → fields n ts ≡ fields m us
fields_same p q = rw (p, q) refl

pub two_texts_of : (w : SpecVersion) (d : Depth) (js : Trees) (r s : Row) → r.need ≡ required → r.since ≡ V1_3 → r.kind ≡ a_text → s.need ≡ required → s.since ≡ V1_3 → s.kind ≡ a_text
    → FieldsHeld w d js (r ∷ s ∷ []) → (f : List ℕ) × (g : List ℕ) × (js ≡ two (text f) (text g))
two_texts_of w d none r s a b c a' b' c' h = absurd (true≢false h)
two_texts_of w d (more t us) r s a b c a' b' c' h =
    let e : (f : List ℕ) × (t ≡ text f) = held_text w d t (subst (λ (k : Kind). Held w d t k) c (required_held w d t r a b h.0)) in
    let f : (g : List ℕ) × (us ≡ one (text g)) = one_text_of w d us s a' b' c' h.1 in
    (e.0, f.0, more_is e.1 f.1)

pub class_of : (w : SpecVersion) (d : Depth) (t : Tree) → Held w d t (a_record classification) → (f : List ℕ) × (g : List ℕ) × (t ≡ fields classification (two (text f) (text g)))
unfolding rows
class_of w d (items ts) h = absurd (true≢false h.0)
class_of w d (fields n ts) h =
    let e : (f : List ℕ) × (g : List ℕ) × (ts ≡ two (text f) (text g)) = two_texts_of w d ts _ _ refl refl refl refl refl refl (subst (λ (m : Name). FieldsHeld w (inside m d) ts (rows m)) h.0 h.2) in
    (e.0, e.1, fields_same h.0 e.2)
class_of w d _ h = absurd (true≢false h)

pub class_gets : (w : SpecVersion) (d : Depth) (a b : Tree) (f g : List ℕ)
    → own_read (seen (spelled service_data (more a (more b (one (fields classification (two (text f) (text g)))))) w)) w d (a_record classification) ≡ Ok (fields classification (two (text f) (text g)))
unfolding jspell jread rows
class_gets w d a b f g = ap (λ x. x >>= (λ us. Ok (fields classification us)))
    (rows_of (seen MS) no_own w d (two (text f) (text g)) (rows classification)
    (gets no_own w d (two (text f) (text g)) (rows classification) MS2 MS refl clear (tt, (tt, tt)) back (tt, (tt, tt)) refl))
  where
    MS2 : Members
    MS2 = members_spelled (two a b) w (at a_text "name" ∷ at a_text "description" ∷ []) no_members

    MS : Members
    MS = spelled service_data (more a (more b (one (fields classification (two (text f) (text g)))))) w

    clear : IsClear (names (rows classification)) MS2
    clear q h = left_row q b (at a_text "description") w (members_spelled (one a) w (at a_text "name" ∷ []) no_members) tt (apart_first q (codes "description" ∷ []) (names (rows classification)) refl h)
        ∙ left_row q a (at a_text "name") w no_members tt (apart_first q (codes "name" ∷ []) (names (rows classification)) refl h)

    back : AreBack w d (two (text f) (text g)) (rows classification)
    back = (inr (inr (refl, refl, refl, refl)), (inr (inr (refl, refl, refl, refl)), tt))

abbrev pub ClassGets : SpecVersion → Depth → Tree → Tree → Tree → Type 0
ClassGets w d a b j = own_read (seen (spelled service_data (more a (more b (one j))) w)) w d (a_record classification) ≡ Ok j

pub own_back_flow : (w : SpecVersion) (d d' : Depth) (ts : Trees) → FieldsHeld w d ts (rows service_data)
    → OwnBack (own_read (seen (spelled service_data ts w)) w d') w ts (rows service_data)
unfolding rows
own_back_flow w d d' none h = absurd (true≢false h)
own_back_flow w d d' (more a none) h = absurd (true≢false h.1)
own_back_flow w d d' (more a (more b none)) h = absurd (true≢false h.1.1)
own_back_flow w d d' (more a (more b (more c (more x us)))) h = absurd (true≢false h.1.1.1)
own_back_flow w d d' (more a (more b (more c none))) h = (tt, (tt, (by (class_of w d c (required_held w d c class_row refl refl h.1.1.0)), tt)))
  where
    by : (f : List ℕ) × (g : List ℕ) × (c ≡ fields classification (two (text f) (text g))) → ClassGets w d' a b c
    by e = subst (ClassGets w d' a b) (sym e.2) (class_gets w d' a b e.0 e.1)

-- What each record's own object gives for the members that stand in it.
pub own_back : (n : Name) (w : SpecVersion) (d d' : Depth) (ts : Trees) → FieldsHeld w d ts (rows n) → AreOwn ts (rows n)
    → OwnBack (own_read (seen (spelled n ts w)) w d') w ts (rows n)
unfolding rows
own_back license w d d' ts h owns = own_back_license w d d' ts h owns
own_back service_data w d d' ts h owns = own_back_flow w d d' ts h
own_back n w d d' ts h owns = own_back_named _ w ts (rows n) refl

-- ---- every kind

pub must_held : (w : SpecVersion) (d : Depth) (t : Tree) (r : Row) → is_must r ≡ true → RowHeld w d t r → Held w d t r.kind
must_held w d t r must h = by r.need r.since refl refl must
  where
    by : (n : Need) (s : SpecVersion) → r.need ≡ n → r.since ≡ s → is_must (record r { since = s; need = n }) ≡ true → Held w d t r.kind
    by required V1_3 e f g = required_held w d t r e f h
    by required V1_4 e f g = absurd (true≢false (sym g))
    by required V1_5 e f g = absurd (true≢false (sym g))
    by _ s e f g = absurd (true≢false (sym g))

pub is_own_member : (t : Tree) (n : List ℕ) (k : Kind) → IsOwn t (member n) k
is_own_member t n k = tt

pub own_text : (k : Kind) (s : List ℕ) → IsTextHeld k s → is_own_kind k ≡ true → Never
own_text a_text s h o = sym o
own_text a_reference s h o = sym o
own_text a_version s h o = sym o
own_text _ s h o = h

pub own_number : (k : Kind) (n : ℕ) → IsNumberHeld k n → is_own_kind k ≡ true → Never
own_number a_number n h o = sym o
own_number _ n h o = h

pub own_boolean : (k : Kind) → IsBooleanOf k → is_own_kind k ≡ true → Never
own_boolean a_boolean h o = sym o
own_boolean _ h o = h

pub own_items : (k : Kind) → IsListKind k → is_own_kind k ≡ true → Never
own_items (a_list l) h o = sym o
own_items a_tools h o = sym o
own_items a_data h o = sym o
own_items _ h o = h

pub own_record : (w : SpecVersion) (k : Kind) (n : Name) (ts : Trees) → IsRecordHeld w k n ts → is_own_kind k ≡ true → IsOwnRecord k n
own_record w a_license_identifier n ts h o = h
own_record w (a_record m) n ts h o = (h, named_names (rows m) o)
own_record w a_text n ts h o = absurd (true≢false (sym o))
own_record w _ n ts h o = absurd (true≢false (sym o))

pub own_field : (w : SpecVersion) (d : Depth) (t : Tree) (j : Member) (r : Row) → (Held w d t r.kind → is_own_kind r.kind ≡ true → IsOwn t merged r.kind) → RowHeld w d t r → (is_named j || (is_own_kind r.kind && is_must r)) ≡ true → IsOwn t j r.kind
own_field w d t (member n) r own h o = is_own_member t n r.kind
own_field w d t merged r own h o = let p : (is_own_kind r.kind ≡ true) × (is_must r ≡ true) = and_true (is_own_kind r.kind) (is_must r) o in own (must_held w d t r p.1 h) p.0

mutual
  owns : (w : SpecVersion) (d : Depth) (ts : Trees) (rs : List Row) → FieldsHeld w d ts rs → owns_well rs ≡ true → AreOwn ts rs
  owns w d none rs h o = tt
  owns w d (more t ts) [] h o = tt
  owns w d (more t ts) (r ∷ rs) h o =
      let p : ((is_named r.json || (is_own_kind r.kind && is_must r)) ≡ true) × (owns_well rs ≡ true) = and_true (is_named r.json || (is_own_kind r.kind && is_must r)) (owns_well rs) o in
      (own_field w d t r.json r (own_of w d t r.kind) h.0 p.0, owns w d ts rs h.1 p.1)

  own_of : (w : SpecVersion) (d : Depth) (t : Tree) (k : Kind) → Held w d t k → is_own_kind k ≡ true → IsOwn t merged k
  own_of w d absent k h o = absurd (true≢false h)
  own_of w d (text s) k h o = own_text k s h o
  own_of w d (number n) k h o = own_number k n h o
  own_of w d (boolean b) k h o = own_boolean k h o
  own_of w d (items ts) k h o = own_items k h.0 o
  own_of w d (fields n ts) k h o = (own_record w k n ts h.0 o, owns w (inside n d) ts (rows n) h.2 (owns_well_all n))

-- ---- the forms

-- what a record that is held in a place gives
pub plain_back : (w : SpecVersion) (d : Depth) (n : Name) (ts : Trees) → FieldsHeld w (inside n d) ts (rows n) → AreOwn ts (rows n) → AreBack w (inside n d) ts (rows n)
    → record_denoted n (seen (spelled n ts w)) w (inside n d) ≡ Ok (fields n ts)
plain_back w d n ts h o b = record_gets n w (inside n d) ts o b (own_back n w (inside n d) (inside n d) ts h o)

pub record_back : (w : SpecVersion) (d : Depth) (n : Name) (ts : Trees) → name_too_deep n d ≡ false
    → FieldsHeld w (inside n d) ts (rows n) → AreOwn ts (rows n) → AreBack w (inside n d) ts (rows n)
    → IsRead w d (fields n ts) (a_record n)
unfolding jspell jread
record_back w d n ts deep h o b = (refl, if_false (name_too_deep n d) _ _ deep ∙ plain_back w d n ts h o b)

pub license_back : (w : SpecVersion) (d : Depth) (ts : Trees) → IsRead w d (fields license ts) (a_record license) → IsRead w d (fields license ts) a_license_choice
unfolding jspell jread
license_back w d ts h = (refl, under_ok (to_member (codes "license")) _ (fields license ts) h.1)

pub not_lone : (b : Bool) (y x : Data) → is_lone_license (put (codes "expression") x (if b then put (codes "bom-ref") y no_members else no_members)) ≡ false
not_lone true y x = refl
not_lone false y x = refl

pub expression_lone : (w : SpecVersion) (d : Depth) (ts : Trees) → FieldsHeld w d ts (rows expression) → is_lone_license (spelled expression ts w) ≡ false
unfolding jspell rows
expression_lone w d none h = absurd (true≢false h)
expression_lone w d (more a none) h = absurd (true≢false h.1)
expression_lone w d (more a (more b (more c us))) h = absurd (true≢false h.1.1)
expression_lone w d (more a (more b none)) h = by (held_text w d b (required_held w d b (must (row a_text content "expression")) refl refl h.1.0))
  where
    by : (s : List ℕ) × (b ≡ text s) → is_lone_license (spelled expression (two a b) w) ≡ false
    by e = subst (λ (t : Tree). is_lone_license (spelled expression (two a t) w) ≡ false) (sym e.1) (not_lone (is_spelled respelled_reference a w) (jspell a w a_text) (json.string e.0))

pub expression_back : (w : SpecVersion) (d : Depth) (ts : Trees) → FieldsHeld w d ts (rows expression) → AreOwn ts (rows expression) → AreBack w d ts (rows expression)
    → IsRead w d (fields expression ts) a_license_choice
unfolding jspell jread
expression_back w d ts h o b = (refl, ap (λ x. choice_read x (seen (spelled expression ts w)) w d) (expression_lone w d ts h) ∙ plain_back w d expression ts h o b)

pub identifier_back : (w : SpecVersion) (d : Depth) (t : Tree) → Held w d t a_license_identifier → IsRead w d t a_license_identifier
unfolding jspell jread rows
identifier_back w d t h = by (identifier_of w d t h)
  where
    by : ((s : List ℕ) × (t ≡ fields spdx_id (one (text s)))) ⊎ ((s : List ℕ) × (t ≡ fields license_name (one (text s)))) → IsRead w d t a_license_identifier
    by (inl e) = subst (λ (u : Tree). IsRead w d u a_license_identifier) (sym e.1) (refl, refl)
    by (inr e) = subst (λ (u : Tree). IsRead w d u a_license_identifier) (sym e.1) (refl, refl)

pub tools_back : (d : Depth) (ts : Trees) → FieldsHeld V1_5 d ts (rows tools_object) → AreOwn ts (rows tools_object) → AreBack V1_5 d ts (rows tools_object)
    → IsRead V1_5 d (fields tools_object ts) a_tools
unfolding jspell jread
tools_back d ts h o b = (refl, plain_back V1_5 d tools_object ts h o b)

abbrev pub signers_row : Row
signers_row = must (row (a_list signer_list) (children (codes "signer")) "signers")

pub flow_back : (d : Depth) (ts : Trees) → is_flow service_data ts ≡ true → FieldsHeld V1_5 d ts (rows service_data) → AreOwn ts (rows service_data) → AreBack V1_5 d ts (rows service_data)
    → IsRead V1_5 d (fields service_data ts) an_entry
unfolding jspell jread
flow_back d ts f h o b = (refl, ap (λ x. x >>= (λ t. Ok (entry_of t))) (plain_back V1_5 d service_data ts h o b) ∙ ap Ok (if_true (is_flow service_data ts) _ _ f))

-- A classification is read as a flow that has neither a name nor a description.
pub class_entry_back : (w : SpecVersion) (d : Depth) (ts : Trees) → FieldsHeld w d ts (rows classification) → AreOwn ts (rows classification) → AreBack w d ts (rows classification)
    → IsRead w d (fields classification ts) an_entry
unfolding jspell jread rows
class_entry_back V1_3 d ts h o b = (refl, plain_back V1_3 d classification ts h o b)
class_entry_back V1_4 d ts h o b = (refl, plain_back V1_4 d classification ts h o b)
class_entry_back V1_5 d ts h o b = (
  refl,
  ap (λ x. x >>= (λ t. Ok (entry_of t)))
      (plain_back V1_5 d service_data (more absent (two absent (fields classification ts)))
      (inr (inl (refl, refl, refl)), (inr (inl (refl, refl, refl)), (inr (inr (refl, refl, (refl, refl, h))), tt)))
      (tt, (tt, (((refl, refl), o), tt)))
      (inr (inl (refl, refl, refl)), (inr (inl (refl, refl, refl)), (inr (inr (refl, refl, refl, plain_back V1_5 d classification ts h o b)), tt)))),
)

-- ---- signatures

pub signed_at : (w : SpecVersion) (d : Depth) (t : Tree) (r : Row) → r.need ≡ required → r.since ≡ V1_3 → IsBack w d t r
    → (is_spelled r t w ≡ true) × IsRead w d t r.kind
signed_at w d t r need since (inl h) = absurd (true≢false (subst (λ (s : SpecVersion). knows s w ≡ false) since h.0))
signed_at w d t r need since (inr (inl h)) = absurd (err_ok (subst (λ (n : Need). when_nothing n w ≡ Ok t) need h.2))
signed_at w d t r need since (inr (inr h)) = (rw (h.0, h.1) refl, (h.2, h.3))

pub signers_back : (w : SpecVersion) (d : Depth) (ts : Trees) → AreBack w d ts (rows signers) → IsRead w d (fields signers ts) a_signature
unfolding jspell jread rows
signers_back w d none h = absurd (true≢false h)
signers_back w d (more t (more u us)) h = absurd (true≢false h.1)
signers_back w d (more t none) h = by (signed_at w d t signers_row refl refl h.0)
  where
    by : (is_spelled signers_row t w ≡ true) × IsRead w d t (a_list signer_list) → IsRead w d (fields signers (one t)) a_signature
    by e = (refl, rw (e.0, e.1.0, e.1.1) refl)

-- ---- chains, signers and bills

abbrev pub chain_row : Row
chain_row = must (row (a_list chain_list) (children (codes "chain")) "chain")

pub chain_back : (w : SpecVersion) (d : Depth) (ts : Trees) → AreBack w d ts (rows chain) → IsRead w d (fields chain ts) a_signature
unfolding jspell jread rows
chain_back w d none h = absurd (true≢false h)
chain_back w d (more t (more u us)) h = absurd (true≢false h.1)
chain_back w d (more t none) h = by (signed_at w d t chain_row refl refl h.0)
  where
    by : (is_spelled chain_row t w ≡ true) × IsRead w d t (a_list chain_list) → IsRead w d (fields chain (one t)) a_signature
    by e = (refl, rw (e.0, e.1.0, e.1.1) refl)

pub none_found : (ms : Members) (q : List ℕ) → get_member q ms ≡ None → seen ms q ≡ nothing
none_found ms q h = seen_is ms q ∙ ap as_seen h

pub signer_back : (w : SpecVersion) (d : Depth) (ts : Trees) → FieldsHeld w d ts (rows signer) → AreOwn ts (rows signer) → AreBack w d ts (rows signer)
    → IsRead w d (fields signer ts) a_signature
unfolding jspell jread rows
signer_back w d ts h o b = (
  refl,
  ap (λ f. signature_read f (seen (spelled signer ts w)) w d) (none_found (spelled signer ts w) (codes "signers") (other (codes "signers") ts w (rows signer) no_members o refl))
      ∙ (ap (λ f. chain_read f (seen (spelled signer ts w)) w d) (none_found (spelled signer ts w) (codes "chain") (other (codes "chain") ts w (rows signer) no_members o refl))
      ∙ plain_back w d signer ts h o b),
)

pub bill_back : (w : SpecVersion) (d : Depth) (ts : Trees) → FieldsHeld w d ts (rows bill) → AreOwn ts (rows bill) → AreBack w d ts (rows bill)
    → IsRead w d (fields bill ts) a_bill
unfolding jspell jread rows
bill_back w d ts h o b = (
  refl,
  ap (λ f. under (to_member (codes "bomFormat")) (format_read f w d) >>= (λ t. record_denoted bill (seen (spelled bill ts w)) w d))
      (seen_is (spelled bill ts w) (codes "bomFormat") ∙ ap as_seen (other (codes "bomFormat") ts w (rows bill) (heading bill) o refl))
      ∙ plain_back w d bill ts h o b,
)

-- ---- the induction

pub by_name : (w : SpecVersion) (d : Depth) (n m : Name) (k : Kind) (ts : Trees) → n ≡ m
    → (FieldsHeld w (inside m d) ts (rows m) → AreOwn ts (rows m) → AreBack w (inside m d) ts (rows m) → IsRead w d (fields m ts) k)
    → FieldsHeld w (inside n d) ts (rows n) → AreOwn ts (rows n) → AreBack w (inside n d) ts (rows n) → IsRead w d (fields n ts) k
by_name w d n m k ts e f = subst (λ (l : Name). FieldsHeld w (inside l d) ts (rows l) → AreOwn ts (rows l) → AreBack w (inside l d) ts (rows l) → IsRead w d (fields l ts) k) (sym e) f

pub fields_back : (w : SpecVersion) (d : Depth) (n : Name) (ts : Trees) (k : Kind) → IsRecordHeld w k n ts → name_too_deep n d ≡ false
    → FieldsHeld w (inside n d) ts (rows n) → AreOwn ts (rows n) → AreBack w (inside n d) ts (rows n) → IsRead w d (fields n ts) k
fields_back w d n ts (a_record m) e deep h o b = subst (λ (l : Name). IsRead w d (fields n ts) (a_record l)) e (record_back w d n ts deep h o b)
fields_back w d n ts a_license_choice (inl e) deep h o b = by_name w d n license a_license_choice ts e (λ h' o' b'. license_back w d ts (record_back w d license ts refl h' o' b')) h o b
fields_back w d n ts a_license_choice (inr e) deep h o b = by_name w d n expression a_license_choice ts e (expression_back w d ts) h o b
fields_back w d n ts a_license_identifier e deep h o b = identifier_back w d (fields n ts) (e, deep, h)
fields_back w d n ts a_tools e deep h o b =
    by_name w d n tools_object a_tools ts e.0 (subst (λ (v : SpecVersion). FieldsHeld v d ts (rows tools_object) → AreOwn ts (rows tools_object) → AreBack v d ts (rows tools_object) → IsRead v d (fields tools_object ts) a_tools) (sym e.1) (tools_back d ts)) h o b
fields_back w d n ts an_entry (inl e) deep h o b = by_name w d n classification an_entry ts e (class_entry_back w d ts) h o b
fields_back w d n ts an_entry (inr e) deep h o b =
    by_name w d n service_data an_entry ts e.0 (subst (λ (v : SpecVersion). FieldsHeld v d ts (rows service_data) → AreOwn ts (rows service_data) → AreBack v d ts (rows service_data) → IsRead v d (fields service_data ts) an_entry) (sym e.2)
    (flow_back d ts (subst (λ (l : Name). is_flow l ts ≡ true) e.0 e.1))) h o b
fields_back w d n ts a_signature (inl e) deep h o b = by_name w d n signers a_signature ts e (λ h' o' b'. signers_back w d ts b') h o b
fields_back w d n ts a_signature (inr (inl e)) deep h o b = by_name w d n chain a_signature ts e (λ h' o' b'. chain_back w d ts b') h o b
fields_back w d n ts a_signature (inr (inr e)) deep h o b = by_name w d n signer a_signature ts e (signer_back w d ts) h o b
fields_back w d n ts a_bill e deep h o b = by_name w d n bill a_bill ts e (bill_back w d ts) h o b
fields_back w d n ts _ e deep h o b = absurd (true≢false e)

pub field_back : (w : SpecVersion) (d : Depth) (t : Tree) (r : Row) → (Held w d t r.kind → IsRead w d t r.kind) → RowHeld w d t r → IsBack w d t r
field_back w d t r f (inl h) = inl h
field_back w d t r f (inr (inl h)) = inr (inl h)
field_back w d t r f (inr (inr h)) = inr (inr (h.0, h.1, (f h.2).0, (f h.2).1))

-- What a version holds at a depth is read back from its JSON spelling.
mutual
  unfolding jread jspell

  pub json_back : (w : SpecVersion) (d : Depth) (t : Tree) (k : Kind) → Held w d t k → IsRead w d t k
  json_back w d absent k h = absurd (true≢false h)
  json_back w d (text s) k h = text_back w d s k h
  json_back w d (number n) k h = number_back w d n k h
  json_back w d (boolean b) k h = boolean_back w d b k h
  json_back w d (items ts) k h = list_back w d ts k h.0 (items_back w d ts (held_kind k) 0 h.1)
  json_back w d (fields n ts) k h = fields_back w d n ts k h.0 h.1 h.2 (owns w (inside n d) ts (rows n) h.2 (owns_well_all n)) (rows_back w (inside n d) ts (rows n) h.2)

  items_back : (w : SpecVersion) (d : Depth) (ts : Trees) (k : Kind) (n : ℕ) → AllHeld w d ts k → array_items_read (items_spelled ts w k) w k d n ≡ Ok ts
  items_back w d none k n h = refl
  items_back w d (more t ts) k n h = rw ((json_back w d t k h.0).1, items_back w d ts k (suc n) h.1) refl

  rows_back : (w : SpecVersion) (d : Depth) (ts : Trees) (rs : List Row) → FieldsHeld w d ts rs → AreBack w d ts rs
  rows_back w d none [] h = tt
  rows_back w d none (r ∷ rs) h = h
  rows_back w d (more t ts) [] h = h
  rows_back w d (more t ts) (r ∷ rs) h = (field_back w d t r (json_back w d t r.kind) h.0, rows_back w d ts rs h.1)
