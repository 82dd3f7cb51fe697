-- A member that no row has is passed over.
use Rattle.std.specs.Prelude.{◌≡◌, refl, ℕ, List, [], ◌∷◌, ◌++◌, Bool, true, false, ◌||◌, Option, Some, None, Result, Ok, if◌then◌else◌, codes}
use Rattle.std.proofs.Common.{true≢false}
use Rattle.std.specs.Str.{bytes_eq}
use mathlib.Core.Path.{ap, sym, ◌∙◌}
use Rattle.serde_json.specs.Data.{Members, put}
use Rattle.serde_json.proofs.Views.{get_member-put_other}
use Rattle.cdx_models.specs.declared.bom.SpecVersion.{SpecVersion}
use Rattle.cdx_models.specs.declared.bom.SpecVersion.TheVariants.{V1_3, V1_4, V1_5}
use Rattle.cdx_models.specs.Versions.{knows}
use Rattle.cdx_models.specs.Entries.{entry_of}
use Rattle.cdx_models.specs.Trees.{Name, classification, service_data, tools_object, bill, Tree, absent, Trees, more}
use Rattle.cdx_schema.specs.Kinds.{Kind, a_record, a_license_identifier, a_tools, an_entry, a_bill, Row, Member, member, merged}
use Rattle.cdx_schema.specs.Table.{rows}
use Rattle.cdx_schema.specs.Results.{◌>>=◌}
use Rattle.cdx_schema.specs.Faults.{JsonFault, under, to_member}
use Rattle.cdx_schema.specs.Depth.{Depth, inside}
use Rattle.cdx_schema.specs.JsonReading.{jread, rows_read, row_read, member_read, named_read, member_name, first_or_old, found_read, Object, seen, own_read, record_denoted, under_name, no_own, id_read, name_read, format_read, object_read, at_depth, Found, nothing, a_null, found}
use Rattle.cdx_schema.specs.RowLaws.{is_among, old_names, row_names, plain_names, merged_names, known_names, IsUnknown, AreAlikeBut, PassesMembers, PassesPut}
use Rattle.cdx_schema.proofs.JsonBack.{seen_is, as_seen, or_false, other_name}

-- ---- names

among_none : (q : List ℕ) (xs ys : List (List ℕ)) → is_among q (xs ++ ys) ≡ false → (is_among q xs ≡ false) × (is_among q ys ≡ false)
among_none q [] ys h = (refl, h)
among_none q (x ∷ xs) ys h = by (bytes_eq q x) h (among_none q xs ys)
  where
    by : (b : Bool) → (b || is_among q (xs ++ ys)) ≡ false → (is_among q (xs ++ ys) ≡ false → (is_among q xs ≡ false) × (is_among q ys ≡ false)) → ((b || is_among q xs) ≡ false) × (is_among q ys ≡ false)
    by true e f = absurd (true≢false e)
    by false e f = f e

first_none : (q n : List ℕ) (ns : List (List ℕ)) → is_among q (n ∷ ns) ≡ false → (bytes_eq q n ≡ false) × (is_among q ns ≡ false)
first_none q n ns h = or_false (bytes_eq q n) (is_among q ns) h

-- ---- objects that are alike outside a name

abbrev AlikeBut : List ℕ → Object → Object → Type 0
AlikeBut q o p = (n : List ℕ) → bytes_eq q n ≡ false → o n ≡ p n

seen_alike : (q : List ℕ) (ms ns : Members) → AreAlikeBut q ms ns → AlikeBut q (seen ms) (seen ns)
seen_alike q ms ns h n e = seen_is ms n ∙ (ap as_seen (h n e) ∙ sym (seen_is ns n))

-- a row, by whether the version knows it
known_alike : (b : Bool) (q : List ℕ) (xs : List (List ℕ)) (x y : Result Tree JsonFault) → is_among q (if b then xs else []) ≡ false → (is_among q xs ≡ false → x ≡ y) → (if b then x else Ok absent) ≡ (if b then y else Ok absent)
known_alike true q xs x y h f = f h
known_alike false q xs x y h f = refl

row_alike : (q : List ℕ) (o p : Object) (own own' : Kind → Result Tree JsonFault) (r : Row) (v : SpecVersion) (d : Depth) (inner : List (List ℕ))
    → AlikeBut q o p → (is_among q inner ≡ false → own r.kind ≡ own' r.kind) → is_among q (row_names v r inner) ≡ false
    → row_read o own r v d ≡ row_read p own' r v d
row_alike q o p own own' r v d inner alike same h = known_alike (knows r.since v) q (names_by r.json) (member_read r.json o own r v d) (member_read r.json p own' r v d) h (by r.json)
  where
    names_by : Member → List (List ℕ)
    names_by (member n) = n ∷ old_names r.old_name
    names_by merged = inner

    at : (n : List ℕ) → bytes_eq q n ≡ false → named_read n o r v d ≡ named_read n p r v d
    at n e = ap (λ f. under (to_member n) (found_read f r v d)) (alike n e)

    named : (n : List ℕ) (old : Option (List ℕ)) → bytes_eq q n ≡ false → is_among q (old_names old) ≡ false → named_read (member_name o n old) o r v d ≡ named_read (member_name p n old) p r v d
    named n None e f = at n e
    named n (Some m) e f = ap (λ x. named_read (first_or_old x n m) o r v d) (alike n e) ∙ under_either (p n)
      where
        under_either : (x : Found) → named_read (first_or_old x n m) o r v d ≡ named_read (first_or_old x n m) p r v d
        under_either nothing = at m (first_none q m [] f).0
        under_either a_null = at m (first_none q m [] f).0
        under_either (found read) = at n e

    by : (j : Member) → is_among q (names_by j) ≡ false → member_read j o own r v d ≡ member_read j p own' r v d
    by (member n) e = named n r.old_name (first_none q n (old_names r.old_name) e).0 (first_none q n (old_names r.old_name) e).1
    by merged e = same e

joined_alike : {F : Type 0} (x y : Result Tree F) (xs ys : Result Trees F) → x ≡ y → xs ≡ ys → (x >>= λ t. xs >>= λ ts. Ok (more t ts)) ≡ (y >>= λ t. ys >>= λ ts. Ok (more t ts))
joined_alike x y xs ys e f = ap (λ z. z >>= λ t. xs >>= λ ts. Ok (more t ts)) e ∙ ap (λ zs. y >>= λ t. zs >>= λ ts. Ok (more t ts)) f

plain_alike : (q : List ℕ) (o p : Object) (rs : List Row) (v : SpecVersion) (d : Depth) → AlikeBut q o p → is_among q (plain_names v rs) ≡ false → rows_read o no_own rs v d ≡ rows_read p no_own rs v d
unfolding rows_read
plain_alike q o p [] v d alike h = refl
plain_alike q o p (r ∷ rs) v d alike h =
    let e : (is_among q (row_names v r []) ≡ false) × (is_among q (plain_names v rs) ≡ false) = among_none q (row_names v r []) (plain_names v rs) h in
    joined_alike (row_read o no_own r v d) (row_read p no_own r v d) (rows_read o no_own rs v d) (rows_read p no_own rs v d) (row_alike q o p no_own no_own r v d [] alike (λ i. refl) e.0) (plain_alike q o p rs v d alike e.1)

own_alike : (q : List ℕ) (o p : Object) (v : SpecVersion) (d : Depth) → AlikeBut q o p → (k : Kind) → is_among q (merged_names v k) ≡ false → own_read o v d k ≡ own_read p v d k
own_alike q o p v d alike a_license_identifier h = ap (λ f. id_read f o v d) (alike (codes "id") (first_none q (codes "id") (codes "name" ∷ []) h).0) ∙ by (p (codes "id"))
  where
    by : (f : Found) → id_read f o v d ≡ id_read f p v d
    by nothing = ap (λ g. name_read g v d) (alike (codes "name") (first_none q (codes "name") [] (first_none q (codes "id") (codes "name" ∷ []) h).1).0)
    by a_null = refl
    by (found read) = refl
own_alike q o p v d alike (a_record n) h = ap (under_name n) (plain_alike q o p (rows n) v d alike h)
own_alike q o p v d alike _ h = refl

rows_alike : (q : List ℕ) (o p : Object) (rs : List Row) (v : SpecVersion) (d : Depth) → AlikeBut q o p → is_among q (known_names v rs) ≡ false
    → rows_read o (own_read o v d) rs v d ≡ rows_read p (own_read p v d) rs v d
unfolding rows_read
rows_alike q o p [] v d alike h = refl
rows_alike q o p (r ∷ rs) v d alike h =
    let e : (is_among q (row_names v r (merged_names v r.kind)) ≡ false) × (is_among q (known_names v rs) ≡ false) = among_none q (row_names v r (merged_names v r.kind)) (known_names v rs) h in
    joined_alike (row_read o (own_read o v d) r v d) (row_read p (own_read p v d) r v d) (rows_read o (own_read o v d) rs v d) (rows_read p (own_read p v d) rs v d)
    (row_alike q o p (own_read o v d) (own_read p v d) r v d (merged_names v r.kind) alike (own_alike q o p v d alike r.kind) e.0) (rows_alike q o p rs v d alike e.1)

-- A record is read alike from objects that are alike outside a name of no row.
record_alike : (q : List ℕ) (o p : Object) (n : Name) (v : SpecVersion) (d : Depth) → AlikeBut q o p → is_among q (known_names v (rows n)) ≡ false → record_denoted n o v d ≡ record_denoted n p v d
record_alike q o p n v d alike h = ap (under_name n) (rows_alike q o p (rows n) v d alike h)

kind_alike : (q : List ℕ) (ms ns : Members) (o p : Object) (k : Kind) (v : SpecVersion) (d : Depth) → IsUnknown q k v → AlikeBut q o p → object_read ms o v k d ≡ object_read ns p v k d
kind_alike q ms ns o p (a_record n) v d h alike = record_alike q o p n v (inside n d) alike h
kind_alike q ms ns o p a_bill v d h alike =
    let e : (bytes_eq q (codes "bomFormat") ≡ false) × (is_among q (known_names v (rows bill)) ≡ false) = first_none q (codes "bomFormat") (known_names v (rows bill)) h in
    ap (λ f. under (to_member (codes "bomFormat")) (format_read f v d) >>= λ t. record_denoted bill o v d) (alike (codes "bomFormat") e.0)
    ∙ ap (λ r. under (to_member (codes "bomFormat")) (format_read (p (codes "bomFormat")) v d) >>= λ t. r) (record_alike q o p bill v d alike e.1)
kind_alike q ms ns o p a_tools V1_3 d h alike = refl
kind_alike q ms ns o p a_tools V1_4 d h alike = refl
kind_alike q ms ns o p a_tools V1_5 d h alike = record_alike q o p tools_object V1_5 d alike h
kind_alike q ms ns o p an_entry V1_3 d h alike = record_alike q o p classification V1_3 d alike h
kind_alike q ms ns o p an_entry V1_4 d h alike = record_alike q o p classification V1_4 d alike h
kind_alike q ms ns o p an_entry V1_5 d h alike = ap (λ r. r >>= λ t. Ok (entry_of t)) (record_alike q o p service_data V1_5 d alike h)
kind_alike q ms ns o p _ v d h alike = absurd (true≢false h)

pub passes_members : PassesMembers
unfolding jread
passes_members q ms ns k v d h alike = ap (at_depth k d) (kind_alike q ms ns (seen ms) (seen ns) k v d h (seen_alike q ms ns alike))

pub passes_put : PassesPut
passes_put q x ms k v d h = passes_members q (put q x ms) ms k v d h (λ n e. get_member-put_other n q x ms (λ i. other_name q n e (sym i)))
