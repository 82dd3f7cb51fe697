-- The reading by rows is the schema's, and rows may be read in groups.
use Rattle.std.proofs.Common.{◌≡◌, List, [], ◌∷◌, ◌++◌, if◌then◌else◌, ℕ, Result, Ok, Err, refl, sym, ap, ◌∙◌}
use Rattle.cdx_models.specs.declared.bom.SpecVersion.{SpecVersion}
use Rattle.cdx_models.specs.declared.bom.SpecVersion.TheVariants.{V1_3, V1_4, V1_5}
use Rattle.cdx_models.specs.Versions.{knows}
use Rattle.cdx_models.specs.Trees.{Name, Tree, absent, Trees, more, ◌⧺◌}
use Rattle.cdx_schema.specs.Kinds.{Kind, a_text, a_boolean, a_number, a_version, a_list, a_record, a_reference, a_license_choice, a_license_identifier, a_tools, a_data, an_entry, a_signature, a_bill, Member, member, merged, Row}
use Rattle.cdx_schema.specs.Table.{rows}
use Rattle.cdx_schema.specs.Depth.{Depth}
use Rattle.cdx_schema.specs.Results.{◌>>=◌}
use Rattle.cdx_schema.specs.Faults.{to_member, JsonFault, under}
use Rattle.cdx_schema.specs.JsonReading.{Object, Found, nothing, a_null, found, found_read, member_name, member_read, row_read, rows_read, no_own, own_read, record_denoted}
use Rattle.cdx_json.specs.ByRows.{read_if_found, member_of, late_read, read_since, member_made, row_made, rows_made, own_by_rows, own_made, by_rows, as_record, identifier_of}

pub then_same : {A B F : Type 0} (x : Result A F) (f g : A → Result B F) → ((a : A) → f a ≡ g a) → (x >>= f) ≡ (x >>= g)
then_same (Ok a) f g h = h a
then_same (Err e) f g h = refl

then_after : {A B C F : Type 0} (x : Result A F) (f : A → Result B F) (g : B → Result C F) → ((x >>= f) >>= g) ≡ (x >>= λ a. f a >>= g)
then_after (Ok a) f g = refl
then_after (Err e) f g = refl

-- ---- one row

found_same : (f : Found) (r : Row) (v : SpecVersion) (d : Depth) → read_if_found f r.need r.kind v d ≡ found_read f r v d
found_same nothing r v d = refl
found_same a_null r v d = refl
found_same (found read) r v d = refl

member_same : (m : Member) (o : Object) (own own' : Kind → Result Tree JsonFault) (r : Row) (v : SpecVersion) (d : Depth) → ((k : Kind) → own k ≡ own' k) → member_made m o own r v d ≡ member_read m o own' r v d
unfolding member_of
member_same (member name) o own own' r v d same =
    let n : List ℕ = member_name o name r.old_name in ap (under (to_member n)) (found_same (o n) r v d)
member_same merged o own own' r v d same = same r.kind

same_read_since : (s v : SpecVersion) (x : Result Tree JsonFault) → read_since s v x ≡ (if knows s v then x else Ok absent)
unfolding late_read
same_read_since V1_3 v x = refl
same_read_since V1_4 v x = refl
same_read_since V1_5 v x = refl

row_same : (o : Object) (own own' : Kind → Result Tree JsonFault) (r : Row) (v : SpecVersion) (d : Depth) → ((k : Kind) → own k ≡ own' k) → row_made o own r v d ≡ row_read o own' r v d
row_same o own own' r v d same =
    same_read_since r.since v (member_made r.json o own r v d) ∙ ap (λ x. if knows r.since v then x else Ok absent) (member_same r.json o own own' r v d same)

-- ---- all rows

rows_same : {A : Type 0} (o : Object) (own own' : Kind → Result Tree JsonFault) (rs : List Row) (v : SpecVersion) (d : Depth) (make : Trees → Result A JsonFault) → ((k : Kind) → own k ≡ own' k) → rows_made o own rs v d make ≡ (rows_read o own' rs v d >>= make)
unfolding rows_made rows_read
rows_same o own own' [] v d make same = refl
rows_same o own own' (r ∷ rs) v d make same =
    ap (λ x. x >>= λ t. rows_made o own rs v d (λ ts. make (more t ts))) (row_same o own own' r v d same)
    ∙ then_same (row_read o own' r v d) _ _ (λ t. rows_same o own own' rs v d (λ ts. make (more t ts)) same ∙ sym (then_after (rows_read o own' rs v d) (λ ts. Ok (more t ts)) make))
    ∙ sym (then_after (row_read o own' r v d) (λ t. rows_read o own' rs v d >>= λ ts. Ok (more t ts)) make)

pub own_by_rows_are : (n : Name) (o : Object) (v : SpecVersion) (d : Depth) → own_by_rows n o v d ≡ own_read o v d (a_record n)
unfolding own_by_rows
own_by_rows_are n o v d = rows_same o no_own no_own (rows n) v d (as_record n) (λ k. refl)

own_same : (o : Object) (v : SpecVersion) (d : Depth) (k : Kind) → own_made o v d k ≡ own_read o v d k
unfolding identifier_of
own_same o v d a_license_identifier = refl
own_same o v d (a_record n) = own_by_rows_are n o v d
own_same o v d a_text = refl
own_same o v d a_boolean = refl
own_same o v d a_number = refl
own_same o v d a_version = refl
own_same o v d (a_list l) = refl
own_same o v d a_reference = refl
own_same o v d a_license_choice = refl
own_same o v d a_tools = refl
own_same o v d a_data = refl
own_same o v d an_entry = refl
own_same o v d a_signature = refl
own_same o v d a_bill = refl

-- The reading by rows is the schema's.
pub by_rows_are : (n : Name) (o : Object) (v : SpecVersion) (d : Depth) → by_rows n o v d ≡ record_denoted n o v d
by_rows_are n o v d = rows_same o (own_made o v d) (own_read o v d) (rows n) v d (as_record n) (own_same o v d)

-- ---- rows in groups

-- what is made of the rows
pub rows_then : {A : Type 0} (o : Object) (own : Kind → Result Tree JsonFault) (rs : List Row) (v : SpecVersion) (d : Depth) (make : Trees → Result A JsonFault) → rows_made o own rs v d make ≡ (rows_made o own rs v d (λ ts. Ok ts) >>= make)
unfolding rows_made
rows_then o own [] v d make = refl
rows_then o own (r ∷ rs) v d make =
    then_same (row_made o own r v d) _ _ (λ t. rows_then o own rs v d (λ ts. make (more t ts)) ∙ sym (ap (λ q. q >>= make) (rows_then o own rs v d (λ ts. Ok (more t ts))) ∙ then_after (rows_made o own rs v d (λ ts. Ok ts)) (λ ts. Ok (more t ts)) make))
    ∙ sym (then_after (row_made o own r v d) (λ t. rows_made o own rs v d (λ ts. Ok (more t ts))) make)

pub rows_split : {A : Type 0} (o : Object) (own : Kind → Result Tree JsonFault) (rs ss : List Row) (v : SpecVersion) (d : Depth) (make : Trees → Result A JsonFault) → rows_made o own (rs ++ ss) v d make ≡ (rows_made o own rs v d (λ ts. Ok ts) >>= λ ts. rows_made o own ss v d (λ us. make (ts ⧺ us)))
unfolding rows_made
rows_split o own [] ss v d make = refl
rows_split o own (r ∷ rs) ss v d make =
    then_same (row_made o own r v d) _ _ (λ t. rows_split o own rs ss v d (λ ts. make (more t ts)) ∙ sym (ap (λ q. q >>= (λ ts. rows_made o own ss v d (λ us. make (ts ⧺ us)))) (rows_then o own rs v d (λ ts. Ok (more t ts))) ∙ then_after (rows_made o own rs v d (λ ts. Ok ts)) (λ ts. Ok (more t ts)) (λ ts. rows_made o own ss v d (λ us. make (ts ⧺ us)))))
    ∙ sym (then_after (row_made o own r v d) (λ t. rows_made o own rs v d (λ ts. Ok (more t ts))) (λ ts. rows_made o own ss v d (λ us. make (ts ⧺ us))))
