-- What is read of a JSON value as a kind is of that kind, and shallow. Q is what is asked of a text.
use Rattle.std.specs.Prelude.{◌≡◌, refl, ℕ, suc, ◌^◌, List, [], ◌∷◌, Bool, true, false, not, ◌&&◌, nat_lt, if◌then◌else◌, ◌⊎◌, Option, Some, None, Result, Ok, Err, codes}
use Rattle.std.proofs.Common.{true≢false, inl, inr, Ordering, Less, Equal, Greater}
use Rattle.std.specs.Ordering.{nat_cmp, match_ordering}
use Rattle.std.specs.Cmp.Lexicographic.{slice_cmp}
use mathlib.Core.Path.{ap, sym, ◌∙◌, subst}
use Rattle.serde_json.specs.Data.{Num, unsigned, negative, float, Data, Items, no_items, item, Members, no_members}
use Rattle.serde_json.specs.Data as json
use Rattle.cdx_models.specs.declared.bom.SpecVersion.{SpecVersion}
use Rattle.cdx_models.specs.declared.bom.SpecVersion.TheVariants.{V1_3, V1_4, V1_5}
use Rattle.cdx_models.specs.Versions.{knows, is_label}
use Rattle.cdx_models.specs.Trees.{Name, hash, license, expression, spdx_id, license_name, classification, service_data, tools_object, signer, signers, chain, bill, Tree, absent, text, number, items, fields, Trees, none, more, one, field}
use Rattle.cdx_schema.specs.Kinds.{signer_list, chain_list, tool_list, Kind, a_text, a_boolean, a_number, a_version, a_list, a_record, a_reference, a_license_choice, a_license_identifier, a_tools, a_data, an_entry, a_signature, a_bill, Member, member, merged, Need, optional, required, required_first, else_empty, Row}
use Rattle.cdx_schema.specs.Table.{rows, list}
use Rattle.cdx_schema.specs.Results.{◌>>=◌}
use Rattle.cdx_models.specs.declared.errors.Step.{Step}
use Rattle.cdx_schema.specs.Faults.{JsonFault, to_member, to_item, under, here, wrong_kind, out_of_range, bad_spec_version, too_deep}
use Rattle.cdx_schema.specs.Depth.{Depth, top, inside, name_too_deep, is_too_deep}
use Rattle.cdx_models.specs.Entries.{is_flow, entry_of}
use Rattle.cdx_schema.specs.JsonReading.{ValueReading, Found, nothing, a_null, found, Object, jread, array_items_read, seen, as_found, rows_read, row_read, member_read, member_name, found_read, when_nothing, when_null, own_read, no_own, record_denoted, under_name, id_read, name_read, is_lone_license, choice_read, license_read, signature_read, chain_read, tools_read, entry_read, bill_read, format_read, object_read, text_read, boolean_read, integer_read, number_read, version_read, item_kind, array_read, json_denotes, first_float}
use Rattle.cdx_schema.specs.Keeping.{is_shallow, are_shallow}
use Rattle.cdx_schema.specs.Membership.{IsOfAll, AreOfAll, AreFieldsAll, IsTextOf, may_lack}
use Rattle.cdx_schema.specs.Texts.{AreTexts, AreTextsIn, AreTextsOf}
use Rattle.cdx_schema.proofs.JsonBack.{and_true, err_ok}
use Rattle.cdx_schema.proofs.XmlLaw.{is_list_kind}
use Rattle.cdx_schema.proofs.Sound.{both, sound_since}
use Rattle.cdx_schema.proofs.KeptOf.{class_entry, third_of, lacks_since}
use Rattle.cdx_schema.proofs.Basics.{true_lt}

-- ---- results

abbrev value_or : {A F : Type 0} → A → Result A F → A
value_or a (Ok b) = b
value_or a (Err e) = a

abbrev as_ok : (A F : Type 0) → A → Result A F
as_ok A F x = Ok x

pub ok_same : {A F : Type 0} {x y : A} → as_ok A F x ≡ Ok y → x ≡ y
ok_same {x = x} h = ap (value_or x) h

pub bind_ok : {A B F : Type 0} (r : Result A F) (f : A → Result B F) (y : B) → (r >>= f) ≡ Ok y → (x : A) × (r ≡ Ok x) × (f x ≡ Ok y)
bind_ok (Ok x) f y h = (x, refl, h)
bind_ok (Err e) f y h = absurd (err_ok h)

under_was : {A : Type 0} (s : Step) (r : Result A JsonFault) (t : A) → under s r ≡ Ok t → r ≡ Ok t
under_was s (Ok x) t h = h
under_was s (Err e) t h = absurd (err_ok h)

-- ---- what a reading gives

abbrev pub IsReadOf : (Q : List ℕ → Type 0) → Kind → Depth → Tree → Type 0
IsReadOf Q k d t = IsOfAll Q t k × (is_shallow t d ≡ true)

abbrev Good : (Q : List ℕ → Type 0) → ValueReading → Type 0
Good Q read = (v : SpecVersion) (k : Kind) (d : Depth) (t : Tree) → read v k d ≡ Ok t → IsReadOf Q k d t

abbrev GoodFound : (Q : List ℕ → Type 0) → Found → Type 0
GoodFound Q nothing = Unit {0}
GoodFound Q a_null = Unit {0}
GoodFound Q (found read) = Good Q read

abbrev GoodObject : (Q : List ℕ → Type 0) → Object → Type 0
GoodObject Q o = (q : List ℕ) → GoodFound Q (o q)

-- a field of a row, or absent where it may be
abbrev pub FieldOf : (Q : List ℕ → Type 0) → Need → Kind → Depth → Tree → Type 0
FieldOf Q n k d t = (((t ≡ absent) × (may_lack n ≡ true)) ⊎ IsOfAll Q t k) × (is_shallow t d ≡ true)

is_absent_field : (Q : List ℕ → Type 0) (n : Need) (k : Kind) (d : Depth) (t : Tree) → may_lack n ≡ true → as_ok Tree JsonFault absent ≡ Ok t → FieldOf Q n k d t
unfolding is_shallow
is_absent_field Q n k d t h e = subst (λ (x : Tree). FieldOf Q n k d x) (ok_same e) (inl (refl, h), refl)

abbrev is_else : Need → Kind → Bool
is_else else_empty k = is_list_kind k
is_else _ k = true

pub empty_list : (Q : List ℕ → Type 0) (k : Kind) (d : Depth) → is_list_kind k ≡ true → IsReadOf Q k d (items none)
unfolding is_shallow
empty_list Q (a_list l) d h = ((tt, tt), refl)
empty_list Q _ d h = absurd (true≢false (sym h))

nothing_good : (Q : List ℕ → Type 0) (n : Need) (k : Kind) (v : SpecVersion) (d : Depth) (t : Tree) → is_else n k ≡ true → when_nothing n v ≡ Ok t → FieldOf Q n k d t
nothing_good Q optional k v d t s e = is_absent_field Q optional k d t refl e
nothing_good Q required k v d t s e = absurd (err_ok e)
nothing_good Q required_first k V1_3 d t s e = absurd (err_ok e)
nothing_good Q required_first k V1_4 d t s e = is_absent_field Q required_first k d t refl e
nothing_good Q required_first k V1_5 d t s e = is_absent_field Q required_first k d t refl e
nothing_good Q else_empty k v d t s e = subst (λ (x : Tree). FieldOf Q else_empty k d x) (ok_same e) (inr (empty_list Q k d s).0, (empty_list Q k d s).1)

null_good : (Q : List ℕ → Type 0) (n : Need) (k : Kind) (v : SpecVersion) (d : Depth) (t : Tree) → when_null n v ≡ Ok t → FieldOf Q n k d t
null_good Q optional k v d t e = is_absent_field Q optional k d t refl e
null_good Q required k v d t e = absurd (err_ok e)
null_good Q required_first k V1_3 d t e = absurd (err_ok e)
null_good Q required_first k V1_4 d t e = is_absent_field Q required_first k d t refl e
null_good Q required_first k V1_5 d t e = is_absent_field Q required_first k d t refl e
null_good Q else_empty k v d t e = absurd (err_ok e)

found_good : (Q : List ℕ → Type 0) (f : Found) (r : Row) (v : SpecVersion) (d : Depth) (t : Tree) → GoodFound Q f → is_else r.need r.kind ≡ true → found_read f r v d ≡ Ok t → FieldOf Q r.need r.kind d t
found_good Q nothing r v d t g s e = nothing_good Q r.need r.kind v d t s e
found_good Q a_null r v d t g s e = null_good Q r.need r.kind v d t e
found_good Q (found read) r v d t g s e = let p : IsReadOf Q r.kind d t = g v r.kind d t e in (inr p.0, p.1)

-- ---- rows

-- the kinds of what stands in the object around it
abbrev is_own : Kind → Bool
is_own a_license_identifier = true
is_own (a_record classification) = true
is_own _ = false

abbrev is_own_row : Member → Kind → Bool
is_own_row (member q) k = true
is_own_row merged k = is_own k

abbrev all_read : List Row → Bool
all_read [] = true
all_read (r ∷ rs) = (sound_since r.since r.need r.kind && (is_else r.need r.kind && is_own_row r.json r.kind)) && all_read rs

reads_rows : (n : Name) → all_read (rows n) ≡ true
unfolding rows
reads_rows hash = refl
reads_rows _ = refl

abbrev GoodOwn : (Q : List ℕ → Type 0) → (Kind → Result Tree JsonFault) → Depth → Type 0
GoodOwn Q own d = (k : Kind) (t : Tree) → is_own k ≡ true → own k ≡ Ok t → IsReadOf Q k d t

member_good : (Q : List ℕ → Type 0) (m : Member) (o : Object) (own : Kind → Result Tree JsonFault) (r : Row) (v : SpecVersion) (d : Depth) (t : Tree) → GoodObject Q o → GoodOwn Q own d → is_else r.need r.kind ≡ true → is_own_row m r.kind ≡ true
    → member_read m o own r v d ≡ Ok t → FieldOf Q r.need r.kind d t
member_good Q (member q) o own r v d t g f s c e =
    let n : List ℕ = member_name o q r.old_name in
    found_good Q (o n) r v d t (g n) s (under_was (to_member n) (found_read (o n) r v d) t e)
member_good Q merged o own r v d t g f s c e = let p : IsReadOf Q r.kind d t = f r.kind t c e in (inr p.0, p.1)

row_good : (Q : List ℕ → Type 0) (b : Bool) (o : Object) (own : Kind → Result Tree JsonFault) (r : Row) (v : SpecVersion) (d : Depth) (t : Tree) → knows r.since v ≡ b → GoodObject Q o → GoodOwn Q own d
    → sound_since r.since r.need r.kind ≡ true → is_else r.need r.kind ≡ true → is_own_row r.json r.kind ≡ true
    → (if b then member_read r.json o own r v d else Ok absent) ≡ Ok t → FieldOf Q r.need r.kind d t
row_good Q true o own r v d t known g f s q c e = member_good Q r.json o own r v d t g f q c e
row_good Q false o own r v d t known g f s q c e = is_absent_field Q r.need r.kind d t (lacks_since r.since r.need r.kind v s known) e

abbrev pub AreRead : (Q : List ℕ → Type 0) → List Row → Depth → Trees → Type 0
AreRead Q rs d ts = AreFieldsAll Q ts rs × (are_shallow ts d ≡ true)

rows_good : (Q : List ℕ → Type 0) (o : Object) (own : Kind → Result Tree JsonFault) (rs : List Row) (v : SpecVersion) (d : Depth) (ts : Trees) → GoodObject Q o → GoodOwn Q own d → all_read rs ≡ true → rows_read o own rs v d ≡ Ok ts → AreRead Q rs d ts
unfolding rows_read is_shallow
rows_good Q o own [] v d ts g f s e = subst (λ (x : Trees). AreRead Q [] d x) (ok_same e) (tt, refl)
rows_good Q o own (r ∷ rs) v d ts g f s e =
    let a : ((sound_since r.since r.need r.kind && (is_else r.need r.kind && is_own_row r.json r.kind)) ≡ true) × (all_read rs ≡ true) = and_true (sound_since r.since r.need r.kind && (is_else r.need r.kind && is_own_row r.json r.kind)) (all_read rs) s in
    let b : (sound_since r.since r.need r.kind ≡ true) × ((is_else r.need r.kind && is_own_row r.json r.kind) ≡ true) = and_true (sound_since r.since r.need r.kind) (is_else r.need r.kind && is_own_row r.json r.kind) a.0 in
    let c : (is_else r.need r.kind ≡ true) × (is_own_row r.json r.kind ≡ true) = and_true (is_else r.need r.kind) (is_own_row r.json r.kind) b.1 in
    let x : (t : Tree) × (row_read o own r v d ≡ Ok t) × ((rows_read o own rs v d >>= (λ us. Ok (more t us))) ≡ Ok ts) = bind_ok (row_read o own r v d) (λ t. rows_read o own rs v d >>= (λ us. Ok (more t us))) ts e in
    let y : (us : Trees) × (rows_read o own rs v d ≡ Ok us) × (Ok (more x.0 us) ≡ Ok ts) = bind_ok (rows_read o own rs v d) (λ us. Ok (more x.0 us)) ts x.2 in
    let p : FieldOf Q r.need r.kind d x.0 = row_good Q (knows r.since v) o own r v d x.0 refl g f b.0 c.0 c.1 x.1 in
    let q : AreRead Q rs d y.0 = rows_good Q o own rs v d y.0 g f a.1 y.1 in
    subst (λ (z : Trees). AreRead Q (r ∷ rs) d z) (ok_same y.2) ((p.0, q.0), both (is_shallow x.0 d) (are_shallow y.0 d) p.1 q.1)

-- ---- records

abbrev pub IsRecordRead : (Q : List ℕ → Type 0) → Name → Depth → Tree → Type 0
IsRecordRead Q n d t = (ts : Trees) × (t ≡ fields n ts) × AreRead Q (rows n) d ts

named_good : (Q : List ℕ → Type 0) (n : Name) (r : Result Trees JsonFault) (d : Depth) (t : Tree) → under_name n r ≡ Ok t → ((ts : Trees) → r ≡ Ok ts → AreRead Q (rows n) d ts) → IsRecordRead Q n d t
named_good Q n r d t e f = let x : (ts : Trees) × (r ≡ Ok ts) × (Ok (fields n ts) ≡ Ok t) = bind_ok r (λ ts. Ok (fields n ts)) t e in (x.0, sym (ok_same x.2), f x.0 x.1)

name_field : (Q : List ℕ → Type 0) (d : Depth) (s : Tree) → IsReadOf Q a_text d s → AreRead Q (rows license_name) d (one s)
unfolding rows is_shallow
name_field Q d s h = ((inr h.0, tt), both (is_shallow s d) true h.1 refl)

id_field : (Q : List ℕ → Type 0) (d : Depth) (s : Tree) → IsReadOf Q a_text d s → AreRead Q (rows spdx_id) d (one s)
unfolding rows is_shallow
id_field Q d s h = ((inr h.0, tt), both (is_shallow s d) true h.1 refl)

name_good : (Q : List ℕ → Type 0) (f : Found) (v : SpecVersion) (d : Depth) (t : Tree) → GoodFound Q f → name_read f v d ≡ Ok t → IsRecordRead Q license_name d t
name_good Q nothing v d t g e = absurd (err_ok e)
name_good Q a_null v d t g e = absurd (err_ok e)
name_good Q (found read) v d t g e =
    let x : (s : Tree) × (under (to_member (codes "name")) (read v a_text d) ≡ Ok s) × (Ok (fields license_name (one s)) ≡ Ok t) = bind_ok (under (to_member (codes "name")) (read v a_text d)) (λ s. Ok (fields license_name (one s))) t e in
    (one x.0, sym (ok_same x.2), name_field Q d x.0 (g v a_text d x.0 (under_was (to_member (codes "name")) (read v a_text d) x.0 x.1)))

abbrev IsIdentifierRead : (Q : List ℕ → Type 0) → Depth → Tree → Type 0
IsIdentifierRead Q d t = IsRecordRead Q spdx_id d t ⊎ IsRecordRead Q license_name d t

id_good : (Q : List ℕ → Type 0) (f : Found) (o : Object) (v : SpecVersion) (d : Depth) (t : Tree) → GoodFound Q f → GoodObject Q o → id_read f o v d ≡ Ok t → IsIdentifierRead Q d t
id_good Q nothing o v d t g h e = inr (name_good Q (o (codes "name")) v d t (h (codes "name")) e)
id_good Q a_null o v d t g h e = absurd (err_ok e)
id_good Q (found read) o v d t g h e =
    let x : (s : Tree) × (under (to_member (codes "id")) (read v a_text d) ≡ Ok s) × (Ok (fields spdx_id (one s)) ≡ Ok t) = bind_ok (under (to_member (codes "id")) (read v a_text d)) (λ s. Ok (fields spdx_id (one s))) t e in
    inl (one x.0, sym (ok_same x.2), id_field Q d x.0 (g v a_text d x.0 (under_was (to_member (codes "id")) (read v a_text d) x.0 x.1)))

identifier_is : (Q : List ℕ → Type 0) (d : Depth) (t : Tree) → IsIdentifierRead Q d t → IsReadOf Q a_license_identifier d t
unfolding is_shallow
identifier_is Q d t (inl h) = subst (λ (x : Tree). IsReadOf Q a_license_identifier d x) (sym h.1) ((inl refl, h.2.0), h.2.1)
identifier_is Q d t (inr h) = subst (λ (x : Tree). IsReadOf Q a_license_identifier d x) (sym h.1) ((inr refl, h.2.0), h.2.1)

no_own_good : (Q : List ℕ → Type 0) (d : Depth) → GoodOwn Q no_own d
no_own_good Q d k t c e = absurd (err_ok e)

class_is : (Q : List ℕ → Type 0) (d : Depth) (t : Tree) → IsRecordRead Q classification d t → IsReadOf Q (a_record classification) d t
unfolding is_shallow
class_is Q d t h = subst (λ (x : Tree). IsReadOf Q (a_record classification) d x) (sym h.1) ((refl, h.2.0), h.2.1)

own_good : (Q : List ℕ → Type 0) (o : Object) (v : SpecVersion) (d : Depth) → GoodObject Q o → GoodOwn Q (own_read o v d) d
own_good Q o v d g a_license_identifier t c e = identifier_is Q d t (id_good Q (o (codes "id")) o v d t (g (codes "id")) g e)
own_good Q o v d g (a_record classification) t c e = class_is Q d t (named_good Q classification (rows_read o no_own (rows classification) v d) d t e (λ ts h. rows_good Q o no_own (rows classification) v d ts g (no_own_good Q d) (reads_rows classification) h))
own_good Q o v d g _ t c e = absurd (true≢false (sym c))

record_good : (Q : List ℕ → Type 0) (n : Name) (o : Object) (v : SpecVersion) (d : Depth) (t : Tree) → GoodObject Q o → record_denoted n o v d ≡ Ok t → IsRecordRead Q n d t
record_good Q n o v d t g e = named_good Q n (rows_read o (own_read o v d) (rows n) v d) d t e (λ ts h. rows_good Q o (own_read o v d) (rows n) v d ts g (own_good Q o v d g) (reads_rows n) h)

-- ---- objects

-- A record of a name by itself, at the depth that it gives to what it holds.
pub flat_is : (Q : List ℕ → Type 0) (k : Kind) (n : Name) (d : Depth) (t : Tree) → IsRecordRead Q n (inside n d) t → name_too_deep n d ≡ false → ((ts : Trees) → AreFieldsAll Q ts (rows n) → IsOfAll Q (fields n ts) k) → IsReadOf Q k d t
unfolding is_shallow
flat_is Q k n d t h deep f = subst (λ (x : Tree). IsReadOf Q k d x) (sym h.1) (f h.0 h.2.0, both (not (name_too_deep n d)) (are_shallow h.0 (inside n d)) (ap not deep) h.2.1)

license_choice : (Q : List ℕ → Type 0) (t : Tree) → IsOfAll Q t (a_record license) → IsOfAll Q t a_license_choice
license_choice Q (items ts) h = absurd (true≢false h.0)
license_choice Q (fields n ts) h = (inl h.0, h.1)
license_choice Q _ h = h

license_good : (Q : List ℕ → Type 0) (f : Found) (v : SpecVersion) (d : Depth) (t : Tree) → GoodFound Q f → license_read f v d ≡ Ok t → IsReadOf Q a_license_choice d t
license_good Q nothing v d t g e = absurd (err_ok e)
license_good Q a_null v d t g e = absurd (err_ok e)
license_good Q (found read) v d t g e = let p : IsReadOf Q (a_record license) d t = g v (a_record license) d t (under_was (to_member (codes "license")) (read v (a_record license) d) t e) in (license_choice Q t p.0, p.1)

choice_good : (Q : List ℕ → Type 0) (b : Bool) (o : Object) (v : SpecVersion) (d : Depth) (t : Tree) → GoodObject Q o → choice_read b o v d ≡ Ok t → IsReadOf Q a_license_choice d t
choice_good Q true o v d t g e = license_good Q (o (codes "license")) v d t (g (codes "license")) e
choice_good Q false o v d t g e = flat_is Q a_license_choice expression d t (record_good Q expression o v d t g e) refl (λ ts h. (inr refl, h))

tools_good : (Q : List ℕ → Type 0) (v : SpecVersion) (o : Object) (d : Depth) (t : Tree) → GoodObject Q o → tools_read v o d ≡ Ok t → IsReadOf Q a_tools d t
tools_good Q V1_3 o d t g e = absurd (err_ok e)
tools_good Q V1_4 o d t g e = absurd (err_ok e)
tools_good Q V1_5 o d t g e = flat_is Q a_tools tools_object d t (record_good Q tools_object o V1_5 d t g e) refl (λ ts h. (refl, h))

field_shallow : (ts : Trees) (d : Depth) → are_shallow ts d ≡ true → is_shallow (field 2 ts) d ≡ true
unfolding is_shallow
field_shallow none d h = refl
field_shallow (more a none) d h = refl
field_shallow (more a (more b none)) d h = refl
field_shallow (more a (more b (more c ts))) d h = (and_true (is_shallow c d) (are_shallow ts d) (and_true (is_shallow b d) (is_shallow c d && are_shallow ts d) (and_true (is_shallow a d) (is_shallow b d && (is_shallow c d && are_shallow ts d)) h).1).1).0

pub flow_entry : (Q : List ℕ → Type 0) (ts : Trees) (d : Depth) → AreRead Q (rows service_data) d ts → IsReadOf Q an_entry d (entry_of (fields service_data ts))
unfolding is_shallow
flow_entry Q ts d h = by (is_flow service_data ts) refl
  where
    by : (b : Bool) → is_flow service_data ts ≡ b → IsReadOf Q an_entry d (if b then fields service_data ts else field 2 ts)
    by true f = ((inr (refl, f), h.0), h.1)
    by false f = (class_entry Q (field 2 ts) (third_of Q ts h.0), field_shallow ts d h.1)

class_entry_good : (Q : List ℕ → Type 0) (o : Object) (v : SpecVersion) (d : Depth) (t : Tree) → GoodObject Q o → record_denoted classification o v d ≡ Ok t → IsReadOf Q an_entry d t
class_entry_good Q o v d t g e = flat_is Q an_entry classification d t (record_good Q classification o v d t g e) refl (λ ts h. (inl refl, h))

entry_good : (Q : List ℕ → Type 0) (v : SpecVersion) (o : Object) (d : Depth) (t : Tree) → GoodObject Q o → entry_read v o d ≡ Ok t → IsReadOf Q an_entry d t
entry_good Q V1_3 o d t g e = class_entry_good Q o V1_3 d t g e
entry_good Q V1_4 o d t g e = class_entry_good Q o V1_4 d t g e
entry_good Q V1_5 o d t g e =
    let x : (s : Tree) × (record_denoted service_data o V1_5 d ≡ Ok s) × (Ok (entry_of s) ≡ Ok t) = bind_ok (record_denoted service_data o V1_5 d) (λ s. Ok (entry_of s)) t e in
    let p : IsRecordRead Q service_data d x.0 = record_good Q service_data o V1_5 d x.0 g x.1 in
    subst (λ (y : Tree). IsReadOf Q an_entry d y) (ap entry_of (sym p.1) ∙ ok_same x.2) (flow_entry Q p.0 d p.2)

signer_good : (Q : List ℕ → Type 0) (o : Object) (v : SpecVersion) (d : Depth) (t : Tree) → GoodObject Q o → record_denoted signer o v d ≡ Ok t → IsReadOf Q a_signature d t
signer_good Q o v d t g e = flat_is Q a_signature signer d t (record_good Q signer o v d t g e) refl (λ ts h. (inr (inr refl), h))

pub chain_is : (Q : List ℕ → Type 0) (d : Depth) (s : Tree) → IsReadOf Q (a_list chain_list) d s → IsReadOf Q a_signature d (fields chain (one s))
unfolding rows is_shallow
chain_is Q d s h = ((inr (inl refl), (inr h.0, tt)), both (is_shallow s d) true h.1 refl)

pub signers_is : (Q : List ℕ → Type 0) (d : Depth) (s : Tree) → IsReadOf Q (a_list signer_list) d s → IsReadOf Q a_signature d (fields signers (one s))
unfolding rows is_shallow
signers_is Q d s h = ((inl refl, (inr h.0, tt)), both (is_shallow s d) true h.1 refl)

chain_good : (Q : List ℕ → Type 0) (f : Found) (o : Object) (v : SpecVersion) (d : Depth) (t : Tree) → GoodFound Q f → GoodObject Q o → chain_read f o v d ≡ Ok t → IsReadOf Q a_signature d t
chain_good Q nothing o v d t g h e = signer_good Q o v d t h e
chain_good Q a_null o v d t g h e = signer_good Q o v d t h e
chain_good Q (found read) o v d t g h e =
    let x : (s : Tree) × (under (to_member (codes "chain")) (read v (a_list chain_list) d) ≡ Ok s) × (Ok (fields chain (one s)) ≡ Ok t) = bind_ok (under (to_member (codes "chain")) (read v (a_list chain_list) d)) (λ s. Ok (fields chain (one s))) t e in
    subst (λ (y : Tree). IsReadOf Q a_signature d y) (ok_same x.2) (chain_is Q d x.0 (g v (a_list chain_list) d x.0 (under_was (to_member (codes "chain")) (read v (a_list chain_list) d) x.0 x.1)))

signature_good : (Q : List ℕ → Type 0) (f : Found) (o : Object) (v : SpecVersion) (d : Depth) (t : Tree) → GoodFound Q f → GoodObject Q o → signature_read f o v d ≡ Ok t → IsReadOf Q a_signature d t
signature_good Q nothing o v d t g h e = chain_good Q (o (codes "chain")) o v d t (h (codes "chain")) h e
signature_good Q a_null o v d t g h e = chain_good Q (o (codes "chain")) o v d t (h (codes "chain")) h e
signature_good Q (found read) o v d t g h e =
    let x : (s : Tree) × (under (to_member (codes "signers")) (read v (a_list signer_list) d) ≡ Ok s) × (Ok (fields signers (one s)) ≡ Ok t) = bind_ok (under (to_member (codes "signers")) (read v (a_list signer_list) d)) (λ s. Ok (fields signers (one s))) t e in
    subst (λ (y : Tree). IsReadOf Q a_signature d y) (ok_same x.2) (signers_is Q d x.0 (g v (a_list signer_list) d x.0 (under_was (to_member (codes "signers")) (read v (a_list signer_list) d) x.0 x.1)))

bill_good : (Q : List ℕ → Type 0) (o : Object) (v : SpecVersion) (d : Depth) (t : Tree) → GoodObject Q o → bill_read o v d ≡ Ok t → IsReadOf Q a_bill d t
bill_good Q o v d t g e =
    let x : (s : Tree) × (under (to_member (codes "bomFormat")) (format_read (o (codes "bomFormat")) v d) ≡ Ok s) × (record_denoted bill o v d ≡ Ok t) = bind_ok (under (to_member (codes "bomFormat")) (format_read (o (codes "bomFormat")) v d)) (λ s. record_denoted bill o v d) t e in
    flat_is Q a_bill bill d t (record_good Q bill o v d t g x.2) refl (λ ts h. (refl, h))

object_good : (Q : List ℕ → Type 0) (ms : Members) (o : Object) (v : SpecVersion) (k : Kind) (d : Depth) (t : Tree) → GoodObject Q o → is_too_deep k d ≡ false → object_read ms o v k d ≡ Ok t → IsReadOf Q k d t
object_good Q ms o v (a_record n) d t g deep e = flat_is Q (a_record n) n d t (record_good Q n o v (inside n d) t g e) deep (λ ts h. (refl, h))
object_good Q ms o v a_license_choice d t g deep e = choice_good Q (is_lone_license ms) o v d t g e
object_good Q ms o v a_license_identifier d t g deep e = identifier_is Q d t (id_good Q (o (codes "id")) o v d t (g (codes "id")) g e)
object_good Q ms o v a_tools d t g deep e = tools_good Q v o d t g e
object_good Q ms o v an_entry d t g deep e = entry_good Q v o d t g e
object_good Q ms o v a_signature d t g deep e = signature_good Q (o (codes "signers")) o v d t (g (codes "signers")) g e
object_good Q ms o v a_bill d t g deep e = bill_good Q o v d t g e
object_good Q ms o v _ d t g deep e = absurd (err_ok e)

-- ---- values

at_depth_was : (b : Bool) (r : Result Tree JsonFault) (t : Tree) → (if b then here too_deep else r) ≡ Ok t → (b ≡ false) × (r ≡ Ok t)
at_depth_was true r t e = absurd (err_ok e)
at_depth_was false r t e = (refl, e)

read_text : (Q : List ℕ → Type 0) (s : List ℕ) (k : Kind) (d : Depth) (t : Tree) → IsTextOf Q k s → as_ok Tree JsonFault (text s) ≡ Ok t → IsReadOf Q k d t
unfolding is_shallow
read_text Q s k d t h e = subst (λ (x : Tree). IsReadOf Q k d x) (ok_same e) (h, refl)

version_good : (Q : List ℕ → Type 0) (s : List ℕ) (d : Depth) (t : Tree) → version_read s ≡ Ok t → IsReadOf Q a_version d t
version_good Q s d t e = by (is_label s) refl e
  where
    by : (b : Bool) → is_label s ≡ b → (if b then Ok (text s) else here bad_spec_version) ≡ Ok t → IsReadOf Q a_version d t
    by true h f = read_text Q s a_version d t h f
    by false h f = absurd (err_ok f)

text_good : (Q : List ℕ → Type 0) (s : List ℕ) (k : Kind) (d : Depth) (t : Tree) → Q s → text_read s k ≡ Ok t → IsReadOf Q k d t
text_good Q s a_text d t u e = read_text Q s a_text d t u e
text_good Q s a_reference d t u e = read_text Q s a_reference d t u e
text_good Q s a_version d t u e = version_good Q s d t e
text_good Q s _ d t u e = absurd (err_ok e)

boolean_good : (Q : List ℕ → Type 0) (b : Bool) (k : Kind) (d : Depth) (t : Tree) → boolean_read b k ≡ Ok t → IsReadOf Q k d t
unfolding is_shallow
boolean_good Q b a_boolean d t e = subst (λ (x : Tree). IsReadOf Q a_boolean d x) (ok_same e) (tt, refl)
boolean_good Q b _ d t e = absurd (err_ok e)

number_good : (Q : List ℕ → Type 0) (n : Num) (d : Depth) (t : Tree) → number_read n ≡ Ok t → IsReadOf Q a_number d t
unfolding is_shallow
number_good Q (unsigned n) d t e = by (nat_lt n (2 ^ 32)) refl e
  where
    by : (b : Bool) → nat_lt n (2 ^ 32) ≡ b → (if b then Ok (number n) else here out_of_range) ≡ Ok t → IsReadOf Q a_number d t
    by true h f = subst (λ (x : Tree). IsReadOf Q a_number d x) (ok_same f) (true_lt n (2 ^ 32) h, refl)
    by false h f = absurd (err_ok f)
number_good Q (negative z) d t e = absurd (err_ok e)
number_good Q (float x) d t e = absurd (err_ok e)

integer_good : (Q : List ℕ → Type 0) (n : Num) (k : Kind) (d : Depth) (t : Tree) → integer_read n k ≡ Ok t → IsReadOf Q k d t
integer_good Q n a_number d t e = number_good Q n d t e
integer_good Q n _ d t e = absurd (err_ok e)

abbrev pub AllRead : (Q : List ℕ → Type 0) → Kind → Depth → Trees → Type 0
AllRead Q k d ts = AreOfAll Q ts k × (are_shallow ts d ≡ true)

gathered_good : (Q : List ℕ → Type 0) (k : Kind) (v : SpecVersion) (read : Kind → Result Trees JsonFault) (d : Depth) (t : Tree) → ((i : Kind) (ts : Trees) → read i ≡ Ok ts → AllRead Q i d ts) → array_read (item_kind k v) read k ≡ Ok t → IsReadOf Q k d t
unfolding is_shallow list
gathered_good Q (a_list l) v read d t f e =
    let x : (ts : Trees) × (read (list l).kind ≡ Ok ts) × (Ok (items ts) ≡ Ok t) = bind_ok (read (list l).kind) (λ ts. Ok (items ts)) t e in
    let p : AllRead Q (list l).kind d x.0 = f (list l).kind x.0 x.1 in
    subst (λ (y : Tree). IsReadOf Q (a_list l) d y) (ok_same x.2) ((tt, p.0), p.1)
gathered_good Q a_tools v read d t f e =
    let x : (ts : Trees) × (read (list tool_list).kind ≡ Ok ts) × (Ok (items ts) ≡ Ok t) = bind_ok (read (list tool_list).kind) (λ ts. Ok (items ts)) t e in
    let p : AllRead Q (list tool_list).kind d x.0 = f (list tool_list).kind x.0 x.1 in
    subst (λ (y : Tree). IsReadOf Q a_tools d y) (ok_same x.2) ((tt, p.0), p.1)
gathered_good Q a_data v read d t f e =
    let x : (ts : Trees) × (read an_entry ≡ Ok ts) × (Ok (items ts) ≡ Ok t) = bind_ok (read an_entry) (λ ts. Ok (items ts)) t e in
    let p : AllRead Q an_entry d x.0 = f an_entry x.0 x.1 in
    subst (λ (y : Tree). IsReadOf Q a_data d y) (ok_same x.2) ((tt, p.0), p.1)
gathered_good Q a_signature v read d t f e =
    let x : (ts : Trees) × (read (a_record signer) ≡ Ok ts) × (Ok (fields signers (one (items ts))) ≡ Ok t) = bind_ok (read (a_record signer)) (λ ts. Ok (fields signers (one (items ts)))) t e in
    let p : AllRead Q (a_record signer) d x.0 = f (a_record signer) x.0 x.1 in
    subst (λ (y : Tree). IsReadOf Q a_signature d y) (ok_same x.2) (signers_is Q d (items x.0) ((tt, p.0), p.1))
gathered_good Q _ v read d t f e = absurd (err_ok e)

match_good : (Q : List ℕ → Type 0) (o : Ordering) (a b : Found) → GoodFound Q a → GoodFound Q b → GoodFound Q (match_ordering o a b a)
match_good Q Less a b p q = p
match_good Q Equal a b p q = q
match_good Q Greater a b p q = p

as_found_good : (Q : List ℕ → Type 0) (x : Data) (read : ValueReading) → Good Q read → GoodFound Q (as_found x read)
as_found_good Q json.null read g = tt
as_found_good Q (json.boolean b) read g = g
as_found_good Q (json.number n) read g = g
as_found_good Q (json.string s) read g = g
as_found_good Q (json.array xs) read g = g
as_found_good Q (json.object ms) read g = g

mutual
  unfolding jread is_shallow

  pub jread_of : (Q : List ℕ → Type 0) (x : Data) → AreTexts Q x → (v : SpecVersion) (k : Kind) (d : Depth) (t : Tree) → jread x v k d ≡ Ok t → IsReadOf Q k d t
  jread_of Q json.null u v k d t e = absurd (err_ok (at_depth_was (is_too_deep k d) (here wrong_kind) t e).1)
  jread_of Q (json.boolean b) u v k d t e = boolean_good Q b k d t (at_depth_was (is_too_deep k d) (boolean_read b k) t e).1
  jread_of Q (json.number n) u v k d t e = integer_good Q n k d t (at_depth_was (is_too_deep k d) (integer_read n k) t e).1
  jread_of Q (json.string s) u v k d t e = text_good Q s k d t u (at_depth_was (is_too_deep k d) (text_read s k) t e).1
  jread_of Q (json.array xs) u v k d t e =
      gathered_good Q k v (λ i. array_items_read xs v i d 0) d t (λ i ts h. array_items_read_of Q xs u v i d 0 ts h) (at_depth_was (is_too_deep k d) (array_read (item_kind k v) (λ i. array_items_read xs v i d 0) k) t e).1
  jread_of Q (json.object ms) u v k d t e =
      let p : (is_too_deep k d ≡ false) × (object_read ms (seen ms) v k d ≡ Ok t) = at_depth_was (is_too_deep k d) (object_read ms (seen ms) v k d) t e in
      object_good Q ms (seen ms) v k d t (seen_of Q ms u) p.0 p.1

  array_items_read_of : (Q : List ℕ → Type 0) (xs : Items) → AreTextsIn Q xs → (v : SpecVersion) (k : Kind) (d : Depth) (n : ℕ) (ts : Trees) → array_items_read xs v k d n ≡ Ok ts → AllRead Q k d ts
  array_items_read_of Q no_items u v k d n ts e = subst (λ (y : Trees). AllRead Q k d y) (ok_same e) (tt, refl)
  array_items_read_of Q (item x xs) u v k d n ts e =
      let a : (t : Tree) × (under (to_item n) (jread x v k d) ≡ Ok t) × ((array_items_read xs v k d (suc n) >>= (λ us. Ok (more t us))) ≡ Ok ts) = bind_ok (under (to_item n) (jread x v k d)) (λ t. array_items_read xs v k d (suc n) >>= (λ us. Ok (more t us))) ts e in
      let b : (us : Trees) × (array_items_read xs v k d (suc n) ≡ Ok us) × (Ok (more a.0 us) ≡ Ok ts) = bind_ok (array_items_read xs v k d (suc n)) (λ us. Ok (more a.0 us)) ts a.2 in
      let p : IsReadOf Q k d a.0 = jread_of Q x u.0 v k d a.0 (under_was (to_item n) (jread x v k d) a.0 a.1) in
      let q : AllRead Q k d b.0 = array_items_read_of Q xs u.1 v k d (suc n) b.0 b.1 in
      subst (λ (y : Trees). AllRead Q k d y) (ok_same b.2) ((p.0, q.0), both (is_shallow a.0 d) (are_shallow b.0 d) p.1 q.1)

  seen_of : (Q : List ℕ → Type 0) (ms : Members) → AreTextsOf Q ms → (q : List ℕ) → GoodFound Q (seen ms q)
  seen_of Q no_members u q = tt
  seen_of Q (json.member l x ms) u q = match_good Q (slice_cmp nat_cmp q l) (seen ms q) (as_found x (jread x)) (seen_of Q ms u.1 q) (as_found_good Q x (jread x) (λ v k d t e. jread_of Q x u.0 v k d t e))

abbrev float_or : Option (List Step) → Result Tree JsonFault → Result Tree JsonFault
float_or None r = r
float_or (Some p) r = Err (record { path = p; cause = Rattle.cdx_schema.specs.Faults.is_float })

no_float_was : (o : Option (List Step)) (r : Result Tree JsonFault) (b : Tree) → float_or o r ≡ Ok b → r ≡ Ok b
no_float_was None r b h = h
no_float_was (Some p) r b h = absurd (err_ok h)

-- A bill that a JSON value denotes is of its kind and shallow.
pub json_bill : (Q : List ℕ → Type 0) (x : Data) (v : SpecVersion) (b : Tree) → AreTexts Q x → json_denotes x v ≡ Ok b → IsReadOf Q a_bill top b
json_bill Q x v b u e = jread_of Q x u v a_bill top b (no_float_was (first_float x) (jread x v a_bill top) b e)
