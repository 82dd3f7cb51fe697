-- Licenses: which identifier and which choice an object is, and how each is kept and written.
use Rattle.std.proofs.Common.{◌≡◌, ℕ, Bool, true, false, nat_eq, List, [], ◌∷◌, length, Some, None, Ordering, Less, Equal, Greater, Result, Ok, codes, refl, sym, ap, ◌∙◌, subst, arith}
use Rattle.std.proofs.lemmas.Bool.{eqb-true}
use Rattle.std.proofs.lemmas.Slice.Eq.{bytes_eq-Decides}
use Rattle.std.proofs.lemmas.Map.Text.{is_eq-slice_cmp}
use Rattle.std.specs.Str.{bytes_eq}
use Rattle.std.specs.Ordering.{nat_cmp, match_ordering, is_eq}
use Rattle.std.specs.Cmp.Lexicographic.{slice_cmp}
use Rattle.serde_json.specs.Data.{Data, Members, no_members, object}
use Rattle.serde_json.specs.Data as json
use Rattle.serde_json.specs.Find.{as_object}
use Rattle.cdx_models.specs.declared.bom.SpecVersion.{SpecVersion}
use Rattle.cdx_models.specs.declared.bom.SpecVersion.TheVariants.{V1_3, V1_4, V1_5}
use Rattle.cdx_models.specs.declared.errors.JsonKind.TheVariants.{WrongKind}
use Rattle.cdx_models.specs.Trees.{Name, license, expression, spdx_id, license_name, Tree, text, fields, Trees, one}
use Rattle.cdx_license.specs.Records.{identifier_tree}
use Rattle.cdx_license.specs.declared.license.LicenseIdentifier.{LicenseIdentifier}
use Rattle.cdx_license.specs.declared.license.LicenseIdentifier.TheVariants as identifier
use Rattle.cdx_schema.specs.Kinds.{a_text, a_record, a_license_choice, a_license_identifier, required}
use Rattle.cdx_schema.specs.Table.{rows}
use Rattle.cdx_schema.specs.Depth.{Depth}
use Rattle.cdx_schema.specs.Results.{◌>>=◌}
use Rattle.cdx_schema.specs.Faults.{to_member, missing, JsonFault, under, here}
use Rattle.cdx_schema.specs.JsonReading.{jread, seen, as_found, ValueReading, Object, Found, nothing, a_null, found, id_read, name_read, choice_read, license_read, is_lone_license}
use Rattle.cdx_schema.specs.JsonSpelling.{jspell}
use Rattle.cdx_schema.specs.Keeping.{kept, keep}
use Rattle.cdx_models.specs.declared.errors.JsonReadError.{JsonReadError}
use Rattle.cdx_models.specs.declared.errors.JsonReadError.TheVariants.{JsonElementReadError, BomError, Memory}
use Rattle.cdx_json.specs.declared.seen_member.SeenMember.{SeenMember}
use Rattle.cdx_json.specs.SeenOf.{seen_of}
use Rattle.cdx_json.specs.Gives.{Fails, Gives, IsFaultAt, is_member_there}
use Rattle.cdx_json.specs.ByRows.{read_if_found, member_of, identifier_of, choice_of, by_rows}
use Rattle.cdx_json.specs.KeptRows.{put_kept, put_own}
use Rattle.cdx_json.proofs.ByRowsLaws.{by_rows_are}
use Rattle.cdx_json.proofs.Rows.{fails_here}

-- ---- an identifier

abbrev pub as_identifier : Name → Tree → Result Tree JsonFault
as_identifier n t = Ok (fields n (one t))

pub reads_id : (o : Object) (b : Bool) (v : SpecVersion) (d : Depth) → b ≡ is_member_there (o (codes "id")) → b ≡ true → identifier_of o v d ≡ (member_of o (codes "id") required a_text v d >>= as_identifier spdx_id)
unfolding identifier_of member_of
reads_id o b v d is e = by (o (codes "id")) (sym is ∙ e)
  where
    by : (f : Found) → is_member_there f ≡ true → id_read f o v d ≡ (under (to_member (codes "id")) (read_if_found f required a_text v d) >>= as_identifier spdx_id)
    by nothing h = absurd cc
    by a_null h = refl
    by (found read) h = refl

no_id : (f : Found) (o : Object) (v : SpecVersion) (d : Depth) → is_member_there f ≡ false → id_read f o v d ≡ name_read (o (codes "name")) v d
no_id nothing o v d h = refl
no_id a_null o v d h = absurd cc
no_id (found read) o v d h = absurd cc

pub reads_name : (o : Object) (b c : Bool) (v : SpecVersion) (d : Depth) → b ≡ is_member_there (o (codes "id")) → b ≡ false → c ≡ is_member_there (o (codes "name")) → c ≡ true → identifier_of o v d ≡ (member_of o (codes "name") required a_text v d >>= as_identifier license_name)
unfolding identifier_of member_of
reads_name o b c v d is e at h = no_id (o (codes "id")) o v d (sym is ∙ e) ∙ by (o (codes "name")) (sym at ∙ h)
  where
    by : (f : Found) → is_member_there f ≡ true → name_read f v d ≡ (under (to_member (codes "name")) (read_if_found f required a_text v d) >>= as_identifier license_name)
    by nothing h = absurd cc
    by a_null h = refl
    by (found read) h = refl

no_name : (f : Found) (v : SpecVersion) (d : Depth) → is_member_there f ≡ false → name_read f v d ≡ under (to_member (codes "id")) (here missing)
no_name nothing v d h = refl
no_name a_null v d h = absurd cc
no_name (found read) v d h = absurd cc

pub reads_none : (o : Object) (b c : Bool) (v : SpecVersion) (d : Depth) → b ≡ is_member_there (o (codes "id")) → b ≡ false → c ≡ is_member_there (o (codes "name")) → c ≡ false → identifier_of o v d ≡ under (to_member (codes "id")) (here missing)
unfolding identifier_of
reads_none o b c v d is e at h = no_id (o (codes "id")) o v d (sym is ∙ e) ∙ no_name (o (codes "name")) v d (sym at ∙ h)

identifier_is : (x : Data) (ms : Members) (v : SpecVersion) (d : Depth) → Some ms ≡ as_object x → jread x v a_license_identifier d ≡ identifier_of (seen ms) v d
unfolding jread identifier_of
identifier_is json.null ms v d e = absurd cc
identifier_is (json.boolean b) ms v d e = absurd cc
identifier_is (json.number k) ms v d e = absurd cc
identifier_is (json.string s) ms v d e = absurd cc
identifier_is (json.array ds) ms v d e = absurd cc
identifier_is (json.object ls) ms v d e = let same : ls ≡ ms = cc in ap (λ q. identifier_of (seen q) v d) same

identifier_wrong : (x : Data) (v : SpecVersion) (d : Depth) → None ≡ as_object x → jread x v a_license_identifier d ≡ here WrongKind
unfolding jread
identifier_wrong json.null v d e = refl
identifier_wrong (json.boolean b) v d e = refl
identifier_wrong (json.number k) v d e = refl
identifier_wrong (json.string s) v d e = refl
identifier_wrong (json.array ds) v d e = refl
identifier_wrong (json.object ls) v d e = absurd cc

pub identifier_err : (e : JsonReadError) (x : Data) (v : SpecVersion) (d : Depth) → None ≡ as_object x → IsFaultAt [] WrongKind e → Fails e (jread x v a_license_identifier d)
identifier_err e x v d is at = fails_here e WrongKind (jread x v a_license_identifier d) at (identifier_wrong x v d is)

pub identifier_gives : {X : Type 0} (see : X → Tree) (r : Result X JsonReadError) (x : Data) (ms : Members) (v : SpecVersion) (d : Depth) → Some ms ≡ as_object x → Gives see r (identifier_of (seen ms) v d) → Gives see r (jread x v a_license_identifier d)
identifier_gives see r x ms v d is h = subst (Gives see r) (sym (identifier_is x ms v d is)) h

pub spdx_kept : (w l : SpecVersion) (t : Tree) → fields spdx_id (one (kept w l t a_text)) ≡ kept w l (fields spdx_id (one t)) a_license_identifier
unfolding kept rows
spdx_kept V1_3 l t = refl
spdx_kept V1_4 l t = refl
spdx_kept V1_5 l t = refl

pub name_kept : (w l : SpecVersion) (t : Tree) → fields license_name (one (kept w l t a_text)) ≡ kept w l (fields license_name (one t)) a_license_identifier
unfolding kept rows
name_kept V1_3 l t = refl
name_kept V1_4 l t = refl
name_kept V1_5 l t = refl

pub spdx_put : (w : SpecVersion) (s : List ℕ) (ms : Members) → put_kept (codes "id") a_text (text s) w ms ≡ put_own a_license_identifier (fields spdx_id (one (text s))) w ms
unfolding put_kept put_own jspell kept rows
spdx_put V1_3 s ms = refl
spdx_put V1_4 s ms = refl
spdx_put V1_5 s ms = refl

pub name_put : (w : SpecVersion) (s : List ℕ) (ms : Members) → put_kept (codes "name") a_text (text s) w ms ≡ put_own a_license_identifier (fields license_name (one (text s))) w ms
unfolding put_kept put_own jspell kept rows
name_put V1_3 s ms = refl
name_put V1_4 s ms = refl
name_put V1_5 s ms = refl

spdx_object : (w : SpecVersion) (s : List ℕ) → object (put_own a_license_identifier (fields spdx_id (one (text s))) w no_members) ≡ jspell (keep w (fields spdx_id (one (text s))) a_license_identifier) w a_license_identifier
unfolding put_own jspell kept rows
spdx_object V1_3 s = refl
spdx_object V1_4 s = refl
spdx_object V1_5 s = refl

name_object : (w : SpecVersion) (s : List ℕ) → object (put_own a_license_identifier (fields license_name (one (text s))) w no_members) ≡ jspell (keep w (fields license_name (one (text s))) a_license_identifier) w a_license_identifier
unfolding put_own jspell kept rows
name_object V1_3 s = refl
name_object V1_4 s = refl
name_object V1_5 s = refl

pub identifier_object : (w : SpecVersion) (x : LicenseIdentifier) → object (put_own a_license_identifier (identifier_tree x) w no_members) ≡ jspell (keep w (identifier_tree x) a_license_identifier) w a_license_identifier
identifier_object w (identifier.SpdxId s) = spdx_object w s
identifier_object w (identifier.Name s) = name_object w s

-- ---- one of several licenses

flipped : (a b : List ℕ) → bytes_eq a b ≡ bytes_eq b a
flipped a b = by (bytes_eq a b) (bytes_eq b a) refl refl
  where
    by : (p q : Bool) → bytes_eq a b ≡ p → bytes_eq b a ≡ q → p ≡ q
    by true true h k = refl
    by false false h k = refl
    by true false h k = sym ((bytes_eq-Decides b a).1 (sym ((bytes_eq-Decides a b).0 h))) ∙ k
    by false true h k = sym h ∙ (bytes_eq-Decides a b).1 (sym ((bytes_eq-Decides b a).0 k))

found_stands : (x : Data) (read : ValueReading) → is_member_there (as_found x read) ≡ true
found_stands json.null read = refl
found_stands (json.boolean b) read = refl
found_stands (json.number n) read = refl
found_stands (json.string s) read = refl
found_stands (json.array xs) read = refl
found_stands (json.object ms) read = refl

seen_alone : (l : List ℕ) (x : Data) (n : List ℕ) → is_member_there (seen (json.member l x no_members) n) ≡ bytes_eq l n
unfolding jread
seen_alone l x n = by (slice_cmp nat_cmp n l) (jread x) ∙ is_eq-slice_cmp n l ∙ flipped n l
  where
    by : (o : Ordering) (read : ValueReading) → is_member_there (match_ordering o nothing (as_found x read) nothing) ≡ is_eq o
    by Less read = refl
    by Equal read = found_stands x read
    by Greater read = refl

pub lone_when : (es : List SeenMember) (n : ℕ) (b : Bool) → n ≡ length es → n ≡ 1 → b ≡ is_member_there (seen (seen_of es) (codes "license")) → b ≡ is_lone_license (seen_of es)
lone_when [] n b l e h = absurd (omega arith)
lone_when (x ∷ []) n b l e h = h ∙ seen_alone _ _ (codes "license")
lone_when (x ∷ y ∷ es) n b l e h = absurd (omega arith)

unequal : (n : ℕ) (t : Bool) → (n ≡ 1 → ⊥) → nat_eq n 1 ≡ t → t ≡ false
unequal n true h e = absurd (h (eqb-true n 1 e))
unequal n false h e = refl

pub lone_unless : (es : List SeenMember) (n : ℕ) (b : Bool) → n ≡ length es → (n ≡ 1 → ⊥) → b ≡ nat_eq n 1 → b ≡ is_lone_license (seen_of es)
lone_unless [] n b l e h = h ∙ unequal n (nat_eq n 1) e refl
lone_unless (x ∷ []) n b l e h = absurd (e l)
lone_unless (x ∷ y ∷ es) n b l e h = h ∙ unequal n (nat_eq n 1) e refl

lone_stands : (ms : Members) → is_lone_license ms ≡ true → is_member_there (seen ms (codes "license")) ≡ true
lone_stands no_members h = absurd cc
lone_stands (json.member l e no_members) h = seen_alone l e (codes "license") ∙ h
lone_stands (json.member l e (json.member m f ms)) h = absurd cc

pub reads_license : (ms : Members) (b : Bool) (v : SpecVersion) (d : Depth) → b ≡ is_lone_license ms → b ≡ true → choice_of ms v d ≡ member_of (seen ms) (codes "license") required (a_record license) v d
unfolding choice_of member_of
reads_license ms b v d is e = ap (λ c. choice_read c (seen ms) v d) (sym is ∙ e) ∙ by (seen ms (codes "license")) (lone_stands ms (sym is ∙ e))
  where
    by : (f : Found) → is_member_there f ≡ true → license_read f v d ≡ under (to_member (codes "license")) (read_if_found f required (a_record license) v d)
    by nothing h = absurd cc
    by a_null h = refl
    by (found read) h = refl

pub reads_expression : (ms : Members) (b : Bool) (v : SpecVersion) (d : Depth) → b ≡ is_lone_license ms → b ≡ false → choice_of ms v d ≡ by_rows expression (seen ms) v d
unfolding choice_of
reads_expression ms b v d is e = ap (λ c. choice_read c (seen ms) v d) (sym is ∙ e) ∙ sym (by_rows_are expression (seen ms) v d)

choice_is : (x : Data) (ms : Members) (v : SpecVersion) (d : Depth) → Some ms ≡ as_object x → jread x v a_license_choice d ≡ choice_of ms v d
unfolding jread choice_of
choice_is json.null ms v d e = absurd cc
choice_is (json.boolean b) ms v d e = absurd cc
choice_is (json.number k) ms v d e = absurd cc
choice_is (json.string s) ms v d e = absurd cc
choice_is (json.array ds) ms v d e = absurd cc
choice_is (json.object ls) ms v d e = let same : ls ≡ ms = cc in ap (λ q. choice_of q v d) same

choice_wrong : (x : Data) (v : SpecVersion) (d : Depth) → None ≡ as_object x → jread x v a_license_choice d ≡ here WrongKind
unfolding jread
choice_wrong json.null v d e = refl
choice_wrong (json.boolean b) v d e = refl
choice_wrong (json.number k) v d e = refl
choice_wrong (json.string s) v d e = refl
choice_wrong (json.array ds) v d e = refl
choice_wrong (json.object ls) v d e = absurd cc

pub choice_err : (e : JsonReadError) (x : Data) (v : SpecVersion) (d : Depth) → None ≡ as_object x → IsFaultAt [] WrongKind e → Fails e (jread x v a_license_choice d)
choice_err e x v d is at = fails_here e WrongKind (jread x v a_license_choice d) at (choice_wrong x v d is)

pub choice_gives : {X : Type 0} (see : X → Tree) (r : Result X JsonReadError) (x : Data) (ms : Members) (v : SpecVersion) (d : Depth) → Some ms ≡ as_object x → Gives see r (choice_of ms v d) → Gives see r (jread x v a_license_choice d)
choice_gives see r x ms v d is h = subst (Gives see r) (sym (choice_is x ms v d is)) h

pub choice_kept : (w l : SpecVersion) (n : Name) (ts : Trees) → kept w l (fields n ts) (a_record n) ≡ kept w l (fields n ts) a_license_choice
unfolding kept
choice_kept V1_3 l n ts = refl
choice_kept V1_4 l n ts = refl
choice_kept V1_5 l n ts = refl

pub license_spelled : (w : SpecVersion) (ts : Trees) → object (put_kept (codes "license") (a_record license) (fields license ts) w no_members) ≡ jspell (keep w (fields license ts) a_license_choice) w a_license_choice
unfolding put_kept jspell kept
license_spelled V1_3 ts = refl
license_spelled V1_4 ts = refl
license_spelled V1_5 ts = refl

pub expression_spelled : (w : SpecVersion) (ts : Trees) → jspell (keep w (fields expression ts) (a_record expression)) w (a_record expression) ≡ jspell (keep w (fields expression ts) a_license_choice) w a_license_choice
unfolding jspell kept
expression_spelled V1_3 ts = refl
expression_spelled V1_4 ts = refl
expression_spelled V1_5 ts = refl

fails_missing : (e : JsonReadError) (n : List ℕ) → IsFaultAt (to_member n ∷ []) missing e → Fails e (under {A = Tree} (to_member n) (here missing))
fails_missing (Memory m) n at = tt
fails_missing (BomError b) n at = absurd at
fails_missing (JsonElementReadError path what) n at = rw (at.0, at.1) refl

pub lacks_id : (e : JsonReadError) (o : Object) (b c : Bool) (v : SpecVersion) (d : Depth) → b ≡ is_member_there (o (codes "id")) → b ≡ false → c ≡ is_member_there (o (codes "name")) → c ≡ false → IsFaultAt (to_member (codes "id") ∷ []) missing e → Fails e (identifier_of o v d)
lacks_id e o b c v d is f at h fault = subst (Fails e) (sym (reads_none o b c v d is f at h)) (fails_missing e (codes "id") fault)
