-- What the writers build is the spelling of what is kept.
use Rattle.std.proofs.Common.{◌≡◌, Bool, true, false, ℕ, ◌≤◌, IfOk, if◌then◌else◌, None, Result, Ok, Err, OnOk, List, [], ◌∷◌, length, map, take, Vec, Global, refl, sym, ap, ◌∙◌, arith}
use Rattle.std.proofs.lemmas.List.{take_all}
use Rattle.serde_json.specs.Data.{Data, put, item, array, Members, no_members, object}
use Rattle.serde_json.specs.View.{items_of}
use Rattle.cdx_models.specs.declared.bom.SpecVersion.{SpecVersion}
use Rattle.cdx_models.specs.declared.bom.SpecVersion.TheVariants.{V1_3, V1_4, V1_5}
use Rattle.cdx_models.specs.Versions.{knows}
use Rattle.cdx_models.specs.Trees.{Name, Tree, absent, text, number, boolean, items, fields, fields_of, more, trees, each, list_tree, present, is_absent}
use Rattle.cdx_schema.specs.Kinds.{Lists, Kind, a_text, a_boolean, a_number, a_version, a_list, a_record, a_reference, a_license_choice, a_license_identifier, a_tools, a_data, an_entry, a_signature, a_bill}
use Rattle.cdx_schema.specs.Table.{rows, list}
use Rattle.cdx_schema.specs.Keeping.{kept, keep, items_kept}
use Rattle.cdx_schema.specs.JsonSpelling.{jspell, heading, items_spelled}
use Rattle.cdx_json.specs.ByRows.{json_kind, IsJsonListOf}
use Rattle.cdx_json.specs.KeptRows.{put_kept, put_filled, late_put, late_kept, rows_put}
use Rattle.cdx_json.specs.Spellings.{spelling_data, spelling_members}
use Rattle.cdx_json.specs.declared.spelling.Spelling.{Spelling, Array, Object}
use Rattle.cdx_json.proofs.KeptRowsLaws.{record_put}
use Rattle.cdx_json.proofs.Setting.{Entry, spelling_data-Array, spelling_data-Object}

-- ---- a reference is kept and written as a text

reference_kept : (w l : SpecVersion) (t : Tree) → kept w l t a_reference ≡ kept w l t a_text
unfolding kept
reference_kept w l absent = refl
reference_kept w l (text s) = refl
reference_kept w l (number n) = refl
reference_kept w l (boolean b) = refl
reference_kept w l (items ts) = refl
reference_kept V1_3 l (fields n ts) = refl
reference_kept V1_4 l (fields n ts) = refl
reference_kept V1_5 l (fields n ts) = refl

reference_spelled : (t : Tree) (w : SpecVersion) → jspell t w a_reference ≡ jspell t w a_text
unfolding jspell
reference_spelled absent w = refl
reference_spelled (text s) w = refl
reference_spelled (number n) w = refl
reference_spelled (boolean b) w = refl
reference_spelled (items ts) w = refl
reference_spelled (fields n ts) w = refl

-- what holds of texts and references alike holds of alike kinds
alike : {X : Type 0} (f : Kind → X) → f a_reference ≡ f a_text → (k m : Kind) → json_kind k ≡ json_kind m → f k ≡ f m
alike f h k m e = at_plain f h k ∙ ap f e ∙ sym (at_plain f h m)
  where
    at_plain : {X : Type 0} (f : Kind → X) → f a_reference ≡ f a_text → (k : Kind) → f k ≡ f (json_kind k)
    at_plain f h a_reference = h
    at_plain f h a_text = refl
    at_plain f h a_boolean = refl
    at_plain f h a_number = refl
    at_plain f h a_version = refl
    at_plain f h (a_list l) = refl
    at_plain f h (a_record n) = refl
    at_plain f h a_license_choice = refl
    at_plain f h a_license_identifier = refl
    at_plain f h a_tools = refl
    at_plain f h a_data = refl
    at_plain f h an_entry = refl
    at_plain f h a_signature = refl
    at_plain f h a_bill = refl

-- ---- lists

abbrev pub spelled : {A : Type 0} → (A → Tree) → Kind → SpecVersion → A → Data
spelled f k w x = jspell (keep w (f x) k) w k

alike_spelled : (k m : Kind) (w : SpecVersion) (t : Tree) → json_kind k ≡ json_kind m → jspell (keep w t k) w k ≡ jspell (keep w t m) w m
alike_spelled k m w t e = alike (λ q. jspell (keep w t q) w q) (ap (λ u. jspell u w a_reference) (reference_kept w w t) ∙ reference_spelled (keep w t a_text) w) k m e

items_each : {A : Type 0} (f : A → Tree) (k m : Kind) (w : SpecVersion) (xs : List A) → json_kind m ≡ json_kind k → items_of (map (spelled f k w) xs) ≡ items_spelled (items_kept w w (each f xs) m) w m
unfolding jspell kept
items_each f k m w [] e = refl
items_each f k m w (x ∷ xs) e = ap (λ y. item y (items_of (map (spelled f k w) xs))) (sym (alike_spelled m k w (f x) e)) ∙ ap (item (spelled f m w x)) (items_each f k m w xs e)

-- a list whose items are spelled, at the end of a loop over it
pub list_spelled : {A : Type 0} (f : A → Tree) (k : Kind) (l : Lists) (w : SpecVersion) (v : Vec Spelling Global) (xs ys : List A) (i : ℕ) → IsJsonListOf k l → xs ≡ ys → length xs ≤ i → map spelling_data v.items ≡ map (spelled f k w) (take i xs)
    → spelling_data (Array v) ≡ jspell (keep w (list_tree f ys) (a_list l)) w (a_list l)
unfolding jspell kept
list_spelled f k l w v xs ys i is same all e =
    spelling_data-Array v ∙ ap (λ ds. array (items_of ds)) (e ∙ ap (map (spelled f k w)) (take_all i xs all ∙ same)) ∙ ap array (items_each f k (list l).kind w ys is)

kept_each : {A : Type 0} (f : A → Tree) (k m : Kind) (w l : SpecVersion) (xs : List A) → json_kind m ≡ json_kind k → trees (map (λ x. kept w l (f x) k) xs) ≡ items_kept w l (each f xs) m
unfolding kept
kept_each f k m w l [] e = refl
kept_each f k m w l (x ∷ xs) e =
    ap (λ t. more t (trees (map (λ y. kept w l (f y) k) xs))) (sym (alike (λ q. kept w l (f x) q) (reference_kept w l (f x)) m k e)) ∙ ap (more (kept w l (f x) m)) (kept_each f k m w l xs e)

-- a list whose items are kept, at the end of a loop over it
pub list_kept : {A : Type 0} (f : A → Tree) (k : Kind) (i : Lists) (w l : SpecVersion) (new xs ys : List A) (n : ℕ) → IsJsonListOf k i → xs ≡ ys → length xs ≤ n → map f new ≡ map (λ x. kept w l (f x) k) (take n xs)
    → list_tree f new ≡ kept w l (list_tree f ys) (a_list i)
unfolding kept
list_kept f k i w l new xs ys n is same all e =
    ap (λ ts. items (trees ts)) (e ∙ ap (map (λ x. kept w l (f x) k)) (take_all n xs all ∙ same)) ∙ ap items (kept_each f k (list i).kind w l ys is)

-- ---- records

pub record_spelled : (m : Vec Entry Global) (n : Name) (w : SpecVersion) (t : Tree) → t ≡ fields n (fields_of t) → heading n ≡ no_members
    → spelling_members m.items ≡ rows_put (fields_of t) w (rows n) no_members → spelling_data (Object m) ≡ jspell (keep w t (a_record n)) w (a_record n)
record_spelled m n w t is json_kind e = spelling_data-Object m ∙ ap object e ∙ record_put n w t is json_kind

-- ---- a field that is there

put_when : (name : List ℕ) (k : Kind) (t : Tree) (w : SpecVersion) (ms : Members) → is_absent (keep w t k) ≡ false → put_kept name k t w ms ≡ put name (jspell (keep w t k) w k) ms
unfolding put_kept
put_when name k t w ms e = ap (λ b. if b then ms else put name (jspell (keep w t k) w k) ms) e

pub on_ok : {A E P Q : Type 0} (r : Result A E) → (P → Q) → OnOk r P → OnOk r Q
on_ok (Ok x) f h = f h
on_ok (Err e) f h = tt

pub field_put : {A E : Type 0} (r : Result A E) (name : List ℕ) (k : Kind) (t : Tree) (w : SpecVersion) (x : Data) (ms new : Members) → is_absent (keep w t k) ≡ false → x ≡ jspell (keep w t k) w k → OnOk r (new ≡ put name x ms) → OnOk r (new ≡ put_kept name k t w ms)
field_put r name k t w x ms new e same h = on_ok r (λ h. h ∙ ap (λ y. put name y ms) same ∙ sym (put_when name k t w ms e)) h

pub nothing_put : {A : Type 0} (name : List ℕ) (k : Kind) (f : A → Tree) (w : SpecVersion) (ms : Members) → ms ≡ put_kept name k (present f None) w ms
unfolding put_kept kept
nothing_put name k f w ms = refl

-- ---- a list

pub list_there : {A : Type 0} (f : A → Tree) (xs : List A) (l : Lists) (w : SpecVersion) → is_absent (keep w (list_tree f xs) (a_list l)) ≡ false
unfolding kept
list_there f xs l w = refl

empty_put : {A : Type 0} (name : List ℕ) (f : A → Tree) (l : Lists) (w : SpecVersion) (xs : List A) (ms : Members) → length xs ≡ 0 → ms ≡ put_filled name (a_list l) (list_tree f xs) w ms
unfolding put_filled kept
empty_put name f l w [] ms h = refl
empty_put name f l w (x ∷ xs) ms h = absurd (omega arith)

pub list_left_out : {A : Type 0} (name : List ℕ) (f : A → Tree) (l : Lists) (w : SpecVersion) (xs : List A) (ms : Members) (n : ℕ) → n ≡ length xs → n ≡ 0 → ms ≡ put_filled name (a_list l) (list_tree f xs) w ms
list_left_out name f l w xs ms n is e = empty_put name f l w xs ms (sym is ∙ e)

full_put : {A : Type 0} (name : List ℕ) (f : A → Tree) (l : Lists) (w : SpecVersion) (xs : List A) (ms : Members) → (length xs ≡ 0 → ⊥) → put_filled name (a_list l) (list_tree f xs) w ms ≡ put name (jspell (keep w (list_tree f xs) (a_list l)) w (a_list l)) ms
unfolding put_filled kept
full_put name f l w [] ms h = absurd (h refl)
full_put name f l w (x ∷ xs) ms h = refl

pub list_put : {A B E : Type 0} (r : Result B E) (name : List ℕ) (f : A → Tree) (l : Lists) (w : SpecVersion) (xs : List A) (n : ℕ) (x : Data) (ms new : Members) → n ≡ length xs → (n ≡ 0 → ⊥) → x ≡ jspell (keep w (list_tree f xs) (a_list l)) w (a_list l) → OnOk r (new ≡ put name x ms)
    → OnOk r (new ≡ put_filled name (a_list l) (list_tree f xs) w ms)
list_put r name f l w xs n x ms new is some same h = on_ok r (λ e. e ∙ ap (λ y. put name y ms) same ∙ sym (full_put name f l w xs ms (λ z. some (is ∙ z)))) h

-- ---- a row that is known from a version on

pub late_put_then : {A E : Type 0} (r : Result A E) (s w : SpecVersion) (b : Bool) (old new x : Members) → b ≡ knows s w → b ≡ true → OnOk r (x ≡ new) → OnOk r (x ≡ late_put s w old new)
unfolding late_put
late_put_then r s w b old new x is e h = on_ok r (λ q. q ∙ ap (λ c. if c then new else old) (sym e ∙ is)) h

pub late_put_else : (s w : SpecVersion) (b : Bool) (old new : Members) → b ≡ knows s w → b ≡ false → old ≡ late_put s w old new
unfolding late_put
late_put_else s w b old new is e = ap (λ c. if c then new else old) (sym e ∙ is)

pub late_kept_then : (s w : SpecVersion) (b : Bool) (t u : Tree) → b ≡ knows s w → b ≡ true → u ≡ t → u ≡ late_kept s w t
unfolding late_kept
late_kept_then s w b t u is e h = h ∙ ap (λ c. if c then t else absent) (sym e ∙ is)

pub late_kept_else : (s w : SpecVersion) (b : Bool) (t : Tree) → b ≡ knows s w → b ≡ false → absent ≡ late_kept s w t
unfolding late_kept
late_kept_else s w b t is e = ap (λ c. if c then t else absent) (sym e ∙ is)

pub absent_kept : {A : Type 0} (f : A → Tree) (k : Kind) (w l : SpecVersion) → present f None ≡ kept w l (present f None) k
unfolding kept
absent_kept f k w l = refl

pub late_kept_ok : {A E : Type 0} (see : A → Tree) (r : Result A E) (s w : SpecVersion) (b : Bool) (t : Tree) → b ≡ knows s w → b ≡ true → IfOk r (λ x. see x ≡ t) → IfOk r (λ x. see x ≡ late_kept s w t)
late_kept_ok see (Ok x) s w b t is e h = late_kept_then s w b t (see x) is e h
late_kept_ok see (Err m) s w b t is e h = tt

pub if_ok : {A E : Type 0} {P Q : A → Type 0} (r : Result A E) → ((x : A) → P x → Q x) → IfOk r P → IfOk r Q
if_ok (Ok x) f h = f x h
if_ok (Err e) f h = tt
