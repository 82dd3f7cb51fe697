-- The plain bill is a bill, and is its own plain bill.
use Rattle.std.specs.Prelude.{◌≡◌, refl, ℕ, List, [], ◌∷◌, true, not, ◌&&◌, ◌⊎◌}
use Rattle.std.proofs.Common.{true≢false, inl, inr}
use mathlib.Core.Path.{ap, sym, ◌∙◌, subst}
use Rattle.cdx_models.specs.Entries.{is_flow}
use Rattle.cdx_models.specs.Trees.{Name, service_data, Tree, absent, text, number, boolean, items, fields, Trees, none, more, is_absent}
use Rattle.cdx_schema.specs.Kinds.{Kind, a_text, a_list, a_record, a_license_choice, a_license_identifier, a_tools, a_data, an_entry, a_signature, a_bill, Row}
use Rattle.cdx_schema.specs.Held.{held_kind}
use Rattle.cdx_schema.specs.Table.{rows}
use Rattle.cdx_schema.specs.Depth.{Depth, inside, name_too_deep}
use Rattle.cdx_schema.specs.Keeping.{is_shallow, are_shallow}
use Rattle.cdx_schema.specs.Trips.{settled, items_settled, rows_settled, list_settled}
use Rattle.cdx_schema.specs.Membership.{IsOfAll, AreOfAll, AreFieldsAll, IsListKind, IsRecordOf, may_lack}
use Rattle.cdx_schema.proofs.Alike.{settled_there, settled_more}
use Rattle.std.specs.Prelude.{Some, Ok}
use Rattle.serde_json.specs.Read.{read}
use Rattle.serde_json.specs.Written.{compact_text}
use Rattle.cdx_models.specs.declared.bom.SpecVersion.{SpecVersion}
use Rattle.cdx_models.specs.declared.bom.SpecVersion.TheVariants.{V1_5}
use Rattle.cdx_models.specs.Versions.{label}
use Rattle.cdx_models.specs.Trees.{bill, with_field}
use Rattle.cdx_schema.specs.Depth.{top}
use Rattle.cdx_schema.specs.Keeping.{kept, rows_kept, keep}
use Rattle.cdx_schema.specs.Membership.{AnyText, FieldsHaveShape}
use Rattle.cdx_schema.specs.JsonReading.{json_denotes}
use Rattle.cdx_schema.specs.JsonSpelling.{jspell}
use Rattle.cdx_schema.specs.Laws.{HasBillShape, IsShallow}
use Rattle.cdx_schema.proofs.HeldKept.{label_is}
use Rattle.cdx_schema.proofs.ReadOf.{ok_same}
use Rattle.cdx_schema.proofs.Stated.{json_back}
use Rattle.cdx_canon.specs.Canon.{labelled, plain, canon, OneText, TextReadsBack}
use Rattle.cdx_canon.proofs.KeptText.{labelled_whole, shaped_whole}
use Rattle.cdx_schema.proofs.JsonBack.{and_true}
use Rattle.cdx_schema.proofs.Sound.{both}
use Rattle.cdx_schema.proofs.Basics.{more_is, some_same}

-- ---- settling twice

none_twice : (k : Kind) → settled (list_settled k none) k ≡ list_settled k none
unfolding settled rows
none_twice a_tools = refl
none_twice _ = refl

mutual
  unfolding settled

  pub settled_twice : (t : Tree) (k : Kind) → settled (settled t k) k ≡ settled t k
  settled_twice absent k = refl
  settled_twice (text s) k = refl
  settled_twice (number n) k = refl
  settled_twice (boolean b) k = refl
  settled_twice (items none) k = none_twice k
  settled_twice (items (more t ts)) k =
      ap (λ x. settled x k) (settled_more k (settled t (held_kind k)) (items_settled ts (held_kind k)))
      ∙ ap (list_settled k) (more_is (settled_twice t (held_kind k)) (items_settled_twice ts (held_kind k)))
  settled_twice (fields n ts) k = ap (fields n) (rows_settled_twice ts (rows n))

  items_settled_twice : (ts : Trees) (k : Kind) → items_settled (items_settled ts k) k ≡ items_settled ts k
  items_settled_twice none k = refl
  items_settled_twice (more t ts) k = more_is (settled_twice t k) (items_settled_twice ts k)

  rows_settled_twice : (ts : Trees) (rs : List Row) → rows_settled (rows_settled ts rs) rs ≡ rows_settled ts rs
  rows_settled_twice none rs = refl
  rows_settled_twice (more t ts) [] = refl
  rows_settled_twice (more t ts) (r ∷ rs) = more_is (settled_twice t r.kind) (rows_settled_twice ts rs)

-- ---- its kind

list_of_settled : (Q : List ℕ → Type 0) (k : Kind) (ts : Trees) → IsListKind k → AreOfAll Q ts (held_kind k) → IsOfAll Q (list_settled k ts) k
unfolding rows
list_of_settled Q a_tools none is h = (refl, (inl (refl, refl), (inl (refl, refl), tt)))
list_of_settled Q a_tools (more t ts) is h = (is, h)
list_of_settled Q (a_list l) ts is h = (is, h)
list_of_settled Q a_data ts is h = (is, h)
list_of_settled Q _ ts is h = absurd (true≢false is)

flow_settled : (n : Name) (ts : Trees) → is_flow n (rows_settled ts (rows n)) ≡ is_flow n ts
unfolding settled rows
flow_settled service_data none = refl
flow_settled service_data (more a none) = ap (λ x. not (x && true)) (settled_there a a_text)
flow_settled service_data (more a (more b ts)) = ap (λ x. not (x && is_absent (settled b a_text))) (settled_there a a_text) ∙ ap (λ x. not (is_absent a && x)) (settled_there b a_text)
flow_settled n ts = refl

record_settled : (k : Kind) (n : Name) (ts : Trees) → IsRecordOf k n ts → IsRecordOf k n (rows_settled ts (rows n))
record_settled (a_record m) n ts is = is
record_settled a_license_choice n ts is = is
record_settled a_license_identifier n ts is = is
record_settled a_tools n ts is = is
record_settled an_entry n ts (inl e) = inl e
record_settled an_entry n ts (inr e) = inr (e.0, flow_settled n ts ∙ e.1)
record_settled a_signature n ts is = is
record_settled a_bill n ts is = is
record_settled _ n ts is = absurd (true≢false is)

field_settled : (Q : List ℕ → Type 0) (t : Tree) (r : Row) → (IsOfAll Q t r.kind → IsOfAll Q (settled t r.kind) r.kind) → ((t ≡ absent) × (may_lack r.need ≡ true)) ⊎ IsOfAll Q t r.kind
    → ((settled t r.kind ≡ absent) × (may_lack r.need ≡ true)) ⊎ IsOfAll Q (settled t r.kind) r.kind
unfolding settled
field_settled Q t r f (inl h) = inl (ap (λ x. settled x r.kind) h.0, h.1)
field_settled Q t r f (inr h) = inr (f h)

mutual
  unfolding settled

  pub settled_of : (Q : List ℕ → Type 0) (t : Tree) (k : Kind) → IsOfAll Q t k → IsOfAll Q (settled t k) k
  settled_of Q absent k h = h
  settled_of Q (text s) k h = h
  settled_of Q (number n) k h = h
  settled_of Q (boolean b) k h = h
  settled_of Q (items ts) k h = list_of_settled Q k (items_settled ts (held_kind k)) h.0 (items_settled_of Q ts (held_kind k) h.1)
  settled_of Q (fields n ts) k h = (record_settled k n ts h.0, rows_settled_of Q ts (rows n) h.1)

  items_settled_of : (Q : List ℕ → Type 0) (ts : Trees) (k : Kind) → AreOfAll Q ts k → AreOfAll Q (items_settled ts k) k
  items_settled_of Q none k h = h
  items_settled_of Q (more t ts) k h = (settled_of Q t k h.0, items_settled_of Q ts k h.1)

  rows_settled_of : (Q : List ℕ → Type 0) (ts : Trees) (rs : List Row) → AreFieldsAll Q ts rs → AreFieldsAll Q (rows_settled ts rs) rs
  rows_settled_of Q none rs h = h
  rows_settled_of Q (more t ts) [] h = absurd (true≢false h)
  rows_settled_of Q (more t ts) (r ∷ rs) h = (field_settled Q t r (settled_of Q t r.kind) h.0, rows_settled_of Q ts rs h.1)

-- ---- its depth

list_depth : (k : Kind) (ts : Trees) (d : Depth) → is_shallow (list_settled k ts) d ≡ are_shallow ts d
unfolding is_shallow
list_depth a_tools none d = refl
list_depth a_tools (more t ts) d = refl
list_depth _ ts d = refl

mutual
  unfolding settled is_shallow

  pub settled_depth : (t : Tree) (k : Kind) (d : Depth) → is_shallow t d ≡ true → is_shallow (settled t k) d ≡ true
  settled_depth absent k d h = h
  settled_depth (text s) k d h = h
  settled_depth (number n) k d h = h
  settled_depth (boolean b) k d h = h
  settled_depth (items ts) k d h = list_depth k (items_settled ts (held_kind k)) d ∙ items_depth ts (held_kind k) d h
  settled_depth (fields n ts) k d h =
      let p : (not (name_too_deep n d) ≡ true) × (are_shallow ts (inside n d) ≡ true) = and_true (not (name_too_deep n d)) (are_shallow ts (inside n d)) h in
      both (not (name_too_deep n d)) (are_shallow (rows_settled ts (rows n)) (inside n d)) p.0 (rows_depth ts (rows n) (inside n d) p.1)

  items_depth : (ts : Trees) (k : Kind) (d : Depth) → are_shallow ts d ≡ true → are_shallow (items_settled ts k) d ≡ true
  items_depth none k d h = h
  items_depth (more t ts) k d h =
      let p : (is_shallow t d ≡ true) × (are_shallow ts d ≡ true) = and_true (is_shallow t d) (are_shallow ts d) h in
      both (is_shallow (settled t k) d) (are_shallow (items_settled ts k) d) (settled_depth t k d p.0) (items_depth ts k d p.1)

  rows_depth : (ts : Trees) (rs : List Row) (d : Depth) → are_shallow ts d ≡ true → are_shallow (rows_settled ts rs) d ≡ true
  rows_depth none rs d h = h
  rows_depth (more t ts) [] d h = refl
  rows_depth (more t ts) (r ∷ rs) d h =
      let p : (is_shallow t d ≡ true) × (are_shallow ts d ≡ true) = and_true (is_shallow t d) (are_shallow ts d) h in
      both (is_shallow (settled t r.kind) d) (are_shallow (rows_settled ts rs) d) (settled_depth t r.kind d p.0) (rows_depth ts rs d p.1)

-- ---- the plain bill

first_labelled : (Q : List ℕ → Type 0) (l : SpecVersion) (ts : Trees) → AreFieldsAll Q ts (rows bill) → AreFieldsAll Q (with_field 0 (text (label l)) ts) (rows bill)
unfolding rows
first_labelled Q l none h = h
first_labelled Q l (more t ts) h = (inr (label_is l), h.1)

pub labelled_of : (Q : List ℕ → Type 0) (l : SpecVersion) (b : Tree) → IsOfAll Q b a_bill → IsOfAll Q (labelled l b) a_bill
labelled_of Q l absent h = h
labelled_of Q l (text s) h = h
labelled_of Q l (number n) h = h
labelled_of Q l (boolean b) h = h
labelled_of Q l (items ts) h = absurd (true≢false h.0)
labelled_of Q l (fields n ts) h = (h.0, subst (λ (m : Name). AreFieldsAll Q ts (rows m) → AreFieldsAll Q (with_field 0 (text (label l)) ts) (rows m)) (sym h.0) (first_labelled Q l ts) h.1)

labels_shallow : (l : SpecVersion) (ts : Trees) (d : Depth) → are_shallow ts d ≡ true → are_shallow (with_field 0 (text (label l)) ts) d ≡ true
unfolding is_shallow
labels_shallow l none d h = h
labels_shallow l (more t ts) d h = (and_true (is_shallow t d) (are_shallow ts d) h).1

labelled_depth : (l : SpecVersion) (b : Tree) (d : Depth) → is_shallow b d ≡ true → is_shallow (labelled l b) d ≡ true
unfolding is_shallow
labelled_depth l (fields n ts) d h =
    let p : (not (name_too_deep n d) ≡ true) × (are_shallow ts (inside n d) ≡ true) = and_true (not (name_too_deep n d)) (are_shallow ts (inside n d)) h in
    both (not (name_too_deep n d)) (are_shallow (with_field 0 (text (label l)) ts) (inside n d)) p.0 (labels_shallow l ts (inside n d) p.1)
labelled_depth l absent d h = h
labelled_depth l (text s) d h = h
labelled_depth l (number n) d h = h
labelled_depth l (boolean b) d h = h
labelled_depth l (items ts) d h = h

pub plain_of : (Q : List ℕ → Type 0) (b : Tree) → IsOfAll Q b a_bill → IsOfAll Q (plain b) a_bill
plain_of Q b h = settled_of Q (labelled V1_5 b) a_bill (labelled_of Q V1_5 b h)

pub plain_shallow : (b : Tree) → IsShallow b → IsShallow (plain b)
plain_shallow b h = settled_depth (labelled V1_5 b) a_bill top (labelled_depth V1_5 b top h)

-- The plain bill has the label 1.5 already.
first_plain : (ts : Trees) → with_field 0 (text (label V1_5)) (rows_settled (with_field 0 (text (label V1_5)) ts) (rows bill)) ≡ rows_settled (with_field 0 (text (label V1_5)) ts) (rows bill)
unfolding rows settled
first_plain none = refl
first_plain (more t ts) = refl

labelled_plain : (b : Tree) → HasBillShape b → labelled V1_5 (plain b) ≡ plain b
unfolding settled
labelled_plain absent h = refl
labelled_plain (text s) h = refl
labelled_plain (number n) h = refl
labelled_plain (boolean b) h = refl
labelled_plain (items ts) h = absurd (true≢false h.0)
labelled_plain (fields n ts) h =
    ap (fields n) (subst (λ (m : Name). with_field 0 (text (label V1_5)) (rows_settled (with_field 0 (text (label V1_5)) ts) (rows m)) ≡ rows_settled (with_field 0 (text (label V1_5)) ts) (rows m)) (sym h.0) (first_plain ts))

pub plain_twice : (b : Tree) → HasBillShape b → plain (plain b) ≡ plain b
plain_twice b h = ap (λ x. settled x a_bill) (labelled_plain b h) ∙ settled_twice (labelled V1_5 b) a_bill

-- ---- what 1.5 keeps of it

first_kept : (l : SpecVersion) (ts : Trees) → FieldsHaveShape ts (rows bill) → with_field 0 (text (label l)) (rows_kept V1_5 l ts (rows bill)) ≡ rows_kept V1_5 l ts (rows bill)
unfolding rows kept
first_kept l none h = refl
first_kept l (more (text s) ts) h = refl
first_kept l (more absent ts) (inl e, h) = absurd (true≢false (sym e.1))
first_kept l (more absent ts) (inr e, h) = absurd (true≢false e)
first_kept l (more (number n) ts) (inl e, h) = absurd (true≢false (sym e.1))
first_kept l (more (number n) ts) (inr e, h) = absurd (true≢false e)
first_kept l (more (boolean b) ts) (inl e, h) = absurd (true≢false (sym e.1))
first_kept l (more (boolean b) ts) (inr e, h) = absurd (true≢false e)
first_kept l (more (items us) ts) (inl e, h) = absurd (true≢false (sym e.1))
first_kept l (more (items us) ts) (inr e, h) = absurd (true≢false e.0)
first_kept l (more (fields n us) ts) (inl e, h) = absurd (true≢false (sym e.1))
first_kept l (more (fields n us) ts) (inr e, h) = absurd (true≢false e.0)

labelled_kept : (l : SpecVersion) (b : Tree) → HasBillShape b → labelled l (kept V1_5 l b a_bill) ≡ kept V1_5 l b a_bill
unfolding kept
labelled_kept l absent h = refl
labelled_kept l (text s) h = refl
labelled_kept l (number n) h = refl
labelled_kept l (boolean b) h = refl
labelled_kept l (items ts) h = absurd (true≢false h.0)
labelled_kept l (fields n ts) h =
    ap (fields n) (subst (λ (m : Name). FieldsHaveShape ts (rows m) → with_field 0 (text (label l)) (rows_kept V1_5 l ts (rows m)) ≡ rows_kept V1_5 l ts (rows m)) (sym h.0) (first_kept l ts) h.1)

pub plain_kept : (b : Tree) → HasBillShape b → keep V1_5 (plain b) a_bill ≡ plain b
plain_kept b h =
    let is : HasBillShape (plain b) = plain_of AnyText b h in
    sym (labelled_kept V1_5 (plain b) is) ∙ (labelled_whole V1_5 V1_5 (plain b) (shaped_whole (plain b) is) ∙ labelled_plain b h)

-- The JSON spelling of the plain bill in 1.5 denotes it.
pub plain_denoted : (b : Tree) → HasBillShape b → IsShallow b → json_denotes (jspell (plain b) V1_5 a_bill) V1_5 ≡ Ok (plain b)
plain_denoted b is s =
    let back = json_back (plain b) V1_5 (plain_of AnyText b is) (plain_shallow b s) refl in
    subst (λ x. json_denotes (jspell x V1_5 a_bill) V1_5 ≡ Ok x) (plain_kept b is) back

-- ---- the laws, where the text reads back as the value

abbrev pub TextsRead : Type 0
TextsRead = (b : Tree) → HasBillShape b → IsShallow b → read (canon b) ≡ Some (jspell (plain b) V1_5 a_bill)

pub text_reads_back : TextsRead → TextReadsBack
text_reads_back reads b is s = (jspell (plain b) V1_5 a_bill, reads b is s, plain_denoted b is s, ap (λ x. compact_text (jspell x V1_5 a_bill)) (plain_twice b is))

pub one_text : TextsRead → OneText
one_text reads b c is is' s s' =
    let same_values : canon b ≡ canon c → jspell (plain b) V1_5 a_bill ≡ jspell (plain c) V1_5 a_bill = (λ e. some_same (sym (reads b is s) ∙ (ap read e ∙ reads c is' s'))) in
    let same_bills : canon b ≡ canon c → plain b ≡ plain c = (λ e. ok_same (sym (plain_denoted b is s) ∙ (ap (λ x. json_denotes x V1_5) (same_values e) ∙ plain_denoted c is' s'))) in
    ((same_bills, λ e. ap (λ x. compact_text (jspell x V1_5 a_bill)) e), ((λ e. e), λ e. e))
