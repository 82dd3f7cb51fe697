-- What a version keeps of what a version keeps is what the lower of the two keeps.
use Rattle.std.specs.Prelude.{◌≡◌, refl, ℕ, List, [], ◌∷◌, Bool, true, false, ◌&&◌, if◌then◌else◌, ◌⊎◌}
use Rattle.std.proofs.Common.{true≢false, inl, inr}
use mathlib.Core.Path.{ap, sym, ◌∙◌, subst}
use Rattle.cdx_models.specs.declared.bom.SpecVersion.{SpecVersion}
use Rattle.cdx_models.specs.declared.bom.SpecVersion.TheVariants.{V1_3, V1_4, V1_5}
use Rattle.cdx_models.specs.Versions.{knows, lowest}
use Rattle.cdx_models.specs.Trees.{Name, classification, service_data, tools_object, Tree, absent, text, number, boolean, items, fields, Trees, none, more, field}
use Rattle.cdx_schema.specs.Kinds.{Kind, a_version, a_record, a_license_choice, a_license_identifier, a_tools, an_entry, a_signature, a_bill, Row}
use Rattle.cdx_schema.specs.Held.{held_kind}
use Rattle.cdx_schema.specs.Table.{rows}
use Rattle.cdx_schema.specs.Keeping.{kept, items_kept, rows_kept, kept_record, kept_text, before_1_5}
use Rattle.cdx_schema.specs.Membership.{HasShape, HaveShape, FieldsHaveShape, IsRecordOf}
use Rattle.cdx_schema.proofs.Basics.{more_is}

-- The lower of two versions knows what both know.
knows-lowest : (s v w : SpecVersion) → knows s (lowest v w) ≡ knows s v && knows s w
knows-lowest V1_3 v w = refl
knows-lowest V1_4 V1_3 w = refl
knows-lowest V1_4 V1_4 V1_3 = refl
knows-lowest V1_4 V1_4 V1_4 = refl
knows-lowest V1_4 V1_4 V1_5 = refl
knows-lowest V1_4 V1_5 w = refl
knows-lowest V1_5 V1_3 w = refl
knows-lowest V1_5 V1_4 V1_3 = refl
knows-lowest V1_5 V1_4 V1_4 = refl
knows-lowest V1_5 V1_4 V1_5 = refl
knows-lowest V1_5 V1_5 w = refl

text_twice : (v l m : SpecVersion) (k : Kind) (s : List ℕ) → kept v m (kept_text l k s) k ≡ kept_text m k s
unfolding kept
text_twice v l m a_version s = refl
text_twice v l m _ s = refl

-- A field that is dropped by either is dropped by the lower.
field_twice : (v w l m : SpecVersion) (r : Row) (b c d : Bool) (t : Tree) → d ≡ b && c → kept v m (kept w l t r.kind) r.kind ≡ kept (lowest v w) m t r.kind
    → (if b then kept v m (if c then kept w l t r.kind else absent) r.kind else absent) ≡ (if d then kept (lowest v w) m t r.kind else absent)
unfolding kept
field_twice v w l m r true true d t h same = rw h same
field_twice v w l m r true false d t h same = rw h refl
field_twice v w l m r false c d t h same = rw h refl

-- Most records stay what they are.
pub stays : (w : SpecVersion) (k : Kind) (n : Name) (ts : Trees) → before_1_5 k n ts ≡ fields n ts → kept_record w k n ts ≡ fields n ts
stays V1_3 k n ts h = h
stays V1_4 k n ts h = h
stays V1_5 k n ts h = refl

plain_twice : (v w l m : SpecVersion) (k : Kind) (n : Name) (ts : Trees) → ((us : Trees) → before_1_5 k n us ≡ fields n us)
    → rows_kept v m (rows_kept w l ts (rows n)) (rows n) ≡ rows_kept (lowest v w) m ts (rows n)
    → kept v m (kept w l (fields n ts) k) k ≡ kept (lowest v w) m (fields n ts) k
unfolding kept
plain_twice v w l m k n ts h same =
    ap (λ t. kept v m t k) (stays w k n (rows_kept w l ts (rows n)) (h _))
    ∙ (stays v k n (rows_kept v m (rows_kept w l ts (rows n)) (rows n)) (h _)
    ∙ (ap (fields n) same ∙ sym (stays (lowest v w) k n (rows_kept (lowest v w) m ts (rows n)) (h _))))

tools_twice : (v w l m : SpecVersion) (ts : Trees)
    → rows_kept v m (rows_kept w l ts (rows tools_object)) (rows tools_object) ≡ rows_kept (lowest v w) m ts (rows tools_object)
    → kept v m (kept w l (fields tools_object ts) a_tools) a_tools ≡ kept (lowest v w) m (fields tools_object ts) a_tools
unfolding kept
tools_twice V1_3 V1_3 l m ts same = refl
tools_twice V1_4 V1_3 l m ts same = refl
tools_twice V1_5 V1_3 l m ts same = refl
tools_twice V1_3 V1_4 l m ts same = refl
tools_twice V1_4 V1_4 l m ts same = refl
tools_twice V1_5 V1_4 l m ts same = refl
tools_twice V1_3 V1_5 l m ts same = refl
tools_twice V1_4 V1_5 l m ts same = refl
tools_twice V1_5 V1_5 l m ts same = ap (fields tools_object) same

-- A flow holds a classification, which is kept as it is.
class_twice : (v w l m : SpecVersion) (n : Name) (cs : Trees) → n ≡ classification
    → kept v m (kept w l (fields n cs) (a_record classification)) (a_record classification) ≡ kept (lowest v w) m (fields n cs) (a_record classification)
    → kept v m (kept w l (fields n cs) (a_record classification)) an_entry ≡ kept (lowest v w) m (fields n cs) (a_record classification)
unfolding kept
class_twice v w l m n cs is same =
    let P : Name → Type 0 = (λ (k : Name). kept v m (kept w l (fields k cs) (a_record classification)) (a_record classification) ≡ kept (lowest v w) m (fields k cs) (a_record classification)
    → kept v m (kept w l (fields k cs) (a_record classification)) an_entry ≡ kept (lowest v w) m (fields k cs) (a_record classification)) in
    subst P (sym is) (λ same'. by v w same') same
  where
    by : (v' w' : SpecVersion) → kept v' m (kept w' l (fields classification cs) (a_record classification)) (a_record classification) ≡ kept (lowest v' w') m (fields classification cs) (a_record classification)
        → kept v' m (kept w' l (fields classification cs) (a_record classification)) an_entry ≡ kept (lowest v' w') m (fields classification cs) (a_record classification)
    by V1_3 V1_3 h = h
    by V1_4 V1_3 h = h
    by V1_5 V1_3 h = h
    by V1_3 V1_4 h = h
    by V1_4 V1_4 h = h
    by V1_5 V1_4 h = h
    by V1_3 V1_5 h = h
    by V1_4 V1_5 h = h
    by V1_5 V1_5 h = h

flow_twice : (v w l m : SpecVersion) (a b c : Tree) (ts : Trees)
    → kept v m (kept w l c (a_record classification)) an_entry ≡ kept (lowest v w) m c (a_record classification)
    → kept v m (kept w l c (a_record classification)) (a_record classification) ≡ kept (lowest v w) m c (a_record classification)
    → rows_kept v m (rows_kept w l (more a (more b (more c ts))) (rows service_data)) (rows service_data) ≡ rows_kept (lowest v w) m (more a (more b (more c ts))) (rows service_data)
    → kept v m (kept w l (fields service_data (more a (more b (more c ts)))) an_entry) an_entry ≡ kept (lowest v w) m (fields service_data (more a (more b (more c ts)))) an_entry
unfolding kept rows
flow_twice V1_3 V1_3 l m a b c ts as_entry as_class same = as_entry
flow_twice V1_4 V1_3 l m a b c ts as_entry as_class same = as_entry
flow_twice V1_5 V1_3 l m a b c ts as_entry as_class same = as_entry
flow_twice V1_3 V1_4 l m a b c ts as_entry as_class same = as_entry
flow_twice V1_4 V1_4 l m a b c ts as_entry as_class same = as_entry
flow_twice V1_5 V1_4 l m a b c ts as_entry as_class same = as_entry
flow_twice V1_3 V1_5 l m a b c ts as_entry as_class same = as_class
flow_twice V1_4 V1_5 l m a b c ts as_entry as_class same = as_class
flow_twice V1_5 V1_5 l m a b c ts as_entry as_class same = ap (fields service_data) same

-- ---- flows of their kind

class_as_entry : (v w l m : SpecVersion) (c : Tree) → ((c ≡ absent) × (false ≡ true)) ⊎ HasShape c (a_record classification)
    → kept v m (kept w l c (a_record classification)) (a_record classification) ≡ kept (lowest v w) m c (a_record classification)
    → kept v m (kept w l c (a_record classification)) an_entry ≡ kept (lowest v w) m c (a_record classification)
class_as_entry v w l m c (inl h) s = absurd (true≢false (sym h.1))
class_as_entry v w l m absent (inr h) s = absurd (true≢false h)
class_as_entry v w l m (text x) (inr h) s = absurd (true≢false h)
class_as_entry v w l m (number x) (inr h) s = absurd (true≢false h)
class_as_entry v w l m (boolean x) (inr h) s = absurd (true≢false h)
class_as_entry v w l m (items x) (inr h) s = absurd (true≢false h.0)
class_as_entry v w l m (fields n cs) (inr h) s = class_twice v w l m n cs h.0 s

flow_fields : (v w l m : SpecVersion) (ts : Trees) → FieldsHaveShape ts (rows service_data)
    → rows_kept v m (rows_kept w l ts (rows service_data)) (rows service_data) ≡ rows_kept (lowest v w) m ts (rows service_data)
    → kept v m (kept w l (fields service_data ts) an_entry) an_entry ≡ kept (lowest v w) m (fields service_data ts) an_entry
unfolding kept rows
flow_fields v w l m none h same = absurd (true≢false h)
flow_fields v w l m (more a none) h same = absurd (true≢false h.1)
flow_fields v w l m (more a (more b none)) h same = absurd (true≢false h.1.1)
flow_fields v w l m (more a (more b (more c ts))) h same = flow_twice v w l m a b c ts (class_as_entry v w l m c h.1.1.0 (ap (field 2) same)) (ap (field 2) same) same

record_twice : (v w l m : SpecVersion) (k : Kind) (n : Name) (ts : Trees) → IsRecordOf k n ts → FieldsHaveShape ts (rows n)
    → rows_kept v m (rows_kept w l ts (rows n)) (rows n) ≡ rows_kept (lowest v w) m ts (rows n)
    → kept v m (kept w l (fields n ts) k) k ≡ kept (lowest v w) m (fields n ts) k
record_twice v w l m (a_record x) n ts is of same = plain_twice v w l m (a_record x) n ts (λ us. refl) same
record_twice v w l m a_license_choice n ts is of same = plain_twice v w l m a_license_choice n ts (λ us. refl) same
record_twice v w l m a_license_identifier n ts is of same = plain_twice v w l m a_license_identifier n ts (λ us. refl) same
record_twice v w l m a_tools n ts is of same =
    let P : Name → Type 0 = (λ (k : Name). rows_kept v m (rows_kept w l ts (rows k)) (rows k) ≡ rows_kept (lowest v w) m ts (rows k)
    → kept v m (kept w l (fields k ts) a_tools) a_tools ≡ kept (lowest v w) m (fields k ts) a_tools) in
    subst P (sym is) (tools_twice v w l m ts) same
record_twice v w l m an_entry n ts (inl is) of same = plain_twice v w l m an_entry n ts (λ us. subst (λ (k : Name). before_1_5 an_entry k us ≡ fields k us) (sym is) refl) same
record_twice v w l m an_entry n ts (inr is) of same =
    let P : Name → Type 0 = (λ (k : Name). FieldsHaveShape ts (rows k) → rows_kept v m (rows_kept w l ts (rows k)) (rows k) ≡ rows_kept (lowest v w) m ts (rows k)
    → kept v m (kept w l (fields k ts) an_entry) an_entry ≡ kept (lowest v w) m (fields k ts) an_entry) in
    subst P (sym is.0) (flow_fields v w l m ts) of same
record_twice v w l m a_signature n ts is of same = plain_twice v w l m a_signature n ts (λ us. refl) same
record_twice v w l m a_bill n ts is of same = plain_twice v w l m a_bill n ts (λ us. refl) same
record_twice v w l m _ n ts is of same = absurd (true≢false is)

absent_twice : (v w l m : SpecVersion) (r : Row) (t : Tree) → t ≡ absent → kept v m (kept w l t r.kind) r.kind ≡ kept (lowest v w) m t r.kind
unfolding kept
absent_twice v w l m r t h = rw h refl

mutual
  unfolding kept

  pub kept_twice : (v w l m : SpecVersion) (t : Tree) (k : Kind) → HasShape t k → kept v m (kept w l t k) k ≡ kept (lowest v w) m t k
  kept_twice v w l m (text s) k h = text_twice v l m k s
  kept_twice v w l m (items ts) k h = ap items (items_twice v w l m ts (held_kind k) h.1)
  kept_twice v w l m (fields n ts) k h = record_twice v w l m k n ts h.0 h.1 (rows_twice v w l m ts (rows n) h.1)
  kept_twice v w l m _ k h = refl

  pub items_twice : (v w l m : SpecVersion) (ts : Trees) (k : Kind) → HaveShape ts k → items_kept v m (items_kept w l ts k) k ≡ items_kept (lowest v w) m ts k
  items_twice v w l m none k h = refl
  items_twice v w l m (more t ts) k h = more_is (kept_twice v w l m t k h.0) (items_twice v w l m ts k h.1)

  pub rows_twice : (v w l m : SpecVersion) (ts : Trees) (rs : List Row) → FieldsHaveShape ts rs → rows_kept v m (rows_kept w l ts rs) rs ≡ rows_kept (lowest v w) m ts rs
  rows_twice v w l m none rs h = refl
  rows_twice v w l m (more t ts) [] h = refl
  rows_twice v w l m (more t ts) (r ∷ rs) h = more_is
      (field_twice v w l m r (knows r.since v) (knows r.since w) _ t (knows-lowest r.since v w) (elim h.0 [ inl e ↦ absent_twice v w l m r t e.0 | inr e ↦ kept_twice v w l m t r.kind e ]))
      (rows_twice v w l m ts rs h.1)
