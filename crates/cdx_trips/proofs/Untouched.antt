-- What survives a trip comes back as it is.
use Rattle.std.specs.Prelude.{◌≡◌, refl, List, [], ◌∷◌, Bool, true, false, not, ◌&&◌, if◌then◌else◌, ◌⊎◌, Ok}
use Rattle.std.proofs.Common.{true≢false, inl, inr}
use mathlib.Core.Path.{ap, sym, ◌∙◌, subst}
use Rattle.cdx_models.specs.declared.bom.SpecVersion.{SpecVersion}
use Rattle.cdx_models.specs.declared.bom.SpecVersion.TheVariants.{V1_3, V1_4, V1_5}
use Rattle.cdx_models.specs.Trees.{Name, contact, entity, issue, patch, pedigree, component, service, metadata, license, expression, spdx_id, license_name, classification, service_data, tools_object, signer, signers, chain, bill, Tree, absent, text, number, boolean, items, fields, Trees, none, more}
use Rattle.cdx_schema.specs.Kinds.{Lists, contacts, authors, patches, resolved, components, services, Kind, a_list, a_record, a_license_choice, a_license_identifier, a_tools, an_entry, a_signature, a_bill, Need, optional, Spelled, filled_child, children, Row}
use Rattle.cdx_schema.specs.Held.{held_kind}
use Rattle.cdx_schema.specs.Table.{rows, list}
use Rattle.cdx_schema.specs.Keeping.{keep}
use Rattle.cdx_schema.specs.Trips.{is_hollow, is_passed_over, field_after, none_is_absent}
use Rattle.cdx_schema.specs.Membership.{HasShape, HaveShape, FieldsHaveShape, IsRecordOf, may_lack}
use Rattle.cdx_schema.proofs.BillRead.{reads_xml}
use Rattle.cdx_schema.proofs.Stated.{stays_bill}
use Rattle.cdx_schema.proofs.JsonBack.{and_true, not_true}
use Rattle.cdx_schema.proofs.XmlLaw.{tripped, items_tripped, rows_tripped, list_after}
use Rattle.cdx_schema.proofs.Sound.{both}
use Rattle.cdx_schema.proofs.Basics.{more_is}
use Rattle.cdx_trips.specs.Laws.{ComesBack}
use Rattle.cdx_trips.specs.Surviving.{record_may_lose, list_may_lose, may_lose, is_nothing, is_written_as, comes_as_list, survives, items_survive, rows_survive}

-- a field of a row: absent where it may be, or of the row's kind
abbrev IsField : Tree → Row → Type 0
IsField t r = ((t ≡ absent) × (may_lack r.need ≡ true)) ⊎ HasShape t r.kind

-- ---- kinds of which a trip takes nothing

abbrev is_always_written : Spelled → Need → Bool
is_always_written (filled_child name) n = false
is_always_written (children name) optional = false
is_always_written _ n = true

abbrev all_safe : List Row → Bool
all_safe [] = true
all_safe (r ∷ rs) = is_always_written r.xml r.need && (not (may_lose r.kind) && all_safe rs)

rows_safe : (n : Name) → record_may_lose n ≡ false → all_safe (rows n) ≡ true
unfolding rows
rows_safe contact e = absurd (true≢false e)
rows_safe entity e = absurd (true≢false e)
rows_safe issue e = absurd (true≢false e)
rows_safe patch e = absurd (true≢false e)
rows_safe pedigree e = absurd (true≢false e)
rows_safe component e = absurd (true≢false e)
rows_safe service e = absurd (true≢false e)
rows_safe tools_object e = absurd (true≢false e)
rows_safe metadata e = absurd (true≢false e)
rows_safe bill e = absurd (true≢false e)
rows_safe _ e = refl

list_safe : (l : Lists) → list_may_lose l ≡ false → may_lose (list l).kind ≡ false
unfolding list
list_safe contacts e = absurd (true≢false e)
list_safe authors e = absurd (true≢false e)
list_safe resolved e = absurd (true≢false e)
list_safe patches e = absurd (true≢false e)
list_safe components e = absurd (true≢false e)
list_safe services e = absurd (true≢false e)
list_safe _ e = refl

held_safe : (k : Kind) → may_lose k ≡ false → may_lose (held_kind k) ≡ false
held_safe (a_list l) e = list_safe l e
held_safe a_tools e = absurd (true≢false e)
held_safe _ e = refl

as_list : (k : Kind) (ts : Trees) → may_lose k ≡ false → comes_as_list k ts ≡ true
as_list a_tools ts e = absurd (true≢false e)
as_list _ ts e = refl

name_safe : (n m : Name) → n ≡ m → record_may_lose m ≡ false → record_may_lose n ≡ false
name_safe n m e h = ap record_may_lose e ∙ h

record_safe : (k : Kind) (n : Name) (ts : Trees) → IsRecordOf k n ts → may_lose k ≡ false → record_may_lose n ≡ false
record_safe (a_record m) n ts is h = name_safe n m is h
record_safe a_license_choice n ts is h = elim is [ inl e ↦ name_safe n license e refl | inr e ↦ name_safe n expression e refl ]
record_safe a_license_identifier n ts is h = elim is [ inl e ↦ name_safe n spdx_id e refl | inr e ↦ name_safe n license_name e refl ]
record_safe a_tools n ts is h = absurd (true≢false h)
record_safe an_entry n ts is h = elim is [ inl e ↦ name_safe n classification e refl | inr e ↦ name_safe n service_data e.0 refl ]
record_safe a_signature n ts is h = by is
  where
    by : (n ≡ signers) ⊎ ((n ≡ chain) ⊎ (n ≡ signer)) → record_may_lose n ≡ false
    by (inl e) = name_safe n signers e refl
    by (inr (inl e)) = name_safe n chain e refl
    by (inr (inr e)) = name_safe n signer e refl
record_safe a_bill n ts is h = absurd (true≢false h)
record_safe _ n ts is h = absurd (true≢false is)

always : (x : Spelled) (n : Need) (t : Tree) → is_always_written x n ≡ true → is_written_as x n t ≡ true
always (filled_child q) n t e = absurd (true≢false (sym e))
always (children q) optional t e = absurd (true≢false (sym e))
always (children q) n t e = refl
always _ n t e = refl

-- ---- what survives

-- where nothing can be lost, no item is asked
items_unasked : (b : Bool) (x y : Bool) → b ≡ false → y ≡ true → ((if b then x else true) && y) ≡ true
items_unasked b x y e h = rw (e, h) refl

pub items_safe : (ts : Trees) (k : Kind) → may_lose k ≡ false → items_survive ts k ≡ true
unfolding survives
items_safe none k e = refl
items_safe (more t ts) k e = items_unasked (may_lose k) (not (is_passed_over t) && survives t k) (items_survive ts k) e (items_safe ts k e)

rows_all_survive : (ts : Trees) (rs : List Row) → all_safe rs ≡ true → rows_survive ts rs ≡ true
unfolding survives
rows_all_survive none rs e = refl
rows_all_survive (more t ts) [] e = refl
rows_all_survive (more t ts) (r ∷ rs) e =
    let p = and_true (is_always_written r.xml r.need) (not (may_lose r.kind) && all_safe rs) e in
    let q = and_true (not (may_lose r.kind)) (all_safe rs) p.1 in
    both (is_written_as r.xml r.need t) ((if may_lose r.kind then survives t r.kind else true) && rows_survive ts rs) (always r.xml r.need t p.0)
    (items_unasked (may_lose r.kind) (survives t r.kind) (rows_survive ts rs) (not_true (may_lose r.kind) q.0) (rows_all_survive ts rs q.1))

safe_survives : (t : Tree) (k : Kind) → HasShape t k → may_lose k ≡ false → survives t k ≡ true
unfolding survives
safe_survives absent k h e = refl
safe_survives (text s) k h e = refl
safe_survives (number n) k h e = refl
safe_survives (boolean b) k h e = refl
safe_survives (items ts) k h e = both (comes_as_list k ts) (items_survive ts (held_kind k)) (as_list k ts e) (items_safe ts (held_kind k) (held_safe k e))
safe_survives (fields n ts) k h e = rows_all_survive ts (rows n) (rows_safe n (record_safe k n ts h.0 e))

-- ---- what comes back

as_it_was : (k : Kind) (w : SpecVersion) (ts : Trees) → comes_as_list k ts ≡ true → list_after k w ts ≡ items ts
as_it_was a_tools w none e = absurd (true≢false (sym e))
as_it_was a_tools V1_3 (more t ts) e = refl
as_it_was a_tools V1_4 (more t ts) e = refl
as_it_was a_tools V1_5 (more t ts) e = refl
as_it_was _ w ts e = refl

named_passed : (n : Name) (ts : Trees) → record_may_lose n ≡ false → is_passed_over (fields n ts) ≡ false
named_passed contact ts e = absurd (true≢false e)
named_passed _ ts e = refl

safe_stays : (t : Tree) (k : Kind) → HasShape t k → may_lose k ≡ false → is_passed_over t ≡ false
safe_stays (fields n ts) k h e = named_passed n ts (record_safe k n ts h.0 e)
safe_stays _ k h e = refl

not_passed : (b : Bool) (ts us : Trees) → b ≡ false → (if b then ts else us) ≡ us
not_passed b ts us e = rw e refl

something : (n : Need) (t : Tree) → not (is_nothing n t) ≡ true → none_is_absent n t ≡ t
something optional (items none) e = absurd (true≢false (sym e))
something n t e = refl

field_as_it_was : (r : Row) (t u : Tree) → u ≡ t → is_written_as r.xml r.need t ≡ true → field_after r t u ≡ t
field_as_it_was r t u is e = by r.xml e
  where
    by : (x : Spelled) → is_written_as x r.need t ≡ true → field_after (record r { xml = x }) t u ≡ t
    by (filled_child q) f = ap (λ b. if b then absent else u) (not_true (is_hollow t) f) ∙ is
    by (children q) f = ap (none_is_absent r.need) is ∙ something r.need t f
    by _ f = is

-- What is asked of an item or a field holds of it, whether it was asked or not.
asked : (b s : Bool) → (b ≡ false → s ≡ true) → (if b then s else true) ≡ true → s ≡ true
asked true s h e = e
asked false s h e = h refl

field_untouched : (w : SpecVersion) (t : Tree) (r : Row) → IsField t r → (HasShape t r.kind → tripped w t r.kind ≡ t) → tripped w t r.kind ≡ t
unfolding tripped
field_untouched w t r (inl h) f = subst (λ (u : Tree). tripped w u r.kind ≡ u) (sym h.0) refl
field_untouched w t r (inr h) f = f h

mutual
  unfolding survives tripped

  pub untouched : (w : SpecVersion) (t : Tree) (k : Kind) → HasShape t k → survives t k ≡ true → tripped w t k ≡ t
  untouched w absent k h e = refl
  untouched w (text s) k h e = refl
  untouched w (number n) k h e = refl
  untouched w (boolean b) k h e = refl
  untouched w (items ts) k h e =
      let p = and_true (comes_as_list k ts) (items_survive ts (held_kind k)) e in
      ap (list_after k w) (items_untouched w ts (held_kind k) h.1 p.1) ∙ as_it_was k w ts p.0
  untouched w (fields n ts) k h e = ap (fields n) (rows_untouched w ts (rows n) h.1 e)

  items_untouched : (w : SpecVersion) (ts : Trees) (k : Kind) → HaveShape ts k → items_survive ts k ≡ true → items_tripped w ts k ≡ ts
  items_untouched w none k h e = refl
  items_untouched w (more t ts) k h e =
      let p = and_true (if may_lose k then not (is_passed_over t) && survives t k else true) (items_survive ts k) e in
      let q = and_true (not (is_passed_over t)) (survives t k) (asked (may_lose k) (not (is_passed_over t) && survives t k) (λ safe. both (not (is_passed_over t)) (survives t k) (ap not (safe_stays t k h.0 safe)) (safe_survives t k h.0 safe)) p.0) in
      not_passed (is_passed_over t) (items_tripped w ts k) (more (tripped w t k) (items_tripped w ts k)) (not_true (is_passed_over t) q.0)
      ∙ more_is (untouched w t k h.0 q.1) (items_untouched w ts k h.1 p.1)

  rows_untouched : (w : SpecVersion) (ts : Trees) (rs : List Row) → FieldsHaveShape ts rs → rows_survive ts rs ≡ true → rows_tripped w ts rs ≡ ts
  rows_untouched w none rs h e = refl
  rows_untouched w (more t ts) [] h e = absurd (true≢false h)
  rows_untouched w (more t ts) (r ∷ rs) h e =
      let p = and_true (is_written_as r.xml r.need t) ((if may_lose r.kind then survives t r.kind else true) && rows_survive ts rs) e in
      let q = and_true (if may_lose r.kind then survives t r.kind else true) (rows_survive ts rs) p.1 in
      more_is (field_as_it_was r t (tripped w t r.kind) (field_untouched w t r h.0 (λ g. untouched w t r.kind g (asked (may_lose r.kind) (survives t r.kind) (safe_survives t r.kind g) q.0))) p.0) (rows_untouched w ts rs h.1 q.1)

pub comes_back : ComesBack
comes_back b w shape shallow f e = reads_xml b w shape f shallow ∙ ap Ok (untouched w (keep w b a_bill) a_bill ((stays_bill b w).1 shape).0 e)
