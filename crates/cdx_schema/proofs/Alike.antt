-- A version and a trip make the same bills of the same bills.
use Rattle.std.specs.Prelude.{◌≡◌, refl, List, [], ◌∷◌, Bool, true, false, if◌then◌else◌}
use Rattle.std.proofs.Common.{true≢false}
use mathlib.Core.Path.{ap, sym, ◌∙◌}
use Rattle.cdx_models.specs.declared.bom.SpecVersion.{SpecVersion}
use Rattle.cdx_models.specs.declared.bom.SpecVersion.TheVariants.{V1_3, V1_4, V1_5}
use Rattle.cdx_models.specs.Versions.{knows}
use Rattle.cdx_models.specs.Trees.{Name, contact, classification, service_data, tools_object, Tree, absent, text, number, boolean, items, fields, Trees, none, more, two, field, is_absent}
use Rattle.cdx_schema.specs.Kinds.{Kind, a_list, a_record, a_tools, an_entry, Need, optional, Spelled, filled_child, children, Row}
use Rattle.cdx_schema.specs.Table.{rows}
use Rattle.cdx_schema.specs.Held.{held_kind}
use Rattle.cdx_schema.specs.Keeping.{kept, items_kept, rows_kept, kept_record, before_1_5}
use Rattle.cdx_schema.specs.Trips.{bare, items_bare, rows_bare, settled, items_settled, rows_settled, list_settled, is_hollow, is_passed_over, field_after, none_is_absent, no_child}
use Rattle.cdx_schema.proofs.XmlLaw.{is_list_kind}
use Rattle.cdx_schema.proofs.Sound.{sound_xml, all_sound, sound, sound_parts, whole_kind}
use Rattle.cdx_schema.proofs.Commute.{no_child_row, filled_whole}
use Rattle.cdx_schema.proofs.Basics.{more_is}

pub settled_more : (k : Kind) (t : Tree) (ts : Trees) → list_settled k (more t ts) ≡ items (more t ts)
settled_more a_tools t ts = refl
settled_more _ t ts = refl

list_there : (k : Kind) (ts : Trees) → is_absent (list_settled k ts) ≡ false
list_there a_tools none = refl
list_there a_tools (more t ts) = refl
list_there _ ts = refl

pub settled_there : (t : Tree) (k : Kind) → is_absent (settled t k) ≡ is_absent t
unfolding settled
settled_there (items ts) k = list_there k (items_settled ts (held_kind k))
settled_there _ k = refl

-- ---- a version

no_parts : (w l : SpecVersion) → settled (kept w l (fields tools_object (two absent absent)) a_tools) a_tools ≡ fields tools_object (two absent absent)
unfolding kept settled rows
no_parts V1_3 l = refl
no_parts V1_4 l = refl
no_parts V1_5 l = refl

none_kept : (w l : SpecVersion) (k : Kind) → settled (kept w l (list_settled k none) k) k ≡ list_settled k none
unfolding kept settled
none_kept w l a_tools = no_parts w l
none_kept w l _ = refl

entry_settled : (t : Tree) → settled t an_entry ≡ settled t (a_record classification)
unfolding settled
entry_settled absent = refl
entry_settled _ = refl

third_settled : (us : Trees) → settled (field 2 us) (a_record classification) ≡ field 2 (rows_settled us (rows service_data))
unfolding settled rows
third_settled none = refl
third_settled (more a none) = refl
third_settled (more a (more b none)) = refl
third_settled (more a (more b (more c us))) = refl

before_settled : (k : Kind) (n : Name) (us vs : Trees) → rows_settled us (rows n) ≡ rows_settled vs (rows n) → settled (before_1_5 k n us) k ≡ settled (before_1_5 k n vs) k
unfolding settled
before_settled a_tools tools_object us vs h = refl
before_settled a_tools n us vs h = ap (fields n) h
before_settled an_entry service_data us vs h = entry_settled (field 2 us) ∙ (third_settled us ∙ (ap (field 2) h ∙ (sym (third_settled vs) ∙ sym (entry_settled (field 2 vs)))))
before_settled an_entry n us vs h = ap (fields n) h
before_settled _ n us vs h = ap (fields n) h

record_settled : (w : SpecVersion) (k : Kind) (n : Name) (us vs : Trees) → rows_settled us (rows n) ≡ rows_settled vs (rows n) → settled (kept_record w k n us) k ≡ settled (kept_record w k n vs) k
unfolding settled
record_settled V1_3 k n us vs h = before_settled k n us vs h
record_settled V1_4 k n us vs h = before_settled k n us vs h
record_settled V1_5 k n us vs h = ap (fields n) h

row_settled : (b : Bool) (t u : Tree) (k : Kind) → settled t k ≡ settled u k → settled (if b then t else absent) k ≡ settled (if b then u else absent) k
row_settled true t u k h = h
row_settled false t u k h = refl

mutual
  unfolding kept settled

  kept_settled : (w l : SpecVersion) (t : Tree) (k : Kind) → settled (kept w l (settled t k) k) k ≡ settled (kept w l t k) k
  kept_settled w l (items none) k = none_kept w l k
  kept_settled w l (items (more t ts)) k =
      ap (λ x. settled (kept w l x k) k) (settled_more k (settled t (held_kind k)) (items_settled ts (held_kind k)))
      ∙ ap (list_settled k) (more_is (kept_settled w l t (held_kind k)) (items_kept_settled w l ts (held_kind k)))
  kept_settled w l (fields n ts) k = record_settled w k n (rows_kept w l (rows_settled ts (rows n)) (rows n)) (rows_kept w l ts (rows n)) (rows_kept_settled w l ts (rows n))
  kept_settled w l _ k = refl

  items_kept_settled : (w l : SpecVersion) (ts : Trees) (k : Kind) → items_settled (items_kept w l (items_settled ts k) k) k ≡ items_settled (items_kept w l ts k) k
  items_kept_settled w l none k = refl
  items_kept_settled w l (more t ts) k = more_is (kept_settled w l t k) (items_kept_settled w l ts k)

  rows_kept_settled : (w l : SpecVersion) (ts : Trees) (rs : List Row) → rows_settled (rows_kept w l (rows_settled ts rs) rs) rs ≡ rows_settled (rows_kept w l ts rs) rs
  rows_kept_settled w l none rs = refl
  rows_kept_settled w l (more t ts) [] = refl
  rows_kept_settled w l (more t ts) (r ∷ rs) = more_is (row_settled (knows r.since w) (kept w l (settled t r.kind) r.kind) (kept w l t r.kind) r.kind (kept_settled w l t r.kind)) (rows_kept_settled w l ts rs)

-- The version keeps the same of the same.
pub kept_alike : (w l : SpecVersion) (b c : Tree) (k : Kind) → settled b k ≡ settled c k → settled (kept w l b k) k ≡ settled (kept w l c k) k
kept_alike w l b c k e = sym (kept_settled w l b k) ∙ (ap (λ x. settled (kept w l x k) k) e ∙ kept_settled w l c k)

-- ---- a trip

no_child_settled : (ts : Trees) (rs : List Row) → no_child (rows_settled ts rs) rs ≡ no_child ts rs
unfolding settled
no_child_settled none rs = refl
no_child_settled (more t ts) [] = refl
no_child_settled (more t ts) (r ∷ rs) = no_child_row r (settled t r.kind) t (rows_settled ts rs) ts rs (settled_there t r.kind) (no_child_settled ts rs)

pub hollow_settled : (t : Tree) (k : Kind) → whole_kind k ≡ true → is_hollow (settled t k) ≡ is_hollow t
unfolding settled is_hollow
hollow_settled (items ts) (a_record m) e = refl
hollow_settled (items ts) _ e = absurd (true≢false (sym e))
hollow_settled (fields n ts) k e = no_child_settled ts (rows n)
hollow_settled _ k e = refl

list_passed : (k : Kind) (ts : Trees) → is_passed_over (list_settled k ts) ≡ false
list_passed a_tools none = refl
list_passed a_tools (more t ts) = refl
list_passed _ ts = refl

pub passed_settled : (t : Tree) (k : Kind) → is_passed_over (settled t k) ≡ is_passed_over t
unfolding settled is_hollow
passed_settled (fields contact ts) k = no_child_settled ts (rows contact)
passed_settled (items ts) k = list_passed k (items_settled ts (held_kind k))
passed_settled _ k = refl

none_settled : (n : Need) (u : Tree) (k : Kind) → is_list_kind k ≡ true → settled (none_is_absent n u) k ≡ none_is_absent n (settled u k)
unfolding settled
none_settled optional absent (a_list x) e = refl
none_settled optional (text s) (a_list x) e = refl
none_settled optional (number s) (a_list x) e = refl
none_settled optional (boolean s) (a_list x) e = refl
none_settled optional (items none) (a_list x) e = refl
none_settled optional (items (more t ts)) (a_list x) e = refl
none_settled optional (fields n ts) (a_list x) e = refl
none_settled optional u _ e = absurd (true≢false (sym e))
none_settled _ u k e = refl

field_alike : (r : Row) (t u x y : Tree) → sound_xml r.xml r.need r.kind ≡ true → (whole_kind r.kind ≡ true → is_hollow t ≡ is_hollow u) → settled x r.kind ≡ settled y r.kind
    → settled (field_after r t x) r.kind ≡ settled (field_after r u y) r.kind
field_alike r t u x y s h e = by r.xml s
  where
    by : (z : Spelled) → sound_xml z r.need r.kind ≡ true → settled (field_after (record r { xml = z }) t x) r.kind ≡ settled (field_after (record r { xml = z }) u y) r.kind
    by (filled_child q) g = ap (λ b. settled (if b then absent else x) r.kind) (h (filled_whole r.need r.kind g)) ∙ at (is_hollow u)
      where
        at : (b : Bool) → settled (if b then absent else x) r.kind ≡ settled (if b then absent else y) r.kind
        at true = refl
        at false = e
    by (children q) g = none_settled r.need x r.kind g ∙ (ap (none_is_absent r.need) e ∙ sym (none_settled r.need y r.kind g))
    by _ g = e

none_bare : (k : Kind) → settled (bare (list_settled k none)) k ≡ list_settled k none
unfolding bare settled rows
none_bare a_tools = refl
none_bare _ = refl

item_alike : (b c : Bool) (t u : Tree) (ts us : Trees) (k : Kind) → b ≡ c → settled t k ≡ settled u k → items_settled ts k ≡ items_settled us k
    → items_settled (if b then ts else more t ts) k ≡ items_settled (if c then us else more u us) k
unfolding settled
item_alike b true t u ts us k e p q = ap (λ x. items_settled (if x then ts else more t ts) k) e ∙ q
item_alike b false t u ts us k e p q = ap (λ x. items_settled (if x then ts else more t ts) k) e ∙ more_is p q

mutual
  unfolding bare settled

  bare_settled : (t : Tree) (k : Kind) → settled (bare (settled t k)) k ≡ settled (bare t) k
  bare_settled (items none) k = none_bare k
  bare_settled (items (more t ts)) k =
      ap (λ x. settled (bare x) k) (settled_more k (settled t (held_kind k)) (items_settled ts (held_kind k)))
      ∙ ap (list_settled k) (item_alike (is_passed_over (settled t (held_kind k))) (is_passed_over t) (bare (settled t (held_kind k))) (bare t) (items_bare (items_settled ts (held_kind k))) (items_bare ts) (held_kind k) (passed_settled t (held_kind k)) (bare_settled t (held_kind k)) (items_bare_settled ts (held_kind k)))
  bare_settled (fields n ts) k = ap (fields n) (rows_bare_settled ts (rows n) (sound n))
  bare_settled _ k = refl

  items_bare_settled : (ts : Trees) (k : Kind) → items_settled (items_bare (items_settled ts k)) k ≡ items_settled (items_bare ts) k
  items_bare_settled none k = refl
  items_bare_settled (more t ts) k = item_alike (is_passed_over (settled t k)) (is_passed_over t) (bare (settled t k)) (bare t) (items_bare (items_settled ts k)) (items_bare ts) k (passed_settled t k) (bare_settled t k) (items_bare_settled ts k)

  rows_bare_settled : (ts : Trees) (rs : List Row) → all_sound rs ≡ true → rows_settled (rows_bare (rows_settled ts rs) rs) rs ≡ rows_settled (rows_bare ts rs) rs
  rows_bare_settled none rs s = refl
  rows_bare_settled (more t ts) [] s = refl
  rows_bare_settled (more t ts) (r ∷ rs) s = more_is
      (field_alike r (settled t r.kind) t (bare (settled t r.kind)) (bare t) (sound_parts r rs s).1 (hollow_settled t r.kind) (bare_settled t r.kind))
      (rows_bare_settled ts rs (sound_parts r rs s).2)

-- The trip makes the same of the same.
pub bare_alike : (b c : Tree) (k : Kind) → settled b k ≡ settled c k → settled (bare b) k ≡ settled (bare c) k
bare_alike b c k e = sym (bare_settled b k) ∙ (ap (λ x. settled (bare x) k) e ∙ bare_settled c k)
