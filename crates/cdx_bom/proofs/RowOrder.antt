-- Rows that are put into an object: a member whose name comes before theirs stays before them.
use Rattle.std.proofs.Common.{◌≡◌, ℕ, List, [], ◌∷◌, take, drop, codes, Bool, true, false, ◌&&◌, if◌then◌else◌, Ordering, Less, Equal, Greater, nat_cmp, true≢false, refl, sym, ap, ◌∙◌}
use Rattle.std.proofs.lemmas.Cmp.{nat_list_cmp_total}
use Rattle.std.specs.Cmp.Lexicographic.{slice_cmp}
use Rattle.std.specs.Ordering.{match_ordering, ordering_reverse}
use Rattle.serde_json.specs.Data.{Data, string, Members, no_members, member, put}
use Rattle.serde_json.proofs.OnLiterals.{serde_json_on_literals}
use Rattle.cdx_models.specs.declared.bom.SpecVersion.{SpecVersion}
use Rattle.cdx_models.specs.declared.bom.SpecVersion.TheVariants.{V1_3, V1_4, V1_5}
use Rattle.cdx_models.specs.Versions.{knows}
use Rattle.cdx_models.specs.Trees.{bill, Tree, absent, Trees, none, more, trees, is_absent}
use Rattle.cdx_schema.specs.Kinds.{components, Kind, a_list, Need, optional, required, required_first, else_empty, Row}
use Rattle.cdx_schema.specs.Kinds as kinds
use Rattle.cdx_schema.specs.Table.{rows}
use Rattle.cdx_schema.specs.Groups.{group}
use Rattle.cdx_schema.specs.Keeping.{kept, keep}
use Rattle.cdx_schema.specs.JsonSpelling.{jspell, is_written, heading}
use Rattle.cdx_schema.proofs.JsonBack.{and_true}
use Rattle.cdx_json.specs.KeptRows.{put_kept, put_filled, put_need, put_member, late_put, put_since, rows_put}

-- ---- names in order

abbrev is_less : Ordering → Bool
is_less Less = true
is_less o = false

abbrev comes_before : List ℕ → List ℕ → Bool
comes_before q n = is_less (slice_cmp nat_cmp q n)

abbrev is_later : List ℕ → kinds.Member → Bool
is_later q (kinds.member n) = comes_before q n
is_later q kinds.merged = false

-- whether the name comes before those of the rows
abbrev all_later : List ℕ → List Row → Bool
all_later q [] = true
all_later q (r ∷ rs) = is_later q r.json && all_later q rs

-- whether it comes before those of the members, which are in order
abbrev leads : List ℕ → Members → Bool
leads q no_members = true
leads q (member n x ms) = comes_before q n

less_is : (o : Ordering) → is_less o ≡ true → o ≡ Less
less_is Less h = refl
less_is Equal h = absurd (true≢false (sym h))
less_is Greater h = absurd (true≢false (sym h))

comes_after : (q n : List ℕ) → comes_before q n ≡ true → slice_cmp nat_cmp n q ≡ Greater
comes_after q n h = nat_list_cmp_total.antisymm n q ∙ ap ordering_reverse (less_is (slice_cmp nat_cmp q n) h)

-- ---- a member stays before what is put later

behind_if : (b : Bool) (q : List ℕ) (d : Data) (x y : Members) → (if b then member q d x else member q d y) ≡ member q d (if b then x else y)
behind_if true q d x y = refl
behind_if false q d x y = refl

put_behind : (n q : List ℕ) (x d : Data) (ms : Members) → comes_before q n ≡ true → put n x (member q d ms) ≡ member q d (put n x ms)
put_behind n q x d ms h = ap (λ o. match_ordering o (member n x (member q d ms)) (member q x ms) (member q d (put n x ms))) (comes_after q n h)

kept_behind : (n q : List ℕ) (k : Kind) (t : Tree) (w : SpecVersion) (d : Data) (ms : Members) → comes_before q n ≡ true → put_kept n k t w (member q d ms) ≡ member q d (put_kept n k t w ms)
unfolding put_kept
kept_behind n q k t w d ms h =
    ap (λ x. if is_absent (keep w t k) then member q d ms else x) (put_behind n q (jspell (keep w t k) w k) d ms h) ∙ behind_if (is_absent (keep w t k)) q d ms _

need_behind : (m : Need) (n q : List ℕ) (k : Kind) (t : Tree) (w : SpecVersion) (d : Data) (ms : Members) → comes_before q n ≡ true → put_need m n k t w (member q d ms) ≡ member q d (put_need m n k t w ms)
unfolding put_filled
need_behind optional n q k t w d ms h = kept_behind n q k t w d ms h
need_behind required n q k t w d ms h = kept_behind n q k t w d ms h
need_behind required_first n q k t w d ms h = kept_behind n q k t w d ms h
need_behind else_empty n q k t w d ms h =
    ap (λ x. if is_written else_empty (keep w t k) then x else member q d ms) (put_behind n q (jspell (keep w t k) w k) d ms h) ∙ behind_if (is_written else_empty (keep w t k)) q d _ ms

member_behind : (j : kinds.Member) (m : Need) (q : List ℕ) (k : Kind) (t : Tree) (w : SpecVersion) (d : Data) (ms : Members) → is_later q j ≡ true → put_member j m k t w (member q d ms) ≡ member q d (put_member j m k t w ms)
member_behind (kinds.member n) m q k t w d ms h = need_behind m n q k t w d ms h
member_behind kinds.merged m q k t w d ms h = absurd (true≢false (sym h))

since_behind : (s w : SpecVersion) (q : List ℕ) (d : Data) (old new new' : Members) → new' ≡ member q d new → put_since s w (member q d old) new' ≡ member q d (put_since s w old new)
unfolding late_put
since_behind V1_3 w q d old new new' is = is
since_behind V1_4 w q d old new new' is = ap (λ x. if knows V1_4 w then x else member q d old) is ∙ behind_if (knows V1_4 w) q d new old
since_behind V1_5 w q d old new new' is = ap (λ x. if knows V1_5 w then x else member q d old) is ∙ behind_if (knows V1_5 w) q d new old

rows_behind : (ts : Trees) (w : SpecVersion) (rs : List Row) (q : List ℕ) (d : Data) (ms : Members) → all_later q rs ≡ true → rows_put ts w rs (member q d ms) ≡ member q d (rows_put ts w rs ms)
unfolding rows_put
rows_behind none w rs q d ms h = refl
rows_behind (more t ts) w [] q d ms h = refl
rows_behind (more t ts) w (r ∷ rs) q d ms h =
    let both = and_true (is_later q r.json) (all_later q rs) h in
    ap (rows_put ts w rs) (since_behind r.since w q d ms _ _ (member_behind r.json r.need q r.kind t w d ms both.0)) ∙ rows_behind ts w rs q d _ both.1

-- ---- a name that comes before the rows still comes before all members

leads_if : (b : Bool) (q : List ℕ) (x y : Members) → leads q x ≡ true → leads q y ≡ true → leads q (if b then x else y) ≡ true
leads_if true q x y h i = h
leads_if false q x y h i = i

leads_either : (o : Ordering) (q n l : List ℕ) (x e : Data) (ms new : Members) → comes_before q n ≡ true → comes_before q l ≡ true → leads q (match_ordering o (member n x (member l e ms)) (member l x ms) (member l e new)) ≡ true
leads_either Less q n l x e ms new h i = h
leads_either Equal q n l x e ms new h i = i
leads_either Greater q n l x e ms new h i = i

leads_put : (n q : List ℕ) (x : Data) (ms : Members) → comes_before q n ≡ true → leads q ms ≡ true → leads q (put n x ms) ≡ true
leads_put n q x no_members h i = h
leads_put n q x (member l e ms) h i = leads_either (slice_cmp nat_cmp n l) q n l x e ms (put n x ms) h i

leads_kept : (n q : List ℕ) (k : Kind) (t : Tree) (w : SpecVersion) (ms : Members) → comes_before q n ≡ true → leads q ms ≡ true → leads q (put_kept n k t w ms) ≡ true
unfolding put_kept
leads_kept n q k t w ms h i = leads_if (is_absent (keep w t k)) q ms _ i (leads_put n q (jspell (keep w t k) w k) ms h i)

leads_need : (m : Need) (n q : List ℕ) (k : Kind) (t : Tree) (w : SpecVersion) (ms : Members) → comes_before q n ≡ true → leads q ms ≡ true → leads q (put_need m n k t w ms) ≡ true
unfolding put_filled
leads_need optional n q k t w ms h i = leads_kept n q k t w ms h i
leads_need required n q k t w ms h i = leads_kept n q k t w ms h i
leads_need required_first n q k t w ms h i = leads_kept n q k t w ms h i
leads_need else_empty n q k t w ms h i = leads_if (is_written else_empty (keep w t k)) q _ ms (leads_put n q (jspell (keep w t k) w k) ms h i) i

leads_member : (j : kinds.Member) (m : Need) (q : List ℕ) (k : Kind) (t : Tree) (w : SpecVersion) (ms : Members) → is_later q j ≡ true → leads q ms ≡ true → leads q (put_member j m k t w ms) ≡ true
leads_member (kinds.member n) m q k t w ms h i = leads_need m n q k t w ms h i
leads_member kinds.merged m q k t w ms h i = absurd (true≢false (sym h))

leads_since : (s w : SpecVersion) (q : List ℕ) (old new : Members) → leads q old ≡ true → leads q new ≡ true → leads q (put_since s w old new) ≡ true
unfolding late_put
leads_since V1_3 w q old new h i = i
leads_since V1_4 w q old new h i = leads_if (knows V1_4 w) q new old i h
leads_since V1_5 w q old new h i = leads_if (knows V1_5 w) q new old i h

rows_led : (ts : Trees) (w : SpecVersion) (rs : List Row) (q : List ℕ) (ms : Members) → all_later q rs ≡ true → leads q ms ≡ true → leads q (rows_put ts w rs ms) ≡ true
unfolding rows_put
rows_led none w rs q ms h i = i
rows_led (more t ts) w [] q ms h i = i
rows_led (more t ts) w (r ∷ rs) q ms h i =
    let both = and_true (is_later q r.json) (all_later q rs) h in
    rows_led ts w rs q _ both.1 (leads_since r.since w q ms _ i (leads_member r.json r.need q r.kind t w ms both.0 i))

put_first : (q : List ℕ) (x : Data) (ms : Members) → leads q ms ≡ true → put q x ms ≡ member q x ms
put_first q x no_members h = refl
put_first q x (member l e ms) h = ap (λ o. match_ordering o (member q x (member l e ms)) (member l x ms) (member l e (put q x ms))) (less_is (slice_cmp nat_cmp q l) h)

-- ---- the rows of a bill

abbrev before : List Row
before = take 4 (rows bill)

abbrev after : List Row
after = drop 5 (rows bill)

all_after_format : (all_later (codes "bomFormat") before ≡ true) × (all_later (codes "bomFormat") after ≡ true)
unfolding rows serde_json_on_literals
all_after_format = (refl, refl)

others_after_components : (all_later (codes "components") before ≡ true) × (all_later (codes "components") after ≡ true)
unfolding rows serde_json_on_literals
others_after_components = (refl, refl)

format_before_components : comes_before (codes "bomFormat") (codes "components") ≡ true
unfolding serde_json_on_literals
format_before_components = refl

-- what comes before the components, they, and what comes after
in_steps : (a b d e c f : Tree) (us : Trees) (w : SpecVersion) (ms : Members) → rows_put us w (group 1 bill) (rows_put (trees (a ∷ b ∷ d ∷ e ∷ c ∷ f ∷ [])) w (group 0 bill) ms)
    ≡ rows_put (more f us) w after (put_kept (codes "components") (a_list components) c w (rows_put (trees (a ∷ b ∷ d ∷ e ∷ [])) w before ms))
unfolding rows_put rows
in_steps a b d e c f us w ms = refl

none_put : (w : SpecVersion) (ms : Members) → put_kept (codes "components") (a_list components) absent w ms ≡ ms
unfolding put_kept kept
none_put w ms = refl

some_put : (c : Tree) (w : SpecVersion) (ms : Members) → is_absent (keep w c (a_list components)) ≡ false
    → put_kept (codes "components") (a_list components) c w ms ≡ put (codes "components") (jspell (keep w c (a_list components)) w (a_list components)) ms
unfolding put_kept
some_put c w ms h = ap (λ b. if b then ms else put (codes "components") (jspell (keep w c (a_list components)) w (a_list components)) ms) h

-- A bill's members are its format, its components and those of the other rows.
pub stands_beside : (a b d e c f : Tree) (us : Trees) (w : SpecVersion) → is_absent (keep w c (a_list components)) ≡ false
    → rows_put us w (group 1 bill) (rows_put (trees (a ∷ b ∷ d ∷ e ∷ c ∷ f ∷ [])) w (group 0 bill) (heading bill))
    ≡ member (codes "bomFormat") (string (codes "CycloneDX")) (member (codes "components") (jspell (keep w c (a_list components)) w (a_list components)) (rows_put us w (group 1 bill) (rows_put (trees (a ∷ b ∷ d ∷ e ∷ absent ∷ f ∷ [])) w (group 0 bill) no_members)))
stands_beside a b d e c f us w there =
    let four = trees (a ∷ b ∷ d ∷ e ∷ []) in
    let format = string (codes "CycloneDX") in
    let list = jspell (keep w c (a_list components)) w (a_list components) in
    let ms = rows_put four w before no_members in
    let led = rows_led four w before (codes "components") no_members others_after_components.0 refl in
    in_steps a b d e c f us w (heading bill)
    ∙ ap (λ x. rows_put (more f us) w after (put_kept (codes "components") (a_list components) c w x)) (rows_behind four w before (codes "bomFormat") format no_members all_after_format.0)
    ∙ ap (rows_put (more f us) w after) (kept_behind (codes "components") (codes "bomFormat") (a_list components) c w format ms format_before_components)
    ∙ rows_behind (more f us) w after (codes "bomFormat") format (put_kept (codes "components") (a_list components) c w ms) all_after_format.1
    ∙ ap (λ x. member (codes "bomFormat") format (rows_put (more f us) w after x)) (some_put c w ms there ∙ put_first (codes "components") list ms led)
    ∙ ap (member (codes "bomFormat") format) (rows_behind (more f us) w after (codes "components") list ms others_after_components.1
    ∙ ap (λ x. member (codes "components") list (rows_put (more f us) w after x)) (sym (none_put w ms))
    ∙ ap (member (codes "components") list) (sym (in_steps a b d e absent f us w no_members)))
