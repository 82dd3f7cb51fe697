-- What is kept and written by rows is what the schema keeps and writes.
use Rattle.std.proofs.Common.{◌≡◌, Bool, true, false, Result, Ok, Err, IfOk, ◌&&◌, not, if◌then◌else◌, List, [], ◌∷◌, refl, sym, ap, ◌∙◌}
use Rattle.serde_json.specs.Data.{Members, no_members, object}
use Rattle.cdx_models.specs.declared.bom.SpecVersion.{SpecVersion}
use Rattle.cdx_models.specs.declared.bom.SpecVersion.TheVariants.{V1_3, V1_4, V1_5}
use Rattle.cdx_models.specs.Versions.{knows}
use Rattle.cdx_models.specs.Trees.{Name, Tree, absent, text, number, boolean, items, fields, fields_of, Trees, none, more, is_absent}
use Rattle.cdx_schema.specs.Kinds.{Kind, a_record, Member, member, merged, Need, optional, required, required_first, else_empty, Row}
use Rattle.cdx_schema.specs.Table.{rows}
use Rattle.cdx_schema.specs.Keeping.{kept, keep, rows_kept}
use Rattle.cdx_schema.specs.JsonSpelling.{jspell, is_written, set_member, own_members, members_spelled, heading}
use Rattle.cdx_json.specs.KeptRows.{late_kept, kept_since, rows_held, put_kept, put_filled, put_own, put_member, late_put, put_since, rows_put}

-- ---- what is kept

same_kept_since : (s w : SpecVersion) (t : Tree) → kept_since s w t ≡ (if knows s w then t else absent)
unfolding late_kept
same_kept_since V1_3 w t = refl
same_kept_since V1_4 w t = refl
same_kept_since V1_5 w t = refl

pub rows_held_are : (w l : SpecVersion) (ts : Trees) (rs : List Row) → rows_held w l ts rs ≡ rows_kept w l ts rs
unfolding rows_held kept
rows_held_are w l none rs = refl
rows_held_are w l (more t ts) [] = refl
rows_held_are w l (more t ts) (r ∷ rs) =
    ap (λ u. more u (rows_held w l ts rs)) (same_kept_since r.since w (kept w l t r.kind)) ∙ ap (more (if knows r.since w then kept w l t r.kind else absent)) (rows_held_are w l ts rs)

record_kept : (w l : SpecVersion) (n : Name) (ts : Trees) → fields n (rows_kept w l ts (rows n)) ≡ kept w l (fields n ts) (a_record n)
unfolding kept
record_kept V1_3 l n ts = refl
record_kept V1_4 l n ts = refl
record_kept V1_5 l n ts = refl

pub record_held : (w l : SpecVersion) (n : Name) (t : Tree) → t ≡ fields n (fields_of t) → fields n (rows_held w l (fields_of t) (rows n)) ≡ kept w l t (a_record n)
record_held w l n t e = ap (fields n) (rows_held_are w l (fields_of t) (rows n)) ∙ record_kept w l n (fields_of t) ∙ ap (λ u. kept w l u (a_record n)) (sym e)

-- ---- what is written

abbrev put_when : Bool → Members → Members → Members
put_when b ms new = if b then new else ms

not_there : (b : Bool) (x y : Members) → (if b then x else y) ≡ (if not b then y else x)
not_there true x y = refl
not_there false x y = refl

-- what the official clause does with a row that the version knows
abbrev set_row : Member → Need → Kind → Tree → SpecVersion → Members → Members
set_row m need k t w ms = if is_written need (keep w t k) then set_member m (jspell (keep w t k) w k) (own_members (keep w t k) w) ms else ms

own_absent : (b : Bool) (t : Tree) (w : SpecVersion) (ms : Members) → is_absent t ≡ b → own_members t w ms ≡ (if not b then own_members t w ms else ms)
unfolding jspell
own_absent true absent w ms e = refl
own_absent true (text s) w ms e = absurd cc
own_absent true (number n) w ms e = absurd cc
own_absent true (boolean b) w ms e = absurd cc
own_absent true (items ts) w ms e = absurd cc
own_absent true (fields n ts) w ms e = absurd cc
own_absent false t w ms e = refl

-- a merged row is never one that is left out where it is empty, but its members would be none
own_filled : (t : Tree) (w : SpecVersion) (ms : Members) → own_members t w ms ≡ (if is_written else_empty t then own_members t w ms else ms)
unfolding jspell
own_filled absent w ms = refl
own_filled (text s) w ms = refl
own_filled (number n) w ms = refl
own_filled (boolean b) w ms = refl
own_filled (items none) w ms = refl
own_filled (items (more t ts)) w ms = refl
own_filled (fields n ts) w ms = refl

member_put : (m : Member) (need : Need) (k : Kind) (t : Tree) (w : SpecVersion) (ms : Members) → put_member m need k t w ms ≡ set_row m need k t w ms
unfolding put_kept put_filled put_own
member_put (member name) optional k t w ms = not_there (is_absent (keep w t k)) ms _
member_put (member name) required k t w ms = not_there (is_absent (keep w t k)) ms _
member_put (member name) required_first k t w ms = not_there (is_absent (keep w t k)) ms _
member_put (member name) else_empty k t w ms = refl
member_put merged optional k t w ms = own_absent (is_absent (keep w t k)) (keep w t k) w ms refl
member_put merged required k t w ms = own_absent (is_absent (keep w t k)) (keep w t k) w ms refl
member_put merged required_first k t w ms = own_absent (is_absent (keep w t k)) (keep w t k) w ms refl
member_put merged else_empty k t w ms = own_filled (keep w t k) w ms

same_put_since : (s w : SpecVersion) (old new : Members) → put_since s w old new ≡ (if knows s w then new else old)
unfolding late_put
same_put_since V1_3 w old new = refl
same_put_since V1_4 w old new = refl
same_put_since V1_5 w old new = refl

known : (b : Bool) (m : Member) (need : Need) (k : Kind) (t : Tree) (w : SpecVersion) (ms : Members)
    → (if b then set_row m need k t w ms else ms) ≡ (if b && is_written need (if b then keep w t k else absent) then set_member m (jspell (if b then keep w t k else absent) w k) (own_members (if b then keep w t k else absent) w) ms else ms)
known true m need k t w ms = refl
known false m need k t w ms = refl

pub rows_put_are : (ts : Trees) (w : SpecVersion) (rs : List Row) (ms : Members) → rows_put ts w rs ms ≡ members_spelled (rows_kept w w ts rs) w rs ms
unfolding rows_put jspell kept
rows_put_are none w rs ms = refl
rows_put_are (more t ts) w [] ms = refl
rows_put_are (more t ts) w (r ∷ rs) ms =
    ap (rows_put ts w rs) (same_put_since r.since w ms _ ∙ ap (λ x. if knows r.since w then x else ms) (member_put r.json r.need r.kind t w ms) ∙ known (knows r.since w) r.json r.need r.kind t w ms)
    ∙ rows_put_are ts w rs _

record_object : (n : Name) (w : SpecVersion) (ts : Trees) → heading n ≡ no_members → object (rows_put ts w (rows n) no_members) ≡ jspell (fields n (rows_kept w w ts (rows n))) w (a_record n)
unfolding jspell
record_object n w ts h = ap object (rows_put_are ts w (rows n) no_members) ∙ rw h refl

pub record_put : (n : Name) (w : SpecVersion) (t : Tree) → t ≡ fields n (fields_of t) → heading n ≡ no_members → object (rows_put (fields_of t) w (rows n) no_members) ≡ jspell (keep w t (a_record n)) w (a_record n)
record_put n w t e h = record_object n w (fields_of t) h ∙ ap (λ u. jspell u w (a_record n)) (record_kept w w n (fields_of t) ∙ ap (λ u. kept w w u (a_record n)) (sym e))

pub record_is_kept : {A E : Type 0} (see : A → Tree) (r : Result A E) (w l : SpecVersion) (n : Name) (t : Tree) → t ≡ fields n (fields_of t) → IfOk r (λ x. see x ≡ fields n (rows_held w l (fields_of t) (rows n))) → IfOk r (λ x. see x ≡ kept w l t (a_record n))
record_is_kept see (Ok x) w l n t e h = h ∙ record_held w l n t e
record_is_kept see (Err m) w l n t e h = tt
