-- What a version keeps of a record and how it is written, so that each row is one word.
use Rattle.std.specs.Prelude.{ℕ, List, [], ◌∷◌, if◌then◌else◌}
use Rattle.serde_json.specs.Data.{Members, put}
use Rattle.cdx_models.specs.declared.bom.SpecVersion.{SpecVersion}
use Rattle.cdx_models.specs.declared.bom.SpecVersion.TheVariants.{V1_3, V1_4, V1_5}
use Rattle.cdx_models.specs.Versions.{knows}
use Rattle.cdx_models.specs.Trees.{Tree, absent, Trees, none, more, is_absent}
use Rattle.cdx_schema.specs.Kinds.{Kind, Member, member, merged, Need, optional, required, required_first, else_empty, Row}
use Rattle.cdx_schema.specs.Keeping.{kept, keep}
use Rattle.cdx_schema.specs.JsonSpelling.{jspell, is_written, own_members}

-- ---- what is kept

-- what a version keeps of a row that is known from `since` on
unfoldable pub late_kept : SpecVersion → SpecVersion → Tree → Tree
late_kept since w t = if knows since w then t else absent

abbrev pub kept_since : SpecVersion → SpecVersion → Tree → Tree
kept_since V1_3 w t = t
kept_since V1_4 w t = late_kept V1_4 w t
kept_since V1_5 w t = late_kept V1_5 w t

unfoldable pub rows_held : SpecVersion → SpecVersion → Trees → List Row → Trees
rows_held w l none rs = none
rows_held w l (more t ts) [] = none
rows_held w l (more t ts) (r ∷ rs) = more (kept_since r.since w (kept w l t r.kind)) (rows_held w l ts rs)

-- ---- what is written

-- a field as the version keeps it, under its name, where it is there
unfoldable pub put_kept : List ℕ → Kind → Tree → SpecVersion → Members → Members
put_kept name k t w ms = if is_absent (keep w t k) then ms else put name (jspell (keep w t k) w k) ms

-- the same for a list that is not written where it is empty
unfoldable pub put_filled : List ℕ → Kind → Tree → SpecVersion → Members → Members
put_filled name k t w ms = if is_written else_empty (keep w t k) then put name (jspell (keep w t k) w k) ms else ms

-- a record whose members stand in another's object
unfoldable pub put_own : Kind → Tree → SpecVersion → Members → Members
put_own k t w ms = own_members (keep w t k) w ms

abbrev pub put_need : Need → List ℕ → Kind → Tree → SpecVersion → Members → Members
put_need optional name k t w ms = put_kept name k t w ms
put_need required name k t w ms = put_kept name k t w ms
put_need required_first name k t w ms = put_kept name k t w ms
put_need else_empty name k t w ms = put_filled name k t w ms

abbrev pub put_member : Member → Need → Kind → Tree → SpecVersion → Members → Members
put_member (member name) need k t w ms = put_need need name k t w ms
put_member merged need k t w ms = put_own k t w ms

-- the members after a row that is known from `since` on
unfoldable pub late_put : SpecVersion → SpecVersion → Members → Members → Members
late_put since w old new = if knows since w then new else old

abbrev pub put_since : SpecVersion → SpecVersion → Members → Members → Members
put_since V1_3 w old new = new
put_since V1_4 w old new = late_put V1_4 w old new
put_since V1_5 w old new = late_put V1_5 w old new

-- The fields of the rows, set one after the other.
unfoldable pub rows_put : Trees → SpecVersion → List Row → Members → Members
rows_put none w rs ms = ms
rows_put (more t ts) w [] ms = ms
rows_put (more t ts) w (r ∷ rs) ms = rows_put ts w rs (put_since r.since w ms (put_member r.json r.need r.kind t w ms))
