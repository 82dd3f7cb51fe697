-- Components that are read apart from a bill's other members.
use Rattle.std.proofs.Common.{◌≡◌, ℕ, List, Bool, true, false, if◌then◌else◌, bytes_eq, refl, sym, ap, ◌∙◌}
use Rattle.std.proofs.lemmas.Slice.Eq.{bytes_eq-Decides}
use Rattle.serde_json.specs.Data.{Members}
use Rattle.serde_json.specs.Find.{get_member}
use Rattle.cdx_models.specs.declared.bom.SpecVersion.{SpecVersion}
use Rattle.cdx_models.specs.Trees.{bill}
use Rattle.cdx_schema.specs.Depth.{Depth}
use Rattle.cdx_schema.specs.Kinds.{Kind, Need}
use Rattle.cdx_schema.specs.Table.{rows, list}
use Rattle.cdx_schema.specs.JsonReading.{Object, Found, seen}
use Rattle.cdx_json.specs.ByRows.{member_of, rows_made}
use Rattle.cdx_json.specs.Groups.{group_read}
use Rattle.cdx_json.proofs.Rows.{as_seen, seen_is}
use Rattle.cdx_bom.specs.ReadApart.{with_member, with_components}

chosen : (o p : Object) (name other : List ℕ) (b : Bool) → bytes_eq other name ≡ b → (b ≡ false → o other ≡ p other) → o other ≡ (if b then o name else p other)
chosen o p name other true e h = ap o ((bytes_eq-Decides other name).0 e)
chosen o p name other false e h = h refl

-- An object that has what another has under all other names is the other with what it has under this one.
pub is_with : (name : List ℕ) (o p : Object) → ((other : List ℕ) → bytes_eq other name ≡ false → o other ≡ p other) → o ≡ with_member name (o name) p
is_with name o p h = λ k other. chosen o p name other (bytes_eq other name) refl (h other) k

-- Members that are found alike are seen alike.
pub seen_alike : (ms ns : Members) (name : List ℕ) → ((other : List ℕ) → bytes_eq other name ≡ false → get_member other ns ≡ get_member other ms) → (other : List ℕ) → bytes_eq other name ≡ false → seen ms other ≡ seen ns other
seen_alike ms ns name h other e = seen_is ms other ∙ ap as_seen (sym (h other e)) ∙ sym (seen_is ns other)

-- A row's reading is that of what stands under its name.
pub member_held : (o : Object) (name : List ℕ) (need : Need) (kind : Kind) (v : SpecVersion) (d : Depth) → member_of o name need kind v d ≡ member_of (λ other. o name) name need kind v d
unfolding member_of
member_held o name need kind v d = refl

-- The second group of rows has no components.
pub relations_apart : (held : Found) (o : Object) (v : SpecVersion) (d : Depth) → group_read 1 bill (with_components held o) v d ≡ group_read 1 bill o v d
unfolding rows_made rows list member_of
relations_apart held o v d = refl
