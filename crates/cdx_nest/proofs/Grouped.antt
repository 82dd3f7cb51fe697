-- Metadata, read, kept and written group by group.
use Rattle.std.proofs.Common.{◌≡◌, ◌++◌, length, refl, sym, ap, ◌∙◌}
use Rattle.serde_json.specs.Data.{Members}
use Rattle.cdx_models.specs.declared.bom.SpecVersion.{SpecVersion}
use Rattle.cdx_models.specs.Trees.{metadata, Tree, fields, Trees, ◌⧺◌}
use Rattle.cdx_models.proofs.Lists.{count}
use Rattle.cdx_schema.specs.Table.{rows}
use Rattle.cdx_schema.specs.Depth.{Depth}
use Rattle.cdx_schema.specs.JsonReading.{Object}
use Rattle.cdx_json.specs.ByRows.{rows_made, own_made, by_rows, as_record}
use Rattle.cdx_json.specs.KeptRows.{rows_held, rows_put}
use Rattle.cdx_json.proofs.ByRowsLaws.{rows_split, rows_then, then_same}
use Rattle.cdx_nest.specs.declared.metadata.Metadata.{Metadata}
use Rattle.cdx_nest.specs.Trees.{makers, terms}
use Rattle.cdx_schema.specs.Groups.{group}
use Rattle.cdx_json.specs.Groups.{group_read}
use Rattle.cdx_nest.specs.Groups.{metadata_by_groups}
use Rattle.cdx_json.proofs.Groups.{held_split, two_equal, put_split}

metadata_rows : rows metadata ≡ group 0 metadata ++ group 1 metadata
unfolding rows
metadata_rows = refl

pub metadata_in_groups : (o : Object) (v : SpecVersion) (d : Depth) → by_rows metadata o v d ≡ metadata_by_groups o v d
unfolding metadata_by_groups
metadata_in_groups o v d =
    let own = own_made o v d in
    ap (λ rs. rows_made o own rs v d (as_record metadata)) metadata_rows
    ∙ rows_split o own (group 0 metadata) (group 1 metadata) v d (as_record metadata)
    ∙ then_same (group_read 0 metadata o v d) _ _ (λ a. rows_then o own (group 1 metadata) v d (λ us. as_record metadata (a ⧺ us)))

makers_count : (m : Metadata) → count (makers m) ≡ length (group 0 metadata)
unfolding rows
makers_count m = refl

pub metadata_kept : (w l : SpecVersion) (t : Tree) (m : Metadata) (a b : Trees) → t ≡ fields metadata (a ⧺ b)
    → a ≡ rows_held w l (makers m) (group 0 metadata) → b ≡ rows_held w l (terms m) (group 1 metadata) → t ≡ fields metadata (rows_held w l (makers m ⧺ terms m) (rows metadata))
metadata_kept w l t m a b is p q =
    is ∙ ap (fields metadata) (two_equal a b _ _ p q ∙ sym (ap (rows_held w l (makers m ⧺ terms m)) metadata_rows ∙ held_split w l (makers m) (terms m) (group 0 metadata) (group 1 metadata) (makers_count m)))

pub metadata_put : (m : Metadata) (w : SpecVersion) (a b old : Members) → a ≡ rows_put (makers m) w (group 0 metadata) old → b ≡ rows_put (terms m) w (group 1 metadata) a → b ≡ rows_put (makers m ⧺ terms m) w (rows metadata) old
unfolding rows
metadata_put m w a b old p q = q ∙ ap (rows_put (terms m) w (group 1 metadata)) p ∙ sym (put_split w (makers m) (terms m) (group 0 metadata) (group 1 metadata) old refl)
