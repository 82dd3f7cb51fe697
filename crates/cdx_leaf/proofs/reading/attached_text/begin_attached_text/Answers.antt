use Rattle.std.proofs.Common.{refl}
use Rattle.std.specs.Prelude.{codes, reverse}
use Rattle.cdx_models.specs.declared.bom.SpecVersion.TheVariants.{V1_3}
use Rattle.cdx_schema.specs.Kinds.{member}
use Rattle.cdx_schema.specs.Table.{rows}
use Rattle.cdx_leaf.proofs.Attributes.{row_ok, rows_end, maybe_row}
use Rattle.cdx_leaf.proofs.reading.attached_text.begin_attached_text.Goals as goal

pub returns : goal.returns
unfolding rows
returns c =
    row_ok (reverse c.args.opened.now.attributes.now) c.args.opened.now.version c.args.opened.now.element.now.local_name c.args.opened.now.place _ _ _ _ (maybe_row (reverse c.args.opened.now.attributes.now) c.args.opened.now.version c.args.opened.now.element.now.local_name c.args.opened.now.place (codes "content-type") (member (codes "contentType")) _ V1_3 _ c.in_ok-content_type.ensures)
    (row_ok (reverse c.args.opened.now.attributes.now) c.args.opened.now.version c.args.opened.now.element.now.local_name c.args.opened.now.place _ _ _ _ (maybe_row (reverse c.args.opened.now.attributes.now) c.args.opened.now.version c.args.opened.now.element.now.local_name c.args.opened.now.place (codes "encoding") (member (codes "encoding")) _ V1_3 _ c.in_ok-encoding.ensures) (row_ok (reverse c.args.opened.now.attributes.now) c.args.opened.now.version c.args.opened.now.element.now.local_name c.args.opened.now.place _ _ _ _ refl (rows_end (reverse c.args.opened.now.attributes.now) c.args.opened.now.version c.args.opened.now.element.now.local_name c.args.opened.now.place)))
