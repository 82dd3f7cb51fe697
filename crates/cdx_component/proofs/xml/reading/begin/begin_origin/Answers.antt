use Rattle.std.proofs.Common.{refl}
use Rattle.std.specs.Prelude.{codes}
use Rattle.std.proofs.lemmas.Result.{err_from_is_err_and}
use Rattle.cdx_models.specs.declared.bom.SpecVersion.TheVariants.{V1_3}
use Rattle.cdx_schema.specs.Kinds.{member}
use Rattle.cdx_schema.specs.Table.{rows}
use Rattle.cdx_leaf.proofs.Attributes.{row_ok, rows_end, row_fails, must_row, must_row_fails, maybe_row}
use Rattle.cdx_component.proofs.xml.reading.begin.begin_origin.Goals as goal

pub returns-in_err-component_type : goal.returns-in_err-component_type
unfolding rows
returns-in_err-component_type c = λ v.
    let q = err_from_is_err_and c.from_residual.result c.from_residual.ensures.1 in
    let e = c.in_err-component_type.field-0.0 in
    rw (q.1, q.2) (row_fails c.args.opened.now.attributes.now v c.args.opened.now.element.now.local_name c.args.opened.now.place _ _ e _ (must_row_fails c.args.opened.now.attributes.now v c.args.opened.now.element.now.local_name c.args.opened.now.place (codes "type") (member (codes "type")) e _ c.in_err-component_type.ensures))

pub returns : goal.returns
unfolding rows
returns c = λ v. rw c.mime_type_of.ensures (row_ok c.args.opened.now.attributes.now v c.args.opened.now.element.now.local_name c.args.opened.now.place _ _ _ _ (must_row c.args.opened.now.attributes.now v c.args.opened.now.element.now.local_name c.args.opened.now.place (codes "type") (member (codes "type")) _ c.in_ok-component_type.ensures) (row_ok c.args.opened.now.attributes.now v c.args.opened.now.element.now.local_name c.args.opened.now.place _ _ _ _ (maybe_row c.args.opened.now.attributes.now v c.args.opened.now.element.now.local_name c.args.opened.now.place (codes "mime-type") (member (codes "mime-type")) _ V1_3 _ c.in_ok-mime_type.ensures) (row_ok c.args.opened.now.attributes.now v c.args.opened.now.element.now.local_name c.args.opened.now.place _ _ _ _ (maybe_row c.args.opened.now.attributes.now v c.args.opened.now.element.now.local_name c.args.opened.now.place (codes "bom-ref") (member (codes "bom-ref")) _ V1_3 _ c.in_ok-bom_ref.ensures) (row_ok c.args.opened.now.attributes.now v c.args.opened.now.element.now.local_name c.args.opened.now.place _ _ _ _ refl (row_ok c.args.opened.now.attributes.now v c.args.opened.now.element.now.local_name c.args.opened.now.place _ _ _ _ refl (row_ok c.args.opened.now.attributes.now v c.args.opened.now.element.now.local_name c.args.opened.now.place _ _ _ _ refl (rows_end c.args.opened.now.attributes.now v c.args.opened.now.element.now.local_name c.args.opened.now.place)))))))
