use Rattle.std.proofs.Common.{refl}
use Rattle.std.specs.Prelude.{codes}
use Rattle.std.proofs.lemmas.Result.{err_from_is_err_and}
use Rattle.cdx_models.specs.declared.bom.SpecVersion.TheVariants.{V1_3}
use Rattle.cdx_schema.specs.Kinds.{member, a_number, a_boolean}
use Rattle.cdx_schema.specs.Table.{rows}
use Rattle.cdx_leaf.proofs.Attributes.{row_ok, rows_end, row_fails, later_fails, must_row, must_row_fails, maybe_row, value_row, value_row_fails}
use Rattle.cdx_component_parts.proofs.xml.reading.SwidXmlRecord.begin.Goals as goal

pub returns-in_err-required_attribute : goal.returns-in_err-required_attribute
unfolding rows
returns-in_err-required_attribute c =
    let q = err_from_is_err_and c.from_residual.result c.from_residual.ensures.1 in
    let e = c.in_err-required_attribute.field-0.0 in
    rw (q.1, q.2) (row_fails c.args.opened.now.attributes.now c.args.opened.now.version c.args.opened.now.element.now.local_name c.args.opened.now.place _ _ e _ (must_row_fails c.args.opened.now.attributes.now c.args.opened.now.version c.args.opened.now.element.now.local_name c.args.opened.now.place (codes "tagId") (member (codes "tagId")) e _ c.in_err-required_attribute.ensures))

pub returns-in_err-required_attribute-2 : goal.returns-in_err-required_attribute-2
unfolding rows
returns-in_err-required_attribute-2 c =
    let q = err_from_is_err_and c.from_residual-in_err-required_attribute-2.result c.from_residual-in_err-required_attribute-2.ensures.1 in
    let e = c.in_err-required_attribute-2.field-0.0 in
    rw (q.1, q.2) (later_fails c.args.opened.now.attributes.now c.args.opened.now.version c.args.opened.now.element.now.local_name c.args.opened.now.place _ _ _ e _ (must_row c.args.opened.now.attributes.now c.args.opened.now.version c.args.opened.now.element.now.local_name c.args.opened.now.place (codes "tagId") (member (codes "tagId")) _ c.in_ok-required_attribute.ensures) (row_fails c.args.opened.now.attributes.now c.args.opened.now.version c.args.opened.now.element.now.local_name c.args.opened.now.place _ _ e _ (must_row_fails c.args.opened.now.attributes.now c.args.opened.now.version c.args.opened.now.element.now.local_name c.args.opened.now.place (codes "name") (member (codes "name")) e _ c.in_err-required_attribute-2.ensures)))

pub returns-in_err-attribute_value : goal.returns-in_err-attribute_value
unfolding rows
returns-in_err-attribute_value c =
    let q = err_from_is_err_and c.from_residual-in_err-attribute_value.result c.from_residual-in_err-attribute_value.ensures.1 in
    let e = c.in_err-attribute_value.field-0.0 in
    rw (q.1, q.2) (later_fails c.args.opened.now.attributes.now c.args.opened.now.version c.args.opened.now.element.now.local_name c.args.opened.now.place _ _ _ e _ (must_row c.args.opened.now.attributes.now c.args.opened.now.version c.args.opened.now.element.now.local_name c.args.opened.now.place (codes "tagId") (member (codes "tagId")) _ c.in_ok-required_attribute.ensures) (later_fails c.args.opened.now.attributes.now c.args.opened.now.version c.args.opened.now.element.now.local_name c.args.opened.now.place _ _ _ e _ (must_row c.args.opened.now.attributes.now c.args.opened.now.version c.args.opened.now.element.now.local_name c.args.opened.now.place (codes "name") (member (codes "name")) _ c.in_ok-required_attribute-2.ensures) (later_fails c.args.opened.now.attributes.now c.args.opened.now.version c.args.opened.now.element.now.local_name c.args.opened.now.place _ _ _ e _ (maybe_row c.args.opened.now.attributes.now c.args.opened.now.version c.args.opened.now.element.now.local_name c.args.opened.now.place (codes "version") (member (codes "version")) _ V1_3 _ c.in_ok-attribute_or_none.ensures) (row_fails c.args.opened.now.attributes.now c.args.opened.now.version c.args.opened.now.element.now.local_name c.args.opened.now.place _ _ e _ (value_row_fails c.args.opened.now.attributes.now c.args.opened.now.version c.args.opened.now.element.now.local_name c.args.opened.now.place a_number (codes "tagVersion") (member (codes "tagVersion")) e _ c.in_err-attribute_value.ensures)))))

pub returns-in_err-attribute_value-2 : goal.returns-in_err-attribute_value-2
unfolding rows
returns-in_err-attribute_value-2 c =
    let q = err_from_is_err_and c.from_residual-in_err-attribute_value-2.result c.from_residual-in_err-attribute_value-2.ensures.1 in
    let e = c.in_err-attribute_value-2.field-0.0 in
    rw (q.1, q.2) (later_fails c.args.opened.now.attributes.now c.args.opened.now.version c.args.opened.now.element.now.local_name c.args.opened.now.place _ _ _ e _ (must_row c.args.opened.now.attributes.now c.args.opened.now.version c.args.opened.now.element.now.local_name c.args.opened.now.place (codes "tagId") (member (codes "tagId")) _ c.in_ok-required_attribute.ensures) (later_fails c.args.opened.now.attributes.now c.args.opened.now.version c.args.opened.now.element.now.local_name c.args.opened.now.place _ _ _ e _ (must_row c.args.opened.now.attributes.now c.args.opened.now.version c.args.opened.now.element.now.local_name c.args.opened.now.place (codes "name") (member (codes "name")) _ c.in_ok-required_attribute-2.ensures) (later_fails c.args.opened.now.attributes.now c.args.opened.now.version c.args.opened.now.element.now.local_name c.args.opened.now.place _ _ _ e _ (maybe_row c.args.opened.now.attributes.now c.args.opened.now.version c.args.opened.now.element.now.local_name c.args.opened.now.place (codes "version") (member (codes "version")) _ V1_3 _ c.in_ok-attribute_or_none.ensures) (later_fails c.args.opened.now.attributes.now c.args.opened.now.version c.args.opened.now.element.now.local_name c.args.opened.now.place _ _ _ e _ (value_row c.args.opened.now.attributes.now c.args.opened.now.version c.args.opened.now.element.now.local_name c.args.opened.now.place a_number (codes "tagVersion") (member (codes "tagVersion")) _ c.in_ok-attribute_value.ensures) (row_fails c.args.opened.now.attributes.now c.args.opened.now.version c.args.opened.now.element.now.local_name c.args.opened.now.place _ _ e _ (value_row_fails c.args.opened.now.attributes.now c.args.opened.now.version c.args.opened.now.element.now.local_name c.args.opened.now.place a_boolean (codes "patch") (member (codes "patch")) e _ c.in_err-attribute_value-2.ensures))))))

pub returns : goal.returns
unfolding rows
returns c = row_ok c.args.opened.now.attributes.now c.args.opened.now.version c.args.opened.now.element.now.local_name c.args.opened.now.place _ _ _ _ (must_row c.args.opened.now.attributes.now c.args.opened.now.version c.args.opened.now.element.now.local_name c.args.opened.now.place (codes "tagId") (member (codes "tagId")) _ c.in_ok-required_attribute.ensures) (row_ok c.args.opened.now.attributes.now c.args.opened.now.version c.args.opened.now.element.now.local_name c.args.opened.now.place _ _ _ _ (must_row c.args.opened.now.attributes.now c.args.opened.now.version c.args.opened.now.element.now.local_name c.args.opened.now.place (codes "name") (member (codes "name")) _ c.in_ok-required_attribute-2.ensures) (row_ok c.args.opened.now.attributes.now c.args.opened.now.version c.args.opened.now.element.now.local_name c.args.opened.now.place _ _ _ _ (maybe_row c.args.opened.now.attributes.now c.args.opened.now.version c.args.opened.now.element.now.local_name c.args.opened.now.place (codes "version") (member (codes "version")) _ V1_3 _ c.in_ok-attribute_or_none.ensures) (row_ok c.args.opened.now.attributes.now c.args.opened.now.version c.args.opened.now.element.now.local_name c.args.opened.now.place _ _ _ _ (value_row c.args.opened.now.attributes.now c.args.opened.now.version c.args.opened.now.element.now.local_name c.args.opened.now.place a_number (codes "tagVersion") (member (codes "tagVersion")) _ c.in_ok-attribute_value.ensures) (row_ok c.args.opened.now.attributes.now c.args.opened.now.version c.args.opened.now.element.now.local_name c.args.opened.now.place _ _ _ _ (value_row c.args.opened.now.attributes.now c.args.opened.now.version c.args.opened.now.element.now.local_name c.args.opened.now.place a_boolean (codes "patch") (member (codes "patch")) _ c.in_ok-attribute_value-2.ensures) (row_ok c.args.opened.now.attributes.now c.args.opened.now.version c.args.opened.now.element.now.local_name c.args.opened.now.place _ _ _ _ refl (row_ok c.args.opened.now.attributes.now c.args.opened.now.version c.args.opened.now.element.now.local_name c.args.opened.now.place _ _ _ _ refl (rows_end c.args.opened.now.attributes.now c.args.opened.now.version c.args.opened.now.element.now.local_name c.args.opened.now.place)))))))
