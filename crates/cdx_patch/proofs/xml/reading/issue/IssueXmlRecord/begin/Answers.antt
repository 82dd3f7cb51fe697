use Rattle.std.proofs.Common.{refl}
use Rattle.std.specs.Prelude.{codes}
use Rattle.std.proofs.lemmas.Result.{err_from_is_err_and}
use Rattle.cdx_schema.specs.Kinds.{member}
use Rattle.cdx_schema.specs.Table.{rows}
use Rattle.cdx_leaf.proofs.Attributes.{row_ok, rows_end, row_fails, must_row, must_row_fails}
use Rattle.cdx_patch.proofs.xml.reading.issue.IssueXmlRecord.begin.Goals as goal

pub returns-in_err-required_attribute : goal.returns-in_err-required_attribute
unfolding rows
returns-in_err-required_attribute c =
    let q = err_from_is_err_and c.from_residual.result c.from_residual.ensures.1 in
    let e = c.in_err-required_attribute.field-0.0 in
    rw (q.1, q.2) (row_fails c.args.opened.now.attributes.now c.args.opened.now.version c.args.opened.now.element.now.local_name c.args.opened.now.place _ _ e _ (must_row_fails c.args.opened.now.attributes.now c.args.opened.now.version c.args.opened.now.element.now.local_name c.args.opened.now.place (codes "type") (member (codes "type")) e _ c.in_err-required_attribute.ensures))

pub returns : goal.returns
unfolding rows
returns c = row_ok c.args.opened.now.attributes.now c.args.opened.now.version c.args.opened.now.element.now.local_name c.args.opened.now.place _ _ _ _ (must_row c.args.opened.now.attributes.now c.args.opened.now.version c.args.opened.now.element.now.local_name c.args.opened.now.place (codes "type") (member (codes "type")) _ c.in_ok-required_attribute.ensures) (row_ok c.args.opened.now.attributes.now c.args.opened.now.version c.args.opened.now.element.now.local_name c.args.opened.now.place _ _ _ _ refl (row_ok c.args.opened.now.attributes.now c.args.opened.now.version c.args.opened.now.element.now.local_name c.args.opened.now.place _ _ _ _ refl (row_ok c.args.opened.now.attributes.now c.args.opened.now.version c.args.opened.now.element.now.local_name c.args.opened.now.place _ _ _ _ refl (row_ok c.args.opened.now.attributes.now c.args.opened.now.version c.args.opened.now.element.now.local_name c.args.opened.now.place _ _ _ _ refl (row_ok c.args.opened.now.attributes.now c.args.opened.now.version c.args.opened.now.element.now.local_name c.args.opened.now.place _ _ _ _ refl (rows_end c.args.opened.now.attributes.now c.args.opened.now.version c.args.opened.now.element.now.local_name c.args.opened.now.place))))))
