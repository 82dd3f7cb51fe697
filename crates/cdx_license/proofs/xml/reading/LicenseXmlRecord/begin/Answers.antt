use Rattle.std.proofs.Common.{refl}
use Rattle.std.specs.Prelude.{codes}
use Rattle.cdx_models.specs.declared.bom.SpecVersion.TheVariants.{V1_5}
use Rattle.cdx_schema.specs.Kinds.{member}
use Rattle.cdx_schema.specs.Table.{rows}
use Rattle.cdx_leaf.proofs.Attributes.{row_ok, rows_end, maybe_row}
use Rattle.cdx_license.proofs.xml.reading.LicenseXmlRecord.begin.Goals as goal

pub returns : goal.returns
unfolding rows
returns c = (row_ok c.args.opened.now.attributes.now c.args.opened.now.version c.args.opened.now.element.now.local_name c.args.opened.now.place _ _ _ _ (maybe_row c.args.opened.now.attributes.now c.args.opened.now.version c.args.opened.now.element.now.local_name c.args.opened.now.place (codes "bom-ref") (member (codes "bom-ref")) _ V1_5 _ c.in_ok-attribute_since.ensures) (row_ok c.args.opened.now.attributes.now c.args.opened.now.version c.args.opened.now.element.now.local_name c.args.opened.now.place _ _ _ _ refl (row_ok c.args.opened.now.attributes.now c.args.opened.now.version c.args.opened.now.element.now.local_name c.args.opened.now.place _ _ _ _ refl (row_ok c.args.opened.now.attributes.now c.args.opened.now.version c.args.opened.now.element.now.local_name c.args.opened.now.place _ _ _ _ refl (row_ok c.args.opened.now.attributes.now c.args.opened.now.version c.args.opened.now.element.now.local_name c.args.opened.now.place _ _ _ _ refl (rows_end c.args.opened.now.attributes.now c.args.opened.now.version c.args.opened.now.element.now.local_name c.args.opened.now.place))))))
