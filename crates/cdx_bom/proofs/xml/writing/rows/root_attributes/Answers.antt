use Rattle.cdx_bom.proofs.BillWritten.{root_attributes_are}
use Rattle.cdx_bom.proofs.xml.writing.rows.root_attributes.Goals as goal

pub returns : goal.returns
returns c =
    rw (c.in_ok-put_required_attribute.ensures, c.in_ok-put_attribute.ensures, c.new-attributes.ensures) (root_attributes_are c.args.held.now c.args.target.version)
