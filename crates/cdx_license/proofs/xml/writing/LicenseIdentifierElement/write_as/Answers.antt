use Rattle.std.proofs.Common.{codes, ap, ◌∙◌}
use Rattle.cdx_write.specs.Writing.{simple_tag}
use Rattle.cdx_write.proofs.RowWords.{appends_same}
use Rattle.cdx_license.proofs.Written.{spdx_identifier, name_identifier}
use Rattle.cdx_license.proofs.xml.writing.LicenseIdentifierElement.write_as.Goals as goal

pub returns-in-SpdxId : goal.returns-in-SpdxId
returns-in-SpdxId c =
    let same = ap (simple_tag (codes "id")) c.as_str.ensures ∙ spdx_identifier c.in-SpdxId.held c.args.target.version c.args.tag.now in
    rw c.in-SpdxId.is (appends_same c.args.writer.now c.write_simple_tag.new.writer (simple_tag (codes "id") c.as_str.result.now) _ c.write_simple_tag.result same c.write_simple_tag.ensures)

pub returns-in-Name : goal.returns-in-Name
returns-in-Name c =
    let same = ap (simple_tag (codes "name")) c.as_str-in-Name.ensures ∙ name_identifier c.in-Name.held c.args.target.version c.args.tag.now in
    rw c.in-Name.is (appends_same c.args.writer.now c.write_simple_tag-in-Name.new.writer (simple_tag (codes "name") c.as_str-in-Name.result.now) _ c.write_simple_tag-in-Name.result same c.write_simple_tag-in-Name.ensures)
