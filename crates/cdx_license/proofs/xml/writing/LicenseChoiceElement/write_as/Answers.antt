use Rattle.cdx_models.specs.Trees.{fields_of}
use Rattle.cdx_license.specs.Records.{license_tree, expression_tree}
use Rattle.cdx_write.proofs.RowWords.{appends_same}
use Rattle.cdx_license.proofs.Written.{license_choice, expression_choice}
use Rattle.cdx_license.proofs.xml.writing.LicenseChoiceElement.write_as.Goals as goal

pub returns-in-License : goal.returns-in-License
returns-in-License c =
    rw c.in-License.is (appends_same c.args.writer.now c.write_record.new.writer _ _ c.write_record.result (license_choice (fields_of (license_tree c.in-License.held)) c.args.target.version c.args.tag.now) c.write_record.ensures)

pub returns-in-Expression : goal.returns-in-Expression
returns-in-Expression c =
    rw c.in-Expression.is (appends_same c.args.writer.now c.write_record-in-Expression.new.writer _ _ c.write_record-in-Expression.result (expression_choice (fields_of (expression_tree c.in-Expression.held)) c.args.target.version c.args.tag.now) c.write_record-in-Expression.ensures)
