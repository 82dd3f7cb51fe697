use Rattle.std.proofs.Common.{sym}
use Rattle.cdx_models.specs.Trees.{signer, fields_of}
use Rattle.cdx_signature.specs.Records.{signer_tree}
use Rattle.cdx_write.proofs.RowWords.{appends_same}
use Rattle.cdx_write.proofs.RowsLaws.{record_inner}
use Rattle.cdx_signature.proofs.xml.writing.SignerToXml.write_xml_element.Goals as goal

pub returns : goal.returns
returns c = appends_same c.args.writer.now c.write_rows.new.writer _ _ c.write_rows.result (sym (record_inner signer (fields_of (signer_tree c.args.self.now)) c.args.version)) c.write_rows.ensures
