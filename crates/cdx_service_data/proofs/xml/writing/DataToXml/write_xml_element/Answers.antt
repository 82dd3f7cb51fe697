use Rattle.cdx_schema.specs.Kinds.{a_data}
use Rattle.cdx_write.specs.Spelling.{untagged}
use Rattle.cdx_write.proofs.RowWords.{appends_same, there_spelling}
use Rattle.cdx_service_data.specs.Records.{data_tree, data_there}
use Rattle.cdx_service_data.proofs.xml.writing.DataToXml.write_xml_element.Goals as goal

pub returns : goal.returns
returns c =
    let held = c.args.self.now in
    appends_same c.args.writer.now c.write_entries.new.writer _ _ c.write_entries.result (there_spelling untagged (data_tree held) c.args.version a_data (data_there held)) c.write_entries.ensures
