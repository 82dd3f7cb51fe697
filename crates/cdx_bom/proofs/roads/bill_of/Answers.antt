use Rattle.std.proofs.lemmas.Result.{err_from_is_err_and}
use Rattle.cdx_bom.proofs.Carried.{json_fault, xml_fault}
use Rattle.cdx_bom.proofs.roads.bill_of.Goals as goal

pub returns-in_err-parse_json-in-Json : goal.returns-in_err-parse_json-in-Json
returns-in_err-parse_json-in-Json c = λ x is.
    let q = err_from_is_err_and c.from_residual.result c.from_residual.ensures.1 in
    rw (q.1, q.2) (json_fault c.args.doc.now c.in-Json.value x c.args.version c.in_err-parse_json-in-Json.field-0.0 c.in-Json.is is c.in_err-parse_json-in-Json.ensures.bill)

pub returns-in_err-read_xml_document-in-Xml : goal.returns-in_err-read_xml_document-in-Xml
returns-in_err-read_xml_document-in-Xml c = λ x is.
    let q = err_from_is_err_and c.from_residual-in_err-read_xml_document-in-Xml.result c.from_residual-in_err-read_xml_document-in-Xml.ensures.1 in
    rw (q.1, q.2) (xml_fault c.args.doc.now c.in-Xml.events x c.args.version c.in_err-read_xml_document-in-Xml.field-0.0 c.in-Xml.is is c.in_err-read_xml_document-in-Xml.ensures)
