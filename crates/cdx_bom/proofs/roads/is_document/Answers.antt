use Rattle.cdx_schema.specs.Roads as roads
use Rattle.cdx_bom.proofs.Documents.{is_json, is_xml}
use Rattle.cdx_bom.proofs.roads.is_document.Goals as goal

pub returns-in-Json : goal.returns-in-Json
returns-in-Json c = is_json c.args.doc.now c.in-Json.field-0 c.in-Json.is

pub returns-in-Xml : goal.returns-in-Xml
returns-in-Xml c = is_xml c.args.doc.now c.in-Xml.events c.in-Xml.is c.len.ensures.balanced
