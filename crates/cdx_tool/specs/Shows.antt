-- What an answer is, and how its documents are written.
use Rattle.std.specs.Prelude.{codes}
use Rattle.serde_json.specs.Data.{Data}
use Rattle.serde_json.specs.View.{view}
use Rattle.cdx_bom.specs.declared.doc.Doc.{Doc}
use Rattle.cdx_bom.specs.declared.doc.Doc.TheVariants.{Json, Xml}
use Rattle.cdx_request.specs.EventValues.{events_value}
use Rattle.cdx_request.specs.Refusals.{only}
use Rattle.cdx_request.specs.Replies.{Reply}
use Rattle.cdx_tool.specs.declared.answer.Answer.{Answer}

abbrev pub reply_of : Answer → Reply
reply_of a = record { status = a.status; text = a.text }

abbrev pub doc_shown : Doc → Data
doc_shown (Json value) = only (codes "json") (view value)
doc_shown (Xml events) = only (codes "xml") (events_value events.list)
