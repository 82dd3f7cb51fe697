use Rattle.std.proofs.Common.{◌∙◌, ◌++◌, ap, codes, string_bytes}
use Rattle.serde_json.specs.Written.{compact_text}
use Rattle.cdx_request.specs.EventValues.{only_text}
use Rattle.cdx_tool.proofs.Printing.{document_printed, start_printed, end_printed, text_printed, cdata_printed, event_printed}
use Rattle.cdx_tool.proofs.events.print.print_event.Goals as goal

pub returns-in-StartDocument : goal.returns-in-StartDocument
returns-in-StartDocument c = event_printed _ _ _ _ _ _ c.in-StartDocument.is c.print_only.ensures (document_printed (string_bytes c.args.out.now) (codes "start"))

pub returns-in-EndDocument : goal.returns-in-EndDocument
returns-in-EndDocument c = event_printed _ _ _ _ _ _ c.in-EndDocument.is c.print_only-in-EndDocument.ensures (document_printed (string_bytes c.args.out.now) (codes "end"))

pub returns-in-StartElement : goal.returns-in-StartElement
returns-in-StartElement c =
    let start = c.in-StartElement in
    event_printed _ _ _ _ _ _ start.is c.print_start.ensures (start_printed (string_bytes c.args.out.now) start.name start.attributes start.namespace.default)

pub returns-in-EndElement : goal.returns-in-EndElement
returns-in-EndElement c = event_printed _ _ _ _ _ _ c.in-EndElement.is c.print_end.ensures (end_printed (string_bytes c.args.out.now) c.in-EndElement.name)

pub returns-in-Characters : goal.returns-in-Characters
returns-in-Characters c =
    let old = string_bytes c.args.out.now in
    let same = ap (λ s. old ++ compact_text (only_text (codes "text") s)) c.as_str.ensures in
    event_printed _ _ _ _ _ _ c.in-Characters.is c.print_only-in-Characters.ensures (text_printed old c.as_str.result.now ∙ same)

pub returns-in-CData : goal.returns-in-CData
returns-in-CData c =
    let old = string_bytes c.args.out.now in
    let same = ap (λ s. old ++ compact_text (only_text (codes "cdata") s)) c.as_str-in-CData.ensures in
    event_printed _ _ _ _ _ _ c.in-CData.is c.print_only-in-CData.ensures (cdata_printed old c.as_str-in-CData.result.now ∙ same)
