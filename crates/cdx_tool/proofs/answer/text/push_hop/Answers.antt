use Rattle.std.proofs.Common.{◌≡◌, ◌∙◌, ◌++◌, List, ℕ, OnOk, ap, subst}
use Rattle.serde_json.specs.Written.{compact_text}
use Rattle.cdx_bom.specs.Trees.{bom_tree}
use Rattle.cdx_bom.specs.Outputs.{kept_json}
use Rattle.cdx_bom.specs.BillWriting.{document_in}
use Rattle.cdx_request.specs.EventValues.{events_value}
use Rattle.cdx_print.specs.Printed.{printed}
use Rattle.cdx_tool.proofs.Answering.{in_json, in_xml}
use Rattle.cdx_tool.proofs.Printing.{json_printed, xml_printed}
use Rattle.cdx_tool.proofs.answer.text.push_hop.Goals as goal

pub returns-in-Json : goal.returns-in-Json
returns-in-Json c =
    let old = printed c.args.text.now in
    let b = bom_tree c.args.bill.now in
    let h = c.args.hop in
    let whole = json_printed old (kept_json h.version b) ∙ ap (λ d. old ++ compact_text d) (in_json b h c.in-Json.is) in
    subst (λ (s : List ℕ). OnOk c.push_kept.result (printed c.push_kept.new.text ≡ s)) whole c.push_kept.ensures

pub returns-in-Xml : goal.returns-in-Xml
returns-in-Xml c =
    let old = printed c.args.text.now in
    let b = bom_tree c.args.bill.now in
    let h = c.args.hop in
    let whole = xml_printed old (events_value (document_in h.version b)) ∙ ap (λ d. old ++ compact_text d) (in_xml b h c.in-Xml.is) in
    subst (λ (s : List ℕ). OnOk c.push_document.result (printed c.push_document.new.text ≡ s)) whole c.push_document.ensures
