use Rattle.std.proofs.Common.{rules, ◌≡◌, ◌∙◌, ◌++◌, map, codes, false}
use Rattle.serde_json.specs.View.{items_of}
use Rattle.serde_json.specs.Written.{items_text}
use Rattle.cdx_request.specs.Replies.{doc_value}
use Rattle.cdx_print.specs.Printed.{printed}
use Rattle.cdx_tool.proofs.Printing.{documents_printed}
use Rattle.cdx_tool.proofs.answer.text.road_line.Goals as goal

pub returns : goal.returns
returns c = λ x v is.
    let p = c.in_ok-push_hops.ensures x v is in
    let so_far : printed c.push_hops.new.text ≡ codes "{\"documents\":[" ++ items_text false (items_of (map doc_value p.0)) = search rules in
    let text : c.in_ok-finish.field-0 ≡ printed c.push_hops.new.text ++ codes "}\n" = search rules in
    (p.0, p.1, text ∙ documents_printed (printed c.push_hops.new.text) (items_of (map doc_value p.0)) so_far)
