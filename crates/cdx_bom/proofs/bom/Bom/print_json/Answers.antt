use Rattle.std.proofs.Common.{string_bytes, ◌++◌, true, ap, ◌∙◌}
use Rattle.serde_json.specs.Written.{compact_text, members_text}
use Rattle.cdx_json.specs.Spellings.{spelling_members}
use Rattle.cdx_json.proofs.Spelled.{on_ok}
use Rattle.cdx_bom.specs.Trees.{bom_tree}
use Rattle.cdx_bom.specs.Outputs.{compact_kept}
use Rattle.cdx_print.specs.Printed.{printed as text_of}
use Rattle.cdx_print.proofs.Behind.{behind}
use Rattle.cdx_bom.proofs.Printed.{printed}
use Rattle.cdx_bom.proofs.bom.Bom.print_json.Goals as goal

pub returns-in_ok-spelling-in-None : goal.returns-in_ok-spelling-in-None
returns-in_ok-spelling-in-None c =
    let out = c.args.out.now in
    on_ok c.print_spelling.result (λ e. behind out.pieces (string_bytes out.last) (compact_kept c.args.version (bom_tree c.args.self.now)) (string_bytes c.print_spelling.new.out) (e ∙ ap (λ d. string_bytes out.last ++ compact_text d) c.in_ok-spelling-in-None.ensures)) c.print_spelling.ensures

pub returns-in_ok-others-in-Some : goal.returns-in_ok-others-in-Some
returns-in_ok-others-in-Some c =
    let old = text_of c.args.out.now in
    let begun = text_of c.push_str.new.self in
    let listed = text_of c.print_items.new.out in
    let last = c.print_items.new.out.last in
    let pieces = c.print_items.new.out.pieces in
    let others = spelling_members c.in_ok-others-in-Some.others.items in
    on_ok c.print_members.result
    (λ e. printed c.args.self.now c.in-Some.components c.args.version c.as_slice.result.now others old begun listed (pieces ++ string_bytes c.print_members.new.out) c.in-Some.is c.as_slice.ensures c.in_ok-others-in-Some.ensures c.in_ok-push_str-in-Some.ensures c.in_ok-print_items-in-Some.ensures
    (behind pieces (string_bytes last) (members_text true others) (string_bytes c.print_members.new.out) e))
    c.print_members.ensures
