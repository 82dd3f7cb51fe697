use Rattle.std.proofs.Common.{Ok, Err, subst, ◌∙◌}
use Rattle.serde_json.specs.View.{items_view}
use Rattle.cdx_push_reader.specs.Gathered.{ReadsList}
use Rattle.cdx_bom.specs.Trees.{bom_tree}
use Rattle.cdx_request.specs.EventReading.{event_of}
use Rattle.cdx_request.specs.Parts.{all_in}
use Rattle.cdx_tool.proofs.Gathering.{bill_read, bill_lacks}
use Rattle.cdx_tool.proofs.request.bill.read_items.Goals as goal

pub returns-in-Ok : goal.returns-in-Ok
returns-in-Ok c =
    let t = c.in_ok-count.ensures.taken in
    let same = c.in_ok-count.ensures.version ∙ c.new-reader.ensures.version in
    bill_read (all_in event_of (items_view c.args.items.items)) t.0 c.args.version t.1 c.in-Ok.bill
    (subst (λ v. ReadsList bom_tree t.0 v (Ok c.in-Ok.bill)) same (c.in-Ok.ensures t.0 t.2.0 t.2.1))

pub returns-in-Err : goal.returns-in-Err
returns-in-Err c =
    let t = c.in_ok-count.ensures.taken in
    let same = c.in_ok-count.ensures.version ∙ c.new-reader.ensures.version in
    rw c.no_bill_of.ensures (bill_lacks (all_in event_of (items_view c.args.items.items)) t.0 c.args.version t.1 c.in-Err.error c.breaks.ensures
    (subst (λ v. ReadsList bom_tree t.0 v (Err c.in-Err.error)) same (c.in-Err.ensures t.0 t.2.0 t.2.1)))
