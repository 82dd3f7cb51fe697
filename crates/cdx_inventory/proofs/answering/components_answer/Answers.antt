use Rattle.std.proofs.Common.{codes, map, ap, subst, IfOk, ◌≡◌, ◌∙◌}
use Rattle.serde_json.specs.Data.{Data, array}
use Rattle.serde_json.specs.View.{view, items_of}
use Rattle.cdx_request.specs.Refusals.{only}
use Rattle.cdx_inventory.specs.Entries.{told}
use Rattle.cdx_inventory.specs.Stock.{entry_value}
use Rattle.cdx_inventory.proofs.Owed.{values_are}
use Rattle.cdx_inventory.proofs.answering.components_answer.Goals as goal

pub returns : goal.returns
returns c =
    let shown = ap (λ es. array (items_of (map (λ e. entry_value (told e)) es))) c.as_slice.ensures ∙ ap (λ ds. array (items_of ds)) (values_are c.args.entries.now) in
    subst (λ (d : Data). IfOk c.only.result (λ v. view v ≡ d)) (ap (only (codes "components")) (c.in_ok-values.ensures ∙ shown)) c.only.ensures
