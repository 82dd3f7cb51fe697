use Rattle.std.proofs.Common.{codes, map, ap, subst, IfOk, ◌≡◌, ◌∙◌}
use Rattle.serde_json.specs.Data.{Data, array}
use Rattle.serde_json.specs.View.{view, items_of}
use Rattle.cdx_request.specs.Refusals.{only}
use Rattle.cdx_losses.specs.Answers.{loss_value}
use Rattle.cdx_losses.specs.Told.{told}
use Rattle.cdx_losses.proofs.Reported.{values_are}
use Rattle.cdx_losses.proofs.answering.losses_answer.Goals as goal

pub returns : goal.returns
returns c =
    let shown = ap (λ ls. array (items_of (map (λ l. loss_value (told l)) ls))) c.as_slice.ensures ∙ ap (λ ds. array (items_of ds)) (values_are c.args.losses.now) in
    subst (λ (d : Data). IfOk c.only.result (λ v. view v ≡ d)) (ap (only (codes "losses")) (c.in_ok-values.ensures ∙ shown)) c.only.ensures
