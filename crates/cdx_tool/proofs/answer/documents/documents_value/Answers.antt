use Rattle.std.proofs.Common.{codes, map, ap, subst, IfOk, ◌≡◌, ◌∙◌}
use Rattle.serde_json.specs.Data.{Data, array}
use Rattle.serde_json.specs.View.{view, items_of}
use Rattle.cdx_request.specs.Refusals.{only}
use Rattle.cdx_tool.specs.Shows.{doc_shown}
use Rattle.cdx_tool.proofs.Answering.{docs_are}
use Rattle.cdx_tool.proofs.answer.documents.documents_value.Goals as goal

pub returns : goal.returns
returns c = λ xs are.
    let shown = ap (λ ds. array (items_of (map doc_shown ds))) c.as_slice.ensures ∙ ap (λ vs. array (items_of vs)) (docs_are c.args.docs.now xs are) in
    subst (λ (d : Data). IfOk c.only.result (λ v. view v ≡ d)) (ap (only (codes "documents")) (c.in_ok-values.ensures ∙ shown)) c.only.ensures
