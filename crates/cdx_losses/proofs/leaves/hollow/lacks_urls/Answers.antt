use Rattle.std.proofs.Common.{sym, ap, ◌∙◌}
use Rattle.cdx_models.specs.Trees.{present, text, list_tree}
use Rattle.cdx_losses.specs.LeftOut.{is_left_out}
use Rattle.cdx_losses.proofs.Gone.{none_left_out, urls_left_out}
use Rattle.cdx_losses.proofs.leaves.hollow.lacks_urls.Goals as goal

pub returns-in-None : goal.returns-in-None
returns-in-None c = sym (ap (λ z. is_left_out (present (list_tree text) z)) c.in-None.is ∙ none_left_out)

pub returns-in-Some : goal.returns-in-Some
returns-in-Some c = c.is_empty.ensures ∙ (urls_left_out c.as_slice.result.now ∙ (ap (λ z. is_left_out (list_tree text z)) c.as_slice.ensures ∙ sym (ap (λ z. is_left_out (present (list_tree text) z)) c.in-Some.is)))
