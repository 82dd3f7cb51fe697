use Rattle.std.proofs.Common.{sym, ap, ◌∙◌}
use Rattle.cdx_models.specs.Trees.{present, list_tree}
use Rattle.cdx_models.specs.Records.{contact_tree}
use Rattle.cdx_losses.specs.LeftOut.{is_left_out}
use Rattle.cdx_losses.proofs.Gone.{none_left_out}
use Rattle.cdx_losses.proofs.leaves.hollow.lacks_contacts.Goals as goal

pub returns-in-None : goal.returns-in-None
returns-in-None c = sym (ap (λ z. is_left_out (present (list_tree contact_tree) z)) c.in-None.is ∙ none_left_out)

pub returns-in-Some : goal.returns-in-Some
returns-in-Some c = c.are_blank.ensures ∙ (ap (λ z. is_left_out (list_tree contact_tree z)) c.as_slice.ensures ∙ sym (ap (λ z. is_left_out (present (list_tree contact_tree) z)) c.in-Some.is))
