use Rattle.std.proofs.Common.{not, sym, ap, ◌∙◌}
use Rattle.cdx_models.specs.Trees.{text, present, list_tree}
use Rattle.cdx_schema.specs.Kinds.{optional}
use Rattle.cdx_trips.specs.Surviving.{is_nothing}
use Rattle.cdx_trips.proofs.Items.{nothing}
use Rattle.cdx_trips.proofs.organization.urls_row_survives.Goals as goal

pub returns-in-Some : goal.returns-in-Some
returns-in-Some c =
    ap not (c.is_empty.ensures ∙ (nothing text c.as_slice.result.now ∙ (ap (λ z. is_nothing optional (list_tree text z)) c.as_slice.ensures ∙ sym (ap (λ z. is_nothing optional (present (list_tree text) z)) c.in-Some.is))))
