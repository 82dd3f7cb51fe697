use Rattle.std.proofs.Common.{refl, ap, ◌∙◌}
use Rattle.cdx_models.specs.Trees.{present, text, list_tree}
use Rattle.cdx_schema.specs.Kinds.{urls}
use Rattle.cdx_losses.specs.LeftOut.{urls_row, is_left_out}
use Rattle.cdx_losses.proofs.Gone.{held_reason, listed_reason}
use Rattle.cdx_losses.proofs.leaves.hollow.urls_reason.Goals as goal

pub returns-in-Some : goal.returns-in-Some
returns-in-Some c =
    held_reason (list_tree text) c.args.road.version c.args.road.trips urls_row c.args.held.now c.in-Some.field-0 c.unwritten.result c.lacks_urls.result (is_left_out (list_tree text c.in-Some.field-0)) c.in-Some.is c.unwritten.ensures (c.lacks_urls.ensures ∙ ap (λ z. is_left_out (present (list_tree text) z)) c.in-Some.is) (listed_reason c.args.road.version c.args.road.trips urls "url" (list_tree text c.in-Some.field-0) refl)
