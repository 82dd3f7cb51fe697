use Rattle.std.proofs.Common.{refl, sym, ◌∙◌, ◌&&◌}
use Rattle.cdx_models.specs.Trees.{present, text, list_tree}
use Rattle.cdx_models.specs.Records.{contact_tree}
use Rattle.cdx_losses.specs.LeftOut.{is_left_out}
use Rattle.cdx_trips.proofs.Childless.{then_second, else_first}
use Rattle.cdx_losses.proofs.leaves.hollow.lacks_lists.Goals as goal

pub returns-then-lacks_urls : goal.returns-then-lacks_urls
returns-then-lacks_urls c =
    c.lacks_contacts.ensures ∙ then_second (is_left_out (present (list_tree text) c.args.entity.now.url)) (is_left_out (present (list_tree contact_tree) c.args.entity.now.contact)) (is_left_out (present (list_tree text) c.args.entity.now.url) && is_left_out (present (list_tree contact_tree) c.args.entity.now.contact)) (sym c.lacks_urls.ensures ∙ c.if-lacks_urls.true) refl

pub returns-else-lacks_urls : goal.returns-else-lacks_urls
returns-else-lacks_urls c =
    c.lacks_urls.ensures ∙ else_first (is_left_out (present (list_tree text) c.args.entity.now.url)) (is_left_out (present (list_tree contact_tree) c.args.entity.now.contact)) (is_left_out (present (list_tree text) c.args.entity.now.url) && is_left_out (present (list_tree contact_tree) c.args.entity.now.contact)) (sym c.lacks_urls.ensures ∙ c.if-lacks_urls.false) refl
