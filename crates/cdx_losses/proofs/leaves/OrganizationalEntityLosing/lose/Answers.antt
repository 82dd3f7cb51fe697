use Rattle.std.proofs.Common.{[], ◌++◌, refl, ◌∙◌, codes}
use Rattle.cdx_models.specs.Trees.{present, text, list_tree, entity}
use Rattle.cdx_models.specs.Records.{contact_tree, entity_tree}
use Rattle.cdx_schema.specs.Kinds.{a_list, a_record, authors}
use Rattle.cdx_losses.specs.LeftOut.{urls_row, contacts_row}
use Rattle.cdx_losses.specs.Walks.{value_lost}
use Rattle.cdx_losses.proofs.Spared.{row_lost}
use Rattle.cdx_losses.proofs.Levels.{texts_spared, entity_lost}
use Rattle.cdx_losses.proofs.Walks.{adds_same, adds_both, adds_end, adds_or}
use Rattle.cdx_losses.proofs.Values.{value_inside, contacts_value, present_nothing}
use Rattle.cdx_losses.proofs.leaves.OrganizationalEntityLosing.lose.Goals as goal

pub returns : goal.returns
returns c =
    let r1 = row_lost c.args.road.version c.args.road.trips urls_row (present (list_tree text) c.args.self.now.url) in
    let r2 = row_lost c.args.road.version c.args.road.trips contacts_row (present (list_tree contact_tree) c.args.self.now.contact) in
    let a = c.args.walk.now in
    let w1 = c.record_member.new.self in
    let w2 = c.lose_row_or.new.walk in
    adds_same (r1 ++ (r2 ++ [])) (value_lost c.args.road (entity_tree c.args.self.now) (a_record entity)) a w2 (value_inside c.args.road (entity_tree c.args.self.now) (a_record entity) refl refl ∙ entity_lost c.args.road.version c.args.road.trips c.args.self.now)
    (adds_both r1 (r2 ++ []) a w1 w2 (adds_or c.args.road.version c.args.road.trips urls_row (codes "url") (present (list_tree text) c.args.self.now.url) c.urls_reason.result [] a w1 (present_nothing (list_tree text) texts_spared c.args.road.version c.args.road.trips _ c.args.self.now.url) refl c.urls_reason.ensures c.in_ok-record_member.ensures)
    (adds_end r2 w1 w2 (adds_or c.args.road.version c.args.road.trips contacts_row (codes "contact") (present (list_tree contact_tree) c.args.self.now.contact) c.contacts_reason-reason.result (value_lost c.args.road (present (list_tree contact_tree) c.args.self.now.contact) (a_list authors)) w1 w2 (contacts_value c.args.road c.args.self.now.contact) refl c.contacts_reason-reason.ensures c.in_ok-lose_row_or.ensures)))
