use Rattle.std.proofs.Common.{[], ◌∷◌, sym, ap, ◌∙◌}
use Rattle.cdx_models.specs.Trees.{contact}
use Rattle.cdx_models.specs.Records.{contact_tree}
use Rattle.cdx_schema.specs.Kinds.{a_record}
use Rattle.cdx_losses.specs.Losses.{entry_or, if_so}
use Rattle.cdx_losses.specs.LeftOut.{after_a_trip}
use Rattle.cdx_losses.specs.Walks.{value_lost}
use Rattle.cdx_losses.proofs.Walks.{ok_same, adds_same, adds_none}
use Rattle.cdx_losses.proofs.Values.{contact_value, none_entry, some_entry}
use Rattle.cdx_losses.specs.declared.loss.Reason.TheVariants.{Xml}
use Rattle.cdx_losses.proofs.leaves.OrganizationalContactLosing.lose.Goals as goal

pub returns-in-None : goal.returns-in-None
returns-in-None c =
    adds_same [] (value_lost c.args.road (contact_tree c.args.self.now) (a_record contact)) c.args.walk.now c.args.walk.now ((contact_value c.args.road c.args.self.now ∙ (ap (λ b. entry_or (if_so (after_a_trip c.args.road.trips b) Xml) []) (sym c.is_hollow_contact.ensures) ∙ ap (λ w. entry_or w []) (sym c.unwritten.ensures))) ∙ none_entry c.unwritten.result [] c.in-None.is) (adds_none c.args.walk.now)

pub returns-in-Some : goal.returns-in-Some
returns-in-Some c =
    ok_same c.record.result (([], c.in-Some.reason) ∷ []) (value_lost c.args.road (contact_tree c.args.self.now) (a_record contact)) c.args.walk.now c.record.new.self ((contact_value c.args.road c.args.self.now ∙ (ap (λ b. entry_or (if_so (after_a_trip c.args.road.trips b) Xml) []) (sym c.is_hollow_contact.ensures) ∙ ap (λ w. entry_or w []) (sym c.unwritten.ensures))) ∙ some_entry c.unwritten.result c.in-Some.reason [] c.in-Some.is) c.record.ensures
