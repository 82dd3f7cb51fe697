use Rattle.std.proofs.Common.{not, sym, ap, ◌∙◌, arith}
use Rattle.cdx_models.specs.Trees.{contact}
use Rattle.cdx_models.specs.Records.{contact_tree}
use Rattle.cdx_schema.specs.Kinds.{a_record}
use Rattle.cdx_trips.proofs.Items.{from_end, from_goes, from_stops}
use Rattle.cdx_trips.proofs.Records.{contact_item}
use Rattle.cdx_trips.proofs.organization.contacts_survive.Goals as goal

pub returns-then-is_hollow_contact : goal.returns-then-is_hollow_contact
returns-then-is_hollow_contact c =
    from_stops contact_tree (a_record contact) c.args.held.now c.loop-item.item-index c.item-item.result _ c.loop-item-test.true c.item-item.is (contact_item c.item-item.result ∙ ap not (sym c.is_hollow_contact.ensures ∙ c.if-is_hollow_contact.true)) c.loop-item.invariant

pub loop-item-preserved : goal.loop-item-preserved
loop-item-preserved c =
    from_goes contact_tree (a_record contact) c.args.held.now c.loop-item.item-index c.item-item.result _ c.loop-item-test.true c.item-item.is (contact_item c.item-item.result ∙ ap not (sym c.is_hollow_contact.ensures ∙ c.if-is_hollow_contact.false)) c.loop-item.invariant

pub returns : goal.returns
returns c = sym (from_end contact_tree (a_record contact) c.args.held.now c.loop-item.item-index (omega arith)) ∙ c.loop-item.invariant
