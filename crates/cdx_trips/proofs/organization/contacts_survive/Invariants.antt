use Rattle.std.proofs.Common.{◌≡◌}
use Rattle.cdx_models.specs.Trees.{contact, each}
use Rattle.cdx_models.specs.Records.{contact_tree}
use Rattle.cdx_schema.specs.Kinds.{a_record}
use Rattle.cdx_trips.specs.Surviving.{items_survive}
use Rattle.cdx_trips.proofs.Items.{from}
use Rattle.cdx_trips.proofs.organization.contacts_survive.Given as goal

-- the rest decides
abbrev pub invariant-loop-item : goal.invariant-loop-item
invariant-loop-item l = from contact_tree (a_record contact) l.held l.item-index ≡ items_survive (each contact_tree l.held) (a_record contact)
