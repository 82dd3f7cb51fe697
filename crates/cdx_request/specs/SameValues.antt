-- Values that are the same but for the order of members, which means nothing in JSON.
use Rattle.std.specs.Prelude.{◌≡◌, Some}
use Rattle.serde_json.specs.Data.{Data, array, object, Items, no_items, item, Members, no_members, member}
use Rattle.serde_json.specs.Find.{get_member}
use Rattle.serde_json.specs.Events.{members_len}

abbrev mutual
  -- The first value is the second with the members of its objects in any order, where no object of the second has a
  -- name twice, as in each value that is written.
  pub HoldsTheSame : Data → Data → Type 0
  HoldsTheSame (array ds) (array ws) = HoldTheSame ds ws
  HoldsTheSame (object ds) (object ws) = (members_len ds ≡ members_len ws) × HasMembers ds ws
  HoldsTheSame d w = d ≡ w

  -- item by item
  pub HoldTheSame : Items → Items → Type 0
  HoldTheSame no_items no_items = Unit {0}
  HoldTheSame (item d ds) (item w ws) = HoldsTheSame d w × HoldTheSame ds ws
  HoldTheSame _ _ = ⊥

  -- each member of the second is found in the first
  pub HasMembers : Members → Members → Type 0
  HasMembers ds no_members = Unit {0}
  HasMembers ds (member k w ws) = ((d : Data) × (get_member k ds ≡ Some d) × HoldsTheSame d w) × HasMembers ds ws
