use Rattle.std.proofs.Common.{◌≡◌}
use Rattle.serde_json.specs.View.{members_view}
use Rattle.cdx_json.proofs.Following.{follow}
use Rattle.cdx_json.proofs.seen.SeenMembers.of.Given as goal

-- the members so far, and then the rest
abbrev pub invariant-loop-name : goal.invariant-loop-name
invariant-loop-name l = follow l.members.items (members_view l.name-iterator) ≡ members_view l.map.entries
