use Rattle.std.proofs.Common.{◌≡◌, drop}
use Rattle.serde_json.specs.Find.{get_member}
use Rattle.cdx_json.specs.SeenOf.{seen_of}
use Rattle.cdx_json.proofs.seen.SeenMembers.get.Given as goal

abbrev pub invariant-loop-member : goal.invariant-loop-member
invariant-loop-member l = get_member l.name (seen_of l.self.members.items) ≡ get_member l.name (seen_of (drop l.member-index l.member-items))
