use Rattle.std.proofs.Common.{◌≡◌}
use Rattle.serde_json.specs.View.{members_view}
use Rattle.cdx_owned.specs.Floats.{float_before}
use Rattle.cdx_owned.proofs.floats.refuse_floats_before.Given as goal

abbrev pub invariant-loop-other : goal.invariant-loop-other
invariant-loop-other l = float_before l.name (members_view l.other-iterator) ≡ float_before l.name (members_view l.map.entries)
