use Rattle.std.proofs.Common.{◌≡◌, take}
use Rattle.cdx_ways.proofs.path.copy_path.Given as goal

abbrev pub invariant-loop-step : goal.invariant-loop-step
invariant-loop-step l = l.copies ≡ take l.step-index l.steps
