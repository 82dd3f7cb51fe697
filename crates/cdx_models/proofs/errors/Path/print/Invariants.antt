use Rattle.std.proofs.Common.{◌≡◌, ◌++◌, drop, string_bytes}
use Rattle.cdx_models.specs.Path.{pointer}
use Rattle.cdx_models.proofs.errors.Path.print.Given as goal

-- the steps so far were written, and then those of the rest
abbrev pub invariant-loop-step : goal.invariant-loop-step
invariant-loop-step l = string_bytes l.text ++ pointer (drop l.step-index l.step-items) ≡ pointer l.self.0
