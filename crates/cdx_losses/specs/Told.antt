-- What a loss tells.
use Rattle.std.specs.Prelude.{List, map}
use Rattle.cdx_ways.specs.Ways.{At}
use Rattle.cdx_losses.specs.declared.loss.Loss.{Loss}
use Rattle.cdx_losses.specs.declared.loss.Reason.{Reason}

-- its path and its reason
abbrev pub told : Loss → At Reason
told x = (x.path.0, x.reason)

abbrev pub all_told : List Loss → List (At Reason)
all_told xs = map told xs
