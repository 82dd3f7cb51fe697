use Rattle.cdx_machine.specs.Heard.{IsListening}
use Rattle.cdx_push_tests.proofs.Fed.{Fed}
use Rattle.cdx_nest_tests.proofs.Hears.{heard}
use Rattle.cdx_nest_tests.proofs.feeding.feed.Given as goal

abbrev pub invariant-events : goal.invariant-events
invariant-events l = record { fed : Fed (heard l.machine) (IsListening l.machine.machine) l.machine.place l.reader }
