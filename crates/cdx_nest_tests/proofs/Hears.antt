-- The events that a machine has heard.
use Rattle.std.proofs.Common.{List}
use Rattle.cdx_events.specs.declared.event.XmlEvent.{XmlEvent}
use Rattle.cdx_nest.specs.declared.machine.NestMachine.{NestMachine}
use Rattle.cdx_nest.specs.contracts.machine.NestMachineListener.TheImpl.{ghosts}

abbrev pub heard : NestMachine → List XmlEvent → Type 0
heard m = ghosts.heard m
