use Rattle.cdx_events.proofs.Broken.{nothing_goes}
use Rattle.cdx_push_reader.proofs.gathering.Gathering.new.Goals as goal

pub returns-clause-gathered : goal.returns-clause-gathered
returns-clause-gathered g c = (nothing_goes, c.new.ensures.hears)
