use Rattle.cdx_schema.proofs.SoonLaws.{end_as_one, one_soonest}
use Rattle.cdx_schema.proofs.laws.soonest_faults.Goals as goal

pub returns-clause-ended : goal.returns-clause-ended
returns-clause-ended c = end_as_one

pub returns-clause-one : goal.returns-clause-one
returns-clause-one c = one_soonest
