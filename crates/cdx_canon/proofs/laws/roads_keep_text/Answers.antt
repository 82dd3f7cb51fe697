use Rattle.cdx_canon.proofs.Roads.{roads_keep, answers_keep}
use Rattle.cdx_canon.proofs.laws.roads_keep_text.Goals as goal

pub returns-clause-roads : goal.returns-clause-roads
returns-clause-roads c = roads_keep

pub returns-clause-answers : goal.returns-clause-answers
returns-clause-answers c = answers_keep
