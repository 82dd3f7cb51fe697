use Rattle.cdx_schema.proofs.Clear.{spelling_clear}
use Rattle.cdx_schema.proofs.laws.spells_no_float.Goals as goal

pub returns : goal.returns
returns c = spelling_clear
