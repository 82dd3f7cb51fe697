use Rattle.std.proofs.Common.{refl}
use Rattle.cdx_schema.specs.Table.{list}
use Rattle.cdx_license.proofs.xml.reading.ChoicesPartChildren.rule.Goals as goal

pub returns : goal.returns
unfolding list
returns c = refl
