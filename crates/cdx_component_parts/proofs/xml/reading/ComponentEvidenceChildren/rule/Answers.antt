use Rattle.std.proofs.Common.{refl}
use Rattle.cdx_schema.specs.Table.{rule}
use Rattle.cdx_component_parts.proofs.xml.reading.ComponentEvidenceChildren.rule.Goals as goal

pub returns : goal.returns
unfolding rule
returns c = refl
