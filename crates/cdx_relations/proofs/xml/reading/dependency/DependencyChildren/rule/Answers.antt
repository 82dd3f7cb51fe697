use Rattle.std.proofs.Common.{refl}
use Rattle.cdx_schema.specs.Table.{rule}
use Rattle.cdx_relations.proofs.xml.reading.dependency.DependencyChildren.rule.Goals as goal

pub returns : goal.returns
unfolding rule
returns c = refl
