use Rattle.std.proofs.Common.{ap, Ok}
use Rattle.cdx_models.specs.Trees.{text, more, none}
use Rattle.cdx_schema.specs.Table.{rows}
use Rattle.cdx_schema.specs.XmlReading.{ended}
use Rattle.cdx_leaf.proofs.Parts.{filled_list}
use Rattle.cdx_relations.proofs.xml.reading.dependency.DependencyXmlRecord.finish.Goals as goal

pub returns : goal.returns
unfolding rows ended
returns c = ap (λ t. Ok (more (text c.args.part.dependency_ref) (more t none))) (filled_list text c.args.part.depends_on)
