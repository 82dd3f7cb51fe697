use Rattle.std.proofs.Common.{refl}
use Rattle.cdx_schema.specs.Table.{rows}
use Rattle.cdx_schema.specs.XmlReading.{attributes_read}
use Rattle.cdx_push_relations.proofs.signature.BegunChainFrame.begin.Goals as goal

pub returns : goal.returns
unfolding rows attributes_read
returns c = rw c.new.ensures refl
