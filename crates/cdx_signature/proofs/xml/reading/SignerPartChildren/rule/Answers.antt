use Rattle.std.proofs.Common.{refl}
use Rattle.cdx_schema.specs.Table.{rule}
use Rattle.cdx_signature.proofs.xml.reading.SignerPartChildren.rule.Goals as goal

pub returns : goal.returns
unfolding rule
returns c = refl
