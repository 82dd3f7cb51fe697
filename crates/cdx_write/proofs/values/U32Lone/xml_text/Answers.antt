use Rattle.std.proofs.Common.{◌∙◌, arith}
use Rattle.cdx_write.proofs.Decimals.{decimal_is}
use Rattle.cdx_write.proofs.values.U32Lone.xml_text.Goals as goal

pub returns : goal.returns
returns c = c.from_string.ensures ∙ c.in_ok-format.ensures.ok ∙ decimal_is c.args.self.now (omega arith)
