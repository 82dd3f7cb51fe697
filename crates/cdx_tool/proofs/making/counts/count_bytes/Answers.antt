use Rattle.std.proofs.Common.{arith}
use Rattle.cdx_schema.specs.Roads.{json}
use Rattle.cdx_tool.proofs.Answering.{two_docs}
use Rattle.cdx_tool.proofs.making.counts.count_bytes.Goals as goal

pub returns-in_default : goal.returns-in_default
returns-in_default c = λ first x are clear. absurd (omega (arith, two_docs c.args.docs.now first (json x) are, c.in_default.len_below))

pub returns-in_default-3 : goal.returns-in_default-3
returns-in_default-3 c = λ first x are clear. absurd (omega (arith, two_docs c.args.docs.now first (json x) are, c.in_default.len_at_least))
