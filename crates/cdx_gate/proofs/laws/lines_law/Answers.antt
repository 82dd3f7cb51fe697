use Rattle.cdx_gate.proofs.LineLaws.{are_pieces, goes_on}
use Rattle.cdx_gate.proofs.laws.lines_law.Goals as goal

pub returns-clause-pieces : goal.returns-clause-pieces
returns-clause-pieces c = are_pieces

pub returns-clause-behind : goal.returns-clause-behind
returns-clause-behind c = goes_on
