use Rattle.std.proofs.Common.{arith}
use Rattle.cdx_bom.proofs.Pieces.{in_pieces}
use Rattle.cdx_bom.proofs.xml.pieces.DocumentPieces.next.Goals as goal

pub returns-in_ok-piece-in-Start-clause-gives : goal.returns-in_ok-piece-in-Start-clause-gives
returns-in_ok-piece-in-Start-clause-gives c =
    rw (← c.self.view_is, c.in-Start.is, c.components_of.ensures, c.in_ok-piece-in-Start.ensures) (in_pieces c.self.inside.target.version c.self.inside.bill.now, omega arith)
