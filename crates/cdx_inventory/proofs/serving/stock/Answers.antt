use Rattle.std.proofs.Common.{inl}
use Rattle.cdx_inventory.proofs.Owed.{table, status_is, is_there, served, valid}
use Rattle.cdx_inventory.proofs.serving.stock.Goals as goal

pub returns-clause-table : goal.returns-clause-table
returns-clause-table g c = table _ _ _ _ _ _ _ _ _ c.as_ref.ensures.value c.read_command-command.ensures c.respond.ensures.table

pub returns-clause-served : goal.returns-clause-served
returns-clause-served g c = λ bytes told source sink. status_is _ _ _ _ bytes _ c.as_ref.ensures.value c.read_command-command.ensures (c.respond.ensures.served bytes told source sink)

pub returns-clause-valid : goal.returns-clause-valid
returns-clause-valid g c = λ command bytes bill is told le asks source sink. valid _ command bytes bill _ is le asks (returns-clause-served g c bytes told source sink)

pub returns-clause-headline : goal.returns-clause-headline
returns-clause-headline g c =
    let t = returns-clause-table g c in
    λ command is zero. served _ _ _ _ _ _ command t.0 _ t.1 t.2 is zero (c.respond.ensures.end (is_there _ _ _ _ command c.as_ref.ensures.value c.read_command-command.ensures is) (inl zero))
