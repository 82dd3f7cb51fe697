use Rattle.std.proofs.Common.{not}
use Rattle.std.specs.Prelude.{is_some}
use Rattle.cdx_trips.proofs.Childless.{twice, then_second, else_first, source_hollow}
use Rattle.cdx_trips.proofs.hollow.is_hollow_source.Goals as goal

pub returns-then-is_none : goal.returns-then-is_none
returns-then-is_none c =
    then_second c.is_none.result c.is_none-then-is_none.result _ c.if-is_none.true (source_hollow c.args.source.now c.is_none.result c.is_none-then-is_none.result c.is_none.ensures c.is_none-then-is_none.ensures)

pub returns-else-is_none : goal.returns-else-is_none
returns-else-is_none c =
    else_first c.is_none.result (not (is_some c.args.source.now.url)) _ c.if-is_none.false (source_hollow c.args.source.now c.is_none.result (not (is_some c.args.source.now.url)) c.is_none.ensures (twice (is_some c.args.source.now.url)))
