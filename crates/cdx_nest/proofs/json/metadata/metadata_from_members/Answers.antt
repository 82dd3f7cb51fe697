use Rattle.std.proofs.Common.{Ok, ap, sym}
use Rattle.std.proofs.lemmas.Result.{err_from_is_err_and}
use Rattle.cdx_json.proofs.Rows.{fails_then}
use Rattle.cdx_nest.specs.Groups.{metadata_by_groups}
use Rattle.cdx_nest.proofs.json.metadata.metadata_from_members.Goals as goal

pub returns-in_err-makers : goal.returns-in_err-makers
unfolding metadata_by_groups
returns-in_err-makers c =
    let p = err_from_is_err_and c.from_residual.result c.from_residual.ensures.1 in
    rw (p.1, p.2) (fails_then _ _ _ c.in_err-makers.ensures)

pub returns-in-Ok : goal.returns-in-Ok
unfolding metadata_by_groups
returns-in-Ok c = rw (c.in_ok-makers.ensures, c.in-Ok.ensures) (ap Ok (sym c.assemble.ensures))

pub returns-in-Err : goal.returns-in-Err
unfolding metadata_by_groups
returns-in-Err c = rw (c.in_ok-makers.ensures) (fails_then _ _ _ c.in-Err.ensures)
