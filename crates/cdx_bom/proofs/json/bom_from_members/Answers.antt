use Rattle.std.proofs.Common.{Ok, ap, sym}
use Rattle.std.proofs.lemmas.Result.{err_from_is_err_and}
use Rattle.cdx_schema.specs.JsonReading.{seen}
use Rattle.cdx_schema.specs.Depths.{depth_of}
use Rattle.cdx_json.proofs.Rows.{fails_then}
use Rattle.cdx_json.specs.SeenOf.{seen_of}
use Rattle.cdx_bom.specs.Groups.{bill_by_groups}
use Rattle.cdx_bom.proofs.ReadApart.{relations_apart}
use Rattle.cdx_bom.proofs.json.bom_from_members.Goals as goal

pub returns-in_err-check_format : goal.returns-in_err-check_format
unfolding bill_by_groups
returns-in_err-check_format c = λ held h.
    let p = err_from_is_err_and c.from_residual.result c.from_residual.ensures.1 in
    rw (p.1, p.2) (fails_then _ _ _ c.in_err-check_format.ensures)

pub returns-in_err-inventory : goal.returns-in_err-inventory
unfolding bill_by_groups
returns-in_err-inventory c = λ held h.
    let p = err_from_is_err_and c.from_residual-in_err-inventory.result c.from_residual-in_err-inventory.ensures.1 in
    rw (p.1, p.2, c.in_ok-check_format.ensures) (fails_then _ _ _ (c.in_err-inventory.ensures held h))

pub returns-in-Ok : goal.returns-in-Ok
unfolding bill_by_groups
returns-in-Ok c = λ held h.
    rw (c.in_ok-check_format.ensures, c.in_ok-inventory.ensures held h, relations_apart held (seen (seen_of c.args.map.now.members.items)) c.args.context.version (depth_of c.args.context.depth), c.in-Ok.ensures) (ap Ok (sym c.assemble.ensures))

pub returns-in-Err : goal.returns-in-Err
unfolding bill_by_groups
returns-in-Err c = λ held h.
    rw (c.in_ok-check_format.ensures, c.in_ok-inventory.ensures held h, relations_apart held (seen (seen_of c.args.map.now.members.items)) c.args.context.version (depth_of c.args.context.depth)) (fails_then _ _ _ c.in-Err.ensures)
