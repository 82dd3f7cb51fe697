use Rattle.std.proofs.Common.{refl}
use Rattle.std.proofs.lemmas.Result.{err_from_is_err_and}
use Rattle.cdx_json.proofs.OnRows.{on_rows}
use Rattle.cdx_json.proofs.Rows.{fails_then}
use Rattle.cdx_json.proofs.tool.ToolJsonRecord.from_members.Goals as goal

pub returns-in_err-held_version : goal.returns-in_err-held_version
unfolding on_rows
returns-in_err-held_version c =
    let p = err_from_is_err_and c.from_residual-in_err-held_version.result c.from_residual-in_err-held_version.ensures.1 in
    rw (p.1, p.2, c.in_ok-vendor.ensures, c.in_ok-name.ensures) (fails_then _ _ _ c.in_err-held_version.ensures)

pub returns-in_err-hashes : goal.returns-in_err-hashes
unfolding on_rows
returns-in_err-hashes c =
    let p = err_from_is_err_and c.from_residual-in_err-hashes.result c.from_residual-in_err-hashes.ensures.1 in
    rw (p.1, p.2, c.in_ok-vendor.ensures, c.in_ok-name.ensures, c.in_ok-held_version.ensures) (fails_then _ _ _ c.in_err-hashes.ensures)

pub returns-in_err-external_references : goal.returns-in_err-external_references
unfolding on_rows
returns-in_err-external_references c =
    let p = err_from_is_err_and c.from_residual-in_err-external_references.result c.from_residual-in_err-external_references.ensures.1 in
    rw (p.1, p.2, c.in_ok-vendor.ensures, c.in_ok-name.ensures, c.in_ok-held_version.ensures, c.in_ok-hashes.ensures) (fails_then _ _ _ c.in_err-external_references.ensures)

pub returns : goal.returns
unfolding on_rows
returns c = rw (c.in_ok-vendor.ensures, c.in_ok-name.ensures, c.in_ok-held_version.ensures, c.in_ok-hashes.ensures, c.in_ok-external_references.ensures) refl
