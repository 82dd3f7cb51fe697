use Rattle.std.proofs.Common.{refl, sym, ◌∙◌}
use Rattle.std.proofs.lemmas.Result.{err_from_is_err_and}
use Rattle.cdx_json.specs.SeenOf.{seen_of}
use Rattle.cdx_schema.specs.JsonReading.{seen}
use Rattle.cdx_schema.specs.Table.{rows}
use Rattle.cdx_json.specs.ByRows.{rows_made}
use Rattle.cdx_schema.specs.Depths.{depth_of}
use Rattle.cdx_json.proofs.Rows.{fails_then}
use Rattle.cdx_service_data.proofs.DataEntries.{own_classification, own_fails}
use Rattle.cdx_service_data.proofs.json.ServiceDataJsonRecord.from_members.Goals as goal

pub returns-in_err-classification : goal.returns-in_err-classification
unfolding rows_made rows
returns-in_err-classification c =
    let p = err_from_is_err_and c.from_residual-in_err-classification.result c.from_residual-in_err-classification.ensures.1 in
    let o = seen (seen_of c.args.map.now.members.items) in
    rw (p.1, p.2, c.in_ok-name.ensures, c.in_ok-description.ensures) (fails_then _ _ _ (own_fails c.in_err-classification.field-0.0 o c.args.context.version (depth_of c.args.context.depth) c.in_err-classification.ensures))

pub returns : goal.returns
unfolding rows_made rows
returns c =
    let o = seen (seen_of c.args.map.now.members.items) in
    rw (c.in_ok-name.ensures, c.in_ok-description.ensures, sym (own_classification o c.args.context.version (depth_of c.args.context.depth)) ∙ c.in_ok-classification.ensures) refl
