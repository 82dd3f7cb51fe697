use Rattle.std.proofs.Common.{ap, ◌∙◌}
use Rattle.std.proofs.lemmas.Result.{err_from_is_err_and}
use Rattle.cdx_json.specs.SeenOf.{seen_of}
use Rattle.cdx_models.specs.Trees.{spdx_id, license_name}
use Rattle.cdx_schema.specs.Results.{◌>>=◌}
use Rattle.cdx_schema.specs.JsonReading.{seen}
use Rattle.cdx_schema.specs.Depths.{depth_of}
use Rattle.cdx_json.proofs.Rows.{fails_then}
use Rattle.cdx_license.proofs.Licensed.{reads_id, reads_name, lacks_id, as_identifier}
use Rattle.cdx_license.proofs.json.identifier_from_members.Goals as goal

pub returns-in_err-required_row : goal.returns-in_err-required_row
returns-in_err-required_row c =
    let p = err_from_is_err_and c.from_residual.result c.from_residual.ensures.1 in
    rw (p.1, p.2, reads_id (seen (seen_of c.args.map.now.members.items)) c.has_member.result c.args.context.version (depth_of c.args.context.depth) c.has_member.ensures c.if-has_member.true) (fails_then (as_identifier spdx_id) _ _ c.in_err-required_row.ensures)

pub returns-in_err-required_row-2 : goal.returns-in_err-required_row-2
returns-in_err-required_row-2 c =
    let p = err_from_is_err_and c.from_residual-in_err-required_row-2.result c.from_residual-in_err-required_row-2.ensures.1 in
    rw (p.1, p.2, reads_name (seen (seen_of c.args.map.now.members.items)) c.has_member.result c.has_member-else-has_member.result c.args.context.version (depth_of c.args.context.depth) c.has_member.ensures c.if-has_member.false c.has_member-else-has_member.ensures c.if-has_member-2.true) (fails_then (as_identifier license_name) _ _ c.in_err-required_row-2.ensures)

pub returns-in_ok-required_row : goal.returns-in_ok-required_row
returns-in_ok-required_row c =
    reads_id (seen (seen_of c.args.map.now.members.items)) c.has_member.result c.args.context.version (depth_of c.args.context.depth) c.has_member.ensures c.if-has_member.true
    ∙ ap (λ r. r >>= as_identifier spdx_id) c.in_ok-required_row.ensures

pub returns-in_ok-required_row-2 : goal.returns-in_ok-required_row-2
returns-in_ok-required_row-2 c =
    reads_name (seen (seen_of c.args.map.now.members.items)) c.has_member.result c.has_member-else-has_member.result c.args.context.version (depth_of c.args.context.depth) c.has_member.ensures c.if-has_member.false c.has_member-else-has_member.ensures c.if-has_member-2.true
    ∙ ap (λ r. r >>= as_identifier license_name) c.in_ok-required_row-2.ensures

pub returns-else-has_member-2 : goal.returns-else-has_member-2
returns-else-has_member-2 c =
    lacks_id c.missing.result (seen (seen_of c.args.map.now.members.items)) c.has_member.result c.has_member-else-has_member.result c.args.context.version (depth_of c.args.context.depth) c.has_member.ensures c.if-has_member.false c.has_member-else-has_member.ensures c.if-has_member-2.false c.missing.ensures
