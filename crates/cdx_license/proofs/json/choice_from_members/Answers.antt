use Rattle.std.proofs.Common.{◌∙◌}
use Rattle.std.proofs.lemmas.Result.{err_from_is_err_and}
use Rattle.cdx_json.specs.SeenOf.{seen_of}
use Rattle.cdx_schema.specs.Depths.{depth_of}
use Rattle.cdx_license.proofs.Licensed.{reads_license, reads_expression}
use Rattle.cdx_license.proofs.json.choice_from_members.Goals as goal

pub returns-in_err-required_row : goal.returns-in_err-required_row
returns-in_err-required_row c =
    let p = err_from_is_err_and c.from_residual.result c.from_residual.ensures.1 in
    rw (p.1, p.2, reads_license (seen_of c.args.map.now.members.items) c.is_lone_license.result c.args.context.version (depth_of c.args.context.depth) c.is_lone_license.ensures c.if-is_lone_license.true) c.in_err-required_row.ensures

pub returns-in_ok-required_row : goal.returns-in_ok-required_row
returns-in_ok-required_row c =
    reads_license (seen_of c.args.map.now.members.items) c.is_lone_license.result c.args.context.version (depth_of c.args.context.depth) c.is_lone_license.ensures c.if-is_lone_license.true ∙ c.in_ok-required_row.ensures

pub returns-in_err-from_members : goal.returns-in_err-from_members
returns-in_err-from_members c =
    let p = err_from_is_err_and c.from_residual-in_err-from_members.result c.from_residual-in_err-from_members.ensures.1 in
    rw (p.1, p.2, reads_expression (seen_of c.args.map.now.members.items) c.is_lone_license.result c.args.context.version (depth_of c.args.context.depth) c.is_lone_license.ensures c.if-is_lone_license.false) c.in_err-from_members.ensures

pub returns-in_ok-from_members : goal.returns-in_ok-from_members
returns-in_ok-from_members c =
    reads_expression (seen_of c.args.map.now.members.items) c.is_lone_license.result c.args.context.version (depth_of c.args.context.depth) c.is_lone_license.ensures c.if-is_lone_license.false ∙ c.in_ok-from_members.ensures
