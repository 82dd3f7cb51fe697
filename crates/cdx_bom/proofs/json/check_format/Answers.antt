use Rattle.std.proofs.lemmas.Result.{err_from_is_err_and}
use Rattle.cdx_json.specs.SeenOf.{seen_of}
use Rattle.cdx_schema.specs.JsonReading.{seen}
use Rattle.cdx_schema.specs.Depths.{depth_of}
use Rattle.cdx_bom.proofs.Formats.{format_ok, format_bad, format_err}
use Rattle.cdx_bom.proofs.json.check_format.Goals as goal

pub returns-in_err-format : goal.returns-in_err-format
returns-in_err-format c =
    let p = err_from_is_err_and c.from_residual.result c.from_residual.ensures.1 in
    rw (p.1, p.2) (format_err _ (seen (seen_of c.args.map.now.members.items)) c.args.context.version (depth_of c.args.context.depth) c.in_err-format.ensures)

pub returns-then-is : goal.returns-then-is
returns-then-is c = format_ok (seen (seen_of c.args.map.now.members.items)) c.args.context.version (depth_of c.args.context.depth) c.in_ok-format.format c.is.result c.in_ok-format.ensures c.is.ensures c.if-is.true

pub returns : goal.returns
returns c =
    format_bad c.here.result c.at_member.result (seen (seen_of c.args.map.now.members.items)) c.args.context.version (depth_of c.args.context.depth) c.in_ok-format.format c.is.result c.in_ok-format.ensures c.is.ensures c.if-is.false c.here.ensures c.at_member.ensures
