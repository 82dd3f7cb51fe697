use Rattle.std.proofs.Common.{Some, ap, ◌∙◌}
use Rattle.cdx_schema.proofs.PlainNames.{plain_name}
use Rattle.serde_json.specs.View.{view}
use Rattle.cdx_json.specs.SeenOf.{seen_of}
use Rattle.cdx_json.proofs.Values.{record_err, record_gives}
use Rattle.cdx_schema.specs.Depths.{depth_of}
use Rattle.cdx_json.proofs.traits.AnyFromJson.from_json_at.Goals as goal

pub returns-in-None : goal.returns-in-None
returns-in-None g c =
    let plain = plain_name g.T.Record.name g.T.Record.plain in
    record_err c.here.result (view c.args.value.now) g.T.Record.name c.args.context.version (depth_of c.args.context.depth) (plain.shallow (depth_of c.args.context.depth)) c.in-None.ensures c.here.ensures

pub returns-in_ok-members-in-Some : goal.returns-in_ok-members-in-Some
returns-in_ok-members-in-Some g c =
    let plain = plain_name g.T.Record.name g.T.Record.plain in
    record_gives g.T.HasTree.tree c.from_members.result (view c.args.value.now) (seen_of c.in_ok-members-in-Some.members.members.items) g.T.Record.name c.args.context.version (depth_of c.args.context.depth) (plain.shallow (depth_of c.args.context.depth)) (plain.same_depth (depth_of c.args.context.depth)) (ap Some c.in_ok-members-in-Some.ensures ∙ c.in-Some.ensures) c.from_members.ensures
