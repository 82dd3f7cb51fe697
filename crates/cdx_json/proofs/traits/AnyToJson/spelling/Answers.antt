use Rattle.std.proofs.Common.{ap, ◌∙◌}
use Rattle.cdx_models.specs.Trees.{fields_of}
use Rattle.cdx_schema.specs.Table.{rows}
use Rattle.cdx_schema.proofs.PlainNames.{plain_name}
use Rattle.cdx_json.specs.KeptRows.{rows_put}
use Rattle.cdx_json.specs.Spellings.{spelling_members}
use Rattle.cdx_json.proofs.Spelled.{record_spelled}
use Rattle.cdx_json.proofs.traits.AnyToJson.spelling.Goals as goal

pub returns : goal.returns
returns g c =
    record_spelled c.put_members.new.map g.T.Record.name c.args.version (g.T.HasTree.tree c.args.self.now) (g.met.T.Record.is_record c.args.self.now) (plain_name g.T.Record.name g.T.Record.plain).no_heading
    (c.in_ok-put_members.ensures ∙ ap (λ es. rows_put (fields_of (g.T.HasTree.tree c.args.self.now)) c.args.version (rows g.T.Record.name) (spelling_members es)) c.new-map.ensures.items)
