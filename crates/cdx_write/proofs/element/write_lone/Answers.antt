use Rattle.std.proofs.Common.{◌∙◌}
use Rattle.cdx_write.specs.Writing.{simple_tag}
use Rattle.cdx_write.specs.Spelling.{spelled_events}
use Rattle.cdx_write.proofs.RowWords.{appends_same, lone_written}
use Rattle.cdx_write.proofs.element.write_lone.Goals as goal

pub returns : goal.returns
returns g c =
    let x = c.args.held.now in
    let same = lone_written g.T.Kinded.kind (g.T.HasTree.tree x) c.args.target.version c.args.tag.now c.as_str.result.now (g.met.T.Lone.lone x) (c.as_str.ensures ∙ c.in_ok-text.ensures) in
    appends_same c.args.writer.now c.write_simple_tag.new.writer (simple_tag c.args.tag.now c.as_str.result.now) (spelled_events (g.T.HasTree.tree x) c.args.target.version c.args.tag.now g.T.Kinded.kind) c.write_simple_tag.result same c.write_simple_tag.ensures
