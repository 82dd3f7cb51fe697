use Rattle.std.proofs.Common.{Err, [], ◌∷◌, ◌++◌}
use Rattle.std.proofs.lemmas.Result.{err_from_is_err_and}
use Rattle.cdx_schema.specs.Kinds.{a_tools}
use Rattle.cdx_write.specs.Spelling.{spelled_events, inner}
use Rattle.cdx_write.specs.Writing.{start_tag, end_tag}
use Rattle.cdx_write.proofs.Appended.{first_fails, from, then_fails, ◌▸◌}
use Rattle.cdx_write.proofs.RowWords.{appends_same}
use Rattle.cdx_nest.specs.Trees.{tools_tree}
use Rattle.cdx_nest.proofs.WriteTools.{tools_written}
use Rattle.cdx_nest.proofs.xml.writing.tools.ToolsElement.write_as.Goals as goal

pub returns-in_err-write_start_tag : goal.returns-in_err-write_start_tag
returns-in_err-write_start_tag c =
    let p = err_from_is_err_and c.from_residual.result c.from_residual.ensures.1 in
    let tag = c.args.tag.now in
    let content = inner (tools_tree c.args.self.now) c.args.target.version a_tools in
    rw (p.1, p.2) (appends_same c.args.writer.now c.write_start_tag.new.writer (start_tag tag ∷ content ++ end_tag tag ∷ []) (spelled_events (tools_tree c.args.self.now) c.args.target.version tag a_tools) (Err _) (tools_written tag c.args.self.now c.args.target.version)
    (first_fails c.args.writer.now c.write_start_tag.new.writer (start_tag tag ∷ []) (content ++ end_tag tag ∷ []) _ c.in_err-write_start_tag.ensures))

pub returns-in_err-write_content : goal.returns-in_err-write_content
returns-in_err-write_content c =
    let p = err_from_is_err_and c.from_residual-in_err-write_content.result c.from_residual-in_err-write_content.ensures.1 in
    let tag = c.args.tag.now in
    let new = c.write_content.new.writer in
    let content = inner (tools_tree c.args.self.now) c.args.target.version a_tools in
    rw (p.1, p.2) (appends_same c.args.writer.now new (start_tag tag ∷ content ++ end_tag tag ∷ []) (spelled_events (tools_tree c.args.self.now) c.args.target.version tag a_tools) (Err _) (tools_written tag c.args.self.now c.args.target.version)
    (then_fails (from c.args.writer.now ▸ (start_tag tag ∷ [], c.in_ok-write_start_tag.ensures)) new content (end_tag tag ∷ []) _ c.in_err-write_content.ensures))

pub returns : goal.returns
returns c =
    let tag = c.args.tag.now in
    let new = c.write_close_tag.new.writer in
    let content = inner (tools_tree c.args.self.now) c.args.target.version a_tools in
    appends_same c.args.writer.now new (start_tag tag ∷ content ++ end_tag tag ∷ []) (spelled_events (tools_tree c.args.self.now) c.args.target.version tag a_tools) c.write_close_tag.result (tools_written tag c.args.self.now c.args.target.version)
    ((from c.args.writer.now ▸ (start_tag tag ∷ [], c.in_ok-write_start_tag.ensures) ▸ (content, c.in_ok-write_content.ensures)).then_all new (end_tag tag ∷ []) c.write_close_tag.result c.write_close_tag.ensures)
