use Rattle.std.proofs.Common.{Err, [], ◌∷◌, ◌++◌}
use Rattle.std.proofs.lemmas.Result.{err_from_is_err_and}
use Rattle.cdx_models.specs.Trees.{list_tree}
use Rattle.cdx_schema.specs.Kinds.{a_list}
use Rattle.cdx_write.specs.Spelling.{spelled_events, inner}
use Rattle.cdx_write.specs.Writing.{start_tag, end_tag}
use Rattle.cdx_write.proofs.Appended.{first_fails, from, then_fails, ◌▸◌}
use Rattle.cdx_write.proofs.RowWords.{appends_same}
use Rattle.cdx_write.proofs.Lists.{list_is}
use Rattle.cdx_write.proofs.list.write_list.Goals as goal

pub returns-in_err-write_start_tag : goal.returns-in_err-write_start_tag
returns-in_err-write_start_tag g c = λ l is.
    let p = err_from_is_err_and c.from_residual.result c.from_residual.ensures.1 in
    let tag = c.args.tag.now in
    let t = list_tree g.T.HasTree.tree c.args.held.now in
    let content = inner t c.args.target.version (a_list l) in
    rw (p.1, p.2) (appends_same c.args.writer.now c.write_start_tag.new.writer (start_tag tag ∷ content ++ end_tag tag ∷ []) (spelled_events t c.args.target.version tag (a_list l)) (Err _) (list_is g.T.HasTree.tree tag l c.args.target.version c.args.held.now)
    (first_fails c.args.writer.now c.write_start_tag.new.writer (start_tag tag ∷ []) (content ++ end_tag tag ∷ []) _ c.in_err-write_start_tag.ensures))

pub returns-in_err-write_items : goal.returns-in_err-write_items
returns-in_err-write_items g c = λ l is.
    let p = err_from_is_err_and c.from_residual-in_err-write_items.result c.from_residual-in_err-write_items.ensures.1 in
    let tag = c.args.tag.now in
    let t = list_tree g.T.HasTree.tree c.args.held.now in
    let new = c.write_items.new.writer in
    let content = inner t c.args.target.version (a_list l) in
    rw (p.1, p.2) (appends_same c.args.writer.now new (start_tag tag ∷ content ++ end_tag tag ∷ []) (spelled_events t c.args.target.version tag (a_list l)) (Err _) (list_is g.T.HasTree.tree tag l c.args.target.version c.args.held.now)
    (then_fails (from c.args.writer.now ▸ (start_tag tag ∷ [], c.in_ok-write_start_tag.ensures)) new content (end_tag tag ∷ []) _ (c.in_err-write_items.ensures l is)))

pub returns : goal.returns
returns g c = λ l is.
    let tag = c.args.tag.now in
    let t = list_tree g.T.HasTree.tree c.args.held.now in
    let new = c.write_close_tag.new.writer in
    let content = inner t c.args.target.version (a_list l) in
    appends_same c.args.writer.now new (start_tag tag ∷ content ++ end_tag tag ∷ []) (spelled_events t c.args.target.version tag (a_list l)) c.write_close_tag.result (list_is g.T.HasTree.tree tag l c.args.target.version c.args.held.now)
    ((from c.args.writer.now ▸ (start_tag tag ∷ [], c.in_ok-write_start_tag.ensures) ▸ (content, c.in_ok-write_items.ensures l is)).then_all new (end_tag tag ∷ []) c.write_close_tag.result c.write_close_tag.ensures)
