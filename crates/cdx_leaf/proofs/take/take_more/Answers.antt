use Rattle.std.proofs.Common.{Ok, refl, sym, ap, ◌∙◌}
use Rattle.std.proofs.lemmas.Result.{err_from_is_err_and}
use Rattle.cdx_events.specs.Nodes.{element}
use Rattle.cdx_schema.specs.Results.{◌>>=◌}
use Rattle.cdx_schema.specs.XmlReading.{appended, xread}
use Rattle.cdx_models.specs.Trees.{present, list_tree}
use Rattle.cdx_leaf.proofs.Records.{first_fails}
use Rattle.cdx_leaf.proofs.ChildSteps.{pushed}
use Rattle.cdx_leaf.proofs.take.take_more.Goals as goal

pub returns-in_err-item : goal.returns-in_err-item
returns-in_err-item g c = λ d ns p nodes rest st.
    let q = err_from_is_err_and c.from_residual.result c.from_residual.ensures.1 in
    let read = c.in_err-item.ensures d ns p nodes rest st in
    let before = present (list_tree g.X.HasTree.tree) c.args.field.now in
    rw (q.1, q.2) (read.0, first_fails c.in_err-item.field-0.0 c.read_from.new.reader.place (xread (element c.args.opened.now.element.now c.args.opened.now.attributes.now ns nodes) c.args.opened.now.version g.X.Kinded.kind p (g.X.FromXml.depth d)) (λ t. Ok (appended before t)) read.1)

pub returns : goal.returns
returns g c = λ d ns p nodes rest st.
    let tree = g.X.HasTree.tree in
    let x = c.in_ok-item.item in
    let read = c.in_ok-item.ensures d ns p nodes rest st in
    let before = present (list_tree tree) c.args.field.now in
    (refl, ap (λ r. r >>= λ t. Ok (appended before t)) read.0 ∙ ap (λ t. Ok t) (pushed tree c.args.field.now x ∙ ap (λ o. present (list_tree tree) o) (sym c.in_ok-push_into.ensures)), read.1)
