use Rattle.std.proofs.Common.{◌++◌, ap, ◌∙◌}
use Rattle.std.proofs.lemmas.Result.{on_ok_weaker}
use Rattle.cdx_models.specs.Trees.{present}
use Rattle.cdx_write.specs.WrittenRows.{attribute_written}
use Rattle.cdx_write.proofs.RowWords.{no_attribute_added, late_known, late_unknown}
use Rattle.cdx_write.proofs.attribute.put_attribute_since.Goals as goal

pub returns-then-is_known_to : goal.returns-then-is_known_to
returns-then-is_known_to g c =
    let row = attribute_written c.args.name.now g.T.Kinded.kind (present g.T.HasTree.tree c.args.held.now) c.args.target.version in
    on_ok_weaker c.put_attribute.result (λ e. e ∙ ap (λ s. c.args.attributes.now ++ s) (late_known c.args.since c.args.target.version c.is_known_to.result row c.is_known_to.ensures c.if-is_known_to.true)) c.put_attribute.ensures

pub returns-else-is_known_to : goal.returns-else-is_known_to
returns-else-is_known_to g c =
    let row = attribute_written c.args.name.now g.T.Kinded.kind (present g.T.HasTree.tree c.args.held.now) c.args.target.version in
    no_attribute_added c.args.attributes.now _ (late_unknown c.args.since c.args.target.version c.is_known_to.result row c.is_known_to.ensures c.if-is_known_to.false)
