use Rattle.std.proofs.Common.{◌++◌, ap, ◌∙◌}
use Rattle.std.proofs.lemmas.Result.{on_ok_weaker}
use Rattle.cdx_write.proofs.RowWords.{attribute_there}
use Rattle.cdx_write.proofs.attribute.put_required_attribute.Goals as goal

pub returns : goal.returns
returns g c =
    let x = c.args.held.now in
    let same = attribute_there c.args.name.now g.T.Kinded.kind (g.T.HasTree.tree x) c.args.target.version c.in_ok-name.name c.in_ok-value.value (g.met.T.Lone.lone x) (g.met.T.HasTree.there x) c.in_ok-name.ensures c.in_ok-value.ensures in
    on_ok_weaker c.push.result (λ e. e ∙ ap (λ s. c.args.attributes.now ++ s) same) c.push.ensures.ok
