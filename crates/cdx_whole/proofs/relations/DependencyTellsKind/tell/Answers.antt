use Rattle.std.proofs.Common.{inr, refl}
use Rattle.cdx_models.specs.Trees.{text}
use Rattle.cdx_schema.specs.Kinds.{a_text, a_reference}
use Rattle.cdx_schema.specs.Table.{rows, list}
use Rattle.cdx_whole.proofs.Lists.{as_others}
use Rattle.cdx_whole.proofs.relations.DependencyTellsKind.tell.Goals as goal

pub returns : goal.returns
unfolding rows list
returns c = (refl, (inr c.tell.ensures, (inr (tt, as_others text text a_text a_reference (λ s h. h) c.args.self.now.depends_on c.tell_list.ensures), tt)))
