use Rattle.std.proofs.Common.{Ok, sym, ap, ◌∙◌}
use Rattle.cdx_models.specs.Trees.{pedigree, fields}
use Rattle.cdx_schema.specs.Results.{◌>>=◌}
use Rattle.cdx_component.specs.Laws.{pedigree_tree-roll}
use Rattle.cdx_component.proofs.Begun.{pedigree_ends}
use Rattle.cdx_component.proofs.xml.reading.finish.finish_pedigree.Goals as goal

pub returns : goal.returns
returns c = λ name v place.
    ap (λ r. r >>= λ us. Ok (fields pedigree us)) (pedigree_ends c.args.part v name place) ∙ ap (λ t. Ok t) (sym (pedigree_tree-roll _))
