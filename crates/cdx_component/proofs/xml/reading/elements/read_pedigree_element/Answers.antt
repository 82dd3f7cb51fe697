use Rattle.std.proofs.lemmas.Result.{err_from_is_err_and}
use Rattle.cdx_models.specs.Trees.{pedigree}
use Rattle.cdx_schema.specs.Kinds.{a_record}
use Rattle.cdx_schema.specs.Depths.{depth_of}
use Rattle.cdx_component.specs.Frames.{value_tree}
use Rattle.cdx_component.specs.Trees.{pedigree_tree}
use Rattle.cdx_component.proofs.Readers.{read_as}
use Rattle.cdx_component.proofs.xml.reading.elements.read_pedigree_element.Goals as goal

pub returns-in_err-value : goal.returns-in_err-value
returns-in_err-value c =
    let q = err_from_is_err_and c.from_residual.result c.from_residual.ensures.1 in
    rw (q.1, q.2) c.in_err-value.ensures.reads

pub pedigree_of-requires : goal.pedigree_of-requires
pedigree_of-requires c = c.in_ok-value.ensures.sort

pub returns : goal.returns
returns c =
    read_as value_tree pedigree_tree c.args.reader.now c.read_element.new.reader c.args.opened.now.element.now c.args.opened.now.attributes.now c.args.opened.now.version (a_record pedigree) (λ _. depth_of c.args.depth) c.in_ok-value.value c.pedigree_of.result c.pedigree_of.ensures c.in_ok-value.ensures.reads
