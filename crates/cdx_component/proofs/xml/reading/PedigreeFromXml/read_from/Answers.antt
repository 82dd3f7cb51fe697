use Rattle.std.proofs.Common.{subst}
use Rattle.cdx_models.specs.Trees.{pedigree}
use Rattle.cdx_schema.specs.Kinds.{a_record}
use Rattle.cdx_schema.specs.Depth.{Depth}
use Rattle.cdx_leaf.specs.Reading.{ReadsAs}
use Rattle.cdx_component.specs.Trees.{pedigree_tree}
use Rattle.cdx_component.proofs.xml.reading.PedigreeFromXml.read_from.Goals as goal

pub returns : goal.returns
returns c =
    subst (λ (d : Depth). ReadsAs pedigree_tree c.args.reader.now c.read_pedigree_element.new.reader c.args.opened.now.element.now c.args.opened.now.attributes.now c.args.opened.now.version (a_record pedigree) (λ _. d) c.read_pedigree_element.result) c.top.ensures c.read_pedigree_element.ensures
