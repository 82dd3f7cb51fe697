use Rattle.std.proofs.Common.{subst}
use Rattle.cdx_models.specs.Trees.{component}
use Rattle.cdx_schema.specs.Kinds.{a_record}
use Rattle.cdx_schema.specs.Depth.{Depth}
use Rattle.cdx_leaf.specs.Reading.{ReadsAs}
use Rattle.cdx_component.specs.Trees.{component_tree}
use Rattle.cdx_component.proofs.xml.reading.ComponentFromXml.read_from.Goals as goal

pub returns : goal.returns
returns c =
    subst (λ (d : Depth). ReadsAs component_tree c.args.reader.now c.read_component_element.new.reader c.args.opened.now.element.now c.args.opened.now.attributes.now c.args.opened.now.version (a_record component) (λ _. d) c.read_component_element.result) c.top.ensures c.read_component_element.ensures
