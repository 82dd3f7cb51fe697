use Rattle.std.proofs.Common.{subst}
use Rattle.cdx_schema.specs.Kinds.{components, a_list}
use Rattle.cdx_schema.specs.Depth.{Depth}
use Rattle.cdx_leaf.specs.Reading.{ReadsAs}
use Rattle.cdx_component.specs.Trees.{components_tree}
use Rattle.cdx_component.proofs.xml.reading.ComponentsFromXml.read_from.Goals as goal

pub returns : goal.returns
returns c =
    subst (λ (d : Depth). ReadsAs components_tree c.args.reader.now c.read_components_element.new.reader c.args.opened.now.element.now c.args.opened.now.attributes.now c.args.opened.now.version (a_list components) (λ _. d) c.read_components_element.result) c.top.ensures c.read_components_element.ensures
