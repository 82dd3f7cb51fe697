use Rattle.std.proofs.Common.{subst}
use Rattle.cdx_schema.specs.Kinds.{a_list, services}
use Rattle.cdx_leaf.specs.Reading.{ReadsAs}
use Rattle.cdx_service.specs.Trees.{services_tree}
use Rattle.cdx_service.proofs.xml.reading.ServicesFromXml.read_from.Goals as goal

pub returns : goal.returns
returns c =
    subst (λ d. ReadsAs services_tree c.args.reader.now c.read_services_element.new.reader c.args.opened.now.element.now c.args.opened.now.attributes.now c.args.opened.now.version (a_list services) (λ _. d) c.read_services_element.result) c.top.ensures c.read_services_element.ensures
