use Rattle.std.proofs.Common.{subst}
use Rattle.cdx_models.specs.Trees.{service}
use Rattle.cdx_schema.specs.Kinds.{a_record}
use Rattle.cdx_leaf.specs.Reading.{ReadsAs}
use Rattle.cdx_service.specs.Trees.{service_tree}
use Rattle.cdx_service.proofs.xml.reading.ServiceFromXml.read_from.Goals as goal

pub returns : goal.returns
returns c =
    subst (λ d. ReadsAs service_tree c.args.reader.now c.read_service_element.new.reader c.args.opened.now.element.now c.args.opened.now.attributes.now c.args.opened.now.version (a_record service) (λ _. d) c.read_service_element.result) c.top.ensures c.read_service_element.ensures
