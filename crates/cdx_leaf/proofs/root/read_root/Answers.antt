use Rattle.std.proofs.Common.{sym, ◌∙◌, subst, [], ◌∷◌}
use Rattle.cdx_events.specs.declared.event.XmlEvent.TheVariants.{EndDocument}
use Rattle.cdx_events.specs.Nodes.{element}
use Rattle.cdx_schema.specs.Depth.{top}
use Rattle.cdx_schema.specs.XmlReading.{xread}
use Rattle.cdx_leaf.specs.Fault.{Denotes}
use Rattle.cdx_leaf.specs.Reading.{Reads, behind_end}
use Rattle.cdx_leaf.proofs.Roots.{same_root, denotes_read}
use Rattle.cdx_leaf.proofs.root.read_root.Goals as goal

pub returns : goal.returns
returns g c = λ root is.
    let found = c.root_of-reader.ensures.root in
    let r = c.root_of-reader.result in
    let kind = g.X.Kinded.kind in
    let read = c.read_xml_element.ensures top r.namespace.now 1 found.nodes (EndDocument ∷ []) found.stands in
    let denotes = denotes_read g.X.HasTree.tree r.reader c.read_xml_element.new.reader (behind_end r.reader found.nodes (EndDocument ∷ [])) (xread (element r.name.now r.attributes.now r.namespace.now found.nodes) c.args.version kind 1 top) c.read_xml_element.result (subst (λ d. Reads g.X.HasTree.tree r.reader c.read_xml_element.new.reader (behind_end r.reader found.nodes (EndDocument ∷ [])) (xread (element r.name.now r.attributes.now r.namespace.now found.nodes) c.args.version kind 1 d) c.read_xml_element.result) g.X.FromXml.at_top read) in
    let same = same_root root r.name.now r.attributes.now r.namespace.now found.nodes (sym found.whole ∙ is) in
    subst (λ k. Denotes g.X.HasTree.tree (xread k c.args.version kind 1 top) c.read_xml_element.result) same denotes
