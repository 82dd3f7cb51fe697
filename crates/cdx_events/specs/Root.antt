-- The root of a list of events, by a stack of open elements.
use Rattle.std.specs.Prelude.{cond, List, [], ◌∷◌, Option, Some, None}
use Rattle.cdx_events.specs.declared.name.OwnedName.{OwnedName}
use Rattle.cdx_events.specs.declared.name.OwnedAttribute.{OwnedAttribute}
use Rattle.cdx_events.specs.declared.name.Namespace.{Namespace}
use Rattle.cdx_events.specs.declared.event.XmlEvent.{XmlEvent}
use Rattle.cdx_events.specs.declared.event.XmlEvent.TheVariants.{StartDocument, EndDocument, StartElement, EndElement, Characters, CData}
use Rattle.cdx_events.specs.Name.{same_name}
use Rattle.cdx_events.specs.Nodes.{Node, Nodes, characters, cdata, element, no_nodes, node}
use Rattle.cdx_events.specs.Balance.{OpenElement}

abbrev pub then : Nodes → Node → Nodes
then no_nodes k = node k no_nodes
then (node j ks) k = node j (then ks k)

abbrev pub with : OpenElement → Node → OpenElement
with f k = record f { before = then f.before k }

abbrev pub node_of : OpenElement → Node
node_of f = element f.name f.attributes f.namespace f.before

abbrev pub element_ended : OpenElement → List XmlEvent → Option OpenElement
element_ended f (EndDocument ∷ []) = Some f
element_ended f es = None

abbrev pub element_opened : OwnedName → List OwnedAttribute → Namespace → OpenElement
element_opened n a s = record { name = n; attributes = a; namespace = s; before = no_nodes }

-- inside the innermost open element f, with fs around it
abbrev pub root_in : OpenElement → List OpenElement → List XmlEvent → Option OpenElement
root_in f fs [] = None
root_in f fs (StartElement n a s ∷ es) = root_in (element_opened n a s) (f ∷ fs) es
root_in f fs (Characters t ∷ es) = root_in (with f (characters t)) fs es
root_in f fs (CData t ∷ es) = root_in (with f (cdata t)) fs es
root_in f [] (EndElement m ∷ es) = cond (same_name f.name m) (element_ended f es) None
root_in f (g ∷ fs) (EndElement m ∷ es) = cond (same_name f.name m) (root_in (with g (node_of f)) fs es) None
root_in f fs (StartDocument ∷ es) = None
root_in f fs (EndDocument ∷ es) = None

abbrev pub root_after : List XmlEvent → Option OpenElement
root_after (StartElement n a s ∷ es) = root_in (element_opened n a s) [] es
root_after es = None

-- the root of a balanced list, with its nodes
unfoldable pub root_of : List XmlEvent → Option OpenElement
root_of (StartDocument ∷ es) = root_after es
root_of es = None
