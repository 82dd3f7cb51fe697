-- Events and nodes without the texts that are empty.
use Rattle.std.specs.Prelude.{List, [], ◌∷◌}
use Rattle.cdx_events.specs.declared.event.XmlEvent.{XmlEvent}
use Rattle.cdx_events.specs.declared.event.XmlEvent.TheVariants.{Characters, CData}
use Rattle.cdx_events.specs.Nodes.{Node, characters, cdata, element, Nodes, no_nodes, node}

-- the events in order, without the texts that are empty
abbrev pub without_empty : List XmlEvent → List XmlEvent
without_empty [] = []
without_empty (Characters [] ∷ es) = without_empty es
without_empty (CData [] ∷ es) = without_empty es
without_empty (e ∷ es) = e ∷ without_empty es

-- a node whose elements hold no text that is empty
abbrev mutual
  pub lean : Node → Node
  lean (characters s) = characters s
  lean (cdata s) = cdata s
  lean (element n as' default xs) = element n as' default (lean_nodes xs)

  pub lean_nodes : Nodes → Nodes
  lean_nodes no_nodes = no_nodes
  lean_nodes (node (characters []) xs) = lean_nodes xs
  lean_nodes (node (cdata []) xs) = lean_nodes xs
  lean_nodes (node x xs) = node (lean x) (lean_nodes xs)
