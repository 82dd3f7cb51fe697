-- How many events a node takes, and nodes after nodes.
use Rattle.std.specs.Prelude.{ℕ, suc, ◌+◌}
use Rattle.cdx_events.specs.Nodes.{Node, characters, cdata, element, Nodes, no_nodes, node}

-- A text takes one place; an element takes two and the places of its nodes.
abbrev mutual
  pub places : Node → ℕ
  places (characters s) = 1
  places (cdata s) = 1
  places (element n as' space xs) = suc (suc (places_of xs))

  pub places_of : Nodes → ℕ
  places_of no_nodes = 0
  places_of (node x xs) = places x + places_of xs

infixr 60 ◌⊕◌
abbrev pub ◌⊕◌ : Nodes → Nodes → Nodes
no_nodes ⊕ ys = ys
(node x xs) ⊕ ys = node x (xs ⊕ ys)
