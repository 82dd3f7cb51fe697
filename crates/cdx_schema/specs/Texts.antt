-- Documents each text of which is as Q asks: in UTF-8, as all texts of a program are, or any text.
use Rattle.std.specs.Prelude.{ℕ, List, [], ◌∷◌}
use Rattle.serde_json.specs.Data.{Data, Items, no_items, item, Members, no_members}
use Rattle.serde_json.specs.Data as json
use Rattle.cdx_events.specs.declared.name.OwnedAttribute.{OwnedAttribute}
use Rattle.cdx_events.specs.Nodes.{Node, characters, cdata, element, Nodes, no_nodes, node}

abbrev mutual
  pub AreTexts : (List ℕ → Type 0) → Data → Type 0
  AreTexts Q json.null = Unit {0}
  AreTexts Q (json.boolean b) = Unit {0}
  AreTexts Q (json.number n) = Unit {0}
  AreTexts Q (json.string s) = Q s
  AreTexts Q (json.array xs) = AreTextsIn Q xs
  AreTexts Q (json.object ms) = AreTextsOf Q ms

  pub AreTextsIn : (List ℕ → Type 0) → Items → Type 0
  AreTextsIn Q no_items = Unit {0}
  AreTextsIn Q (item x xs) = AreTexts Q x × AreTextsIn Q xs

  pub AreTextsOf : (List ℕ → Type 0) → Members → Type 0
  AreTextsOf Q no_members = Unit {0}
  AreTextsOf Q (json.member l x ms) = AreTexts Q x × AreTextsOf Q ms

abbrev pub AttributeTexts : (List ℕ → Type 0) → List OwnedAttribute → Type 0
AttributeTexts Q [] = Unit {0}
AttributeTexts Q (a ∷ as') = Q a.value × AttributeTexts Q as'

abbrev mutual
  pub NodeTexts : (List ℕ → Type 0) → Node → Type 0
  NodeTexts Q (characters s) = Q s
  NodeTexts Q (cdata s) = Q s
  NodeTexts Q (element n as' default xs) = AttributeTexts Q as' × NodesTexts Q xs

  pub NodesTexts : (List ℕ → Type 0) → Nodes → Type 0
  NodesTexts Q no_nodes = Unit {0}
  NodesTexts Q (node x xs) = NodeTexts Q x × NodesTexts Q xs
