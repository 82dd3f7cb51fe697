-- Where a reader of an element stands, and what it reads.
use Rattle.std.specs.Prelude.{◌≡◌, ℕ, suc, ◌+◌, ◌≤◌, List, ◌∷◌, ◌++◌, Result, Ok, Err}
use Rattle.cdx_events.specs.declared.name.OwnedName.{OwnedName}
use Rattle.cdx_events.specs.declared.name.OwnedAttribute.{OwnedAttribute}
use Rattle.cdx_events.specs.declared.name.Namespace.{Namespace}
use Rattle.cdx_events.specs.declared.event.XmlEvent.{XmlEvent}
use Rattle.cdx_events.specs.declared.event.XmlEvent.TheVariants.{EndElement}
use Rattle.cdx_events.specs.declared.event.EventKind.TheVariants as kinds
use Rattle.cdx_events.specs.declared.event.EventKind.{EventKind}
use Rattle.cdx_events.specs.Nodes.{Node, Nodes, characters, cdata, element, document, events_of_all}
use Rattle.cdx_events.specs.Cursor.{Cursor}
use Rattle.cdx_models.specs.declared.errors.XmlReadError.{XmlReadError}
use Rattle.cdx_models.specs.declared.bom.SpecVersion.{SpecVersion}
use Rattle.cdx_models.specs.Trees.{Tree}
use Rattle.cdx_schema.specs.Kinds.{Kind}
use Rattle.cdx_schema.specs.Depth.{Depth, top}
use Rattle.cdx_schema.specs.Nodes.{places_of}
use Rattle.cdx_schema.specs.XmlReading.{xread}
use Rattle.cdx_leaf.specs.Fault.{FailsAt, Denotes}

-- Inside an element of this name: these nodes, the element's end, and the rest are ahead.
pub record WithinElement (c : Cursor) (name : OwnedName) (nodes : Nodes) (rest : List XmlEvent) : Type 0 where
  pub ahead : c.ahead ≡ events_of_all nodes ++ EndElement name ∷ rest

pub record IsAt (c : Cursor) (name : OwnedName) : Type 0 where
  pub nodes : Nodes
  pub rest : List XmlEvent
  pub at : WithinElement c name nodes rest

-- Right after the start, at place p, of an element of this name with these nodes.
pub record Stands (c : Cursor) (name : OwnedName) (p : ℕ) (nodes : Nodes) (rest : List XmlEvent) : Type 0 where
  pub place : c.place ≡ suc p
  pub at : WithinElement c name nodes rest

pub record IsIn (c : Cursor) (name : OwnedName) : Type 0 where
  pub p : ℕ
  pub nodes : Nodes
  pub rest : List XmlEvent
  pub stands : Stands c name p nodes rest

-- right after the end of the element that is open at c
abbrev pub behind_end : Cursor → Nodes → List XmlEvent → Cursor
behind_end c nodes rest = record { place = c.place + places_of nodes + 1; ahead = rest }

-- What a reader answers, seen by view, is what is denoted. After Ok it stands at the end, and after a refusal not before where it stood.
abbrev pub Reads : {X T : Type 0} → (X → T) → Cursor → Cursor → Cursor → Result T XmlReadError → Result X XmlReadError → Type 0
Reads view old new end denoted (Ok x) = (denoted ≡ Ok (view x)) × (new ≡ end)
Reads view old new end denoted (Err e) = (old.place ≤ new.place) × FailsAt e new.place denoted

-- what is left of an element is read to the element's end
abbrev pub ReadsRest : {X T : Type 0} → (X → T) → Cursor → Cursor → OwnedName → (ℕ → Nodes → Result T XmlReadError) → Result X XmlReadError → Type 0
ReadsRest view old new name denoted result =
    (nodes : Nodes) (rest : List XmlEvent) → WithinElement old name nodes rest → Reads view old new (behind_end old nodes rest) (denoted old.place nodes) result

-- The element, whose start stands at place p, is read to its end as a kind, at any depth.
abbrev pub ReadsAs : {X : Type 0} → (X → Tree) → Cursor → Cursor → OwnedName → List OwnedAttribute → SpecVersion → Kind → (Depth → Depth) → Result X XmlReadError → Type 0
ReadsAs tree old new n a v kind depth result =
    (d : Depth) (ns : Namespace) (p : ℕ) (nodes : Nodes) (rest : List XmlEvent) → Stands old n p nodes rest → Reads tree old new (behind_end old nodes rest) (xread (element n a ns nodes) v kind p (depth d)) result

abbrev pub kind_of_node : Node → EventKind
kind_of_node (characters t) = kinds.Characters
kind_of_node (cdata t) = kinds.CData
kind_of_node (element n a s nodes) = kinds.StartElement

-- The document's root, whose start stands at place 1, is read as a kind.
abbrev pub ReadsRoot : {X : Type 0} → (X → Tree) → List XmlEvent → SpecVersion → Kind → Result X XmlReadError → Type 0
ReadsRoot tree events v kind result =
    (root : Node) → events ≡ document root → Denotes tree (xread root v kind 1 top) result
