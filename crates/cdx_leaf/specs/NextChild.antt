-- The next child of an element, and what is left of it once it was offered.
use Rattle.std.specs.Prelude.{◌≡◌, ℕ, ◌+◌, ◌≤◌, List, ◌∷◌, ◌++◌, Option, Some, None, Result, Ok, Err, Bool, true, false, if◌then◌else◌}
use Rattle.cdx_events.specs.declared.name.OwnedName.{OwnedName}
use Rattle.cdx_events.specs.declared.name.Namespace.{Namespace}
use Rattle.cdx_events.specs.declared.event.XmlEvent.{XmlEvent}
use Rattle.cdx_events.specs.declared.event.XmlEvent.TheVariants.{EndElement}
use Rattle.cdx_events.specs.declared.event.EventKind.TheVariants as kinds
use Rattle.cdx_events.specs.Nodes.{Node, Nodes, characters, cdata, element, no_nodes, node, events_of_all}
use Rattle.cdx_events.specs.Cursor.{Cursor}
use Rattle.cdx_models.specs.declared.errors.XmlReadError.{XmlReadError}
use Rattle.cdx_schema.specs.Faults.{unexpected}
use Rattle.cdx_schema.specs.Nodes.{places_of}
use Rattle.cdx_leaf.specs.declared.start.Start.{Start}
use Rattle.cdx_leaf.specs.declared.rule.Rule.{Rule}
use Rattle.cdx_leaf.specs.declared.taken.Taken.{Taken}
use Rattle.cdx_leaf.specs.declared.taken.Taken.TheVariants as answers
use Rattle.cdx_leaf.specs.Fault.{FailsAt, Refused}
use Rattle.cdx_leaf.specs.Reading.{WithinElement, Stands, behind_end, kind_of_node}
use Rattle.cdx_leaf.specs.Rules.{skips, passes}

-- what is left after the texts that the rule passes over
abbrev pub past_texts : Rule → Nodes → Nodes
past_texts r no_nodes = no_nodes
past_texts r (node (characters t) nodes) = if passes r then past_texts r nodes else node (characters t) nodes
past_texts r (node (cdata t) nodes) = if passes r then past_texts r nodes else node (cdata t) nodes
past_texts r (node (element n a s kids) nodes) = node (element n a s kids) nodes

-- what is denoted where a fault comes
abbrev pub no_more : XmlReadError → Result (Unit {0}) XmlReadError
no_more e = Err e

-- Of the nodes of an element that is read from old on, these are left at place p.
abbrev pub IsLeft : Cursor → Nodes → ℕ → Nodes → Type 0
IsLeft old nodes p left = p + places_of left ≡ old.place + places_of nodes

-- The first node left is a child element, right after whose start the reader stands.
pub record MeetsChild (old new : Cursor) (el : OwnedName) (nodes left : Nodes) (rest : List XmlEvent) (child : Start) : Type 0 where
  pub namespace : Namespace
  pub kids : Nodes
  pub others : Nodes
  pub first : left ≡ node (element child.element.now child.attributes.now namespace kids) others
  pub stands : Stands new child.element.now child.place kids (events_of_all others ++ EndElement el ∷ rest)
  pub is_left : IsLeft old nodes child.place left

-- The first node left is a text, and the fault.
pub record MeetsText (old new : Cursor) (el : OwnedName) (nodes left : Nodes) (e : XmlReadError) : Type 0 where
  pub text : Node
  pub others : Nodes
  pub place : ℕ
  pub first : left ≡ node text others
  pub no_child : kind_of_node text ≡ kinds.StartElement → ⊥
  pub is_left : IsLeft old nodes place left
  pub grown : old.place ≤ new.place
  pub fails : FailsAt e new.place (no_more (unexpected place el.local_name (kind_of_node text)))

abbrev pub Meets : Rule → Cursor → Cursor → OwnedName → Nodes → List XmlEvent → Result (Option Start) XmlReadError → Type 0
Meets r old new el nodes rest (Ok None) = (past_texts r nodes ≡ no_nodes) × (new ≡ behind_end old nodes rest)
Meets r old new el nodes rest (Ok (Some child)) = MeetsChild old new el nodes (past_texts r nodes) rest child
Meets r old new el nodes rest (Err e) = MeetsText old new el nodes (past_texts r nodes) e

abbrev pub is_unknown : Taken → Bool
is_unknown answers.Read = false
is_unknown answers.Unknown = true
is_unknown answers.Second = false

-- whether a child is refused that was taken like this
abbrev pub refuses : Rule → Taken → Bool
refuses r answers.Read = false
refuses r answers.Unknown = if skips r then false else true
refuses r answers.Second = true

-- Nothing of the child is left.
abbrev pub Passed : Taken → Cursor → Cursor → OwnedName → Type 0
Passed answers.Unknown old new n = (nodes : Nodes) (rest : List XmlEvent) → WithinElement old n nodes rest → new ≡ behind_end old nodes rest
Passed taken old new n = new ≡ old

abbrev pub LeavesChild : Rule → Taken → Cursor → Cursor → OwnedName → Start → Result (Unit {0}) XmlReadError → Type 0
LeavesChild r taken old new el child (Ok x) = (refuses r taken ≡ false) × Passed taken old new child.element.now
LeavesChild r taken old new el child (Err e) = (refuses r taken ≡ true) × (new ≡ old) × Refused (no_more e) (unexpected child.place el.local_name kinds.StartElement)
