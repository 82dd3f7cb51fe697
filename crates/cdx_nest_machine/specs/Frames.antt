-- What the machine of nested kinds keeps.
use Rattle.std.specs.Prelude.{◌≡◌, ℕ, ◌+◌, List, reverse, false, Option, Some, Result, Ok, Err}
use Rattle.cdx_events.specs.declared.name.OwnedName.{OwnedName}
use Rattle.cdx_events.specs.declared.name.OwnedAttribute.{OwnedAttribute}
use Rattle.cdx_events.specs.declared.name.Namespace.{Namespace}
use Rattle.cdx_events.specs.Nodes.{no_nodes, element}
use Rattle.cdx_models.specs.declared.bom.SpecVersion.{SpecVersion}
use Rattle.cdx_models.specs.declared.errors.XmlReadError.{XmlReadError}
use Rattle.cdx_models.specs.Trees.{Trees}
use Rattle.cdx_schema.specs.Depth.{Depth, is_too_deep}
use Rattle.cdx_schema.specs.Kinds.{Kind}
use Rattle.cdx_schema.specs.XmlReading.{xread}
use Rattle.cdx_schema.specs.Depths.{depth_of}
use Rattle.cdx_machine.specs.declared.frame.Inside.{Inside}
use Rattle.cdx_machine.specs.Begun.{Begun}
use Rattle.cdx_machine.specs.Machines.{Holding, ChildHolding, RefusesBefore}
use Rattle.cdx_machine.specs.Several.{reads_child}
use Rattle.cdx_nest_machine.specs.declared.nested.ChildReader.{ChildReader}
use Rattle.cdx_nest_machine.specs.declared.nested.ChildReader.TheVariants.{Leaf}
use Rattle.cdx_nest_machine.specs.declared.stack.Open.{Open}
use Rattle.cdx_nest_machine.specs.declared.stack.Waiting.{Waiting}
use Rattle.cdx_nest_machine.specs.declared.stack.LeafChild.{LeafChild}
use Rattle.cdx_nest_machine.specs.Forms.{plan_of, first_of, inner_of}
use Rattle.cdx_nest_machine.specs.Stacks.{Shape, Stacked}

-- An open child of a leaf kind is read by what reads the child of its position.
abbrev pub leaf_keeps : {M L K : Type 0} → (K → ℕ → Option (ChildReader L K)) → (M → L) → Holding M → K → Holding (LeafChild M)
leaf_keeps child_of leaf_sort holds k c v p d o = (child_of k c.position ≡ Some (Leaf (leaf_sort c.machine.value))) × holds c.machine.value v p d o

-- It stands in an element that is read as this.
abbrev pub leaf_holds : {M L K : Type 0} → (K → Kind) → (K → ℕ → Option (ChildReader L K)) → (M → L) → Holding M → K → ChildHolding (LeafChild M)
leaf_holds as_kind child_of leaf_sort holds k = reads_child (plan_of (as_kind k)) (λ c. c.position) (leaf_keeps child_of leaf_sort holds k)

-- what is seen of a waiting frame
abbrev pub shape_of : {F L K : Type 0} → (K → Kind) → (F → K) → (F → Trees) → (K → ℕ → Option (ChildReader L K)) → Shape (Waiting F) L K
shape_of as_kind sort_of fields child_of = record { as_kind = as_kind; sort = λ w. sort_of w.open.part; name = λ w. w.open.name; inner = λ w. depth_of w.open.depth; fields = λ w. fields w.open.part; position = λ w. w.position; child = λ w. child_of (sort_of w.open.part) w.position }

-- The frames below the top one wait, the last of them for the top one.
abbrev pub stack_holds : {F L K C : Type 0} → Shape (Waiting F) L K → (K → ChildHolding C) → (F → K) → (F → Trees) → K → List (Waiting F) → Open F → SpecVersion → Inside C → SpecVersion → ℕ → Depth → Begun → Type 0
stack_holds s holds sort_of fields root below t known inside v p d o = Stacked s holds root (reverse below) (sort_of t.part) t.name (depth_of t.depth) (fields t.part) known inside v p d o

-- ---- starts

-- An element of the kind was begun, or its start was refused.
abbrev pub BeginsOpen : {F : Type 0} → Kind → (F → Trees) → ℕ → SpecVersion → Depth → OwnedName → List OwnedAttribute → Result (Open F) XmlReadError → Type 0
BeginsOpen kind fields p v d n a (Ok t) = (is_too_deep kind d ≡ false) × (depth_of t.depth ≡ inner_of kind d) × (t.name ≡ n.local_name) × (first_of kind n.local_name a v p ≡ Ok (fields t.part))
BeginsOpen kind fields p v d n a (Err e) = (s : Namespace) → RefusesBefore e (p + 1) (xread (element n a s no_nodes) v kind p d)
