-- Several machines in a row, and the children of a plan that they read.
use Rattle.std.specs.Prelude.{◌≡◌, ℕ, zero, suc, List, [], ◌∷◌, if◌then◌else◌, ◌&&◌, Option, Some, None, IfSome, Box}
use Rattle.std.specs.declared.alloc.Global.{Global}
use Rattle.std.specs.Str.{bytes_eq}
use Rattle.cdx_models.specs.declared.bom.SpecVersion.{SpecVersion}
use Rattle.cdx_models.specs.Versions.{knows}
use Rattle.cdx_models.specs.Trees.{Tree, Trees, field}
use Rattle.cdx_schema.specs.Kinds.{Kind}
use Rattle.cdx_schema.specs.XmlReading.{Plan, Child, is_second, stored}
use Rattle.cdx_machine.specs.declared.frame.FoundChild.{FoundChild}
use Rattle.cdx_machine.specs.declared.frame.FoundChild.TheVariants.{At, Unknown, Second}
use Rattle.cdx_machine.specs.declared.or.Or.{Or}
use Rattle.cdx_machine.specs.declared.or.Or.TheVariants.{This, Other}
use Rattle.cdx_machine.specs.Machines.{Holding, ChildHolding}

-- The item at a position, the first of which is 0.
abbrev pub at_position : {A : Type 0} → List A → ℕ → Option A
at_position [] i = None
at_position (x ∷ xs) zero = Some x
at_position (x ∷ xs) (suc i) = at_position xs i

abbrev pub IsThere : {A : Type 0} → List A → ℕ → Type 0
IsThere {A = A} xs i = (x : A) × (at_position xs i ≡ Some x)

-- ---- a machine and those that follow it

abbrev pub or_position : {M R : Type 0} → (R → ℕ) → Or M R → ℕ
or_position at (This m) = 0
or_position at (Other r) = suc (at r)

abbrev pub or_holds : {M R : Type 0} → Holding M → Holding R → Holding (Or M R)
or_holds first others (This m) v p d o = first m v p d o
or_holds first others (Other r) v p d o = others r v p d o

abbrev pub or_tree : {X Y : Type 0} → (X → Tree) → (Y → Tree) → Or X Y → Tree
or_tree first others (This x) = first x
or_tree first others (Other y) = others y

-- ---- the children of a plan

abbrev pub kinds_of : List Child → List Kind
kinds_of [] = []
kinds_of (c ∷ cs) = c.kind ∷ kinds_of cs

-- The machine of a child of the plan keeps its events.
abbrev pub reads_child : {M : Type 0} → Plan → (M → ℕ) → Holding M → ChildHolding M
reads_child plan position holds m row v p d o = (at_position plan.children (position m) ≡ Some row) × holds m v p d o

-- The same of a machine on the heap.
abbrev pub reads_boxed : {M : Type 0} → Plan → (M → ℕ) → Holding M → ChildHolding (Box M Global)
reads_boxed plan position holds b row v p d o = reads_child plan position holds b.value row v p d o

-- What a name stands for among children, the first of which has this position, where these fields were read.
abbrev pub found_from : ℕ → List Child → Trees → SpecVersion → List ℕ → FoundChild
found_from i [] ts v name = Unknown
found_from i (c ∷ cs) ts v name = if bytes_eq name c.name && knows c.since v then (if is_second c.place (field c.field ts) then Second else At i) else found_from (suc i) cs ts v name

-- The fields with the tree of the child of this position.
abbrev pub Puts : List Child → ℕ → Tree → Trees → Trees → Type 0
Puts cs i t before now = IfSome (at_position cs i) (λ row. now ≡ stored row.place row.field t before)
