-- Elements around an open one, and the frames that stand for them, the innermost first.
use Rattle.std.specs.Prelude.{◌≡◌, ℕ, suc, ◌+◌, List, [], ◌∷◌, Bool, false, Option, Some, Result, Ok, Err}
use Rattle.cdx_events.specs.declared.name.OwnedName.{OwnedName}
use Rattle.cdx_events.specs.declared.name.OwnedAttribute.{OwnedAttribute}
use Rattle.cdx_events.specs.declared.name.Namespace.{Namespace}
use Rattle.cdx_events.specs.declared.event.XmlEvent.{XmlEvent}
use Rattle.cdx_events.specs.Nodes.{Node, Nodes, no_nodes}
use Rattle.cdx_models.specs.declared.bom.SpecVersion.{SpecVersion}
use Rattle.cdx_models.specs.declared.errors.XmlReadError.{XmlReadError}
use Rattle.cdx_models.specs.Trees.{Tree, Trees}
use Rattle.cdx_schema.specs.Depth.{Depth, is_too_deep}
use Rattle.cdx_schema.specs.Kinds.{Kind}
use Rattle.cdx_schema.specs.Nodes.{places, places_of}
use Rattle.cdx_schema.specs.XmlReading.{xread}
use Rattle.cdx_machine.specs.declared.frame.Inside.{Inside}
use Rattle.cdx_machine.specs.Begun.{Begun, innermost, around, start_name, count, TakesEvent, Next, whole, into, next}
use Rattle.cdx_machine.specs.Machines.{Holding, ChildHolding, Opens, Proceeds, Yields}
use Rattle.cdx_machine.specs.Frames.{read_so_far, holds_inside}
use Rattle.cdx_machine.proofs.Names.{FindsAt}
use Rattle.cdx_nest_machine.specs.declared.nested.ChildReader.{ChildReader}
use Rattle.cdx_nest_machine.specs.declared.nested.ChildReader.TheVariants.{Nested}
use Rattle.cdx_nest_machine.specs.Forms.{plan_of, first_of, inner_of}

-- An element in which a child is open: its start, the nodes that have ended in it, and where and how deep it stands.
pub record Layer : Type 0 where
  pub name : OwnedName
  pub attributes : List OwnedAttribute
  pub namespace : Namespace
  pub nodes : Nodes
  pub place : ℕ
  pub depth : Depth

-- what is open, with the elements around it
abbrev pub plug : List Layer → Begun → Begun
plug [] o = o
plug (l ∷ ls) o = plug ls (around l.name l.attributes l.namespace l.nodes o)

abbrev pub plug_next : List Layer → Next → Next
plug_next [] x = x
plug_next (l ∷ ls) x = plug_next ls (into l.name l.attributes l.namespace l.nodes x)

-- What is seen of a frame in which a nested child is open.
pub record Shape (W L K : Type 0) : Type 0 where
  pub as_kind : K → Kind
  pub sort : W → K
  pub name : W → List ℕ
  pub inner : W → Depth
  pub fields : W → Trees
  -- that child's position in the plan, and what reads it
  pub position : W → ℕ
  pub child : W → Option (ChildReader L K)

-- The nodes of the element that have ended were read into these fields.
pub record Sits (kind : Kind) (name : List ℕ) (inner : Depth) (ts : Trees) (v : SpecVersion) (n : OwnedName) (a : List OwnedAttribute) (xs : Nodes) (p : ℕ) (d : Depth) : Type 0 where
  pub name_is : name ≡ n.local_name
  pub inner_is : inner ≡ inner_of kind d
  pub fits : is_too_deep kind d ≡ false
  pub reads : read_so_far (first_of kind) (plan_of kind) n.local_name a v (inner_of kind d) p xs ≡ Ok ts

-- A frame stands for the element, in which a child of this name is open, read as this, at this place and depth.
pub record Waits {W L K : Type 0} (s : Shape W L K) (v : SpecVersion) (w : W) (l : Layer) (k : K) (q : ℕ) (e : Depth) (m : OwnedName) : Type 0 where
  pub sits : Sits (s.as_kind (s.sort w)) (s.name w) (s.inner w) (s.fields w) v l.name l.attributes l.nodes l.place l.depth
  pub finds : FindsAt (plan_of (s.as_kind (s.sort w))).children (s.fields w) v m.local_name (s.position w)
  pub child_nested : s.child w ≡ Some (Nested k)
  pub row_kind : finds.row.kind ≡ s.as_kind k
  pub place_is : q ≡ suc l.place + places_of l.nodes
  pub depth_is : e ≡ inner_of (s.as_kind (s.sort w)) l.depth

-- Frames stand for all elements around an open one, the outermost of which is read as the root, at place p and depth d.
abbrev pub Stand : {W L K : Type 0} → Shape W L K → SpecVersion → K → ℕ → Depth → List W → List Layer → K → ℕ → Depth → OwnedName → Type 0
Stand s v root p d [] [] k q e m = (k ≡ root) × (q ≡ p) × (e ≡ d)
Stand s v root p d [] (l ∷ ls) k q e m = ⊥
Stand s v root p d (w ∷ ws) [] k q e m = ⊥
Stand s v root p d (w ∷ ws) (l ∷ ls) k q e m = Waits s v w l k q e m × Stand s v root p d ws ls (s.sort w) l.place l.depth l.name

-- What a stack keeps of the events of a begun element, read as the root at place p and depth d: the elements around the
-- top one, and what the top frame keeps of it.
pub record Stacked {W L K C : Type 0} (s : Shape W L K) (holds : K → ChildHolding C) (root : K) (ws : List W) (k : K) (name : List ℕ) (inner : Depth) (ts : Trees) (known : SpecVersion) (inside : Inside C) (v : SpecVersion) (p : ℕ) (d : Depth) (o : Begun) : Type 0 where
  pub layers : List Layer
  pub top : Begun
  pub place : ℕ
  pub depth : Depth
  pub whole : o ≡ plug layers top
  pub stand : Stand s v root p d ws layers k place depth (start_name top)
  pub inner_is : inner ≡ inner_of (s.as_kind k) depth
  pub fits : is_too_deep (s.as_kind k) depth ≡ false
  pub held : holds_inside (holds k) (first_of (s.as_kind k)) (plan_of (s.as_kind k)) name known ts inside v place inner top

-- ---- what a machine of several kinds promises of each event, whichever of them is the root

-- What a machine keeps of the events of a begun element that it reads as this.
abbrev pub RootHolding : Type 0 → Type 0 → Type 1
RootHolding K M = K → Holding M

-- An element's start, at place p and at depth d, was taken or refused.
abbrev pub StartsStack : {M : Type 0} → Holding M → Kind → SpecVersion → ℕ → Depth → OwnedName → List OwnedAttribute → Result M XmlReadError → Type 0
StartsStack holds kind v p d n a result = (z : Namespace) → Opens (λ m o. holds m v p d o) (λ x. xread x v kind p d) p (innermost n a z no_nodes) result

pub record CanStepStack {M K : Type 0} (holds : RootHolding K M) (m : M) (place : ℕ) (event : XmlEvent) : Type 0 where
  pub root : K
  pub v : SpecVersion
  pub p : ℕ
  pub d : Depth
  pub o : Begun
  pub held : holds root m v p d o
  pub place_is : place ≡ p + count o
  pub takes : TakesEvent o event

abbrev pub ProceedsStack : {M K : Type 0} → RootHolding K M → (K → Kind) → M → M → ℕ → XmlEvent → Result Bool XmlReadError → Type 0
ProceedsStack {K = K} holds as_kind old new place event result =
    (root : K) (v : SpecVersion) (p : ℕ) (d : Depth) (o : Begun) → holds root old v p d o → place ≡ p + count o → TakesEvent o event
    → Proceeds (λ o. holds root new v p d o) (holds root new v p d o) (λ k. xread k v (as_kind root) p d) p (next o event) result

-- The machine keeps all events of an element but its end, and that is the event at this place.
pub record CanYieldStack {M K : Type 0} (holds : RootHolding K M) (m : M) (place : ℕ) (event : XmlEvent) : Type 0 where
  pub root : K
  pub v : SpecVersion
  pub p : ℕ
  pub d : Depth
  pub o : Begun
  pub held : holds root m v p d o
  pub place_is : place ≡ p + count o
  pub takes : TakesEvent o event
  pub all : Node
  pub ends : next o event ≡ whole all

-- A value is of the root's kind.
abbrev pub HasRootSort : {X K : Type 0} → (X → K) → K → Result X XmlReadError → Type 0
HasRootSort sort root (Ok x) = sort x ≡ root
HasRootSort sort root (Err e) = Unit {0}

abbrev pub YieldsStack : {M X K : Type 0} → RootHolding K M → (K → Kind) → (X → Tree) → (X → K) → M → ℕ → XmlEvent → Result X XmlReadError → Type 0
YieldsStack {K = K} holds as_kind view sort m place event result =
    (root : K) (v : SpecVersion) (p : ℕ) (d : Depth) (o : Begun) (k : Node) → holds root m v p d o → place ≡ p + count o → TakesEvent o event → next o event ≡ whole k
    → Yields view (p + places k) (xread k v (as_kind root) p d) result × HasRootSort sort root result
