-- Elements that are read child by child, by a plan.
use Rattle.std.specs.Prelude.{◌≡◌, ℕ, zero, suc, ◌+◌, List, true, false, Some, None, Result, Ok, Err}
use Rattle.cdx_events.specs.declared.name.OwnedName.{OwnedName}
use Rattle.cdx_events.specs.declared.name.OwnedAttribute.{OwnedAttribute}
use Rattle.cdx_events.specs.declared.name.Namespace.{Namespace}
use Rattle.cdx_events.specs.declared.event.XmlEvent.{XmlEvent}
use Rattle.cdx_events.specs.declared.event.XmlEvent.TheVariants.{StartDocument, EndDocument, StartElement, EndElement, Characters, CData}
use Rattle.cdx_events.specs.declared.event.EventKind.TheVariants as kinds
use Rattle.cdx_events.specs.Event.{event_kind}
use Rattle.cdx_events.specs.Nodes.{Node, Nodes, no_nodes, element}
use Rattle.cdx_models.specs.declared.bom.SpecVersion.{SpecVersion}
use Rattle.cdx_models.specs.declared.errors.XmlReadError.{XmlReadError}
use Rattle.cdx_models.specs.Trees.{Tree, Trees, field}
use Rattle.cdx_schema.specs.Depth.{Depth}
use Rattle.cdx_schema.specs.Kinds.{Kind}
use Rattle.cdx_schema.specs.Locality.{fault_place}
use Rattle.cdx_schema.specs.Nodes.{places_of}
use Rattle.cdx_schema.specs.Results.{◌>>=◌}
use Rattle.cdx_schema.specs.XmlReading.{Plan, Child, find_child, is_second, unknown, child_read_into, xread, nodes_read}
use Rattle.cdx_machine.specs.declared.frame.Inside.{Inside}
use Rattle.cdx_machine.specs.declared.frame.Inside.TheVariants as places_inside
use Rattle.cdx_machine.specs.Begun.{Begun, innermost, around, start_name, levels, count, ended_now}
use Rattle.cdx_machine.specs.Contents.{First}
use Rattle.cdx_machine.specs.Machines.{RefusesBefore, IsQuiet, ChildHolding, StepsChild}

-- What the fields come to at the element's end, by the element's name, the version and the end's place.
abbrev pub Last : Type 0
Last = List ℕ → SpecVersion → ℕ → Trees → Result Tree XmlReadError

-- what was read of an element, whose start stands at place p, up to the end of these nodes
abbrev pub read_so_far : First → Plan → List ℕ → List OwnedAttribute → SpecVersion → Depth → ℕ → Nodes → Result Trees XmlReadError
read_so_far first plan el a v d p xs = first el a v p >>= λ ts. nodes_read xs plan el v d (suc p) ts

-- What an element denotes is what the attributes begin, then the nodes by the plan, then a last step.
pub record IsForm (denotes : Node → SpecVersion → ℕ → Depth → Result Tree XmlReadError) (plan : Plan) (first : First) (last : Last) : Type 0 where
  pub reads : (n : OwnedName) (a : List OwnedAttribute) (s : Namespace) (xs : Nodes) (v : SpecVersion) (p : ℕ) (d : Depth)
      → denotes (element n a s xs) v p d ≡ (read_so_far first plan n.local_name a v d p xs >>= λ ts. last n.local_name v (suc (p + places_of xs)) ts)
  pub first_place : (el : List ℕ) (a : List OwnedAttribute) (v : SpecVersion) (p : ℕ) (f : XmlReadError) → first el a v p ≡ Err f → fault_place f ≡ p
  pub last_place : (el : List ℕ) (v : SpecVersion) (q : ℕ) (ts : Trees) (f : XmlReadError) → last el v q ts ≡ Err f → fault_place f ≡ q

-- what an element of the kind denotes
abbrev pub read_as : Kind → Node → SpecVersion → ℕ → Depth → Result Tree XmlReadError
read_as kind x v p d = xread x v kind p d

-- The kind is read like this.
abbrev pub IsFrame : Kind → Plan → First → Last → Type 0
IsFrame kind plan first last = IsForm (read_as kind) plan first last

-- ---- what a frame keeps

-- An open child, and the child of the plan that it is read by.
pub record IsOpen {C : Type 0} (holds : ChildHolding C) (plan : Plan) (ts : Trees) (c : C) (v : SpecVersion) (q : ℕ) (d : Depth) (o : Begun) : Type 0 where
  pub row : Child
  pub found : find_child v (start_name o).local_name plan.children ≡ Some row
  pub first_one : is_second row.place (field row.field ts) ≡ false
  pub held : holds c row v q d o

-- An open child that no child of the plan reads, and which is skipped.
pub record IsSkipped (plan : Plan) (depth : ℕ) (v : SpecVersion) (o : Begun) : Type 0 where
  pub not_found : find_child v (start_name o).local_name plan.children ≡ None
  pub passed : (el : List ℕ) (q : ℕ) (ts : Trees) → unknown plan.rule el q ts ≡ Ok ts
  pub depth_is : levels o ≡ depth

-- The nodes that have ended were read into the fields.
pub record Stays (first : First) (plan : Plan) (name : List ℕ) (known : SpecVersion) (ts : Trees) (v : SpecVersion) (p : ℕ) (d : Depth) (n : OwnedName) (a : List OwnedAttribute) (xs : Nodes) : Type 0 where
  pub name_is : name ≡ n.local_name
  pub version_is : known ≡ v
  pub reads : read_so_far first plan n.local_name a v d p xs ≡ Ok ts

abbrev pub holds_inside : {C : Type 0} → ChildHolding C → First → Plan → List ℕ → SpecVersion → Trees → Inside C → SpecVersion → ℕ → Depth → Begun → Type 0
holds_inside holds first plan name known ts places_inside.Nothing v p d (innermost n a s xs) = Stays first plan name known ts v p d n a xs
holds_inside holds first plan name known ts places_inside.Nothing v p d (around n a s xs o) = ⊥
holds_inside holds first plan name known ts (places_inside.Read c) v p d (innermost n a s xs) = ⊥
holds_inside holds first plan name known ts (places_inside.Read c) v p d (around n a s xs o) = Stays first plan name known ts v p d n a xs × IsOpen holds plan ts c v (suc p + places_of xs) d o
holds_inside holds first plan name known ts (places_inside.Skipped depth) v p d (innermost n a s xs) = ⊥
holds_inside holds first plan name known ts (places_inside.Skipped depth) v p d (around n a s xs o) = Stays first plan name known ts v p d n a xs × IsSkipped plan depth v o

-- ---- a child's start

-- The child is open, and has no fault as yet.
pub record OpensChild {C : Type 0} (holds : ChildHolding C) (plan : Plan) (ts : Trees) (v : SpecVersion) (q : ℕ) (d : Depth) (o : Begun) (c : C) : Type 0 where
  pub is_open : IsOpen holds plan ts c v q d o
  pub quiet : IsQuiet (q + count o) (xread (ended_now o) v is_open.row.kind q d)

-- ---- an event of an open child

-- The child is still open, or its value is in its field, or it is refused.
abbrev pub FeedsChild : {C : Type 0} → ChildHolding C → Trees → Trees → C → ℕ → XmlEvent → Result (Inside C) XmlReadError → Type 0
FeedsChild holds before now child place event (Ok (places_inside.Read c)) = StepsChild holds before now child c place event (Ok false)
FeedsChild holds before now child place event (Ok places_inside.Nothing) = StepsChild holds before now child child place event (Ok true)
FeedsChild holds before now child place event (Ok (places_inside.Skipped depth)) = ⊥
FeedsChild holds before now child place event (Err e) = StepsChild holds before now child child place event (Err e)

-- What stands open after an event in a skipped child, of which so many elements were open.
abbrev pub skipped : {C : Type 0} → ℕ → XmlEvent → Inside C
skipped depth (StartElement n a s) = places_inside.Skipped (suc depth)
skipped zero (EndElement n) = places_inside.Nothing
skipped (suc k) (EndElement n) = places_inside.Skipped k
skipped depth StartDocument = places_inside.Skipped depth
skipped depth EndDocument = places_inside.Skipped depth
skipped depth (Characters t) = places_inside.Skipped depth
skipped depth (CData t) = places_inside.Skipped depth

-- ---- a child's start in a frame

-- The child is read, or skipped, or refused: by its own fault, or since it may not stand there.
abbrev pub EntersAt : {C : Type 0} → ChildHolding C → Plan → Trees → SpecVersion → List ℕ → ℕ → Depth → Begun → Result (Inside C) XmlReadError → Type 0
EntersAt holds plan ts v n q d o (Ok places_inside.Nothing) = ⊥
EntersAt holds plan ts v n q d o (Ok (places_inside.Read c)) = OpensChild holds plan ts v q d o c
EntersAt holds plan ts v n q d o (Ok (places_inside.Skipped depth)) = IsSkipped plan depth v o
EntersAt holds plan ts v n q d o (Err e) = RefusesBefore e (suc q) (child_read_into (find_child v (start_name o).local_name plan.children) plan.rule (xread (ended_now o)) n v d q ts)

abbrev pub Enters : {C : Type 0} → ChildHolding C → Plan → Trees → SpecVersion → List ℕ → ℕ → XmlEvent → OwnedName → List OwnedAttribute → Result (Inside C) XmlReadError → Type 0
Enters holds plan ts v n q event m b result = event_kind event ≡ kinds.StartElement → (d : Depth) (s : Namespace) → EntersAt holds plan ts v n q d (innermost m b s no_nodes) result
