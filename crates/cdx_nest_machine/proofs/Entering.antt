-- Open children of leaf kinds, and children that start.
use Rattle.std.proofs.Common.{◌≡◌, ℕ, zero, suc, ◌+◌, List, [], ◌∷◌, Bool, true, false, Option, Some, None, Result, Ok, Err, refl, sym, ap, ◌∙◌, subst}
use Rattle.std.specs.Prelude.{Box}
use Rattle.std.specs.declared.alloc.Global.{Global}
use Rattle.cdx_events.specs.declared.name.OwnedName.{OwnedName}
use Rattle.cdx_events.specs.declared.name.OwnedAttribute.{OwnedAttribute}
use Rattle.cdx_events.specs.declared.name.Namespace.{Namespace}
use Rattle.cdx_events.specs.declared.event.XmlEvent.{XmlEvent}
use Rattle.cdx_events.specs.Nodes.{Node, no_nodes, element}
use Rattle.cdx_models.specs.declared.bom.SpecVersion.{SpecVersion}
use Rattle.cdx_models.specs.declared.errors.XmlReadError.{XmlReadError}
use Rattle.cdx_models.specs.Trees.{Tree, Trees}
use Rattle.cdx_schema.specs.Depth.{Depth}
use Rattle.cdx_schema.specs.Kinds.{Kind}
use Rattle.cdx_schema.specs.Nodes.{places}
use Rattle.cdx_schema.specs.XmlReading.{Child, xread}
use Rattle.cdx_machine.specs.Begun.{Begun, innermost, Next, still, whole, next}
use Rattle.cdx_machine.specs.Machines.{RefusesBefore, IsQuiet, Holding, CanStep, CanYield, CanStepChild, Proceeds, Yields, StartsAs, ProceedsAs, YieldsAs}
use Rattle.cdx_machine.specs.Frames.{OpensChild, EntersAt}
use Rattle.cdx_machine.specs.Several.{at_position, kinds_of}
use Rattle.cdx_machine.proofs.Names.{FindsAt}
use Rattle.cdx_machine.proofs.Frames.{enters_fault}
use Rattle.cdx_nest_machine.specs.declared.nested.ChildReader.{ChildReader}
use Rattle.cdx_nest_machine.specs.declared.nested.ChildReader.TheVariants.{Leaf}
use Rattle.cdx_nest_machine.specs.declared.stack.LeafChild.{LeafChild}
use Rattle.cdx_nest_machine.specs.Children.{child_kind, ReadsEach}
use Rattle.cdx_nest_machine.specs.Forms.{plan_of}
use Rattle.cdx_nest_machine.specs.Frames.{leaf_keeps, leaf_holds}
use Rattle.cdx_schema.proofs.Basics.{some_same}

-- ---- kinds by position

row_of : (cs : List Child) (i : ℕ) (k : Kind) → at_position (kinds_of cs) i ≡ Some k → (row : Child) × (at_position cs i ≡ Some row) × (row.kind ≡ k)
row_of [] i k h = absurd (let wrong : None ≡ Some k = h in cc)
row_of (c ∷ cs) zero k h = (c, refl, some_same h)
row_of (c ∷ cs) (suc i) k h = row_of cs i k h

module _ {L S : Type 0} (leaf : L → Kind) (own : S → Kind) (child : ℕ → Option (ChildReader L S)) (cs : List Child) (law : ReadsEach leaf own child cs) (i : ℕ) (r : ChildReader L S) (is : child i ≡ Some r) where
  -- A child of the plan is read as its kind.
  pub row_kind : (row : Child) → at_position cs i ≡ Some row → row.kind ≡ child_kind leaf own r
  row_kind row h = let x : (r : ChildReader L S) × (child i ≡ Some r) × (row.kind ≡ child_kind leaf own r) = law i row h in x.2 ∙ ap (child_kind leaf own) (some_same (sym x.1 ∙ is))

  pub kind_known : (k : Kind) → at_position (kinds_of cs) i ≡ Some k → child_kind leaf own r ≡ k
  kind_known k h = let x : (row : Child) × (at_position cs i ≡ Some row) × (row.kind ≡ k) = row_of cs i k h in sym (row_kind x.0 x.1) ∙ x.2

-- Something reads a child that a name stands for.
pub is_read : {L S : Type 0} (leaf : L → Kind) (own : S → Kind) (child : ℕ → Option (ChildReader L S)) (cs : List Child) → ReadsEach leaf own child cs → (i : ℕ) (row : Child) → at_position cs i ≡ Some row → (r : ChildReader L S) × (child i ≡ Some r)
is_read leaf own child cs law i row h = let x = law i row h in (x.0, x.1)

-- ---- open children of leaf kinds

kept_on : (held held' : Begun → Type 0) (kept kept' : Type 0) (read : Node → Result Tree XmlReadError) (p : ℕ) (n : Next) → ((o : Begun) → held o → held' o) → (kept → kept') → (r : Result Bool XmlReadError) → Proceeds held kept read p n r → Proceeds held' kept' read p n r
kept_on held held' kept kept' read p (still o) up end (Ok false) h = (up o h.0, h.1)
kept_on held held' kept kept' read p (still o) up end (Ok true) h = h
kept_on held held' kept kept' read p (still o) up end (Err e) h = h
kept_on held held' kept kept' read p (whole k) up end (Ok false) h = h
kept_on held held' kept kept' read p (whole k) up end (Ok true) h = end h
kept_on held held' kept kept' read p (whole k) up end (Err e) h = h

module _ {M L K : Type 0} (leaf : L → Kind) (own : K → Kind) (child_of : K → ℕ → Option (ChildReader L K)) (leaf_sort : M → L) (holds : Holding M) (k : K) (law : ReadsEach leaf own (child_of k) (plan_of (own k)).children) where
  pub leaf_can_step : (c : LeafChild M) (place : ℕ) (event : XmlEvent) → CanStepChild (leaf_holds own child_of leaf_sort holds k) c place event → CanStep holds c.machine.value place event
  leaf_can_step c place event h = record { v = h.v; p = h.p; d = h.d; o = h.o; held = h.held.1.1; place_is = h.place_is; takes = h.takes }

  pub leaf_can_yield : (c : LeafChild M) (place : ℕ) (event : XmlEvent) → CanYield (leaf_keeps child_of leaf_sort holds k) c place event → CanYield holds c.machine.value place event
  leaf_can_yield c place event h = record { v = h.v; p = h.p; d = h.d; o = h.o; held = h.held.1; place_is = h.place_is; takes = h.takes; all = h.all; ends = h.ends }

  -- the value's child
  pub leaf_reads : (c : LeafChild M) (l : L) (place : ℕ) (event : XmlEvent) → l ≡ leaf_sort c.machine.value → CanStepChild (leaf_holds own child_of leaf_sort holds k) c place event → child_of k c.position ≡ Some (Leaf l)
  leaf_reads c l place event is h = h.held.1.0 ∙ ap (λ (x : L). Some (Leaf x)) (sym is)

  -- A machine's step is one of the open child.
  pub leaf_proceeds : (c c' : LeafChild M) (place : ℕ) (event : XmlEvent) (r : Result Bool XmlReadError) → c'.position ≡ c.position → leaf_sort c'.machine.value ≡ leaf_sort c.machine.value → ProceedsAs holds (leaf (leaf_sort c.machine.value)) c.machine.value c'.machine.value place event r
      → (j : Kind) → at_position (kinds_of (plan_of (own k)).children) c.position ≡ Some j → ProceedsAs (leaf_keeps child_of leaf_sort holds k) j c c' place event r
  leaf_proceeds c c' place event r same sort steps j at v p d o held is t =
      let still_read : child_of k c'.position ≡ Some (Leaf (leaf_sort c'.machine.value)) = ap (child_of k) same ∙ (held.0 ∙ ap (λ (x : L). Some (Leaf x)) (sym sort)) in
      kept_on (λ o. holds c'.machine.value v p d o) (λ o. leaf_keeps child_of leaf_sort holds k c' v p d o) (holds c'.machine.value v p d o) (leaf_keeps child_of leaf_sort holds k c' v p d o) (λ x. xread x v j p d) p (next o event) (λ o h. (still_read, h)) (λ h. (still_read, h)) r
      (subst (λ (z : Kind). Proceeds (λ o. holds c'.machine.value v p d o) (holds c'.machine.value v p d o) (λ x. xread x v z p d) p (next o event) r) (kind_known leaf own (child_of k) (plan_of (own k)).children law c.position (Leaf (leaf_sort c.machine.value)) held.0 j at) (steps v p d o held.1 is t))

  -- What it is read as is what the child is.
  pub leaf_yields : {X : Type 0} (tree : X → Tree) (c : LeafChild M) (place : ℕ) (event : XmlEvent) (r : Result X XmlReadError) → YieldsAs holds tree (leaf (leaf_sort c.machine.value)) c.machine.value place event r
      → (j : Kind) → at_position (kinds_of (plan_of (own k)).children) c.position ≡ Some j → YieldsAs (leaf_keeps child_of leaf_sort holds k) tree j c place event r
  leaf_yields tree c place event r yields j at v p d o n held is t w =
      subst (λ (z : Kind). Yields tree (p + places n) (xread n v z p d) r) (kind_known leaf own (child_of k) (plan_of (own k)).children law c.position (Leaf (leaf_sort c.machine.value)) held.0 j at) (yields v p d o n held.1 is t w)

  -- a child of a leaf kind that starts
  pub leaf_starts : (ts : Trees) (v : SpecVersion) (q : ℕ) (d : Depth) (n : OwnedName) (a : List OwnedAttribute) (z : Namespace) (m : M) (b : Box M Global) (i : ℕ) (l : L) → b.value ≡ m → FindsAt (plan_of (own k)).children ts v n.local_name i → child_of k i ≡ Some (Leaf l) → leaf_sort m ≡ l → StartsAs holds (leaf l) v q n a (Ok m)
      → OpensChild (leaf_holds own child_of leaf_sort holds k) (plan_of (own k)) ts v q d (innermost n a z no_nodes) (record { machine = b; position = i })
  leaf_starts ts v q d n a z m b i l put f reads sort starts =
      let x : holds m v q d (innermost n a z no_nodes) × IsQuiet (q + 1) (xread (element n a z no_nodes) v (leaf l) q d) = starts d z in
      let is_read : child_of k i ≡ Some (Leaf (leaf_sort b.value)) = reads ∙ ap (λ (x : L). Some (Leaf x)) (sym (ap leaf_sort put ∙ sort)) in
      record {
        is_open = record { row = f.row; found = f.found; first_one = f.first_one; held = (f.is_at, (is_read, subst (λ (m : M). holds m v q d (innermost n a z no_nodes)) (sym put) x.0)) };
        quiet = subst (λ (y : Kind). IsQuiet (q + 1) (xread (element n a z no_nodes) v y q d)) (sym (row_kind leaf own (child_of k) (plan_of (own k)).children law i (Leaf l) reads f.row f.is_at)) x.1;
      }

  -- the child's own fault
  pub start_fault : (ts : Trees) (v : SpecVersion) (name : List ℕ) (q : ℕ) (d : Depth) (n : OwnedName) (a : List OwnedAttribute) (z : Namespace) (e : XmlReadError) (i : ℕ) (r : ChildReader L K) → FindsAt (plan_of (own k)).children ts v n.local_name i → child_of k i ≡ Some r
      → RefusesBefore e (q + 1) (xread (element n a z no_nodes) v (child_kind leaf own r) q d)
      → EntersAt (leaf_holds own child_of leaf_sort holds k) (plan_of (own k)) ts v name q d (innermost n a z no_nodes) (Err e)
  start_fault ts v name q d n a z e i r f is h =
      enters_fault (leaf_holds own child_of leaf_sort holds k) (plan_of (own k)) ts v name q d n a z e i f
      (subst (λ (x : Kind). RefusesBefore e (q + 1) (xread (element n a z no_nodes) v x q d)) (sym (row_kind leaf own (child_of k) (plan_of (own k)).children law i r is f.row f.is_at)) h)
