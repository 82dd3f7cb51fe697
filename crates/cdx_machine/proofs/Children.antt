-- The children of a plan, read by several machines in a row.
use Rattle.std.proofs.Common.{◌≡◌, ℕ, zero, suc, ◌+◌, List, [], ◌∷◌, Bool, true, false, Option, Some, None, Result, Ok, Err, sym, ap, ◌∙◌, subst}
use Rattle.std.specs.Prelude.{IfSome, Box}
use Rattle.std.specs.declared.alloc.Global.{Global}
use Rattle.cdx_events.specs.declared.event.XmlEvent.{XmlEvent}
use Rattle.cdx_models.specs.declared.bom.SpecVersion.{SpecVersion}
use Rattle.cdx_models.specs.declared.errors.XmlReadError.{XmlReadError}
use Rattle.cdx_models.specs.Trees.{Tree, Trees}
use Rattle.cdx_schema.specs.Depth.{Depth}
use Rattle.cdx_schema.specs.Kinds.{Kind}
use Rattle.cdx_schema.specs.XmlReading.{Plan, Child, stored, xread}
use Rattle.cdx_events.specs.declared.name.OwnedName.{OwnedName}
use Rattle.cdx_events.specs.declared.name.OwnedAttribute.{OwnedAttribute}
use Rattle.cdx_events.specs.declared.name.Namespace.{Namespace}
use Rattle.cdx_events.specs.Nodes.{element, no_nodes}
use Rattle.cdx_machine.specs.Begun.{innermost, Next, still, whole, next}
use Rattle.cdx_machine.specs.Machines.{Holding, ChildHolding, CanStep, CanYield, CanStepChild, IsQuiet, StartsAs, ProceedsAs, YieldsAs, Steps, StepsAs, StepsRow, StepsChild}
use Rattle.cdx_machine.specs.Frames.{OpensChild}
use Rattle.cdx_machine.proofs.Names.{FindsAt}
use Rattle.cdx_machine.proofs.Yielding.{ended_with, waits, fails, ends_with, can_yield}
use Rattle.cdx_machine.specs.Several.{at_position, IsThere, kinds_of, reads_child, reads_boxed, Puts}

-- the kind of the child of a position
pub kind_is : (cs : List Child) (i : ℕ) (row : Child) → at_position cs i ≡ Some row → at_position (kinds_of cs) i ≡ Some row.kind
kind_is [] i row h = absurd (let wrong : None ≡ Some row = h in cc)
kind_is (c ∷ cs) zero row h = ap (λ (o : Option Child). kinds_at o) h
  where
    kinds_at : Option Child → Option Kind
    kinds_at None = None
    kinds_at (Some x) = Some x.kind
kind_is (c ∷ cs) (suc i) row h = kind_is cs i row h

-- what a field becomes, by the child of the position
pub puts_row : (cs : List Child) (i : ℕ) (row : Child) (t : Tree) (before now : Trees) → at_position cs i ≡ Some row → Puts cs i t before now → now ≡ stored row.place row.field t before
puts_row cs i row t before now h puts = subst (λ (o : Option Child). IfSome o (λ (row : Child). now ≡ stored row.place row.field t before)) h puts

module _ {M X : Type 0} (plan : Plan) (kinds : List Kind) (kinds_are : kinds ≡ kinds_of plan.children) (position : M → ℕ) (holds : Holding M) (tree : X → Tree) where
  abbrev Held : ChildHolding M
  Held = reads_child plan position holds

  pub can_step : (m : M) (place : ℕ) (event : XmlEvent) → CanStepChild (reads_child plan position holds) m place event → CanStep holds m place event
  can_step m place event h = record { v = h.v; p = h.p; d = h.d; o = h.o; held = h.held.1; place_is = h.place_is; takes = h.takes }

  -- the same of a machine on the heap
  pub can_unboxed : (b : Box M Global) (m : M) (place : ℕ) (event : XmlEvent) → m ≡ b.value → CanStepChild (reads_boxed plan position holds) b place event → CanStepChild (reads_child plan position holds) m place event
  can_unboxed b m place event is h = record { row = h.row; v = h.v; p = h.p; d = h.d; o = h.o; held = subst (λ (m : M). reads_child plan position holds m h.row h.v h.p h.d h.o) (sym is) h.held; place_is = h.place_is; takes = h.takes }

  -- the kind of the machine that runs
  pub runs_kind : (i : ℕ) (row : Child) → at_position plan.children i ≡ Some row → at_position kinds i ≡ Some row.kind
  runs_kind i row h = ap (λ (ks : List Kind). at_position ks i) kinds_are ∙ kind_is plan.children i row h

  pub there_is : (i : ℕ) (row : Child) → at_position plan.children i ≡ Some row → IsThere kinds i
  there_is i row h = (row.kind, runs_kind i row h)

  -- a child's start
  pub child_starts : (ts : Trees) (v : SpecVersion) (q : ℕ) (d : Depth) (n : OwnedName) (a : List OwnedAttribute) (s : Namespace) (i : ℕ) (m : M) (b : Box M Global) (h : FindsAt plan.children ts v n.local_name i) → b.value ≡ m → position m ≡ i → ((k : Kind) → at_position kinds i ≡ Some k → StartsAs holds k v q n a (Ok m))
      → OpensChild (reads_boxed plan position holds) plan ts v q d (innermost n a s no_nodes) b
  child_starts ts v q d n a s i m b h put runs starts =
      let x : holds m v q d (innermost n a s no_nodes) × IsQuiet (q + 1) (xread (element n a s no_nodes) v h.row.kind q d) = starts h.row.kind (runs_kind i h.row h.is_at) d s in
      record {
        is_open = record { row = h.row; found = h.found; first_one = h.first_one; held = subst (λ (m : M). reads_child plan position holds m h.row v q d (innermost n a s no_nodes)) (sym put) (ap (λ j. at_position plan.children j) runs ∙ h.is_at, x.0) };
        quiet = x.1;
      }

  module _ (m m' : M) (same : position m' ≡ position m) (place : ℕ) (event : XmlEvent) (ts us : Trees) where
    at_new : (row : Child) → at_position plan.children (position m) ≡ Some row → at_position plan.children (position m') ≡ Some row
    at_new row h = ap (λ i. at_position plan.children i) same ∙ h

    abbrev Proceeding : Result Bool XmlReadError → Type 0
    Proceeding r = (k : Kind) → at_position kinds (position m) ≡ Some k → ProceedsAs holds k m m' place event r

    -- what becomes of it, seen of the child of the plan
    child_steps : (n : M) (r : Result (Option X) XmlReadError) (answer : Result Bool XmlReadError) → ((row : Child) → at_position plan.children (position m) ≡ Some row → StepsAs holds tree row.kind m m' place event r)
        → ((row : Child) (v : SpecVersion) (p : ℕ) (d : Depth) (x : Next) → at_position plan.children (position m) ≡ Some row → Steps (λ o. holds m' v p d o) tree (λ k. xread k v row.kind p d) p x r → StepsRow (λ o. Held n row v p d o) row (λ k. xread k v row.kind p d) p ts us x answer)
        → StepsChild (reads_child plan position holds) ts us m n place event answer
    child_steps n r answer h by row v p d b held at t = by row v p d (next b event) held.0 (h row held.0 v p d b held.1 at t)

    -- it is still open
    pub child_waits : (b : Bool) → b ≡ false → us ≡ ts → Proceeding (Ok b) → StepsChild (reads_child plan position holds) ts us m m' place event (Ok false)
    child_waits b is kept h = child_steps m' (Ok None) (Ok false) (λ row at. waits holds tree row.kind m m' place event b is (h row.kind (runs_kind (position m) row at))) by
      where
        by : (row : Child) (v : SpecVersion) (p : ℕ) (d : Depth) (x : Next) → at_position plan.children (position m) ≡ Some row → Steps (λ o. holds m' v p d o) tree (λ k. xread k v row.kind p d) p x (Ok None) → StepsRow (λ o. Held m' row v p d o) row (λ k. xread k v row.kind p d) p ts us x (Ok false)
        by row v p d (still o) at s = ((at_new row at, s.0), s.1, kept)
        by row v p d (whole k) at s = absurd s

    refused_row : (n : M) (e : XmlReadError) (row : Child) (v : SpecVersion) (p : ℕ) (d : Depth) (x : Next) → at_position plan.children (position m) ≡ Some row → Steps (λ o. holds m' v p d o) tree (λ k. xread k v row.kind p d) p x (Err e) → StepsRow (λ o. Held n row v p d o) row (λ k. xread k v row.kind p d) p ts us x (Err e)
    refused_row n e row v p d (still o) at s = s
    refused_row n e row v p d (whole k) at s = s

    -- it is refused
    pub child_refused : (n : M) (e : XmlReadError) → Proceeding (Err e) → StepsChild (reads_child plan position holds) ts us m n place event (Err e)
    child_refused n e h = child_steps n (Err e) (Err e) (λ row at. fails holds tree row.kind m m' place event e (h row.kind (runs_kind (position m) row at))) (refused_row n e)

    -- it has ended
    module _ (b : Bool) (ended : b ≡ true) (h : Proceeding (Ok b)) where
      pub can_finish : CanStepChild (reads_child plan position holds) m place event → CanYield holds m' place event
      can_finish c = can_yield holds tree c.row.kind m m' place event b ended (can_step m place event c) (h c.row.kind (runs_kind (position m) c.row c.held.0))

      yielded : (r : Result X XmlReadError) → ((k : Kind) → at_position kinds (position m') ≡ Some k → YieldsAs holds tree k m' place event r) → (row : Child) → at_position plan.children (position m) ≡ Some row → StepsAs holds tree row.kind m m' place event (ended_with r)
      yielded r y row at = ends_with holds tree row.kind m m' place event b r ended (h row.kind (runs_kind (position m) row at)) (y row.kind (runs_kind (position m') row (at_new row at)))

      pub child_spoiled : (n : M) (e : XmlReadError) → ((k : Kind) → at_position kinds (position m') ≡ Some k → YieldsAs holds tree k m' place event (Err e)) → StepsChild (reads_child plan position holds) ts us m n place event (Err e)
      child_spoiled n e y = child_steps n (Err e) (Err e) (yielded (Err e) y) (refused_row n e)

      pub child_put : (n : M) (x : X) (source : X → ℕ) → ((k : Kind) → at_position kinds (position m') ≡ Some k → YieldsAs holds tree k m' place event (Ok x)) → source x ≡ position m' → Puts plan.children (source x) (tree x) ts us → StepsChild (reads_child plan position holds) ts us m n place event (Ok true)
      child_put n x source y from puts = child_steps n (Ok (Some x)) (Ok true) (yielded (Ok x) y) by
        where
          by : (row : Child) (v : SpecVersion) (p : ℕ) (d : Depth) (z : Next) → at_position plan.children (position m) ≡ Some row → Steps (λ o. holds m' v p d o) tree (λ k. xread k v row.kind p d) p z (Ok (Some x)) → StepsRow (λ o. Held n row v p d o) row (λ k. xread k v row.kind p d) p ts us z (Ok true)
          by row v p d (still o) at s = absurd s
          by row v p d (whole k) at s = (tree x, s, puts_row plan.children (source x) row (tree x) ts us (ap (λ i. at_position plan.children i) (from ∙ same) ∙ at) puts)
