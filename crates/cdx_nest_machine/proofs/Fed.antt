-- A machine of several kinds, by the root's kind.
use Rattle.std.proofs.Common.{◌≡◌, ℕ, ◌+◌, Bool, true, Result, Ok, Err}
use Rattle.std.specs.Prelude.{IfOk}
use Rattle.cdx_events.specs.declared.event.XmlEvent.{XmlEvent}
use Rattle.cdx_events.specs.Nodes.{Node, element}
use Rattle.cdx_models.specs.declared.bom.SpecVersion.{SpecVersion}
use Rattle.cdx_models.specs.declared.errors.XmlReadError.{XmlReadError}
use Rattle.cdx_models.specs.Trees.{Tree}
use Rattle.cdx_schema.specs.Depth.{Depth}
use Rattle.cdx_schema.specs.Kinds.{Kind}
use Rattle.cdx_schema.specs.XmlReading.{xread}
use Rattle.cdx_machine.specs.Begun.{Begun, whole, next, count, TakesEvent}
use Rattle.cdx_machine.specs.Machines.{StepsAs}
use Rattle.cdx_machine.proofs.Yielding.{ended_with, ends_with, proceeds_whole}
use Rattle.cdx_nest_machine.specs.Stacks.{RootHolding, CanStepStack, ProceedsStack, CanYieldStack, HasRootSort, YieldsStack}

of_root_ok : {X K : Type 0} (sort : X → K) (root : K) (r : Result X XmlReadError) → HasRootSort sort root r → IfOk r (λ x. sort x ≡ root)
of_root_ok sort root (Ok x) h = h
of_root_ok sort root (Err e) h = h

module _ {M K : Type 0} (holds : RootHolding K M) (as_kind : K → Kind) (m m' : M) (place : ℕ) (event : XmlEvent) (b : Bool) (ended : b ≡ true) (steps : ProceedsStack holds as_kind m m' place event (Ok b)) where
  ended_whole : (root : K) (v : SpecVersion) (p : ℕ) (d : Depth) (o : Begun) → holds root m v p d o → place ≡ p + count o → TakesEvent o event → (k : Node) × (next o event ≡ whole k) × holds root m' v p d o
  ended_whole root v p d o held is t = proceeds_whole (λ o. holds root m' v p d o) (holds root m' v p d o) (λ k. xread k v (as_kind root) p d) p (next o event) b ended (steps root v p d o held is t)

  -- The element has ended, and can be finished.
  pub stack_can_yield : CanStepStack holds m place event → CanYieldStack holds m' place event
  stack_can_yield c =
      let w : (k : Node) × (next c.o event ≡ whole k) × holds c.root m' c.v c.p c.d c.o = ended_whole c.root c.v c.p c.d c.o c.held c.place_is c.takes in
      record { root = c.root; v = c.v; p = c.p; d = c.d; o = c.o; held = w.2; place_is = c.place_is; takes = c.takes; all = w.0; ends = w.1 }

  -- A step and what is read then, as one of the root's kind.
  pub root_ends : {X : Type 0} (view : X → Tree) (sort : X → K) (r : Result X XmlReadError) (root : K) → YieldsStack holds as_kind view sort m' place event r → StepsAs (holds root) view (as_kind root) m m' place event (ended_with r)
  root_ends view sort r root y = ends_with (holds root) view (as_kind root) m m' place event b r ended (steps root) (λ v p d o k held is t w. (y root v p d o k held is t w).0)

  -- A value is of the root's kind.
  pub root_value : {X : Type 0} (view : X → Tree) (sort : X → K) (r : Result X XmlReadError) (root : K) (v : SpecVersion) (p : ℕ) (d : Depth) (o : Begun) → holds root m v p d o → place ≡ p + count o → TakesEvent o event → YieldsStack holds as_kind view sort m' place event r → IfOk r (λ x. sort x ≡ root)
  root_value view sort r root v p d o held is t y =
      let w : (k : Node) × (next o event ≡ whole k) × holds root m' v p d o = ended_whole root v p d o held is t in
      of_root_ok sort root r (y root v p d o w.0 w.2 is t w.1).1
