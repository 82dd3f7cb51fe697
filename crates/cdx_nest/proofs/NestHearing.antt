-- What a machine with a stack answers to all events that it has heard.
use Rattle.std.proofs.Common.{◌≡◌, ℕ, ◌+◌, List, [], ◌∷◌, Bool, true, Some, Result, Ok, Err, sym, subst}
use Rattle.cdx_events.specs.declared.name.OwnedName.{OwnedName}
use Rattle.cdx_events.specs.declared.name.OwnedAttribute.{OwnedAttribute}
use Rattle.cdx_events.specs.declared.name.Namespace.{Namespace}
use Rattle.cdx_events.specs.declared.event.XmlEvent.{XmlEvent}
use Rattle.cdx_events.specs.declared.event.XmlEvent.TheVariants.{StartElement}
use Rattle.cdx_events.specs.Nodes.{no_nodes, element}
use Rattle.cdx_models.specs.declared.bom.SpecVersion.{SpecVersion}
use Rattle.cdx_models.specs.declared.errors.XmlReadError.{XmlReadError}
use Rattle.cdx_models.specs.Trees.{Tree}
use Rattle.cdx_schema.specs.Depth.{Depth}
use Rattle.cdx_schema.specs.Kinds.{Kind}
use Rattle.cdx_schema.specs.XmlReading.{xread}
use Rattle.cdx_machine.specs.Heard.{Hears, OpensAs}
use Rattle.cdx_machine.specs.Machines.{CanStep, CanYield, RefusesBefore, StepsAs}
use Rattle.cdx_machine.proofs.Heard.{answers_open, opens_fail}
use Rattle.cdx_machine.proofs.Yielding.{ended_with, ends_with, can_yield}
use Rattle.cdx_machine.specs.Begun.{Begun}
use Rattle.cdx_machine.specs.declared.frame.Inside.{Inside}
use Rattle.cdx_nest_machine.specs.declared.stack.Open.{Open}
use Rattle.cdx_nest_machine.specs.declared.stack.Waiting.{Waiting}
use Rattle.cdx_nest_machine.specs.declared.stack.LeafChild.{LeafChild}
use Rattle.cdx_nest_machine.specs.Frames.{leaf_holds, shape_of, stack_holds}
use Rattle.cdx_nest_machine.specs.Stacks.{RootHolding, CanYieldStack, HasRootSort, ProceedsStack, YieldsStack}
use Rattle.cdx_push.specs.declared.leaf.Leaf.{Leaf}
use Rattle.cdx_push.specs.contracts.leaf.LeafLeaves.TheImpl.{ghosts}
use Rattle.cdx_nest.specs.declared.frames.NestFrame.{NestFrame}
use Rattle.cdx_nest.specs.declared.frames.NestKind.{NestKind}
use Rattle.cdx_nest.specs.Frames.{nest_kind, frame_kind, frame_fields, reader_of}
use Rattle.cdx_schema.proofs.Basics.{some_same}

-- what the frames and the machine of a leaf kind keep of the events of an element that is read as this
abbrev pub held : NestKind → List (Waiting NestFrame) → Open NestFrame → SpecVersion → Inside (LeafChild Leaf) → SpecVersion → ℕ → Depth → Begun → Type 0
held k below top known inside v p d o = stack_holds (shape_of nest_kind frame_kind frame_fields reader_of) (leaf_holds nest_kind reader_of ghosts.sort_of ghosts.holds) frame_kind frame_fields k below top known inside v p d o

-- ---- a machine with a stack that ends, read as this root

module _ {M X K : Type 0} (holds : RootHolding K M) (as_kind : K → Kind) (view : X → Tree) (sort : X → K) (root : K) (old new ended : M) (is : Some ended ≡ Some new) (place : ℕ) (event : XmlEvent) (b : Bool) (ends : b ≡ true) (proceeds : ProceedsStack holds as_kind old new place event (Ok b)) where
  -- The machine that is finished is the one that the step left.
  pub stack_can_end : CanStep (holds root) old place event → CanYieldStack holds ended place event
  stack_can_end h =
      let y : CanYield (holds root) new place event = can_yield (holds root) view (as_kind root) old new place event b ends h (proceeds root) in
      record { root = root; v = y.v; p = y.p; d = y.d; o = y.o; held = subst (λ (m : M). holds root m y.v y.p y.d y.o) (sym (some_same is)) y.held; place_is = y.place_is; takes = y.takes; all = y.all; ends = y.ends }

  module _ (r : Result X XmlReadError) (yields : YieldsStack holds as_kind view sort ended place event r) where
    of_new : YieldsStack holds as_kind view sort new place event r
    of_new = subst (λ (m : M). YieldsStack holds as_kind view sort m place event r) (some_same is) yields

    pub stack_ended : StepsAs (holds root) view (as_kind root) old new place event (ended_with r)
    stack_ended = ends_with (holds root) view (as_kind root) old new place event b r ends (proceeds root) (λ v p d o k h at t w. (of_new root v p d o k h at t w).0)

    -- A value is of the root's kind.
    pub stack_of_root : CanStep (holds root) old place event → HasRootSort sort root r
    stack_of_root h =
        let y : CanYield (holds root) new place event = can_yield (holds root) view (as_kind root) old new place event b ends h (proceeds root) in
        (of_new root y.v y.p y.d y.o y.all y.held y.place_is y.takes y.ends).1

-- ---- an element's start that is refused, by a machine that is none yet

pub start_refused : {N : Type 0} (hears : N → List XmlEvent → Type 0) (k : Kind) (v : SpecVersion) (p : ℕ) (d : Depth) (n : OwnedName) (a : List OwnedAttribute) (s : Namespace) (e : XmlReadError) → RefusesBefore e (p + 1) (xread (element n a s no_nodes) v k p d) → OpensAs hears v k p d (StartElement n a s ∷ []) (Err e)
start_refused hears k v p d n a s e h = opens_fail (λ (m : Unit {0}) es. Hears (λ o. ⊥) es) hears v k p d (StartElement n a s ∷ []) e (answers_open (λ (m : Unit {0}) v p d o. ⊥) k v p d n a s (Err e) h)
