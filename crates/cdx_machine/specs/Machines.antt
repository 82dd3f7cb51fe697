-- What machines promise of each event.
use Rattle.std.specs.Prelude.{◌≡◌, ℕ, suc, ◌+◌, ◌≤◌, List, Bool, true, false, Option, Some, None, Result, Ok, Err}
use Rattle.cdx_events.specs.declared.name.OwnedName.{OwnedName}
use Rattle.cdx_events.specs.declared.name.OwnedAttribute.{OwnedAttribute}
use Rattle.cdx_events.specs.declared.name.Namespace.{Namespace}
use Rattle.cdx_events.specs.declared.event.XmlEvent.{XmlEvent}
use Rattle.cdx_events.specs.Nodes.{Node, no_nodes}
use Rattle.cdx_models.specs.declared.bom.SpecVersion.{SpecVersion}
use Rattle.cdx_models.specs.declared.errors.XmlReadError.{XmlReadError}
use Rattle.cdx_models.specs.declared.errors.XmlReadError.TheVariants.{Memory}
use Rattle.cdx_models.specs.Trees.{Tree, Trees}
use Rattle.cdx_schema.specs.Depth.{Depth}
use Rattle.cdx_schema.specs.Kinds.{Kind}
use Rattle.cdx_schema.specs.Locality.{fault_place}
use Rattle.cdx_schema.specs.Nodes.{places}
use Rattle.cdx_schema.specs.XmlReading.{Child, stored, xread}
use Rattle.cdx_machine.specs.Begun.{Begun, innermost, Next, still, whole, count, ended_now, next, TakesEvent}

-- A refusal is what is denoted, and its fault stands at the last event, right before this place. Want of memory is the exception.
abbrev pub RefusesBefore : {T : Type 0} → XmlReadError → ℕ → Result T XmlReadError → Type 0
RefusesBefore (Memory m) place denoted = Unit {0}
RefusesBefore e place denoted = (denoted ≡ Err e) × (suc (fault_place e) ≡ place)

-- No fault stands before this place.
abbrev pub IsQuiet : {T : Type 0} → ℕ → Result T XmlReadError → Type 0
IsQuiet place denoted = (f : XmlReadError) → denoted ≡ Err f → place ≤ fault_place f

-- What a machine keeps of the events of a begun element at place p.
abbrev pub Holding : Type 0 → Type 1
Holding M = M → SpecVersion → ℕ → Depth → Begun → Type 0

-- An element's start, at place p, was taken or refused.
abbrev pub Opens : {M T : Type 0} → (M → Begun → Type 0) → (Node → Result T XmlReadError) → ℕ → Begun → Result M XmlReadError → Type 0
Opens holds read p o (Ok m) = holds m o × IsQuiet (p + count o) (read (ended_now o))
Opens holds read p o (Err e) = RefusesBefore e (p + count o) (read (ended_now o))

abbrev pub StartsAs : {M : Type 0} → Holding M → Kind → SpecVersion → ℕ → OwnedName → List OwnedAttribute → Result M XmlReadError → Type 0
StartsAs holds kind v place n a result =
    (d : Depth) (s : Namespace) → Opens (λ m o. holds m v place d o) (λ k. xread k v kind place d) place (innermost n a s no_nodes) result

-- One event more: the element is still open, or this is its end, of which the machine keeps nothing.
abbrev pub Proceeds : {T : Type 0} → (Begun → Type 0) → Type 0 → (Node → Result T XmlReadError) → ℕ → Next → Result Bool XmlReadError → Type 0
Proceeds held kept read p (still o) (Ok false) = held o × IsQuiet (p + count o) (read (ended_now o))
Proceeds held kept read p (still o) (Ok true) = ⊥
Proceeds held kept read p (still o) (Err e) = RefusesBefore e (p + count o) (read (ended_now o))
Proceeds held kept read p (whole k) (Ok false) = ⊥
Proceeds held kept read p (whole k) (Ok true) = kept
Proceeds held kept read p (whole k) (Err e) = RefusesBefore e (p + places k) (read k)

-- What an element is read as, all of whose events stand before this place.
abbrev pub Yields : {X T : Type 0} → (X → T) → ℕ → Result T XmlReadError → Result X XmlReadError → Type 0
Yields view place denoted (Ok x) = denoted ≡ Ok (view x)
Yields view place denoted (Err e) = RefusesBefore e place denoted

-- Both at once: the element is still open, or it has ended and is read.
abbrev pub Steps : {X T : Type 0} → (Begun → Type 0) → (X → T) → (Node → Result T XmlReadError) → ℕ → Next → Result (Option X) XmlReadError → Type 0
Steps held view read p (still o) (Ok None) = held o × IsQuiet (p + count o) (read (ended_now o))
Steps held view read p (still o) (Ok (Some x)) = ⊥
Steps held view read p (still o) (Err e) = RefusesBefore e (p + count o) (read (ended_now o))
Steps held view read p (whole k) (Ok None) = ⊥
Steps held view read p (whole k) (Ok (Some x)) = read k ≡ Ok (view x)
Steps held view read p (whole k) (Err e) = RefusesBefore e (p + places k) (read k)

-- The machine keeps events of a begun element, and the event at this place goes on with it.
pub record CanStep {M : Type 0} (holds : Holding M) (m : M) (place : ℕ) (event : XmlEvent) : Type 0 where
  pub v : SpecVersion
  pub p : ℕ
  pub d : Depth
  pub o : Begun
  pub held : holds m v p d o
  pub place_is : place ≡ p + count o
  pub takes : TakesEvent o event

abbrev pub ProceedsAs : {M : Type 0} → Holding M → Kind → M → M → ℕ → XmlEvent → Result Bool XmlReadError → Type 0
ProceedsAs holds kind old new place event result =
    (v : SpecVersion) (p : ℕ) (d : Depth) (o : Begun) → holds old v p d o → place ≡ p + count o → TakesEvent o event → Proceeds (λ o. holds new v p d o) (holds new v p d o) (λ k. xread k v kind p d) p (next o event) result

-- The machine keeps all events of an element but its end, and that is the event at this place.
pub record CanYield {M : Type 0} (holds : Holding M) (m : M) (place : ℕ) (event : XmlEvent) : Type 0 where
  pub v : SpecVersion
  pub p : ℕ
  pub d : Depth
  pub o : Begun
  pub held : holds m v p d o
  pub place_is : place ≡ p + count o
  pub takes : TakesEvent o event
  pub all : Node
  pub ends : next o event ≡ whole all

abbrev pub YieldsAs : {M X : Type 0} → Holding M → (X → Tree) → Kind → M → ℕ → XmlEvent → Result X XmlReadError → Type 0
YieldsAs holds view kind m place event result =
    (v : SpecVersion) (p : ℕ) (d : Depth) (o : Begun) (k : Node) → holds m v p d o → place ≡ p + count o → TakesEvent o event → next o event ≡ whole k → Yields view (p + places k) (xread k v kind p d) result

abbrev pub StepsAs : {M X : Type 0} → Holding M → (X → Tree) → Kind → M → M → ℕ → XmlEvent → Result (Option X) XmlReadError → Type 0
StepsAs holds view kind old new place event result =
    (v : SpecVersion) (p : ℕ) (d : Depth) (o : Begun) → holds old v p d o → place ≡ p + count o → TakesEvent o event → Steps (λ o. holds new v p d o) view (λ k. xread k v kind p d) p (next o event) result

-- ---- a child that is read into a field

-- What fields become by the tree of a child.
abbrev pub Fills : {A : Type 0} → (Begun → Type 0) → (Node → Result Tree XmlReadError) → ℕ → (Tree → A) → A → A → Next → Result Bool XmlReadError → Type 0
Fills held read p by before now (still o) (Ok false) = held o × IsQuiet (p + count o) (read (ended_now o)) × (now ≡ before)
Fills held read p by before now (still o) (Ok true) = ⊥
Fills held read p by before now (still o) (Err e) = RefusesBefore e (p + count o) (read (ended_now o))
Fills held read p by before now (whole k) (Ok false) = ⊥
Fills held read p by before now (whole k) (Ok true) = (t : Tree) × (read k ≡ Ok t) × (now ≡ by t)
Fills held read p by before now (whole k) (Err e) = RefusesBefore e (p + places k) (read k)

-- What the machine of an open child keeps, which is read by this child of a plan.
abbrev pub ChildHolding : Type 0 → Type 1
ChildHolding M = M → Child → SpecVersion → ℕ → Depth → Begun → Type 0

pub record CanStepChild {M : Type 0} (holds : ChildHolding M) (m : M) (place : ℕ) (event : XmlEvent) : Type 0 where
  pub row : Child
  pub v : SpecVersion
  pub p : ℕ
  pub d : Depth
  pub o : Begun
  pub held : holds m row v p d o
  pub place_is : place ≡ p + count o
  pub takes : TakesEvent o event

-- What the fields become by a child that is read by this child of the plan.
abbrev pub StepsRow : (Begun → Type 0) → Child → (Node → Result Tree XmlReadError) → ℕ → Trees → Trees → Next → Result Bool XmlReadError → Type 0
StepsRow held row read p before now = Fills held read p (λ t. stored row.place row.field t before) before now

abbrev pub StepsChild : {M : Type 0} → ChildHolding M → Trees → Trees → M → M → ℕ → XmlEvent → Result Bool XmlReadError → Type 0
StepsChild holds before now old new place event result =
    (row : Child) (v : SpecVersion) (p : ℕ) (d : Depth) (o : Begun) → holds old row v p d o → place ≡ p + count o → TakesEvent o event → StepsRow (λ o. holds new row v p d o) row (λ k. xread k v row.kind p d) p before now (next o event) result
