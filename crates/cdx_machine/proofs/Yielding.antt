-- A step and, at the element's end, what it is read as: both at once.
use Rattle.std.proofs.Common.{◌≡◌, ℕ, ◌+◌, Bool, true, false, Option, Some, None, Result, Ok, Err, refl}
use Rattle.cdx_events.specs.declared.event.XmlEvent.{XmlEvent}
use Rattle.cdx_events.specs.Nodes.{Node}
use Rattle.cdx_models.specs.declared.errors.XmlReadError.{XmlReadError}
use Rattle.cdx_models.specs.Trees.{Tree}
use Rattle.cdx_schema.specs.Kinds.{Kind}
use Rattle.cdx_schema.specs.Nodes.{places}
use Rattle.cdx_schema.specs.XmlReading.{xread}
use Rattle.cdx_machine.specs.Begun.{Begun, Next, still, whole, next}
use Rattle.cdx_machine.specs.Machines.{Holding, CanStep, CanYield, Proceeds, ProceedsAs, Yields, YieldsAs, Steps, StepsAs}

-- what is answered at an element's end
abbrev pub ended_with : {X : Type 0} → Result X XmlReadError → Result (Option X) XmlReadError
ended_with (Ok x) = Ok (Some x)
ended_with (Err e) = Err e

module _ {X T : Type 0} (held : Begun → Type 0) (kept : Type 0) (view : X → T) (read : Node → Result T XmlReadError) (p : ℕ) where
  pub step_waits : (n : Next) (b : Bool) → b ≡ false → Proceeds held kept read p n (Ok b) → Steps held view read p n (Ok None)
  step_waits (still o) false is h = h
  step_waits (whole k) false is h = absurd h
  step_waits n true is h = absurd (let wrong : true ≡ false = is in cc)

  pub step_fails : (n : Next) (e : XmlReadError) → Proceeds held kept read p n (Err e) → Steps held view read p n (Err e)
  step_fails (still o) e h = h
  step_fails (whole k) e h = h

  pub step_ends : (n : Next) (b : Bool) (r : Result X XmlReadError) → b ≡ true → Proceeds held kept read p n (Ok b) → ((k : Node) → n ≡ whole k → kept → Yields view (p + places k) (read k) r) → Steps held view read p n (ended_with r)
  step_ends (still o) true r is h f = absurd h
  step_ends (whole k) true (Ok x) is h f = f k refl h
  step_ends (whole k) true (Err e) is h f = f k refl h
  step_ends n false r is h f = absurd (let wrong : false ≡ true = is in cc)

-- A whole element is there.
pub proceeds_whole : {T : Type 0} (held : Begun → Type 0) (kept : Type 0) (read : Node → Result T XmlReadError) (p : ℕ) (n : Next) (b : Bool) → b ≡ true → Proceeds held kept read p n (Ok b) → (k : Node) × (n ≡ whole k) × kept
proceeds_whole held kept read p (still o) true is h = absurd h
proceeds_whole held kept read p (whole k) true is h = (k, refl, h)
proceeds_whole held kept read p n false is h = absurd (let wrong : false ≡ true = is in cc)

module _ {M X : Type 0} (holds : Holding M) (view : X → Tree) (kind : Kind) (m m' : M) (place : ℕ) (event : XmlEvent) where
  pub waits : (b : Bool) → b ≡ false → ProceedsAs holds kind m m' place event (Ok b) → StepsAs holds view kind m m' place event (Ok None)
  waits b is h v p d o held at t = step_waits (λ o. holds m' v p d o) (holds m' v p d o) view (λ k. xread k v kind p d) p (next o event) b is (h v p d o held at t)

  pub fails : (e : XmlReadError) → ProceedsAs holds kind m m' place event (Err e) → StepsAs holds view kind m m' place event (Err e)
  fails e h v p d o held at t = step_fails (λ o. holds m' v p d o) (holds m' v p d o) view (λ k. xread k v kind p d) p (next o event) e (h v p d o held at t)

  pub ends_with : (b : Bool) (r : Result X XmlReadError) → b ≡ true → ProceedsAs holds kind m m' place event (Ok b) → YieldsAs holds view kind m' place event r → StepsAs holds view kind m m' place event (ended_with r)
  ends_with b r is h y v p d o held at t =
      step_ends (λ o. holds m' v p d o) (holds m' v p d o) view (λ k. xread k v kind p d) p (next o event) b r is (h v p d o held at t) (λ k w kept. y v p d o k kept at t w)

  -- The value is there to be taken.
  pub can_yield : (b : Bool) → b ≡ true → CanStep holds m place event → ProceedsAs holds kind m m' place event (Ok b) → CanYield holds m' place event
  can_yield b is c h =
      let w : (k : Node) × (next c.o event ≡ whole k) × holds m' c.v c.p c.d c.o = proceeds_whole (λ o. holds m' c.v c.p c.d o) (holds m' c.v c.p c.d c.o) (λ k. xread k c.v kind c.p c.d) c.p (next c.o event) b is (h c.v c.p c.d c.o c.held c.place_is c.takes) in
      record { v = c.v; p = c.p; d = c.d; o = c.o; held = w.2; place_is = c.place_is; takes = c.takes; all = w.0; ends = w.1 }
