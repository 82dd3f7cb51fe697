-- How many events nodes and begun elements have.
use Rattle.std.proofs.Common.{◌≡◌, ℕ, suc, ◌+◌, ◌<◌, List, refl, subst, arith}
use Rattle.cdx_events.specs.declared.name.OwnedName.{OwnedName}
use Rattle.cdx_events.specs.declared.name.OwnedAttribute.{OwnedAttribute}
use Rattle.cdx_events.specs.declared.name.Namespace.{Namespace}
use Rattle.cdx_events.specs.declared.event.XmlEvent.{XmlEvent}
use Rattle.cdx_events.specs.declared.event.XmlEvent.TheVariants.{StartDocument, EndDocument, StartElement, EndElement, Characters, CData}
use Rattle.cdx_events.specs.Nodes.{Node, characters, cdata, Nodes, no_nodes, node}
use Rattle.cdx_schema.specs.Nodes.{places, places_of, ◌⊕◌}
use Rattle.cdx_schema.specs.XmlSpelling.{lone}
use Rattle.cdx_machine.specs.Begun.{Begun, innermost, around, Next, still, whole, into, next_inside, next, TakesInside, TakesEvent, count, ended_now}

pub one_on : (p : ℕ) → suc p ≡ p + 1
one_on p = omega arith

pub places_more : (xs : Nodes) (k : Node) → places_of (xs ⊕ lone k) ≡ places_of xs + places k
places_more no_nodes k = omega arith
places_more (node x xs) k = let e : places_of (xs ⊕ lone k) ≡ places_of xs + places k = places_more xs k in omega (arith, e)

-- Ending what is open adds an end at least.
pub count_below : (o : Begun) → count o < places (ended_now o)
count_below (innermost n a s xs) = omega arith
count_below (around n a s xs o) = omega (arith, places_more xs (ended_now o), count_below o)

-- One event more is one event more.
abbrev pub Counted : ℕ → Next → Type 0
Counted n (still o) = count o ≡ n
Counted n (whole k) = places k ≡ n

counted_inside : (n : OwnedName) (a : List OwnedAttribute) (s : Namespace) (xs : Nodes) (event : XmlEvent) → TakesInside n event → Counted (suc (suc (places_of xs))) (next_inside n a s xs event)
counted_inside n a s xs StartDocument t = absurd t
counted_inside n a s xs EndDocument t = absurd t
counted_inside n a s xs (StartElement m b r) t = omega arith
counted_inside n a s xs (EndElement m) t = refl
counted_inside n a s xs (Characters u) t = let e : places_of (xs ⊕ lone (characters u)) ≡ places_of xs + 1 = places_more xs (characters u) in omega (arith, e)
counted_inside n a s xs (CData u) t = let e : places_of (xs ⊕ lone (cdata u)) ≡ places_of xs + 1 = places_more xs (cdata u) in omega (arith, e)

counted_into : (n : OwnedName) (a : List OwnedAttribute) (s : Namespace) (xs : Nodes) (k : ℕ) (o : Next) → Counted k o → Counted (suc (places_of xs + k)) (into n a s xs o)
counted_into n a s xs k (still o) h = omega (arith, h)
counted_into n a s xs k (whole x) h = omega (arith, h, places_more xs x)

pub counted : (o : Begun) (event : XmlEvent) → TakesEvent o event → Counted (suc (count o)) (next o event)
counted (innermost n a s xs) event t = counted_inside n a s xs event t
counted (around n a s xs o) event t = subst (λ (k : ℕ). Counted k (into n a s xs (next o event))) (one_more (places_of xs) (count o)) (counted_into n a s xs (suc (count o)) (next o event) (counted o event t))
  where
    one_more : (i k : ℕ) → suc (i + suc k) ≡ suc (suc (i + k))
    one_more i k = omega arith
