-- A loop over the nodes of an element.
use Rattle.std.proofs.Common.{◌≡◌, ℕ, ◌+◌, ◌≤◌, List, Result, Ok, Err, sym, ap, ◌∙◌, subst}
use Rattle.cdx_events.specs.declared.name.OwnedName.{OwnedName}
use Rattle.cdx_events.specs.declared.event.XmlEvent.{XmlEvent}
use Rattle.cdx_events.specs.Nodes.{Node, Nodes}
use Rattle.cdx_events.specs.Cursor.{Cursor}
use Rattle.cdx_models.specs.declared.errors.XmlReadError.{XmlReadError}
use Rattle.cdx_models.specs.declared.errors.XmlReadError.TheVariants as errors
use Rattle.cdx_leaf.specs.Fault.{within, FailsAt, Refused}
use Rattle.cdx_schema.specs.Nodes.{places_of}
use Rattle.cdx_leaf.specs.Reading.{WithinElement, Reads}
use Rattle.cdx_leaf.specs.Each.{each_node}

-- ---- faults

pub fails_along : {S T : Type 0} (e : XmlReadError) (place : ℕ) (r : Result S XmlReadError) (q : Result T XmlReadError) → ((f : XmlReadError) → r ≡ Err f → q ≡ Err f) → FailsAt e place r → FailsAt e place q
fails_along (errors.Memory e) place r q along h = tt
fails_along e place r q along h = (along _ h.0, h.1)

-- refused with a fault that is denoted, near it
pub refused_near : {X T : Type 0} (view : X → T) (old new end : Cursor) (denoted : Result T XmlReadError) (r : Result X XmlReadError) (fault : XmlReadError) → Refused r fault → old.place ≤ new.place → within new.place fault → denoted ≡ Err fault → Reads view old new end denoted r
refused_near view old new end denoted (Ok x) fault h a b e = absurd h
refused_near view old new end denoted (Err (errors.Memory m)) fault h a b e = (a, tt)
refused_near view old new end denoted (Err g) fault h a b e = (a, (e ∙ ap (λ f. Err f) (sym h), subst (λ x. within new.place x) (sym h) b))

-- ---- the loop

-- Of the nodes of an element that is read from old on, some are left at c, and what they make of s is what all make of start.
pub record InLoop {S : Type 0} (step : Node → ℕ → S → Result S XmlReadError) (old c : Cursor) (name : OwnedName) (nodes : Nodes) (rest : List XmlEvent) (start s : S) : Type 0 where
  pub left : Nodes
  pub at : WithinElement c name left rest
  pub place : c.place + places_of left ≡ old.place + places_of nodes
  pub grown : old.place ≤ c.place
  pub same : each_node step left c.place s ≡ each_node step nodes old.place start
