-- A machine that is fed the first events of an element.
use Rattle.std.proofs.Common.{◌≡◌, ℕ, suc, ◌+◌, List, [], ◌∷◌, ◌++◌, length, refl, sym, ap, ◌∙◌, arith, append_assoc, length-append}
use Rattle.std.proofs.lemmas.List.{append-nil}
use Rattle.cdx_events.specs.declared.name.OwnedName.{OwnedName}
use Rattle.cdx_events.specs.declared.name.OwnedAttribute.{OwnedAttribute}
use Rattle.cdx_events.specs.declared.name.Namespace.{Namespace}
use Rattle.cdx_events.specs.declared.event.XmlEvent.{XmlEvent}
use Rattle.cdx_events.specs.declared.event.XmlEvent.TheVariants.{StartElement, EndElement}
use Rattle.cdx_events.specs.Cursor.{Cursor}
use Rattle.cdx_events.specs.Nodes.{Nodes, element, events_of, events_of_all}
use Rattle.cdx_schema.specs.Soon.{BeginsElement, IsElement}
use Rattle.cdx_leaf.specs.Reading.{Stands}
use Rattle.cdx_push.specs.declared.machine.LeafMachine.{LeafMachine}
use Rattle.cdx_push.specs.contracts.machine.LeafMachineListener.TheImpl.{ghosts}

-- the events that a machine has heard
abbrev pub heard : LeafMachine → List XmlEvent → Type 0
heard m = ghosts.heard m

-- A machine whose element starts at a place has heard the events before c, and more of the element are ahead.
pub record Fed (hears : List XmlEvent → Type 0) (listening : Type 0) (start : ℕ) (c : Cursor) : Type 0 where
  pub listens : listening
  pub events : List XmlEvent
  pub were_heard : hears events
  pub place_is : c.place ≡ start + length events
  pub name : OwnedName
  pub attributes : List OwnedAttribute
  pub namespace : Namespace
  pub nodes : Nodes
  pub next : XmlEvent
  pub left : List XmlEvent
  pub rest : List XmlEvent
  pub whole : events ++ next ∷ left ≡ events_of (element name attributes namespace nodes)
  pub ahead : c.ahead ≡ next ∷ (left ++ rest)

parted : (es : List XmlEvent) (last : XmlEvent) → (x : XmlEvent) × (xs : List XmlEvent) × (es ++ last ∷ [] ≡ x ∷ xs)
parted [] last = (last, [], refl)
parted (e ∷ es) last = (e, es ++ last ∷ [], refl)

pub fed_first : (hears : List XmlEvent → Type 0) (listening : Type 0) (start p : ℕ) (n : OwnedName) (a : List OwnedAttribute) (s : Namespace) (nodes : Nodes) (rest : List XmlEvent) (c : Cursor) → Stands c n p nodes rest → start ≡ p → listening → hears (StartElement n a s ∷ []) → Fed hears listening start c
fed_first hears listening start p n a s nodes rest c st e l h =
    let f : (x : XmlEvent) × (xs : List XmlEvent) × (events_of_all nodes ++ EndElement n ∷ [] ≡ x ∷ xs) = parted (events_of_all nodes) (EndElement n) in
    record {
      listens = l;
      events = StartElement n a s ∷ [];
      were_heard = h;
      place_is = st.place ∙ (one_on p ∙ ap (λ i. i + 1) (sym e));
      name = n;
      attributes = a;
      namespace = s;
      nodes = nodes;
      next = f.0;
      left = f.1;
      rest = rest;
      whole = ap (λ es. StartElement n a s ∷ es) (sym f.2);
      ahead = st.at.ahead ∙ (sym (append_assoc (events_of_all nodes) (EndElement n ∷ []) rest) ∙ ap (λ es. es ++ rest) f.2);
    }
  where
    one_on : (p : ℕ) → suc p ≡ p + 1
    one_on p = omega arith

not_empty : (es : List XmlEvent) (event : XmlEvent) → es ++ event ∷ [] ≡ [] → ⊥
not_empty [] event e = cc
not_empty (x ∷ es) event e = cc

-- an event always comes
pub fed_never : (hears : List XmlEvent → Type 0) (listening : Type 0) (start : ℕ) (c : Cursor) → Fed hears listening start c → c.ahead ≡ [] → ⊥
fed_never hears listening start c f e = let wrong : [] ≡ f.next ∷ (f.left ++ f.rest) = sym e ∙ f.ahead in cc

module _ (hears : List XmlEvent → Type 0) (listening : Type 0) (start : ℕ) (c c' : Cursor) (event : XmlEvent) (took : c.ahead ≡ event ∷ c'.ahead) (moved : c'.place ≡ c.place + 1) (f : Fed hears listening start c) where
  together : event ∷ c'.ahead ≡ f.next ∷ (f.left ++ f.rest)
  together = sym took ∙ f.ahead

  is_next : event ≡ f.next
  is_next = let t : event ∷ c'.ahead ≡ f.next ∷ (f.left ++ f.rest) = together in cc

  then : c'.ahead ≡ f.left ++ f.rest
  then = let t : event ∷ c'.ahead ≡ f.next ∷ (f.left ++ f.rest) = together in cc

  grown : (f.events ++ event ∷ []) ++ f.left ≡ events_of (element f.name f.attributes f.namespace f.nodes)
  grown = append_assoc f.events (event ∷ []) f.left ∙ (ap (λ (x : XmlEvent). f.events ++ x ∷ f.left) is_next ∙ f.whole)

  -- it goes on with the element
  pub fed_begins : BeginsElement (f.events ++ event ∷ [])
  fed_begins = record { begun = not_empty f.events event; name = f.name; attributes = f.attributes; namespace = f.namespace; nodes = f.nodes; rest = f.left; whole = grown }

  -- the element is open still
  pub fed_on : (hears' : List XmlEvent → Type 0) (listening' : Type 0) (start' : ℕ) → start' ≡ start → listening' → hears' (f.events ++ event ∷ []) → (IsElement (f.events ++ event ∷ []) → ⊥) → Fed hears' listening' start' c'
  fed_on hears' listening' start' e l h opened = by f.left refl
    where
      by : (left : List XmlEvent) → left ≡ f.left → Fed hears' listening' start' c'
      by [] g = absurd (opened (record { name = f.name; attributes = f.attributes; namespace = f.namespace; nodes = f.nodes; whole = sym (append-nil (f.events ++ event ∷ [])) ∙ (ap (λ es. (f.events ++ event ∷ []) ++ es) g ∙ grown) }))
      by (x ∷ xs) g = record {
        listens = l;
        events = f.events ++ event ∷ [];
        were_heard = h;
        place_is = moved ∙ (ap (λ i. i + 1) f.place_is ∙ (counted start (length f.events) ∙ (ap (λ i. start + i) (sym (length-append f.events (event ∷ []))) ∙ ap (λ i. i + length (f.events ++ event ∷ [])) (sym e))));
        name = f.name;
        attributes = f.attributes;
        namespace = f.namespace;
        nodes = f.nodes;
        next = x;
        left = xs;
        rest = f.rest;
        whole = ap (λ es. (f.events ++ event ∷ []) ++ es) g ∙ grown;
        ahead = then ∙ ap (λ es. es ++ f.rest) (sym g);
      }
        where
          counted : (i j : ℕ) → i + j + 1 ≡ i + (j + 1)
          counted i j = omega arith
