-- What the next event says of what is ahead.
use Rattle.std.proofs.Common.{◌≡◌, ℕ, ◌+◌, List, [], ◌∷◌, ◌++◌, refl, sym, ap, ◌∙◌, append_assoc, arith}
use Rattle.cdx_events.specs.declared.name.OwnedName.{OwnedName}
use Rattle.cdx_events.specs.declared.name.OwnedAttribute.{OwnedAttribute}
use Rattle.cdx_events.specs.declared.name.Namespace.{Namespace}
use Rattle.cdx_events.specs.declared.event.XmlEvent.{XmlEvent}
use Rattle.cdx_events.specs.declared.event.XmlEvent.TheVariants.{StartDocument, EndDocument, StartElement, EndElement, Characters, CData}
use Rattle.cdx_events.specs.Event.{event_kind}
use Rattle.cdx_events.specs.Nodes.{Node, Nodes, characters, cdata, element, no_nodes, node, events_of_all}
use Rattle.cdx_events.specs.Cursor.{Cursor}
use Rattle.cdx_leaf.specs.Reading.{WithinElement, Stands, kind_of_node}

-- the next event was taken
abbrev pub Took : Cursor → Cursor → XmlEvent → Type 0
Took old new event = (old.ahead ≡ event ∷ new.ahead) × (new.place ≡ old.place + 1)

pub cursor_is : (c d : Cursor) → c.place ≡ d.place → c.ahead ≡ d.ahead → c ≡ d
cursor_is c d p a =
    let made : ℕ → List XmlEvent → Cursor = λ x y. record { place = x; ahead = y } in
    ap (λ x. made x c.ahead) p ∙ ap (λ y. made d.place y) a

-- What is ahead begins with the event.
meets : (old new : Cursor) (event : XmlEvent) (name : OwnedName) (nodes : Nodes) (rest : List XmlEvent) → WithinElement old name nodes rest → Took old new event → events_of_all nodes ++ EndElement name ∷ rest ≡ event ∷ new.ahead
meets old new event name nodes rest a t = sym a.ahead ∙ t.0

-- ---- by the event

pub record Ends (new : Cursor) (nodes : Nodes) (rest : List XmlEvent) : Type 0 where
  pub nodes_are : nodes ≡ no_nodes
  pub ahead : new.ahead ≡ rest

end_of : (nodes : Nodes) (name m : OwnedName) (rest ahead : List XmlEvent) → events_of_all nodes ++ EndElement name ∷ rest ≡ EndElement m ∷ ahead → (nodes ≡ no_nodes) × (ahead ≡ rest)
end_of no_nodes name m rest ahead e = (refl, cc)
end_of (node (characters t) ks) name m rest ahead e = absurd cc
end_of (node (cdata t) ks) name m rest ahead e = absurd cc
end_of (node (element n a s kids) ks) name m rest ahead e = absurd cc

pub at_end : (old new : Cursor) (event : XmlEvent) (name m : OwnedName) (nodes : Nodes) (rest : List XmlEvent) → event ≡ EndElement m → WithinElement old name nodes rest → Took old new event → Ends new nodes rest
at_end old new event name m nodes rest is a t =
    let e = end_of nodes name m rest new.ahead (meets old new event name nodes rest a t ∙ ap (λ x. x ∷ new.ahead) is) in
    record { nodes_are = e.0; ahead = e.1 }

pub record Follows (new : Cursor) (name : OwnedName) (nodes : Nodes) (item : Node) (rest : List XmlEvent) : Type 0 where
  pub others : Nodes
  pub nodes_are : nodes ≡ node item others
  pub at : WithinElement new name others rest

text_of : (nodes : Nodes) (name : OwnedName) (t : List ℕ) (rest ahead : List XmlEvent) → events_of_all nodes ++ EndElement name ∷ rest ≡ Characters t ∷ ahead → (ks : Nodes) × (nodes ≡ node (characters t) ks) × (ahead ≡ events_of_all ks ++ EndElement name ∷ rest)
text_of no_nodes name t rest ahead e = absurd cc
text_of (node (characters u) ks) name t rest ahead e = (ks, (let same : u ≡ t = cc in ap (λ x. node (characters x) ks) same), cc)
text_of (node (cdata u) ks) name t rest ahead e = absurd cc
text_of (node (element n a s kids) ks) name t rest ahead e = absurd cc

pub at_text : (old new : Cursor) (event : XmlEvent) (name : OwnedName) (u : List ℕ) (nodes : Nodes) (rest : List XmlEvent) → event ≡ Characters u → WithinElement old name nodes rest → Took old new event → Follows new name nodes (characters u) rest
at_text old new event name u nodes rest is a t =
    let e = text_of nodes name u rest new.ahead (meets old new event name nodes rest a t ∙ ap (λ x. x ∷ new.ahead) is) in
    record { others = e.0; nodes_are = e.1; at = record { ahead = e.2 } }

cdata_of : (nodes : Nodes) (name : OwnedName) (t : List ℕ) (rest ahead : List XmlEvent) → events_of_all nodes ++ EndElement name ∷ rest ≡ CData t ∷ ahead → (ks : Nodes) × (nodes ≡ node (cdata t) ks) × (ahead ≡ events_of_all ks ++ EndElement name ∷ rest)
cdata_of no_nodes name t rest ahead e = absurd cc
cdata_of (node (characters u) ks) name t rest ahead e = absurd cc
cdata_of (node (cdata u) ks) name t rest ahead e = (ks, (let same : u ≡ t = cc in ap (λ x. node (cdata x) ks) same), cc)
cdata_of (node (element n a s kids) ks) name t rest ahead e = absurd cc

pub at_cdata : (old new : Cursor) (event : XmlEvent) (name : OwnedName) (u : List ℕ) (nodes : Nodes) (rest : List XmlEvent) → event ≡ CData u → WithinElement old name nodes rest → Took old new event → Follows new name nodes (cdata u) rest
at_cdata old new event name u nodes rest is a t =
    let e = cdata_of nodes name u rest new.ahead (meets old new event name nodes rest a t ∙ ap (λ x. x ∷ new.ahead) is) in
    record { others = e.0; nodes_are = e.1; at = record { ahead = e.2 } }

pub record Enters (old new : Cursor) (name : OwnedName) (nodes : Nodes) (n : OwnedName) (a : List OwnedAttribute) (s : Namespace) (rest : List XmlEvent) : Type 0 where
  pub kids : Nodes
  pub others : Nodes
  pub nodes_are : nodes ≡ node (element n a s kids) others
  pub stands : Stands new n old.place kids (events_of_all others ++ EndElement name ∷ rest)

start_of : (nodes : Nodes) (name n : OwnedName) (a : List OwnedAttribute) (s : Namespace) (rest ahead : List XmlEvent) → events_of_all nodes ++ EndElement name ∷ rest ≡ StartElement n a s ∷ ahead
    → (kids ks : Nodes) × (nodes ≡ node (element n a s kids) ks) × (ahead ≡ events_of_all kids ++ EndElement n ∷ (events_of_all ks ++ EndElement name ∷ rest))
start_of no_nodes name n a s rest ahead e = absurd cc
start_of (node (characters u) ks) name n a s rest ahead e = absurd cc
start_of (node (cdata u) ks) name n a s rest ahead e = absurd cc
start_of (node (element m b r kids) ks) name n a s rest ahead e =
    let x : m ≡ n = cc in
    let y : b ≡ a = cc in
    let z : r ≡ s = cc in
    let w : ((events_of_all kids ++ EndElement m ∷ []) ++ events_of_all ks) ++ EndElement name ∷ rest ≡ ahead = cc in
    let same : node (element m b r kids) ks ≡ node (element n a s kids) ks = ap (λ v. node (element v b r kids) ks) x ∙ ap (λ v. node (element n v r kids) ks) y ∙ ap (λ v. node (element n a v kids) ks) z in
    let tail = events_of_all ks ++ EndElement name ∷ rest in
    let regrouped : ((events_of_all kids ++ EndElement m ∷ []) ++ events_of_all ks) ++ EndElement name ∷ rest ≡ events_of_all kids ++ EndElement m ∷ tail =
    append_assoc (events_of_all kids ++ EndElement m ∷ []) (events_of_all ks) (EndElement name ∷ rest) ∙ append_assoc (events_of_all kids) (EndElement m ∷ []) tail in
    (kids, ks, same, sym w ∙ regrouped ∙ ap (λ v. events_of_all kids ++ EndElement v ∷ tail) x)

pub at_start : (old new : Cursor) (event : XmlEvent) (name n : OwnedName) (a : List OwnedAttribute) (s : Namespace) (nodes : Nodes) (rest : List XmlEvent) → event ≡ StartElement n a s → WithinElement old name nodes rest → Took old new event → Enters old new name nodes n a s rest
at_start old new event name n a s nodes rest is at t =
    let e = start_of nodes name n a s rest new.ahead (meets old new event name nodes rest at t ∙ ap (λ x. x ∷ new.ahead) is) in
    record { kids = e.0; others = e.1; nodes_are = e.2; stands = record { place = omega (arith, t.1); at = record { ahead = e.3 } } }

-- any event but the end is the first of a node
pub record Begins (event : XmlEvent) (nodes : Nodes) : Type 0 where
  pub item : Node
  pub others : Nodes
  pub nodes_are : nodes ≡ node item others
  pub kind_is : kind_of_node item ≡ event_kind event
  pub started : (n : OwnedName) (a : List OwnedAttribute) (s : Namespace) (kids : Nodes) → item ≡ element n a s kids → event ≡ StartElement n a s

element_start : {m n : OwnedName} {b a : List OwnedAttribute} {r s : Namespace} {kids inner : Nodes} → element m b r kids ≡ element n a s inner → StartElement m b r ≡ StartElement n a s
element_start {m = m} {n = n} {b = b} {a = a} {r = r} {s = s} e =
    let x : m ≡ n = cc in
    let y : b ≡ a = cc in
    let z : r ≡ s = cc in
    cc

begins_of : (nodes : Nodes) (name : OwnedName) (event : XmlEvent) (rest ahead : List XmlEvent) → ((m : OwnedName) → event ≡ EndElement m → ⊥) → events_of_all nodes ++ EndElement name ∷ rest ≡ event ∷ ahead → Begins event nodes
begins_of no_nodes name event rest ahead other e = absurd (other name cc)
begins_of (node (characters u) ks) name event rest ahead other e = let is : event ≡ Characters u = cc in record { item = characters u; others = ks; nodes_are = refl; kind_is = ap event_kind (sym is); started = λ n a s kids x. absurd cc }
begins_of (node (cdata u) ks) name event rest ahead other e = let is : event ≡ CData u = cc in record { item = cdata u; others = ks; nodes_are = refl; kind_is = ap event_kind (sym is); started = λ n a s kids x. absurd cc }
begins_of (node (element m b r kids) ks) name event rest ahead other e = let is : event ≡ StartElement m b r = cc in record { item = element m b r kids; others = ks; nodes_are = refl; kind_is = ap event_kind (sym is); started = λ n a s inner x. is ∙ element_start x }

pub at_other : (old new : Cursor) (event : XmlEvent) (name : OwnedName) (nodes : Nodes) (rest : List XmlEvent) → ((m : OwnedName) → event ≡ EndElement m → ⊥) → WithinElement old name nodes rest → Took old new event → Begins event nodes
at_other old new event name nodes rest other a t = begins_of nodes name event rest new.ahead other (meets old new event name nodes rest a t)

-- no document starts or ends inside
starts_of : (nodes : Nodes) (name : OwnedName) (rest ahead : List XmlEvent) → events_of_all nodes ++ EndElement name ∷ rest ≡ StartDocument ∷ ahead → ⊥
starts_of no_nodes name rest ahead e = absurd cc
starts_of (node (characters u) ks) name rest ahead e = absurd cc
starts_of (node (cdata u) ks) name rest ahead e = absurd cc
starts_of (node (element m b r kids) ks) name rest ahead e = absurd cc

ends_of : (nodes : Nodes) (name : OwnedName) (rest ahead : List XmlEvent) → events_of_all nodes ++ EndElement name ∷ rest ≡ EndDocument ∷ ahead → ⊥
ends_of no_nodes name rest ahead e = absurd cc
ends_of (node (characters u) ks) name rest ahead e = absurd cc
ends_of (node (cdata u) ks) name rest ahead e = absurd cc
ends_of (node (element m b r kids) ks) name rest ahead e = absurd cc

pub at_document : (old new : Cursor) (name : OwnedName) (nodes : Nodes) (rest : List XmlEvent) → WithinElement old name nodes rest → Took old new StartDocument → ⊥
at_document old new name nodes rest a t = starts_of nodes name rest new.ahead (meets old new StartDocument name nodes rest a t)

pub at_document_end : (old new : Cursor) (name : OwnedName) (nodes : Nodes) (rest : List XmlEvent) → WithinElement old name nodes rest → Took old new EndDocument → ⊥
at_document_end old new name nodes rest a t = ends_of nodes name rest new.ahead (meets old new EndDocument name nodes rest a t)
