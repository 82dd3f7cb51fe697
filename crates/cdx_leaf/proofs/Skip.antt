-- Skipping what is left of an element: a depth, and how what follows unwinds.
use Rattle.std.proofs.Common.{◌≡◌, ℕ, zero, suc, ◌+◌, ◌-◌, List, [], ◌∷◌, ◌++◌, length, refl, ap, ◌∙◌, subst, arith, length-append, add-one}
use Rattle.cdx_events.specs.declared.name.OwnedName.{OwnedName}
use Rattle.cdx_events.specs.declared.name.OwnedAttribute.{OwnedAttribute}
use Rattle.cdx_events.specs.declared.name.Namespace.{Namespace}
use Rattle.cdx_events.specs.declared.event.XmlEvent.{XmlEvent}
use Rattle.cdx_events.specs.declared.event.XmlEvent.TheVariants.{StartDocument, EndDocument, StartElement, EndElement, Characters, CData}
use Rattle.cdx_events.specs.Nodes.{Node, Nodes, characters, cdata, element, no_nodes, node, events_of, events_of_all}
use Rattle.cdx_events.specs.Cursor.{Cursor}
use Rattle.cdx_schema.specs.Nodes.{places, places_of}
use Rattle.cdx_leaf.specs.Reading.{WithinElement, behind_end}
use Rattle.cdx_leaf.proofs.Steps.{Took, cursor_is, at_end, at_text, at_cdata, at_start, at_document, at_document_end}

mutual
  pub length_events : (k : Node) → length (events_of k) ≡ places k
  length_events (characters t) = refl
  length_events (cdata t) = refl
  length_events (element n a s kids) = omega (arith, length_all kids, length-append (events_of_all kids) (EndElement n ∷ []))

  pub length_all : (ks : Nodes) → length (events_of_all ks) ≡ places_of ks
  length_all no_nodes = refl
  length_all (node k ks) = omega (arith, length_events k, length_all ks, length-append (events_of k) (events_of_all ks))

-- the tail unwinds to the rest by this many ends
abbrev pub Unwinds : ℕ → List XmlEvent → List XmlEvent → Type 0
Unwinds zero tail rest = tail ≡ rest
Unwinds (suc d) tail rest = (ks : Nodes) × (n : OwnedName) × (deeper : List XmlEvent) × (tail ≡ events_of_all ks ++ EndElement n ∷ deeper) × Unwinds d deeper rest

pub record Skips (old c : Cursor) (depth : ℕ) (rest : List XmlEvent) : Type 0 where
  pub inner : OwnedName
  pub left : Nodes
  pub tail : List XmlEvent
  pub at : WithinElement c inner left tail
  pub unwinds : Unwinds depth tail rest
  pub total : c.place + length c.ahead ≡ old.place + length old.ahead

took_total : (old mid new : Cursor) (event : XmlEvent) → Took mid new event → mid.place + length mid.ahead ≡ old.place + length old.ahead → new.place + length new.ahead ≡ old.place + length old.ahead
took_total old mid new event t e =
    let l : length mid.ahead ≡ suc (length new.ahead) = ap length t.0 in
    omega (arith, t.1)

pub skips_start : (old mid new : Cursor) (depth : ℕ) (event : XmlEvent) (n : OwnedName) (a : List OwnedAttribute) (s : Namespace) (rest : List XmlEvent) → event ≡ StartElement n a s → Took mid new event → Skips old mid depth rest → Skips old new (depth + 1) rest
skips_start old mid new depth event n a s rest is took k =
    let e = at_start mid new event k.inner n a s k.left k.tail is k.at took in
    rw add-one (record { inner = n; left = e.kids; tail = events_of_all e.others ++ EndElement k.inner ∷ k.tail; at = e.stands.at; unwinds = (e.others, k.inner, k.tail, refl, k.unwinds); total = took_total old mid new event took k.total })

pub skips_end : (old mid new : Cursor) (depth : ℕ) (event : XmlEvent) (m : OwnedName) (rest : List XmlEvent) → event ≡ EndElement m → Took mid new event → Skips old mid (suc depth) rest → Skips old new depth rest
skips_end old mid new depth event m rest is took k =
    let e = at_end mid new event k.inner m k.left k.tail is k.at took in
    let u = k.unwinds in
    record { inner = u.1; left = u.0; tail = u.2; at = record { ahead = e.ahead ∙ u.3 }; unwinds = u.4; total = took_total old mid new event took k.total }

pub skips_up : (old mid new : Cursor) (depth : ℕ) (event : XmlEvent) (m : OwnedName) (rest : List XmlEvent) → (depth ≡ 0 → ⊥) → event ≡ EndElement m → Took mid new event → Skips old mid depth rest → Skips old new (depth - 1) rest
skips_up old mid new depth event m rest deep is took k =
    let e : depth ≡ suc (depth - 1) = omega arith in
    skips_end old mid new (depth - 1) event m rest is took (subst (λ d. Skips old mid d rest) e k)

pub skips_done : (old mid new : Cursor) (event : XmlEvent) (name m : OwnedName) (nodes : Nodes) (rest : List XmlEvent) → event ≡ EndElement m → Took mid new event → WithinElement old name nodes rest → Skips old mid 0 rest → new ≡ behind_end old nodes rest
skips_done old mid new event name m nodes rest is took a k =
    let e = at_end mid new event k.inner m k.left k.tail is k.at took in
    let ahead : new.ahead ≡ rest = e.ahead ∙ k.unwinds in
    let total = took_total old mid new event took k.total in
    let l : length new.ahead ≡ length rest = ap length ahead in
    let w : length old.ahead ≡ length (events_of_all nodes ++ EndElement name ∷ rest) = ap length a.ahead in
    cursor_is new (behind_end old nodes rest) (omega (arith, length_all nodes, length-append (events_of_all nodes) (EndElement name ∷ rest))) ahead

pub skips_other : (old mid new : Cursor) (depth : ℕ) (event : XmlEvent) (rest : List XmlEvent) → ((n : OwnedName) (a : List OwnedAttribute) (s : Namespace) → event ≡ StartElement n a s → ⊥) → ((m : OwnedName) → event ≡ EndElement m → ⊥) → Took mid new event → Skips old mid depth rest → Skips old new depth rest
skips_other old mid new depth StartDocument rest x y took k = absurd (at_document mid new k.inner k.left k.tail k.at took)
skips_other old mid new depth EndDocument rest x y took k = absurd (at_document_end mid new k.inner k.left k.tail k.at took)
skips_other old mid new depth (StartElement n a s) rest x y took k = absurd (x n a s refl)
skips_other old mid new depth (EndElement m) rest x y took k = absurd (y m refl)
skips_other old mid new depth (Characters t) rest x y took k =
    let f = at_text mid new (Characters t) k.inner t k.left k.tail refl k.at took in
    record { inner = k.inner; left = f.others; tail = k.tail; at = f.at; unwinds = k.unwinds; total = took_total old mid new (Characters t) took k.total }
skips_other old mid new depth (CData t) rest x y took k =
    let f = at_cdata mid new (CData t) k.inner t k.left k.tail refl k.at took in
    record { inner = k.inner; left = f.others; tail = k.tail; at = f.at; unwinds = k.unwinds; total = took_total old mid new (CData t) took k.total }
