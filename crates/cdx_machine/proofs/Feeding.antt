-- A machine that is fed the events of an element.
use Rattle.std.proofs.Common.{◌≡◌, ℕ, suc, ◌+◌, ◌≤◌, List, [], ◌∷◌, ◌++◌, length, Some, None, Result, Ok, Err, refl, sym, ap, ◌∙◌, subst, arith, append_assoc}
use Rattle.std.proofs.lemmas.List.{append-nil}
use Rattle.cdx_events.specs.declared.name.OwnedName.{OwnedName}
use Rattle.cdx_events.specs.declared.name.OwnedAttribute.{OwnedAttribute}
use Rattle.cdx_events.specs.declared.name.Namespace.{Namespace}
use Rattle.cdx_events.specs.declared.event.XmlEvent.{XmlEvent}
use Rattle.cdx_events.specs.declared.event.XmlEvent.TheVariants.{StartDocument, EndDocument, StartElement, EndElement, Characters, CData}
use Rattle.cdx_events.specs.Cursor.{Cursor}
use Rattle.cdx_events.specs.Nodes.{Node, element, Nodes, no_nodes, events_of, events_of_all}
use Rattle.cdx_events.proofs.Checks.{checks, checks_root, past_all, onto_all}
use Rattle.cdx_events.proofs.RootLaws.{one_root}
use Rattle.cdx_models.specs.declared.bom.SpecVersion.{SpecVersion}
use Rattle.cdx_models.specs.declared.errors.XmlReadError.{XmlReadError}
use Rattle.cdx_models.specs.declared.errors.XmlReadError.TheVariants.{ElementReadError, UnexpectedElementReadError, RequiredDataMissing, RequiredAttributeMissing, InvalidParseError, InvalidNamespaceError, TooDeep, Memory}
use Rattle.cdx_models.specs.Trees.{Tree}
use Rattle.cdx_schema.specs.Depth.{Depth}
use Rattle.cdx_schema.specs.Kinds.{Kind}
use Rattle.cdx_schema.specs.Locality.{fault_place}
use Rattle.cdx_schema.specs.Nodes.{places, places_of, ◌⊕◌}
use Rattle.cdx_schema.specs.Soon.{ends, BeginsElement}
use Rattle.cdx_schema.specs.XmlReading.{xread}
use Rattle.cdx_schema.proofs.Local.{element_local}
use Rattle.cdx_leaf.specs.Fault.{within, FailsAt}
use Rattle.cdx_leaf.specs.Reading.{Stands, Reads, behind_end}
use Rattle.cdx_leaf.proofs.Skip.{length_events}
use Rattle.cdx_leaf.proofs.Steps.{cursor_is}
use Rattle.cdx_schema.specs.XmlSpelling.{lone}
use Rattle.cdx_machine.specs.Begun.{Begun, innermost, around, start_name, so_far, count, ended_now, Next, still, whole, next, TakesEvent}
use Rattle.cdx_machine.specs.Machines.{Holding, RefusesBefore, Steps, StepsAs}
use Rattle.cdx_machine.specs.Feeding.{IsNoBill}
use Rattle.cdx_machine.proofs.Places.{one_on, counted, Counted}
use Rattle.cdx_machine.proofs.Yielding.{ended_with}
use Rattle.cdx_machine.proofs.Frames.{StaysNamed, keeps_name}
use Rattle.cdx_machine.proofs.Heard.{count_is, EventsAre, events_next, open_names, ended_events, begins_takes}

-- ---- an element's events are no front of another's

root_checks : (n : OwnedName) (a : List OwnedAttribute) (s : Namespace) (xs : Nodes) → checks_root (events_of (element n a s xs) ++ EndDocument ∷ [])
root_checks n a s xs = subst (λ es. checks (n ∷ []) es) (sym (append_assoc (events_of_all xs) (EndElement n ∷ []) (EndDocument ∷ []))) (onto_all xs n [] (EndElement n ∷ EndDocument ∷ []) (refl, refl))

root_tail : (n : OwnedName) (a : List OwnedAttribute) (s : Namespace) (xs : Nodes) (tail : List XmlEvent) → checks_root (events_of (element n a s xs) ++ tail) → checks [] tail
root_tail n a s xs tail h = (past_all xs n [] (EndElement n ∷ tail) (subst (λ es. checks (n ∷ []) es) (append_assoc (events_of_all xs) (EndElement n ∷ []) tail) h)).1

no_end : (hs tail : List XmlEvent) (j : OwnedName) → checks [] (hs ++ EndElement j ∷ tail) → ⊥
no_end [] tail j h = h
no_end (EndDocument ∷ []) tail j h = let wrong : EndElement j ∷ tail ≡ [] = h in cc
no_end (EndDocument ∷ x ∷ hs) tail j h = let wrong : x ∷ (hs ++ EndElement j ∷ tail) ≡ [] = h in cc
no_end (StartDocument ∷ hs) tail j h = h
no_end (StartElement m a s ∷ hs) tail j h = h
no_end (EndElement m ∷ hs) tail j h = h
no_end (Characters t ∷ hs) tail j h = h
no_end (CData t ∷ hs) tail j h = h

nothing_more : (hs : List XmlEvent) → checks [] (hs ++ EndDocument ∷ []) → hs ≡ []
nothing_more [] h = refl
nothing_more (EndDocument ∷ []) h = absurd (let wrong : EndDocument ∷ [] ≡ [] = h in cc)
nothing_more (EndDocument ∷ x ∷ hs) h = absurd (let wrong : x ∷ (hs ++ EndDocument ∷ []) ≡ [] = h in cc)
nothing_more (StartDocument ∷ hs) h = absurd h
nothing_more (StartElement m a s ∷ hs) h = absurd h
nothing_more (EndElement m ∷ hs) h = absurd h
nothing_more (Characters t ∷ hs) h = absurd h
nothing_more (CData t ∷ hs) h = absurd h

first_open : (o : Begun) → (j : OwnedName) × (js : List OwnedName) × (open_names o ≡ j ∷ js)
first_open (innermost n a s xs) = (n, [], refl)
first_open (around n a s xs o) = let f : (j : OwnedName) × (js : List OwnedName) × (open_names o ≡ j ∷ js) = first_open o in (f.0, f.1 ++ n ∷ [], ap (λ ns. ns ++ n ∷ []) f.2)

ended_checks : (o : Begun) → checks_root (events_of (ended_now o) ++ EndDocument ∷ [])
ended_checks (innermost n a s xs) = root_checks n a s xs
ended_checks (around n a s xs o) = root_checks n a s (xs ⊕ lone (ended_now o))

-- What is open holds no whole element from its start on.
not_past : (o : Begun) (n : OwnedName) (a : List OwnedAttribute) (s : Namespace) (xs : Nodes) (hs : List XmlEvent) → so_far o ≡ events_of (element n a s xs) ++ hs → ⊥
not_past o n a s xs hs e =
    let f : (j : OwnedName) × (js : List OwnedName) × (open_names o ≡ j ∷ js) = first_open o in
    let k : List XmlEvent = events_of (element n a s xs) in
    no_end hs (ends f.1 ++ EndDocument ∷ []) f.0
    (root_tail n a s xs (hs ++ EndElement f.0 ∷ (ends f.1 ++ EndDocument ∷ []))
    (subst checks_root
    (ap (λ es. es ++ EndDocument ∷ []) (sym (ended_events o) ∙ (ap (λ es. es ++ ends (open_names o)) e ∙ ap (λ ns. (k ++ hs) ++ ends ns) f.2))
    ∙ (append_assoc (k ++ hs) (ends (f.0 ∷ f.1)) (EndDocument ∷ []) ∙ append_assoc k hs (ends (f.0 ∷ f.1) ++ EndDocument ∷ [])))
    (ended_checks o)))

-- Lists that go on to the same: the one is a front of the other.
data Cut (xs r ys r' : List XmlEvent) : Type 0 where
  longer : (hs : List XmlEvent) → xs ≡ ys ++ hs → r' ≡ hs ++ r → Cut xs r ys r'
  shorter : (hs : List XmlEvent) → ys ≡ xs ++ hs → r ≡ hs ++ r' → Cut xs r ys r'

cut_more : (x y : XmlEvent) (xs r ys r' : List XmlEvent) → x ≡ y → Cut xs r ys r' → Cut (x ∷ xs) r (y ∷ ys) r'
cut_more x y xs r ys r' e (longer hs f g) = longer hs (rw (e, f) refl) g
cut_more x y xs r ys r' e (shorter hs f g) = shorter hs (rw (e, f) refl) g

cut : (xs r ys r' : List XmlEvent) → xs ++ r ≡ ys ++ r' → Cut xs r ys r'
cut [] r ys r' h = shorter ys refl h
cut (x ∷ xs) r [] r' h = longer (x ∷ xs) refl (sym h)
cut (x ∷ xs) r (y ∷ ys) r' h = let a : x ≡ y = cc in let b : xs ++ r ≡ ys ++ r' = cc in cut_more x y xs r ys r' a (cut xs r ys r' b)

-- Two elements with the same events and the same after them are one.
same_element : (n m : OwnedName) (a b : List OwnedAttribute) (s z : Namespace) (xs ys : Nodes) (r r' : List XmlEvent) → events_of (element n a s xs) ++ r ≡ events_of (element m b z ys) ++ r' → (element n a s xs ≡ element m b z ys) × (r ≡ r')
same_element n m a b s z xs ys r r' h = by (cut (events_of (element n a s xs)) r (events_of (element m b z ys)) r' h)
  where
    equal : events_of (element n a s xs) ≡ events_of (element m b z ys) → element n a s xs ≡ element m b z ys
    equal e = let o : (n ≡ m) × (a ≡ b) × (s ≡ z) × (xs ≡ ys) = one_root n m a b s z xs ys (ap (λ es. StartDocument ∷ es ++ EndDocument ∷ []) e) in rw (o.0, o.1, o.2, o.3) refl

    by : Cut (events_of (element n a s xs)) r (events_of (element m b z ys)) r' → (element n a s xs ≡ element m b z ys) × (r ≡ r')
    by (longer hs f g) =
        let none : hs ≡ [] = nothing_more hs (root_tail m b z ys (hs ++ EndDocument ∷ []) (subst checks_root (ap (λ es. es ++ EndDocument ∷ []) f ∙ append_assoc (events_of (element m b z ys)) hs (EndDocument ∷ [])) (root_checks n a s xs))) in
        (equal (f ∙ (ap (λ es. events_of (element m b z ys) ++ es) none ∙ append-nil (events_of (element m b z ys)))), sym (g ∙ ap (λ es. es ++ r) none))
    by (shorter hs f g) =
        let none : hs ≡ [] = nothing_more hs (root_tail n a s xs (hs ++ EndDocument ∷ []) (subst checks_root (ap (λ es. es ++ EndDocument ∷ []) f ∙ append_assoc (events_of (element n a s xs)) hs (EndDocument ∷ [])) (root_checks m b z ys))) in
        (equal (sym (f ∙ (ap (λ es. events_of (element n a s xs) ++ es) none ∙ append-nil (events_of (element n a s xs))))), g ∙ ap (λ es. es ++ r') none)

-- ---- the loop

-- The machine keeps the events before c of an element whose start stands at place p.
pub record Feeding {M : Type 0} (holds : Holding M) (v : SpecVersion) (n : OwnedName) (a : List OwnedAttribute) (s : Namespace) (p : ℕ) (nodes : Nodes) (rest : List XmlEvent) (d : Depth) (c : Cursor) (m : M) : Type 0 where
  pub o : Begun
  pub held : holds m v p d o
  pub at : c.place ≡ p + count o
  pub ahead : so_far o ++ c.ahead ≡ events_of (element n a s nodes) ++ rest

-- It keeps the element's start.
pub feeds_first : {M : Type 0} (holds : Holding M) (v : SpecVersion) (n : OwnedName) (a : List OwnedAttribute) (s : Namespace) (p : ℕ) (nodes : Nodes) (rest : List XmlEvent) (d : Depth) (c : Cursor) (m : M) → Stands c n p nodes rest → holds m v p d (innermost n a s no_nodes) → Feeding holds v n a s p nodes rest d c m
feeds_first holds v n a s p nodes rest d c m st h =
    record { o = innermost n a s no_nodes; held = h; at = st.place ∙ one_on p; ahead = ap (λ es. StartElement n a s ∷ es) (st.at.ahead ∙ sym (append_assoc (events_of_all nodes) (EndElement n ∷ []) rest)) }

begun_not : (o : Begun) (event : XmlEvent) → so_far o ++ event ∷ [] ≡ [] → ⊥
begun_not (innermost n a s xs) event e = cc
begun_not (around n a s xs o) event e = cc

module _ {M : Type 0} (holds : Holding M) (v : SpecVersion) (n : OwnedName) (a : List OwnedAttribute) (s : Namespace) (p : ℕ) (nodes : Nodes) (rest : List XmlEvent) (d : Depth) (c c' : Cursor) (event : XmlEvent) (took : c.ahead ≡ event ∷ c'.ahead) (moved : c'.place ≡ c.place + 1) where
  -- the event goes on with the element
  pub feeds_takes : (m : M) (f : Feeding holds v n a s p nodes rest d c m) → TakesEvent f.o event
  feeds_takes m f = begins_takes f.o event (by (cut (so_far f.o) (event ∷ c'.ahead) (events_of (element n a s nodes)) rest (ap (λ es. so_far f.o ++ es) (sym took) ∙ f.ahead)))
    where
      inside : (hs : List XmlEvent) → events_of (element n a s nodes) ≡ so_far f.o ++ hs → event ∷ c'.ahead ≡ hs ++ rest → BeginsElement (so_far f.o ++ event ∷ [])
      inside [] e g = absurd (not_past f.o n a s nodes [] (sym (append-nil (so_far f.o)) ∙ (sym e ∙ sym (append-nil (events_of (element n a s nodes))))))
      inside (h ∷ hs) e g =
          let same : event ≡ h = cc in
          record { begun = begun_not f.o event; name = n; attributes = a; namespace = s; nodes = nodes; rest = hs; whole = append_assoc (so_far f.o) (event ∷ []) hs ∙ (ap (λ (x : XmlEvent). so_far f.o ++ x ∷ hs) same ∙ sym e) }

      by : Cut (so_far f.o) (event ∷ c'.ahead) (events_of (element n a s nodes)) rest → BeginsElement (so_far f.o ++ event ∷ [])
      by (longer hs e g) = absurd (not_past f.o n a s nodes hs e)
      by (shorter hs e g) = inside hs e g

  still_ahead : (m : M) (f : Feeding holds v n a s p nodes rest d c m) → (so_far f.o ++ event ∷ []) ++ c'.ahead ≡ events_of (element n a s nodes) ++ rest
  still_ahead m f = append_assoc (so_far f.o) (event ∷ []) c'.ahead ∙ (ap (λ es. so_far f.o ++ es) (sym took) ∙ f.ahead)

  -- it is open still
  pub feeds_on : {X : Type 0} (view : X → Tree) (kind : Kind) (m m' : M) (place : ℕ) (f : Feeding holds v n a s p nodes rest d c m) → place ≡ c.place → StepsAs holds view kind m m' place event (Ok None) → Feeding holds v n a s p nodes rest d c' m'
  feeds_on view kind m m' place f at steps =
      by (next f.o event) (events_next f.o event t) (counted f.o event t) (steps v p d f.o f.held (at ∙ f.at) t)
    where
      t : TakesEvent f.o event
      t = feeds_takes m f

      by : (x : Next) → EventsAre (so_far f.o ++ event ∷ []) x → Counted (suc (count f.o)) x → Steps (λ o. holds m' v p d o) view (λ k. xread k v kind p d) p x (Ok None) → Feeding holds v n a s p nodes rest d c' m'
      by (still o) es ct h = record { o = o; held = h.0; at = omega (arith, moved, f.at, ct); ahead = ap (λ es. es ++ c'.ahead) es ∙ still_ahead m f }
      by (whole k) es ct h = absurd h

-- an event always comes
pub feeds_never : {M : Type 0} (holds : Holding M) (v : SpecVersion) (n : OwnedName) (a : List OwnedAttribute) (s : Namespace) (p : ℕ) (nodes : Nodes) (rest : List XmlEvent) (d : Depth) (c : Cursor) (m : M) → Feeding holds v n a s p nodes rest d c m → c.ahead ≡ [] → ⊥
feeds_never holds v n a s p nodes rest d c m f e = not_past f.o n a s nodes rest (sym (append-nil (so_far f.o)) ∙ (ap (λ es. so_far f.o ++ es) (sym e) ∙ f.ahead))

-- ---- the answers

within_at : (e : XmlReadError) (place : ℕ) → suc (fault_place e) ≡ place → within place e
within_at (UnexpectedElementReadError p el found) place h = omega (arith, h)
within_at (RequiredDataMissing p el name) place h = omega (arith, h)
within_at (InvalidParseError p el value type) place h = omega (arith, h)
within_at (TooDeep p) place h = omega (arith, h)
within_at (ElementReadError kind p) place h = tt
within_at (RequiredAttributeMissing p el name) place h = tt
within_at (InvalidNamespaceError expected actual) place h = tt
within_at (Memory m) place h = tt

-- A fault of an element that begins with these events is the fault of every element that does.
pub feed_fails : (kind : Kind) (v : SpecVersion) (p : ℕ) (d : Depth) (e : XmlReadError) (es r r' rest rest' : List XmlEvent) (x k : Node) (place : ℕ) → IsNoBill kind → events_of x ++ r ≡ es ++ rest → events_of k ++ r' ≡ es ++ rest' → place ≡ p + length es → RefusesBefore e place (xread x v kind p d) → FailsAt e place (xread k v kind p d)
feed_fails kind v p d (Memory m) es r r' rest rest' x k place nb f g at h = tt
feed_fails kind v p d e es r r' rest rest' x k place nb f g at h = (element_local es rest rest' r r' x k v kind p d e nb f g (omega (arith, at, h.1)) h.0, within_at e place h.1)

-- A start that is refused refuses the element.
pub feeds_refused : {X : Type 0} (view : X → Tree) (kind : Kind) (v : SpecVersion) (n : OwnedName) (a : List OwnedAttribute) (s : Namespace) (p : ℕ) (nodes : Nodes) (rest : List XmlEvent) (d : Depth) (c end : Cursor) (e : XmlReadError) → IsNoBill kind → Stands c n p nodes rest → RefusesBefore e (p + 1) (xread (element n a s no_nodes) v kind p d)
    → Reads view c c end (xread (element n a s nodes) v kind p d) (Err e)
feeds_refused view kind v n a s p nodes rest d c end e nb st h = (
  same c.place,
  subst (λ (i : ℕ). FailsAt e i (xread (element n a s nodes) v kind p d)) (sym (st.place ∙ one_on p))
      (feed_fails kind v p d e (StartElement n a s ∷ []) [] rest (EndElement n ∷ []) (events_of_all nodes ++ EndElement n ∷ rest) (element n a s no_nodes) (element n a s nodes) (p + 1) nb refl (ap (λ es. StartElement n a s ∷ es) (append_assoc (events_of_all nodes) (EndElement n ∷ []) rest)) refl h),
)
  where
    same : (i : ℕ) → i ≤ i
    same i = omega arith

module _ {M X : Type 0} (holds : Holding M) (view : X → Tree) (kind : Kind) (v : SpecVersion) (n : OwnedName) (a : List OwnedAttribute) (s : Namespace) (p : ℕ) (nodes : Nodes) (rest : List XmlEvent) (d : Depth) (old c c' : Cursor) (event : XmlEvent) (took : c.ahead ≡ event ∷ c'.ahead) (moved : c'.place ≡ c.place + 1) (m m' : M) (place : ℕ) (f : Feeding holds v n a s p nodes rest d c m) (st : Stands old n p nodes rest) (is : place ≡ c.place) where
  went : TakesEvent f.o event
  went = feeds_takes holds v n a s p nodes rest d c c' event took moved m f

  goes : (so_far f.o ++ event ∷ []) ++ c'.ahead ≡ events_of (element n a s nodes) ++ rest
  goes = still_ahead holds v n a s p nodes rest d c c' event took moved m f

  grown : (k : ℕ) → c'.place ≡ p + suc k → old.place ≤ c'.place
  grown k e = omega (arith, e, st.place)

  -- the fault of the element
  pub feeds_fails : (end : Cursor) (e : XmlReadError) → IsNoBill kind → StepsAs holds view kind m m' place event (Err e) → Reads view old c' end (xread (element n a s nodes) v kind p d) (Err e)
  feeds_fails end e nb steps = by (next f.o event) (events_next f.o event went) (counted f.o event went) (steps v p d f.o f.held (is ∙ f.at) went)
    where
      at : (k : ℕ) → k ≡ suc (count f.o) → c'.place ≡ p + k
      at k e = omega (arith, moved, f.at, e)

      by : (x : Next) → EventsAre (so_far f.o ++ event ∷ []) x → Counted (suc (count f.o)) x → Steps (λ o. holds m' v p d o) view (λ k. xread k v kind p d) p x (Err e) → Reads view old c' end (xread (element n a s nodes) v kind p d) (Err e)
      by (still o) es ct h = (
        grown (count f.o) (at (suc (count f.o)) refl),
        subst (λ (i : ℕ). FailsAt e i (xread (element n a s nodes) v kind p d)) (sym (at (count o) ct))
            (feed_fails kind v p d e (so_far o) [] rest (ends (open_names o)) c'.ahead (ended_now o) (element n a s nodes) (p + count o) nb (append-nil (events_of (ended_now o)) ∙ sym (ended_events o)) (sym goes ∙ ap (λ es. es ++ c'.ahead) (sym es)) (ap (λ i. p + i) (sym (count_is o))) h),
      )
      by (whole x) es ct h = (
        grown (count f.o) (at (suc (count f.o)) refl),
        subst (λ (i : ℕ). FailsAt e i (xread (element n a s nodes) v kind p d)) (sym (at (places x) ct))
            (feed_fails kind v p d e (events_of x) [] rest [] c'.ahead x (element n a s nodes) (p + places x) nb refl (sym goes ∙ ap (λ es. es ++ c'.ahead) (sym es)) (ap (λ i. p + i) (sym (length_events x))) h),
      )

  -- the element has ended
  pub feeds_done : (x : X) → StepsAs holds view kind m m' place event (Ok (Some x)) → Reads view old c' (behind_end old nodes rest) (xread (element n a s nodes) v kind p d) (Ok x)
  feeds_done x steps = by (next f.o event) (events_next f.o event went) (keeps_name f.o event) (counted f.o event went) (steps v p d f.o f.held (is ∙ f.at) went)
    where
      at_end : (k : ℕ) → k ≡ suc (count f.o) → k ≡ suc (suc (places_of nodes)) → c'.place ≡ old.place + places_of nodes + 1
      at_end k e g = omega (arith, moved, f.at, st.place, e, g)

      by : (o : Next) → EventsAre (so_far f.o ++ event ∷ []) o → StaysNamed (start_name f.o) o → Counted (suc (count f.o)) o → Steps (λ o. holds m' v p d o) view (λ k. xread k v kind p d) p o (Ok (Some x)) → Reads view old c' (behind_end old nodes rest) (xread (element n a s nodes) v kind p d) (Ok x)
      by (still o) es kn ct h = absurd h
      by (whole k) es kn ct h =
          let q : (element (start_name f.o) kn.0 kn.1 kn.2 ≡ element n a s nodes) × (c'.ahead ≡ rest) = same_element (start_name f.o) n kn.0 a kn.1 s kn.2 nodes c'.ahead rest (ap (λ es. es ++ c'.ahead) (ap events_of (sym kn.3) ∙ es) ∙ goes) in
          let k_is : k ≡ element n a s nodes = kn.3 ∙ q.0 in
          (ap (λ (z : Node). xread z v kind p d) (sym k_is) ∙ h, cursor_is c' (behind_end old nodes rest) (at_end (places k) ct (ap places k_is)) q.1)

  -- with its value or with its fault
  pub feeds_ends : (r : Result X XmlReadError) → IsNoBill kind → StepsAs holds view kind m m' place event (ended_with r) → Reads view old c' (behind_end old nodes rest) (xread (element n a s nodes) v kind p d) r
  feeds_ends (Ok x) nb steps = feeds_done x steps
  feeds_ends (Err e) nb steps = feeds_fails (behind_end old nodes rest) e nb steps
