-- Events that begin an element, and the soonest fault in them.
use Rattle.std.proofs.Common.{◌≡◌, ℕ, suc, ◌+◌, ◌≤◌, nat_lt, List, [], ◌∷◌, ◌++◌, length, true, false, Option, Some, None, Result, Ok, Err, refl, sym, ap, ◌∙◌, subst, arith, append_assoc, length-append}
use Rattle.std.specs.Prelude.{if◌then◌else◌}
use Rattle.std.proofs.lemmas.List.{append-nil}
use Rattle.cdx_events.specs.declared.name.OwnedName.{OwnedName}
use Rattle.cdx_events.specs.declared.name.OwnedAttribute.{OwnedAttribute}
use Rattle.cdx_events.specs.declared.name.Namespace.{Namespace}
use Rattle.cdx_events.specs.declared.event.XmlEvent.{XmlEvent}
use Rattle.cdx_events.specs.declared.event.XmlEvent.TheVariants.{StartDocument, EndDocument, StartElement, EndElement, Characters, CData}
use Rattle.cdx_events.specs.Nodes.{Node, characters, cdata, element, Nodes, no_nodes, node, events_of, events_of_all}
use Rattle.cdx_events.proofs.Checks.{checks, past_all, onto}
use Rattle.cdx_models.specs.declared.bom.SpecVersion.{SpecVersion}
use Rattle.cdx_models.specs.declared.errors.XmlReadError.{XmlReadError}
use Rattle.cdx_models.specs.declared.errors.XmlReadError.TheVariants.{Memory}
use Rattle.cdx_models.specs.Trees.{Tree}
use Rattle.cdx_schema.specs.Depth.{Depth}
use Rattle.cdx_schema.specs.Kinds.{Kind}
use Rattle.cdx_schema.specs.Locality.{fault_place}
use Rattle.cdx_schema.specs.Nodes.{places, places_of, ◌⊕◌}
use Rattle.cdx_schema.specs.Soon.{ends, BeginsElement, IsElement, fault_below, IsSoon}
use Rattle.cdx_schema.specs.XmlReading.{xread}
use Rattle.cdx_leaf.proofs.Skip.{length_events, length_all}
use Rattle.cdx_schema.specs.XmlSpelling.{lone}
use Rattle.cdx_machine.specs.Begun.{Begun, innermost, around, start_name, so_far, count, ended_now, Next, still, whole, into, next_inside, next, TakesInside, TakesEvent}
use Rattle.cdx_machine.specs.Machines.{Holding, RefusesBefore, IsQuiet, Steps, StepsAs, CanStep, StartsAs, Opens}
use Rattle.cdx_machine.specs.Heard.{Hears, IsRead, RefusesSoon, Answers, OpensAs}
use Rattle.cdx_machine.proofs.Places.{one_on, counted, Counted}
use Rattle.cdx_machine.proofs.Frames.{IsNamed, ended_named, StaysNamed, keeps_name}

-- ---- events

pub count_is : (o : Begun) → length (so_far o) ≡ count o
count_is (innermost n a s xs) = ap suc (length_all xs)
count_is (around n a s xs o) = ap suc (length-append (events_of_all xs) (so_far o) ∙ (ap (λ k. k + length (so_far o)) (length_all xs) ∙ ap (λ k. places_of xs + k) (count_is o)))

events_more : (xs : Nodes) (k : Node) → events_of_all (xs ⊕ lone k) ≡ events_of_all xs ++ events_of k
events_more no_nodes k = append-nil (events_of k)
events_more (node j xs) k = ap (λ es. events_of j ++ es) (events_more xs k) ∙ sym (append_assoc (events_of j) (events_of_all xs) (events_of k))

-- the events with one more
abbrev pub EventsAre : List XmlEvent → Next → Type 0
EventsAre es (still o) = so_far o ≡ es
EventsAre es (whole k) = events_of k ≡ es

inside_events : (n : OwnedName) (a : List OwnedAttribute) (s : Namespace) (xs : Nodes) (event : XmlEvent) → TakesInside n event → EventsAre (StartElement n a s ∷ events_of_all xs ++ event ∷ []) (next_inside n a s xs event)
inside_events n a s xs StartDocument t = absurd t
inside_events n a s xs EndDocument t = absurd t
inside_events n a s xs (StartElement m b r) t = refl
inside_events n a s xs (EndElement m) t = ap (λ (k : OwnedName). StartElement n a s ∷ events_of_all xs ++ EndElement k ∷ []) t
inside_events n a s xs (Characters u) t = ap (λ es. StartElement n a s ∷ es) (events_more xs (characters u))
inside_events n a s xs (CData u) t = ap (λ es. StartElement n a s ∷ es) (events_more xs (cdata u))

into_events : (n : OwnedName) (a : List OwnedAttribute) (s : Namespace) (xs : Nodes) (es : List XmlEvent) (o : Next) → EventsAre es o → EventsAre (StartElement n a s ∷ events_of_all xs ++ es) (into n a s xs o)
into_events n a s xs es (still o) h = ap (λ es. StartElement n a s ∷ events_of_all xs ++ es) h
into_events n a s xs es (whole k) h = ap (λ es. StartElement n a s ∷ es) (events_more xs k ∙ ap (λ es. events_of_all xs ++ es) h)

pub events_next : (o : Begun) (event : XmlEvent) → TakesEvent o event → EventsAre (so_far o ++ event ∷ []) (next o event)
events_next (innermost n a s xs) event t = inside_events n a s xs event t
events_next (around n a s xs o) event t =
    subst (λ es. EventsAre es (into n a s xs (next o event))) (ap (λ es. StartElement n a s ∷ es) (sym (append_assoc (events_of_all xs) (so_far o) (event ∷ [])))) (into_events n a s xs (so_far o ++ event ∷ []) (next o event) (events_next o event t))

-- ---- ends

-- the names of the open elements, the innermost first
abbrev pub open_names : Begun → List OwnedName
open_names (innermost n a s xs) = n ∷ []
open_names (around n a s xs o) = open_names o ++ n ∷ []

ends_more : (ns : List OwnedName) (n : OwnedName) → ends (ns ++ n ∷ []) ≡ ends ns ++ EndElement n ∷ []
ends_more [] n = refl
ends_more (m ∷ ns) n = ap (λ es. EndElement m ∷ es) (ends_more ns n)

pub ended_events : (o : Begun) → so_far o ++ ends (open_names o) ≡ events_of (ended_now o)
ended_events (innermost n a s xs) = refl
ended_events (around n a s xs o) =
    ap (λ es. StartElement n a s ∷ es)
    (append_assoc (events_of_all xs) (so_far o) (ends (open_names o ++ n ∷ []))
    ∙ (ap (λ es. events_of_all xs ++ (so_far o ++ es)) (ends_more (open_names o) n)
    ∙ (ap (λ es. events_of_all xs ++ es) (sym (append_assoc (so_far o) (ends (open_names o)) (EndElement n ∷ [])))
    ∙ (ap (λ es. events_of_all xs ++ (es ++ EndElement n ∷ [])) (ended_events o)
    ∙ (sym (append_assoc (events_of_all xs) (events_of (ended_now o)) (EndElement n ∷ [])) ∙ ap (λ es. es ++ EndElement n ∷ []) (sym (events_more xs (ended_now o))))))))

-- ---- which events go on

takes_inside : (n : OwnedName) (stack : List OwnedName) (event : XmlEvent) (es : List XmlEvent) → checks (n ∷ stack) (event ∷ es) → TakesInside n event
takes_inside n stack StartDocument es h = h
takes_inside n stack EndDocument es h = h
takes_inside n stack (StartElement m b r) es h = tt
takes_inside n stack (EndElement m) es h = h.0
takes_inside n stack (Characters t) es h = tt
takes_inside n stack (CData t) es h = tt

takes_by : (o : Begun) (m : OwnedName) (stack : List OwnedName) (event : XmlEvent) (es : List XmlEvent) → checks (m ∷ stack) (so_far o ++ event ∷ es) → TakesEvent o event
takes_by (innermost n a s xs) m stack event es h = takes_inside n (m ∷ stack) event es (past_all xs n (m ∷ stack) (event ∷ es) h)
takes_by (around n a s xs o) m stack event es h =
    takes_by o n (m ∷ stack) event es (past_all xs n (m ∷ stack) (so_far o ++ event ∷ es) (subst (λ fs. checks (n ∷ m ∷ stack) fs) (append_assoc (events_of_all xs) (so_far o) (event ∷ es)) h))

whole_checks : (n : OwnedName) (k : Node) → checks (n ∷ []) (events_of k ++ EndElement n ∷ EndDocument ∷ [])
whole_checks n k = onto k n [] (EndElement n ∷ EndDocument ∷ []) (refl, refl)

-- An event takes the element on where the events of one element begin with it.
pub begins_takes : (o : Begun) (event : XmlEvent) → BeginsElement (so_far o ++ event ∷ []) → TakesEvent o event
begins_takes o event b =
    let n = b.name in
    let k = element n b.attributes b.namespace b.nodes in
    takes_by o n [] event (b.rest ++ EndElement n ∷ EndDocument ∷ [])
    (subst (λ es. checks (n ∷ []) es) (ap (λ es. es ++ EndElement n ∷ EndDocument ∷ []) (sym b.whole) ∙ (append_assoc (so_far o ++ event ∷ []) b.rest (EndElement n ∷ EndDocument ∷ []) ∙ append_assoc (so_far o) (event ∷ []) (b.rest ++ EndElement n ∷ EndDocument ∷ []))) (whole_checks n k))

still_open : (o : Begun) (m l : OwnedName) (stack : List OwnedName) → checks (m ∷ stack) (so_far o ++ EndElement l ∷ EndDocument ∷ []) → ⊥
still_open (innermost n a s xs) m l stack h = (past_all xs n (m ∷ stack) (EndElement l ∷ EndDocument ∷ []) h).1
still_open (around n a s xs o) m l stack h =
    still_open o n l (m ∷ stack) (past_all xs n (m ∷ stack) (so_far o ++ EndElement l ∷ EndDocument ∷ []) (subst (λ fs. checks (n ∷ m ∷ stack) fs) (append_assoc (events_of_all xs) (so_far o) (EndElement l ∷ EndDocument ∷ [])) h))

-- What is open isn't a whole element.
pub not_whole : (o : Begun) (events : List XmlEvent) → so_far o ≡ events → IsElement events → ⊥
not_whole o events e i =
    still_open o i.name i.name [] (subst (λ es. checks (i.name ∷ []) (es ++ EndElement i.name ∷ EndDocument ∷ [])) (sym (e ∙ i.whole)) (whole_checks i.name (element i.name i.attributes i.namespace i.nodes)))

-- ---- the soonest fault

below_is : (n m : ℕ) → suc n ≡ m → nat_lt n m ≡ true
below_is n m h = grind (arith, h)

not_below : (n m : ℕ) → m ≤ n → nat_lt n m ≡ false
not_below n m h = grind (arith, h)

pub quiet_none : (q : ℕ) (r : Result Tree XmlReadError) → IsQuiet q r → fault_below q r ≡ None
quiet_none q (Ok t) h = refl
quiet_none q (Err f) h = ap (λ b. if b then Some f else None) (not_below (fault_place f) q (h f refl))

refuses_some : (e : XmlReadError) (q : ℕ) (r : Result Tree XmlReadError) → r ≡ Err e → suc (fault_place e) ≡ q → fault_below q r ≡ Some e
refuses_some e q r h i = ap (fault_below q) h ∙ ap (λ b. if b then Some e else None) (below_is (fault_place e) q i)

pub refuses_soon : (e : XmlReadError) (q place : ℕ) (r : Result Tree XmlReadError) → suc place ≡ q → RefusesBefore e q r → RefusesSoon e place (fault_below q r)
refuses_soon (Memory m) q place r is h = tt
refuses_soon e q place r is h = (refuses_some _ q r h.0 h.1, same (h.1 ∙ sym is))
  where
    same : {i j : ℕ} → suc i ≡ suc j → i ≡ j
    same e = omega (arith, e)

pub soon_of : (v : SpecVersion) (k : Kind) (p : ℕ) (d : Depth) (o : Begun) (events : List XmlEvent) → so_far o ≡ events → IsSoon v k events p d (fault_below (p + count o) (xread (ended_now o) v k p d))
soon_of v k p d o events is =
    let n : IsNamed (start_name o) (ended_now o) = ended_named o in
    record {
      ended = record { name = start_name o; attributes = n.0; namespace = n.1; nodes = n.2; still_open = open_names o; whole = ap (λ es. es ++ ends (open_names o)) (sym is) ∙ (ended_events o ∙ ap events_of n.3) };
      is = ap (λ (x : Node). fault_below (p + count o) (xread x v k p d)) n.3 ∙ ap (λ i. fault_below (p + i) (xread (element (start_name o) n.0 n.1 n.2) v k p d)) (sym (count_is o) ∙ ap length is);
    }

soon_whole : (v : SpecVersion) (k : Kind) (p : ℕ) (d : Depth) (x : Node) (n : OwnedName) (events : List XmlEvent) → IsNamed n x → events_of x ≡ events → IsSoon v k events p d (fault_below (p + places x) (xread x v k p d))
soon_whole v k p d x n events i is =
    record {
      ended = record { name = n; attributes = i.0; namespace = i.1; nodes = i.2; still_open = []; whole = append-nil events ∙ (sym is ∙ ap events_of i.3) };
      is = ap (λ (y : Node). fault_below (p + places x) (xread y v k p d)) i.3 ∙ ap (λ j. fault_below (p + j) (xread (element n i.0 i.1 i.2) v k p d)) (sym (length_events x) ∙ ap length is);
    }

-- a value has no fault
value_none : (q : ℕ) (r : Result Tree XmlReadError) (t : Tree) → r ≡ Ok t → fault_below q r ≡ None
value_none q r t h = ap (fault_below q) h

-- ---- a machine's answers

-- the place right after the events
abbrev AtPlace : ℕ → ℕ → Next → Type 0
AtPlace p q (still o) = p + count o ≡ q
AtPlace p q (whole x) = p + places x ≡ q

by_next : {X : Type 0} (held : Begun → Type 0) (view : X → Tree) (v : SpecVersion) (k : Kind) (p : ℕ) (d : Depth) (place : ℕ) (n : OwnedName) (events : List XmlEvent) (o : Next) (r : Result (Option X) XmlReadError) → EventsAre events o → StaysNamed n o → AtPlace p (suc place) o
    → Steps held view (λ x. xread x v k p d) p o r → Answers (Hears held) view v k p d place events r
by_next held view v k p d place n events (still o) (Ok None) es kn ct h = record { soon = fault_below (p + count o) (xread (ended_now o) v k p d); is_soon = soon_of v k p d o events es; answers = (quiet_none (p + count o) _ h.1, (λ i. not_whole o events es i), record { o = o; held = h.0; events_are = es }) }
by_next held view v k p d place n events (still o) (Ok (Some x)) es kn ct h = absurd h
by_next held view v k p d place n events (still o) (Err e) es kn ct h = record { soon = fault_below (p + count o) (xread (ended_now o) v k p d); is_soon = soon_of v k p d o events es; answers = refuses_soon e (p + count o) place _ (sym ct) h }
by_next held view v k p d place n events (whole x) (Ok None) es kn ct h = absurd h
by_next held view v k p d place n events (whole x) (Ok (Some y)) es kn ct h =
    record { soon = fault_below (p + places x) (xread x v k p d); is_soon = soon_whole v k p d x n events kn es; answers = (value_none (p + places x) _ (view y) h, record { name = n; attributes = kn.0; namespace = kn.1; nodes = kn.2; whole = sym es ∙ ap events_of kn.3; reads = ap (λ (z : Node). xread z v k p d) (sym kn.3) ∙ h }) }
by_next held view v k p d place n events (whole x) (Err e) es kn ct h = record { soon = fault_below (p + places x) (xread x v k p d); is_soon = soon_whole v k p d x n events kn es; answers = refuses_soon e (p + places x) place _ (sym ct) h }

-- What is promised of one event, promised of all events so far.
pub answers_step : {M X : Type 0} (holds : Holding M) (view : X → Tree) (k : Kind) (old new : M) (place : ℕ) (event : XmlEvent) (r : Result (Option X) XmlReadError) (v : SpecVersion) (p : ℕ) (d : Depth) (heard : List XmlEvent) → StepsAs holds view k old new place event r
    → Hears (λ o. holds old v p d o) heard → place ≡ p + length heard → BeginsElement (heard ++ event ∷ []) → Answers (Hears (λ o. holds new v p d o)) view v k p d place (heard ++ event ∷ []) r
answers_step holds view k old new place event r v p d heard steps h is b =
    let at : place ≡ p + count h.o = is ∙ ap (λ i. p + i) (sym (ap length h.events_are) ∙ count_is h.o) in
    let t : TakesEvent h.o event = begins_takes h.o event (subst (λ es. BeginsElement (es ++ event ∷ [])) (sym h.events_are) b) in
    by_next (λ o. holds new v p d o) view v k p d place (start_name h.o) (heard ++ event ∷ []) (next h.o event) r (subst (λ es. EventsAre (es ++ event ∷ []) (next h.o event)) h.events_are (events_next h.o event t)) (keeps_name h.o event)
    (ends_at (next h.o event) (counted h.o event t) at) (steps v p d h.o h.held at t)
  where
    one_more : (i : ℕ) → place ≡ p + i → p + suc i ≡ suc place
    one_more i e = omega (arith, e)

    ends_at : (o : Next) → Counted (suc (count h.o)) o → place ≡ p + count h.o → AtPlace p (suc place) o
    ends_at (still o) c e = ap (λ i. p + i) c ∙ one_more (count h.o) e
    ends_at (whole x) c e = ap (λ i. p + i) c ∙ one_more (count h.o) e

-- the events that a machine can step over
pub can_step : {M : Type 0} (holds : Holding M) (m : M) (place : ℕ) (event : XmlEvent) (v : SpecVersion) (p : ℕ) (d : Depth) (heard : List XmlEvent) → Hears (λ o. holds m v p d o) heard → place ≡ p + length heard → BeginsElement (heard ++ event ∷ []) → CanStep holds m place event
can_step holds m place event v p d heard h is b =
    record { v = v; p = p; d = d; o = h.o; held = h.held; place_is = is ∙ ap (λ i. p + i) (sym (ap length h.events_are) ∙ count_is h.o); takes = begins_takes h.o event (subst (λ es. BeginsElement (es ++ event ∷ [])) (sym h.events_are) b) }

-- an element's start at one depth
pub answers_open : {M : Type 0} (holds : Holding M) (k : Kind) (v : SpecVersion) (p : ℕ) (d : Depth) (n : OwnedName) (a : List OwnedAttribute) (s : Namespace) (r : Result M XmlReadError) → Opens (λ m o. holds m v p d o) (λ x. xread x v k p d) p (innermost n a s no_nodes) r
    → OpensAs (λ m es. Hears (λ o. holds m v p d o) es) v k p d (StartElement n a s ∷ []) r
answers_open holds k v p d n a s (Ok m) h = record { soon = fault_below (p + 1) (xread (element n a s no_nodes) v k p d); is_soon = soon_of v k p d (innermost n a s no_nodes) (StartElement n a s ∷ []) refl; answers = (quiet_none (p + 1) _ h.1, record { o = innermost n a s no_nodes; held = h.0; events_are = refl }) }
answers_open holds k v p d n a s (Err e) h = record { soon = fault_below (p + 1) (xread (element n a s no_nodes) v k p d); is_soon = soon_of v k p d (innermost n a s no_nodes) (StartElement n a s ∷ []) refl; answers = refuses_soon e (p + 1) p _ (one_on p) h }

pub answers_start : {M : Type 0} (holds : Holding M) (k : Kind) (v : SpecVersion) (p : ℕ) (d : Depth) (n : OwnedName) (a : List OwnedAttribute) (s : Namespace) (r : Result M XmlReadError) → StartsAs holds k v p n a r → OpensAs (λ m es. Hears (λ o. holds m v p d o) es) v k p d (StartElement n a s ∷ []) r
answers_start holds k v p d n a s r h = answers_open holds k v p d n a s r (h d s)

-- ---- one machine among many

module _ {X Y : Type 0} (hears hears' : List XmlEvent → Type 0) (view : X → Tree) (view' : Y → Tree) (v : SpecVersion) (k : Kind) (p : ℕ) (d : Depth) (place : ℕ) (events : List XmlEvent) where
  more_of : (hears events → hears' events) → Answers hears view v k p d place events (Ok None) → Answers hears' view' v k p d place events (Ok None)
  more_of f h = record { soon = h.soon; is_soon = h.is_soon; answers = (h.answers.0, h.answers.1, f h.answers.2) }

  pub answers_more : (r : Option X) → r ≡ None → (hears events → hears' events) → Answers hears view v k p d place events (Ok r) → Answers hears' view' v k p d place events (Ok None)
  answers_more r e f h = more_of f (subst (λ (x : Option X). Answers hears view v k p d place events (Ok x)) e h)

  done_of : (x : X) (y : Y) → view x ≡ view' y → Answers hears view v k p d place events (Ok (Some x)) → Answers hears' view' v k p d place events (Ok (Some y))
  done_of x y e h = record { soon = h.soon; is_soon = h.is_soon; answers = (h.answers.0, subst (λ t. IsRead v k p d events t) e h.answers.1) }

  pub answers_done : (r : Option X) (x : X) (y : Y) → r ≡ Some x → view x ≡ view' y → Answers hears view v k p d place events (Ok r) → Answers hears' view' v k p d place events (Ok (Some y))
  answers_done r x y e f h = done_of x y f (subst (λ (z : Option X). Answers hears view v k p d place events (Ok z)) e h)

  pub answers_fail : (e : XmlReadError) → Answers hears view v k p d place events (Err e) → Answers hears' view' v k p d place events (Err e)
  answers_fail e h = record { soon = h.soon; is_soon = h.is_soon; answers = h.answers }

pub opens_ok : {M N : Type 0} (hears : M → List XmlEvent → Type 0) (hears' : N → List XmlEvent → Type 0) (v : SpecVersion) (k : Kind) (p : ℕ) (d : Depth) (events : List XmlEvent) (m : M) (n : N) → (hears m events → hears' n events) → OpensAs hears v k p d events (Ok m) → OpensAs hears' v k p d events (Ok n)
opens_ok hears hears' v k p d events m n f h = record { soon = h.soon; is_soon = h.is_soon; answers = (h.answers.0, f h.answers.1) }

pub opens_fail : {M N : Type 0} (hears : M → List XmlEvent → Type 0) (hears' : N → List XmlEvent → Type 0) (v : SpecVersion) (k : Kind) (p : ℕ) (d : Depth) (events : List XmlEvent) (e : XmlReadError) → OpensAs hears v k p d events (Err e) → OpensAs hears' v k p d events (Err e)
opens_fail hears hears' v k p d events e h = record { soon = h.soon; is_soon = h.is_soon; answers = h.answers }
