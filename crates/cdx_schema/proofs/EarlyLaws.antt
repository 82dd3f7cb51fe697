-- Events have one early fault or none; a fault stays; and what one event more brings.
use Rattle.std.specs.Prelude.{nat_lt, if◌then◌else◌, Option, Some, None, Result, Ok, Err}
use Rattle.std.proofs.Common.{◌≡◌, ℕ, ◌+◌, ◌<◌, ◌≤◌, inl, inr, Bool, true, false, List, [], ◌∷◌, ◌++◌, length, take, drop, refl, sym, subst, ap, ◌∙◌, append_assoc, length-append, arith}
use Rattle.std.proofs.lemmas.List.{append-nil, take-append-drop, take-append-le, take_at, take_all, take-take, length-take-le}
use Rattle.std.proofs.lemmas.Bool.{cases_lt}
use Rattle.cdx_events.specs.declared.event.XmlEvent.{XmlEvent}
use Rattle.cdx_events.specs.Nodes.{IsBalanced, GoesOn, IsBroken}
use Rattle.cdx_models.specs.declared.bom.SpecVersion.{SpecVersion}
use Rattle.cdx_models.specs.declared.errors.XmlReadError.{XmlReadError}
use Rattle.cdx_models.specs.declared.errors.XmlReadError.TheVariants.{ElementReadError, UnexpectedElementReadError, RequiredDataMissing, RequiredAttributeMissing, InvalidParseError, InvalidNamespaceError, TooDeep, Memory}
use Rattle.cdx_models.specs.Trees.{Tree}
use Rattle.cdx_schema.specs.Locality.{fault_place, balanced_root, IsDocumentFault}
use Rattle.cdx_schema.specs.XmlReading.{xml_denotes}
use Rattle.cdx_schema.specs.Early.{IsFrontFault, short, place_of, unbalanced, the_lower, broken_at, IsEarly, whole, broken}
use Rattle.cdx_schema.proofs.Local.{stands_inside}
use Rattle.cdx_schema.proofs.FaultPlaces.{refuses_by_faults}
use Rattle.cdx_schema.proofs.EarlyBalance.{goes_or_not, balanced_or_not, all_go, balanced_goes, ends_broken, breaks_at, breaks_there, one_place}
use Rattle.cdx_schema.proofs.EarlyFaults.{lt_false, Inside, inside_of, front_inside, inside_front, front_there, front_clean, front_one, inside_longer}
use Rattle.cdx_schema.proofs.Basics.{lt_true}

-- ---- places

document_place : (f : XmlReadError) → IsDocumentFault f → place_of f ≡ fault_place f
document_place (UnexpectedElementReadError p around found) d = refl
document_place (RequiredDataMissing p around field) d = refl
document_place (InvalidParseError p around value type) d = refl
document_place (InvalidNamespaceError expected actual) d = refl
document_place (TooDeep p) d = refl
document_place (RequiredAttributeMissing p around attribute) d = refl
document_place (ElementReadError kind p) d = absurd d
document_place (Memory e) d = refl

pub inside_place : (v : SpecVersion) (front : List XmlEvent) (f : XmlReadError) → Inside v front f → place_of f ≡ fault_place f
inside_place v front f i = document_place f (refuses_by_faults (balanced_root i.goes.balanced) v f (i.blocks i.goes.rest i.goes.balanced))

-- ---- the lower of the two

lower_is : (v : SpecVersion) (events : List XmlEvent) (p : ℕ) (f : XmlReadError) → p ≤ length events → Inside v (take p events) f → the_lower (broken_at p events) (Some f) ≡ Some f
lower_is v events p f l i = by (nat_lt p (length events))
  where
    below : place_of f < p
    below = omega (arith, i.below, inside_place v (take p events) f i, length-take-le p events l)

    by : (b : Bool) → the_lower (if b then Some (unbalanced p) else None) (Some f) ≡ Some f
    by true = ap (λ c. if c then Some f else Some (unbalanced p)) (lt_true (place_of f) p below)
    by false = refl

broken_here : (p : ℕ) (events : List XmlEvent) → p < length events → broken_at p events ≡ Some (unbalanced p)
broken_here p events l = ap (λ b. if b then Some (unbalanced p) else None) (lt_true p (length events) l)

broken_end : (events : List XmlEvent) → broken_at (length events) events ≡ None
broken_end events = ap (λ b. if b then Some (unbalanced (length events)) else None) (lt_false (length events) (length events) (omega arith))

-- ---- events that go on

pub early_goes : (v : SpecVersion) (events : List XmlEvent) (o : Option XmlReadError) → GoesOn events → IsFrontFault v events o → IsEarly v events o
early_goes v events o g h =
    elim (balanced_or_not events) [
      | inl b ↦ whole b o h refl
      | inr un ↦ broken (length events) (ends_broken events g un) o (subst (λ es. IsFrontFault v es o) (sym (take_all (length events) events (omega arith))) h) (sym (ap (λ x. the_lower x o) (broken_end events)))
    ]

-- ---- fronts with a fault

-- events that begin with a front that goes on break after it at the earliest
break_after : (front rest : List XmlEvent) (p : ℕ) → GoesOn front → IsBroken (front ++ rest) p → p < length (front ++ rest) → length front ≤ p
break_after front rest p g b l =
    elim (cases_lt p (length front)) [
      | inl lt ↦ absurd (b.through l (subst GoesOn (sym (take-append-le (p + 1) front rest (omega (arith, lt)))) (all_go front (p + 1) g (p + 1) (omega arith))))
      | inr le ↦ le
    ]

-- a longer front begins with the shorter
longer_front : (front rest : List XmlEvent) (p : ℕ) → length front ≤ p → (more : List XmlEvent) × (take p (front ++ rest) ≡ front ++ more)
longer_front front rest p l =
    let n = length front in
    let t = take p (front ++ rest) in
    let same : take n t ≡ front = take-take n p (front ++ rest) l ∙ take_at front rest n refl in
    (drop n t, sym (take-append-drop n t) ∙ ap (λ es. es ++ drop n t) same)

pub early_inside : (v : SpecVersion) (front rest : List XmlEvent) (f : XmlReadError) → Inside v front f → IsEarly v (front ++ rest) (Some f)
early_inside v front rest f i =
    elim (goes_or_not (front ++ rest)) [
      | inl g ↦ early_goes v (front ++ rest) (Some f) g (inside_front v (front ++ rest) f (inside_longer v front rest f g i))
      | inr cannot ↦ by (breaks_there (front ++ rest) cannot).place (breaks_there (front ++ rest) cannot).is (breaks_there (front ++ rest) cannot).below
    ]
  where
    by : (p : ℕ) → IsBroken (front ++ rest) p → p < length (front ++ rest) → IsEarly v (front ++ rest) (Some f)
    by p b l =
        let more = longer_front front rest p (break_after front rest p i.goes b l) in
        let g : GoesOn (front ++ more.0) = subst GoesOn more.1 (b.before p (omega arith)) in
        let inside : Inside v (take p (front ++ rest)) f = subst (λ es. Inside v es f) (sym more.1) (inside_longer v front more.0 f g i) in
        broken p b (Some f) (inside_front v (take p (front ++ rest)) f inside) (sym (lower_is v (front ++ rest) p f b.within inside))

-- ---- what an early fault is

pub data Cases (v : SpecVersion) (events : List XmlEvent) (o : Option XmlReadError) : Type 0 where
  nothing : o ≡ None → GoesOn events → IsFrontFault v events None → Cases v events o
  in_front : (f : XmlReadError) → o ≡ Some f → (front rest : List XmlEvent) → events ≡ front ++ rest → Inside v front f → Cases v events o
  out_of_balance : (p : ℕ) → o ≡ Some (unbalanced p) → IsBroken events p → p < length events → IsFrontFault v (take p events) None → Cases v events o

whole_cases : (v : SpecVersion) (events : List XmlEvent) (early inside : Option XmlReadError) → GoesOn events → IsFrontFault v events inside → early ≡ inside → Cases v events early
whole_cases v events early None g h e = nothing e g h
whole_cases v events early (Some f) g h e = in_front f e events [] (sym (append-nil events)) (front_inside v events f h)

broken_cases : (v : SpecVersion) (events : List XmlEvent) (early : Option XmlReadError) (p : ℕ) → IsBroken events p → (inside : Option XmlReadError) → IsFrontFault v (take p events) inside → early ≡ the_lower (broken_at p events) inside → Cases v events early
broken_cases v events early p b (Some f) h e =
    let i = front_inside v (take p events) f h in
    in_front f (e ∙ lower_is v events p f b.within i) (take p events) (drop p events) (sym (take-append-drop p events)) i
broken_cases v events early p b None h e =
    elim (cases_lt p (length events)) [
      | inl lt ↦ out_of_balance p (e ∙ ap (λ x. the_lower x None) (broken_here p events lt)) b lt h
      | inr le ↦ let same : p ≡ length events = omega (arith, b.within, le) in
          let whole : take p events ≡ events = take_all p events le in
          nothing (e ∙ (ap (λ x. the_lower (broken_at x events) None) same ∙ ap (λ x. the_lower x None) (broken_end events))) (subst GoesOn whole (b.before p (omega arith))) (subst (λ es. IsFrontFault v es None) whole h)
    ]

pub early_cases : (v : SpecVersion) (events : List XmlEvent) (o : Option XmlReadError) → IsEarly v events o → Cases v events o
early_cases v events o (whole b inside h e) = whole_cases v events o inside (balanced_goes events b) h e
early_cases v events o (broken p b inside h e) = broken_cases v events o p b inside h e

-- ---- one early fault, or none

pub early_there : (v : SpecVersion) (events : List XmlEvent) → (o : Option XmlReadError) × IsEarly v events o
early_there v events =
    elim (balanced_or_not events) [
      | inl b ↦ let f = front_there v events (balanced_goes events b) in (f.0, whole b f.0 f.1 refl)
      | inr un ↦ elim (goes_or_not events) [
        | inl g ↦ let f = front_there v events g in (f.0, early_goes v events f.0 g f.1)
        | inr cannot ↦ let b = breaks_there events cannot in
            let f = front_there v (take b.place events) (b.is.before b.place (omega arith)) in (the_lower (broken_at b.place events) f.0, broken b.place b.is f.0 f.1 refl)
      ]
    ]

pub early_one : (v : SpecVersion) (events : List XmlEvent) (o u : Option XmlReadError) → IsEarly v events o → IsEarly v events u → o ≡ u
early_one v events o u (whole b i h e) (whole c j k d) = e ∙ (ap (λ x. the_lower None x) (front_one v events i j h k) ∙ sym d)
early_one v events o u (whole b i h e) (broken q c j k d) = absurd (c.unbalanced b)
early_one v events o u (broken p b i h e) (whole c j k d) = absurd (b.unbalanced c)
early_one v events o u (broken p b i h e) (broken q c j k d) =
    let s = one_place events p q b c in
    e ∙ (ap (λ x. the_lower (broken_at p events) x) (front_one v (take p events) i j h (subst (λ x. IsFrontFault v (take x events) j) (sym s) k)) ∙ (ap (λ x. the_lower (broken_at x events) j) s ∙ sym d))

-- ---- a fault stays

broken_longer : (events more : List XmlEvent) (p : ℕ) → IsBroken events p → p < length events → IsBroken (events ++ more) p
broken_longer events more p b l = record {
  within = omega (arith, l, length-append events more);
  before = λ k m. subst GoesOn (sym (take-append-le k events more (omega (arith, l, m)))) (b.before k m);
  through = λ _ g. cannot g;
  unbalanced = λ c. cannot (all_go (events ++ more) (p + 1) (balanced_goes (events ++ more) c) (p + 1) (omega arith));
}
  where
    cannot : GoesOn (take (p + 1) (events ++ more)) → ⊥
    cannot g = b.through l (subst GoesOn (take-append-le (p + 1) events more (omega (arith, l))) g)

pub early_stays : (v : SpecVersion) (events more : List XmlEvent) (f : XmlReadError) → IsEarly v events (Some f) → IsEarly v (events ++ more) (Some f)
early_stays v events more f h = by (early_cases v events (Some f) h)
  where
    by : Cases v events (Some f) → IsEarly v (events ++ more) (Some f)
    by (nothing e g n) = absurd cc
    by (in_front g e front rest s i) =
        let same : Some f ≡ Some g = e in
        subst (λ o. IsEarly v (events ++ more) o) (sym same) (subst (λ es. IsEarly v es (Some g)) (sym (ap (λ es. es ++ more) s ∙ append_assoc front rest more)) (early_inside v front (rest ++ more) g i))
    by (out_of_balance p e b l n) =
        let long = broken_longer events more p b l in
        let lt : p < length (events ++ more) = omega (arith, l, length-append events more) in
        broken p long None (subst (λ es. IsFrontFault v es None) (sym (take-append-le p events more (omega (arith, l)))) n) (e ∙ sym (ap (λ x. the_lower x None) (broken_here p (events ++ more) lt)))

-- ---- no fault so far

pub none_goes : (v : SpecVersion) (events : List XmlEvent) → IsEarly v events None → GoesOn events × IsFrontFault v events None
none_goes v events h = by (early_cases v events None h)
  where
    by : Cases v events None → GoesOn events × IsFrontFault v events None
    by (nothing e g n) = (g, n)
    by (in_front f e front rest s i) = absurd cc
    by (out_of_balance p e b l n) = absurd cc

-- the next event is out of balance
pub early_breaks : (v : SpecVersion) (events : List XmlEvent) (e : XmlEvent) → IsEarly v events None → (GoesOn (events ++ e ∷ []) → ⊥) → IsEarly v (events ++ e ∷ []) (Some (unbalanced (length events)))
early_breaks v events e h cannot =
    let n = none_goes v events h in
    let b = breaks_at events e [] n.0 cannot in
    let lt : length events < length (events ++ e ∷ []) = omega (arith, length-append events (e ∷ [])) in
    broken (length events) b None (subst (λ es. IsFrontFault v es None) (sym (take_at events (e ∷ []) (length events) refl)) n.1) (sym (ap (λ x. the_lower x None) (broken_here (length events) (events ++ e ∷ []) lt)))

-- fewer than two events have no fault where they go on
pub early_short : (v : SpecVersion) (events : List XmlEvent) → GoesOn events → length events < 2 → IsEarly v events None
early_short v events g l = early_goes v events None g (short l refl)

-- ---- balanced events

pub whole_denotes : (v : SpecVersion) (events : List XmlEvent) → IsEarly v events None → (b : IsBalanced events) → (t : Tree) × (xml_denotes (balanced_root b) v ≡ Ok t)
whole_denotes v events h b = by (xml_denotes (balanced_root b) v) refl
  where
    by : (r : Result Tree XmlReadError) → xml_denotes (balanced_root b) v ≡ r → (t : Tree) × (xml_denotes (balanced_root b) v ≡ Ok t)
    by (Ok t) e = (t, e)
    by (Err f) e =
        let same = append-nil events in
        let c : IsBalanced (events ++ []) = subst IsBalanced (sym same) b in
        let place = stands_inside events b v f e in
        let long : 1 < length events = omega (arith, ap length b.whole, length-append (Rattle.cdx_events.specs.Nodes.events_of (balanced_root b)) (Rattle.cdx_events.specs.declared.event.XmlEvent.TheVariants.EndDocument ∷ [])) in
        absurd (front_clean v events (none_goes v events h).1 f (inside_of v events f [] c long place (ap (λ x. xml_denotes x v) (Rattle.cdx_schema.proofs.EarlyFaults.root_same (events ++ []) events c b same) ∙ e)))

pub denotes_none : (v : SpecVersion) (events : List XmlEvent) (b : IsBalanced events) (t : Tree) → xml_denotes (balanced_root b) v ≡ Ok t → IsEarly v events None
denotes_none v events b t d = by (early_there v events).0 (early_there v events).1
  where
    ok_err : (r : Result Tree XmlReadError) (f : XmlReadError) → r ≡ Ok t → r ≡ Err f → ⊥
    ok_err r f p q = absurd cc

    by : (o : Option XmlReadError) → IsEarly v events o → IsEarly v events None
    by None h = h
    by (Some f) (whole c inside h e) =
        let i = front_inside v events f (subst (λ o. IsFrontFault v events o) (sym e) h) in
        let c : IsBalanced (events ++ []) = subst IsBalanced (sym (append-nil events)) b in
        absurd (ok_err (xml_denotes (balanced_root b) v) f d (ap (λ x. xml_denotes x v) (sym (Rattle.cdx_schema.proofs.EarlyFaults.root_same (events ++ []) events c b (append-nil events))) ∙ i.blocks [] c))
    by (Some f) (broken p c inside h e) = absurd (c.unbalanced b)

-- ---- where an early fault stands

pub early_below : (v : SpecVersion) (events : List XmlEvent) (f : XmlReadError) → IsEarly v events (Some f) → place_of f < length events
early_below v events f h = by (early_cases v events (Some f) h)
  where
    same_of : (g : XmlReadError) → Some f ≡ Some g → f ≡ g
    same_of g e = cc

    by : Cases v events (Some f) → place_of f < length events
    by (nothing e g n) = absurd cc
    by (in_front g e front rest s i) = subst (λ x. place_of x < length events) (sym (same_of g e)) (omega (arith, inside_place v front g i, i.below, ap length s, length-append front rest))
    by (out_of_balance p e b l n) = subst (λ x. place_of x < length events) (sym (same_of (unbalanced p) e)) l

-- the fault of longer events is inside the events so far, or not before their end
inside_shorter : (v : SpecVersion) (events front rest more : List XmlEvent) (f : XmlReadError) → GoesOn events → events ++ more ≡ front ++ rest → Inside v front f → fault_place f < length events → Inside v events f
inside_shorter v events front rest more f g e i l =
    elim (cases_lt (length front) (length events)) [
      | inl lt ↦ let m = longer_front front rest (length events) (omega (arith, lt)) in
          let same : events ≡ front ++ m.0 = sym (take_at events more (length events) refl) ∙ (ap (take (length events)) e ∙ m.1) in
          subst (λ es. Inside v es f) (sym same) (inside_longer v front m.0 f (subst GoesOn same g) i)
      | inr le ↦ let m = longer_front events more (length front) le in
          let same : front ≡ events ++ m.0 = sym (take_at front rest (length front) refl) ∙ (ap (take (length front)) (sym e) ∙ m.1) in
          let whole : front ++ i.goes.rest ≡ events ++ (m.0 ++ i.goes.rest) = ap (λ es. es ++ i.goes.rest) same ∙ append_assoc events m.0 i.goes.rest in
          let b : IsBalanced (events ++ (m.0 ++ i.goes.rest)) = subst IsBalanced whole i.goes.balanced in
          inside_of v events f (m.0 ++ i.goes.rest) b (long le) l (ap (λ x. xml_denotes x v) (sym (Rattle.cdx_schema.proofs.EarlyFaults.root_same (front ++ i.goes.rest) (events ++ (m.0 ++ i.goes.rest)) i.goes.balanced b whole)) ∙ i.blocks i.goes.rest i.goes.balanced)
    ]
  where
    one : 1 ≤ fault_place f
    one = (Rattle.cdx_schema.proofs.FaultPlaces.denoted_within (balanced_root i.goes.balanced) v f (i.blocks i.goes.rest i.goes.balanced)).0

    long : length events ≤ length front → 1 < length events
    long le = omega (arith, one, l)

pub early_since : (v : SpecVersion) (events more : List XmlEvent) (f : XmlReadError) → IsEarly v events None → IsEarly v (events ++ more) (Some f) → length events ≤ place_of f
early_since v events more f n h = by (early_cases v (events ++ more) (Some f) h)
  where
    same_of : (g : XmlReadError) → Some f ≡ Some g → g ≡ f
    same_of g e = cc

    by : Cases v (events ++ more) (Some f) → length events ≤ place_of f
    by (nothing e g k) = absurd cc
    by (in_front g e front rest s i) =
        let j : Inside v front f = subst (λ x. Inside v front x) (same_of g e) i in
        elim (cases_lt (fault_place f) (length events)) [
          | inl lt ↦ absurd (front_clean v events (none_goes v events n).1 f (inside_shorter v events front rest more f (none_goes v events n).0 s j lt))
          | inr le ↦ omega (arith, le, inside_place v front f j)
        ]
    by (out_of_balance p e b l k) = subst (λ x. length events ≤ place_of x) (same_of (unbalanced p) e) (break_after events more p (none_goes v events n).0 b l)
