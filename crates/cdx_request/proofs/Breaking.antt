-- Where a list of events breaks, by its open elements.
use Rattle.std.proofs.Common.{◌≡◌, ℕ, suc, ◌+◌, ◌<◌, Bool, true, false, List, [], ◌∷◌, ◌++◌, length, take, Option, Some, None, inl, inr, cond, refl, sym, subst, ap, ◌∙◌, append_assoc, arith, length-append}
use Rattle.std.proofs.lemmas.List.{append-nil}
use Rattle.std.proofs.lemmas.Bool.{cases_lt}
use Rattle.cdx_events.specs.declared.name.OwnedName.{OwnedName}
use Rattle.cdx_events.specs.declared.event.XmlEvent.{XmlEvent}
use Rattle.cdx_events.specs.declared.balance.Stage.{Stage}
use Rattle.cdx_events.specs.declared.balance.Stage.TheVariants.{Fresh}
use Rattle.cdx_events.specs.Balance.{OpenElement, Hears, advance, is_alive}
use Rattle.cdx_events.specs.Nodes.{IsBalanced, GoesOn, IsBroken}
use Rattle.cdx_events.specs.Root.{root_of}
use Rattle.cdx_events.proofs.Hears.{hears_next, alive_goes, goes_alive}
use Rattle.cdx_events.proofs.Broken.{AllGo, none_go, one_more_goes, breaks, ends_early, not_alive}
use Rattle.cdx_events.proofs.RootLaws.{root_is, root_whole}
use Rattle.cdx_request.specs.Breaks.{going_on, broken, BreaksLaw}

-- the events through the next one
through : (front : List XmlEvent) (e : XmlEvent) (es : List XmlEvent) → take (length front + 1) (front ++ e ∷ es) ≡ front ++ e ∷ []
through front e es =
    let whole : length (front ++ e ∷ []) ≡ length front + 1 = omega (arith, length-append front (e ∷ [])) in
    subst (λ n. take n (front ++ e ∷ es) ≡ front ++ e ∷ []) whole (subst (λ xs. take (length (front ++ e ∷ [])) xs ≡ front ++ e ∷ []) (append_assoc front (e ∷ []) es) (front_of (front ++ e ∷ []) es))
  where
    front_of : (xs ys : List XmlEvent) → take (length xs) (xs ++ ys) ≡ xs
    front_of [] ys = refl
    front_of (x ∷ xs) ys = ap (λ zs. x ∷ zs) (front_of xs ys)

abbrev Breaks : List XmlEvent → List XmlEvent → ℕ → Type 0
Breaks front rest more = IsBroken (front ++ rest) (length front + more)

-- the events after one more, and where they break
abbrev Then : List XmlEvent → XmlEvent → List XmlEvent → Stage → List OwnedName → Type 0
Then front e es s stack = Hears s stack (front ++ e ∷ []) → AllGo ((front ++ e ∷ []) ++ es) (length (front ++ e ∷ [])) → (IsBalanced ((front ++ e ∷ []) ++ es) → ⊥) → Breaks (front ++ e ∷ []) es (going_on s stack es)

next : (b : Bool) (e : XmlEvent) (es front : List XmlEvent) (s : Stage) (stack : List OwnedName) → Then front e es s stack → is_alive s ≡ b → Hears s stack (front ++ e ∷ []) → AllGo (front ++ e ∷ es) (length front) → (IsBalanced (front ++ e ∷ es) → ⊥)
    → Breaks front (e ∷ es) (cond b (suc (going_on s stack es)) 0)
next true e es front s stack go is h all un =
    let n = going_on s stack es in
    let assoc = append_assoc front (e ∷ []) es in
    let lt : length front < length (front ++ e ∷ es) = omega (arith, length-append front (e ∷ es)) in
    let more : AllGo (front ++ e ∷ es) (length front + 1) = one_more_goes (front ++ e ∷ es) (length front) all (subst GoesOn (sym (through front e es)) (alive_goes s stack (front ++ e ∷ []) h is)) in
    let len : length (front ++ e ∷ []) ≡ length front + 1 = omega (arith, length-append front (e ∷ [])) in
    let all' : AllGo ((front ++ e ∷ []) ++ es) (length (front ++ e ∷ [])) = subst (λ k. AllGo ((front ++ e ∷ []) ++ es) k) (sym len) (subst (λ xs. AllGo xs (length front + 1)) (sym assoc) more) in
    let b = go h all' (λ w. un (subst IsBalanced assoc w)) in
    let place : length (front ++ e ∷ []) + n ≡ length front + suc n = omega (arith, len) in
    subst (λ k. IsBroken (front ++ e ∷ es) k) place (subst (λ xs. IsBroken xs (length (front ++ e ∷ []) + n)) assoc b)
next false e es front s stack go is h all un =
    let lt : length front < length (front ++ e ∷ es) = omega (arith, length-append front (e ∷ es)) in
    let b = breaks (front ++ e ∷ es) (length front) lt all (λ g. not_alive (is_alive s) (goes_alive s stack (front ++ e ∷ []) h (subst GoesOn (through front e es) g)) is) in
    subst (λ k. IsBroken (front ++ e ∷ es) k) (omega arith) b

goes_on : (rest front : List XmlEvent) (s : Stage) (stack : List OwnedName) → Hears s stack front → AllGo (front ++ rest) (length front) → (IsBalanced (front ++ rest) → ⊥) → Breaks front rest (going_on s stack rest)
unfolding going_on
goes_on [] front s stack h all un =
    let e : length (front ++ []) ≡ length front + 0 = omega (arith, ap length (append-nil front)) in
    subst (IsBroken (front ++ [])) e (ends_early (front ++ []) (length front) (ap length (sym (append-nil front))) all un)
goes_on (e ∷ es) front s stack h all un =
    let s' = (advance s stack e).0 in
    let stack' = (advance s stack e).1 in
    next (is_alive s') e es front s' stack' (λ h' all' un'. goes_on es (front ++ e ∷ []) s' stack' h' all' un') refl (hears_next s stack e front h) all un

rootless : (events : List XmlEvent) → root_of events ≡ None → IsBalanced events → ⊥
rootless events none b =
    let some = ap root_of b.whole ∙ root_is b.name b.attributes b.namespace b.nodes in
    absurd cc

breaks_there : (events : List XmlEvent) → root_of events ≡ None → IsBroken events (broken events)
breaks_there events none = subst (IsBroken events) (omega arith) (goes_on events [] Fresh [] (refl, refl) (none_go events) (rootless events none))

-- ---- no other place

no_root : (o : Option OpenElement) (events : List XmlEvent) → root_of events ≡ o → (IsBalanced events → ⊥) → root_of events ≡ None
no_root None events is un = is
no_root (Some r) events is un = absurd (un (record { name = r.name; attributes = r.attributes; namespace = r.namespace; nodes = r.before; whole = root_whole events r is }))

not_before : (events : List XmlEvent) (p q : ℕ) → IsBroken events p → IsBroken events q → p < q → ⊥
not_before events p q a b lt = a.through (omega (arith, b.within)) (b.before (p + 1) (omega arith))

one_place : (events : List XmlEvent) (p q : ℕ) → IsBroken events p → IsBroken events q → p ≡ q
one_place events p q a b =
    elim (cases_lt p q) [
      | inl lt ↦ absurd (not_before events p q a b lt)
      | inr le ↦ elim (cases_lt q p) [
        | inl lt ↦ absurd (not_before events q p b a lt)
        | inr ge ↦ omega arith
      ]
    ]

pub breaks_law : BreaksLaw
breaks_law events = (breaks_there events, λ place b. one_place events place (broken events) b (breaks_there events (no_root (root_of events) events refl b.unbalanced)))
