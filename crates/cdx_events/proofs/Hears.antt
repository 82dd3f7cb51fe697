-- Each event takes what was heard to what is heard, and the stage tells whether a balanced list goes on.
use Rattle.std.specs.Prelude.{None}
use Rattle.std.proofs.Common.{◌≡◌, Bool, true, false, cond, List, [], ◌∷◌, ◌++◌, refl, sym, subst, ap, ◌∙◌, append_assoc}
use Rattle.std.proofs.lemmas.List.{append-nil}
use Rattle.cdx_events.specs.declared.name.OwnedName.{OwnedName}
use Rattle.cdx_events.specs.declared.name.OwnedAttribute.{OwnedAttribute}
use Rattle.cdx_events.specs.declared.name.Namespace.{Namespace}
use Rattle.cdx_events.specs.declared.event.XmlEvent.{XmlEvent}
use Rattle.cdx_events.specs.declared.event.XmlEvent.TheVariants.{StartDocument, EndDocument, StartElement, EndElement, Characters, CData}
use Rattle.cdx_events.specs.declared.balance.Stage.{Stage}
use Rattle.cdx_events.specs.declared.balance.Stage.TheVariants.{Fresh, Begun, Inside, Closing, Whole, Broken}
use Rattle.cdx_events.specs.Name.{same_name}
use Rattle.cdx_events.specs.Nodes.{Node, Nodes, characters, cdata, element, no_nodes, node, events_of, events_of_all, IsBalanced, GoesOn}
use Rattle.cdx_events.specs.Balance.{OpenElement, opened, names, IsInside, IsClosing, Hears, leave, stage_left, advance, is_alive, is_whole}
use Rattle.cdx_events.specs.Root.{then, with, node_of}
use Rattle.cdx_events.proofs.Names.{equal_name-true, equal_name-same}
use Rattle.cdx_events.proofs.Checks.{checks, checks_all, balanced_checks, inside_checks, past_all, goes_checks}

-- ---- nodes, one more at the end

events_then : (ks : Nodes) (k : Node) → events_of_all (then ks k) ≡ events_of_all ks ++ events_of k
events_then no_nodes k = append-nil (events_of k)
events_then (node j ks) k = ap (λ es. events_of j ++ es) (events_then ks k) ∙ sym (append_assoc (events_of j) (events_of_all ks) (events_of k))

-- a node stands in the innermost open element
pub opened_with : (f : OpenElement) (fs : List OpenElement) (k : Node) → opened (with f k ∷ fs) ≡ opened (f ∷ fs) ++ events_of k
opened_with f fs k =
    ap (λ es. opened fs ++ StartElement f.name f.attributes f.namespace ∷ es) (events_then f.before k) ∙ sym (append_assoc (opened fs) (StartElement f.name f.attributes f.namespace ∷ events_of_all f.before) (events_of k))

-- the innermost open element ends
pub opened_end : (f g : OpenElement) (fs : List OpenElement) → opened (f ∷ g ∷ fs) ++ EndElement f.name ∷ [] ≡ opened (with g (node_of f) ∷ fs)
opened_end f g fs =
    append_assoc (opened (g ∷ fs)) (StartElement f.name f.attributes f.namespace ∷ events_of_all f.before) (EndElement f.name ∷ []) ∙ sym (opened_with g fs (node_of f))

-- ---- open elements can be closed

closes : (f : OpenElement) (fs : List OpenElement) → (rest : List XmlEvent) × IsBalanced (StartDocument ∷ opened (f ∷ fs) ++ rest)
closes f [] = (
  EndElement f.name ∷ EndDocument ∷ [],
  record {
    name = f.name;
    attributes = f.attributes;
    namespace = f.namespace;
    nodes = f.before;
    whole = ap (λ es. StartDocument ∷ StartElement f.name f.attributes f.namespace ∷ es) (sym (append_assoc (events_of_all f.before) (EndElement f.name ∷ []) (EndDocument ∷ [])));
  },
)
closes f (g ∷ fs) =
    let outer = closes (with g (node_of f)) fs in
    (EndElement f.name ∷ outer.0, subst IsBalanced (ap (λ es. StartDocument ∷ es ++ outer.0) (sym (opened_end f g fs)) ∙ ap (λ es. StartDocument ∷ es) (append_assoc (opened (f ∷ g ∷ fs)) (EndElement f.name ∷ []) outer.0)) outer.1)

inside_goes : (stack : List OwnedName) (events : List XmlEvent) → IsInside stack events → GoesOn events
inside_goes stack events i =
    let c = closes i.top i.below in
    record { rest = c.0; balanced = subst (λ es. IsBalanced (es ++ c.0)) (sym i.events_are) c.1 }

-- ---- one more event

abbrev Next : Stage → List OwnedName → XmlEvent → List XmlEvent → Type 0
Next s stack e events = Hears (advance s stack e).0 (advance s stack e).1 (events ++ e ∷ [])

-- what stands before and after the next event
before : (events front : List XmlEvent) (e : XmlEvent) → events ≡ front → GoesOn (events ++ e ∷ []) → (rest : List XmlEvent) × checks_all (front ++ e ∷ rest)
before events front e is g =
    let c = goes_checks events e g in
    (c.0, subst (λ es. checks_all (es ++ e ∷ c.0)) is c.1)

fresh_next : (stack : List OwnedName) (e : XmlEvent) (events : List XmlEvent) → Hears Fresh stack events → Next Fresh stack e events
fresh_next stack StartDocument events h = (h.0, ap (λ es. es ++ StartDocument ∷ []) h.1)
fresh_next stack e events h = λ g. (before events [] e h.1 g).1

begun_next : (stack : List OwnedName) (e : XmlEvent) (events : List XmlEvent) → Hears Begun stack events → Next Begun stack e events
begun_next stack (StartElement n a s) events h =
    let f : OpenElement = record { name = n; attributes = a; namespace = s; before = no_nodes } in
    record { top = f; below = []; stack_is = ap (λ st. n ∷ st) h.0; events_are = ap (λ es. es ++ StartElement n a s ∷ []) h.1 }
begun_next stack e events h = λ g. (before events (StartDocument ∷ []) e h.1 g).1

-- inside, an event that isn't checked
inside_next_none : (stack : List OwnedName) (events : List XmlEvent) (e : XmlEvent) → IsInside stack events → ((rest : List XmlEvent) (n : OwnedName) (ns : List OwnedName) → stack ≡ n ∷ ns → checks (n ∷ ns) (e ∷ rest) → ⊥) → GoesOn (events ++ e ∷ []) → ⊥
inside_next_none stack events e i cannot g =
    let b = before events (StartDocument ∷ opened (i.top ∷ i.below)) e i.events_are g in
    cannot b.0 i.top.name (names i.below) i.stack_is (inside_checks i.top i.below (e ∷ b.0) b.1)

inside_text : (stack : List OwnedName) (events : List XmlEvent) (k : Node) → IsInside stack events → IsInside stack (events ++ events_of k)
inside_text stack events k i =
    record {
      top = with i.top k;
      below = i.below;
      stack_is = i.stack_is;
      events_are = ap (λ es. es ++ events_of k) i.events_are ∙ ap (λ es. StartDocument ∷ es) (sym (opened_with i.top i.below k));
    }

start_in : (stack : List OwnedName) (events : List XmlEvent) (n : OwnedName) (a : List OwnedAttribute) (s : Namespace) → IsInside stack events → IsInside (n ∷ stack) (events ++ StartElement n a s ∷ [])
start_in stack events n a s i =
    let f : OpenElement = record { name = n; attributes = a; namespace = s; before = no_nodes } in
    record { top = f; below = i.top ∷ i.below; stack_is = ap (λ st. n ∷ st) i.stack_is; events_are = ap (λ es. es ++ StartElement n a s ∷ []) i.events_are }

left_hears : (f : OpenElement) (fs : List OpenElement) (events : List XmlEvent) → events ≡ StartDocument ∷ opened (f ∷ fs) → Hears (stage_left (names fs)) (names fs) (events ++ EndElement f.name ∷ [])
left_hears f [] events e = record { name = f.name; attributes = f.attributes; namespace = f.namespace; nodes = f.before; whole = ap (λ es. es ++ EndElement f.name ∷ []) e }
left_hears f (g ∷ fs) events e =
    record { top = with g (node_of f); below = fs; stack_is = refl; events_are = ap (λ es. es ++ EndElement f.name ∷ []) e ∙ ap (λ es. StartDocument ∷ es) (opened_end f g fs) }

end_in : (b : Bool) (f : OpenElement) (fs : List OpenElement) (events : List XmlEvent) (n : OwnedName) → same_name f.name n ≡ b → events ≡ StartDocument ∷ opened (f ∷ fs)
    → Hears (cond b (stage_left (names fs)) Broken) (names fs) (events ++ EndElement n ∷ [])
end_in true f fs events n s e =
    subst (λ m. Hears (stage_left (names fs)) (names fs) (events ++ EndElement m ∷ [])) (equal_name-true f.name n s) (left_hears f fs events e)
end_in false f fs events n s e = λ (g : GoesOn (events ++ EndElement n ∷ [])).
    let b = before events (StartDocument ∷ opened (f ∷ fs)) (EndElement n) e g in
    let same : f.name ≡ n = (inside_checks f fs (EndElement n ∷ b.0) b.1).0 in
    let yes : same_name f.name n ≡ true = subst (λ m. same_name f.name m ≡ true) same (equal_name-same f.name) in
    absurd cc

inside_next : (stack : List OwnedName) (e : XmlEvent) (events : List XmlEvent) → Hears Inside stack events → Next Inside stack e events
inside_next stack (StartElement n a s) events i = start_in stack events n a s i
inside_next stack (EndElement n) events i =
    subst (λ st. Hears (leave st n).0 (leave st n).1 (events ++ EndElement n ∷ [])) (sym i.stack_is) (end_in (same_name i.top.name n) i.top i.below events n refl i.events_are)
inside_next stack (Characters t) events i = inside_text stack events (characters t) i
inside_next stack (CData t) events i = inside_text stack events (cdata t) i
inside_next stack e events i = inside_next_none stack events e i (λ rest n ns is h. h)

-- after the root, only a document end
closing_checks : (events : List XmlEvent) (e : XmlEvent) (c : IsClosing events) → GoesOn (events ++ e ∷ []) → (rest : List XmlEvent) × checks [] (e ∷ rest)
closing_checks events e c g =
    let b = before events (StartDocument ∷ events_of (element c.name c.attributes c.namespace c.nodes)) e c.whole g in
    (b.0, (past_all c.nodes c.name [] (EndElement c.name ∷ e ∷ b.0) (subst (λ es. checks (c.name ∷ []) es) (append_assoc (events_of_all c.nodes) (EndElement c.name ∷ []) (e ∷ b.0)) b.1)).1)

closing_next : (stack : List OwnedName) (e : XmlEvent) (events : List XmlEvent) → Hears Closing stack events → Next Closing stack e events
closing_next stack EndDocument events c = record { name = c.name; attributes = c.attributes; namespace = c.namespace; nodes = c.nodes; whole = ap (λ es. es ++ EndDocument ∷ []) c.whole }
closing_next stack e events c = λ g. (closing_checks events e c g).1

balanced_ends : (events : List XmlEvent) (e : XmlEvent) → IsBalanced events → GoesOn (events ++ e ∷ []) → ⊥
balanced_ends events e c g =
    let root = events_of_all c.nodes in
    let b = before events (StartDocument ∷ events_of (element c.name c.attributes c.namespace c.nodes) ++ EndDocument ∷ []) e c.whole g in
    let r : checks (c.name ∷ []) (((root ++ EndElement c.name ∷ []) ++ EndDocument ∷ []) ++ e ∷ b.0) = b.1 in
    let p : ((root ++ EndElement c.name ∷ []) ++ EndDocument ∷ []) ++ e ∷ b.0 ≡ root ++ (EndElement c.name ∷ EndDocument ∷ e ∷ b.0) =
    append_assoc (root ++ EndElement c.name ∷ []) (EndDocument ∷ []) (e ∷ b.0) ∙ append_assoc root (EndElement c.name ∷ []) (EndDocument ∷ e ∷ b.0) in
    let q : (e ∷ b.0) ≡ [] = (past_all c.nodes c.name [] (EndElement c.name ∷ EndDocument ∷ e ∷ b.0) (subst (λ es. checks (c.name ∷ []) es) p r)).1 in
    absurd cc

broken_next : (events : List XmlEvent) (e : XmlEvent) → (GoesOn events → ⊥) → GoesOn (events ++ e ∷ []) → ⊥
broken_next events e cannot g =
    cannot (record { rest = e ∷ g.rest; balanced = subst IsBalanced (append_assoc events (e ∷ []) g.rest) g.balanced })

pub hears_next : (s : Stage) (stack : List OwnedName) (e : XmlEvent) (events : List XmlEvent) → Hears s stack events → Next s stack e events
hears_next Fresh stack e events h = fresh_next stack e events h
hears_next Begun stack e events h = begun_next stack e events h
hears_next Inside stack e events h = inside_next stack e events h
hears_next Closing stack e events h = closing_next stack e events h
hears_next Whole stack e events h = λ g. balanced_ends events e h g
hears_next Broken stack e events h = λ g. broken_next events e h g

-- ---- what the stage tells

abbrev empty_frame : OpenElement
empty_frame = record { name = record { local_name = []; namespace = None; prefix = None }; attributes = []; namespace = record { default = None }; before = no_nodes }

pub alive_goes : (s : Stage) (stack : List OwnedName) (events : List XmlEvent) → Hears s stack events → is_alive s ≡ true → GoesOn events
alive_goes Fresh stack events h a =
    let c = closes empty_frame [] in
    record { rest = StartDocument ∷ opened (empty_frame ∷ []) ++ c.0; balanced = subst (λ es. IsBalanced (es ++ (StartDocument ∷ opened (empty_frame ∷ []) ++ c.0))) (sym h.1) c.1 }
alive_goes Begun stack events h a =
    let c = closes empty_frame [] in
    record { rest = opened (empty_frame ∷ []) ++ c.0; balanced = subst (λ es. IsBalanced (es ++ (opened (empty_frame ∷ []) ++ c.0))) (sym h.1) c.1 }
alive_goes Inside stack events h a = inside_goes stack events h
alive_goes Closing stack events c a =
    record { rest = EndDocument ∷ []; balanced = record { name = c.name; attributes = c.attributes; namespace = c.namespace; nodes = c.nodes; whole = ap (λ es. es ++ EndDocument ∷ []) c.whole } }
alive_goes Whole stack events b a = record { rest = []; balanced = subst IsBalanced (sym (append-nil events)) b }
alive_goes Broken stack events h a = absurd cc

pub goes_alive : (s : Stage) (stack : List OwnedName) (events : List XmlEvent) → Hears s stack events → GoesOn events → is_alive s ≡ true
goes_alive Broken stack events h g = absurd (h g)
goes_alive s stack events h g = refl

pub whole_balanced : (s : Stage) (stack : List OwnedName) (events : List XmlEvent) → Hears s stack events → is_whole s ≡ true → IsBalanced events
whole_balanced Whole stack events h w = h
whole_balanced s stack events h w = absurd cc

balanced_goes : (events : List XmlEvent) → IsBalanced events → GoesOn events
balanced_goes events b = record { rest = []; balanced = subst IsBalanced (sym (append-nil events)) b }

pub balanced_whole : (s : Stage) (stack : List OwnedName) (events : List XmlEvent) → Hears s stack events → IsBalanced events → is_whole s ≡ true
balanced_whole Fresh stack events h b = absurd (subst checks_all h.1 (balanced_checks events b))
balanced_whole Begun stack events h b = absurd (subst checks_all h.1 (balanced_checks events b))
balanced_whole Inside stack events i b =
    absurd (inside_checks i.top i.below [] (subst checks_all (i.events_are ∙ ap (λ es. StartDocument ∷ es) (sym (append-nil (opened (i.top ∷ i.below))))) (balanced_checks events b)))
balanced_whole Closing stack events c b =
    absurd (past_all c.nodes c.name [] (EndElement c.name ∷ []) (subst checks_all c.whole (balanced_checks events b))).1
balanced_whole Whole stack events h b = refl
balanced_whole Broken stack events h b = absurd (h (balanced_goes events b))

pub hears_taken : (s : Stage) (stack : List OwnedName) (e : XmlEvent) (events : List XmlEvent) (s' : Stage) (stack' : List OwnedName) → s' ≡ (advance s stack e).0 → stack' ≡ (advance s stack e).1 → Hears s stack events → Hears s' stack' (events ++ e ∷ [])
hears_taken s stack e events s' stack' p q h =
    subst (λ x. Hears x stack' (events ++ e ∷ [])) (sym p) (subst (λ y. Hears (advance s stack e).0 y (events ++ e ∷ [])) (sym q) (hears_next s stack e events h))
