-- A stack of open names takes the events of nodes and no others.
use Rattle.std.proofs.Common.{◌≡◌, List, [], ◌∷◌, ◌++◌, refl, sym, subst, append_assoc}
use Rattle.cdx_events.specs.declared.name.OwnedName.{OwnedName}
use Rattle.cdx_events.specs.declared.event.XmlEvent.{XmlEvent}
use Rattle.cdx_events.specs.declared.event.XmlEvent.TheVariants.{StartDocument, EndDocument, StartElement, EndElement, Characters, CData}
use Rattle.cdx_events.specs.Nodes.{Node, Nodes, characters, cdata, element, no_nodes, node, events_of, events_of_all, IsBalanced, GoesOn}
use Rattle.cdx_events.specs.Balance.{OpenElement, opened, names}

abbrev pub checks : List OwnedName → List XmlEvent → Type 0
checks [] [] = ⊥
checks (n ∷ stack) [] = ⊥
checks [] (EndDocument ∷ es) = es ≡ []
checks [] (e ∷ es) = ⊥
checks (n ∷ stack) (StartElement m a s ∷ es) = checks (m ∷ n ∷ stack) es
checks (n ∷ stack) (EndElement m ∷ es) = (n ≡ m) × checks stack es
checks (n ∷ stack) (Characters t ∷ es) = checks (n ∷ stack) es
checks (n ∷ stack) (CData t ∷ es) = checks (n ∷ stack) es
checks (n ∷ stack) (e ∷ es) = ⊥

abbrev pub checks_root : List XmlEvent → Type 0
checks_root (StartElement n a s ∷ es) = checks (n ∷ []) es
checks_root es = ⊥

abbrev pub checks_all : List XmlEvent → Type 0
checks_all (StartDocument ∷ es) = checks_root es
checks_all es = ⊥

mutual
  pub past : (k : Node) (n : OwnedName) (stack : List OwnedName) (rest : List XmlEvent) → checks (n ∷ stack) (events_of k ++ rest) → checks (n ∷ stack) rest
  past (characters t) n stack rest h = h
  past (cdata t) n stack rest h = h
  past (element m a s nodes) n stack rest h =
      (past_all nodes m (n ∷ stack) (EndElement m ∷ rest) (subst (λ es. checks (m ∷ n ∷ stack) es) (append_assoc (events_of_all nodes) (EndElement m ∷ []) rest) h)).1

  pub past_all : (ks : Nodes) (n : OwnedName) (stack : List OwnedName) (rest : List XmlEvent) → checks (n ∷ stack) (events_of_all ks ++ rest) → checks (n ∷ stack) rest
  past_all no_nodes n stack rest h = h
  past_all (node k ks) n stack rest h =
      past_all ks n stack rest (past k n stack (events_of_all ks ++ rest) (subst (λ es. checks (n ∷ stack) es) (append_assoc (events_of k) (events_of_all ks) rest) h))

mutual
  pub onto : (k : Node) (n : OwnedName) (stack : List OwnedName) (rest : List XmlEvent) → checks (n ∷ stack) rest → checks (n ∷ stack) (events_of k ++ rest)
  onto (characters t) n stack rest h = h
  onto (cdata t) n stack rest h = h
  onto (element m a s nodes) n stack rest h =
      subst (λ es. checks (m ∷ n ∷ stack) es) (sym (append_assoc (events_of_all nodes) (EndElement m ∷ []) rest)) (onto_all nodes m (n ∷ stack) (EndElement m ∷ rest) (refl, h))

  pub onto_all : (ks : Nodes) (n : OwnedName) (stack : List OwnedName) (rest : List XmlEvent) → checks (n ∷ stack) rest → checks (n ∷ stack) (events_of_all ks ++ rest)
  onto_all no_nodes n stack rest h = h
  onto_all (node k ks) n stack rest h =
      subst (λ es. checks (n ∷ stack) es) (sym (append_assoc (events_of k) (events_of_all ks) rest)) (onto k n stack (events_of_all ks ++ rest) (onto_all ks n stack rest h))

-- a balanced list passes
pub balanced_checks : (es : List XmlEvent) → IsBalanced es → checks_all es
balanced_checks es b =
    subst checks_all (sym b.whole) (subst (λ es. checks (b.name ∷ []) es) (sym (append_assoc (events_of_all b.nodes) (EndElement b.name ∷ []) (EndDocument ∷ []))) (onto_all b.nodes b.name [] (EndElement b.name ∷ EndDocument ∷ []) (refl, refl)))

-- inside the root, what follows is checked against the open names
pub inside_checks : (f : OpenElement) (fs : List OpenElement) (rest : List XmlEvent) → checks_all (StartDocument ∷ opened (f ∷ fs) ++ rest) → checks (names (f ∷ fs)) rest
inside_checks f [] rest h = past_all f.before f.name [] rest h
inside_checks f (g ∷ fs) rest h =
    past_all f.before f.name (names (g ∷ fs)) rest
    (inside_checks g fs (StartElement f.name f.attributes f.namespace ∷ events_of_all f.before ++ rest)
    (subst checks_root (append_assoc (opened (g ∷ fs)) (StartElement f.name f.attributes f.namespace ∷ events_of_all f.before) rest) h))

pub goes_checks : (events : List XmlEvent) (e : XmlEvent) → GoesOn (events ++ e ∷ []) → (rest : List XmlEvent) × checks_all (events ++ e ∷ rest)
goes_checks events e g = (g.rest, subst checks_all (append_assoc events (e ∷ []) g.rest) (balanced_checks _ g.balanced))
