-- Dropping empty texts.
use Rattle.std.specs.Prelude.{◌≡◌, refl, List, [], ◌∷◌, ◌++◌}
use mathlib.Core.Path.{ap, sym, ◌∙◌}
use Rattle.std.proofs.lemmas.List.{append-nil}
use Rattle.cdx_events.specs.declared.name.OwnedAttribute.{OwnedAttribute}
use Rattle.cdx_events.specs.declared.name.OwnedName.{OwnedName}
use Rattle.cdx_events.specs.declared.name.Namespace.{Namespace}
use Rattle.cdx_events.specs.declared.event.XmlEvent.{XmlEvent}
use Rattle.cdx_events.specs.declared.event.XmlEvent.TheVariants.{CData, Characters, EndDocument, EndElement, StartDocument, StartElement}
use Rattle.cdx_events.specs.EmptyTexts.{without_empty, lean, lean_nodes}
use Rattle.cdx_events.specs.Nodes.{IsBalanced, Nodes, cdata, characters, document, element, events_of_all, no_nodes, node}

pub without_append : (xs ys : List XmlEvent) → without_empty (xs ++ ys) ≡ without_empty xs ++ without_empty ys
without_append [] ys = refl
without_append (Characters [] ∷ xs) ys = without_append xs ys
without_append (CData [] ∷ xs) ys = without_append xs ys
without_append (Characters (c ∷ s) ∷ xs) ys = ap (Characters (c ∷ s) ∷◌) (without_append xs ys)
without_append (CData (c ∷ s) ∷ xs) ys = ap (CData (c ∷ s) ∷◌) (without_append xs ys)
without_append (StartDocument ∷ xs) ys = ap (StartDocument ∷◌) (without_append xs ys)
without_append (EndDocument ∷ xs) ys = ap (EndDocument ∷◌) (without_append xs ys)
without_append (StartElement n as' d ∷ xs) ys = ap (StartElement n as' d ∷◌) (without_append xs ys)
without_append (EndElement n ∷ xs) ys = ap (EndElement n ∷◌) (without_append xs ys)

-- The nodes without empty texts are the events without empty texts.
lean_events : (xs : Nodes) → without_empty (events_of_all xs) ≡ events_of_all (lean_nodes xs)
lean_events no_nodes = refl
lean_events (node (characters []) xs) = lean_events xs
lean_events (node (cdata []) xs) = lean_events xs
lean_events (node (characters (c ∷ s)) xs) = ap (Characters (c ∷ s) ∷◌) (lean_events xs)
lean_events (node (cdata (c ∷ s)) xs) = ap (CData (c ∷ s) ∷◌) (lean_events xs)
lean_events (node (element n as' d ys) xs) =
    ap (StartElement n as' d ∷◌) (without_append (events_of_all ys ++ (EndElement n ∷ [])) (events_of_all xs)
    ∙ (ap (λ es. es ++ without_empty (events_of_all xs)) (without_append (events_of_all ys) (EndElement n ∷ []) ∙ ap (λ es. es ++ (EndElement n ∷ [])) (lean_events ys))
    ∙ ap ((events_of_all (lean_nodes ys) ++ (EndElement n ∷ [])) ++◌) (lean_events xs)))

pub lean_document : (n : OwnedName) (as' : List OwnedAttribute) (d : Namespace) (xs : Nodes) → document (lean (element n as' d xs)) ≡ without_empty (document (element n as' d xs))
lean_document n as' d xs = ap (λ es. StartDocument ∷ StartElement n as' d ∷ es) (sym (
    without_append (events_of_all xs ++ (EndElement n ∷ [])) (EndDocument ∷ [])
    ∙ ap (λ es. es ++ (EndDocument ∷ [])) (without_append (events_of_all xs) (EndElement n ∷ []) ∙ ap (λ es. es ++ (EndElement n ∷ [])) (lean_events xs))))

-- What is balanced stays balanced.
pub stays_balanced : (es : List XmlEvent) → IsBalanced es → IsBalanced (without_empty es)
stays_balanced es b = record {
  name = b.name;
  attributes = b.attributes;
  namespace = b.namespace;
  nodes = lean_nodes b.nodes;
  whole = ap without_empty b.whole ∙ sym (lean_document b.name b.attributes b.namespace b.nodes);
}

-- An event more that is kept, and one that isn't.
pub one_event_more : (front : List XmlEvent) (e : XmlEvent) → without_empty (e ∷ []) ≡ e ∷ [] → without_empty front ++ e ∷ [] ≡ without_empty (front ++ e ∷ [])
one_event_more front e h = sym (without_append front (e ∷ []) ∙ ap (without_empty front ++◌) h)

pub one_empty_more : (front : List XmlEvent) (e : XmlEvent) → without_empty (e ∷ []) ≡ [] → without_empty front ≡ without_empty (front ++ e ∷ [])
one_empty_more front e h = sym (without_append front (e ∷ []) ∙ ap (without_empty front ++◌) h ∙ append-nil (without_empty front))
