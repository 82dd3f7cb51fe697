-- The texts of an element are in UTF-8 where those of its events are.
use Rattle.std.specs.Prelude.{◌≡◌, ℕ, List, [], ◌∷◌, ◌++◌, ◌&&◌, true}
use Rattle.std.specs.List.{list_all}
use Rattle.std.specs.Str.{IsUtf8, is_utf8}
use Rattle.std.proofs.lemmas.Str.{IsUtf8-from_is_utf8}
use Rattle.std.proofs.lemmas.List.Folds.{list_all-append}
use mathlib.Core.Path.{◌∙◌, sym, subst}
use Rattle.cdx_events.specs.declared.name.OwnedAttribute.{OwnedAttribute}
use Rattle.cdx_events.specs.declared.event.XmlEvent.{XmlEvent}
use Rattle.cdx_events.specs.declared.event.XmlEvent.TheVariants.{EndElement, EndDocument}
use Rattle.cdx_events.specs.declared.events.Events.{Events}
use Rattle.cdx_events.specs.Utf8.{value_in_utf8, in_utf8}
use Rattle.cdx_events.specs.Nodes.{Node, characters, cdata, element, Nodes, no_nodes, node, events_of, events_of_all, document}
use Rattle.cdx_schema.specs.Texts.{AttributeTexts, NodeTexts, NodesTexts}
use Rattle.cdx_schema.proofs.JsonBack.{and_true}

-- the front of a list whose events are all in UTF-8, and its back
parts : (xs ys : List XmlEvent) → list_all in_utf8 (xs ++ ys) ≡ true → (list_all in_utf8 xs ≡ true) × (list_all in_utf8 ys ≡ true)
parts xs ys h = and_true (list_all in_utf8 xs) (list_all in_utf8 ys) (sym (list_all-append in_utf8 xs ys) ∙ h)

attribute_texts : (as' : List OwnedAttribute) → list_all value_in_utf8 as' ≡ true → AttributeTexts IsUtf8 as'
attribute_texts [] h = tt
attribute_texts (a ∷ as') h =
    let p = and_true (is_utf8 a.value) (list_all value_in_utf8 as') h in
    (IsUtf8-from_is_utf8 a.value p.0, attribute_texts as' p.1)

-- the one event of a text
lone_text : (s : List ℕ) → (is_utf8 s && true) ≡ true → IsUtf8 s
lone_text s h = IsUtf8-from_is_utf8 s (and_true (is_utf8 s) true h).0

mutual
  node_texts : (x : Node) → list_all in_utf8 (events_of x) ≡ true → NodeTexts IsUtf8 x
  node_texts (characters s) h = lone_text s h
  node_texts (cdata s) h = lone_text s h
  node_texts (element n as' default xs) h =
      let p = and_true (list_all value_in_utf8 as') (list_all in_utf8 (events_of_all xs ++ EndElement n ∷ [])) h in
      (attribute_texts as' p.0, nodes_texts xs (parts (events_of_all xs) (EndElement n ∷ []) p.1).0)

  nodes_texts : (xs : Nodes) → list_all in_utf8 (events_of_all xs) ≡ true → NodesTexts IsUtf8 xs
  nodes_texts no_nodes h = tt
  nodes_texts (node x xs) h =
      let p = parts (events_of x) (events_of_all xs) h in
      (node_texts x p.0, nodes_texts xs p.1)

pub root_texts : (events : Events) (x : Node) → events.list ≡ document x → NodeTexts IsUtf8 x
root_texts events x e =
    let h = subst (λ es. list_all in_utf8 es ≡ true) e events.utf8 in
    node_texts x (parts (events_of x) (EndDocument ∷ []) (and_true true (list_all in_utf8 (events_of x ++ EndDocument ∷ [])) h).1).0
