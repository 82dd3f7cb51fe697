-- root_of gives the one root of a balanced list, and nothing of any other.
use Rattle.std.proofs.Common.{◌≡◌, Bool, true, false, cond, List, [], ◌∷◌, ◌++◌, Option, Some, None, refl, sym, ap, ◌∙◌, append_assoc}
use Rattle.cdx_events.specs.declared.name.OwnedName.{OwnedName}
use Rattle.cdx_events.specs.declared.name.OwnedAttribute.{OwnedAttribute}
use Rattle.cdx_events.specs.declared.name.Namespace.{Namespace}
use Rattle.cdx_events.specs.declared.event.XmlEvent.{XmlEvent}
use Rattle.cdx_events.specs.declared.event.XmlEvent.TheVariants.{StartDocument, EndDocument, StartElement, EndElement, Characters, CData}
use Rattle.cdx_events.specs.Name.{same_name}
use Rattle.cdx_events.specs.Nodes.{Node, Nodes, characters, cdata, element, no_nodes, node, events_of, events_of_all, document}
use Rattle.cdx_events.specs.Balance.{OpenElement, opened}
use Rattle.cdx_events.specs.Root.{then, with, node_of, element_ended, element_opened, root_in, root_after, root_of}
use Rattle.cdx_events.proofs.Names.{equal_name-true, equal_name-same}
use Rattle.cdx_events.proofs.Hears.{opened_with, opened_end}

-- ---- complete

abbrev join : Nodes → Nodes → Nodes
join no_nodes ks = ks
join (node j js) ks = node j (join js ks)

join_none : (js : Nodes) → join js no_nodes ≡ js
join_none no_nodes = refl
join_none (node j js) = ap (λ x. node j x) (join_none js)

join_then : (js : Nodes) (k : Node) (ks : Nodes) → join (then js k) ks ≡ join js (node k ks)
join_then no_nodes k ks = refl
join_then (node j js) k ks = ap (λ x. node j x) (join_then js k ks)

abbrev adds : OpenElement → Nodes → OpenElement
adds f ks = record f { before = join f.before ks }

adds_none : (f : OpenElement) → adds f no_nodes ≡ f
adds_none f = ap (λ (b : Nodes). record f { before = b }) (join_none f.before)

adds_more : (f : OpenElement) (k : Node) (ks : Nodes) → adds (with f k) ks ≡ adds f (node k ks)
adds_more f k ks = ap (λ (b : Nodes). record f { before = b }) (join_then f.before k ks)

mutual
  takes : (k : Node) (f : OpenElement) (fs : List OpenElement) (rest : List XmlEvent) → root_in f fs (events_of k ++ rest) ≡ root_in (with f k) fs rest
  takes (characters t) f fs rest = refl
  takes (cdata t) f fs rest = refl
  takes (element m a s kids) f fs rest =
      ap (λ es. root_in (element_opened m a s) (f ∷ fs) es) (append_assoc (events_of_all kids) (EndElement m ∷ []) rest)
      ∙ takes_all kids (element_opened m a s) (f ∷ fs) (EndElement m ∷ rest)
      ∙ ap (λ b. cond b (root_in (with f (element m a s kids)) fs rest) None) (equal_name-same m)

  takes_all : (ks : Nodes) (f : OpenElement) (fs : List OpenElement) (rest : List XmlEvent) → root_in f fs (events_of_all ks ++ rest) ≡ root_in (adds f ks) fs rest
  takes_all no_nodes f fs rest = ap (λ g. root_in g fs rest) (sym (adds_none f))
  takes_all (node k ks) f fs rest =
      ap (λ es. root_in f fs es) (append_assoc (events_of k) (events_of_all ks) rest)
      ∙ takes k f fs (events_of_all ks ++ rest)
      ∙ takes_all ks (with f k) fs rest
      ∙ ap (λ g. root_in g fs rest) (adds_more f k ks)

pub root_is : (n : OwnedName) (a : List OwnedAttribute) (s : Namespace) (nodes : Nodes) → root_of (document (element n a s nodes)) ≡ Some (record { name = n; attributes = a; namespace = s; before = nodes })
unfolding root_of
root_is n a s nodes =
    ap (λ es. root_in (element_opened n a s) [] es) (append_assoc (events_of_all nodes) (EndElement n ∷ []) (EndDocument ∷ []))
    ∙ takes_all nodes (element_opened n a s) [] (EndElement n ∷ EndDocument ∷ [])
    ∙ ap (λ b. cond b (Some (record { name = n; attributes = a; namespace = s; before = nodes })) None) (equal_name-same n)

-- ---- sound

abbrev whole : OpenElement → List XmlEvent
whole r = document (element r.name r.attributes r.namespace r.before)

ended_is : (f r : OpenElement) (es : List XmlEvent) → element_ended f es ≡ Some r → (es ≡ EndDocument ∷ []) × (f ≡ r)
ended_is f r [] e = absurd cc
ended_is f r (EndDocument ∷ []) e = (refl, cc)
ended_is f r (EndDocument ∷ x ∷ es) e = absurd cc
ended_is f r (x ∷ es) e = absurd cc

chosen : {A : Type 0} (b : Bool) (o : Option A) (x : A) → cond b o None ≡ Some x → (b ≡ true) × (o ≡ Some x)
chosen true o x e = (refl, e)
chosen false o x e = absurd cc

sound_in : (es : List XmlEvent) (f : OpenElement) (fs : List OpenElement) (r : OpenElement) → root_in f fs es ≡ Some r → StartDocument ∷ opened (f ∷ fs) ++ es ≡ whole r
sound_in [] f fs r e = absurd cc
sound_in (StartElement n a s ∷ es) f fs r e =
    ap (λ x. StartDocument ∷ x) (sym (append_assoc (opened (f ∷ fs)) (StartElement n a s ∷ []) es)) ∙ sound_in es (element_opened n a s) (f ∷ fs) r e
sound_in (Characters t ∷ es) f fs r e =
    ap (λ x. StartDocument ∷ x) (sym (append_assoc (opened (f ∷ fs)) (Characters t ∷ []) es) ∙ ap (λ y. y ++ es) (sym (opened_with f fs (characters t)))) ∙ sound_in es (with f (characters t)) fs r e
sound_in (CData t ∷ es) f fs r e =
    ap (λ x. StartDocument ∷ x) (sym (append_assoc (opened (f ∷ fs)) (CData t ∷ []) es) ∙ ap (λ y. y ++ es) (sym (opened_with f fs (cdata t)))) ∙ sound_in es (with f (cdata t)) fs r e
sound_in (EndElement m ∷ es) f [] r e =
    let c = chosen (same_name f.name m) (element_ended f es) r e in
    let d = ended_is f r es c.1 in
    let same : f.name ≡ m = equal_name-true f.name m c.0 in
    ap (λ x. StartDocument ∷ opened (f ∷ []) ++ EndElement x ∷ es) (sym same)
    ∙ ap (λ x. StartDocument ∷ opened (f ∷ []) ++ EndElement f.name ∷ x) d.0
    ∙ ap (λ x. StartDocument ∷ StartElement f.name f.attributes f.namespace ∷ x) (sym (append_assoc (events_of_all f.before) (EndElement f.name ∷ []) (EndDocument ∷ [])))
    ∙ ap whole d.1
sound_in (EndElement m ∷ es) f (g ∷ fs) r e =
    let c = chosen (same_name f.name m) (root_in (with g (node_of f)) fs es) r e in
    let same : f.name ≡ m = equal_name-true f.name m c.0 in
    ap (λ x. StartDocument ∷ opened (f ∷ g ∷ fs) ++ EndElement x ∷ es) (sym same)
    ∙ ap (λ x. StartDocument ∷ x) (sym (append_assoc (opened (f ∷ g ∷ fs)) (EndElement f.name ∷ []) es) ∙ ap (λ y. y ++ es) (opened_end f g fs))
    ∙ sound_in es (with g (node_of f)) fs r c.1
sound_in (StartDocument ∷ es) f fs r e = absurd cc
sound_in (EndDocument ∷ es) f fs r e = absurd cc

sound_after : (es : List XmlEvent) (r : OpenElement) → root_after es ≡ Some r → StartDocument ∷ es ≡ whole r
sound_after (StartElement n a s ∷ es) r e = sound_in es (element_opened n a s) [] r e
sound_after [] r e = absurd cc
sound_after (x ∷ es) r e = absurd cc

pub root_whole : (es : List XmlEvent) (r : OpenElement) → root_of es ≡ Some r → es ≡ whole r
unfolding root_of
root_whole (StartDocument ∷ es) r e = sound_after es r e
root_whole [] r e = absurd cc
root_whole (x ∷ es) r e = absurd cc

-- a list has one root
pub one_root : (n m : OwnedName) (a b : List OwnedAttribute) (s t : Namespace) (ks js : Nodes) → document (element n a s ks) ≡ document (element m b t js) → (n ≡ m) × (a ≡ b) × (s ≡ t) × (ks ≡ js)
one_root n m a b s t ks js e =
    let same = sym (root_is n a s ks) ∙ ap root_of e ∙ root_is m b t js in
    let frames : (record { name = n; attributes = a; namespace = s; before = ks }) ≡ (record { name = m; attributes = b; namespace = t; before = js }) = cc in
    (ap (λ (f : OpenElement). f.name) frames, ap (λ (f : OpenElement). f.attributes) frames, ap (λ (f : OpenElement). f.namespace) frames, ap (λ (f : OpenElement). f.before) frames)
