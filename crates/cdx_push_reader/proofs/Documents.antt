-- A whole document that is fed denotes what the reader answers at the end.
use Rattle.std.specs.Prelude.{Some, Result, Ok, Err, IfOk, IfErr}
use Rattle.std.proofs.Common.{◌≡◌, ◌⊎◌, inl, inr, Bool, true, false, List, [], ◌++◌, refl, sym, subst, ap, ◌∙◌}
use Rattle.std.proofs.lemmas.List.{append-nil}
use Rattle.cdx_events.specs.declared.event.XmlEvent.{XmlEvent}
use Rattle.cdx_events.specs.Nodes.{IsBalanced}
use Rattle.cdx_models.specs.declared.bom.SpecVersion.{SpecVersion}
use Rattle.cdx_models.specs.declared.errors.XmlReadError.{XmlReadError}
use Rattle.cdx_models.specs.declared.errors.XmlReadError.TheVariants.{ElementReadError, UnexpectedElementReadError, RequiredDataMissing, RequiredAttributeMissing, InvalidParseError, InvalidNamespaceError, TooDeep, Memory}
use Rattle.cdx_models.specs.Trees.{Tree}
use Rattle.cdx_schema.specs.Laws.{IsShallow}
use Rattle.cdx_schema.specs.Locality.{balanced_root}
use Rattle.cdx_schema.specs.Roads as roads
use Rattle.cdx_schema.specs.Roads.{from_xml}
use Rattle.cdx_schema.specs.XmlReading.{xml_denotes}
use Rattle.cdx_schema.proofs.FaultPlaces.{refuses_by_faults}
use Rattle.cdx_schema.proofs.Stated.{denotes_shapes}
use Rattle.cdx_leaf.specs.Fault.{Denotes}
use Rattle.cdx_leaf.proofs.Roots.{same_root}
use Rattle.cdx_schema.specs.Early.{IsFrontFault, IsEarly, whole, broken}
use Rattle.cdx_schema.proofs.EarlyFaults.{root_same, front_inside}
use Rattle.cdx_push_reader.specs.PushAnswers.{IsRefusedFor, Finishes, is_want}
use Rattle.cdx_push_reader.specs.Documents.{ReadsDocument, IsRefusal}

-- the early fault of a whole document is its first fault
early_denotes : (v : SpecVersion) (events : List XmlEvent) (f : XmlReadError) → IsEarly v events (Some f) → (b : IsBalanced events) → xml_denotes (balanced_root b) v ≡ Err f
early_denotes v events f (whole c inside h e) b =
    let i = front_inside v events f (subst (λ o. IsFrontFault v events o) (sym e) h) in
    let d : IsBalanced (events ++ []) = subst IsBalanced (sym (append-nil events)) b in
    ap (λ x. xml_denotes x v) (sym (root_same (events ++ []) events d b (append-nil events))) ∙ i.blocks [] d
early_denotes v events f (broken p c inside h e) b = absurd (c.unbalanced b)

refused_denotes : (v : SpecVersion) (events : List XmlEvent) (f : XmlReadError) (b : IsBalanced events) → IsRefusedFor v events f → xml_denotes (balanced_root b) v ≡ Err f
refused_denotes v events f b (inl h) = early_denotes v events f h b
refused_denotes v events f b (inr h) = absurd (h.1 b)

abbrev pub Answered : {X : Type 0} → (X → Tree) → SpecVersion → List XmlEvent → Result X XmlReadError → Type 0
Answered tree v events result = Finishes tree v events result ⊎ (is_want result ≡ true)

root_denotes : {X : Type 0} (tree : X → Tree) (v : SpecVersion) (events : List XmlEvent) (b : IsBalanced events) (result : Result X XmlReadError) → Answered tree v events result → Denotes tree (xml_denotes (balanced_root b) v) result
root_denotes tree v events b (Ok x) (inl h) = ap (λ y. xml_denotes y v) (root_same events events b h.balanced refl) ∙ h.denotes
root_denotes tree v events b (Ok x) (inr w) = absurd (no w)
  where
    no : false ≡ true → ⊥
    no h = absurd cc
root_denotes tree v events b (Err (Memory m)) h = tt
root_denotes tree v events b (Err (ElementReadError k p)) (inl h) = refused_denotes v events (ElementReadError k p) b h
root_denotes tree v events b (Err (UnexpectedElementReadError p el k)) (inl h) = refused_denotes v events (UnexpectedElementReadError p el k) b h
root_denotes tree v events b (Err (RequiredDataMissing p el k)) (inl h) = refused_denotes v events (RequiredDataMissing p el k) b h
root_denotes tree v events b (Err (RequiredAttributeMissing p el k)) (inl h) = refused_denotes v events (RequiredAttributeMissing p el k) b h
root_denotes tree v events b (Err (InvalidParseError p el k t)) (inl h) = refused_denotes v events (InvalidParseError p el k t) b h
root_denotes tree v events b (Err (InvalidNamespaceError x y)) (inl h) = refused_denotes v events (InvalidNamespaceError x y) b h
root_denotes tree v events b (Err (TooDeep p)) (inl h) = refused_denotes v events (TooDeep p) b h
root_denotes tree v events b (Err (ElementReadError k p)) (inr w) = absurd cc
root_denotes tree v events b (Err (UnexpectedElementReadError p el k)) (inr w) = absurd cc
root_denotes tree v events b (Err (RequiredDataMissing p el k)) (inr w) = absurd cc
root_denotes tree v events b (Err (RequiredAttributeMissing p el k)) (inr w) = absurd cc
root_denotes tree v events b (Err (InvalidParseError p el k t)) (inr w) = absurd cc
root_denotes tree v events b (Err (InvalidNamespaceError x y)) (inr w) = absurd cc
root_denotes tree v events b (Err (TooDeep p)) (inr w) = absurd cc

pub reads_document : {X : Type 0} (tree : X → Tree) (v : SpecVersion) (events : List XmlEvent) (b : IsBalanced events) (result : Result X XmlReadError) → Answered tree v events result → ReadsDocument tree events v result
reads_document tree v events b result h root is = subst (λ y. Denotes tree (xml_denotes y v) result) (same_root root b.name b.attributes b.namespace b.nodes (sym b.whole ∙ is)) (root_denotes tree v events b result h)

-- what was read is shallow
pub reads_shallow : {X : Type 0} (tree : X → Tree) (v : SpecVersion) (events : List XmlEvent) (b : IsBalanced events) (result : Result X XmlReadError) → ReadsDocument tree events v result → IfOk result (λ x. IsShallow (tree x))
reads_shallow tree v events b (Ok x) h = (denotes_shapes (roads.xml (balanced_root b)) v (tree x) (ap from_xml (h (balanced_root b) b.whole))).1
reads_shallow tree v events b (Err e) h = tt

-- and refused with a fault of documents
pub reads_refused : {X : Type 0} (tree : X → Tree) (v : SpecVersion) (events : List XmlEvent) (b : IsBalanced events) (result : Result X XmlReadError) → ReadsDocument tree events v result → IfErr result IsRefusal
reads_refused tree v events b (Ok x) h = tt
reads_refused tree v events b (Err (Memory m)) h = tt
reads_refused tree v events b (Err (UnexpectedElementReadError p around found)) h = tt
reads_refused tree v events b (Err (RequiredDataMissing p around missed)) h = tt
reads_refused tree v events b (Err (InvalidParseError p around value type)) h = tt
reads_refused tree v events b (Err (InvalidNamespaceError expected actual)) h = tt
reads_refused tree v events b (Err (TooDeep p)) h = tt
reads_refused tree v events b (Err (ElementReadError kind p)) h = refuses_by_faults (balanced_root b) v (ElementReadError kind p) (h (balanced_root b) b.whole)
reads_refused tree v events b (Err (RequiredAttributeMissing p around missed)) h = refuses_by_faults (balanced_root b) v (RequiredAttributeMissing p around missed) (h (balanced_root b) b.whole)

pub answered : {X : Type 0} (tree : X → Tree) (v w : SpecVersion) (taken list : List XmlEvent) (result : Result X XmlReadError) (spent : Bool) → (spent ≡ false → Finishes tree v taken result) → (spent ≡ true → is_want result ≡ true) → v ≡ w → taken ≡ list → Answered tree w list result
answered tree v w taken list result false f g i j = inl (subst (λ u. Finishes tree u list result) i (subst (λ es. Finishes tree v es result) j (f refl)))
answered tree v w taken list result true f g i j = inr (g refl)
