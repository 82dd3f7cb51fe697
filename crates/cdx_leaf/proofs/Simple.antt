-- Elements that hold a text or nothing, and the steps that read them.
use Rattle.std.proofs.Common.{◌≡◌, ℕ, ◌+◌, List, [], Some, None, Result, Ok, Err, suc, refl, sym, ap, ◌∙◌, arith}
use Rattle.cdx_events.specs.declared.name.OwnedName.{OwnedName}
use Rattle.cdx_events.specs.declared.event.XmlEvent.{XmlEvent}
use Rattle.cdx_events.specs.declared.event.XmlEvent.TheVariants.{EndElement, Characters, CData}
use Rattle.cdx_events.specs.declared.event.EventKind.TheVariants as kinds
use Rattle.cdx_events.specs.Nodes.{Node, Nodes, characters, cdata, element, no_nodes, node}
use Rattle.cdx_models.specs.declared.errors.XmlReadError.{XmlReadError}
use Rattle.cdx_events.specs.Cursor.{Cursor}
use Rattle.cdx_schema.specs.Faults.{unexpected}
use Rattle.cdx_schema.specs.Nodes.{places, places_of}
use Rattle.cdx_schema.specs.Results.{◌>>=◌}
use Rattle.cdx_schema.specs.XmlReading.{after_text, text_in}
use Rattle.cdx_leaf.specs.Reading.{WithinElement, behind_end}
use Rattle.cdx_leaf.specs.Tags.{text_or_none}
use Rattle.cdx_leaf.proofs.Steps.{Took, cursor_is, Ends, at_end, at_text, at_cdata}

-- after the end
pub after_end : (old new : Cursor) (nodes : Nodes) (rest : List XmlEvent) → new.place ≡ old.place + 1 → Ends new nodes rest → new ≡ behind_end old nodes rest
after_end old new nodes rest p e =
    let z : places_of nodes ≡ 0 = ap places_of e.nodes_are in
    cursor_is new (behind_end old nodes rest) (omega arith) e.ahead

-- ---- nothing but the end

pub closing_end : {T : Type 0} (old new : Cursor) (event : XmlEvent) (name m : OwnedName) (t : T) (nodes : Nodes) (rest : List XmlEvent) → event ≡ EndElement m → Took old new event → WithinElement old name nodes rest
    → (after_text t nodes name.local_name old.place ≡ Ok t) × (new ≡ behind_end old nodes rest)
closing_end old new event name m t nodes rest is took at =
    let e = at_end old new event name m nodes rest is at took in
    (ap (λ k. after_text t k name.local_name old.place) e.nodes_are, after_end old new nodes rest took.1 e)

-- ---- one text at most, or exactly one

pub simple_end : (empty : Result (List ℕ) XmlReadError) (old new : Cursor) (event : XmlEvent) (name m : OwnedName) (nodes : Nodes) (rest : List XmlEvent) → event ≡ EndElement m → Took old new event → WithinElement old name nodes rest
    → (text_in empty nodes name.local_name old.place ≡ empty) × (new ≡ behind_end old nodes rest)
simple_end empty old new event name m nodes rest is took at =
    let e = at_end old new event name m nodes rest is at took in
    (ap (λ k. text_in empty k name.local_name old.place) e.nodes_are, after_end old new nodes rest took.1 e)

-- a node of one place was taken, and the rest read to its end
pub past_node : (old mid : Cursor) (item : Node) (nodes others : Nodes) (rest : List XmlEvent) → places item ≡ 1 → nodes ≡ node item others → mid.place ≡ old.place + 1 → behind_end mid others rest ≡ behind_end old nodes rest
past_node old mid item nodes others rest one is p =
    let w : places_of nodes ≡ places item + places_of others = ap places_of is in
    cursor_is (behind_end mid others rest) (behind_end old nodes rest) (omega arith) refl

next_place : (old mid : Cursor) → mid.place ≡ old.place + 1 → suc old.place ≡ mid.place
next_place old mid p = omega arith

pub simple_text : (empty : Result (List ℕ) XmlReadError) (old mid : Cursor) (event : XmlEvent) (name : OwnedName) (u : List ℕ) (nodes : Nodes) (rest : List XmlEvent) → event ≡ Characters u → Took old mid event → WithinElement old name nodes rest
    → (others : Nodes) × WithinElement mid name others rest × (text_in empty nodes name.local_name old.place ≡ after_text u others name.local_name mid.place) × (behind_end mid others rest ≡ behind_end old nodes rest)
simple_text empty old mid event name u nodes rest is took at =
    let f = at_text old mid event name u nodes rest is at took in
    (f.others, f.at, ap (λ k. text_in empty k name.local_name old.place) f.nodes_are ∙ ap (λ q. after_text u f.others name.local_name q) (next_place old mid took.1), past_node old mid (characters u) nodes f.others rest refl f.nodes_are took.1)

pub simple_cdata : (empty : Result (List ℕ) XmlReadError) (old mid : Cursor) (event : XmlEvent) (name : OwnedName) (u : List ℕ) (nodes : Nodes) (rest : List XmlEvent) → event ≡ CData u → Took old mid event → WithinElement old name nodes rest
    → (others : Nodes) × WithinElement mid name others rest × (text_in empty nodes name.local_name old.place ≡ after_text u others name.local_name mid.place) × (behind_end mid others rest ≡ behind_end old nodes rest)
simple_cdata empty old mid event name u nodes rest is took at =
    let f = at_cdata old mid event name u nodes rest is at took in
    (f.others, f.at, ap (λ k. text_in empty k name.local_name old.place) f.nodes_are ∙ ap (λ q. after_text u f.others name.local_name q) (next_place old mid took.1), past_node old mid (cdata u) nodes f.others rest refl f.nodes_are took.1)

-- closing gives its text or fails, whatever the text is
pub closing_with : {S T : Type 0} (name : List ℕ) (s : S) (t : T) (q : ℕ) (nodes : Nodes) → after_text s nodes name q ≡ Ok s → after_text t nodes name q ≡ Ok t
closing_with name s t q no_nodes e = refl
closing_with name s t q (node (characters u) nodes) e = absurd cc
closing_with name s t q (node (cdata u) nodes) e = absurd cc
closing_with name s t q (node (element n a ns kids) nodes) e = absurd cc

-- and fails with the same fault
pub closing_fault : {S T : Type 0} (name : List ℕ) (s : S) (t : T) (q : ℕ) (nodes : Nodes) (f : XmlReadError) → after_text s nodes name q ≡ Err f → after_text t nodes name q ≡ Err f
closing_fault name s t q no_nodes f e = absurd cc
closing_fault name s t q (node (characters u) nodes) f e = let same : unexpected q name kinds.Characters ≡ f = cc in ap (λ x. Err x) same
closing_fault name s t q (node (cdata u) nodes) f e = let same : unexpected q name kinds.CData ≡ f = cc in ap (λ x. Err x) same
closing_fault name s t q (node (element n a ns kids) nodes) f e = let same : unexpected q name kinds.StartElement ≡ f = cc in ap (λ x. Err x) same

-- ---- a text or none

-- an element with a node has no less than a text
pub optional_more : (k : Node) (nodes others : Nodes) (el : List ℕ) (q : ℕ) → nodes ≡ node k others → text_or_none nodes el q ≡ (text_in (Ok []) nodes el q >>= λ s. Ok (Some s))
optional_more k nodes others el q is = ap (λ x. text_or_none x el q) is ∙ ap (λ x. text_in (Ok []) x el q >>= λ s. Ok (Some s)) (sym is)

some_text : (r : Result (List ℕ) XmlReadError) (u : List ℕ) → r ≡ Ok u → (r >>= λ s. Ok (Some s)) ≡ Ok (Some u)
some_text r u e = ap (λ x. x >>= λ s. Ok (Some s)) e

pub optional_ok : (k : Node) (nodes others : Nodes) (el u : List ℕ) (q : ℕ) → nodes ≡ node k others → text_in (Ok []) nodes el q ≡ Ok u → text_or_none nodes el q ≡ Ok (Some u)
optional_ok k nodes others el u q is e = optional_more k nodes others el q is ∙ some_text (text_in (Ok []) nodes el q) u e

pub optional_end : (old new : Cursor) (event : XmlEvent) (name m : OwnedName) (nodes : Nodes) (rest : List XmlEvent) → event ≡ EndElement m → Took old new event → WithinElement old name nodes rest
    → (text_or_none nodes name.local_name old.place ≡ Ok None) × (new ≡ behind_end old nodes rest)
optional_end old new event name m nodes rest is took at =
    let e = at_end old new event name m nodes rest is at took in
    (ap (λ k. text_or_none k name.local_name old.place) e.nodes_are, after_end old new nodes rest took.1 e)
