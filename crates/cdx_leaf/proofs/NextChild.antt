-- A loop over the children of an element, by its pieces: the next child, reading it, and leaving it.
use Rattle.std.proofs.Common.{◌≡◌, ℕ, suc, ◌+◌, ◌≤◌, ◌<◌, List, ◌∷◌, ◌++◌, length, Bool, true, false, Option, Some, None, Result, Ok, Err, refl, sym, ap, ◌∙◌, subst, arith, length-append}
use Rattle.std.specs.Prelude.{if◌then◌else◌, IfSome}
use Rattle.cdx_events.specs.declared.name.OwnedName.{OwnedName}
use Rattle.cdx_events.specs.declared.name.OwnedAttribute.{OwnedAttribute}
use Rattle.cdx_events.specs.declared.name.Namespace.{Namespace}
use Rattle.cdx_events.specs.declared.event.XmlEvent.{XmlEvent}
use Rattle.cdx_events.specs.declared.event.XmlEvent.TheVariants.{StartDocument, EndDocument, StartElement, EndElement, Characters, CData}
use Rattle.cdx_events.specs.declared.event.EventKind.TheVariants as kinds
use Rattle.cdx_events.specs.declared.event.EventKind.{EventKind}
use Rattle.cdx_events.specs.Event.{event_kind}
use Rattle.cdx_events.specs.Nodes.{Node, Nodes, characters, cdata, element, no_nodes, node, events_of_all}
use Rattle.cdx_events.specs.Cursor.{Cursor}
use Rattle.cdx_models.specs.declared.errors.XmlReadError.{XmlReadError}
use Rattle.cdx_models.specs.declared.errors.XmlReadError.TheVariants as errors
use Rattle.cdx_models.specs.declared.bom.SpecVersion.{SpecVersion}
use Rattle.cdx_models.specs.Trees.{Trees}
use Rattle.cdx_schema.specs.Depth.{Depth}
use Rattle.cdx_schema.specs.Faults.{unexpected}
use Rattle.cdx_schema.specs.Nodes.{places, places_of}
use Rattle.cdx_schema.specs.Results.{◌>>=◌}
use Rattle.cdx_schema.specs.XmlReading.{Plan, unknown}
use Rattle.cdx_leaf.specs.declared.start.Start.{Start}
use Rattle.cdx_leaf.specs.declared.rule.Rule.{Rule}
use Rattle.cdx_leaf.specs.declared.taken.Taken.{Taken}
use Rattle.cdx_leaf.specs.declared.taken.Taken.TheVariants as answers
use Rattle.cdx_leaf.specs.Children.{Met, nothing, second, found, met, ReadsChild, TakesChild}
use Rattle.cdx_leaf.specs.Each.{each_node, plan_step}
use Rattle.cdx_leaf.specs.Fault.{FailsAt, Refused, within}
use Rattle.cdx_leaf.specs.NextChild.{no_more, past_texts, IsLeft, MeetsChild, Meets, LeavesChild}
use Rattle.cdx_leaf.specs.Reading.{WithinElement, IsAt, IsIn, behind_end, kind_of_node}
use Rattle.cdx_leaf.specs.Rules.{skips, passes, as_rule}
use Rattle.cdx_leaf.proofs.ChildSteps.{then_read, child_step, text_passes, cdata_passes, stray_fails, unknown_passes, unknown_fails, was_unknown}
use Rattle.cdx_leaf.proofs.Loop.{InLoop, fails_along}
use Rattle.cdx_leaf.proofs.Skip.{length_all}
use Rattle.cdx_leaf.proofs.Steps.{Took, cursor_is, at_end, at_start, at_text, at_cdata, at_other, at_document, at_document_end}

-- ---- the texts before a child

-- Of the nodes of an element that is read from old on, some are left at c, and only texts that the rule passes over stand before them.
pub record PastTexts (r : Rule) (old c : Cursor) (name : OwnedName) (nodes : Nodes) (rest : List XmlEvent) : Type 0 where
  pub left : Nodes
  pub at : WithinElement c name left rest
  pub is_left : IsLeft old nodes c.place left
  pub grown : old.place ≤ c.place
  pub same : past_texts r left ≡ past_texts r nodes

text_past : (r : Rule) (t : List ℕ) (ks : Nodes) → passes r ≡ true → past_texts r (node (characters t) ks) ≡ past_texts r ks
text_past r t ks does = ap (λ b. if b then past_texts r ks else node (characters t) ks) does

cdata_past : (r : Rule) (t : List ℕ) (ks : Nodes) → passes r ≡ true → past_texts r (node (cdata t) ks) ≡ past_texts r ks
cdata_past r t ks does = ap (λ b. if b then past_texts r ks else node (cdata t) ks) does

-- nothing is passed over
stays : (r : Rule) (nodes : Nodes) → passes r ≡ false → past_texts r nodes ≡ nodes
stays r no_nodes never = refl
stays r (node (characters t) ks) never = ap (λ b. if b then past_texts r ks else node (characters t) ks) never
stays r (node (cdata t) ks) never = ap (λ b. if b then past_texts r ks else node (cdata t) ks) never
stays r (node (element n a s kids) ks) never = refl

refused_fails : (X : Type 0) (e : XmlReadError) (p place : ℕ) (el : List ℕ) (kind k : EventKind) → Refused {X = X} (Err e) (unexpected p el kind) → k ≡ kind → place ≤ p + 1 → FailsAt e place (no_more (unexpected p el k))
refused_fails X (errors.Memory m) p place el kind k h is near = tt
refused_fails X e p place el kind k h is near = (ap (λ x. Err (unexpected p el x)) is ∙ ap (λ f. Err f) (sym h), subst (λ f. within place f) (sym h) near)

module _ (r : Rule) (old : Cursor) (name : OwnedName) (nodes : Nodes) (rest : List XmlEvent) where
  pub texts_init : WithinElement old name nodes rest → PastTexts r old old name nodes rest
  texts_init a = record { left = nodes; at = a; is_left = refl; grown = omega arith; same = refl }

  -- the element's end was taken
  pub texts_end : (mid new : Cursor) (event : XmlEvent) (m : OwnedName) → event ≡ EndElement m → Took mid new event → PastTexts r old mid name nodes rest → Meets r old new name nodes rest (Ok None)
  texts_end mid new event m is took l =
      let e = at_end mid new event name m l.left rest is l.at took in
      let z : places_of l.left ≡ 0 = ap places_of e.nodes_are in
      (sym l.same ∙ ap (past_texts r) e.nodes_are, cursor_is new (behind_end old nodes rest) (omega (arith, l.is_left, took.1)) e.ahead)

  -- a child's start was taken
  pub texts_start : (mid new : Cursor) (event : XmlEvent) (child : Start) (ns : Namespace) → event ≡ StartElement child.element.now child.attributes.now ns → child.place ≡ mid.place → Took mid new event → PastTexts r old mid name nodes rest → Meets r old new name nodes rest (Ok (Some child))
  texts_start mid new event child ns is place took l =
      let e = at_start mid new event name child.element.now child.attributes.now ns l.left rest is l.at took in
      let here : past_texts r nodes ≡ node (element child.element.now child.attributes.now ns e.kids) e.others = sym l.same ∙ ap (past_texts r) e.nodes_are in
      let w : places_of (past_texts r nodes) ≡ places_of l.left = ap places_of here ∙ ap places_of (sym e.nodes_are) in
      record {
        namespace = ns;
        kids = e.kids;
        others = e.others;
        first = here;
        stands = record { place = omega (arith, e.stands.place); at = e.stands.at };
        is_left = omega (arith, l.is_left);
      }

  -- a text is refused
  pub texts_refused : (mid new : Cursor) (event : XmlEvent) (place : ℕ) (result : Result (Option Start) XmlReadError) → passes r ≡ false → ((n : OwnedName) (a : List OwnedAttribute) (s : Namespace) → event ≡ StartElement n a s → ⊥) → ((m : OwnedName) → event ≡ EndElement m → ⊥) → place ≡ mid.place → Refused result (unexpected place name.local_name (event_kind event)) → Took mid new event → PastTexts r old mid name nodes rest → Meets r old new name nodes rest result
  texts_refused mid new event place (Ok x) never x' y at refused took l = absurd refused
  texts_refused mid new event place (Err e) never start end at refused took l =
      let b = at_other mid new event name l.left rest end l.at took in
      let here : past_texts r nodes ≡ node b.item b.others = sym l.same ∙ stays r l.left never ∙ b.nodes_are in
      let w : places_of (past_texts r nodes) ≡ places_of l.left = ap places_of here ∙ ap places_of (sym b.nodes_are) in
      record {
        text = b.item;
        others = b.others;
        place = mid.place;
        first = here;
        no_child = no_start b.item (λ n a s kids x. start n a s (b.started n a s kids x));
        is_left = omega (arith, l.is_left);
        grown = omega (arith, took.1, l.grown);
        fails = refused_fails (Option Start) e mid.place new.place name.local_name (event_kind event) (kind_of_node b.item) (subst (λ q. Refused {X = Option Start} (Err e) (unexpected q name.local_name (event_kind event))) at refused) b.kind_is (omega (arith, took.1));
      }
    where
      no_start : (k : Node) → ((n : OwnedName) (a : List OwnedAttribute) (s : Namespace) (kids : Nodes) → k ≡ element n a s kids → ⊥) → kind_of_node k ≡ kinds.StartElement → ⊥
      no_start (characters t) h x = absurd cc
      no_start (cdata t) h x = absurd cc
      no_start (element n a s kids) h x = h n a s kids refl

  -- a text is passed over
  pub texts_pass : (mid new : Cursor) (event : XmlEvent) → passes r ≡ true → ((n : OwnedName) (a : List OwnedAttribute) (s : Namespace) → event ≡ StartElement n a s → ⊥) → ((m : OwnedName) → event ≡ EndElement m → ⊥) → Took mid new event → PastTexts r old mid name nodes rest → PastTexts r old new name nodes rest
  texts_pass mid new StartDocument does x y took l = absurd (at_document mid new name l.left rest l.at took)
  texts_pass mid new EndDocument does x y took l = absurd (at_document_end mid new name l.left rest l.at took)
  texts_pass mid new (StartElement n a s) does x y took l = absurd (x n a s refl)
  texts_pass mid new (EndElement m) does x y took l = absurd (y m refl)
  texts_pass mid new (Characters t) does x y took l =
      let f = at_text mid new (Characters t) name t l.left rest refl l.at took in
      let w : places_of l.left ≡ 1 + places_of f.others = ap places_of f.nodes_are in
      record { left = f.others; at = f.at; is_left = omega (arith, l.is_left, took.1); grown = omega (arith, took.1, l.grown); same = sym (text_past r t f.others does) ∙ ap (past_texts r) (sym f.nodes_are) ∙ l.same }
  texts_pass mid new (CData t) does x y took l =
      let f = at_cdata mid new (CData t) name t l.left rest refl l.at took in
      let w : places_of l.left ≡ 1 + places_of f.others = ap places_of f.nodes_are in
      record { left = f.others; at = f.at; is_left = omega (arith, l.is_left, took.1); grown = omega (arith, took.1, l.grown); same = sym (cdata_past r t f.others does) ∙ ap (past_texts r) (sym f.nodes_are) ∙ l.same }

-- the next child is of the element's version
pub of_version : (o : Option Start) (child : Start) (v : SpecVersion) → o ≡ Some child → IfSome o (λ c. c.version ≡ v) → child.version ≡ v
of_version o child v is h = subst (λ x. IfSome x (λ c. c.version ≡ v)) is h

-- ---- what a plan makes of the texts before a child: nothing

one_past : (b : Bool) (k : Node) (ks left : Nodes) → places_of left ≤ places_of ks → places_of (if b then left else node k ks) ≤ places k + places_of ks
one_past true k ks left h = omega (arith, h)
one_past false k ks left h = omega arith

places_past : (r : Rule) (nodes : Nodes) → places_of (past_texts r nodes) ≤ places_of nodes
places_past r no_nodes = omega arith
places_past r (node (characters t) ks) = one_past (passes r) (characters t) ks (past_texts r ks) (places_past r ks)
places_past r (node (cdata t) ks) = one_past (passes r) (cdata t) ks (past_texts r ks) (places_past r ks)
places_past r (node (element n a s kids) ks) = omega arith

past_starts : (r : Rule) (nodes : Nodes) (k : Node) (others : Nodes) → passes r ≡ true → past_texts r nodes ≡ node k others → kind_of_node k ≡ kinds.StartElement
past_starts r no_nodes k others does e = absurd cc
past_starts r (node (characters t) ks) k others does e = past_starts r ks k others does (sym (text_past r t ks does) ∙ e)
past_starts r (node (cdata t) ks) k others does e = past_starts r ks k others does (sym (cdata_past r t ks does) ∙ e)
past_starts r (node (element n a s kids) ks) k others does e = let same : k ≡ element n a s kids = cc in ap kind_of_node same

-- a text is left only where texts are refused
never_passes : (r : Rule) (nodes : Nodes) (k : Node) (others : Nodes) → past_texts r nodes ≡ node k others → (kind_of_node k ≡ kinds.StartElement → ⊥) → passes r ≡ false
never_passes r nodes k others first text = go (passes r) refl
  where
    go : (b : Bool) → passes r ≡ b → b ≡ false
    go true does = absurd (text (past_starts r nodes k others does first))
    go false is = refl

module _ (plan : Plan) (v : SpecVersion) (d : Depth) (el : List ℕ) (r : Rule) (ruled : plan.rule ≡ as_rule r) where
  abbrev step : Node → ℕ → Trees → Result Trees XmlReadError
  step = plan_step plan v d el

  text_step : (b : Bool) (k : Node) (ks left : Nodes) (q p : ℕ) (s : Trees) → places k ≡ 1 → (b ≡ true → step k q s ≡ Ok s) → (p + places_of left ≡ (q + 1) + places_of ks → each_node step left p s ≡ each_node step ks (q + 1) s)
      → p + places_of (if b then left else node k ks) ≡ q + places_of (node k ks) → each_node step (if b then left else node k ks) p s ≡ each_node step (node k ks) q s
  text_step true k ks left q p s one passed rest e =
      rest (omega (arith, e, one)) ∙ ap (λ x. each_node step ks (q + x) s) (sym one) ∙ sym (ap (λ x. x >>= λ next. each_node step ks (q + places k) next) (passed refl))
  text_step false k ks left q p s one passed rest e = let same : p ≡ q = omega (arith, e) in ap (λ x. each_node step (node k ks) x s) same

  each_past : (nodes : Nodes) (q p : ℕ) (s : Trees) → p + places_of (past_texts r nodes) ≡ q + places_of nodes → each_node step (past_texts r nodes) p s ≡ each_node step nodes q s
  each_past no_nodes q p s e = refl
  each_past (node (characters t) ks) q p s e = text_step (passes r) (characters t) ks (past_texts r ks) q p s refl (text_passes plan v d el r t q s ruled) (λ h. each_past ks (q + 1) p s h) e
  each_past (node (cdata t) ks) q p s e = text_step (passes r) (cdata t) ks (past_texts r ks) q p s refl (cdata_passes plan v d el r t q s ruled) (λ h. each_past ks (q + 1) p s h) e
  each_past (node (element n a ns kids) ks) q p s e = let same : p ≡ q = omega (arith, e) in ap (λ x. each_node step (node (element n a ns kids) ks) x s) same

never_skips : (b : Bool) → (if b then false else true) ≡ true → b ≡ false
never_skips true x = absurd cc
never_skips false x = refl

does_skip : (b : Bool) → (if b then false else true) ≡ false → b ≡ true
does_skip true x = refl
does_skip false x = absurd cc

-- ---- the loop over children, as `InLoop` tells of it

-- The loop reads an element of this name by a plan of this rule, from old on, beginning with these fields; l tells what is left at mid.
module _ (plan : Plan) (v : SpecVersion) (depth : Depth → Depth) (d : Depth) (name : OwnedName) (r : Rule) (ruled : plan.rule ≡ as_rule r) (old : Cursor) (start : Trees) (nodes : Nodes) (rest : List XmlEvent) where
  abbrev reading : Node → ℕ → Trees → Result Trees XmlReadError
  reading = plan_step plan v (depth d) name.local_name

  -- the place within the loop
  abbrev pub Inside : Cursor → Trees → Type 0
  Inside c s = InLoop reading old c name nodes rest start s

  -- what all nodes make, of the first that is left
  from_here : (mid : Cursor) (s : Trees) (l : Inside mid s) (k : Node) (others : Nodes) (p : ℕ) → past_texts r l.left ≡ node k others → IsLeft mid l.left p (past_texts r l.left) → each_node reading nodes old.place start ≡ (reading k p s >>= λ next. each_node reading others (p + places k) next)
  from_here mid s l k others p first left =
      sym l.same ∙ sym (each_past plan v (depth d) name.local_name r ruled l.left mid.place p s left) ∙ ap (λ ks. each_node reading ks p s) first

  -- the end was taken
  pub no_child_left : (mid new : Cursor) (s : Trees) (l : Inside mid s) (o : Option Start) → Meets r mid new name l.left rest (Ok o) → ((child : Start) → o ≡ Some child → ⊥) → (each_node reading nodes old.place start ≡ Ok s) × (new ≡ behind_end old nodes rest)
  no_child_left mid new s l (Some child) m other = absurd (other child refl)
  no_child_left mid new s l None m other =
      let p = mid.place + places_of l.left in
      let none : places_of (past_texts r l.left) ≡ 0 = ap places_of m.0 in
      let left : p + places_of (past_texts r l.left) ≡ mid.place + places_of l.left = omega arith in
      let placed : new.place ≡ mid.place + places_of l.left + 1 = ap (λ (c : Cursor). c.place) m.1 in
      (sym l.same ∙ sym (each_past plan v (depth d) name.local_name r ruled l.left mid.place p s left) ∙ ap (λ ks. each_node reading ks p s) m.0, cursor_is new (behind_end old nodes rest) (omega (arith, l.place)) (ap (λ (c : Cursor). c.ahead) m.1))

  -- a text was refused
  pub next_fails : (mid new : Cursor) (s : Trees) (l : Inside mid s) (e : XmlReadError) → Meets r mid new name l.left rest (Err e) → (old.place ≤ new.place) × FailsAt e new.place (each_node reading nodes old.place start)
  next_fails mid new s l e m =
      let along : reading m.text m.place s ≡ Err (unexpected m.place name.local_name (kind_of_node m.text)) = stray_fails plan v (depth d) name.local_name r m.text m.place s ruled (never_passes r l.left m.text m.others m.first m.no_child) (λ n a ns kids x. m.no_child (ap kind_of_node x)) in
      let is : each_node reading nodes old.place start ≡ Err (unexpected m.place name.local_name (kind_of_node m.text)) = from_here mid s l m.text m.others m.place m.first m.is_left ∙ ap (λ x. x >>= λ next. each_node reading m.others (m.place + places m.text) next) along in
      (omega (arith, l.grown, m.grown), fails_along e new.place (no_more (unexpected m.place name.local_name (kind_of_node m.text))) (each_node reading nodes old.place start) (λ f x. is ∙ (let same : unexpected m.place name.local_name (kind_of_node m.text) ≡ f = cc in ap (λ g. Err g) same)) m.fails)

  pub child_begins : (mid new : Cursor) (s : Trees) (l : Inside mid s) (o : Option Start) (child : Start) → o ≡ Some child → Meets r mid new name l.left rest (Ok o) → MeetsChild mid new name l.left (past_texts r l.left) rest child
  child_begins mid new s l o child is m = subst (λ x. Meets r mid new name l.left rest (Ok x)) is m

  -- A child begins, and is offered to what is read.
  module _ (mid new : Cursor) (s : Trees) (l : Inside mid s) (child : Start) (m : MeetsChild mid new name l.left (past_texts r l.left) rest child) where
    abbrev tail : List XmlEvent
    tail = events_of_all m.others ++ EndElement name ∷ rest

    abbrev item : Node
    item = element child.element.now child.attributes.now m.namespace m.kids

    pub is_in : IsIn new child.element.now
    is_in = record { p = child.place; nodes = m.kids; rest = tail; stands = m.stands }

    all_is : each_node reading nodes old.place start ≡ (reading item child.place s >>= λ next. each_node reading m.others (child.place + places item) next)
    all_is = from_here mid s l item m.others child.place m.first m.is_left

    grown : old.place ≤ child.place
    grown = omega (arith, l.grown, m.is_left, places_past r l.left)

    abbrev child_met : Met
    child_met = met plan v (depth d) child.element.now child.attributes.now m.namespace child.place m.kids s

    step_is : (x : Met) → child_met ≡ x → reading item child.place s ≡ then_read x plan.rule name.local_name child.place s
    step_is x e = child_step plan v (depth d) name.local_name child.element.now child.attributes.now m.namespace m.kids child.place s x e

    fault_is : (f : XmlReadError) → reading item child.place s ≡ Err f → each_node reading nodes old.place start ≡ Err f
    fault_is f e = all_is ∙ ap (λ x. x >>= λ next. each_node reading m.others (child.place + places item) next) e

    -- it is refused
    pub child_fails : (next : Cursor) (s' : Trees) (e : XmlReadError) → TakesChild s s' new next v plan depth child.element.now child.attributes.now (Err e) → (old.place ≤ next.place) × FailsAt e next.place (each_node reading nodes old.place start)
    child_fails next s' e takes =
        let t = takes d m.namespace child.place m.kids tail m.stands in
        (omega (arith, grown, m.stands.place, t.grown), fails_along e next.place t.read (each_node reading nodes old.place start) (λ f x. fault_is f (step_is (found t.read) t.met_is ∙ x)) t.fails)

    -- it is unknown, and the reader stands where it stood
    pub still_open : (next : Cursor) (s' : Trees) (taken : Taken) → TakesChild s s' new next v plan depth child.element.now child.attributes.now (Ok taken) → taken ≡ answers.Unknown → IsAt next child.element.now
    still_open next s' taken takes is =
        let u = was_unknown taken s s' new next (behind_end new m.kids tail) child_met is (takes d m.namespace child.place m.kids tail m.stands) in
        record { nodes = m.kids; rest = tail; at = subst (λ c. WithinElement c child.element.now m.kids tail) (sym u.2) m.stands.at }

    abbrev fault : XmlReadError
    fault = unexpected child.place name.local_name kinds.StartElement

    -- it is refused once it was offered
    pub leaving_fails : (next last : Cursor) (s' : Trees) (taken : Taken) (e : XmlReadError) → TakesChild s s' new next v plan depth child.element.now child.attributes.now (Ok taken) → LeavesChild r taken next last name child (Err e) → (old.place ≤ last.place) × FailsAt e last.place (each_node reading nodes old.place start)
    leaving_fails next last s' taken e takes leaves = go taken (takes d m.namespace child.place m.kids tail m.stands) leaves
      where
        refused : next ≡ new → last ≡ next → reading item child.place s ≡ Err fault → Refused (no_more e) fault → (old.place ≤ last.place) × FailsAt e last.place (each_node reading nodes old.place start)
        refused at left is h =
            let place : last.place ≡ child.place + 1 = ap (λ (c : Cursor). c.place) (left ∙ at) ∙ (let p : new.place ≡ child.place + 1 = omega (arith, m.stands.place) in p) in
            (omega (arith, grown), fails_along e last.place (no_more fault) (each_node reading nodes old.place start) (λ f x. fault_is f (is ∙ (let same : fault ≡ f = cc in ap (λ g. Err g) same))) (refused_fails (Unit {0}) e child.place last.place name.local_name kinds.StartElement kinds.StartElement h refl (omega arith)))

        go : (t : Taken) → ReadsChild s s' new next (behind_end new m.kids tail) child_met (Ok t) → LeavesChild r t next last name child (Err e) → (old.place ≤ last.place) × FailsAt e last.place (each_node reading nodes old.place start)
        go answers.Read t h = absurd cc
        go answers.Unknown t h = refused t.2 h.1 (step_is nothing t.0 ∙ ap (λ x. unknown x name.local_name child.place s) ruled ∙ unknown_fails plan v (depth d) name.local_name r child.place s (never_skips (skips r) h.0)) h.2
        go answers.Second t h = refused t.2 h.1 (step_is second t.0) h.2

    left_behind : (next last : Cursor) (s' : Trees) (taken : Taken) → TakesChild s s' new next v plan depth child.element.now child.attributes.now (Ok taken) → LeavesChild r taken next last name child (Ok tt) → (last ≡ behind_end new m.kids tail) × (reading item child.place s ≡ Ok s')
    left_behind next last s' taken takes leaves = go taken (takes d m.namespace child.place m.kids tail m.stands) leaves
      where
        go : (t : Taken) → ReadsChild s s' new next (behind_end new m.kids tail) child_met (Ok t) → LeavesChild r t next last name child (Ok tt) → (last ≡ behind_end new m.kids tail) × (reading item child.place s ≡ Ok s')
        go answers.Read t h = (h.1 ∙ t.1, step_is (found (Ok s')) t.0)
        go answers.Unknown t h =
            let there : WithinElement next child.element.now m.kids tail = subst (λ c. WithinElement c child.element.now m.kids tail) (sym t.2) m.stands.at in
            (h.1 m.kids tail there ∙ ap (λ c. behind_end c m.kids tail) t.2, step_is nothing t.0 ∙ ap (λ x. unknown x name.local_name child.place s) ruled ∙ unknown_passes plan v (depth d) name.local_name r child.place s (does_skip (skips r) h.0) ∙ ap (λ x. Ok x) (sym t.1))
        go answers.Second t h = absurd cc

    -- nothing of it is left, and the loop goes on after it
    pub goes_on : (next last : Cursor) (s' : Trees) (taken : Taken) → TakesChild s s' new next v plan depth child.element.now child.attributes.now (Ok taken) → LeavesChild r taken next last name child (Ok tt) → Inside last s'
    goes_on next last s' taken takes leaves =
        let h = left_behind next last s' taken takes leaves in
        let placed : last.place ≡ new.place + places_of m.kids + 1 = ap (λ (c : Cursor). c.place) h.0 in
        let w : places_of (past_texts r l.left) ≡ suc (suc (places_of m.kids)) + places_of m.others = ap places_of m.first in
        let q : child.place + suc (suc (places_of m.kids)) ≡ last.place = omega (arith, m.stands.place) in
        record {
          left = m.others;
          at = record { ahead = ap (λ (c : Cursor). c.ahead) h.0 };
          place = omega (arith, l.place, m.is_left);
          grown = omega (arith, grown);
          same = sym (all_is ∙ ap (λ x. x >>= λ next. each_node reading m.others (child.place + suc (suc (places_of m.kids))) next) h.1 ∙ ap (λ y. each_node reading m.others y s') q);
        }

    -- less is ahead
    pub nearer : (next last : Cursor) (s' : Trees) (taken : Taken) → TakesChild s s' new next v plan depth child.element.now child.attributes.now (Ok taken) → LeavesChild r taken next last name child (Ok tt) → length last.ahead < length mid.ahead
    nearer next last s' taken takes leaves =
        let h = left_behind next last s' taken takes leaves in
        let x : length last.ahead ≡ length tail = ap (λ (c : Cursor). length c.ahead) h.0 in
        let y : length mid.ahead ≡ length (events_of_all l.left ++ EndElement name ∷ rest) = ap length l.at.ahead in
        let w : places_of (past_texts r l.left) ≡ suc (suc (places_of m.kids)) + places_of m.others = ap places_of m.first in
        omega (arith, places_past r l.left, length_all l.left, length_all m.others, length-append (events_of_all l.left) (EndElement name ∷ rest), length-append (events_of_all m.others) (EndElement name ∷ rest))
