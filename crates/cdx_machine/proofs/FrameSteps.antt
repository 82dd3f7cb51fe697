-- What an event makes of an element that is read child by child, by its kind or otherwise.
use Rattle.std.proofs.Common.{◌≡◌, ℕ, suc, ◌+◌, ◌≤◌, List, Bool, true, false, Some, None, Result, Ok, Err, refl, sym, ap, ◌∙◌, subst, arith}
use Rattle.cdx_events.specs.declared.name.OwnedName.{OwnedName}
use Rattle.cdx_events.specs.declared.name.OwnedAttribute.{OwnedAttribute}
use Rattle.cdx_events.specs.declared.name.Namespace.{Namespace}
use Rattle.cdx_events.specs.declared.event.XmlEvent.{XmlEvent}
use Rattle.cdx_events.specs.declared.event.XmlEvent.TheVariants.{StartDocument, EndDocument, StartElement, EndElement, Characters, CData}
use Rattle.cdx_events.specs.Event.{event_kind}
use Rattle.cdx_events.specs.Nodes.{Node, characters, cdata, element, Nodes, no_nodes}
use Rattle.cdx_models.specs.declared.bom.SpecVersion.{SpecVersion}
use Rattle.cdx_models.specs.declared.errors.XmlReadError.{XmlReadError}
use Rattle.cdx_models.specs.Trees.{Tree, Trees, field}
use Rattle.cdx_schema.specs.Depth.{Depth}
use Rattle.cdx_schema.specs.Faults.{unexpected}
use Rattle.cdx_schema.specs.Locality.{fault_place}
use Rattle.cdx_schema.specs.Nodes.{places, places_of, ◌⊕◌}
use Rattle.cdx_schema.specs.Results.{◌>>=◌}
use Rattle.cdx_schema.specs.XmlReading.{Plan, Child, find_child, is_second, stored, unknown, child_read_into, node_read, nodes_read, xread}
use Rattle.cdx_schema.proofs.Groups.{one_node_more, under_ok, after}
use Rattle.cdx_schema.proofs.FaultPlaces.{err_same}
use Rattle.cdx_leaf.specs.declared.rule.Rule.{Rule}
use Rattle.cdx_leaf.specs.Attribute.{GivesAt}
use Rattle.cdx_leaf.specs.Fault.{FailsAt, Refused}
use Rattle.cdx_leaf.specs.Reading.{kind_of_node}
use Rattle.cdx_leaf.specs.Rules.{passes, as_rule}
use Rattle.cdx_leaf.proofs.ChildSteps.{stray_fails, text_passes, cdata_passes}
use Rattle.cdx_machine.specs.declared.frame.Inside.{Inside}
use Rattle.cdx_machine.specs.declared.frame.Inside.TheVariants.{Nothing, Read, Skipped}
use Rattle.cdx_schema.specs.XmlSpelling.{lone}
use Rattle.cdx_machine.specs.Begun.{Begun, innermost, around, Next, still, whole, count, levels, start_name, ended_now, into, next, TakesInside, TakesEvent}
use Rattle.cdx_machine.specs.Contents.{First}
use Rattle.cdx_machine.specs.Machines.{RefusesBefore, IsQuiet, Proceeds, Yields, StepsRow, StepsChild, ChildHolding}
use Rattle.cdx_machine.specs.Frames.{Last, read_so_far, IsForm, IsOpen, Stays, holds_inside, EntersAt, FeedsChild, skipped}
use Rattle.cdx_machine.proofs.Places.{one_on, places_more, count_below}
use Rattle.cdx_machine.proofs.Faults.{refuses_along, refuses_on, refuses_known, quiet_at}
use Rattle.cdx_machine.proofs.Frames.{IsNamed, ended_named, StaysNamed, keeps_name, Skips, skips_next, row_read, level_less}

module _ (denotes : Node → SpecVersion → ℕ → Depth → Result Tree XmlReadError) (plan : Plan) (first : First) (last : Last) (law : IsForm denotes plan first last) where
  module _ (n : OwnedName) (a : List OwnedAttribute) (s : Namespace) (xs : Nodes) (v : SpecVersion) (p : ℕ) (d : Depth) where
    -- one node more
    pub more_node : (ts : Trees) (k : Node) → read_so_far first plan n.local_name a v d p xs ≡ Ok ts → read_so_far first plan n.local_name a v d p (xs ⊕ lone k) ≡ node_read k (xread k) plan n.local_name v d (suc p + places_of xs) ts
    more_node ts k h =
        under_ok (first n.local_name a v p) _ _ (λ us. one_node_more xs k plan n.local_name v d (suc p) us)
        ∙ (after (first n.local_name a v p) (λ us. nodes_read xs plan n.local_name v d (suc p) us) (λ us. node_read k (xread k) plan n.local_name v d (suc p + places_of xs) us)
        ∙ ap (λ r. r >>= λ us. node_read k (xread k) plan n.local_name v d (suc p + places_of xs) us) h)

  pub whole_read : (n : OwnedName) (a : List OwnedAttribute) (s : Namespace) (xs : Nodes) (v : SpecVersion) (p : ℕ) (d : Depth) (ts : Trees) → read_so_far first plan n.local_name a v d p xs ≡ Ok ts → denotes (element n a s xs) v p d ≡ last n.local_name v (suc (p + places_of xs)) ts
  whole_read n a s xs v p d ts h = law.reads n a s xs v p d ∙ ap (λ r. r >>= λ ts. last n.local_name v (suc (p + places_of xs)) ts) h

  pub whole_fails : (n : OwnedName) (a : List OwnedAttribute) (s : Namespace) (xs : Nodes) (v : SpecVersion) (p : ℕ) (d : Depth) (f : XmlReadError) → read_so_far first plan n.local_name a v d p xs ≡ Err f → denotes (element n a s xs) v p d ≡ Err f
  whole_fails n a s xs v p d f h = law.reads n a s xs v p d ∙ ap (λ r. r >>= λ ts. last n.local_name v (suc (p + places_of xs)) ts) h

  -- Where the nodes are read, no fault stands before the end.
  pub quiet_until : (n : OwnedName) (a : List OwnedAttribute) (s : Namespace) (xs : Nodes) (v : SpecVersion) (p : ℕ) (d : Depth) (ts : Trees) (q : ℕ) → read_so_far first plan n.local_name a v d p xs ≡ Ok ts → q ≤ suc (p + places_of xs) → IsQuiet q (denotes (element n a s xs) v p d)
  quiet_until n a s xs v p d ts q h l = quiet_at q (suc (p + places_of xs)) _ _ (whole_read n a s xs v p d ts h) (law.last_place n.local_name v (suc (p + places_of xs)) ts) l

  pub quiet_inside : (n : OwnedName) (a : List OwnedAttribute) (s : Namespace) (xs : Nodes) (v : SpecVersion) (p : ℕ) (d : Depth) (ts : Trees) → read_so_far first plan n.local_name a v d p xs ≡ Ok ts → IsQuiet (p + suc (places_of xs)) (denotes (element n a s xs) v p d)
  quiet_inside n a s xs v p d ts h = quiet_until n a s xs v p d ts (p + suc (places_of xs)) h (omega arith)

  quiet_around : (n : OwnedName) (a : List OwnedAttribute) (s : Namespace) (xs : Nodes) (v : SpecVersion) (p : ℕ) (d : Depth) (o : Begun) (ts : Trees) → read_so_far first plan n.local_name a v d p (xs ⊕ lone (ended_now o)) ≡ Ok ts
      → IsQuiet (p + suc (places_of xs + count o)) (denotes (element n a s (xs ⊕ lone (ended_now o))) v p d)
  quiet_around n a s xs v p d o ts h =
      quiet_until n a s (xs ⊕ lone (ended_now o)) v p d ts (p + suc (places_of xs + count o)) h (beyond (places_of xs) (places (ended_now o)) (count o) _ (places_more xs (ended_now o)) (count_below o))
    where
      beyond : (i j k l : ℕ) → l ≡ i + j → suc k ≤ j → p + suc (i + k) ≤ suc (p + l)
      beyond i j k l e f = omega (arith, e, f)

  -- an element by its name
  named_read : (k : Node) (m : OwnedName) (el : List ℕ) (v : SpecVersion) (d : Depth) (q : ℕ) (ts : Trees) → IsNamed m k → node_read k (xread k) plan el v d q ts ≡ child_read_into (find_child v m.local_name plan.children) plan.rule (xread k) el v d q ts
  named_read k m el v d q ts (b, r, ys, e) = subst (λ (k : Node). node_read k (xread k) plan el v d q ts ≡ child_read_into (find_child v m.local_name plan.children) plan.rule (xread k) el v d q ts) (sym e) refl

  module _ (n : OwnedName) (a : List OwnedAttribute) (s : Namespace) (xs : Nodes) (v : SpecVersion) (p : ℕ) (d : Depth) (ts : Trees) (h : read_so_far first plan n.local_name a v d p xs ≡ Ok ts) where
    -- a child that a child of the plan reads
    pub open_read : (k : Node) (m : OwnedName) (row : Child) → IsNamed m k → find_child v m.local_name plan.children ≡ Some row → is_second row.place (field row.field ts) ≡ false
        → read_so_far first plan n.local_name a v d p (xs ⊕ lone k) ≡ (xread k v row.kind (suc p + places_of xs) d >>= λ t. Ok (stored row.place row.field t ts))
    open_read k m row i f g =
        more_node n a s xs v p d ts k h ∙ (named_read k m n.local_name v d (suc p + places_of xs) ts i ∙ row_read (find_child v m.local_name plan.children) row plan.rule (xread k) n.local_name v d (suc p + places_of xs) ts f g)

    pub open_ok : (k : Node) (m : OwnedName) (row : Child) (t : Tree) → IsNamed m k → find_child v m.local_name plan.children ≡ Some row → is_second row.place (field row.field ts) ≡ false → xread k v row.kind (suc p + places_of xs) d ≡ Ok t
        → read_so_far first plan n.local_name a v d p (xs ⊕ lone k) ≡ Ok (stored row.place row.field t ts)
    open_ok k m row t i f g e = open_read k m row i f g ∙ ap (λ r. r >>= λ t. Ok (stored row.place row.field t ts)) e

    pub open_fails : (k : Node) (m : OwnedName) (row : Child) (e : XmlReadError) → IsNamed m k → find_child v m.local_name plan.children ≡ Some row → is_second row.place (field row.field ts) ≡ false → xread k v row.kind (suc p + places_of xs) d ≡ Err e
        → denotes (element n a s (xs ⊕ lone k)) v p d ≡ Err e
    open_fails k m row e i f g is = whole_fails n a s (xs ⊕ lone k) v p d e (open_read k m row i f g ∙ ap (λ r. r >>= λ t. Ok (stored row.place row.field t ts)) is)

    -- no fault so far
    pub open_quiet : (o : Begun) (m : OwnedName) (row : Child) → IsNamed m (ended_now o) → find_child v m.local_name plan.children ≡ Some row → is_second row.place (field row.field ts) ≡ false → IsQuiet (suc p + places_of xs + count o) (xread (ended_now o) v row.kind (suc p + places_of xs) d)
        → IsQuiet (p + suc (places_of xs + count o)) (denotes (element n a s (xs ⊕ lone (ended_now o))) v p d)
    open_quiet o m row i f g q = by (xread (ended_now o) v row.kind (suc p + places_of xs) d) refl q
      where
        same : (i k : ℕ) → suc p + i + k ≡ p + suc (i + k)
        same i k = omega arith

        by : (r : Result Tree XmlReadError) → xread (ended_now o) v row.kind (suc p + places_of xs) d ≡ r → IsQuiet (suc p + places_of xs + count o) r → IsQuiet (p + suc (places_of xs + count o)) (denotes (element n a s (xs ⊕ lone (ended_now o))) v p d)
        by (Ok t) e q = quiet_around n a s xs v p d o (stored row.place row.field t ts) (open_ok (ended_now o) m row t i f g e)
        by (Err f') e q = λ x is. subst (λ (z : XmlReadError). p + suc (places_of xs + count o) ≤ fault_place z) (err_same (sym (open_fails (ended_now o) m row f' i f g e) ∙ is)) (subst (λ (z : ℕ). z ≤ fault_place f') (same (places_of xs) (count o)) (q f' refl))

    -- a child that is skipped
    pub skipped_read : (k : Node) (m : OwnedName) → IsNamed m k → find_child v m.local_name plan.children ≡ None → ((el : List ℕ) (q : ℕ) (ts : Trees) → unknown plan.rule el q ts ≡ Ok ts) → read_so_far first plan n.local_name a v d p (xs ⊕ lone k) ≡ Ok ts
    skipped_read k m i f g =
        more_node n a s xs v p d ts k h ∙ (named_read k m n.local_name v d (suc p + places_of xs) ts i ∙ (ap (λ o. child_read_into o plan.rule (xread k) n.local_name v d (suc p + places_of xs) ts) f ∙ g n.local_name (suc p + places_of xs) ts))

  module _ {R C : Type 0} (holds : ChildHolding C) (slots : R → Trees) (kept : Type 0) (v : SpecVersion) (p : ℕ) (d : Depth) (name : List ℕ) (known : SpecVersion) where
    abbrev pub Stepped : (Begun → Type 0) → Next → Result Bool XmlReadError → Type 0
    Stepped held o r = Proceeds held kept (λ k. denotes k v p d) p o r

    -- Nothing is open.
    module _ (r : R) where
      abbrev pub Own : Begun → Type 0
      Own o = holds_inside holds first plan name known (slots r) Nothing v p d o

      -- a child's start
      pub own_enters : (o : Begun) (place : ℕ) (m : OwnedName) (b : List OwnedAttribute) (z : Namespace) (inside : Inside C) → Own o → place ≡ p + count o → EntersAt holds plan (slots r) known name place d (innermost m b z no_nodes) (Ok inside)
          → Stepped (λ o. holds_inside holds first plan name known (slots r) inside v p d o) (next o (StartElement m b z)) (Ok false)
      own_enters (around n a s xs o) place m b z inside h is e = absurd h
      own_enters (innermost n a s xs) place m b z inside h is e =
          by inside (subst (λ (q : ℕ). EntersAt holds plan (slots r) v name q d (innermost m b z no_nodes) (Ok inside)) (is ∙ moved (places_of xs)) (subst (λ (w : SpecVersion). EntersAt holds plan (slots r) w name place d (innermost m b z no_nodes) (Ok inside)) h.version_is e))
        where
          moved : (k : ℕ) → p + suc k ≡ suc p + k
          moved k = omega arith

          by : (inside : Inside C) → EntersAt holds plan (slots r) v name (suc p + places_of xs) d (innermost m b z no_nodes) (Ok inside) → Stepped (λ o. holds_inside holds first plan name known (slots r) inside v p d o) (still (around n a s xs (innermost m b z no_nodes))) (Ok false)
          by Nothing e = absurd e
          by (Read c) e = ((h, e.is_open), open_quiet n a s xs v p d (slots r) h.reads (innermost m b z no_nodes) m e.is_open.row (b, z, no_nodes, refl) e.is_open.found e.is_open.first_one e.quiet)
          by (Skipped k) e = ((h, e), quiet_around n a s xs v p d (innermost m b z no_nodes) (slots r) (skipped_read n a s xs v p d (slots r) h.reads (element m b z no_nodes) m (b, z, no_nodes, refl) e.not_found e.passed))

      pub own_start_fails : (held : Begun → Type 0) (o : Begun) (place : ℕ) (m : OwnedName) (b : List OwnedAttribute) (z : Namespace) (f : XmlReadError) → Own o → place ≡ p + count o → EntersAt holds plan (slots r) known name place d (innermost m b z no_nodes) (Err f)
          → Stepped held (next o (StartElement m b z)) (Err f)
      own_start_fails held (around n a s xs o) place m b z f h is e = absurd h
      own_start_fails held (innermost n a s xs) place m b z f h is e =
          refuses_on f (suc place) (p + suc (places_of xs + 1)) _ (denotes (element n a s (xs ⊕ lone (element m b z no_nodes))) v p d)
          (λ g i. whole_fails n a s (xs ⊕ lone (element m b z no_nodes)) v p d g
          (more_node n a s xs v p d (slots r) (element m b z no_nodes) h.reads
          ∙ (ap (λ q. child_read_into (find_child v m.local_name plan.children) plan.rule (xread (element m b z no_nodes)) n.local_name v d q (slots r)) (sym (is ∙ moved (places_of xs)))
          ∙ (ap (λ el. child_read_into (find_child v m.local_name plan.children) plan.rule (xread (element m b z no_nodes)) el v d place (slots r)) (sym h.name_is)
          ∙ (ap (λ (w : SpecVersion). child_read_into (find_child w m.local_name plan.children) plan.rule (xread (element m b z no_nodes)) name w d place (slots r)) (sym h.version_is) ∙ i)))))
          (ends (places_of xs) is) e
        where
          moved : (k : ℕ) → p + suc k ≡ suc p + k
          moved k = omega arith

          ends : (k : ℕ) → place ≡ p + suc k → suc place ≡ p + suc (k + 1)
          ends k e = omega (arith, e)

      -- a text
      pub own_text : (inside : Inside C) (rule : Rule) (o : Begun) (place : ℕ) (event : XmlEvent) → Own o → TakesEvent o event → plan.rule ≡ as_rule rule → passes rule ≡ true → ((m : OwnedName) (b : List OwnedAttribute) (z : Namespace) → event ≡ StartElement m b z → ⊥) → ((m : OwnedName) → event ≡ EndElement m → ⊥)
          → inside ≡ Nothing → Stepped (λ o. holds_inside holds first plan name known (slots r) inside v p d o) (next o event) (Ok false)
      own_text inside rule (around n a s xs o) place event h t is does i j e = absurd h
      own_text inside rule (innermost n a s xs) place StartDocument h t is does i j e = absurd t
      own_text inside rule (innermost n a s xs) place EndDocument h t is does i j e = absurd t
      own_text inside rule (innermost n a s xs) place (StartElement m b z) h t is does i j e = absurd (i m b z refl)
      own_text inside rule (innermost n a s xs) place (EndElement m) h t is does i j e = absurd (j m refl)
      own_text inside rule (innermost n a s xs) place (Characters u) h t is does i j e =
          let again : read_so_far first plan n.local_name a v d p (xs ⊕ lone (characters u)) ≡ Ok (slots r) = more_node n a s xs v p d (slots r) (characters u) h.reads ∙ text_passes plan v d n.local_name rule u (suc p + places_of xs) (slots r) is does in
          (subst (λ (x : Inside C). holds_inside holds first plan name known (slots r) x v p d (innermost n a s (xs ⊕ lone (characters u)))) (sym e) (record { name_is = h.name_is; version_is = h.version_is; reads = again }), quiet_inside n a s (xs ⊕ lone (characters u)) v p d (slots r) again)
      own_text inside rule (innermost n a s xs) place (CData u) h t is does i j e =
          let again : read_so_far first plan n.local_name a v d p (xs ⊕ lone (cdata u)) ≡ Ok (slots r) = more_node n a s xs v p d (slots r) (cdata u) h.reads ∙ cdata_passes plan v d n.local_name rule u (suc p + places_of xs) (slots r) is does in
          (subst (λ (x : Inside C). holds_inside holds first plan name known (slots r) x v p d (innermost n a s (xs ⊕ lone (cdata u)))) (sym e) (record { name_is = h.name_is; version_is = h.version_is; reads = again }), quiet_inside n a s (xs ⊕ lone (cdata u)) v p d (slots r) again)

      text_refused : (held : Begun → Type 0) (n : OwnedName) (a : List OwnedAttribute) (s : Namespace) (xs : Nodes) (place : ℕ) (k : Node) (rule : Rule) (x : Result Bool XmlReadError) → Stays first plan name known (slots r) v p d n a xs → place ≡ p + suc (places_of xs) → plan.rule ≡ as_rule rule → passes rule ≡ false
          → ((m : OwnedName) (b : List OwnedAttribute) (z : Namespace) (ys : Nodes) → k ≡ element m b z ys → ⊥) → places k ≡ 1 → Refused x (unexpected place name (kind_of_node k)) → Stepped held (still (innermost n a s (xs ⊕ lone k))) x
      text_refused held n a s xs place k rule (Ok y) h is ru not other one e = absurd e
      text_refused held n a s xs place k rule (Err f) h is ru not other one e =
          refuses_known Bool f (unexpected place name (kind_of_node k)) (p + suc (places_of (xs ⊕ lone k))) _ e
          (whole_fails n a s (xs ⊕ lone k) v p d (unexpected place name (kind_of_node k))
          (more_node n a s xs v p d (slots r) k h.reads ∙ (stray_fails plan v d n.local_name rule k (suc p + places_of xs) (slots r) ru not other
          ∙ (ap (λ q. Err (unexpected q n.local_name (kind_of_node k))) (sym (is ∙ moved (places_of xs))) ∙ ap (λ el. Err (unexpected place el (kind_of_node k))) (sym h.name_is)))))
          (ends (places_of xs) (places_of (xs ⊕ lone k)) is (places_more xs k) one)
        where
          moved : (k : ℕ) → p + suc k ≡ suc p + k
          moved k = omega arith

          ends : (i j : ℕ) → place ≡ p + suc i → j ≡ i + places k → places k ≡ 1 → suc place ≡ p + suc j
          ends i j e f g = omega (arith, e, f, g)

      pub own_text_fails : (held : Begun → Type 0) (rule : Rule) (o : Begun) (place : ℕ) (event : XmlEvent) (x : Result Bool XmlReadError) → Own o → place ≡ p + count o → TakesEvent o event → plan.rule ≡ as_rule rule → passes rule ≡ false → ((m : OwnedName) (b : List OwnedAttribute) (z : Namespace) → event ≡ StartElement m b z → ⊥)
          → ((m : OwnedName) → event ≡ EndElement m → ⊥) → Refused x (unexpected place name (event_kind event)) → Stepped held (next o event) x
      own_text_fails held rule (around n a s xs o) place event x h is t ru not i j e = absurd h
      own_text_fails held rule (innermost n a s xs) place StartDocument x h is t ru not i j e = absurd t
      own_text_fails held rule (innermost n a s xs) place EndDocument x h is t ru not i j e = absurd t
      own_text_fails held rule (innermost n a s xs) place (StartElement m b z) x h is t ru not i j e = absurd (i m b z refl)
      own_text_fails held rule (innermost n a s xs) place (EndElement m) x h is t ru not i j e = absurd (j m refl)
      own_text_fails held rule (innermost n a s xs) place (Characters u) x h is t ru not i j e = text_refused held n a s xs place (characters u) rule x h is ru not (λ m b z ys q. cc) refl e
      own_text_fails held rule (innermost n a s xs) place (CData u) x h is t ru not i j e = text_refused held n a s xs place (cdata u) rule x h is ru not (λ m b z ys q. cc) refl e

      -- the same by the event
      pub own_enters_by : (o : Begun) (place : ℕ) (event : XmlEvent) (m : OwnedName) (b : List OwnedAttribute) (z : Namespace) (inside : Inside C) → event ≡ StartElement m b z → Own o → place ≡ p + count o → EntersAt holds plan (slots r) known name place d (innermost m b z no_nodes) (Ok inside)
          → Stepped (λ o. holds_inside holds first plan name known (slots r) inside v p d o) (next o event) (Ok false)
      own_enters_by o place event m b z inside e h is en =
          subst (λ (x : XmlEvent). EntersAt holds plan (slots r) known name place d (innermost m b z no_nodes) (Ok inside) → Stepped (λ o. holds_inside holds first plan name known (slots r) inside v p d o) (next o x) (Ok false)) (sym e) (own_enters o place m b z inside h is) en

      pub own_start_fails_by : (held : Begun → Type 0) (o : Begun) (place : ℕ) (event : XmlEvent) (m : OwnedName) (b : List OwnedAttribute) (z : Namespace) (f : XmlReadError) → event ≡ StartElement m b z → Own o → place ≡ p + count o → EntersAt holds plan (slots r) known name place d (innermost m b z no_nodes) (Err f)
          → Stepped held (next o event) (Err f)
      own_start_fails_by held o place event m b z f e h is en =
          subst (λ (x : XmlEvent). EntersAt holds plan (slots r) known name place d (innermost m b z no_nodes) (Err f) → Stepped held (next o x) (Err f)) (sym e) (own_start_fails held o place m b z f h is) en

    -- A child is open.
    module _ (r r' : R) (c c' : C) where
      -- it stays open
      pub child_goes_on : (o : Begun) (place : ℕ) (event : XmlEvent) (b : Bool) → b ≡ false → holds_inside holds first plan name known (slots r) (Read c) v p d o → place ≡ p + count o → TakesEvent o event → StepsChild holds (slots r) (slots r') c c' place event (Ok b)
          → Stepped (λ o. holds_inside holds first plan name known (slots r') (Read c') v p d o) (next o event) (Ok false)
      child_goes_on (innermost n a s xs) place event b nay h is t e = absurd h
      child_goes_on (around n a s xs o) place event true nay h is t e = absurd (let wrong : true ≡ false = nay in cc)
      child_goes_on (around n a s xs o) place event false nay (h, i) is t e =
          by (next o event) (keeps_name o event) (e i.row v (suc p + places_of xs) d o i.held (is ∙ moved (places_of xs) (count o)) t)
        where
          moved : (j k : ℕ) → p + suc (j + k) ≡ suc p + j + k
          moved j k = omega arith

          by : (x : Next) → StaysNamed (start_name o) x → StepsRow (λ o. holds c' i.row v (suc p + places_of xs) d o) i.row (λ k. xread k v i.row.kind (suc p + places_of xs) d) (suc p + places_of xs) (slots r) (slots r') x (Ok false)
              → Stepped (λ o. holds_inside holds first plan name known (slots r') (Read c') v p d o) (into n a s xs x) (Ok false)
          by (whole k) w e = absurd e
          by (still o') w (held, quiet, same) =
              let found : find_child v (start_name o').local_name plan.children ≡ Some i.row = ap (λ (y : OwnedName). find_child v y.local_name plan.children) w ∙ i.found in (
                subst (λ (ts : Trees). Stays first plan name known ts v p d n a xs × IsOpen holds plan ts c' v (suc p + places_of xs) d o') (sym same) (h, record { row = i.row; found = found; first_one = i.first_one; held = held }),
                open_quiet n a s xs v p d (slots r) h.reads o' (start_name o') i.row (ended_named o') found i.first_one quiet,
              )

      -- it ends
      pub child_ends : (o : Begun) (place : ℕ) (event : XmlEvent) (b : Bool) → b ≡ true → holds_inside holds first plan name known (slots r) (Read c) v p d o → place ≡ p + count o → TakesEvent o event → StepsChild holds (slots r) (slots r') c c' place event (Ok b)
          → Stepped (λ o. holds_inside holds first plan name known (slots r') Nothing v p d o) (next o event) (Ok false)
      child_ends (innermost n a s xs) place event b yea h is t e = absurd h
      child_ends (around n a s xs o) place event false yea h is t e = absurd (let wrong : false ≡ true = yea in cc)
      child_ends (around n a s xs o) place event true yea (h, i) is t e =
          by (next o event) (keeps_name o event) (e i.row v (suc p + places_of xs) d o i.held (is ∙ moved (places_of xs) (count o)) t)
        where
          moved : (j k : ℕ) → p + suc (j + k) ≡ suc p + j + k
          moved j k = omega arith

          by : (x : Next) → StaysNamed (start_name o) x → StepsRow (λ o. holds c' i.row v (suc p + places_of xs) d o) i.row (λ k. xread k v i.row.kind (suc p + places_of xs) d) (suc p + places_of xs) (slots r) (slots r') x (Ok true)
              → Stepped (λ o. holds_inside holds first plan name known (slots r') Nothing v p d o) (into n a s xs x) (Ok false)
          by (still o') w e = absurd e
          by (whole k) w (u, reads, same) =
              let again : read_so_far first plan n.local_name a v d p (xs ⊕ lone k) ≡ Ok (slots r') = open_ok n a s xs v p d (slots r) h.reads k (start_name o) i.row u w i.found i.first_one reads ∙ ap (λ (ts : Trees). Ok ts) (sym same) in
              (record { name_is = h.name_is; version_is = h.version_is; reads = again }, quiet_inside n a s (xs ⊕ lone k) v p d (slots r') again)

    -- it is refused
    pub child_fails : (held : Begun → Type 0) (ts us : Trees) (c c' : C) (o : Begun) (place : ℕ) (event : XmlEvent) (f : XmlReadError) → holds_inside holds first plan name known ts (Read c) v p d o → place ≡ p + count o → TakesEvent o event → StepsChild holds ts us c c' place event (Err f) → Stepped held (next o event) (Err f)
    child_fails held ts us c c' (innermost n a s xs) place event f h is t e = absurd h
    child_fails held ts us c c' (around n a s xs o) place event f (h, i) is t e =
        by (next o event) (keeps_name o event) (e i.row v (suc p + places_of xs) d o i.held (is ∙ moved (places_of xs) (count o)) t)
      where
        moved : (j k : ℕ) → p + suc (j + k) ≡ suc p + j + k
        moved j k = omega arith

        ends : (j k l : ℕ) → l ≡ j + k → suc p + j + k ≡ p + suc l
        ends j k l e = omega (arith, e)

        by : (x : Next) → StaysNamed (start_name o) x → StepsRow (λ o. holds c' i.row v (suc p + places_of xs) d o) i.row (λ k. xread k v i.row.kind (suc p + places_of xs) d) (suc p + places_of xs) ts us x (Err f) → Stepped held (into n a s xs x) (Err f)
        by (still o') w e =
            refuses_on f (suc p + places_of xs + count o') (p + suc (places_of xs + count o')) _ (denotes (element n a s (xs ⊕ lone (ended_now o'))) v p d)
            (λ g is. open_fails n a s xs v p d ts h.reads (ended_now o') (start_name o') i.row g (ended_named o') (ap (λ (y : OwnedName). find_child v y.local_name plan.children) w ∙ i.found) i.first_one is)
            (ends (places_of xs) (count o') (places_of xs + count o') refl) e
        by (whole k) w e =
            refuses_on f (suc p + places_of xs + places k) (p + suc (places_of (xs ⊕ lone k))) _ (denotes (element n a s (xs ⊕ lone k)) v p d)
            (λ g is. open_fails n a s xs v p d ts h.reads k (start_name o) i.row g w i.found i.first_one is)
            (ends (places_of xs) (places k) (places_of (xs ⊕ lone k)) (places_more xs k)) e

    -- An open child took an event.
    pub child_fed : (r r' : R) (c : C) (inside : Inside C) (o : Begun) (place : ℕ) (event : XmlEvent) → holds_inside holds first plan name known (slots r) (Read c) v p d o → place ≡ p + count o → TakesEvent o event → FeedsChild holds (slots r) (slots r') c place event (Ok inside)
        → Stepped (λ o. holds_inside holds first plan name known (slots r') inside v p d o) (next o event) (Ok false)
    child_fed r r' c Nothing o place event h is t e = child_ends r r' c c o place event true refl h is t e
    child_fed r r' c (Read c') o place event h is t e = child_goes_on r r' c c' o place event false refl h is t e
    child_fed r r' c (Skipped depth) o place event h is t e = absurd e

    -- A child is skipped.
    pub child_skipped : (ts : Trees) (depth : ℕ) (inside : Inside C) (o : Begun) (event : XmlEvent) → inside ≡ skipped depth event → holds_inside holds first plan name known ts (Skipped depth) v p d o → TakesEvent o event → Stepped (λ o. holds_inside holds first plan name known ts inside v p d o) (next o event) (Ok false)
    child_skipped ts depth inside (innermost n a s xs) event is h t = absurd h
    child_skipped ts depth inside (around n a s xs o) event is (h, i) t =
        by (next o event) (keeps_name o event) (subst (λ (x : Inside C). Skips C (next o event) x) (sym is) (subst (λ k. Skips C (next o event) (skipped k event)) i.depth_is (skips_next C o event t)))
      where
        by : (x : Next) → StaysNamed (start_name o) x → Skips C x inside → Stepped (λ o. holds_inside holds first plan name known ts inside v p d o) (into n a s xs x) (Ok false)
        by (still o') w e =
            let unknown : find_child v (start_name o').local_name plan.children ≡ None = ap (λ (y : OwnedName). find_child v y.local_name plan.children) w ∙ i.not_found in (
              subst (λ (x : Inside C). holds_inside holds first plan name known ts x v p d (around n a s xs o')) (sym e) (h, record { not_found = unknown; passed = i.passed; depth_is = refl }),
              quiet_around n a s xs v p d o' ts (skipped_read n a s xs v p d ts h.reads (ended_now o') (start_name o') (ended_named o') unknown i.passed),
            )
        by (whole k) w e =
            let again : read_so_far first plan n.local_name a v d p (xs ⊕ lone k) ≡ Ok ts = skipped_read n a s xs v p d ts h.reads k (start_name o) w i.not_found i.passed in (
              subst (λ (x : Inside C). holds_inside holds first plan name known ts x v p d (innermost n a s (xs ⊕ lone k))) (sym e) (record { name_is = h.name_is; version_is = h.version_is; reads = again }),
              quiet_inside n a s (xs ⊕ lone k) v p d ts again,
            )

    -- a place after all the levels of a skipped child
    pub skip_fits : (ts : Trees) (depth place : ℕ) (o : Begun) → holds_inside holds first plan name known ts (Skipped depth) v p d o → place ≡ p + count o → suc depth ≤ place
    skip_fits ts depth place (innermost n a s xs) h is = absurd h
    skip_fits ts depth place (around n a s xs o) (h, i) is = fits (levels o) (count o) (places_of xs) (level_less o) i.depth_is is
      where
        fits : (l k j : ℕ) → l ≤ k → l ≡ depth → place ≡ p + suc (j + k) → suc depth ≤ place
        fits l k j e f g = omega (arith, e, f, g)

    -- what stands open
    pub inside_is : (ts : Trees) (inside x : Inside C) (o : Begun) → holds_inside holds first plan name known ts inside v p d o → inside ≡ x → holds_inside holds first plan name known ts x v p d o
    inside_is ts inside x o h e = subst (λ (y : Inside C). holds_inside holds first plan name known ts y v p d o) e h

    -- the element's end
    pub own_end : (held : Begun → Type 0) (ts : Trees) (o : Begun) (event : XmlEvent) (m : OwnedName) → event ≡ EndElement m → holds_inside holds first plan name known ts Nothing v p d o → kept → Stepped held (next o event) (Ok true)
    own_end held ts (around n a s xs o) event m e h k = absurd h
    own_end held ts (innermost n a s xs) event m e h k = subst (λ (x : XmlEvent). Stepped held (next (innermost n a s xs) x) (Ok true)) (sym e) k

    -- what the element is read as
    module _ {X : Type 0} (view : X → Tree) (ts : Trees) (place q : ℕ) (x : Result X XmlReadError) where
      own_yields : (n m : OwnedName) (a : List OwnedAttribute) (s : Namespace) (xs : Nodes) → Stays first plan name known ts v p d n a xs → place ≡ p + suc (places_of xs) → n ≡ m → GivesAt view q (last m.local_name known place ts) x → Yields view (p + suc (suc (places_of xs))) (denotes (element n a s xs) v p d) x
      own_yields n m a s xs h is same g = by x g
        where
          moved : (k : ℕ) → p + suc k ≡ suc (p + k)
          moved k = omega arith

          ends : (k : ℕ) → place ≡ p + suc k → suc place ≡ p + suc (suc k)
          ends k e = omega (arith, e)

          read : denotes (element n a s xs) v p d ≡ last m.local_name known place ts
          read = whole_read n a s xs v p d ts h.reads ∙ (ap (λ q. last n.local_name v q ts) (sym (is ∙ moved (places_of xs))) ∙ (ap (λ (y : OwnedName). last y.local_name v place ts) same ∙ ap (λ (w : SpecVersion). last m.local_name w place ts) (sym h.version_is)))

          by : (x : Result X XmlReadError) → GivesAt view q (last m.local_name known place ts) x → Yields view (p + suc (suc (places_of xs))) (denotes (element n a s xs) v p d) x
          by (Ok y) g = read ∙ g
          by (Err f) g = refuses_along f q (p + suc (suc (places_of xs))) (last m.local_name known place ts) _ (λ e i. (read ∙ i, ap suc (law.last_place m.local_name known place ts e i) ∙ ends (places_of xs) is)) g

      pub frame_yields : (inside : Inside C) (o : Begun) (event : XmlEvent) (m : OwnedName) (k : Node) → holds_inside holds first plan name known ts inside v p d o → place ≡ p + count o → event ≡ EndElement m → TakesEvent o event → next o event ≡ whole k → GivesAt view q (last m.local_name known place ts) x → Yields view (p + places k) (denotes k v p d) x
      frame_yields inside (around n a s xs o) event m k h is e t w g = absurd (never_whole (next o event) w)
        where
          never_whole : (y : Next) → into n a s xs y ≡ whole k → ⊥
          never_whole (still z) i = cc
          never_whole (whole z) i = cc
      frame_yields Nothing (innermost n a s xs) event m k h is e t w g =
          let ended : next (innermost n a s xs) (EndElement m) ≡ whole k = ap (next (innermost n a s xs)) (sym e) ∙ w in
          let k_is : element n a s xs ≡ k = cc in
          subst (λ (y : Node). Yields view (p + places y) (denotes y v p d) x) k_is (own_yields n m a s xs h is (subst (λ (y : XmlEvent). TakesInside n y) e t) g)
      frame_yields (Read c) (innermost n a s xs) event m k h is e t w g = absurd h
      frame_yields (Skipped depth) (innermost n a s xs) event m k h is e t w g = absurd h

  -- an element's start
  pub frame_opens : {R C : Type 0} (holds : ChildHolding C) (slots : R → Trees) (r : R) (n : OwnedName) (a : List OwnedAttribute) (s : Namespace) (v : SpecVersion) (p : ℕ) (d : Depth) → first n.local_name a v p ≡ Ok (slots r)
      → holds_inside holds first plan n.local_name v (slots r) Nothing v p d (innermost n a s no_nodes) × IsQuiet (p + 1) (denotes (element n a s no_nodes) v p d)
  unfolding xread
  frame_opens holds slots r n a s v p d h =
      let again : read_so_far first plan n.local_name a v d p no_nodes ≡ Ok (slots r) = ap (λ r. r >>= λ ts. nodes_read no_nodes plan n.local_name v d (suc p) ts) h in
      (record { name_is = refl; version_is = refl; reads = again }, quiet_until n a s no_nodes v p d (slots r) (p + 1) again (omega arith))

  pub frame_refuses : (e : XmlReadError) (q : ℕ) (n : OwnedName) (a : List OwnedAttribute) (s : Namespace) (v : SpecVersion) (p : ℕ) (d : Depth) → FailsAt e q (first n.local_name a v p) → RefusesBefore e (p + 1) (denotes (element n a s no_nodes) v p d)
  frame_refuses e q n a s v p d h =
      refuses_along e q (p + 1) (first n.local_name a v p) _ (λ f is. (whole_fails n a s no_nodes v p d f (ap (λ r. r >>= λ ts. nodes_read no_nodes plan n.local_name v d (suc p) ts) is), ap suc (law.first_place n.local_name a v p f is) ∙ one_on p)) h
