-- What becomes of a machine by what becomes of its top frame.
use Rattle.std.proofs.Common.{◌≡◌, ℕ, suc, ◌+◌, ◌≤◌, List, [], ◌∷◌, ◌++◌, reverse, Bool, true, false, Some, None, Result, Ok, Err, refl, sym, ap, ◌∙◌, subst, arith}
use Rattle.std.specs.Prelude.{IfOk}
use Rattle.std.proofs.lemmas.List.{reverse-append}
use Rattle.cdx_events.specs.declared.name.OwnedName.{OwnedName}
use Rattle.cdx_events.specs.declared.name.OwnedAttribute.{OwnedAttribute}
use Rattle.cdx_events.specs.declared.name.Namespace.{Namespace}
use Rattle.cdx_events.specs.declared.event.XmlEvent.{XmlEvent}
use Rattle.cdx_events.specs.declared.event.XmlEvent.TheVariants.{StartDocument, EndDocument, StartElement, EndElement, Characters, CData}
use Rattle.cdx_events.specs.Event.{event_kind}
use Rattle.cdx_events.specs.Nodes.{Node, characters, cdata, element, no_nodes}
use Rattle.cdx_models.specs.declared.bom.SpecVersion.{SpecVersion}
use Rattle.cdx_models.specs.declared.errors.XmlReadError.{XmlReadError}
use Rattle.cdx_models.specs.declared.errors.XmlReadError.TheVariants.{Memory}
use Rattle.cdx_models.specs.Trees.{Tree, Trees}
use Rattle.cdx_schema.specs.Depth.{Depth, is_too_deep}
use Rattle.cdx_schema.specs.Faults.{unexpected}
use Rattle.cdx_schema.specs.Nodes.{places, places_of, ◌⊕◌}
use Rattle.cdx_schema.specs.XmlReading.{find_child, xread}
use Rattle.cdx_leaf.specs.declared.rule.Rule.{Rule}
use Rattle.cdx_leaf.specs.Attribute.{GivesAt}
use Rattle.cdx_leaf.specs.Fault.{Refused}
use Rattle.cdx_leaf.specs.Rules.{skips, passes, as_rule}
use Rattle.cdx_machine.specs.declared.frame.Inside.{Inside}
use Rattle.cdx_machine.specs.declared.frame.Inside.TheVariants.{Nothing, Read, Skipped}
use Rattle.cdx_schema.specs.XmlSpelling.{lone}
use Rattle.cdx_machine.specs.Begun.{Begun, innermost, around, Next, still, whole, count, start_name, into, next, TakesEvent}
use Rattle.cdx_machine.specs.Machines.{IsQuiet, Proceeds, Yields, CanStepChild, ChildHolding}
use Rattle.cdx_machine.specs.Frames.{IsForm, EntersAt, FeedsChild, skipped, holds_inside}
use Rattle.cdx_machine.proofs.Yielding.{proceeds_whole}
use Rattle.cdx_machine.proofs.FrameSteps.{own_enters_by, own_start_fails_by, own_end, own_text, own_text_fails, child_fed, child_fails, child_skipped, skip_fits, frame_yields}
use Rattle.cdx_machine.proofs.Frames.{StaysNamed, keeps_name, enters_unknown, enters_second}
use Rattle.cdx_machine.specs.Several.{Puts}
use Rattle.cdx_machine.proofs.Names.{FindsAt, FindsSecond}
use Rattle.cdx_nest_machine.specs.declared.nested.ChildReader.TheVariants.{Nested}
use Rattle.cdx_nest_machine.specs.Forms.{plan_of, first_of, last_step, inner_of, inner_read, IsNested}
use Rattle.cdx_nest_machine.specs.declared.stack.Open.{Open}
use Rattle.cdx_nest_machine.specs.declared.stack.Waiting.{Waiting}
use Rattle.cdx_nest_machine.specs.Frames.{stack_holds}
use Rattle.cdx_nest_machine.specs.Stacks.{Layer, plug_next, Shape, Stand, Stacked, HasRootSort}
use Rattle.cdx_nest_machine.proofs.Stacks.{next_plug, takes_plug, ended_alone, form_of, at_place, goes_on, is_refused, is_done, root_is, is_yielded, pops, pushes, begins}

-- Only an end makes an element whole.
pub whole_ends : (o : Begun) (event : XmlEvent) (k : Node) → next o event ≡ whole k → (m : OwnedName) × (event ≡ EndElement m)
whole_ends (innermost n a z xs) (EndElement m) k e = (m, refl)
whole_ends (innermost n a z xs) StartDocument k e = absurd (let wrong : still (innermost n a z xs) ≡ whole k = e in cc)
whole_ends (innermost n a z xs) EndDocument k e = absurd (let wrong : still (innermost n a z xs) ≡ whole k = e in cc)
whole_ends (innermost n a z xs) (StartElement m b r) k e = absurd (let wrong : still (around n a z xs (innermost m b r no_nodes)) ≡ whole k = e in cc)
whole_ends (innermost n a z xs) (Characters t) k e = absurd (let wrong : still (innermost n a z (xs ⊕ lone (characters t))) ≡ whole k = e in cc)
whole_ends (innermost n a z xs) (CData t) k e = absurd (let wrong : still (innermost n a z (xs ⊕ lone (cdata t))) ≡ whole k = e in cc)
whole_ends (around n a z xs o) event k e = absurd (never (next o event) e)
  where
    never : (x : Next) → into n a z xs x ≡ whole k → ⊥
    never (still y) i = cc
    never (whole y) i = cc

refused_as : (X Y : Type 0) (e fault : XmlReadError) → Refused {X = X} (Err e) fault → Refused {X = Y} (Err e) fault
refused_as X Y (Memory m) fault h = tt
refused_as X Y e fault h = h

module _ {W L K C : Type 0} (s : Shape W L K) (law : (k : K) → IsNested (s.as_kind k)) (holds : K → ChildHolding C) (kept : Type 0) (root : K) (ws : List W) (k : K) (name : List ℕ) (inner : Depth) (known : SpecVersion) (v : SpecVersion) (p : ℕ) (d : Depth) (o : Begun) (place : ℕ) (event : XmlEvent) where
  abbrev pub Told : (Begun → Type 0) → Result Bool XmlReadError → Type 0
  Told held r = Proceeds held kept (λ y. xread y v (s.as_kind root) p d) p (next o event) r

  abbrev pub Now : Trees → Inside C → Begun → Type 0
  Now ts inside o' = Stacked s holds root ws k name inner ts known inside v p d o'

  -- the top element by its own
  abbrev Reading : ℕ → Node → Result Tree XmlReadError
  Reading q y = inner_read (s.as_kind k) y v q inner

  form : IsForm (inner_read (s.as_kind k)) (plan_of (s.as_kind k)) (first_of (s.as_kind k)) (last_step (s.as_kind k))
  form = form_of (s.as_kind k) (law k)

  module _ (ts : Trees) (inside : Inside C) (h : Stacked s holds root ws k name inner ts known inside v p d o) where
    next_is : next o event ≡ plug_next h.layers (next h.top event)
    next_is = ap (λ (x : Begun). next x event) h.whole ∙ next_plug h.layers h.top event

    pub top_at : place ≡ p + count o → place ≡ h.place + count h.top
    top_at is = is ∙ (ap (λ (x : Begun). p + count x) h.whole ∙ at_place s law v root p d ws h.layers k h.place h.depth (start_name h.top) h.top h.stand)

    pub top_takes : TakesEvent o event → TakesEvent h.top event
    top_takes t = takes_plug h.layers h.top event (subst (λ (x : Begun). TakesEvent x event) h.whole t)

    -- The top element goes on.
    pub more : (us : Trees) (inside' : Inside C) → Proceeds (λ o. holds_inside (holds k) (first_of (s.as_kind k)) (plan_of (s.as_kind k)) name known us inside' v h.place inner o) kept (Reading h.place) h.place (next h.top event) (Ok false) → Told (Now us inside') (Ok false)
    more us inside' r =
        subst (λ (x : Next). Proceeds (Now us inside') kept (λ y. xread y v (s.as_kind root) p d) p x (Ok false)) (sym next_is)
        (goes_on s law v root p d holds ws k h.layers h.place h.depth inner (start_name h.top) h.stand h.inner_is h.fits kept kept name us known inside' (next h.top event) (keeps_name h.top event) r)

    -- It is refused.
    pub fails : (held : Begun → Type 0) (f : XmlReadError) → Proceeds held kept (Reading h.place) h.place (next h.top event) (Err f) → Told held (Err f)
    fails held f r =
        subst (λ (x : Next). Proceeds held kept (λ y. xread y v (s.as_kind root) p d) p x (Err f)) (sym next_is)
        (is_refused s law v root p d holds ws k h.layers h.place h.depth inner (start_name h.top) h.stand h.inner_is h.fits held held kept kept (next h.top event) f (keeps_name h.top event) r)

    -- It ends with the event, and no element is around it.
    pub yields : {X : Type 0} (view : X → Tree) (m : OwnedName) (q : ℕ) (x : Result X XmlReadError) (y : Node) → event ≡ EndElement m → place ≡ p + count o → TakesEvent o event → next o event ≡ whole y → GivesAt view q (last_step (s.as_kind k) m.local_name known place ts) x
        → Yields view (p + places y) (xread y v (s.as_kind root) p d) x × (k ≡ root)
    yields view m q x y e is t w g =
        let a : (h.layers ≡ []) × (next h.top event ≡ whole y) = ended_alone h.layers (next h.top event) y (sym next_is ∙ w) in (
          is_yielded s law v root p d holds ws k h.layers h.place h.depth inner (start_name h.top) h.stand h.inner_is h.fits view y x a.0
              (frame_yields (inner_read (s.as_kind k)) (plan_of (s.as_kind k)) (first_of (s.as_kind k)) (last_step (s.as_kind k)) form (holds k) (λ (x : Trees). x) kept v h.place inner name known view ts place q x inside h.top event m y h.held (top_at is) e (top_takes t) a.1 g),
          (root_is s law v root p d holds ws k h.layers h.place h.depth inner (start_name h.top) h.stand h.inner_is h.fits a.0).0,
        )

  -- ---- an open child of a leaf kind
  module _ (ts us : Trees) (c : C) (h : Stacked s holds root ws k name inner ts known (Read c) v p d o) (is : place ≡ p + count o) (t : TakesEvent o event) where
    pub leaf_fails : (held : Begun → Type 0) (f : XmlReadError) → FeedsChild (holds k) ts us c place event (Err f) → Told held (Err f)
    leaf_fails held f e =
        fails ts (Read c) h held f
        (child_fails (inner_read (s.as_kind k)) (plan_of (s.as_kind k)) (first_of (s.as_kind k)) (last_step (s.as_kind k)) form (holds k) (λ (x : Trees). x) kept v h.place inner name known held ts us c c h.top place event f h.held (top_at ts (Read c) h is) (top_takes ts (Read c) h t) e)

    pub leaf_fed : (inside : Inside C) → FeedsChild (holds k) ts us c place event (Ok inside) → Told (Now us inside) (Ok false)
    leaf_fed inside e =
        more ts (Read c) h us inside
        (child_fed (inner_read (s.as_kind k)) (plan_of (s.as_kind k)) (first_of (s.as_kind k)) (last_step (s.as_kind k)) form (holds k) (λ (x : Trees). x) kept v h.place inner name known ts us c inside h.top place event h.held (top_at ts (Read c) h is) (top_takes ts (Read c) h t) e)

    -- It can take the event.
    pub leaf_can : CanStepChild (holds k) c place event
    leaf_can = by h.top h.held (top_at ts (Read c) h is) (top_takes ts (Read c) h t)
      where
        at : (q i j : ℕ) → place ≡ q + suc (i + j) → place ≡ suc q + i + j
        at q i j e = omega (arith, e)

        by : (x : Begun) → holds_inside (holds k) (first_of (s.as_kind k)) (plan_of (s.as_kind k)) name known ts (Read c) v h.place inner x → place ≡ h.place + count x → TakesEvent x event → CanStepChild (holds k) c place event
        by (innermost n a z xs) i e t = absurd i
        by (around n a z xs x) i e t = record { row = i.1.row; v = v; p = suc h.place + places_of xs; d = inner; o = x; held = i.1.held; place_is = at h.place (places_of xs) (count x) e; takes = t }

  -- ---- a child that is skipped
  module _ (ts : Trees) (depth : ℕ) (h : Stacked s holds root ws k name inner ts known (Skipped depth) v p d o) where
    pub skip_fits_in : place ≡ p + count o → suc depth ≤ place
    skip_fits_in is =
        skip_fits (inner_read (s.as_kind k)) (plan_of (s.as_kind k)) (first_of (s.as_kind k)) (last_step (s.as_kind k)) form (holds k) (λ (x : Trees). x) kept v h.place inner name known ts depth place h.top h.held (top_at ts (Skipped depth) h is)

    pub skip_more : (inside : Inside C) → inside ≡ skipped depth event → TakesEvent o event → Told (Now ts inside) (Ok false)
    skip_more inside e t =
        more ts (Skipped depth) h ts inside
        (child_skipped (inner_read (s.as_kind k)) (plan_of (s.as_kind k)) (first_of (s.as_kind k)) (last_step (s.as_kind k)) form (holds k) (λ (x : Trees). x) kept v h.place inner name known ts depth inside h.top event e h.held (top_takes ts (Skipped depth) h t))

  -- ---- nothing is open in the top element
  module _ (ts : Trees) (h : Stacked s holds root ws k name inner ts known Nothing v p d o) (is : place ≡ p + count o) (t : TakesEvent o event) where
    module _ (rule : Rule) (ru : (plan_of (s.as_kind k)).rule ≡ as_rule rule) (i : (m : OwnedName) (b : List OwnedAttribute) (z : Namespace) → event ≡ StartElement m b z → ⊥) (j : (m : OwnedName) → event ≡ EndElement m → ⊥) where
      pub text_more : passes rule ≡ true → Told (Now ts Nothing) (Ok false)
      text_more does =
          more ts Nothing h ts Nothing
          (own_text (inner_read (s.as_kind k)) (plan_of (s.as_kind k)) (first_of (s.as_kind k)) (last_step (s.as_kind k)) form (holds k) (λ (x : Trees). x) kept v h.place inner name known ts Nothing rule h.top place event h.held (top_takes ts Nothing h t) ru does i j refl)

      pub text_fails : (held : Begun → Type 0) (x : Result Bool XmlReadError) → passes rule ≡ false → Refused x (unexpected place name (event_kind event)) → Told held x
      text_fails held (Ok y) not e = absurd e
      text_fails held (Err f) not e =
          fails ts Nothing h held f
          (own_text_fails (inner_read (s.as_kind k)) (plan_of (s.as_kind k)) (first_of (s.as_kind k)) (last_step (s.as_kind k)) form (holds k) (λ (x : Trees). x) kept v h.place inner name known ts held rule h.top place event (Err f) h.held (top_at ts Nothing h is) (top_takes ts Nothing h t) ru not i j e)

    -- a child's start
    module _ (m : OwnedName) (b : List OwnedAttribute) (z : Namespace) (e : event ≡ StartElement m b z) where
      pub start_fails : (held : Begun → Type 0) (f : XmlReadError) → EntersAt (holds k) (plan_of (s.as_kind k)) ts known name place inner (innermost m b z no_nodes) (Err f) → Told held (Err f)
      start_fails held f en =
          fails ts Nothing h held f
          (own_start_fails_by (inner_read (s.as_kind k)) (plan_of (s.as_kind k)) (first_of (s.as_kind k)) (last_step (s.as_kind k)) form (holds k) (λ (x : Trees). x) kept v h.place inner name known ts held h.top place event m b z f e h.held (top_at ts Nothing h is) en)

      pub start_more : (inside : Inside C) → EntersAt (holds k) (plan_of (s.as_kind k)) ts known name place inner (innermost m b z no_nodes) (Ok inside) → Told (Now ts inside) (Ok false)
      start_more inside en =
          more ts Nothing h ts inside
          (own_enters_by (inner_read (s.as_kind k)) (plan_of (s.as_kind k)) (first_of (s.as_kind k)) (last_step (s.as_kind k)) form (holds k) (λ (x : Trees). x) kept v h.place inner name known ts h.top place event m b z inside e h.held (top_at ts Nothing h is) en)

      -- one that the plan doesn't have
      pub unknown_fails : (held : Begun → Type 0) (rule : Rule) (x : Result Bool XmlReadError) → find_child known m.local_name (plan_of (s.as_kind k)).children ≡ None → (plan_of (s.as_kind k)).rule ≡ as_rule rule → skips rule ≡ false → Refused x (unexpected place name (event_kind event)) → Told held x
      unknown_fails held rule (Ok y) none ru not r = absurd r
      unknown_fails held rule (Err f) none ru not r =
          start_fails held f (enters_unknown (holds k) (plan_of (s.as_kind k)) ts known name place inner m b z (event_kind event) (Err f) rule none ru not (ap event_kind e) (refused_as Bool (Inside C) f (unexpected place name (event_kind event)) r))

      -- a second one where one may stand
      pub second_fails : (held : Begun → Type 0) (x : Result Bool XmlReadError) → FindsSecond (plan_of (s.as_kind k)).children ts known m.local_name → Refused x (unexpected place name (event_kind event)) → Told held x
      second_fails held (Ok y) second r = absurd r
      second_fails held (Err f) second r =
          start_fails held f (enters_second (holds k) (plan_of (s.as_kind k)) ts known name place inner m b z (event_kind event) (Err f) second (ap event_kind e) (refused_as Bool (Inside C) f (unexpected place name (event_kind event)) r))

    -- the top element's end
    module _ (m : OwnedName) (e : event ≡ EndElement m) where
      own_whole : (y : Node) × (next h.top event ≡ whole y)
      own_whole =
          let w : (y : Node) × (next h.top event ≡ whole y) × Unit {0} =
          proceeds_whole (λ (x : Begun). Unit {0}) (Unit {0}) (Reading h.place) h.place (next h.top event) true refl
          (own_end (inner_read (s.as_kind k)) (plan_of (s.as_kind k)) (first_of (s.as_kind k)) (last_step (s.as_kind k)) form (holds k) (λ (x : Trees). x) (Unit {0}) v h.place inner name known (λ (x : Begun). Unit {0}) ts h.top event m e h.held tt) in
          (w.0, w.1)

      ends : {X : Type 0} (view : X → Tree) (q : ℕ) (x : Result X XmlReadError) → GivesAt view q (last_step (s.as_kind k) m.local_name known place ts) x → Yields view (h.place + places own_whole.0) (Reading h.place own_whole.0) x
      ends view q x g = frame_yields (inner_read (s.as_kind k)) (plan_of (s.as_kind k)) (first_of (s.as_kind k)) (last_step (s.as_kind k)) form (holds k) (λ (x : Trees). x) kept v h.place inner name known view ts place q x Nothing h.top event m own_whole.0 h.held (top_at ts Nothing h is) e (top_takes ts Nothing h t) own_whole.1 g

      pub end_fails : {X : Type 0} (view : X → Tree) (held : Begun → Type 0) (q : ℕ) (f : XmlReadError) → GivesAt view q (last_step (s.as_kind k) m.local_name known place ts) (Err f) → Told held (Err f)
      end_fails view held q f g = fails ts Nothing h held f (subst (λ (x : Next). Proceeds held kept (Reading h.place) h.place x (Err f)) (sym own_whole.1) (ends view q (Err f) g))

      -- It is the root.
      pub end_done : (held : Begun → Type 0) → ws ≡ [] → kept → Told held (Ok true)
      end_done held none all =
          subst (λ (x : Next). Proceeds held kept (λ y. xread y v (s.as_kind root) p d) p x (Ok true)) (sym (next_is ts Nothing h))
          (is_done s law v root p d holds ws k h.layers h.place h.depth inner (start_name h.top) h.stand h.inner_is h.fits held held kept (next h.top event) none
          (own_end (inner_read (s.as_kind k)) (plan_of (s.as_kind k)) (first_of (s.as_kind k)) (last_step (s.as_kind k)) form (holds k) (λ (x : Trees). x) kept v h.place inner name known held ts h.top event m e h.held all))

      version_known : (o : Begun) → holds_inside (holds k) (first_of (s.as_kind k)) (plan_of (s.as_kind k)) name known ts Nothing v h.place inner o → known ≡ v
      version_known (innermost n a z xs) i = i.version_is
      version_known (around n a z xs o) i = absurd i

      pub end_pops : {X : Type 0} (view : X → Tree) (w : W) (us : List W) (q : ℕ) (x : X) (ts' : Trees) → ws ≡ w ∷ us → GivesAt view q (last_step (s.as_kind k) m.local_name known place ts) (Ok x) → Puts (plan_of (s.as_kind (s.sort w))).children (s.position w) (view x) (s.fields w) ts'
          → Told (λ o'. Stacked s holds root us (s.sort w) (s.name w) (s.inner w) ts' known Nothing v p d o') (Ok false)
      end_pops view w us q x ts' some g st =
          subst (λ (y : Next). Told' y) (sym (next_is ts Nothing h ∙ ap (λ (y : Next). plug_next h.layers y) own_whole.1))
          (pops s law v root p d holds kept w us k h.layers h.place h.depth inner (start_name h.top) own_whole.0 (view x) ts' known (subst (λ (z : List W). Stand s v root p d z h.layers k h.place h.depth (start_name h.top)) some h.stand) h.inner_is h.fits (subst (λ (y : Next). StaysNamed (start_name h.top) y) own_whole.1 (keeps_name h.top event)) (version_known h.top h.held) (ends view q (Ok x) g) st)
        where
          Told' : Next → Type 0
          Told' y = Proceeds (λ o'. Stacked s holds root us (s.sort w) (s.name w) (s.inner w) ts' known Nothing v p d o') kept (λ y. xread y v (s.as_kind root) p d) p y (Ok false)

    -- The frame below waits for what the top element is.
    pub waits_below : (w : W) (us : List W) → ws ≡ w ∷ us → s.child w ≡ Some (Nested k)
    waits_below w us some = by h.layers (subst (λ (z : List W). Stand s v root p d z h.layers k h.place h.depth (start_name h.top)) some h.stand)
      where
        by : (ls : List Layer) → Stand s v root p d (w ∷ us) ls k h.place h.depth (start_name h.top) → s.child w ≡ Some (Nested k)
        by [] i = absurd i
        by (l ∷ ls) i = i.0.child_nested

-- a nested child's start
pub start_pushes : {W L K C : Type 0} (s : Shape W L K) (law : (k : K) → IsNested (s.as_kind k)) (holds : K → ChildHolding C) (kept : Type 0) (root : K) (ws : List W) (w : W) (k : K) (known : SpecVersion) (v : SpecVersion) (p : ℕ) (d : Depth) (o : Begun) (place : ℕ) (event : XmlEvent)
    → Stacked s holds root ws (s.sort w) (s.name w) (s.inner w) (s.fields w) known Nothing v p d o → place ≡ p + count o
    → (m : OwnedName) (b : List OwnedAttribute) (z : Namespace) (name : List ℕ) (inner : Depth) (ts : Trees) → event ≡ StartElement m b z
    → (f : FindsAt (plan_of (s.as_kind (s.sort w))).children (s.fields w) known m.local_name (s.position w)) → s.child w ≡ Some (Nested k) → f.row.kind ≡ s.as_kind k
    → is_too_deep (s.as_kind k) (s.inner w) ≡ false → inner ≡ inner_of (s.as_kind k) (s.inner w) → name ≡ m.local_name → first_of (s.as_kind k) m.local_name b known place ≡ Ok ts
    → Proceeds (λ o'. Stacked s holds root (w ∷ ws) k name inner ts known Nothing v p d o') kept (λ y. xread y v (s.as_kind root) p d) p (next o event) (Ok false)
start_pushes s law holds kept root ws w k known v p d o place event h is m b z name inner ts e f child rk fit i n first =
    subst (λ (y : Next). Proceeds (λ o'. Stacked s holds root (w ∷ ws) k name inner ts known Nothing v p d o') kept (λ y. xread y v (s.as_kind root) p d) p y (Ok false)) (sym (ap (λ (x : Begun). next x event) h.whole ∙ next_plug h.layers h.top event))
    (pushes s law v root p d holds kept w k ws h.layers h.place h.depth h.top known place event m b z name inner ts h.stand h.inner_is h.fits h.held e
    (is ∙ (ap (λ (x : Begun). p + count x) h.whole ∙ at_place s law v root p d ws h.layers (s.sort w) h.place h.depth (start_name h.top) h.top h.stand)) f child rk fit i n first)

pub reversed : {W : Type 0} (xs : List W) (w : W) (ys : List W) → ys ≡ xs ++ w ∷ [] → reverse ys ≡ w ∷ reverse xs
reversed xs w ys e = ap reverse e ∙ reverse-append xs (w ∷ [])

-- ---- the same of a machine

pub held_top : {F L K C : Type 0} (s : Shape (Waiting F) L K) (holds : K → ChildHolding C) (sort_of : F → K) (fields : F → Trees) (root : K) (below : List (Waiting F)) (top : Open F) (known : SpecVersion) (inside : Inside C) (v : SpecVersion) (p : ℕ) (d : Depth) (o : Begun) (t : Open F) (x : Inside C)
    → stack_holds s holds sort_of fields root below top known inside v p d o → top ≡ t → inside ≡ x → stack_holds s holds sort_of fields root below t known x v p d o
held_top {F = F} {C = C} s holds sort_of fields root below top known inside v p d o t x h e f =
    subst (λ (y : Inside C). stack_holds s holds sort_of fields root below t known y v p d o) f (subst (λ (y : Open F). stack_holds s holds sort_of fields root below y known inside v p d o) e h)

-- the same frames by other names
pub renamed : {W L K C : Type 0} (s : Shape W L K) (holds : K → ChildHolding C) (kept : Type 0) (root : K) (known v : SpecVersion) (p : ℕ) (d : Depth) (x : Next) (r : Result Bool XmlReadError) (ws us : List W) (k k' : K) (name : List ℕ) (inner : Depth) (ts : Trees) (inside inside' : Inside C) → us ≡ ws → k' ≡ k → inside' ≡ inside
    → Proceeds (λ o. Stacked s holds root ws k name inner ts known inside v p d o) kept (λ y. xread y v (s.as_kind root) p d) p x r → Proceeds (λ o. Stacked s holds root us k' name inner ts known inside' v p d o) kept (λ y. xread y v (s.as_kind root) p d) p x r
renamed {W = W} {K = K} {C = C} s holds kept root known v p d x r ws us k k' name inner ts inside inside' e f i h =
    subst (λ (y : Inside C). Proceeds (λ o. Stacked s holds root us k' name inner ts known y v p d o) kept (λ y. xread y v (s.as_kind root) p d) p x r) (sym i)
    (subst (λ (j : K). Proceeds (λ o. Stacked s holds root us j name inner ts known inside v p d o) kept (λ y. xread y v (s.as_kind root) p d) p x r) (sym f)
    (subst (λ (z : List W). Proceeds (λ o. Stacked s holds root z k name inner ts known inside v p d o) kept (λ y. xread y v (s.as_kind root) p d) p x r) (sym e) h))

-- the root's start
pub began : {W L K C : Type 0} (s : Shape W L K) (law : (k : K) → IsNested (s.as_kind k)) (holds : K → ChildHolding C) (root k : K) (ys : List W) (v : SpecVersion) (p : ℕ) (d : Depth) (m : OwnedName) (b : List OwnedAttribute) (z : Namespace) (name : List ℕ) (inner : Depth) (ts : Trees)
    → ys ≡ [] → k ≡ root → is_too_deep (s.as_kind root) d ≡ false → inner ≡ inner_of (s.as_kind root) d → name ≡ m.local_name → first_of (s.as_kind root) m.local_name b v p ≡ Ok ts
    → Stacked s holds root (reverse ys) k name inner ts v Nothing v p d (innermost m b z no_nodes) × IsQuiet (p + 1) (xread (element m b z no_nodes) v (s.as_kind root) p d)
began {W = W} {K = K} s law holds root k ys v p d m b z name inner ts e ki fit i n first =
    let r : Stacked s holds root [] root name inner ts v Nothing v p d (innermost m b z no_nodes) × IsQuiet (p + 1) (xread (element m b z no_nodes) v (s.as_kind root) p d) = begins s law v root p d holds m b z name inner ts fit i n first in
    (subst (λ (x : K). Stacked s holds root (reverse ys) x name inner ts v Nothing v p d (innermost m b z no_nodes)) (sym ki) (subst (λ (x : List W). Stacked s holds root (reverse x) root name inner ts v Nothing v p d (innermost m b z no_nodes)) (sym e) r.0), r.1)

-- A value of the top frame's kind is of the root's.
pub of_root : {X K : Type 0} (sort : X → K) (root k : K) (r : Result X XmlReadError) → k ≡ root → IfOk r (λ x. sort x ≡ k) → HasRootSort sort root r
of_root sort root k (Ok x) is h = h ∙ is
of_root sort root k (Err e) is h = tt
