-- What becomes of a whole stack by what becomes of its top frame.
use Rattle.std.proofs.Common.{◌≡◌, ℕ, suc, ◌+◌, List, [], ◌∷◌, Bool, true, false, Some, Result, Ok, Err, refl, sym, ap, ◌∙◌, subst, arith}
use Rattle.cdx_events.specs.declared.name.OwnedName.{OwnedName}
use Rattle.cdx_events.specs.declared.name.OwnedAttribute.{OwnedAttribute}
use Rattle.cdx_events.specs.declared.name.Namespace.{Namespace}
use Rattle.cdx_events.specs.declared.event.XmlEvent.{XmlEvent}
use Rattle.cdx_events.specs.declared.event.XmlEvent.TheVariants.{StartElement}
use Rattle.cdx_events.specs.Nodes.{Node, element, no_nodes}
use Rattle.cdx_models.specs.declared.bom.SpecVersion.{SpecVersion}
use Rattle.cdx_models.specs.declared.errors.XmlReadError.{XmlReadError}
use Rattle.cdx_models.specs.Trees.{Tree, Trees}
use Rattle.cdx_schema.specs.Depth.{Depth, is_too_deep}
use Rattle.cdx_schema.specs.Kinds.{Kind}
use Rattle.cdx_schema.specs.Nodes.{places, places_of, ◌⊕◌}
use Rattle.cdx_schema.specs.XmlReading.{find_child, xread}
use Rattle.cdx_machine.specs.declared.frame.Inside.{Inside}
use Rattle.cdx_machine.specs.declared.frame.Inside.TheVariants.{Nothing}
use Rattle.cdx_schema.specs.XmlSpelling.{lone}
use Rattle.cdx_machine.specs.Begun.{Begun, innermost, around, Next, still, whole, count, start_name, ended_now, into, next, TakesEvent}
use Rattle.cdx_machine.specs.Machines.{RefusesBefore, IsQuiet, Proceeds, Yields, ChildHolding}
use Rattle.cdx_machine.specs.Frames.{IsForm, read_so_far, holds_inside}
use Rattle.cdx_machine.proofs.Places.{places_more}
use Rattle.cdx_machine.proofs.Children.{puts_row}
use Rattle.cdx_machine.proofs.Faults.{refuses_on}
use Rattle.cdx_machine.proofs.FrameSteps.{open_ok, open_fails, open_quiet, quiet_inside, frame_opens, frame_refuses}
use Rattle.cdx_machine.proofs.Frames.{IsNamed, ended_named, StaysNamed, keeps_into}
use Rattle.cdx_machine.specs.Several.{Puts}
use Rattle.cdx_machine.proofs.Names.{FindsAt}
use Rattle.cdx_nest_machine.specs.declared.nested.ChildReader.TheVariants.{Nested}
use Rattle.cdx_nest_machine.specs.Forms.{plan_of, first_of, last_step, inner_of, inner_read, IsNested}
use Rattle.cdx_nest_machine.specs.Stacks.{Layer, plug, plug_next, Shape, Waits, Stand, Stacked}
use Rattle.cdx_leaf.specs.Fault.{FailsAt}

-- ---- events

pub next_plug : (ls : List Layer) (o : Begun) (event : XmlEvent) → next (plug ls o) event ≡ plug_next ls (next o event)
next_plug [] o event = refl
next_plug (l ∷ ls) o event = next_plug ls (around l.name l.attributes l.namespace l.nodes o) event

pub takes_plug : (ls : List Layer) (o : Begun) (event : XmlEvent) → TakesEvent (plug ls o) event → TakesEvent o event
takes_plug [] o event t = t
takes_plug (l ∷ ls) o event t = takes_plug ls (around l.name l.attributes l.namespace l.nodes o) event t

pub still_plug : (ls : List Layer) (o : Begun) → plug_next ls (still o) ≡ still (plug ls o)
still_plug [] o = refl
still_plug (l ∷ ls) o = still_plug ls (around l.name l.attributes l.namespace l.nodes o)

-- What ends with the event is the top element, and none is around it.
pub ended_alone : (ls : List Layer) (x : Next) (k : Node) → plug_next ls x ≡ whole k → (ls ≡ []) × (x ≡ whole k)
ended_alone [] x k e = (refl, e)
ended_alone (l ∷ ls) (still o) k e = absurd (let wrong : still (plug ls (around l.name l.attributes l.namespace l.nodes o)) ≡ whole k = sym (still_plug ls (around l.name l.attributes l.namespace l.nodes o)) ∙ e in cc)
ended_alone (l ∷ ls) (whole y) k e = absurd (let wrong : still (plug ls (innermost l.name l.attributes l.namespace (l.nodes ⊕ lone y))) ≡ whole k = sym (still_plug ls (innermost l.name l.attributes l.namespace (l.nodes ⊕ lone y))) ∙ e in cc)

pub form_of : (kind : Kind) → IsNested kind → IsForm (inner_read kind) (plan_of kind) (first_of kind) (last_step kind)
form_of kind law = record { reads = λ n a s xs v p d. refl; first_place = law.first_place; last_place = law.last_place }

module _ {W L K : Type 0} (s : Shape W L K) (law : (k : K) → IsNested (s.as_kind k)) (v : SpecVersion) where
  -- ---- one frame around an open child
  module _ (w : W) (l : Layer) (k : K) (q : ℕ) (e : Depth) (m : OwnedName) (h : Waits s v w l k q e m) where
    -- what the child denotes, by the child of the plan
    by_row : (x : Node) → xread x v (s.as_kind k) q e ≡ xread x v h.finds.row.kind (suc l.place + places_of l.nodes) (inner_of (s.as_kind (s.sort w)) l.depth)
    by_row x =
        ap (λ (i : Kind). xread x v i q e) (sym h.row_kind)
        ∙ (ap (λ (i : ℕ). xread x v h.finds.row.kind i e) h.place_is
        ∙ ap (λ (i : Depth). xread x v h.finds.row.kind (suc l.place + places_of l.nodes) i) h.depth_is)

    pub layer_fails : (x : Node) (f : XmlReadError) → IsNamed m x → xread x v (s.as_kind k) q e ≡ Err f → xread (element l.name l.attributes l.namespace (l.nodes ⊕ lone x)) v (s.as_kind (s.sort w)) l.place l.depth ≡ Err f
    layer_fails x f i is =
        let c = s.as_kind (s.sort w) in
        (law (s.sort w)).reads (element l.name l.attributes l.namespace (l.nodes ⊕ lone x)) v l.place l.depth h.sits.fits
        ∙ open_fails (inner_read c) (plan_of c) (first_of c) (last_step c) (form_of c (law (s.sort w))) l.name l.attributes l.namespace l.nodes v l.place (inner_of c l.depth) (s.fields w) h.sits.reads x m h.finds.row f i h.finds.found h.finds.first_one (sym (by_row x) ∙ is)

    pub layer_quiet : (o : Begun) → start_name o ≡ m → IsQuiet (q + count o) (xread (ended_now o) v (s.as_kind k) q e)
        → IsQuiet (l.place + count (around l.name l.attributes l.namespace l.nodes o)) (xread (ended_now (around l.name l.attributes l.namespace l.nodes o)) v (s.as_kind (s.sort w)) l.place l.depth)
    layer_quiet o i quiet =
        let c = s.as_kind (s.sort w) in
        subst (λ (r : Result Tree XmlReadError). IsQuiet (l.place + suc (places_of l.nodes + count o)) r) (sym ((law (s.sort w)).reads (element l.name l.attributes l.namespace (l.nodes ⊕ lone (ended_now o))) v l.place l.depth h.sits.fits))
        (open_quiet (inner_read c) (plan_of c) (first_of c) (last_step c) (form_of c (law (s.sort w))) l.name l.attributes l.namespace l.nodes v l.place (inner_of c l.depth) (s.fields w) h.sits.reads o m h.finds.row (subst (λ (n : OwnedName). IsNamed n (ended_now o)) i (ended_named o)) h.finds.found h.finds.first_one
        (subst (λ (j : ℕ). IsQuiet (j + count o) (xread (ended_now o) v h.finds.row.kind (suc l.place + places_of l.nodes) (inner_of c l.depth))) h.place_is (subst (λ (r : Result Tree XmlReadError). IsQuiet (q + count o) r) (by_row (ended_now o)) quiet)))

    pub layer_at : (o : Begun) → l.place + count (around l.name l.attributes l.namespace l.nodes o) ≡ q + count o
    layer_at o = at (places_of l.nodes) (count o) h.place_is
      where
        at : (i j : ℕ) → q ≡ suc l.place + i → l.place + suc (i + j) ≡ q + j
        at i j e = omega (arith, e)

    -- a fault of the child, or of what is open in it
    pub layer_err : (held held' : Begun → Type 0) (kept kept' : Type 0) (x : Next) (f : XmlReadError) → StaysNamed m x → Proceeds held kept (λ y. xread y v (s.as_kind k) q e) q x (Err f)
        → Proceeds held' kept' (λ y. xread y v (s.as_kind (s.sort w)) l.place l.depth) l.place (into l.name l.attributes l.namespace l.nodes x) (Err f)
    layer_err held held' kept kept' (still o) f i r =
        refuses_on f (q + count o) (l.place + count (around l.name l.attributes l.namespace l.nodes o)) (xread (ended_now o) v (s.as_kind k) q e) _ (λ g is. layer_fails (ended_now o) g (subst (λ (n : OwnedName). IsNamed n (ended_now o)) i (ended_named o)) is) (sym (layer_at o)) r
    layer_err held held' kept kept' (whole x) f i r =
        refuses_on f (q + places x) (l.place + suc (places_of (l.nodes ⊕ lone x))) (xread x v (s.as_kind k) q e) _ (λ g is. layer_fails x g i is) (at (places_of l.nodes) (places x) _ h.place_is (places_more l.nodes x)) r
      where
        at : (i j n : ℕ) → q ≡ suc l.place + i → n ≡ i + j → q + j ≡ l.place + suc n
        at i j n e g = omega (arith, e, g)

    -- The child is read, and its tree is stored.
    pub layer_sits : (x : Node) (t : Tree) (ts : Trees) → IsNamed m x → xread x v (s.as_kind k) q e ≡ Ok t → Puts (plan_of (s.as_kind (s.sort w))).children (s.position w) t (s.fields w) ts
        → read_so_far (first_of (s.as_kind (s.sort w))) (plan_of (s.as_kind (s.sort w))) l.name.local_name l.attributes v (inner_of (s.as_kind (s.sort w)) l.depth) l.place (l.nodes ⊕ lone x) ≡ Ok ts
    layer_sits x t ts i is same =
        let c = s.as_kind (s.sort w) in
        open_ok (inner_read c) (plan_of c) (first_of c) (last_step c) (form_of c (law (s.sort w))) l.name l.attributes l.namespace l.nodes v l.place (inner_of c l.depth) (s.fields w) h.sits.reads x m h.finds.row t i h.finds.found h.finds.first_one (sym (by_row x) ∙ is)
        ∙ ap (λ (us : Trees). Ok us) (sym (puts_row (plan_of c).children (s.position w) h.finds.row t (s.fields w) ts h.finds.is_at same))

  -- ---- all frames around an open element
  module _ (root : K) (p : ℕ) (d : Depth) where
    pub at_place : (ws : List W) (ls : List Layer) (k : K) (q : ℕ) (e : Depth) (m : OwnedName) (o : Begun) → Stand s v root p d ws ls k q e m → p + count (plug ls o) ≡ q + count o
    at_place [] [] k q e m o h = ap (λ i. i + count o) (sym h.1)
    at_place [] (l ∷ ls) k q e m o h = absurd h
    at_place (w ∷ ws) [] k q e m o h = absurd h
    at_place (w ∷ ws) (l ∷ ls) k q e m o (h, hs) = at_place ws ls (s.sort w) l.place l.depth l.name (around l.name l.attributes l.namespace l.nodes o) hs ∙ layer_at w l k q e m h o

    pub lift_quiet : (ws : List W) (ls : List Layer) (k : K) (q : ℕ) (e : Depth) (m : OwnedName) (o : Begun) → Stand s v root p d ws ls k q e m → start_name o ≡ m → IsQuiet (q + count o) (xread (ended_now o) v (s.as_kind k) q e)
        → IsQuiet (p + count (plug ls o)) (xread (ended_now (plug ls o)) v (s.as_kind root) p d)
    lift_quiet [] [] k q e m o (a, b, c) i quiet =
        subst (λ (x : Depth). IsQuiet (p + count o) (xread (ended_now o) v (s.as_kind root) p x)) c
        (subst (λ (x : ℕ). IsQuiet (x + count o) (xread (ended_now o) v (s.as_kind root) x e)) b (subst (λ (x : K). IsQuiet (q + count o) (xread (ended_now o) v (s.as_kind x) q e)) a quiet))
    lift_quiet [] (l ∷ ls) k q e m o h i quiet = absurd h
    lift_quiet (w ∷ ws) [] k q e m o h i quiet = absurd h
    lift_quiet (w ∷ ws) (l ∷ ls) k q e m o (h, hs) i quiet = lift_quiet ws ls (s.sort w) l.place l.depth l.name (around l.name l.attributes l.namespace l.nodes o) hs refl (layer_quiet w l k q e m h o i quiet)

    pub lift_err : (ws : List W) (ls : List Layer) (k : K) (q : ℕ) (e : Depth) (m : OwnedName) (held held' : Begun → Type 0) (kept kept' : Type 0) (x : Next) (f : XmlReadError) → Stand s v root p d ws ls k q e m → StaysNamed m x
        → Proceeds held kept (λ y. xread y v (s.as_kind k) q e) q x (Err f) → Proceeds held' kept' (λ y. xread y v (s.as_kind root) p d) p (plug_next ls x) (Err f)
    lift_err [] [] k q e m held held' kept kept' x f (a, b, c) i r = here x r
      where
        here : (x : Next) → Proceeds held kept (λ y. xread y v (s.as_kind k) q e) q x (Err f) → Proceeds held' kept' (λ y. xread y v (s.as_kind root) p d) p x (Err f)
        here (still o) r = subst (λ (z : Depth). RefusesBefore f (p + count o) (xread (ended_now o) v (s.as_kind root) p z)) c (subst (λ (z : ℕ). RefusesBefore f (z + count o) (xread (ended_now o) v (s.as_kind root) z e)) b (subst (λ (z : K). RefusesBefore f (q + count o) (xread (ended_now o) v (s.as_kind z) q e)) a r))
        here (whole y) r = subst (λ (z : Depth). RefusesBefore f (p + places y) (xread y v (s.as_kind root) p z)) c (subst (λ (z : ℕ). RefusesBefore f (z + places y) (xread y v (s.as_kind root) z e)) b (subst (λ (z : K). RefusesBefore f (q + places y) (xread y v (s.as_kind z) q e)) a r))
    lift_err [] (l ∷ ls) k q e m held held' kept kept' x f h i r = absurd h
    lift_err (w ∷ ws) [] k q e m held held' kept kept' x f h i r = absurd h
    lift_err (w ∷ ws) (l ∷ ls) k q e m held held' kept kept' x f (h, hs) i r =
        lift_err ws ls (s.sort w) l.place l.depth l.name held held' kept kept' (into l.name l.attributes l.namespace l.nodes x) f hs (keeps_into l.name l.attributes l.namespace l.nodes x) (layer_err w l k q e m h held held kept kept x f i r)

    -- ---- the top frame
    module _ {C : Type 0} (holds : K → ChildHolding C) (ws : List W) (k : K) where
      abbrev pub Kept : List ℕ → Depth → Trees → SpecVersion → Inside C → Begun → Type 0
      Kept name inner ts known inside o = Stacked s holds root ws k name inner ts known inside v p d o

      abbrev pub Told : (Begun → Type 0) → Type 0 → Next → Result Bool XmlReadError → Type 0
      Told held kept x r = Proceeds held kept (λ y. xread y v (s.as_kind root) p d) p x r

      module _ (ls : List Layer) (q : ℕ) (e inner : Depth) (m : OwnedName) (h : Stand s v root p d ws ls k q e m) (i : inner ≡ inner_of (s.as_kind k) e) (fit : is_too_deep (s.as_kind k) e ≡ false) where
        -- What the top element denotes, by the depth of its parts.
        by_inner : (y : Node) → inner_read (s.as_kind k) y v q inner ≡ xread y v (s.as_kind k) q e
        by_inner y = ap (λ (z : Depth). inner_read (s.as_kind k) y v q z) i ∙ sym ((law k).reads y v q e fit)

        -- The top element goes on.
        pub goes_on : (top_kept kept : Type 0) (name : List ℕ) (ts : Trees) (known : SpecVersion) (inside : Inside C) (x : Next) → StaysNamed m x
            → Proceeds (λ o. holds_inside (holds k) (first_of (s.as_kind k)) (plan_of (s.as_kind k)) name known ts inside v q inner o) top_kept (λ y. inner_read (s.as_kind k) y v q inner) q x (Ok false)
            → Told (Kept name inner ts known inside) kept (plug_next ls x) (Ok false)
        goes_on top_kept kept name ts known inside (whole y) w r = absurd r
        goes_on top_kept kept name ts known inside (still o) w r =
            subst (λ (z : Next). Told (Kept name inner ts known inside) kept z (Ok false)) (sym (still_plug ls o)) (
              record { layers = ls; top = o; place = q; depth = e; whole = refl; stand = subst (λ (n : OwnedName). Stand s v root p d ws ls k q e n) (sym w) h; inner_is = i; fits = fit; held = r.0 },
              lift_quiet ws ls k q e m o h w (subst (λ (z : Result Tree XmlReadError). IsQuiet (q + count o) z) (by_inner (ended_now o)) r.1),
            )

        -- It is refused.
        pub is_refused : (top_held held : Begun → Type 0) (top_kept kept : Type 0) (x : Next) (f : XmlReadError) → StaysNamed m x
            → Proceeds top_held top_kept (λ y. inner_read (s.as_kind k) y v q inner) q x (Err f) → Told held kept (plug_next ls x) (Err f)
        is_refused top_held held top_kept kept x f w r = lift_err ws ls k q e m top_held held top_kept kept x f h w (by x r)
          where
            by : (x : Next) → Proceeds top_held top_kept (λ y. inner_read (s.as_kind k) y v q inner) q x (Err f) → Proceeds top_held top_kept (λ y. xread y v (s.as_kind k) q e) q x (Err f)
            by (still o) r = subst (λ (z : Result Tree XmlReadError). RefusesBefore f (q + count o) z) (by_inner (ended_now o)) r
            by (whole y) r = subst (λ (z : Result Tree XmlReadError). RefusesBefore f (q + places y) z) (by_inner y) r

        -- It has ended, and it is the root.
        pub is_done : (top_held held : Begun → Type 0) (kept : Type 0) (x : Next) → ws ≡ [] → Proceeds top_held kept (λ y. inner_read (s.as_kind k) y v q inner) q x (Ok true) → Told held kept (plug_next ls x) (Ok true)
        is_done top_held held kept x none r = by ls x (subst (λ (z : List W). Stand s v root p d z ls k q e m) none h) r
          where
            by : (ls : List Layer) (x : Next) → Stand s v root p d [] ls k q e m → Proceeds top_held kept (λ y. inner_read (s.as_kind k) y v q inner) q x (Ok true) → Told held kept (plug_next ls x) (Ok true)
            by (l ∷ ls) x h r = absurd h
            by [] (still o) h r = absurd r
            by [] (whole x) h r = r

        -- Where no element is around it, it is the root.
        pub root_is : ls ≡ [] → (k ≡ root) × (q ≡ p) × (e ≡ d)
        root_is none = by ws (subst (λ (z : List Layer). Stand s v root p d ws z k q e m) none h)
          where
            by : (ws : List W) → Stand s v root p d ws [] k q e m → (k ≡ root) × (q ≡ p) × (e ≡ d)
            by [] h = h
            by (w ∷ ws) h = absurd h

        -- What it is read as then is what the root is.
        pub is_yielded : {X : Type 0} (view : X → Tree) (y : Node) (r : Result X XmlReadError) → ls ≡ [] → Yields view (q + places y) (inner_read (s.as_kind k) y v q inner) r → Yields view (p + places y) (xread y v (s.as_kind root) p d) r
        is_yielded view y r none g =
            let is : (k ≡ root) × (q ≡ p) × (e ≡ d) = root_is none in
            subst (λ (z : Depth). Yields view (p + places y) (xread y v (s.as_kind root) p z) r) is.2
            (subst (λ (z : ℕ). Yields view (z + places y) (xread y v (s.as_kind root) z e) r) is.1
            (subst (λ (z : K). Yields view (q + places y) (xread y v (s.as_kind z) q e) r) is.0 (subst (λ (z : Result Tree XmlReadError). Yields view (q + places y) z r) (by_inner y) g)))

    -- The top element has ended, and its tree is put into the frame below.
    pub pops : {C : Type 0} (holds : K → ChildHolding C) (kept : Type 0) (w : W) (ws : List W) (k : K) (ls : List Layer) (q : ℕ) (e inner : Depth) (m : OwnedName) (x : Node) (t : Tree) (ts : Trees) (known : SpecVersion)
        → Stand s v root p d (w ∷ ws) ls k q e m → inner ≡ inner_of (s.as_kind k) e → is_too_deep (s.as_kind k) e ≡ false → IsNamed m x → known ≡ v
        → inner_read (s.as_kind k) x v q inner ≡ Ok t → Puts (plan_of (s.as_kind (s.sort w))).children (s.position w) t (s.fields w) ts
        → Proceeds (λ o. Stacked s holds root ws (s.sort w) (s.name w) (s.inner w) ts known Nothing v p d o) kept (λ y. xread y v (s.as_kind root) p d) p (plug_next ls (whole x)) (Ok false)
    pops holds kept w ws k [] q e inner m x t ts known h i fit n kv r is = absurd h
    pops holds kept w ws k (l ∷ ls) q e inner m x t ts known (h, hs) i fit n kv r is =
        let c = s.as_kind (s.sort w) in
        let again : read_so_far (first_of c) (plan_of c) l.name.local_name l.attributes v (inner_of c l.depth) l.place (l.nodes ⊕ lone x) ≡ Ok ts =
        layer_sits w l k q e m h x t ts n ((law k).reads x v q e fit ∙ (ap (λ (z : Depth). inner_read (s.as_kind k) x v q z) (sym i) ∙ r)) is in
        let quiet : IsQuiet (l.place + suc (places_of (l.nodes ⊕ lone x))) (inner_read c (element l.name l.attributes l.namespace (l.nodes ⊕ lone x)) v l.place (inner_of c l.depth)) =
        quiet_inside (inner_read c) (plan_of c) (first_of c) (last_step c) (form_of c (law (s.sort w))) l.name l.attributes l.namespace (l.nodes ⊕ lone x) v l.place (inner_of c l.depth) ts again in
        let held : holds_inside (holds (s.sort w)) (first_of c) (plan_of c) (s.name w) known ts Nothing v l.place (s.inner w) (innermost l.name l.attributes l.namespace (l.nodes ⊕ lone x)) =
        record { name_is = h.sits.name_is; version_is = kv; reads = ap (λ (z : Depth). read_so_far (first_of c) (plan_of c) l.name.local_name l.attributes v z l.place (l.nodes ⊕ lone x)) h.sits.inner_is ∙ again } in
        goes_on holds ws (s.sort w) ls l.place l.depth (s.inner w) l.name hs h.sits.inner_is h.sits.fits kept kept (s.name w) ts known Nothing (still (innermost l.name l.attributes l.namespace (l.nodes ⊕ lone x))) refl
        (held, subst (λ (z : Depth). IsQuiet (l.place + suc (places_of (l.nodes ⊕ lone x))) (inner_read c (element l.name l.attributes l.namespace (l.nodes ⊕ lone x)) v l.place z)) (sym h.sits.inner_is) quiet)

    -- A nested child starts in the top element.
    pub pushes : {C : Type 0} (holds : K → ChildHolding C) (kept : Type 0) (w : W) (k : K) (ws : List W) (ls : List Layer) (q : ℕ) (e : Depth) (o : Begun) (known : SpecVersion) (place : ℕ) (event : XmlEvent) (m : OwnedName) (b : List OwnedAttribute) (z : Namespace) (name : List ℕ) (inner : Depth) (ts : Trees)
        → Stand s v root p d ws ls (s.sort w) q e (start_name o) → s.inner w ≡ inner_of (s.as_kind (s.sort w)) e → is_too_deep (s.as_kind (s.sort w)) e ≡ false
        → holds_inside (holds (s.sort w)) (first_of (s.as_kind (s.sort w))) (plan_of (s.as_kind (s.sort w))) (s.name w) known (s.fields w) Nothing v q (s.inner w) o
        → event ≡ StartElement m b z → place ≡ q + count o
        → (f : FindsAt (plan_of (s.as_kind (s.sort w))).children (s.fields w) known m.local_name (s.position w)) → s.child w ≡ Some (Nested k) → f.row.kind ≡ s.as_kind k
        → is_too_deep (s.as_kind k) (s.inner w) ≡ false → inner ≡ inner_of (s.as_kind k) (s.inner w) → name ≡ m.local_name → first_of (s.as_kind k) m.local_name b known place ≡ Ok ts
        → Proceeds (λ o. Stacked s holds root (w ∷ ws) k name inner ts known Nothing v p d o) kept (λ y. xread y v (s.as_kind root) p d) p (plug_next ls (next o event)) (Ok false)
    pushes holds kept w k ws ls q e (around n a sp xs o) known place event m b z name inner ts h i fit own is at f child rk fit' i' n' first = absurd own
    pushes holds kept w k ws ls q e (innermost n a sp xs) known place event m b z name inner ts h i fit own is at f child rk fit' i' n' first =
        let c = s.as_kind (s.sort w) in
        let c' = s.as_kind k in
        let l : Layer = record { name = n; attributes = a; namespace = sp; nodes = xs; place = q; depth = e } in
        let here : place ≡ suc q + places_of xs = moved (places_of xs) at in
        let first' : first_of c' m.local_name b v (suc q + places_of xs) ≡ Ok ts = ap (λ (x : ℕ). first_of c' m.local_name b v x) (sym here) ∙ (ap (λ (x : SpecVersion). first_of c' m.local_name b x place) (sym own.version_is) ∙ first) in
        let opened : holds_inside (holds k) (first_of c') (plan_of c') m.local_name v ts Nothing v (suc q + places_of xs) inner (innermost m b z no_nodes) × IsQuiet ((suc q + places_of xs) + 1) (inner_read c' (element m b z no_nodes) v (suc q + places_of xs) inner) =
        frame_opens (inner_read c') (plan_of c') (first_of c') (last_step c') (form_of c' (law k)) (holds k) (λ (x : Trees). x) ts m b z v (suc q + places_of xs) inner first' in
        let waits : Waits s v w l k (suc q + places_of xs) (s.inner w) m = record {
          sits = record { name_is = own.name_is; inner_is = i; fits = fit; reads = ap (λ (x : Depth). read_so_far (first_of c) (plan_of c) n.local_name a v x q xs) (sym i) ∙ own.reads };
          finds = record { row = f.row; is_at = f.is_at; found = ap (λ (x : SpecVersion). find_child x m.local_name (plan_of c).children) (sym own.version_is) ∙ f.found; first_one = f.first_one };
          child_nested = child;
          row_kind = rk;
          place_is = refl;
          depth_is = i;
        } in
        subst (λ (x : XmlEvent). Proceeds (λ o. Stacked s holds root (w ∷ ws) k name inner ts known Nothing v p d o) kept (λ y. xread y v (s.as_kind root) p d) p (plug_next ls (next (innermost n a sp xs) x)) (Ok false)) (sym is)
        (goes_on holds (w ∷ ws) k (l ∷ ls) (suc q + places_of xs) (s.inner w) inner m (waits, h) i' fit' kept kept name ts known Nothing (still (innermost m b z no_nodes)) refl
        (record { name_is = n'; version_is = own.version_is; reads = opened.0.reads }, opened.1))
      where
        moved : (j : ℕ) → place ≡ q + suc j → place ≡ suc q + j
        moved j e = omega (arith, e)

    -- the start of the root
    pub begins : {C : Type 0} (holds : K → ChildHolding C) (m : OwnedName) (b : List OwnedAttribute) (z : Namespace) (name : List ℕ) (inner : Depth) (ts : Trees) → is_too_deep (s.as_kind root) d ≡ false → inner ≡ inner_of (s.as_kind root) d → name ≡ m.local_name → first_of (s.as_kind root) m.local_name b v p ≡ Ok ts
        → Stacked s holds root [] root name inner ts v Nothing v p d (innermost m b z no_nodes) × IsQuiet (p + 1) (xread (element m b z no_nodes) v (s.as_kind root) p d)
    begins holds m b z name inner ts fit i n first =
        let c = s.as_kind root in
        let opened : holds_inside (holds root) (first_of c) (plan_of c) m.local_name v ts Nothing v p inner (innermost m b z no_nodes) × IsQuiet (p + 1) (inner_read c (element m b z no_nodes) v p inner) =
        frame_opens (inner_read c) (plan_of c) (first_of c) (last_step c) (form_of c (law root)) (holds root) (λ (x : Trees). x) ts m b z v p inner first in (
          record { layers = []; top = innermost m b z no_nodes; place = p; depth = d; whole = refl; stand = (refl, refl, refl); inner_is = i; fits = fit; held = record { name_is = n; version_is = opened.0.version_is; reads = opened.0.reads } },
          subst (λ (r : Result Tree XmlReadError). IsQuiet (p + 1) r) (ap (λ (x : Depth). inner_read c (element m b z no_nodes) v p x) i ∙ sym ((law root).reads (element m b z no_nodes) v p d fit)) opened.1,
        )

pub begin_refuses : (kind : Kind) → IsNested kind → (e : XmlReadError) (q : ℕ) (n : OwnedName) (a : List OwnedAttribute) (z : Namespace) (v : SpecVersion) (p : ℕ) (d : Depth) → is_too_deep kind d ≡ false → FailsAt e q (first_of kind n.local_name a v p) → RefusesBefore e (p + 1) (xread (element n a z no_nodes) v kind p d)
begin_refuses kind law e q n a z v p d fit h =
    subst (λ (r : Result Tree XmlReadError). RefusesBefore e (p + 1) r) (sym (law.reads (element n a z no_nodes) v p d fit)) (frame_refuses (inner_read kind) (plan_of kind) (first_of kind) (last_step kind) (form_of kind law) e q n a z v p (inner_of kind d) h)
