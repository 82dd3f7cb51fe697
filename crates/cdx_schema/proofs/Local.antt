-- A fault depends on no event after its place.
use Rattle.std.specs.Prelude.{◌≡◌, refl, ℕ, zero, suc, ◌+◌, ◌<◌, ◌≤◌, ◌⊎◌, List, [], ◌∷◌, ◌++◌, length, take, Bool, true, false, nat_le, if◌then◌else◌, Option, Some, None, Result, Ok, Err, codes}
use Rattle.std.proofs.Common.{true≢false, inl, inr, length-append}
use Rattle.std.specs.Str.{bytes_eq, trim}
use mathlib.Core.Path.{ap, sym, ◌∙◌, subst}
use native.Mathlib.Omega.{arith}
use Rattle.cdx_models.specs.declared.bom.SpecVersion.{SpecVersion}
use Rattle.cdx_models.specs.Versions.{namespace}
use Rattle.cdx_models.specs.Trees.{bill, Tree, number, Trees, field}
use Rattle.cdx_schema.specs.Kinds.{Kind, a_bill, Rule}
use Rattle.cdx_schema.specs.Results.{◌>>=◌}
use Rattle.cdx_models.specs.declared.errors.XmlReadError.{XmlReadError}
use Rattle.cdx_schema.specs.Faults.{unexpected, namespaced}
use Rattle.cdx_schema.specs.Depth.{Depth, top}
use Rattle.cdx_schema.specs.XmlTexts.{number_of}
use Rattle.cdx_schema.specs.XmlReading.{ElementReading, Child, Plan, find_child, stored, is_second, child_read_into, node_read, after_text, text_in, number_alone, number_in, record_denoted, in_namespace, xread, nodes_read, xml_denotes}
use Rattle.cdx_schema.specs.Membership.{Never}
use Rattle.cdx_schema.specs.Locality.{fault_place, balanced_root, IsLocal, StandsInside}
use Rattle.cdx_schema.proofs.FaultPlaces.{ok_err, err_same, bind_err, err_bind, no_bill, no_bills, elem, kind_out, record_out, after_place, text_within, number_within, NoBillIn, find_no_bill, nodes_within, xread_within, denoted_within}
use Rattle.cdx_events.specs.declared.event.EventKind.TheVariants as kinds
use Rattle.cdx_events.specs.declared.name.OwnedAttribute.{OwnedAttribute}
use Rattle.cdx_events.specs.declared.event.XmlEvent.{XmlEvent}
use Rattle.cdx_events.specs.declared.name.OwnedName.{OwnedName}
use Rattle.cdx_events.specs.declared.name.Namespace.{Namespace}
use Rattle.cdx_events.specs.declared.event.XmlEvent.TheVariants.{CData, Characters, EndDocument, EndElement, StartElement}
use Rattle.cdx_events.specs.Nodes.{Node, Nodes, cdata, characters, document, element, events_of, events_of_all, no_nodes, node}
use Rattle.cdx_schema.specs.Nodes.{places, places_of}
use Rattle.cdx_schema.proofs.Basics.{choose, true_le}

-- ---- documents whose events are the same through a place

-- The events of both are the same through place p, where both begin at place s.
abbrev mutual
  pub AgreeIn : ℕ → ℕ → Node → Node → Type 0
  AgreeIn p s (characters t) (characters u) = t ≡ u
  AgreeIn p s (cdata t) (cdata u) = t ≡ u
  AgreeIn p s (element n as' d xs) (element m bs e ys) = (n ≡ m) × (as' ≡ bs) × (d ≡ e) × AgreeOn p (suc s) xs ys
  AgreeIn p s _ _ = Never

  pub AgreeOn : ℕ → ℕ → Nodes → Nodes → Type 0
  AgreeOn p s no_nodes no_nodes = Unit {0}
  AgreeOn p s no_nodes (node y ys) = p < s
  AgreeOn p s (node x xs) no_nodes = p < s
  AgreeOn p s (node x xs) (node y ys) = (p < s) ⊎ (AgreeIn p s x y × AgreeOn p (s + places x) xs ys)

-- The first n events of both are there and the same.
abbrev AreSame : ℕ → List XmlEvent → List XmlEvent → Type 0
AreSame zero as' bs = Unit {0}
AreSame (suc n) (a ∷ as') (b ∷ bs) = (a ≡ b) × AreSame n as' bs
AreSame (suc n) _ _ = Never

-- ---- places

le_self : (p : ℕ) → p ≤ p
le_self p = omega arith

at_least : (p q : ℕ) → q ≡ p → p ≤ q
at_least p q e = subst (λ (i : ℕ). p ≤ i) (sym e) (le_self p)

-- ---- what is the same through the end is the same

too_low : {A : Type 0} (p s q : ℕ) → p < s → s ≤ q → q ≤ p → A
too_low p s q a b c = absurd (nope p s q a b c)
  where
    nope : (p s q : ℕ) → p < s → s ≤ q → q ≤ p → ⊥
    nope p s q a b c = omega arith

node_same : {x y : Node} {xs ys : Nodes} → x ≡ y → xs ≡ ys → node x xs ≡ node y ys
node_same p q = rw (p, q) refl

element_same : {n m : OwnedName} {as' bs : List OwnedAttribute} {c e : Namespace} {xs ys : Nodes} → n ≡ m → as' ≡ bs → c ≡ e → xs ≡ ys → element n as' c xs ≡ element m bs e ys
element_same p q r t = rw (p, q, r, t) refl

mutual
  node_whole : (x y : Node) (p s : ℕ) → s + places x ≤ suc p → AgreeIn p s x y → x ≡ y
  node_whole (characters t) (characters u) p s l a = ap characters a
  node_whole (cdata t) (cdata u) p s l a = ap cdata a
  node_whole (element n as' c xs) (element m bs e ys) p s l a = element_same a.0 a.1 a.2 (nodes_whole xs ys p (suc s) (omega (arith, l)) a.3)
  node_whole (characters t) (cdata u) p s l a = absurd (true≢false a)
  node_whole (characters t) (element m bs e ys) p s l a = absurd (true≢false a)
  node_whole (cdata t) (characters u) p s l a = absurd (true≢false a)
  node_whole (cdata t) (element m bs e ys) p s l a = absurd (true≢false a)
  node_whole (element n as' c xs) (characters u) p s l a = absurd (true≢false a)
  node_whole (element n as' c xs) (cdata u) p s l a = absurd (true≢false a)

  nodes_whole : (xs ys : Nodes) (p s : ℕ) → s + places_of xs ≤ p → AgreeOn p s xs ys → xs ≡ ys
  nodes_whole no_nodes no_nodes p s l a = refl
  nodes_whole no_nodes (node y ys) p s l a = too_low p s s a (le_self s) (omega (arith, l))
  nodes_whole (node x xs) no_nodes p s l a = too_low p s s a (le_self s) (omega (arith, l))
  nodes_whole (node x xs) (node y ys) p s l (inl a) = too_low p s s a (le_self s) (omega (arith, l))
  nodes_whole (node x xs) (node y ys) p s l (inr (a, b)) = node_same (node_whole x y p s (omega (arith, l)) a) (nodes_whole xs ys p (s + places x) (omega (arith, l)) b)

-- ---- the fault in the other

after_agree : (t : List ℕ) (xs ys : Nodes) (around : List ℕ) (p q : ℕ) (f : XmlReadError) → AgreeOn p q xs ys → fault_place f ≤ p → after_text t xs around q ≡ Err f → after_text t ys around q ≡ Err f
after_agree t no_nodes ys around p q f a l h = ok_err h
after_agree t (node x xs) no_nodes around p q f a l h = too_low p q (fault_place f) a (at_least q (fault_place f) (after_place t (node x xs) around q f h)) l
after_agree t (node x xs) (node y ys) around p q f (inl a) l h = too_low p q (fault_place f) a (at_least q (fault_place f) (after_place t (node x xs) around q f h)) l
after_agree t (node (characters u) xs) (node (characters w) ys) around p q f (inr a) l h = h
after_agree t (node (cdata u) xs) (node (cdata w) ys) around p q f (inr a) l h = h
after_agree t (node (element n as' c zs) xs) (node (element m bs e ws) ys) around p q f (inr a) l h = h
after_agree t (node (characters u) xs) (node (cdata w) ys) around p q f (inr a) l h = absurd (true≢false a.0)
after_agree t (node (characters u) xs) (node (element m bs e ws) ys) around p q f (inr a) l h = absurd (true≢false a.0)
after_agree t (node (cdata u) xs) (node (characters w) ys) around p q f (inr a) l h = absurd (true≢false a.0)
after_agree t (node (cdata u) xs) (node (element m bs e ws) ys) around p q f (inr a) l h = absurd (true≢false a.0)
after_agree t (node (element n as' c zs) xs) (node (characters w) ys) around p q f (inr a) l h = absurd (true≢false a.0)
after_agree t (node (element n as' c zs) xs) (node (cdata w) ys) around p q f (inr a) l h = absurd (true≢false a.0)

one_on : (p s : ℕ) (xs ys : Nodes) → AgreeOn p (s + 1) xs ys → AgreeOn p (suc s) xs ys
one_on p s xs ys a = subst (λ (q : ℕ). AgreeOn p q xs ys) (plus_one s) a
  where
    plus_one : (s : ℕ) → s + 1 ≡ suc s
    plus_one s = omega arith

text_agree : (o : Result (List ℕ) XmlReadError) (xs ys : Nodes) (around : List ℕ) (p s : ℕ) (f : XmlReadError) → (o ≡ Err f → fault_place f ≡ s) → AgreeOn p s xs ys → fault_place f ≤ p → text_in o xs around s ≡ Err f → text_in o ys around s ≡ Err f
text_agree o no_nodes no_nodes around p s f g a l h = h
text_agree o no_nodes (node y ys) around p s f g a l h = too_low p s (fault_place f) a (at_least s (fault_place f) (g h)) l
text_agree o (node x xs) no_nodes around p s f g a l h = too_low p s (fault_place f) a (text_within o (node x xs) around s f g h).0 l
text_agree o (node x xs) (node y ys) around p s f g (inl a) l h = too_low p s (fault_place f) a (text_within o (node x xs) around s f g h).0 l
text_agree o (node (characters t) xs) (node (characters u) ys) around p s f g (inr (a, b)) l h = subst (λ (w : List ℕ). after_text w ys around (suc s) ≡ Err f) a (after_agree t xs ys around p (suc s) f (one_on p s xs ys b) l h)
text_agree o (node (cdata t) xs) (node (cdata u) ys) around p s f g (inr (a, b)) l h = subst (λ (w : List ℕ). after_text w ys around (suc s) ≡ Err f) a (after_agree t xs ys around p (suc s) f (one_on p s xs ys b) l h)
text_agree o (node (element n as' c zs) xs) (node (element m bs e ws) ys) around p s f g (inr a) l h = h
text_agree o (node (characters t) xs) (node (cdata w) ys) around p s f g (inr a) l h = absurd (true≢false a.0)
text_agree o (node (characters t) xs) (node (element m bs e ws) ys) around p s f g (inr a) l h = absurd (true≢false a.0)
text_agree o (node (cdata t) xs) (node (characters w) ys) around p s f g (inr a) l h = absurd (true≢false a.0)
text_agree o (node (cdata t) xs) (node (element m bs e ws) ys) around p s f g (inr a) l h = absurd (true≢false a.0)
text_agree o (node (element n as' c zs) xs) (node (characters w) ys) around p s f g (inr a) l h = absurd (true≢false a.0)
text_agree o (node (element n as' c zs) xs) (node (cdata w) ys) around p s f g (inr a) l h = absurd (true≢false a.0)

alone_agree : (o : Option ℕ) (t : List ℕ) (xs ys : Nodes) (around : List ℕ) (p s : ℕ) (f : XmlReadError) → AgreeOn p (suc s) xs ys → fault_place f ≤ p → number_alone o t xs around s ≡ Err f → number_alone o t ys around s ≡ Err f
alone_agree None t xs ys around p s f a l h = h
alone_agree (Some n) t xs ys around p s f a l h =
    bind_err (after_text t xs around (suc s)) (λ u. Ok (number n)) f h (λ z. err_bind (after_text t ys around (suc s)) (λ u. Ok (number n)) f (after_agree t xs ys around p (suc s) f a l z)) (λ u i j. ok_err j)

number_agree : (xs ys : Nodes) (around : List ℕ) (p s : ℕ) (f : XmlReadError) → AgreeOn p s xs ys → fault_place f ≤ p → number_in xs around s ≡ Err f → number_in ys around s ≡ Err f
number_agree no_nodes no_nodes around p s f a l h = h
number_agree no_nodes (node y ys) around p s f a l h = too_low p s (fault_place f) a (number_within no_nodes around s f h).0 l
number_agree (node x xs) no_nodes around p s f a l h = too_low p s (fault_place f) a (number_within (node x xs) around s f h).0 l
number_agree (node x xs) (node y ys) around p s f (inl a) l h = too_low p s (fault_place f) a (number_within (node x xs) around s f h).0 l
number_agree (node (characters t) xs) (node (characters u) ys) around p s f (inr (a, b)) l h = subst (λ (w : List ℕ). number_alone (number_of (trim w)) w ys around s ≡ Err f) a (alone_agree (number_of (trim t)) t xs ys around p s f (one_on p s xs ys b) l h)
number_agree (node (cdata t) xs) (node (cdata u) ys) around p s f (inr (a, b)) l h = subst (λ (w : List ℕ). number_alone (number_of (trim w)) w ys around s ≡ Err f) a (alone_agree (number_of (trim t)) t xs ys around p s f (one_on p s xs ys b) l h)
number_agree (node (element n as' c zs) xs) (node (element m bs e ws) ys) around p s f (inr a) l h = h
number_agree (node (characters t) xs) (node (cdata w) ys) around p s f (inr a) l h = absurd (true≢false a.0)
number_agree (node (characters t) xs) (node (element m bs e ws) ys) around p s f (inr a) l h = absurd (true≢false a.0)
number_agree (node (cdata t) xs) (node (characters w) ys) around p s f (inr a) l h = absurd (true≢false a.0)
number_agree (node (cdata t) xs) (node (element m bs e ws) ys) around p s f (inr a) l h = absurd (true≢false a.0)
number_agree (node (element n as' c zs) xs) (node (characters w) ys) around p s f (inr a) l h = absurd (true≢false a.0)
number_agree (node (element n as' c zs) xs) (node (cdata w) ys) around p s f (inr a) l h = absurd (true≢false a.0)

if_agree : {A : Type 0} (b : Bool) (e : XmlReadError) (r r' : Result A XmlReadError) (f : XmlReadError) → (if b then Err e else r) ≡ Err f → (r ≡ Err f → r' ≡ Err f) → (if b then Err e else r') ≡ Err f
if_agree true e r r' f h g = ap (λ z. Err z) (err_same h)
if_agree false e r r' f h g = g h

child_agree : (o : Option Child) (r : Rule) (read read' : ElementReading) (around : List ℕ) (v : SpecVersion) (d : Depth) (p : ℕ) (ts : Trees) (f : XmlReadError) → NoBillIn o → ((k : Kind) → no_bill k ≡ true → read v k p d ≡ Err f → read' v k p d ≡ Err f)
    → child_read_into o r read around v d p ts ≡ Err f → child_read_into o r read' around v d p ts ≡ Err f
child_agree None r read read' around v d p ts f b g h = h
child_agree (Some c) r read read' around v d p ts f b g h =
    if_agree (is_second c.place (field c.field ts)) (unexpected p around kinds.StartElement) (read v c.kind p d >>= (λ t. Ok (stored c.place c.field t ts))) (read' v c.kind p d >>= (λ t. Ok (stored c.place c.field t ts))) f h
    (λ z. bind_err (read v c.kind p d) (λ t. Ok (stored c.place c.field t ts)) f z (λ i. err_bind (read' v c.kind p d) (λ t. Ok (stored c.place c.field t ts)) f (g c.kind b i)) (λ t i j. ok_err j))

node_agree : (x y : Node) (q : ℕ) (read read' : ElementReading) (plan : Plan) (around : List ℕ) (v : SpecVersion) (d : Depth) (p : ℕ) (ts : Trees) (f : XmlReadError) → no_bills plan.children ≡ true → AgreeIn q p x y
    → ((k : Kind) → no_bill k ≡ true → read v k p d ≡ Err f → read' v k p d ≡ Err f) → node_read x read plan around v d p ts ≡ Err f → node_read y read' plan around v d p ts ≡ Err f
node_agree (characters t) (characters u) q read read' plan around v d p ts f b a g h = h
node_agree (cdata t) (cdata u) q read read' plan around v d p ts f b a g h = h
node_agree (element n as' c xs) (element m bs e ys) q read read' plan around v d p ts f b a g h =
    subst (λ (i : OwnedName). child_read_into (find_child v i.local_name plan.children) plan.rule read' around v d p ts ≡ Err f) a.0
    (child_agree (find_child v n.local_name plan.children) plan.rule read read' around v d p ts f (find_no_bill v n.local_name plan.children b) g h)
node_agree (characters t) (cdata u) q read read' plan around v d p ts f b a g h = absurd (true≢false a)
node_agree (characters t) (element m bs e ys) q read read' plan around v d p ts f b a g h = absurd (true≢false a)
node_agree (cdata t) (characters u) q read read' plan around v d p ts f b a g h = absurd (true≢false a)
node_agree (cdata t) (element m bs e ys) q read read' plan around v d p ts f b a g h = absurd (true≢false a)
node_agree (element n as' c xs) (characters u) q read read' plan around v d p ts f b a g h = absurd (true≢false a)
node_agree (element n as' c xs) (cdata u) q read read' plan around v d p ts f b a g h = absurd (true≢false a)

is_more : (m n : ℕ) → nat_le m n ≡ false → n < m
is_more m n h = grind arith

-- The end stands after p, and the fault doesn't.
past_end : {A : Type 0} (p e q : ℕ) → p < e → q ≤ p → q ≡ e → A
past_end p e q a l i = too_low p e q a (subst (λ (j : ℕ). e ≤ j) (sym i) (le_self e)) l

abbrev Fails : Node → SpecVersion → Kind → ℕ → Depth → XmlReadError → Type 0
Fails x v k s d f = xread x v k s d ≡ Err f

mutual
  unfolding xread

  pub xread_agree : (x y : Node) (p : ℕ) (v : SpecVersion) (k : Kind) (s : ℕ) (d : Depth) (f : XmlReadError) → no_bill k ≡ true → fault_place f ≤ p → AgreeIn p s x y → Fails x v k s d f → Fails y v k s d f
  xread_agree (characters t) (characters u) p v k s d f b l a h = h
  xread_agree (cdata t) (cdata u) p v k s d f b l a h = h
  xread_agree (element n as' c xs) (element m bs e ys) p v k s d f b l a h =
      choose (nat_le (suc (s + places_of xs)) p)
      (λ i. subst (λ (y : Node). Fails y v k s d f) (element_same {xs = xs} {ys = ys} a.0 a.1 a.2 (nodes_whole xs ys p (suc s) (omega (arith, true_le (suc (s + places_of xs)) p i)) a.3)) h)
      (λ i. subst (λ (y : Node). Fails y v k s d f) (element_same {xs = ys} {ys = ys} a.0 a.1 a.2 refl)
      (kind_out true Never f n.local_name as' c.default s xs ys (λ plan w e' ts. nodes_read xs plan n.local_name w e' (suc s) ts) (λ plan w e' ts. nodes_read ys plan n.local_name w e' (suc s) ts) (
        λ plan w e' ts g z. nodes_agree xs ys plan n.local_name p w e' (suc s) ts f g l a.3 z,
        λ o g z. text_agree o xs ys n.local_name p (suc s) f g a.3 l z,
        λ z. number_agree xs ys n.local_name p (suc s) f a.3 l z,
        λ r e' z. z,
        λ r e'. past_end p (suc (s + places_of xs)) (fault_place f) (is_more (suc (s + places_of xs)) p i) l e',
      ) v k d b h))
  xread_agree (characters t) (cdata u) p v k s d f b l a h = absurd (true≢false a)
  xread_agree (characters t) (element m bs e ys) p v k s d f b l a h = absurd (true≢false a)
  xread_agree (cdata t) (characters u) p v k s d f b l a h = absurd (true≢false a)
  xread_agree (cdata t) (element m bs e ys) p v k s d f b l a h = absurd (true≢false a)
  xread_agree (element n as' c xs) (characters u) p v k s d f b l a h = absurd (true≢false a)
  xread_agree (element n as' c xs) (cdata u) p v k s d f b l a h = absurd (true≢false a)

  nodes_agree : (xs ys : Nodes) (plan : Plan) (around : List ℕ) (p : ℕ) (v : SpecVersion) (d : Depth) (s : ℕ) (ts : Trees) (f : XmlReadError) → no_bills plan.children ≡ true → fault_place f ≤ p → AgreeOn p s xs ys
      → nodes_read xs plan around v d s ts ≡ Err f → nodes_read ys plan around v d s ts ≡ Err f
  nodes_agree no_nodes ys plan around p v d s ts f b l a h = ok_err h
  nodes_agree (node x xs) no_nodes plan around p v d s ts f b l a h = too_low p s (fault_place f) a (nodes_within (node x xs) plan around v d s ts f b h).0 l
  nodes_agree (node x xs) (node y ys) plan around p v d s ts f b l (inl a) h = too_low p s (fault_place f) a (nodes_within (node x xs) plan around v d s ts f b h).0 l
  nodes_agree (node x xs) (node y ys) plan around p v d s ts f b l (inr (a, c)) h =
      bind_err (node_read x (xread x) plan around v d s ts) (λ us. nodes_read xs plan around v d (s + places x) us) f h
      (λ z. err_bind (node_read y (xread y) plan around v d s ts) (λ us. nodes_read ys plan around v d (s + places y) us) f
      (node_agree x y p (xread x) (xread y) plan around v d s ts f b a (λ k i j. xread_agree x y p v k s d f i l a j) z))
      (λ us i z. subst (λ (w : Node). nodes_read (node w ys) plan around v d s ts ≡ Err f)
      (node_whole x y p s (omega (arith, (nodes_within xs plan around v d (s + places x) us f b z).0, l)) a)
      (ap (λ r. r >>= (λ zs. nodes_read ys plan around v d (s + places x) zs)) i ∙ nodes_agree xs ys plan around p v d (s + places x) us f b l c z))

-- ---- the root

root_out : (b c : Bool) (e : XmlReadError) (e' : XmlReadError) (r r' : Result Tree XmlReadError) (f : XmlReadError) → (if b then (if c then r else Err e) else Err e') ≡ Err f → (r ≡ Err f → r' ≡ Err f) → (if b then (if c then r' else Err e) else Err e') ≡ Err f
root_out true true e e' r r' f h g = g h
root_out true false e e' r r' f h g = h
root_out false c e e' r r' f h g = h

root_agree : (n : OwnedName) (as' : List OwnedAttribute) (c : Namespace) (xs ys : Nodes) (p : ℕ) (v : SpecVersion) (f : XmlReadError) → fault_place f ≤ p → AgreeOn p 2 xs ys → p < suc (1 + places_of xs) → Fails (element n as' c xs) v a_bill 1 top f → Fails (element n as' c ys) v a_bill 1 top f
unfolding xread
root_agree n as' c xs ys p v f l a i h =
    root_out (bytes_eq n.local_name (codes "bom")) (in_namespace c.default (namespace v)) (namespaced (namespace v) c.default) (unexpected 1 (codes "bom") kinds.StartElement)
    (record_denoted (elem n.local_name as' c.default 1 xs (λ plan w e' ts. nodes_read xs plan n.local_name w e' 2 ts)) bill v top) (record_denoted (elem n.local_name as' c.default 1 ys (λ plan w e' ts. nodes_read ys plan n.local_name w e' 2 ts)) bill v top) f h
    (record_out true Never f n.local_name as' c.default 1 xs ys (λ plan w e' ts. nodes_read xs plan n.local_name w e' 2 ts) (λ plan w e' ts. nodes_read ys plan n.local_name w e' 2 ts) (
      λ plan w e' ts g z. nodes_agree xs ys plan n.local_name p w e' 2 ts f g l a z,
      λ o g z. text_agree o xs ys n.local_name p 2 f g a l z,
      λ z. number_agree xs ys n.local_name p 2 f a l z,
      λ r e' z. z,
      λ r e'. past_end p (suc (1 + places_of xs)) (fault_place f) i l e',
    ) bill v top)

local_nodes : (x y : Node) (v : SpecVersion) (f : XmlReadError) → xml_denotes x v ≡ Err f → AgreeIn (fault_place f) 1 x y → xml_denotes y v ≡ Err f
unfolding xread
local_nodes (characters t) (characters u) v f h a = h
local_nodes (cdata t) (cdata u) v f h a = h
local_nodes (element n as' c xs) (element m bs e ys) v f h a =
    choose (nat_le (suc (1 + places_of xs)) (fault_place f))
    (λ i. subst (λ (y : Node). Fails y v a_bill 1 top f) (element_same {xs = xs} {ys = ys} a.0 a.1 a.2 (nodes_whole xs ys (fault_place f) 2 (omega (arith, true_le (suc (1 + places_of xs)) (fault_place f) i)) a.3)) h)
    (λ i. subst (λ (y : Node). Fails y v a_bill 1 top f) (element_same {xs = ys} {ys = ys} a.0 a.1 a.2 refl)
    (root_agree n as' c xs ys (fault_place f) v f (le_self (fault_place f)) a.3 (is_more (suc (1 + places_of xs)) (fault_place f) i) h))
local_nodes (characters t) (cdata u) v f h a = absurd (true≢false a)
local_nodes (characters t) (element m bs e ys) v f h a = absurd (true≢false a)
local_nodes (cdata t) (characters u) v f h a = absurd (true≢false a)
local_nodes (cdata t) (element m bs e ys) v f h a = absurd (true≢false a)
local_nodes (element n as' c xs) (characters u) v f h a = absurd (true≢false a)
local_nodes (element n as' c xs) (cdata u) v f h a = absurd (true≢false a)

-- ---- from events to nodes

append_again : (as' bs cs : List XmlEvent) → (as' ++ bs) ++ cs ≡ as' ++ (bs ++ cs)
append_again [] bs cs = refl
append_again (a ∷ as') bs cs = ap (a ∷◌) (append_again as' bs cs)

abbrev text_or : List ℕ → XmlEvent → List ℕ
text_or t (Characters u) = u
text_or t (CData u) = u
text_or t _ = t

abbrev name_or : OwnedName → XmlEvent → OwnedName
name_or n (StartElement m as' c) = m
name_or n _ = n

abbrev attributes_or : List OwnedAttribute → XmlEvent → List OwnedAttribute
attributes_or as' (StartElement m bs c) = bs
attributes_or as' _ = as'

abbrev default_or : Namespace → XmlEvent → Namespace
default_or c (StartElement m bs e) = e
default_or c _ = c

abbrev is_text : XmlEvent → Bool
is_text (Characters u) = true
is_text _ = false

abbrev is_cdata : XmlEvent → Bool
is_cdata (CData u) = true
is_cdata _ = false

abbrev is_start : XmlEvent → Bool
is_start (StartElement m as' c) = true
is_start _ = false

abbrev is_end : XmlEvent → Bool
is_end (EndElement m) = true
is_end _ = false

other : {A : Type 0} (g : XmlEvent → Bool) {a b : XmlEvent} → a ≡ b → g a ≡ true → g b ≡ false → A
other g e p q = absurd (true≢false (sym p ∙ (ap g e ∙ q)))

-- the events after a node, as far as they are the same
abbrev Beyond : ℕ → ℕ → List XmlEvent → List XmlEvent → Type 0
Beyond n i r r' = (k : ℕ) × (n ≤ i + k) × AreSame k r r'

from_start : (p s : ℕ) (xs ys : Nodes) → p < s → AgreeOn p s xs ys
from_start p s no_nodes no_nodes l = tt
from_start p s no_nodes (node y ys) l = l
from_start p s (node x xs) no_nodes l = l
from_start p s (node x xs) (node y ys) l = inl l

abbrev NodeParts : ℕ → ℕ → ℕ → Node → Node → List XmlEvent → List XmlEvent → Type 0
NodeParts p s n x y r r' = AgreeIn p s x y × Beyond n (places x) r r'

abbrev NodesParts : ℕ → ℕ → ℕ → Nodes → Nodes → List XmlEvent → List XmlEvent → Type 0
NodesParts p s n xs ys r r' = AgreeOn p s xs ys × Beyond n (suc (places_of xs)) r r'

mutual
  node_parts : (x y : Node) (p s n : ℕ) (r r' : List XmlEvent) → suc p ≤ s + suc n → AreSame (suc n) (events_of x ++ r) (events_of y ++ r') → NodeParts p s (suc n) x y r r'
  node_parts (characters t) (characters u) p s n r r' l h = (ap (text_or t) h.0, (n, omega arith, h.1))
  node_parts (cdata t) (cdata u) p s n r r' l h = (ap (text_or t) h.0, (n, omega arith, h.1))
  node_parts (element i as' c xs) (element m bs e ys) p s n r r' l h =
      let q : NodesParts p (suc s) n xs ys r r' = nodes_parts xs ys i m p (suc s) n r r' (omega (arith, l))
      (subst (λ (es : List XmlEvent). AreSame n es (events_of_all ys ++ (EndElement m ∷ r'))) (append_again (events_of_all xs) (EndElement i ∷ []) r)
      (subst (λ (es : List XmlEvent). AreSame n ((events_of_all xs ++ (EndElement i ∷ [])) ++ r) es) (append_again (events_of_all ys) (EndElement m ∷ []) r') h.1)) in
      ((ap (name_or i) h.0, ap (attributes_or as') h.0, ap (default_or c) h.0, q.0), (q.1.0, omega (arith, q.1.1), q.1.2))
  node_parts (characters t) (cdata u) p s n r r' l h = other is_text h.0 refl refl
  node_parts (characters t) (element m bs e ys) p s n r r' l h = other is_text h.0 refl refl
  node_parts (cdata t) (characters u) p s n r r' l h = other is_cdata h.0 refl refl
  node_parts (cdata t) (element m bs e ys) p s n r r' l h = other is_cdata h.0 refl refl
  node_parts (element i as' c xs) (characters u) p s n r r' l h = other is_start h.0 refl refl
  node_parts (element i as' c xs) (cdata u) p s n r r' l h = other is_start h.0 refl refl

  nodes_parts : (xs ys : Nodes) (i m : OwnedName) (p s n : ℕ) (r r' : List XmlEvent) → suc p ≤ s + n → AreSame n (events_of_all xs ++ (EndElement i ∷ r)) (events_of_all ys ++ (EndElement m ∷ r')) → NodesParts p s n xs ys r r'
  nodes_parts xs ys i m p s zero r r' l h = (from_start p s xs ys (omega (arith, l)), (0, omega arith, tt))
  nodes_parts no_nodes no_nodes i m p s (suc n) r r' l h = (tt, (n, omega arith, h.1))
  nodes_parts no_nodes (node (characters u) ys) i m p s (suc n) r r' l h = other is_end h.0 refl refl
  nodes_parts no_nodes (node (cdata u) ys) i m p s (suc n) r r' l h = other is_end h.0 refl refl
  nodes_parts no_nodes (node (element j bs e zs) ys) i m p s (suc n) r r' l h = other is_end h.0 refl refl
  nodes_parts (node (characters u) xs) no_nodes i m p s (suc n) r r' l h = other is_text h.0 refl refl
  nodes_parts (node (cdata u) xs) no_nodes i m p s (suc n) r r' l h = other is_cdata h.0 refl refl
  nodes_parts (node (element j bs e zs) xs) no_nodes i m p s (suc n) r r' l h = other is_start h.0 refl refl
  nodes_parts (node x xs) (node y ys) i m p s (suc n) r r' l h =
      let a : NodeParts p s (suc n) x y (events_of_all xs ++ (EndElement i ∷ r)) (events_of_all ys ++ (EndElement m ∷ r')) = node_parts x y p s n (events_of_all xs ++ (EndElement i ∷ r)) (events_of_all ys ++ (EndElement m ∷ r')) l
      (subst (λ (es : List XmlEvent). AreSame (suc n) es (events_of y ++ (events_of_all ys ++ (EndElement m ∷ r')))) (append_again (events_of x) (events_of_all xs) (EndElement i ∷ r))
      (subst (λ (es : List XmlEvent). AreSame (suc n) ((events_of x ++ events_of_all xs) ++ (EndElement i ∷ r)) es) (append_again (events_of y) (events_of_all ys) (EndElement m ∷ r')) h)) in
      let b : NodesParts p (s + places x) a.1.0 xs ys r r' = nodes_parts xs ys i m p (s + places x) a.1.0 r r' (omega (arith, l, a.1.1)) a.1.2 in
      (inr (a.0, b.0), (b.1.0, omega (arith, a.1.1, b.1.1), b.1.2))

-- ---- the law

local_same : (x y : Node) (v : SpecVersion) (f : XmlReadError) → xml_denotes x v ≡ Err f → AreSame (suc (fault_place f)) (document x) (document y) → xml_denotes y v ≡ Err f
local_same x y v f h a = by (fault_place f) refl (denoted_within x v f h).0 a.1
  where
    by : (p : ℕ) → fault_place f ≡ p → 1 ≤ fault_place f → AreSame (fault_place f) (events_of x ++ (EndDocument ∷ [])) (events_of y ++ (EndDocument ∷ [])) → xml_denotes y v ≡ Err f
    by zero e l s = too_low 0 1 (fault_place f) (omega arith) l (subst (λ (q : ℕ). q ≤ 0) (sym e) (le_self 0))
    by (suc n) e l s = local_nodes x y v f h
        (node_parts x y (fault_place f) 1 n (EndDocument ∷ []) (EndDocument ∷ []) (omega (arith, e)) (subst (λ (q : ℕ). AreSame q (events_of x ++ (EndDocument ∷ [])) (events_of y ++ (EndDocument ∷ []))) e s)).0

same_front : (n : ℕ) (es rest : List XmlEvent) → n ≤ length es → AreSame n es (take n es ++ rest)
same_front zero es rest l = tt
same_front (suc n) (e ∷ es) rest l = (refl, same_front n es rest (omega (arith, l)))
same_front (suc n) [] rest l = absurd (omega (arith, l))

mutual
  pub length_events : (x : Node) → length (events_of x) ≡ places x
  length_events (characters t) = refl
  length_events (cdata t) = refl
  length_events (element n as' c xs) = ap suc (length-append (events_of_all xs) (EndElement n ∷ []) ∙ (ap (λ i. i + 1) (length_all xs) ∙ one_more (places_of xs)))
    where
      one_more : (i : ℕ) → i + 1 ≡ suc i
      one_more i = omega arith

  pub length_all : (xs : Nodes) → length (events_of_all xs) ≡ places_of xs
  length_all no_nodes = refl
  length_all (node x xs) = length-append (events_of x) (events_of_all xs) ∙ (ap (λ i. i + length (events_of_all xs)) (length_events x) ∙ ap (λ i. places x + i) (length_all xs))

pub length_document : (x : Node) → length (document x) ≡ suc (places x + 1)
length_document x = ap suc (length-append (events_of x) (EndDocument ∷ []) ∙ ap (λ i. i + 1) (length_events x))

pub stands_inside : StandsInside
stands_inside events b v f h = omega (arith, (denoted_within (balanced_root b) v f h).1, length_document (balanced_root b), ap length b.whole)

pub local_faults : IsLocal
local_faults events b v f h rest c = local_same (balanced_root b) (balanced_root c) v f h
    (subst (λ (es : List XmlEvent). AreSame (suc (fault_place f)) es (document (balanced_root c))) b.whole
    (subst (λ (es : List XmlEvent). AreSame (suc (fault_place f)) events es) c.whole
    (same_front (suc (fault_place f)) events rest (stands_inside events b v f h))))

-- ---- one element

same_begin : (es rest rest' : List XmlEvent) → AreSame (length es) (es ++ rest) (es ++ rest')
same_begin [] rest rest' = tt
same_begin (e ∷ es) rest rest' = (refl, same_begin es rest rest')

-- A first fault of an element depends on no event after its place, whatever comes after the element.
pub element_local : (es rest rest' r r' : List XmlEvent) (x y : Node) (v : SpecVersion) (k : Kind) (s : ℕ) (d : Depth) (f : XmlReadError) → no_bill k ≡ true → events_of x ++ r ≡ es ++ rest → events_of y ++ r' ≡ es ++ rest' → fault_place f < s + length es → xread x v k s d ≡ Err f → xread y v k s d ≡ Err f
element_local [] rest rest' r r' x y v k s d f b g h l i = absurd (omega (arith, l, (xread_within x v k s d f b i).0))
element_local (e ∷ es) rest rest' r r' x y v k s d f b g h l i =
    xread_agree x y (fault_place f) v k s d f b (le_self (fault_place f))
    (node_parts x y (fault_place f) s (length es) r r' (omega (arith, l)) (subst (λ (a : List XmlEvent). AreSame (suc (length es)) a (events_of y ++ r')) (sym g) (subst (λ (a : List XmlEvent). AreSame (suc (length es)) ((e ∷ es) ++ rest) a) (sym h) (same_begin (e ∷ es) rest rest')))).0 i
