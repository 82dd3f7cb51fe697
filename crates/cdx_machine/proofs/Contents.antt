-- Elements that hold one text at most, event by event.
use Rattle.std.proofs.Common.{◌≡◌, ℕ, suc, ◌+◌, ◌≤◌, inl, inr, List, Bool, true, false, Option, Some, None, Result, Ok, Err, refl, sym, ap, ◌∙◌, subst, arith}
use Rattle.cdx_events.specs.declared.name.OwnedName.{OwnedName}
use Rattle.cdx_events.specs.declared.name.OwnedAttribute.{OwnedAttribute}
use Rattle.cdx_events.specs.declared.name.Namespace.{Namespace}
use Rattle.cdx_events.specs.declared.event.XmlEvent.{XmlEvent}
use Rattle.cdx_events.specs.declared.event.XmlEvent.TheVariants.{StartDocument, EndDocument, StartElement, EndElement, Characters, CData}
use Rattle.cdx_events.specs.declared.event.EventKind.TheVariants as kinds
use Rattle.cdx_events.specs.Event.{event_kind}
use Rattle.cdx_events.specs.Nodes.{Node, characters, cdata, element, Nodes, no_nodes}
use Rattle.cdx_models.specs.declared.bom.SpecVersion.{SpecVersion}
use Rattle.cdx_models.specs.declared.errors.XmlReadError.{XmlReadError}
use Rattle.cdx_models.specs.declared.errors.XmlReadError.TheVariants.{Memory}
use Rattle.cdx_models.specs.Trees.{Tree, Trees}
use Rattle.cdx_schema.specs.Depth.{Depth}
use Rattle.cdx_schema.specs.Faults.{unexpected}
use Rattle.cdx_schema.specs.Kinds.{Kind}
use Rattle.cdx_schema.specs.Locality.{fault_place}
use Rattle.cdx_schema.specs.Nodes.{places, places_of, ◌⊕◌}
use Rattle.cdx_schema.specs.Results.{◌>>=◌}
use Rattle.cdx_schema.specs.XmlReading.{xread, after_text}
use Rattle.cdx_leaf.specs.Fault.{FailsAt, Refused}
use Rattle.cdx_leaf.specs.Tags.{text_or_none}
use Rattle.cdx_leaf.specs.Reading.{kind_of_node}
use Rattle.cdx_schema.specs.XmlSpelling.{lone}
use Rattle.cdx_machine.specs.Begun.{Begun, innermost, around, Next, still, whole, count, next_inside, next, TakesInside, TakesEvent}
use Rattle.cdx_machine.specs.Contents.{First, TextLast, IsContent, AreText, content_holds, TakesNew, TakesText}
use Rattle.cdx_leaf.specs.Attribute.{GivesAt}
use Rattle.cdx_machine.specs.Machines.{RefusesBefore, IsQuiet, Proceeds, Yields}
use Rattle.cdx_machine.proofs.Places.{one_on, places_more}
use Rattle.cdx_machine.proofs.Faults.{refuses_along, refuses_known, quiet_at}

text_is : (o : Option (List ℕ)) (xs : Nodes) (el : List ℕ) (q : ℕ) → AreText o xs → text_or_none xs el q ≡ Ok o
text_is None xs el q h = rw h refl
text_is (Some t) xs el q (inl h) = rw h refl
text_is (Some t) xs el q (inr h) = rw h refl

-- a node that may not stand after the text, or in its place
abbrev NotFirst : Option (List ℕ) → Node → Type 0
NotFirst None (characters t) = ⊥
NotFirst None (cdata t) = ⊥
NotFirst None (element n a s ks) = Unit {0}
NotFirst (Some u) m = Unit {0}

second_node : (u : List ℕ) (m : Node) (el : List ℕ) (q : ℕ) → (after_text u (lone m) el q >>= λ s. Ok (Some s)) ≡ Err (unexpected q el (kind_of_node m))
second_node u (characters t) el q = refl
second_node u (cdata t) el q = refl
second_node u (element n a s ks) el q = refl

plus_none : (q : ℕ) → q ≡ q + 0
plus_none q = omega arith

stray_text : (o : Option (List ℕ)) (xs : Nodes) (m : Node) (el : List ℕ) (q : ℕ) → AreText o xs → NotFirst o m → text_or_none (xs ⊕ lone m) el q ≡ Err (unexpected (q + places_of xs) el (kind_of_node m))
stray_text None xs (characters t) el q w i = absurd i
stray_text None xs (cdata t) el q w i = absurd i
stray_text None xs (element n a s ks) el q w i = rw w (ap (λ k. Err (unexpected k el kinds.StartElement)) (plus_none q))
stray_text (Some u) xs m el q (inl w) i = rw w (second_node u m el (suc q) ∙ ap (λ k. Err (unexpected k el (kind_of_node m))) (one_on q))
stray_text (Some u) xs m el q (inr w) i = rw w (second_node u m el (suc q) ∙ ap (λ k. Err (unexpected k el (kind_of_node m))) (one_on q))

at_end : (p k : ℕ) → p + suc k ≤ suc (p + k)
at_end p k = omega arith

module _ {C : Type 0} (kind : Kind) (first : First) (last : TextLast) (start : C → Trees) (law : IsContent kind first last start) where
  reads_last : (c : C) (o : Option (List ℕ)) (n : OwnedName) (a : List OwnedAttribute) (s : Namespace) (xs : Nodes) (v : SpecVersion) (p : ℕ) (d : Depth) → first n.local_name a v p ≡ Ok (start c) → AreText o xs
      → xread (element n a s xs) v kind p d ≡ last n.local_name (suc (p + places_of xs)) (start c) o
  reads_last c o n a s xs v p d h t =
      law.begun c n a s xs v p d h ∙ ap (λ r. r >>= λ o. last n.local_name (suc (p + places_of xs)) (start c) o) (text_is o xs n.local_name (suc p) t)

  is_quiet : (c : C) (o : Option (List ℕ)) (n : OwnedName) (a : List OwnedAttribute) (s : Namespace) (xs : Nodes) (v : SpecVersion) (p : ℕ) (d : Depth) → first n.local_name a v p ≡ Ok (start c) → AreText o xs
      → IsQuiet (p + suc (places_of xs)) (xread (element n a s xs) v kind p d)
  is_quiet c o n a s xs v p d h t =
      quiet_at (p + suc (places_of xs)) (suc (p + places_of xs)) _ _ (reads_last c o n a s xs v p d h t) (law.last_place n.local_name (suc (p + places_of xs)) c o) (at_end p (places_of xs))

  -- an element's start
  pub text_opens : (c : C) (n : OwnedName) (a : List OwnedAttribute) (s : Namespace) (v : SpecVersion) (p : ℕ) (d : Depth) → first n.local_name a v p ≡ Ok (start c)
      → content_holds first start n.local_name c None v p (innermost n a s no_nodes) × IsQuiet (p + 1) (xread (element n a s no_nodes) v kind p d)
  text_opens c n a s v p d h = ((refl, h, refl), is_quiet c None n a s no_nodes v p d h refl)

  pub text_refuses : (e : XmlReadError) (q : ℕ) (n : OwnedName) (a : List OwnedAttribute) (s : Namespace) (v : SpecVersion) (p : ℕ) (d : Depth) → FailsAt e q (first n.local_name a v p) → RefusesBefore e (p + 1) (xread (element n a s no_nodes) v kind p d)
  text_refuses e q n a s v p d h =
      refuses_along e q (p + 1) (first n.local_name a v p) _
      (λ f is. (law.fails_at_start n a s no_nodes v p d f is, ap suc (law.first_place n.local_name a v p f is) ∙ one_on p)) h

  -- an event that may not stand there
  text_fails : (e : XmlReadError) (n : OwnedName) (a : List OwnedAttribute) (s : Namespace) (xs : Nodes) (v : SpecVersion) (p q : ℕ) (d : Depth) (c : C) (fault : XmlReadError) → first n.local_name a v p ≡ Ok (start c)
      → text_or_none xs n.local_name (suc p) ≡ Err fault → suc (fault_place fault) ≡ q → Refused {X = Bool} (Err e) fault → RefusesBefore e q (xread (element n a s xs) v kind p d)
  text_fails e n a s xs v p q d c fault h t at r =
      refuses_known Bool e fault q (xread (element n a s xs) v kind p d) r
      (law.begun c n a s xs v p d h ∙ ap (λ r. r >>= λ o. last n.local_name (suc (p + places_of xs)) (start c) o) t) at

  -- a node that may not stand there is refused
  refused : (old : Option (List ℕ)) (v : SpecVersion) (p place : ℕ) (d : Depth) (n : OwnedName) (a : List OwnedAttribute) (s : Namespace) (xs : Nodes) (m : Node) (q : ℕ) (c : C) (e : XmlReadError) → first n.local_name a v p ≡ Ok (start c) → AreText old xs → NotFirst old m → place ≡ p + suc (places_of xs) → suc place ≡ q
      → Refused {X = Bool} (Err e) (unexpected place n.local_name (kind_of_node m)) → RefusesBefore e q (xread (element n a s (xs ⊕ lone m)) v kind p d)
  refused old v p place d n a s xs m q c e h w i is at r =
      text_fails e n a s (xs ⊕ lone m) v p q d c (unexpected place n.local_name (kind_of_node m)) h
      (stray_text old xs m n.local_name (suc p) w i ∙ ap (λ k. Err (unexpected k n.local_name (kind_of_node m))) (moved (places_of xs) is)) at r
    where
      moved : (k : ℕ) → place ≡ p + suc k → suc p + k ≡ place
      moved k e = omega (arith, e)

  module _ (v : SpecVersion) (p place : ℕ) (d : Depth) (name : List ℕ) (c : C) (new : Option (List ℕ)) where
    abbrev Held : Begun → Type 0
    Held o = content_holds first start name c new v p o

    -- What a step comes to, where so much is kept with the end.
    abbrev Stepped : Type 0 → Next → Result Bool XmlReadError → Type 0
    Stepped kept o r = Proceeds Held kept (λ k. xread k v kind p d) p o r

    -- a text
    new_text : (kept : Type 0) (old : Option (List ℕ)) (n : OwnedName) (a : List OwnedAttribute) (s : Namespace) (xs : Nodes) (m : Node) (event : XmlEvent) (u : List ℕ) (r : Result Bool XmlReadError) → content_holds first start name c old v p (innermost n a s xs) → place ≡ p + suc (places_of xs) → event_kind event ≡ kind_of_node m → places m ≡ 1 → AreText (Some u) (lone m)
        → TakesNew old new n.local_name place event u r → Stepped kept (still (innermost n a s (xs ⊕ lone m))) r
    new_text kept None n a s xs m event u (Ok true) h is ke one t k = absurd (let wrong : true ≡ false = k.0 in cc)
    new_text kept None n a s xs m event u (Ok false) (ni, h, w) is ke one t k = ((ni, h, rw (k.1, w) t), is_quiet c (Some u) n a s (xs ⊕ lone m) v p d h (rw w t))
    new_text kept None n a s xs m event u (Err (Memory z)) h is ke one t k = tt
    new_text kept None n a s xs m event u (Err e) h is ke one t k = absurd k
    new_text kept (Some x) n a s xs m event u (Ok b) h is ke one t k = absurd k
    new_text kept (Some x) n a s xs m event u (Err e) (ni, h, w) is ke one t k =
        refused (Some x) v p place d n a s xs m (p + suc (places_of (xs ⊕ lone m))) c e h w tt is (more_place is (places_more xs m) one) (subst (λ (f : kinds.the_data). Refused {X = Bool} (Err e) (unexpected place n.local_name f)) ke k)
      where
        more_place : place ≡ p + suc (places_of xs) → places_of (xs ⊕ lone m) ≡ places_of xs + places m → places m ≡ 1 → suc place ≡ p + suc (places_of (xs ⊕ lone m))
        more_place e f i = omega (arith, e, f, i)

    stepped : (old : Option (List ℕ)) (n : OwnedName) (a : List OwnedAttribute) (s : Namespace) (xs : Nodes) (event : XmlEvent) (r : Result Bool XmlReadError) → content_holds first start name c old v p (innermost n a s xs) → place ≡ p + suc (places_of xs) → TakesInside n event → TakesText old new n.local_name place event r
        → Stepped (Held (innermost n a s xs)) (next_inside n a s xs event) r
    stepped old n a s xs StartDocument r h is t k = absurd t
    stepped old n a s xs EndDocument r h is t k = absurd t
    stepped old n a s xs (StartElement m b z) (Ok x) h is t k = absurd k
    stepped old n a s xs (StartElement m b z) (Err e) (ni, h, w) is t k = refused old v p place d n a s xs (element m b z no_nodes) (p + suc (places_of xs + 1)) c e h w (not_first old m b z) is (sums (places_of xs) is) k
      where
        sums : (k : ℕ) → place ≡ p + suc k → suc place ≡ p + suc (k + 1)
        sums k e = omega (arith, e)

        not_first : (o : Option (List ℕ)) (m : OwnedName) (b : List OwnedAttribute) (z : Namespace) → NotFirst o (element m b z no_nodes)
        not_first None m b z = tt
        not_first (Some u) m b z = tt
    stepped old n a s xs (EndElement m) (Ok true) (ni, h, w) is t k = (ni, h, rw k.1 w)
    stepped old n a s xs (EndElement m) (Ok false) h is t k = absurd (let wrong : Ok false ≡ Ok true = k.0 in cc)
    stepped old n a s xs (EndElement m) (Err e) h is t k = absurd (let wrong : Err e ≡ Ok true = k.0 in cc)
    stepped old n a s xs (Characters u) r h is t k = new_text (Held (innermost n a s xs)) old n a s xs (characters u) (Characters u) u r h is refl refl (inl refl) k
    stepped old n a s xs (CData u) r h is t k = new_text (Held (innermost n a s xs)) old n a s xs (cdata u) (CData u) u r h is refl refl (inr refl) k

    -- One event of an element that holds one text at most.
    pub text_steps : (old : Option (List ℕ)) (o : Begun) (event : XmlEvent) (r : Result Bool XmlReadError) → content_holds first start name c old v p o → place ≡ p + count o → TakesEvent o event → TakesText old new name place event r → Stepped (Held o) (next o event) r
    text_steps old (around n a s xs o) event r h is t k = absurd h
    text_steps old (innermost n a s xs) event r h is t k = stepped old n a s xs event r h is t (subst (λ el. TakesText old new el place event r) h.0 k)

    -- What it is read as.
    module _ {X : Type 0} (view : X → Tree) (q : ℕ) (r : Result X XmlReadError) where
      pub text_yields : (o : Begun) (event : XmlEvent) (m : OwnedName) (k : Node) → Held o → place ≡ p + count o → event ≡ EndElement m → TakesEvent o event → next o event ≡ whole k → GivesAt view q (last m.local_name place (start c) new) r → Yields view (p + places k) (xread k v kind p d) r
      text_yields (around n a s xs o) event m k h is e t w g = absurd h
      text_yields (innermost n a s xs) event m k (ni, h, x) is e t w g =
          let ended : next (innermost n a s xs) (EndElement m) ≡ whole k = ap (next (innermost n a s xs)) (sym e) ∙ w in
          let k_is : element n a s xs ≡ k = cc in
          let same : n ≡ m = subst (λ (y : XmlEvent). TakesInside n y) e t in
          subst (λ (y : Node). Yields view (p + places y) (xread y v kind p d) r) k_is (by r (reads same) g)
        where
          swap : p + suc (places_of xs) ≡ suc (p + places_of xs)
          swap = omega arith

          ends : suc place ≡ p + suc (suc (places_of xs))
          ends = let is : place ≡ p + suc (places_of xs) = is in omega (arith, is)

          reads : n ≡ m → xread (element n a s xs) v kind p d ≡ last m.local_name place (start c) new
          reads same = reads_last c new n a s xs v p d h x ∙ (ap (λ q. last n.local_name q (start c) new) (sym (is ∙ swap)) ∙ ap (λ (z : OwnedName). last z.local_name place (start c) new) same)

          by : (r : Result X XmlReadError) → xread (element n a s xs) v kind p d ≡ last m.local_name place (start c) new → GivesAt view q (last m.local_name place (start c) new) r → Yields view (p + suc (suc (places_of xs))) (xread (element n a s xs) v kind p d) r
          by (Ok x) reads g = reads ∙ g
          by (Err f) reads g = refuses_along f q (p + suc (suc (places_of xs))) (last m.local_name place (start c) new) (xread (element n a s xs) v kind p d) (λ f i. (reads ∙ i, ap suc (law.last_place m.local_name place c new f i) ∙ ends)) g
