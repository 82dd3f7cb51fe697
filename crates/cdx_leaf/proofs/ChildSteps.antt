-- The steps of what is read by a plan.
use Rattle.std.proofs.Common.{◌≡◌, ℕ, ◌+◌, List, [], ◌∷◌, ◌++◌, Bool, true, false, Option, Some, None, Result, Ok, Err, refl, sym, ap, ◌∙◌, subst}
use Rattle.std.specs.Prelude.{unwrap_or, map, bytes_eq, if◌then◌else◌}
use Rattle.std.proofs.lemmas.Slice.Eq.{bytes_eq-Decides}
use Rattle.std.proofs.lemmas.List.{map_push}
use Rattle.cdx_events.specs.declared.name.OwnedName.{OwnedName}
use Rattle.cdx_events.specs.declared.name.OwnedAttribute.{OwnedAttribute}
use Rattle.cdx_events.specs.declared.name.Namespace.{Namespace}
use Rattle.cdx_events.specs.declared.event.EventKind.TheVariants as kinds
use Rattle.cdx_events.specs.Nodes.{Node, Nodes, characters, cdata, element, no_nodes, node}
use Rattle.cdx_events.specs.Cursor.{Cursor}
use Rattle.cdx_models.specs.declared.errors.XmlReadError.{XmlReadError}
use Rattle.cdx_models.specs.declared.bom.SpecVersion.{SpecVersion}
use Rattle.cdx_models.specs.Trees.{Tree, Trees, items, trees, field, with_field, one, ◌⧺◌}
use Rattle.cdx_models.specs.Trees as tree
use Rattle.cdx_models.specs.Versions.{knows}
use Rattle.cdx_schema.specs.Faults.{unexpected}
use Rattle.cdx_schema.specs.Results.{◌>>=◌}
use Rattle.cdx_schema.specs.Depth.{Depth}
use Rattle.cdx_schema.specs.Kinds.{Kind}
use Rattle.cdx_schema.specs.Kinds as sorts
use Rattle.cdx_schema.specs.Nodes.{places}
use Rattle.cdx_schema.specs.XmlReading.{ElementReading, Plan, Child, find_child, child_read_into, unknown, is_second, stored, appended, all, xread, nodes_read, node_read}
use Rattle.cdx_leaf.specs.declared.taken.Taken.{Taken}
use Rattle.cdx_leaf.specs.declared.taken.Taken.TheVariants as answers
use Rattle.cdx_leaf.specs.declared.rule.Rule.{Rule}
use Rattle.cdx_leaf.specs.declared.rule.Rule.TheVariants.{Lax, Strict, Passing}
use Rattle.cdx_leaf.specs.Rules.{skips, passes, as_rule}
use Rattle.cdx_leaf.specs.Each.{each_node, plan_step}
use Rattle.cdx_leaf.specs.Reading.{kind_of_node, behind_end, ReadsAs}
use Rattle.cdx_leaf.specs.Children.{Met, nothing, second, found, meet, met, ReadsChild, TakesChild, Took, TakesOne, TakesMore}
use Rattle.cdx_leaf.specs.Trees.{collected}
use Rattle.cdx_models.specs.Trees.{list_tree, present}
use Rattle.cdx_leaf.proofs.Records.{first_fails}

-- ---- the definition, node by node

pub both : {A B : Type 0} (r : Result A XmlReadError) (f g : A → Result B XmlReadError) → ((us : A) → f us ≡ g us) → (r >>= f) ≡ (r >>= g)
both (Ok us) f g h = h us
both (Err e) f g h = refl

pub each_is : (nodes : Nodes) (plan : Plan) (el : List ℕ) (v : SpecVersion) (d : Depth) (q : ℕ) (s : Trees) → nodes_read nodes plan el v d q s ≡ each_node (plan_step plan v d el) nodes q s
unfolding nodes_read
each_is no_nodes plan el v d q s = refl
each_is (node k ks) plan el v d q s = both (node_read k (xread k) plan el v d q s) (λ us. nodes_read ks plan el v d (q + places k) us) (λ us. each_node (plan_step plan v d el) ks (q + places k) us) (λ us. each_is ks plan el v d (q + places k) us)

abbrev pub then_read : Met → sorts.Rule → List ℕ → ℕ → Trees → Result Trees XmlReadError
then_read nothing r el q s = unknown r el q s
then_read second r el q s = Err (unexpected q el kinds.StartElement)
then_read (found x) r el q s = x

meet_is : (o : Option Child) (r : sorts.Rule) (read : ElementReading) (el : List ℕ) (v : SpecVersion) (d : Depth) (q : ℕ) (s : Trees) → child_read_into o r read el v d q s ≡ then_read (meet o (λ k. read v k q d) s) r el q s
meet_is None r read el v d q s = refl
meet_is (Some c) r read el v d q s = go (is_second c.place (field c.field s))
  where
    go : (b : Bool) → (if b then Err (unexpected q el kinds.StartElement) else (read v c.kind q d >>= λ t. Ok (stored c.place c.field t s))) ≡ then_read (if b then second else found (read v c.kind q d >>= λ t. Ok (stored c.place c.field t s))) r el q s
    go true = refl
    go false = refl

module _ (plan : Plan) (v : SpecVersion) (d : Depth) (el : List ℕ) where
  pub child_step : (n : OwnedName) (a : List OwnedAttribute) (ns : Namespace) (kids : Nodes) (q : ℕ) (s : Trees) (m : Met) → met plan v d n a ns q kids s ≡ m → plan_step plan v d el (element n a ns kids) q s ≡ then_read m plan.rule el q s
  child_step n a ns kids q s m e = meet_is (find_child v n.local_name plan.children) plan.rule (xread (element n a ns kids)) el v d q s ∙ ap (λ x. then_read x plan.rule el q s) e

  pub unknown_passes : (r : Rule) (q : ℕ) (s : Trees) → skips r ≡ true → unknown (as_rule r) el q s ≡ Ok s
  unknown_passes Lax q s e = refl
  unknown_passes Strict q s e = absurd cc
  unknown_passes Passing q s e = refl

  pub unknown_fails : (r : Rule) (q : ℕ) (s : Trees) → skips r ≡ false → unknown (as_rule r) el q s ≡ Err (unexpected q el kinds.StartElement)
  unknown_fails Lax q s e = absurd cc
  unknown_fails Strict q s e = refl
  unknown_fails Passing q s e = absurd cc

  pub stray_fails : (r : Rule) (k : Node) (q : ℕ) (s : Trees) → plan.rule ≡ as_rule r → passes r ≡ false → ((n : OwnedName) (a : List OwnedAttribute) (ns : Namespace) (kids : Nodes) → k ≡ element n a ns kids → ⊥) → plan_step plan v d el k q s ≡ Err (unexpected q el (kind_of_node k))
  stray_fails Lax (characters t) q s is never other = rw is refl
  stray_fails Lax (cdata t) q s is never other = rw is refl
  stray_fails Strict (characters t) q s is never other = rw is refl
  stray_fails Strict (cdata t) q s is never other = rw is refl
  stray_fails Passing (characters t) q s is never other = absurd cc
  stray_fails Passing (cdata t) q s is never other = absurd cc
  stray_fails r (element n a ns kids) q s is never other = absurd (other n a ns kids refl)

  -- a text of a passing record
  pub text_passes : (r : Rule) (t : List ℕ) (q : ℕ) (s : Trees) → plan.rule ≡ as_rule r → passes r ≡ true → plan_step plan v d el (characters t) q s ≡ Ok s
  text_passes Lax t q s is does = absurd cc
  text_passes Strict t q s is does = absurd cc
  text_passes Passing t q s is does = rw is refl

  pub cdata_passes : (r : Rule) (t : List ℕ) (q : ℕ) (s : Trees) → plan.rule ≡ as_rule r → passes r ≡ true → plan_step plan v d el (cdata t) q s ≡ Ok s
  cdata_passes Lax t q s is does = absurd cc
  cdata_passes Strict t q s is does = absurd cc
  cdata_passes Passing t q s is does = rw is refl

-- ---- a field that collects its children

snoc_trees : (ts : List Tree) (t : Tree) → trees ts ⧺ one t ≡ trees (ts ++ t ∷ [])
snoc_trees [] t = refl
snoc_trees (x ∷ ts) t = ap (λ (y : Trees). tree.more x y) (snoc_trees ts t)

list_pushed : {X : Type 0} (f : X → Tree) (xs : List X) (x : X) → items (trees (map f xs) ⧺ one (f x)) ≡ list_tree f (xs ++ x ∷ [])
list_pushed f xs x = ap (λ (y : Trees). items y) (snoc_trees (map f xs) (f x) ∙ ap trees (sym (map_push f xs x)))

pub pushed : {X : Type 0} (f : X → Tree) (o : Option (List X)) (x : X) → appended (present (list_tree f) o) (f x) ≡ present (list_tree f) (Some (unwrap_or o [] ++ x ∷ []))
pushed f None x = refl
pushed f (Some xs) x = list_pushed f xs x

pub collected_more : {X : Type 0} (f : X → Tree) (xs : List X) (x : X) → appended (collected f xs) (f x) ≡ collected f (xs ++ x ∷ [])
collected_more f [] x = refl
collected_more f (y ∷ xs) x = list_pushed f (y ∷ xs) x

-- ---- an arm of a record's match

took_is : (old new end : Cursor) (before now : Trees) (child : Met) (denoted : Result Tree XmlReadError) (into : Tree → Trees) (t : Tree) (r : Result Taken XmlReadError)
    → child ≡ found (denoted >>= λ x. Ok (into x)) → now ≡ into t → Took t old new end denoted r → ReadsChild before now old new end child r
took_is old new end before now child denoted into t (Ok answers.Read) is now_is h = (is ∙ ap (λ x. found (x >>= λ x. Ok (into x))) h.1 ∙ ap (λ y. found (Ok y)) (sym now_is), h.2)
took_is old new end before now child denoted into t (Ok answers.Unknown) is now_is h = absurd (let wrong : answers.Unknown ≡ answers.Read = h.0 in cc)
took_is old new end before now child denoted into t (Ok answers.Second) is now_is h = absurd (let wrong : answers.Second ≡ answers.Read = h.0 in cc)
took_is old new end before now child denoted into t (Err e) is now_is h = record { read = denoted >>= λ x. Ok (into x); met_is = is; grown = h.0; fails = first_fails e new.place denoted (λ x. Ok (into x)) h.1 }

-- The element's name is that of a child of the plan, and a helper has read it.
pub arm : (plan : Plan) (v : SpecVersion) (d : Depth) (n : OwnedName) (a : List OwnedAttribute) (ns : Namespace) (p : ℕ) (nodes : Nodes) (s now : Trees) (old new end : Cursor) (c : Child) (t : Tree) (r : Result Taken XmlReadError)
    → n.local_name ≡ c.name → find_child v c.name plan.children ≡ Some c → is_second c.place (field c.field s) ≡ false → now ≡ stored c.place c.field t s
    → Took t old new end (xread (element n a ns nodes) v c.kind p d) r → ReadsChild s now old new end (met plan v d n a ns p nodes s) r
arm plan v d n a ns p nodes s now old new end c t r is found_is first now_is h =
    took_is old new end s now (met plan v d n a ns p nodes s) (xread (element n a ns nodes) v c.kind p d) (λ x. stored c.place c.field x s) t r
    (ap (λ x. meet (find_child v x plan.children) (λ k. xread (element n a ns nodes) v k p d) s) is ∙ ap (λ x. meet x (λ k. xread (element n a ns nodes) v k p d) s) found_is ∙ ap (λ b. if b then second else found (xread (element n a ns nodes) v c.kind p d >>= λ x. Ok (stored c.place c.field x s))) first) now_is h

-- The same where the field collects its children.
pub arm_more : (plan : Plan) (v : SpecVersion) (d : Depth) (n : OwnedName) (a : List OwnedAttribute) (ns : Namespace) (p : ℕ) (nodes : Nodes) (s now : Trees) (old new end : Cursor) (c : Child) (t : Tree) (r : Result Taken XmlReadError)
    → n.local_name ≡ c.name → find_child v c.name plan.children ≡ Some c → c.place ≡ all → now ≡ with_field c.field t s
    → Took t old new end (xread (element n a ns nodes) v c.kind p d >>= λ x. Ok (appended (field c.field s) x)) r → ReadsChild s now old new end (met plan v d n a ns p nodes s) r
arm_more plan v d n a ns p nodes s now old new end c t r is found_is collects now_is h =
    let read : Result Tree XmlReadError = xread (element n a ns nodes) v c.kind p d in
    let i = c.field in
    took_is old new end s now (met plan v d n a ns p nodes s) (read >>= λ x. Ok (appended (field i s) x)) (λ x. with_field i x s) t r
    (ap (λ x. meet (find_child v x plan.children) (λ k. xread (element n a ns nodes) v k p d) s) is ∙ ap (λ x. meet x (λ k. xread (element n a ns nodes) v k p d) s) found_is
    ∙ ap (λ x. if is_second x (field i s) then second else found (read >>= λ t. Ok (stored x i t s))) collects ∙ ap (λ y. found y) (regrouped read i)) now_is h
  where
    regrouped : (x : Result Tree XmlReadError) (i : ℕ) → (x >>= λ t. Ok (with_field i (appended (field i s) t) s)) ≡ ((x >>= λ t. Ok (appended (field i s) t)) >>= λ y. Ok (with_field i y s))
    regrouped (Ok x) i = refl
    regrouped (Err e) i = refl

-- a name that isn't a child's
pub differs : (x y : List ℕ) → (x ≡ y → ⊥) → bytes_eq x y ≡ false
differs x y h = go (bytes_eq x y) refl
  where
    go : (b : Bool) → bytes_eq x y ≡ b → b ≡ false
    go true e = absurd (h ((bytes_eq-Decides x y).0 e))
    go false e = refl

-- ---- what the loop is told of a child

pub kept_takes : (f g : Plan) (h k : Depth → Depth) (u v : SpecVersion) (before now : Trees) (old new : Cursor) (n : OwnedName) (a : List OwnedAttribute) (r : Result Taken XmlReadError) → f ≡ g → h ≡ k → u ≡ v → TakesChild before now old new u f h n a r → TakesChild before now old new v g k n a r
kept_takes f g h k u v before now old new n a r x y z t = subst (λ w. TakesChild before now old new w g k n a r) z (subst (λ w. TakesChild before now old new u g w n a r) y (subst (λ w. TakesChild before now old new u w h n a r) x t))

pub was_unknown : (b : Taken) (before now : Trees) (old new end : Cursor) (child : Met) → b ≡ answers.Unknown → ReadsChild before now old new end child (Ok b) → (child ≡ nothing) × (now ≡ before) × (new ≡ old)
was_unknown answers.Read before now old new end child e h = absurd cc
was_unknown answers.Unknown before now old new end child e h = h
was_unknown answers.Second before now old new end child e h = absurd cc

-- ---- the same for a whole arm

pub takes_one : (plan : Plan) (v : SpecVersion) (n : OwnedName) (a : List OwnedAttribute) (s now : Trees) (old new : Cursor) (c : Child) (depth : Depth → Depth) (t : Tree) (r : Result Taken XmlReadError)
    → n.local_name ≡ c.name → find_child v c.name plan.children ≡ Some c → is_second c.place (field c.field s) ≡ false → now ≡ stored c.place c.field t s
    → TakesOne t old new v c.kind depth n a r → TakesChild s now old new v plan depth n a r
takes_one plan v n a s now old new c depth t r is found_is first now_is takes d ns p nodes rest st =
    arm plan v (depth d) n a ns p nodes s now old new (behind_end old nodes rest) c t r is found_is first now_is (takes d ns p nodes rest st)

pub takes_more : (plan : Plan) (v : SpecVersion) (n : OwnedName) (a : List OwnedAttribute) (s now : Trees) (old new : Cursor) (c : Child) (depth : Depth → Depth) (t : Tree) (r : Result Taken XmlReadError)
    → n.local_name ≡ c.name → find_child v c.name plan.children ≡ Some c → c.place ≡ all → now ≡ with_field c.field t s
    → TakesMore (field c.field s) t old new v c.kind depth n a r → TakesChild s now old new v plan depth n a r
takes_more plan v n a s now old new c depth t r is found_is collects now_is takes d ns p nodes rest st =
    arm_more plan v (depth d) n a ns p nodes s now old new (behind_end old nodes rest) c t r is found_is collects now_is (takes d ns p nodes rest st)

-- no child of the plan has the name
pub takes_none : (plan : Plan) (v : SpecVersion) (n : OwnedName) (a : List OwnedAttribute) (s : Trees) (old : Cursor) (depth : Depth → Depth) → find_child v n.local_name plan.children ≡ None → TakesChild s s old old v plan depth n a (Ok answers.Unknown)
takes_none plan v n a s old depth e d ns p nodes rest st = (ap (λ o. meet o (λ k. xread (element n a ns nodes) v k p (depth d)) s) e, refl, refl)

-- one that is there from a version on, in any version
pub takes_one_since : (plan : Plan) (v : SpecVersion) (n : OwnedName) (a : List OwnedAttribute) (s now : Trees) (old new : Cursor) (c : Child) (depth : Depth → Depth) (t : Tree) (r : Result Taken XmlReadError)
    → n.local_name ≡ c.name → find_child v c.name plan.children ≡ (if knows c.since v then Some c else None) → is_second c.place (field c.field s) ≡ false → now ≡ stored c.place c.field t s
    → (knows c.since v ≡ true → TakesOne t old new v c.kind depth n a r)
    → (knows c.since v ≡ false → (now ≡ s) × (new ≡ old) × (r ≡ Ok answers.Unknown))
    → TakesChild s now old new v plan depth n a r
takes_one_since plan v n a s now old new c depth t r is found_is first now_is known unknown_to = go (knows c.since v) refl
  where
    go : (b : Bool) → knows c.since v ≡ b → TakesChild s now old new v plan depth n a r
    go true e = takes_one plan v n a s now old new c depth t r is (found_is ∙ ap (λ b. if b then Some c else None) e) first now_is (known e)
    go false e =
        let u = unknown_to e in
        rw (u.0, u.1, u.2) (takes_none plan v n a s old depth (ap (λ x. find_child v x plan.children) is ∙ found_is ∙ ap (λ b. if b then Some c else None) e))

-- a second child where one may stand
pub takes_second : (plan : Plan) (v : SpecVersion) (n : OwnedName) (a : List OwnedAttribute) (s : Trees) (old : Cursor) (depth : Depth → Depth) (c : Child) → n.local_name ≡ c.name → find_child v c.name plan.children ≡ Some c → is_second c.place (field c.field s) ≡ true → TakesChild s s old old v plan depth n a (Ok answers.Second)
takes_second plan v n a s old depth c is found_is it_is d ns p nodes rest st =
    let read : Kind → Result Tree XmlReadError = λ k. xread (element n a ns nodes) v k p (depth d) in
    (ap (λ x. meet (find_child v x plan.children) read s) is ∙ ap (λ x. meet x read s) found_is ∙ ap (λ b. if b then second else found (read c.kind >>= λ t. Ok (stored c.place c.field t s))) it_is, refl, refl)

-- ---- a child that was read as a kind

-- into a field that holds it alone
pub reads_one : {X : Type 0} (f : X → Tree) (x : X) (old new : Cursor) (v : SpecVersion) (K : Kind) (depth : Depth → Depth) (n : OwnedName) (a : List OwnedAttribute) → ReadsAs f old new n a v K depth (Ok x) → TakesOne (f x) old new v K depth n a (Ok answers.Read)
reads_one f x old new v K depth n a reads d ns p nodes rest st =
    let h = reads d ns p nodes rest st in
    (refl, h.0, h.1)

-- to the end of a list
pub reads_more : {X : Type 0} (f : X → Tree) (xs ys : List X) (x : X) (old new : Cursor) (v : SpecVersion) (K : Kind) (depth : Depth → Depth) (n : OwnedName) (a : List OwnedAttribute) → ys ≡ xs ++ x ∷ [] → ReadsAs f old new n a v K depth (Ok x)
    → TakesMore (collected f xs) (collected f ys) old new v K depth n a (Ok answers.Read)
reads_more f xs ys x old new v K depth n a pushed_is reads d ns p nodes rest st =
    let h = reads d ns p nodes rest st in
    (refl, ap (λ r. r >>= λ t. Ok (appended (collected f xs) t)) h.0 ∙ ap (λ t. Ok t) (collected_more f xs x ∙ ap (λ o. collected f o) (sym pushed_is)), h.1)

-- where it was refused
pub more_fails : {X : Type 0} (f : X → Tree) (before now : Tree) (e : XmlReadError) (old new : Cursor) (v : SpecVersion) (K : Kind) (depth : Depth → Depth) (n : OwnedName) (a : List OwnedAttribute) → ReadsAs f old new n a v K depth (Err e) → TakesMore before now old new v K depth n a (Err e)
more_fails f before now e old new v K depth n a reads d ns p nodes rest st =
    let h = reads d ns p nodes rest st in
    (h.0, first_fails e new.place (xread (element n a ns nodes) v K p (depth d)) (λ t. Ok (appended before t)) h.1)
