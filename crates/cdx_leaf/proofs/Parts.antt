-- Readers of texts and lists, seen from the kinds that they read.
use Rattle.std.proofs.Common.{◌≡◌, ℕ, suc, ◌+◌, ◌-◌, arith, List, [], ◌∷◌, Result, Ok, Err, refl, sym, ap, ◌∙◌, subst}
use Rattle.cdx_events.specs.declared.name.OwnedName.{OwnedName}
use Rattle.cdx_events.specs.declared.name.OwnedAttribute.{OwnedAttribute}
use Rattle.cdx_events.specs.declared.name.Namespace.{Namespace}
use Rattle.cdx_events.specs.declared.event.XmlEvent.{XmlEvent}
use Rattle.cdx_events.specs.Nodes.{Nodes, element}
use Rattle.cdx_events.specs.Cursor.{Cursor}
use Rattle.cdx_models.specs.declared.errors.XmlReadError.{XmlReadError}
use Rattle.cdx_models.specs.declared.bom.SpecVersion.{SpecVersion}
use Rattle.cdx_models.specs.Trees.{Tree, Trees, absent, text, one, field}
use Rattle.cdx_schema.specs.Results.{◌>>=◌}
use Rattle.cdx_schema.specs.Depth.{Depth}
use Rattle.cdx_schema.specs.Kinds.{a_text, a_boolean, a_number, a_list, Lists, licenses, Kind}
use Rattle.cdx_schema.specs.XmlReading.{Plan, xread, number_in, simple_text, list_of, nodes_read, plan_of_list, choice_plan}
use Rattle.cdx_schema.specs.Table.{list}
use Rattle.cdx_schema.specs.Nodes.{places_of}
use Rattle.cdx_leaf.specs.Attribute.{GivesAt}
use Rattle.cdx_leaf.specs.Numbers.{value_read}
use Rattle.cdx_leaf.specs.Tags.{boolean_in}
use Rattle.cdx_leaf.specs.Fault.{FailsAt}
use Rattle.cdx_leaf.specs.Each.{each_node, plan_step}
use Rattle.cdx_leaf.specs.Reading.{Stands, Reads, ReadsRest, ReadsAs, behind_end}
use Rattle.cdx_leaf.specs.Trees.{collected}
use Rattle.cdx_models.specs.Trees.{list_tree}
use Rattle.cdx_models.specs.Trees as trees
use Rattle.cdx_leaf.specs.Listing.{items_denoted, listing_plan, ReadsList, ReadsItems, TakesList}
use Rattle.cdx_leaf.specs.Children.{TakesOne, Took}
use Rattle.cdx_leaf.specs.declared.taken.Taken.{Taken}
use Rattle.cdx_leaf.specs.declared.rule.Rule.{Rule}
use Rattle.cdx_leaf.proofs.ChildSteps.{each_is}
use Rattle.cdx_leaf.proofs.Records.{first_fails}

-- what is read of the rest is made into something
pub reads_into : {X T U : Type 0} (view : X → T) (f : T → U) (old new : Cursor) (n : OwnedName) (denoted : ℕ → Nodes → Result T XmlReadError) (result : Result X XmlReadError) → ReadsRest view old new n denoted result
    → (p : ℕ) (nodes : Nodes) (rest : List XmlEvent) → Stands old n p nodes rest → Reads (λ x. f (view x)) old new (behind_end old nodes rest) (denoted (suc p) nodes >>= λ t. Ok (f t)) result
reads_into {X = X} {T = T} view f old new n denoted result reads p nodes rest st =
    go result (subst (λ q. Reads view old new (behind_end old nodes rest) (denoted q nodes) result) st.place (reads nodes rest st.at))
  where
    go : (r : Result X XmlReadError) → Reads view old new (behind_end old nodes rest) (denoted (suc p) nodes) r → Reads (λ x. f (view x)) old new (behind_end old nodes rest) (denoted (suc p) nodes >>= λ t. Ok (f t)) r
    go (Ok x) h = (ap (λ r. r >>= λ t. Ok (f t)) h.0, h.1)
    go (Err e) h = (h.0, first_fails e new.place (denoted (suc p) nodes) (λ t. Ok (f t)) h.1)

pub text_is : (v : SpecVersion) (n : OwnedName) (a : List OwnedAttribute) (ns : Namespace) (d : Depth) (p : ℕ) (nodes : Nodes) → xread (element n a ns nodes) v a_text p d ≡ (simple_text nodes n.local_name (suc p) >>= λ s. Ok (text s))
unfolding xread
text_is v n a ns d p nodes = refl

-- a text under any view
pub reads_text : {X : Type 0} (view : X → List ℕ) (v : SpecVersion) (n : OwnedName) (a : List OwnedAttribute) (old new : Cursor) (result : Result X XmlReadError) → ReadsRest view old new n (λ q nodes. simple_text nodes n.local_name q) result → ReadsAs (λ x. text (view x)) old new n a v a_text (λ d. d) result
reads_text view v n a old new result reads d ns p nodes rest st =
    subst (λ x. Reads (λ x. text (view x)) old new (behind_end old nodes rest) x result) (sym (text_is v n a ns d p nodes))
    (reads_into view (λ t. text t) old new n (λ q nodes. simple_text nodes n.local_name q) result reads p nodes rest st)

-- ---- lists

pub list_is : {X : Type 0} (f : X → Tree) (xs : List X) → list_of (field 0 (one (collected f xs))) ≡ list_tree f xs
list_is f [] = refl
list_is f (x ∷ xs) = refl

pub items_are : {X : Type 0} (f : X → Tree) (xs : List X) (plan : Plan) (el : List ℕ) (v : SpecVersion) (d : Depth) (p : ℕ) (nodes : Nodes) → each_node (plan_step plan v d el) nodes (suc p) (one absent) ≡ Ok (one (collected f xs)) → items_denoted plan el v d p nodes ≡ Ok (list_tree f xs)
items_are f xs plan el v d p nodes e = ap (λ r. r >>= λ ts. Ok (list_of (field 0 ts))) (each_is nodes plan el v d (suc p) (one absent) ∙ e) ∙ ap (λ t. Ok t) (list_is f xs)

pub items_fail : (e : XmlReadError) (place : ℕ) (plan : Plan) (el : List ℕ) (v : SpecVersion) (d : Depth) (p : ℕ) (nodes : Nodes) → FailsAt e place (each_node (plan_step plan v d el) nodes (suc p) (one absent)) → FailsAt e place (items_denoted plan el v d p nodes)
items_fail e place plan el v d p nodes h =
    first_fails e place (nodes_read nodes plan el v d (suc p) (one absent)) (λ ts. Ok (list_of (field 0 ts))) (subst (λ x. FailsAt e place x) (sym (each_is nodes plan el v d (suc p) (one absent))) h)

-- a list whose items have one kind
pub list_denoted : (l : Lists) (v : SpecVersion) (n : OwnedName) (a : List OwnedAttribute) (ns : Namespace) (d : Depth) (p : ℕ) (nodes : Nodes) → xread (element n a ns nodes) v (a_list l) p d ≡ items_denoted (plan_of_list l) n.local_name v d p nodes
unfolding xread
list_denoted l v n a ns d p nodes = refl

pub licenses_read : (v : SpecVersion) (n : OwnedName) (a : List OwnedAttribute) (ns : Namespace) (d : Depth) (p : ℕ) (nodes : Nodes) → xread (element n a ns nodes) v (a_list licenses) p d ≡ items_denoted (choice_plan licenses) n.local_name v d p nodes
unfolding list
licenses_read v n a ns d p nodes = list_denoted licenses v n a ns d p nodes

-- what was read of a list, seen as one
pub reads_list : {X : Type 0} (f : X → Tree) (K : Kind) (depth : Depth → Depth) (old new : Cursor) (v : SpecVersion) (n : OwnedName) (inner : List ℕ) (r : Rule) (result : Result (List X) XmlReadError)
    → ReadsItems f K depth old new v n inner r result → ReadsList f K depth old new v n inner r result
reads_list f K depth old new v n inner r (Ok xs) reads d p nodes rest st =
    let h = reads d p nodes rest st in
    (items_are f xs (listing_plan r inner K) n.local_name v (depth d) p nodes h.0, h.1)
reads_list f K depth old new v n inner r (Err e) reads d p nodes rest st =
    let h = reads d p nodes rest st in
    (h.0, items_fail e new.place (listing_plan r inner K) n.local_name v (depth d) p nodes h.1)

-- The reader of a list type: f makes the type of the list.
pub whole_list : {X : Type 0} (f : X → Tree) (l : Lists) (K : Kind) (depth : Depth → Depth) (inner : List ℕ) (r : Rule) (v : SpecVersion) (n : OwnedName) (a : List OwnedAttribute) (old new : Cursor) (result : Result (List X) XmlReadError)
    → plan_of_list l ≡ listing_plan r inner K → ReadsItems f K depth old new v n inner r result → ReadsAs (list_tree f) old new n a v (a_list l) depth result
whole_list f l K depth inner r v n a old new result is reads d ns p nodes rest st =
    subst (λ x. Reads (list_tree f) old new (behind_end old nodes rest) x result) (sym (list_denoted l v n a ns (depth d) p nodes ∙ ap (λ x. items_denoted x n.local_name v (depth d) p nodes) is)) (reads_list f K depth old new v n inner r result reads d p nodes rest st)

-- A field that is a list of the schema's.
pub takes_list : (now : Tree) (K : Kind) (depth : Depth → Depth) (old new : Cursor) (v : SpecVersion) (n : OwnedName) (a : List OwnedAttribute) (inner : List ℕ) (r : Rule) (result : Result Taken XmlReadError) (l : Lists)
    → plan_of_list l ≡ listing_plan r inner K → TakesList now K depth old new v n inner r result → TakesOne now old new v (a_list l) depth n a result
takes_list now K depth old new v n a inner r result l is takes d ns p nodes rest st =
    subst (λ x. Took now old new (behind_end old nodes rest) x result) (sym (list_denoted l v n a ns (depth d) p nodes ∙ ap (λ x. items_denoted x n.local_name v (depth d) p nodes) is)) (takes d p nodes rest st)

abbrev filled_tree : Tree → Tree
filled_tree trees.absent = trees.items trees.none
filled_tree t = t

-- children that have to be a list at the end
pub filled_list : {X : Type 0} (f : X → Tree) (xs : List X) → filled_tree (collected f xs) ≡ list_tree f xs
filled_list f [] = refl
filled_list f (x ∷ xs) = refl

-- ---- what the text of an element is

boolean_is : (v : SpecVersion) (n : OwnedName) (a : List OwnedAttribute) (ns : Namespace) (d : Depth) (p : ℕ) (nodes : Nodes)
    → xread (element n a ns nodes) v a_boolean p d ≡ (simple_text nodes n.local_name (suc p) >>= λ s. value_read a_boolean (suc (p + places_of nodes)) n.local_name s)
unfolding xread
boolean_is v n a ns d p nodes = refl

pub boolean_kind_is : (v : SpecVersion) (n : OwnedName) (a : List OwnedAttribute) (ns : Namespace) (d : Depth) (p : ℕ) (nodes : Nodes) → xread (element n a ns nodes) v a_boolean p d ≡ boolean_in nodes n.local_name (suc p)
boolean_kind_is v n a ns d p nodes =
    let same : suc (p + places_of nodes) ≡ suc p + places_of nodes = omega arith in
    boolean_is v n a ns d p nodes ∙ ap (λ q. simple_text nodes n.local_name (suc p) >>= λ s. value_read a_boolean q n.local_name s) same

pub number_kind_is : (v : SpecVersion) (n : OwnedName) (a : List OwnedAttribute) (ns : Namespace) (d : Depth) (p : ℕ) (nodes : Nodes) → xread (element n a ns nodes) v a_number p d ≡ number_in nodes n.local_name (suc p)
unfolding xread
number_kind_is v n a ns d p nodes = refl

-- something that is told of the element's end, which stands so many places further
pub told_at_end : {X T : Type 0} (view : X → T) (old new : Cursor) (k : ℕ) (nodes : Nodes) (rest : List XmlEvent) (denoted : ℕ → Result T XmlReadError) (r : Result X XmlReadError)
    → new ≡ behind_end old nodes rest → new.place ≡ k → GivesAt view ((k - 1) + 1) (denoted (k - 1)) r → Reads view old new (behind_end old nodes rest) (denoted (old.place + places_of nodes)) r
told_at_end {X = X} {T = T} view old new k nodes rest denoted r is at gives =
    let placed : new.place ≡ old.place + places_of nodes + 1 = ap (λ (c : Cursor). c.place) is in
    let end : k - 1 ≡ old.place + places_of nodes = omega (arith, at, placed) in
    last r (subst (λ x. GivesAt view (x + 1) (denoted x) r) end gives) placed
  where
    last : (r : Result X XmlReadError) → GivesAt view (old.place + places_of nodes + 1) (denoted (old.place + places_of nodes)) r → new.place ≡ old.place + places_of nodes + 1 → Reads view old new (behind_end old nodes rest) (denoted (old.place + places_of nodes)) r
    last (Ok x) h placed = (h, is)
    last (Err e) h placed = (omega (arith, placed), subst (λ y. FailsAt e y (denoted (old.place + places_of nodes))) (sym placed) h)
