-- Where no attached text, license id or license name is empty, each stands in the spelling without empty texts.
use Prim.Native.String.{String}
use Rattle.std.specs.Prelude.{◌≡◌, refl, ℕ, suc, ◌+◌, List, [], ◌∷◌, ◌++◌, length, Bool, true, false, not, ◌&&◌, ◌||◌, if◌then◌else◌, ◌⊎◌, Option, Some, None, codes}
use Rattle.std.proofs.Common.{true≢false, inl, inr}
use Rattle.std.specs.Str.{bytes_eq}
use mathlib.Core.Path.{ap, sym, ◌∙◌, subst}
use Rattle.cdx_models.specs.declared.bom.SpecVersion.{SpecVersion}
use Rattle.cdx_models.specs.declared.bom.SpecVersion.TheVariants.{V1_5}
use Rattle.cdx_models.specs.Versions.{knows}
use Rattle.cdx_models.specs.Trees.{Name, hash, property, attached_text, license, expression, spdx_id, license_name, tool, copyright, classification, service_data, tools_object, signer, signers, chain, Tree, absent, text, number, boolean, items, fields, Trees, none, more, one, is_absent}
use Rattle.cdx_schema.specs.Kinds.{Lists, Kind, a_text, a_boolean, a_number, a_version, a_list, a_record, a_reference, a_license_choice, a_license_identifier, a_tools, a_data, an_entry, a_signature, a_bill, Rule, Spelled, attribute, content, one_text, as_cdata, child, filled_child, children, either_child, Need, optional, required, required_first, else_empty, Row}
use Rattle.cdx_schema.specs.Table.{rows, rule, list}
use Rattle.cdx_schema.specs.Depth.{Depth, inside}
use Rattle.cdx_schema.specs.Held.{held_kind}
use Rattle.cdx_models.specs.declared.errors.XmlReadError.{XmlReadError}
use Rattle.cdx_schema.specs.Trips.{is_hollow, is_passed_over}
use Rattle.cdx_schema.specs.XmlReading.{Plan, Child, Place, last, all, once, find_child, row_children, record_plan, plan_of_list, tools_plan, data_plan, signature_plan, content_from}
use Rattle.cdx_schema.specs.XmlSpelling.{nodes_of, items_nodes, fields_nodes, row_nodes, wrapped, lone, tag_of, each_under}
use Rattle.cdx_events.specs.EmptyTexts.{lean, lean_nodes}
use Rattle.cdx_schema.specs.Dropped.{earlier, record_hole, child_hole, node_hole, hole, holes, has_empty, have_empty, any_empty}
use Rattle.cdx_schema.proofs.JsonBack.{is_in, distinct, same_itself, or_false, apart_first, is_in_first, and_true, same_name, Held, AllHeld, FieldsHeld, RowHeld}
use Rattle.cdx_schema.proofs.XmlBack.{child_names, all_child_names, find_row, finds_first, passes_first, plan_of, names_append, row_written, child_names_distinct}
use Rattle.cdx_schema.proofs.XmlLaw.{is_plain, tag_plain, finds_list, finds_tool, not_false, optional_text}
use Rattle.cdx_schema.proofs.JsonBack.{one_text_of, IsTextHeld, IsNumberHeld}
use Rattle.cdx_schema.proofs.HeldKept.{held_kept, fits_first}
use Rattle.cdx_schema.specs.Membership.{IsBooleanOf}
use Rattle.cdx_schema.specs.Keeping.{keep}
use Rattle.cdx_schema.specs.Depth.{top}
use Rattle.cdx_schema.specs.JsonSpelling.{is_written}
use Rattle.cdx_schema.specs.Table.{row, must, at}
use Rattle.cdx_schema.specs.Kinds.{components, services}
use Rattle.cdx_schema.proofs.DroppedLaw.{FullHasNone}
use Rattle.cdx_events.specs.Nodes.{Node, Nodes, cdata, characters, element, no_nodes, node}
use Rattle.cdx_schema.specs.Nodes.{places, ◌⊕◌}
use Rattle.cdx_schema.proofs.Basics.{append_lists}

-- ---- nodes without a hole

abbrev pub HasNone : Nodes → SpecVersion → Plan → Type 0
HasNone xs w plan = (p : ℕ) → holes xs w p plan ≡ None

pub both_none : (a b : Option XmlReadError) → earlier a b ≡ None → (a ≡ None) × (b ≡ None)
both_none None b h = (refl, h)
both_none (Some f) b h = absurd (true≢false (ap is_some h))
  where
    is_some : Option XmlReadError → Bool
    is_some (Some g) = true
    is_some None = false

none_both : (a b : Option XmlReadError) → a ≡ None → b ≡ None → earlier a b ≡ None
none_both a b h g = ap (λ x. earlier x b) h ∙ g

-- at each place
none_append : (xs ys : Nodes) (w : SpecVersion) (plan : Plan) (p : ℕ) → holes xs w p plan ≡ None → HasNone ys w plan → holes (xs ⊕ ys) w p plan ≡ None
unfolding hole
none_append no_nodes ys w plan p f g = g p
none_append (node x xs) ys w plan p f g =
    let e : (node_hole x w (hole x w p) plan ≡ None) × (holes xs w (p + places x) plan ≡ None) = both_none (node_hole x w (hole x w p) plan) (holes xs w (p + places x) plan) f in
    none_both (node_hole x w (hole x w p) plan) (holes (xs ⊕ ys) w (p + places x) plan) e.0 (none_append xs ys w plan (p + places x) e.1 g)

pub lean_append : (xs ys : Nodes) → lean_nodes (xs ⊕ ys) ≡ lean_nodes xs ⊕ lean_nodes ys
lean_append no_nodes ys = refl
lean_append (node (characters []) xs) ys = lean_append xs ys
lean_append (node (cdata []) xs) ys = lean_append xs ys
lean_append (node (characters (c ∷ s)) xs) ys = ap (node (characters (c ∷ s))) (lean_append xs ys)
lean_append (node (cdata (c ∷ s)) xs) ys = ap (node (cdata (c ∷ s))) (lean_append xs ys)
lean_append (node (element n as' d zs) xs) ys = ap (node (element n as' d (lean_nodes zs))) (lean_append xs ys)

lean_both : (xs ys : Nodes) (w : SpecVersion) (plan : Plan) → HasNone (lean_nodes xs) w plan → HasNone (lean_nodes ys) w plan → HasNone (lean_nodes (xs ⊕ ys)) w plan
lean_both xs ys w plan f g p = ap (λ zs. holes zs w p plan) (lean_append xs ys) ∙ none_append (lean_nodes xs) (lean_nodes ys) w plan p (f p) g

nothing_none : (w : SpecVersion) (plan : Plan) → HasNone no_nodes w plan
unfolding hole
nothing_none w plan p = refl

-- ---- kinds in which no element has to have one text

abbrev KindNone : SpecVersion → Kind → Type 0
KindNone w k = (x : Node) (p : ℕ) → hole x w p k ≡ None

abbrev AllNone : SpecVersion → List Child → Type 0
AllNone w [] = Unit {0}
AllNone w (c ∷ cs) = KindNone w c.kind × AllNone w cs

find_solid : (w : SpecVersion) (q : List ℕ) (cs : List Child) (x : Node) (p : ℕ) → AllNone w cs → child_hole (find_child w q cs) (hole x w p) ≡ None
find_solid w q [] x p h = refl
find_solid w q (c ∷ cs) x p h = by (bytes_eq q c.name && knows c.since w) (find_solid w q cs x p h.1)
  where
    by : (b : Bool) → child_hole (find_child w q cs) (hole x w p) ≡ None → child_hole (if b then Some c else find_child w q cs) (hole x w p) ≡ None
    by true e = h.0 x p
    by false e = e

plan_none : (w : SpecVersion) (plan : Plan) → AllNone w plan.children → (xs : Nodes) → HasNone xs w plan
unfolding hole
plan_none w plan h no_nodes p = refl
plan_none w plan h (node (characters s) xs) p = plan_none w plan h xs (p + 1)
plan_none w plan h (node (cdata s) xs) p = plan_none w plan h xs (p + 1)
plan_none w plan h (node (element n as' d ys) xs) p =
    none_both (child_hole (find_child w n.local_name plan.children) (hole (element n as' d ys) w p)) (holes xs w (p + places (element n as' d ys)) plan)
    (find_solid w n.local_name plan.children (element n as' d ys) p h) (plan_none w plan h xs (p + places (element n as' d ys)))

text_none : (w : SpecVersion) → KindNone w a_text
unfolding hole
text_none w (characters s) p = refl
text_none w (cdata s) p = refl
text_none w (element n as' d xs) p = refl

signer_none : (w : SpecVersion) → KindNone w (a_record signer)
unfolding hole rows
signer_none w (characters s) p = refl
signer_none w (cdata s) p = refl
signer_none w (element n as' d xs) p = plan_none w (record_plan signer) (text_none w, (text_none w, tt)) xs (suc p)

signers_none : (w : SpecVersion) → KindNone w (a_record signers)
unfolding hole rows list
signers_none w (characters s) p = refl
signers_none w (cdata s) p = refl
signers_none w (element n as' d xs) p = plan_none w (record_plan signers) (signer_none w, tt) xs (suc p)

chain_none : (w : SpecVersion) → KindNone w (a_record chain)
unfolding hole rows list
chain_none w (characters s) p = refl
chain_none w (cdata s) p = refl
chain_none w (element n as' d xs) p = plan_none w (record_plan chain) (signer_none w, tt) xs (suc p)

signature_none : (w : SpecVersion) → KindNone w a_signature
unfolding hole
signature_none w (characters s) p = refl
signature_none w (cdata s) p = refl
signature_none w (element n as' d xs) p = plan_none w signature_plan (signers_none w, (chain_none w, (text_none w, (text_none w, tt)))) xs (suc p)

class_none : (w : SpecVersion) → KindNone w (a_record classification)
unfolding hole rows
class_none w (characters s) p = refl
class_none w (cdata s) p = refl
class_none w (element n as' d xs) p = refl

entry_none : (w : SpecVersion) → KindNone w an_entry
unfolding hole rows
entry_none w (characters s) p = refl
entry_none w (cdata s) p = refl
entry_none w (element n as' d xs) p = plan_none w (record_plan service_data) (class_none w, tt) xs (suc p)

data_children_none : (w : SpecVersion) → AllNone w data_plan.children
data_children_none w = (class_none w, (entry_none w, tt))

data_none : (w : SpecVersion) → KindNone w a_data
unfolding hole
data_none w (characters s) p = refl
data_none w (cdata s) p = refl
data_none w (element n as' d xs) p = plan_none w data_plan (data_children_none w) xs (suc p)

-- ---- the children of a plan

abbrev pub Found : SpecVersion → Plan → List ℕ → Kind → Type 0
Found w plan q k = (c : Child) × (find_child w q plan.children ≡ Some c) × (c.kind ≡ k)

abbrev pub RowFinds : SpecVersion → Plan → Row → Spelled → Type 0
RowFinds w plan r (child n) = Found w plan n r.kind
RowFinds w plan r (filled_child n) = Found w plan n r.kind
RowFinds w plan r (children n) = Found w plan n (held_kind r.kind)
RowFinds w plan r (either_child m n) = Found w plan m r.kind × (bytes_eq n m ≡ false → Found w plan n r.kind)
RowFinds w plan r _ = Unit {0}

abbrev pub RowsFind : Plan → SpecVersion → List Row → Type 0
RowsFind plan w [] = Unit {0}
RowsFind plan w (r ∷ rs) = (knows r.since w ≡ true → RowFinds w plan r r.xml) × RowsFind plan w rs

row_finds : (front : List Row) (r : Row) (rs : List Row) (rule' : Rule) (w : SpecVersion) → ((q : List ℕ) → is_in q (child_names r.xml) ≡ true → is_in q (all_child_names front) ≡ false) → knows r.since w ≡ true
    → RowFinds w (plan_of rule' (front ++ r ∷ rs)) r r.xml
row_finds front r rs rule' w before known = by r.xml refl
  where
    at : (q : List ℕ) (c : Child) → is_in q (child_names r.xml) ≡ true → ((cs : List Child) → find_child w q (row_children (length front) r ++ cs) ≡ Some c) → find_child w q (plan_of rule' (front ++ r ∷ rs)).children ≡ Some c
    at q c i f = find_row w q front r rs c (before q i) f

    one_found : (x : Spelled) (n : List ℕ) (c : Child) → r.xml ≡ x → is_in n (child_names x) ≡ true → ((cs : List Child) → find_child w n (row_children (length front) (record r { xml = x }) ++ cs) ≡ Some c) → find_child w n (plan_of rule' (front ++ r ∷ rs)).children ≡ Some c
    one_found x n c e i f = at n c (subst (λ (y : Spelled). is_in n (child_names y) ≡ true) (sym e) i)
        (λ cs. subst (λ (y : Spelled). find_child w n (row_children (length front) (record r { xml = y }) ++ cs) ≡ Some c) (sym e) (f cs))

    first : (n : List ℕ) (k : Kind) (place' : Place) (cs : List Child) → find_child w n (record { name = n; since = r.since; kind = k; field = length front; place = place' } ∷ cs) ≡ Some (record { name = n; since = r.since; kind = k; field = length front; place = place' })
    first n k place' cs = finds_first w n _ cs (same_itself n) known

    second : (b : Bool) (q : List ℕ) → (b || (bytes_eq q q || false)) ≡ true
    second true q = refl
    second false q = rw (same_itself q) refl

    by : (x : Spelled) → r.xml ≡ x → RowFinds w (plan_of rule' (front ++ r ∷ rs)) r x
    by (child n) e = (_, one_found (child n) n _ e (rw (same_itself n) refl) (λ cs. first n r.kind last cs), refl)
    by (filled_child n) e = (_, one_found (filled_child n) n _ e (rw (same_itself n) refl) (λ cs. first n r.kind last cs), refl)
    by (children n) e = (_, one_found (children n) n _ e (rw (same_itself n) refl) (λ cs. first n (held_kind r.kind) all cs), refl)
    by (either_child m n) e = (
      (_, one_found (either_child m n) m _ e (rw (same_itself m) refl) (λ cs. first m r.kind once (record { name = n; since = r.since; kind = r.kind; field = length front; place = once } ∷ cs)), refl),
      (λ d. (
        _,
        one_found (either_child m n) n _ e (second (bytes_eq n m) n)
            (λ cs. passes_first w n (record { name = m; since = r.since; kind = r.kind; field = length front; place = once }) (record { name = n; since = r.since; kind = r.kind; field = length front; place = once } ∷ cs) d ∙ first n r.kind once cs),
        refl,
      )),
    )
    by _ e = tt

rows_find : (front rs : List Row) (rule' : Rule) (w : SpecVersion) → distinct (all_child_names front ++ all_child_names rs) ≡ true → RowsFind (plan_of rule' (front ++ rs)) w rs
rows_find front [] rule' w h = tt
rows_find front (r ∷ rs) rule' w h = (
  row_finds front r rs rule' w (λ q e. apart_first q (all_child_names front) (child_names r.xml ++ all_child_names rs) h (is_in_first q (child_names r.xml) (all_child_names rs) e)),
  subst (λ (xs : List Row). RowsFind (plan_of rule' xs) w rs) (sym (append_lists front (r ∷ []) rs)) (rows_find (front ++ r ∷ []) rs rule' w later),
)
  where
    later : distinct (all_child_names (front ++ r ∷ []) ++ all_child_names rs) ≡ true
    later = ap distinct (ap (λ x. x ++ all_child_names rs) (names_append front (r ∷ []) ∙ ap (all_child_names front ++◌) (nothing_more (child_names r.xml))) ∙ sym (append_lists (all_child_names front) (child_names r.xml) (all_child_names rs))) ∙ h
      where
        nothing_more : (xs : List (List ℕ)) → xs ++ [] ≡ xs
        nothing_more [] = refl
        nothing_more (y ∷ ys) = ap (y ∷◌) (nothing_more ys)

pub record_finds : (n : Name) (w : SpecVersion) → RowsFind (record_plan n) w (rows n)
record_finds n w = rows_find [] (rows n) (rule n) w (child_names_distinct n)

-- ---- rows

abbrev pub is_identifier : Kind → Bool
is_identifier a_license_identifier = true
is_identifier _ = false

abbrev pub clear_list : Kind → List ℕ → Bool
clear_list (a_list l) n = is_plain (list l).kind && bytes_eq (list l).name n
clear_list _ n = false

-- Rows of records without content.
abbrev pub is_clear : Kind → Spelled → Bool
is_clear k content = false
is_clear k one_text = false
is_clear k as_cdata = false
is_clear k (child n) = is_plain k
is_clear k (filled_child n) = is_plain k
is_clear k (children n) = clear_list k n
is_clear k (either_child m n) = is_identifier k && (bytes_eq (codes "id") m && bytes_eq (codes "name") n)
is_clear k _ = true

abbrev pub clear_need : Need → Spelled → Bool
clear_need else_empty (children n) = true
clear_need else_empty _ = false
clear_need _ x = true

abbrev all_clear : List Row → Bool
all_clear [] = true
all_clear (r ∷ rs) = (clear_need r.need r.xml && is_clear r.kind r.xml) && all_clear rs

-- An element whose tree is written has no hole, under whatever name.
abbrev Whole : SpecVersion → Tree → Kind → Type 0
Whole w t k = (tag : List ℕ) (p : ℕ) → hole (lean (wrapped t w tag k (nodes_of t w k))) w p k ≡ None

one_child : (w : SpecVersion) (plan : Plan) (t : Tree) (k : Kind) (n q : List ℕ) → Whole w t k → tag_of k t n ≡ q → Found w plan q k → HasNone (lean_nodes (lone (wrapped t w n k (nodes_of t w k)))) w plan
unfolding hole
one_child w plan t k n q h e f p =
    none_both (child_hole (find_child w (tag_of k t n) plan.children) (hole (lean (wrapped t w n k (nodes_of t w k))) w p)) None
    (ap (λ x. child_hole (find_child w x plan.children) (hole (lean (wrapped t w n k (nodes_of t w k))) w p)) e
    ∙ (ap (λ o. child_hole o (hole (lean (wrapped t w n k (nodes_of t w k))) w p)) f.1
    ∙ (ap (hole (lean (wrapped t w n k (nodes_of t w k))) w p) f.2 ∙ h n p))) refl

abbrev ItemsWhole : SpecVersion → Depth → Tree → Type 0
ItemsWhole w d t = (l : Lists) (plan : Plan) → Held w d t (a_list l) → has_empty t ≡ false → is_plain (list l).kind ≡ true → Found w plan (list l).name (list l).kind → HasNone (lean_nodes (nodes_of t w (a_list l))) w plan

row_whole : (w : SpecVersion) (d : Depth) (plan : Plan) (t : Tree) (r : Row) → is_clear r.kind r.xml ≡ true → knows r.since w ≡ true → RowFinds w plan r r.xml
    → Held w d t r.kind → has_empty t ≡ false → Whole w t r.kind → ItemsWhole w d t → HasNone (lean_nodes (row_nodes r.xml t w r.kind (nodes_of t w r.kind))) w plan
row_whole w d plan t r clear known finds held full h its = by r.kind r.xml clear finds held h
  where
    lists : (k : Kind) (n : List ℕ) → clear_list k n ≡ true → Found w plan n (held_kind k) → Held w d t k → HasNone (lean_nodes (nodes_of t w k)) w plan
    lists (a_list l) n c f g = its l plan g full (and_true (is_plain (list l).kind) (bytes_eq (list l).name n) c).0 (subst (λ (q : List ℕ). Found w plan q (list l).kind) (sym (same_name (list l).name n (and_true (is_plain (list l).kind) (bytes_eq (list l).name n) c).1)) f)
    lists _ n c f g = absurd (true≢false (sym c))

    filled : (b : Bool) (xs : Nodes) → HasNone (lean_nodes xs) w plan → HasNone (lean_nodes (if b then no_nodes else xs)) w plan
    filled true xs f = nothing_none w plan
    filled false xs f = f

    by : (k : Kind) (x : Spelled) → is_clear k x ≡ true → RowFinds w plan (record r { kind = k; xml = x }) x → Held w d t k → Whole w t k → HasNone (lean_nodes (row_nodes x t w k (nodes_of t w k))) w plan
    by k content c f g e = absurd (true≢false (sym c))
    by k one_text c f g e = absurd (true≢false (sym c))
    by k as_cdata c f g e = absurd (true≢false (sym c))
    by k (child n) c f g e = one_child w plan t k n n e (tag_plain k t n c) f
    by k (filled_child n) c f g e = filled (is_hollow t) (lone (wrapped t w n k (nodes_of t w k))) (one_child w plan t k n n e (tag_plain k t n c) f)
    by k (children n) c f g e = lists k n c f g
    by k (either_child m n) c f g e = either k m n c f g e
      where
        either : (k : Kind) (m n : List ℕ) → is_clear k (either_child m n) ≡ true → Found w plan m k × (bytes_eq n m ≡ false → Found w plan n k) → Held w d t k → Whole w t k → HasNone (lean_nodes (lone (wrapped t w m k (nodes_of t w k)))) w plan
        either a_license_identifier m n c f g e =
            let a : (bytes_eq (codes "id") m ≡ true) × (bytes_eq (codes "name") n ≡ true) = and_true (bytes_eq (codes "id") m) (bytes_eq (codes "name") n) c in
            at t g e (subst (λ (q : List ℕ). Found w plan q a_license_identifier) (sym (same_name (codes "id") m a.0)) f.0)
            (subst (λ (q : List ℕ). Found w plan q a_license_identifier) (sym (same_name (codes "name") n a.1)) (f.1 (subst (λ (x : List ℕ). bytes_eq n x ≡ false) (same_name (codes "id") m a.0) (subst (λ (x : List ℕ). bytes_eq x (codes "id") ≡ false) (same_name (codes "name") n a.1) refl))))
          where
            at : (t : Tree) → Held w d t a_license_identifier → Whole w t a_license_identifier → Found w plan (codes "id") a_license_identifier → Found w plan (codes "name") a_license_identifier → HasNone (lean_nodes (lone (wrapped t w m a_license_identifier (nodes_of t w a_license_identifier)))) w plan
            at (fields spdx_id ts) g e i j = one_child w plan (fields spdx_id ts) a_license_identifier m (codes "id") e refl i
            at (fields o ts) g e i j = named_by o g.0 e
              where
                named_by : (o : Name) → (o ≡ spdx_id) ⊎ (o ≡ license_name) → Whole w (fields o ts) a_license_identifier → HasNone (lean_nodes (lone (wrapped (fields o ts) w m a_license_identifier (nodes_of (fields o ts) w a_license_identifier)))) w plan
                named_by o (inl q) = subst (λ (z : Name). Whole w (fields z ts) a_license_identifier → HasNone (lean_nodes (lone (wrapped (fields z ts) w m a_license_identifier (nodes_of (fields z ts) w a_license_identifier)))) w plan) (sym q) (λ e. one_child w plan (fields spdx_id ts) a_license_identifier m (codes "id") e refl i)
                named_by o (inr q) = subst (λ (z : Name). Whole w (fields z ts) a_license_identifier → HasNone (lean_nodes (lone (wrapped (fields z ts) w m a_license_identifier (nodes_of (fields z ts) w a_license_identifier)))) w plan) (sym q) (λ e. one_child w plan (fields license_name ts) a_license_identifier m (codes "name") e refl j)
            at (items s) g e i j = absurd (true≢false g.0)
            at _ g e i j = absurd (true≢false g)
        either _ m n c f g e = absurd (true≢false (sym c))
    by k _ c f g e = nothing_none w plan

list_held : (w : SpecVersion) (d : Depth) (k : Kind) (n : List ℕ) → clear_list k n ≡ true → Held w d (items none) k
list_held w d (a_list l) n c = (tt, tt)
list_held w d _ n c = absurd (true≢false (sym c))

-- A row has a field that is held, or none.
pub held_or : (w : SpecVersion) (d : Depth) (t : Tree) (r : Row) → (clear_need r.need r.xml && is_clear r.kind r.xml) ≡ true → RowHeld w d t r → (is_absent t ≡ true) ⊎ ((knows r.since w ≡ true) × Held w d t r.kind)
held_or w d t r c (inl h) = inl (ap is_absent h.1)
held_or w d t r c (inr (inr h)) = inr (h.0, h.2)
held_or w d t r c (inr (inl h)) = by r.need t (and_true (clear_need r.need r.xml) (is_clear r.kind r.xml) c).0 h.1
  where
    listed : (x : Spelled) → clear_need else_empty x ≡ true → is_clear r.kind x ≡ true → Held w d (items none) r.kind
    listed (children n) e f = list_held w d r.kind n f
    listed _ e f = absurd (true≢false (sym e))

    by : (n : Need) (u : Tree) → clear_need n r.xml ≡ true → is_written n u ≡ false → (is_absent u ≡ true) ⊎ ((knows r.since w ≡ true) × Held w d u r.kind)
    by optional u e f = inl (not_false (is_absent u) f)
    by required u e f = inl (not_false (is_absent u) f)
    by required_first u e f = inl (not_false (is_absent u) f)
    by else_empty (items none) e f = inr (h.0, listed r.xml e (and_true (clear_need r.need r.xml) (is_clear r.kind r.xml) c).1)
    by else_empty (items (more x xs)) e f = absurd (true≢false f)
    by else_empty absent e f = inl refl
    by else_empty (text x) e f = absurd (true≢false f)
    by else_empty (number x) e f = absurd (true≢false f)
    by else_empty (boolean x) e f = absurd (true≢false f)
    by else_empty (fields m xs) e f = absurd (true≢false f)

written_whole : (w : SpecVersion) (d : Depth) (plan : Plan) (t : Tree) (r : Row) → (clear_need r.need r.xml && is_clear r.kind r.xml) ≡ true → (knows r.since w ≡ true → RowFinds w plan r r.xml)
    → RowHeld w d t r → has_empty t ≡ false → (Held w d t r.kind → Whole w t r.kind) → ItemsWhole w d t → HasNone (lean_nodes (row_written r t w)) w plan
written_whole w d plan t r c finds held full h its = by (held_or w d t r c held)
  where
    none_at : (b : Bool) → HasNone (lean_nodes (if b && false then row_nodes r.xml t w r.kind (nodes_of t w r.kind) else no_nodes)) w plan
    none_at true = nothing_none w plan
    none_at false = nothing_none w plan

    some_at : (b : Bool) → HasNone (lean_nodes (row_nodes r.xml t w r.kind (nodes_of t w r.kind))) w plan → HasNone (lean_nodes (if b then row_nodes r.xml t w r.kind (nodes_of t w r.kind) else no_nodes)) w plan
    some_at true f = f
    some_at false f = nothing_none w plan

    by : (is_absent t ≡ true) ⊎ ((knows r.since w ≡ true) × Held w d t r.kind) → HasNone (lean_nodes (row_written r t w)) w plan
    by (inl e) = subst (λ (b : Bool). HasNone (lean_nodes (if knows r.since w && not b then row_nodes r.xml t w r.kind (nodes_of t w r.kind) else no_nodes)) w plan) (sym e) (none_at (knows r.since w))
    by (inr e) = some_at (knows r.since w && not (is_absent t)) (row_whole w d plan t r (and_true (clear_need r.need r.xml) (is_clear r.kind r.xml) c).1 e.0 (finds e.0) e.1 full (h e.1) its)

-- ---- records

abbrev RecordWhole : SpecVersion → Name → Trees → Type 0
RecordWhole w n ts = (tag : List ℕ) (p : ℕ) → record_hole (content_from 0 (rows n)) n w tag p (lean_nodes (fields_nodes ts w (rows n))) (holes (lean_nodes (fields_nodes ts w (rows n))) w (suc p)) ≡ None

abbrev pub one_row : String → Row
one_row name = must (row a_text one_text name)

alone_whole : (w : SpecVersion) (n : Name) (s : List ℕ) → (n ≡ spdx_id) ⊎ (n ≡ license_name) → has_empty (fields n (one (text s))) ≡ false → RecordWhole w n (one (text s))
unfolding has_empty nodes_of rows hole
alone_whole w n s (inl e) f = subst (λ (m : Name). has_empty (fields m (one (text s))) ≡ false → RecordWhole w m (one (text s))) (sym e) (by s) f
  where
    by : (s : List ℕ) → has_empty (fields spdx_id (one (text s))) ≡ false → RecordWhole w spdx_id (one (text s))
    by [] g = absurd (true≢false g)
    by (c ∷ cs) g = λ tag p. refl
alone_whole w n s (inr e) f = subst (λ (m : Name). has_empty (fields m (one (text s))) ≡ false → RecordWhole w m (one (text s))) (sym e) (by s) f
  where
    by : (s : List ℕ) → has_empty (fields license_name (one (text s))) ≡ false → RecordWhole w license_name (one (text s))
    by [] g = absurd (true≢false g)
    by (c ∷ cs) g = λ tag p. refl

attached_three : (w : SpecVersion) (a b : Tree) (s : List ℕ) → (a ≡ absent) ⊎ ((x : List ℕ) × (a ≡ text x)) → (b ≡ absent) ⊎ ((x : List ℕ) × (b ≡ text x))
    → has_empty (fields attached_text (more a (more b (one (text s))))) ≡ false → RecordWhole w attached_text (more a (more b (one (text s))))
unfolding has_empty nodes_of rows hole
attached_three w a b [] e e' f = absurd (true≢false f)
attached_three w a b (c ∷ s) (inl e) (inl e') f = rw (e, e') (λ tag p. refl)
attached_three w a b (c ∷ s) (inl e) (inr e') f = rw (e, e'.1) (λ tag p. refl)
attached_three w a b (c ∷ s) (inr e) (inl e') f = rw (e.1, e') (λ tag p. refl)
attached_three w a b (c ∷ s) (inr e) (inr e') f = rw (e.1, e'.1) (λ tag p. refl)

attached_whole : (w : SpecVersion) (d : Depth) (ts : Trees) → FieldsHeld w d ts (rows attached_text) → has_empty (fields attached_text ts) ≡ false → RecordWhole w attached_text ts
unfolding rows
attached_whole w d none h f = absurd (true≢false h)
attached_whole w d (more a none) h f = absurd (true≢false h.1)
attached_whole w d (more a (more b us)) h f =
    by us (optional_text w d a (row a_text (attribute (codes "content-type")) "contentType") refl refl h.0) (optional_text w d b (at a_text "encoding") refl refl h.1.0) (one_text_of w d us (one_row "content") refl refl refl h.1.1) f
  where
    by : (vs : Trees) → (a ≡ absent) ⊎ ((x : List ℕ) × (a ≡ text x)) → (b ≡ absent) ⊎ ((x : List ℕ) × (b ≡ text x)) → (g : List ℕ) × (vs ≡ one (text g)) → has_empty (fields attached_text (more a (more b vs))) ≡ false → RecordWhole w attached_text (more a (more b vs))
    by vs e e' g = subst (λ (z : Trees). has_empty (fields attached_text (more a (more b z))) ≡ false → RecordWhole w attached_text (more a (more b z))) (sym g.1) (attached_three w a b g.0 e e')

id_whole : (w : SpecVersion) (d : Depth) (ts : Trees) → FieldsHeld w d ts (rows spdx_id) → has_empty (fields spdx_id ts) ≡ false → RecordWhole w spdx_id ts
unfolding rows
id_whole w d ts h f =
    let e : (s : List ℕ) × (ts ≡ one (text s)) = one_text_of w d ts (one_row "id") refl refl refl h in
    subst (λ (z : Trees). has_empty (fields spdx_id z) ≡ false → RecordWhole w spdx_id z) (sym e.1) (alone_whole w spdx_id e.0 (inl refl)) f

name_whole : (w : SpecVersion) (d : Depth) (ts : Trees) → FieldsHeld w d ts (rows license_name) → has_empty (fields license_name ts) ≡ false → RecordWhole w license_name ts
unfolding rows
name_whole w d ts h f =
    let e : (s : List ℕ) × (ts ≡ one (text s)) = one_text_of w d ts (one_row "name") refl refl refl h in
    subst (λ (z : Trees). has_empty (fields license_name z) ≡ false → RecordWhole w license_name z) (sym e.1) (alone_whole w license_name e.0 (inr refl)) f

abbrev RowsWhole : SpecVersion → Name → Trees → Type 0
RowsWhole w n ts = (plan : Plan) → all_clear (rows n) ≡ true → RowsFind plan w (rows n) → HasNone (lean_nodes (fields_nodes ts w (rows n))) w plan

record_whole : (w : SpecVersion) (d : Depth) (n : Name) (ts : Trees) → FieldsHeld w d ts (rows n) → has_empty (fields n ts) ≡ false → RowsWhole w n ts → RecordWhole w n ts
unfolding rows list
record_whole w d hash ts h f g tag p = refl
record_whole w d property ts h f g tag p = refl
record_whole w d attached_text ts h f g tag p = attached_whole w d ts h f tag p
record_whole w d expression ts h f g tag p = refl
record_whole w d spdx_id ts h f g tag p = id_whole w d ts h f tag p
record_whole w d license_name ts h f g tag p = name_whole w d ts h f tag p
record_whole w d copyright ts h f g tag p = refl
record_whole w d classification ts h f g tag p = refl
record_whole w d n ts h f g tag p = g (record_plan n) refl (record_finds n w) (suc p)

-- ---- kinds

text_whole : (w : SpecVersion) (s : List ℕ) (k : Kind) → IsTextHeld k s → Whole w (text s) k
unfolding hole nodes_of
text_whole w s a_text h tag p = refl
text_whole w s a_reference h tag p = refl
text_whole w s a_version h tag p = refl
text_whole w s _ h tag p = absurd (true≢false h)

number_whole : (w : SpecVersion) (n : ℕ) (k : Kind) → IsNumberHeld k n → Whole w (number n) k
unfolding hole nodes_of
number_whole w n a_number h tag p = refl
number_whole w n _ h tag p = absurd (true≢false h)

boolean_whole : (w : SpecVersion) (b : Bool) (k : Kind) → IsBooleanOf k → Whole w (boolean b) k
unfolding hole nodes_of
boolean_whole w b a_boolean h tag p = refl
boolean_whole w b _ h tag p = absurd (true≢false h)

abbrev pub ItemFinds : SpecVersion → Depth → Plan → Kind → List ℕ → Type 0
ItemFinds w d plan k tag = (t : Tree) → Held w d t k → Found w plan (tag_of k t tag) k

pub list_finds : (w : SpecVersion) (d : Depth) (l : Lists) → ItemFinds w d (plan_of_list l) (list l).kind (list l).name
list_finds w d l t h = let f : (c : Child) × (find_child w (tag_of (list l).kind t (list l).name) (plan_of_list l).children ≡ Some c) × (c.field ≡ 0) × (c.place ≡ all) × (c.kind ≡ (list l).kind) = finds_list w d l t h in (f.0, f.1, f.4)

pub tool_finds : (w : SpecVersion) (d : Depth) → ItemFinds w d tools_plan (a_record tool) (codes "tool")
tool_finds w d t h = let f : (c : Child) × (find_child w (tag_of (a_record tool) t (codes "tool")) tools_plan.children ≡ Some c) × (c.field ≡ 0) × (c.place ≡ all) × (c.kind ≡ a_record tool) = finds_tool w d t h in (f.0, f.1, f.4)

abbrev ListWhole : SpecVersion → Depth → Trees → Type 0
ListWhole w d ts = (k : Kind) (tag : List ℕ) (plan : Plan) → AllHeld w d ts k → ItemFinds w d plan k tag → HasNone (lean_nodes (items_nodes ts w (each_under tag) k)) w plan

items_case : (w : SpecVersion) (d : Depth) (ts : Trees) (k : Kind) → Held w d (items ts) k → ListWhole w d ts → Whole w (items ts) k
unfolding hole nodes_of list
items_case w d ts (a_list l) h f tag p = f (list l).kind (list l).name (plan_of_list l) h.1 (list_finds w d l) (suc p)
items_case w d ts a_tools h f tag p = f (a_record tool) (codes "tool") tools_plan h.1 (tool_finds w d) (suc p)
items_case w d ts a_data h f tag p = data_none w (lean (wrapped (items ts) w tag a_data (nodes_of (items ts) w a_data))) p
items_case w d ts _ h f tag p = absurd (true≢false h.0)

pub tools_find : RowsFind tools_plan V1_5 (rows tools_object)
unfolding rows
tools_find = ((λ k. (record { name = codes "services"; since = V1_5; kind = a_list services; field = 1; place = last }, refl, refl)), ((λ k. (record { name = codes "components"; since = V1_5; kind = a_list components; field = 2; place = last }, refl, refl)), tt))

tools_whole : (n : Name) (w : SpecVersion) (ts : Trees) → n ≡ tools_object → w ≡ V1_5 → RowsWhole w n ts → Whole w (fields n ts) a_tools
unfolding hole nodes_of
tools_whole n w ts e v g = subst (λ (m : Name). RowsWhole w m ts → Whole w (fields m ts) a_tools) (sym e) (subst (λ (u : SpecVersion). RowsWhole u tools_object ts → Whole u (fields tools_object ts) a_tools) (sym v) at) g
  where
    at : RowsWhole V1_5 tools_object ts → Whole V1_5 (fields tools_object ts) a_tools
    at f tag p = f tools_plan (unfold rows list in refl) tools_find (suc p)

fields_case : (w : SpecVersion) (d : Depth) (n : Name) (ts : Trees) (k : Kind) → Held w d (fields n ts) k → has_empty (fields n ts) ≡ false → RowsWhole w n ts → Whole w (fields n ts) k
unfolding hole nodes_of
fields_case w d n ts (a_record m) h f g tag p = subst (λ (j : Name). hole (lean (wrapped (fields n ts) w tag (a_record j) (nodes_of (fields n ts) w (a_record j)))) w p (a_record j) ≡ None) h.0 (record_whole w (inside n d) n ts h.2 f g tag p)
fields_case w d n ts a_license_choice h f g tag p = by h.0
  where
    by : (n ≡ license) ⊎ (n ≡ expression) → hole (lean (wrapped (fields n ts) w tag a_license_choice (nodes_of (fields n ts) w a_license_choice))) w p a_license_choice ≡ None
    by (inl e) = subst (λ (m : Name). RecordWhole w m ts → hole (lean (wrapped (fields m ts) w tag a_license_choice (nodes_of (fields m ts) w a_license_choice))) w p a_license_choice ≡ None) (sym e) (λ x. x (codes "license") p) (record_whole w (inside n d) n ts h.2 f g)
    by (inr e) = subst (λ (m : Name). RecordWhole w m ts → hole (lean (wrapped (fields m ts) w tag a_license_choice (nodes_of (fields m ts) w a_license_choice))) w p a_license_choice ≡ None) (sym e) (λ x. x (codes "expression") p) (record_whole w (inside n d) n ts h.2 f g)
fields_case w d n ts a_license_identifier h f g tag p = by h.0
  where
    by : (n ≡ spdx_id) ⊎ (n ≡ license_name) → hole (lean (wrapped (fields n ts) w tag a_license_identifier (nodes_of (fields n ts) w a_license_identifier))) w p a_license_identifier ≡ None
    by (inl e) = subst (λ (m : Name). RecordWhole w m ts → hole (lean (wrapped (fields m ts) w tag a_license_identifier (nodes_of (fields m ts) w a_license_identifier))) w p a_license_identifier ≡ None) (sym e) (λ x. x (codes "id") p) (record_whole w (inside n d) n ts h.2 f g)
    by (inr e) = subst (λ (m : Name). RecordWhole w m ts → hole (lean (wrapped (fields m ts) w tag a_license_identifier (nodes_of (fields m ts) w a_license_identifier))) w p a_license_identifier ≡ None) (sym e) (λ x. x (codes "name") p) (record_whole w (inside n d) n ts h.2 f g)
fields_case w d n ts a_tools h f g tag p = tools_whole n w ts h.0.0 h.0.1 g tag p
fields_case w d n ts an_entry h f g tag p = entry_none w (lean (wrapped (fields n ts) w tag an_entry (nodes_of (fields n ts) w an_entry))) p
fields_case w d n ts a_signature h f g tag p = signature_none w (lean (wrapped (fields n ts) w tag a_signature (nodes_of (fields n ts) w a_signature))) p
fields_case w d n ts a_bill h f g tag p = subst (λ (m : Name). RecordWhole w m ts → hole (lean (wrapped (fields m ts) w tag a_bill (nodes_of (fields m ts) w a_bill))) w p a_bill ≡ None) (sym h.0) (λ x. x tag p) (record_whole w (inside n d) n ts h.2 f g)
fields_case w d n ts _ h f g tag p = absurd (true≢false h.0)

-- ---- the induction

passed : (b : Bool) (xs : Nodes) (w : SpecVersion) (plan : Plan) → HasNone (lean_nodes xs) w plan → HasNone (lean_nodes (if b then no_nodes else xs)) w plan
passed true xs w plan f = nothing_none w plan
passed false xs w plan f = f

mutual
  unfolding nodes_of has_empty

  pub whole : (w : SpecVersion) (d : Depth) (t : Tree) (k : Kind) → Held w d t k → has_empty t ≡ false → Whole w t k
  whole w d absent k h f = absurd (true≢false h)
  whole w d (text s) k h f = text_whole w s k h
  whole w d (number n) k h f = number_whole w n k h
  whole w d (boolean b) k h f = boolean_whole w b k h
  whole w d (items ts) k h f = items_case w d ts k h (λ j tag plan g i. items_whole w d ts j tag plan g f i)
  whole w d (fields n ts) k h f = fields_case w d n ts k h f (λ plan c i. rows_whole w (inside n d) ts (rows n) plan c h.2 (or_false (any_empty ts (rows n)) (have_empty ts) f).1 i)

  pub items_whole : (w : SpecVersion) (d : Depth) (ts : Trees) (k : Kind) (tag : List ℕ) (plan : Plan) → AllHeld w d ts k → have_empty ts ≡ false → ItemFinds w d plan k tag → HasNone (lean_nodes (items_nodes ts w (each_under tag) k)) w plan
  items_whole w d none k tag plan h f i = nothing_none w plan
  items_whole w d (more t ts) k tag plan h f i =
      let e : (has_empty t ≡ false) × (have_empty ts ≡ false) = or_false (has_empty t) (have_empty ts) f in
      lean_both (if is_passed_over t then no_nodes else lone (wrapped t w tag k (nodes_of t w k))) (items_nodes ts w (each_under tag) k) w plan
      (passed (is_passed_over t) (lone (wrapped t w tag k (nodes_of t w k))) w plan (one_child w plan t k tag (tag_of k t tag) (whole w d t k h.0 e.0) refl (i t h.0)))
      (items_whole w d ts k tag plan h.1 e.1 i)

  pub tree_items : (w : SpecVersion) (d : Depth) (t : Tree) → ItemsWhole w d t
  tree_items w d (fields n s) l plan h f c i = absurd (true≢false h.0)
  tree_items w d (items ts) l plan h f c i = items_whole w d ts (list l).kind (list l).name plan h.1 f (λ t g. subst (λ (q : List ℕ). Found w plan q (list l).kind) (sym (tag_plain (list l).kind t (list l).name c)) i)
  tree_items w d _ l plan h f c i = absurd (true≢false h)

  pub rows_whole : (w : SpecVersion) (d : Depth) (ts : Trees) (rs : List Row) (plan : Plan) → all_clear rs ≡ true → FieldsHeld w d ts rs → have_empty ts ≡ false → RowsFind plan w rs → HasNone (lean_nodes (fields_nodes ts w rs)) w plan
  rows_whole w d none rs plan c h f i = nothing_none w plan
  rows_whole w d (more t ts) [] plan c h f i = absurd (true≢false h)
  rows_whole w d (more t ts) (r ∷ rs) plan c h f i =
      let e : (has_empty t ≡ false) × (have_empty ts ≡ false) = or_false (has_empty t) (have_empty ts) f in
      let g : ((clear_need r.need r.xml && is_clear r.kind r.xml) ≡ true) × (all_clear rs ≡ true) = and_true (clear_need r.need r.xml && is_clear r.kind r.xml) (all_clear rs) c in
      lean_both (row_written r t w) (fields_nodes ts w rs) w plan
      (written_whole w d plan t r g.0 i.0 h.0 e.0 (λ j. whole w d t r.kind j e.0) (tree_items w d t))
      (rows_whole w d ts rs plan g.1 h.1 e.1 i.1)

pub full_has_none : FullHasNone
unfolding hole rows
full_has_none b w h s f e = whole w top (keep w b a_bill) a_bill (held_kept w w top b a_bill h (fits_first w b a_bill f) s) e (codes "bom") 1
