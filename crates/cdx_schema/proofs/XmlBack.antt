-- Reading back the children that a record's rows are written as.
use Rattle.std.specs.Prelude.{◌≡◌, refl, ℕ, suc, ◌+◌, List, [], ◌∷◌, ◌++◌, length, Bool, true, false, not, ◌&&◌, if◌then◌else◌, Some, None, Ok}
use Rattle.std.proofs.Common.{true≢false}
use Rattle.std.specs.Str.{bytes_eq}
use mathlib.Core.Path.{ap, sym, ◌∙◌, subst}
use native.Mathlib.Omega.{arith}
use Rattle.cdx_models.specs.declared.bom.SpecVersion.{SpecVersion}
use Rattle.cdx_models.specs.Versions.{knows}
use Rattle.cdx_models.specs.Trees.{Name, hash, Tree, absent, text, boolean, items, fields, Trees, none, more, one, ◌⧺◌, is_absent, field, with_field}
use Rattle.cdx_schema.specs.Kinds.{Lists, Kind, a_text, a_reference, a_boolean, a_list, a_record, Rule, Spelled, child, filled_child, children, either_child, Row}
use Rattle.cdx_schema.specs.Table.{rows, rule}
use Rattle.cdx_schema.specs.Results.{◌>>=◌}
use Rattle.cdx_schema.specs.Depth.{Depth, inside, name_too_deep}
use Rattle.cdx_schema.specs.Held.{held_kind}
use Rattle.cdx_schema.specs.XmlReading.{xread, nodes_read, node_read, Plan, Child, Place, last, once, all, find_child, row_children, children_from, stored, appended, is_second, plan_of_list, list_of, lacks, name_owed, filled, ended, attributes_read, in_force, content_from, no_content, content_fields, Element, end_of}
use Rattle.cdx_schema.specs.XmlSpelling.{nodes_of, fields_nodes, row_nodes, wrapped, lone, attributes_of}
use Rattle.cdx_schema.proofs.JsonBack.{is_in, distinct, same_itself, or_false, if_true, if_false, not_in_append, apart_first, is_in_first}
use Rattle.cdx_schema.proofs.Groups.{nodes_in_groups, count}
use Rattle.cdx_events.specs.declared.name.OwnedAttribute.{OwnedAttribute}
use Rattle.cdx_events.specs.declared.name.OwnedName.{OwnedName}
use Rattle.cdx_events.specs.declared.name.Namespace.{Namespace}
use Rattle.cdx_events.specs.Nodes.{Node, Nodes, element, no_nodes, node}
use Rattle.cdx_schema.specs.Nodes.{places, places_of}
use Rattle.cdx_schema.proofs.Basics.{append_lists}

-- ---- the child of a name

abbrev pub child_names : Spelled → List (List ℕ)
child_names (child n) = n ∷ []
child_names (filled_child n) = n ∷ []
child_names (children n) = n ∷ []
child_names (either_child m n) = m ∷ n ∷ []
child_names _ = []

abbrev pub all_child_names : List Row → List (List ℕ)
all_child_names [] = []
all_child_names (r ∷ rs) = child_names r.xml ++ all_child_names rs

-- a child of the name that the version knows, and a child of another name
pub finds_first : (w : SpecVersion) (q : List ℕ) (c : Child) (cs : List Child) → bytes_eq q c.name ≡ true → knows c.since w ≡ true → find_child w q (c ∷ cs) ≡ Some c
finds_first w q c cs named known = if_true (bytes_eq q c.name && knows c.since w) _ _ (rw (named, known) refl)

pub passes_first : (w : SpecVersion) (q : List ℕ) (c : Child) (cs : List Child) → bytes_eq q c.name ≡ false → find_child w q (c ∷ cs) ≡ find_child w q cs
passes_first w q c cs other = if_false (bytes_eq q c.name && knows c.since w) _ _ (rw other refl)

pub find_append : (w : SpecVersion) (q : List ℕ) (xs ys : List Child) → find_child w q xs ≡ None → find_child w q (xs ++ ys) ≡ find_child w q ys
find_append w q [] ys h = refl
find_append w q (x ∷ xs) ys h = by (bytes_eq q x.name && knows x.since w) h (find_append w q xs ys)
  where
    by : (b : Bool) → (if b then Some x else find_child w q xs) ≡ None → (find_child w q xs ≡ None → find_child w q (xs ++ ys) ≡ find_child w q ys) → (if b then Some x else find_child w q (xs ++ ys)) ≡ find_child w q ys
    by true e f = grind arith
    by false e f = f e

pub find_none_row : (w : SpecVersion) (q : List ℕ) (i : ℕ) (r : Row) → is_in q (child_names r.xml) ≡ false → find_child w q (row_children i r) ≡ None
find_none_row w q i r h = by r.xml h
  where
    passed : (n : List ℕ) (k : Kind) (place' : Place) (cs : List Child) → bytes_eq q n ≡ false → find_child w q (record { name = n; since = r.since; kind = k; field = i; place = place' } ∷ cs) ≡ find_child w q cs
    passed n k place' cs e = passes_first w q (record { name = n; since = r.since; kind = k; field = i; place = place' }) cs e

    by : (x : Spelled) → is_in q (child_names x) ≡ false → find_child w q (row_children i (record r { xml = x })) ≡ None
    by (child n) e = passed n r.kind last [] (or_false (bytes_eq q n) false e).0
    by (filled_child n) e = passed n r.kind last [] (or_false (bytes_eq q n) false e).0
    by (children n) e = passed n (held_kind r.kind) all [] (or_false (bytes_eq q n) false e).0
    by (either_child m n) e =
        passed m r.kind once (record { name = n; since = r.since; kind = r.kind; field = i; place = once } ∷ []) (or_false (bytes_eq q m) (is_in q (n ∷ [])) e).0
        ∙ passed n r.kind once [] (or_false (bytes_eq q n) false (or_false (bytes_eq q m) (is_in q (n ∷ [])) e).1).0
    by _ e = refl

pub find_none : (w : SpecVersion) (q : List ℕ) (i : ℕ) (rs : List Row) → is_in q (all_child_names rs) ≡ false → find_child w q (children_from i rs) ≡ None
find_none w q i [] h = refl
find_none w q i (r ∷ rs) h =
    let e : (is_in q (child_names r.xml) ≡ false) × (is_in q (all_child_names rs) ≡ false) = not_in_append q (child_names r.xml) (all_child_names rs) h in
    find_append w q (row_children i r) (children_from (suc i) rs) (find_none_row w q i r e.0) ∙ find_none w q (suc i) rs e.1

pub children_append : (i : ℕ) (front rs : List Row) → children_from i (front ++ rs) ≡ children_from i front ++ children_from (i + length front) rs
children_append i [] rs = ap (λ j. children_from j rs) (omega arith)
children_append i (r ∷ front) rs =
    ap (row_children i r ++◌) (children_append (suc i) front rs ∙ ap (λ j. children_from (suc i) front ++ children_from j rs) (omega arith))
    ∙ append_lists (row_children i r) (children_from (suc i) front) (children_from (i + length (r ∷ front)) rs)

-- a name of the first row behind a front that doesn't have it
pub find_row : (w : SpecVersion) (q : List ℕ) (front : List Row) (r : Row) (rs : List Row) (c : Child) → is_in q (all_child_names front) ≡ false
    → ((cs : List Child) → find_child w q (row_children (length front) r ++ cs) ≡ Some c)
    → find_child w q (children_from 0 (front ++ r ∷ rs)) ≡ Some c
find_row w q front r rs c before here =
    ap (find_child w q) (children_append 0 front (r ∷ rs))
    ∙ (find_append w q (children_from 0 front) (children_from (0 + length front) (r ∷ rs)) (find_none w q 0 front before)
    ∙ (ap (λ j. find_child w q (children_from j (r ∷ rs))) zero_plus
    ∙ here (children_from (suc (length front)) rs)))
  where
    zero_plus : 0 + length front ≡ length front
    zero_plus = omega arith

-- ---- fields by their place

pub field_at : (ts us : Trees) (t : Tree) → field (count ts) (ts ⧺ more t us) ≡ t
field_at none us t = refl
field_at (more x ts) us t = field_at ts us t

pub with_field_at : (ts us : Trees) (t u : Tree) → with_field (count ts) u (ts ⧺ more t us) ≡ ts ⧺ more u us
with_field_at none us t u = refl
with_field_at (more x ts) us t u = ap (more x) (with_field_at ts us t u)

-- ---- one child

pub node_step : (plan : Plan) (around : List ℕ) (w : SpecVersion) (d : Depth) (p : ℕ) (n : OwnedName) (as' : List OwnedAttribute) (default : Namespace) (xs : Nodes) (c : Child) (u : Tree) (ts : Trees)
    → find_child w n.local_name plan.children ≡ Some c → is_second c.place (field c.field ts) ≡ false
    → xread (element n as' default xs) w c.kind p d ≡ Ok u
    → nodes_read (lone (element n as' default xs)) plan around w d p ts ≡ Ok (stored c.place c.field u ts)
unfolding xread
node_step plan around w d p n as' default xs c u ts found first read = rw (found, first, read) refl

-- ---- the rows one after the other

-- what a row is written as
abbrev pub row_written : Row → Tree → SpecVersion → Nodes
row_written r t w = if knows r.since w && not (is_absent t) then row_nodes r.xml t w r.kind (nodes_of t w r.kind) else no_nodes

abbrev pub plan_of : Rule → List Row → Plan
plan_of rule' rs = record { rule = rule'; children = children_from 0 rs }

-- What a row is written as makes u of its field c, whatever stands before and behind it.
abbrev pub RowRead : SpecVersion → Depth → Tree → Row → Tree → Tree → Type 0
RowRead w d t r c u = (front rs : List Row) (rule' : Rule) (around : List ℕ) (before_it rest : Trees) (p : ℕ) → count before_it ≡ length front
    → ((q : List ℕ) → is_in q (child_names r.xml) ≡ true → is_in q (all_child_names front) ≡ false)
    → nodes_read (row_written r t w) (plan_of rule' (front ++ r ∷ rs)) around w d p (before_it ⧺ more c rest) ≡ Ok (before_it ⧺ more u rest)

abbrev pub RowsRead : SpecVersion → Depth → Trees → List Row → Trees → Trees → Type 0
RowsRead w d none [] none none = Unit {0}
RowsRead w d (more t ts) (r ∷ rs) (more c cs) (more u us) = RowRead w d t r c u × RowsRead w d ts rs cs us
RowsRead w d _ _ _ _ = true ≡ false

pub append_trees : (x a b : Trees) → x ⧺ (a ⧺ b) ≡ (x ⧺ a) ⧺ b
append_trees none a b = refl
append_trees (more e es) a b = ap (more e) (append_trees es a b)

pub count_more : (before_it : Trees) (u : Tree) → count (before_it ⧺ one u) ≡ suc (count before_it)
count_more none u = refl
count_more (more t ts) u = ap suc (count_more ts u)

pub length_more : (front : List Row) (r : Row) → length (front ++ r ∷ []) ≡ suc (length front)
length_more [] r = refl
length_more (x ∷ xs) r = ap suc (length_more xs r)

pub names_append : (front rs : List Row) → all_child_names (front ++ rs) ≡ all_child_names front ++ all_child_names rs
names_append [] rs = refl
names_append (r ∷ front) rs = ap (child_names r.xml ++◌) (names_append front rs) ∙ append_lists (child_names r.xml) (all_child_names front) (all_child_names rs)

pub rows_read : (w : SpecVersion) (d : Depth) (ts : Trees) (rs : List Row) (cs us : Trees) (front : List Row) (rule' : Rule) (around : List ℕ) (before_it : Trees) (p : ℕ)
    → count before_it ≡ length front → distinct (all_child_names front ++ all_child_names rs) ≡ true → RowsRead w d ts rs cs us
    → nodes_read (fields_nodes ts w rs) (plan_of rule' (front ++ rs)) around w d p (before_it ⧺ cs) ≡ Ok (before_it ⧺ us)
unfolding xread nodes_of
rows_read w d none [] none none front rule' around before_it p same apart' h = refl
rows_read w d (more t ts) (r ∷ rs) (more c cs) (more u us) front rule' around before_it p same apart' h =
    nodes_in_groups (row_written r t w) (fields_nodes ts w rs) (plan_of rule' (front ++ r ∷ rs)) around w d p (before_it ⧺ more c cs)
    ∙ (ap (λ x. x >>= (λ vs. nodes_read (fields_nodes ts w rs) (plan_of rule' (front ++ r ∷ rs)) around w d (p + places_of (row_written r t w)) vs)) (h.0 front rs rule' around before_it cs p same before)
    ∙ (ap (λ xs. nodes_read (fields_nodes ts w rs) (plan_of rule' xs) around w d (p + places_of (row_written r t w)) (before_it ⧺ more u cs)) (append_lists front (r ∷ []) rs)
    ∙ (ap (nodes_read (fields_nodes ts w rs) (plan_of rule' ((front ++ r ∷ []) ++ rs)) around w d (p + places_of (row_written r t w))) (append_trees before_it (one u) cs)
    ∙ (rows_read w d ts rs cs us (front ++ r ∷ []) rule' around (before_it ⧺ one u) (p + places_of (row_written r t w)) more_same later h.1
    ∙ ap Ok (sym (append_trees before_it (one u) us))))))
  where
    before : (q : List ℕ) → is_in q (child_names r.xml) ≡ true → is_in q (all_child_names front) ≡ false
    before q e = apart_first q (all_child_names front) (child_names r.xml ++ all_child_names rs) apart' (is_in_first q (child_names r.xml) (all_child_names rs) e)

    more_same : count (before_it ⧺ one u) ≡ length (front ++ r ∷ [])
    more_same = count_more before_it u ∙ (ap suc same ∙ sym (length_more front r))

    later : distinct (all_child_names (front ++ r ∷ []) ++ all_child_names rs) ≡ true
    later = ap distinct (ap (λ x. x ++ all_child_names rs) (names_append front (r ∷ []) ∙ ap (all_child_names front ++◌) (nothing_more (child_names r.xml))) ∙ sym (append_lists (all_child_names front) (child_names r.xml) (all_child_names rs))) ∙ apart'
      where
        nothing_more : (xs : List (List ℕ)) → xs ++ [] ≡ xs
        nothing_more [] = refl
        nothing_more (y ∷ ys) = ap (y ∷◌) (nothing_more ys)
rows_read w d _ _ _ _ front rule' around before_it p same apart' h = absurd (true≢false h)

-- ---- what a row's nodes make of its field

pub silent_row : (w : SpecVersion) (d : Depth) (t : Tree) (r : Row) (c : Tree) → row_written r t w ≡ no_nodes → RowRead w d t r c c
unfolding xread
silent_row w d t r c silent front rs rule' around ds rest p same apart' = ap (λ xs. nodes_read xs (plan_of rule' (front ++ r ∷ rs)) around w d p (ds ⧺ more c rest)) silent

-- A kind's element is read as u, under whatever name it is written.
abbrev pub IsXRead : SpecVersion → Depth → Tree → Kind → Tree → Type 0
IsXRead w d t k u = (tag : List ℕ) (p : ℕ) → xread (wrapped t w tag k (nodes_of t w k)) w k p d ≡ Ok u

-- ---- children that are appended

abbrev pub gathered : Trees → Tree
gathered none = absent
gathered (more t ts) = items (more t ts)

pub appended_is : (g : Trees) (u : Tree) → appended (gathered g) u ≡ gathered (g ⧺ one u)
appended_is none u = refl
appended_is (more t ts) u = refl

-- A node is read by a child that appends, as u.
abbrev pub SetsItem : Plan → SpecVersion → Depth → ℕ → Node → Tree → Type 0
SetsItem plan w d i (element n as' default xs) u = (c : Child) × (find_child w n.local_name plan.children ≡ Some c) × (c.field ≡ i) × (c.place ≡ all) × ((p : ℕ) → xread (element n as' default xs) w c.kind p d ≡ Ok u)
SetsItem plan w d i _ u = true ≡ false

abbrev pub SetItems : Plan → SpecVersion → Depth → ℕ → Nodes → Trees → Type 0
SetItems plan w d i no_nodes none = Unit {0}
SetItems plan w d i (node x xs) (more u us) = SetsItem plan w d i x u × SetItems plan w d i xs us
SetItems plan w d i _ _ = true ≡ false

pub gather_step : (plan : Plan) (around : List ℕ) (w : SpecVersion) (d : Depth) (p : ℕ) (x : Node) (front back g : Trees) (u : Tree) → SetsItem plan w d (count front) x u
    → node_read x (xread x) plan around w d p (front ⧺ more (gathered g) back) ≡ Ok (front ⧺ more (gathered (g ⧺ one u)) back)
unfolding xread
gather_step plan around w d p (element n as' default xs) front back g u h =
    rw (h.1, h.3, h.2, h.4 p) (ap Ok (
    ap (λ x. with_field (count front) (appended x u) (front ⧺ more (gathered g) back)) (field_at front back (gathered g))
    ∙ (ap (λ x. with_field (count front) x (front ⧺ more (gathered g) back)) (appended_is g u)
    ∙ with_field_at front back (gathered g) (gathered (g ⧺ one u)))))
gather_step plan around w d p _ front back g u h = absurd (true≢false h)

-- Nodes that append, one after the other.
pub gather : (plan : Plan) (around : List ℕ) (w : SpecVersion) (d : Depth) (p : ℕ) (xs : Nodes) (us : Trees) (front back g : Trees) → SetItems plan w d (count front) xs us
    → nodes_read xs plan around w d p (front ⧺ more (gathered g) back) ≡ Ok (front ⧺ more (gathered (g ⧺ us)) back)
unfolding xread
gather plan around w d p no_nodes none front back g h = ap (λ x. Ok (front ⧺ more (gathered x) back)) (sym (nothing_after g))
  where
    nothing_after : (x : Trees) → x ⧺ none ≡ x
    nothing_after none = refl
    nothing_after (more t ts) = ap (more t) (nothing_after ts)
gather plan around w d p (node x xs) (more u us) front back g h =
    ap (λ r. r >>= (λ vs. nodes_read xs plan around w d (p + places x) vs)) (gather_step plan around w d p x front back g u h.0)
    ∙ (gather plan around w d (p + places x) xs us front back (g ⧺ one u) h.1
    ∙ ap (λ y. Ok (front ⧺ more (gathered y) back)) (sym (append_trees g (one u) us)))
gather plan around w d p _ _ front back g h = absurd (true≢false h)

-- ---- lists

pub list_is : (g : Trees) → list_of (gathered g) ≡ items g
list_is none = refl
list_is (more t ts) = refl

-- A list is read back where its items are.
pub list_xread : (w : SpecVersion) (d : Depth) (l : Lists) (ts us : Trees) → SetItems (plan_of_list l) w d 0 (nodes_of (items ts) w (a_list l)) us
    → IsXRead w d (items ts) (a_list l) (items us)
unfolding xread
list_xread w d l ts us h tag p =
    ap (λ x. x >>= (λ vs. Ok (list_of (field 0 vs)))) (gather (plan_of_list l) tag w d (suc p) (nodes_of (items ts) w (a_list l)) us none none none h)
    ∙ ap Ok (list_is us)

-- ---- the element's end

abbrev pub Ends : SpecVersion → Trees → List Row → Trees → Type 0
Ends w none [] none = Unit {0}
Ends w (more u us) (r ∷ rs) (more v vs) = (lacks (name_owed r.xml) r u w ≡ false) × (filled r u ≡ v) × Ends w us rs vs
Ends w _ _ _ = true ≡ false

pub ended_is : (w : SpecVersion) (us : Trees) (rs : List Row) (vs : Trees) (around : List ℕ) (p : ℕ) → Ends w us rs vs → ended rs us w around p ≡ Ok vs
unfolding ended
ended_is w none [] none around p h = refl
ended_is w (more u us) (r ∷ rs) (more v vs) around p h =
    if_false (lacks (name_owed r.xml) r u w) _ _ h.0
    ∙ (ap (λ x. x >>= (λ ys. Ok (more (filled r u) ys))) (ended_is w us rs vs around p h.2)
    ∙ ap (λ x. Ok (more x vs)) h.1)
ended_is w _ _ _ around p h = absurd (true≢false h)

-- ---- records without content

pub record_xread : (w : SpecVersion) (d : Depth) (n : Name) (ts cs us vs : Trees) → name_too_deep n d ≡ false → content_from 0 (rows n) ≡ no_content
    → distinct (all_child_names (rows n)) ≡ true
    → ((around : List ℕ) (p : ℕ) → attributes_read (rows n) (in_force n (attributes_of (fields n ts) w (a_record n))) w around p ≡ Ok cs)
    → RowsRead w (inside n d) ts (rows n) cs us → Ends w us (rows n) vs
    → IsXRead w d (fields n ts) (a_record n) (fields n vs)
unfolding xread nodes_of
record_xread w d n ts cs us vs deep plain names' atts reads ends tag p =
    if_false (name_too_deep n d) _ _ deep
    ∙ (ap (λ x. (x >>= (λ xs. content_fields (content_from 0 (rows n)) E n xs w (inside n d))) >>= (λ ys. ended (rows n) ys w tag (end_of E) >>= (λ zs. Ok (fields n zs)))) (atts tag p)
    ∙ (ap (λ c. content_fields c E n cs w (inside n d) >>= (λ ys. ended (rows n) ys w tag (end_of E) >>= (λ zs. Ok (fields n zs)))) plain
    ∙ (ap (λ x. x >>= (λ ys. ended (rows n) ys w tag (end_of E) >>= (λ zs. Ok (fields n zs)))) (rows_read w (inside n d) ts (rows n) cs us [] (rule n) tag none (suc p) refl names' reads)
    ∙ ap (λ x. x >>= (λ zs. Ok (fields n zs))) (ended_is w us (rows n) vs tag (end_of E) ends))))
  where
    E : Element
    E = record { name = tag; attributes = attributes_of (fields n ts) w (a_record n); namespace = None; nodes = nodes_of (fields n ts) w (a_record n); start = p; read = λ plan v e xs. nodes_read (nodes_of (fields n ts) w (a_record n)) plan tag v e (suc p) xs }

-- ---- records that hold one text

pub text_xread : (w : SpecVersion) (d : Depth) (s : List ℕ) → IsXRead w d (text s) a_text (text s)
unfolding xread nodes_of
text_xread w d s tag p = refl

pub reference_xread : (w : SpecVersion) (d : Depth) (s : List ℕ) → IsXRead w d (text s) a_reference (text s)
unfolding xread nodes_of
reference_xread w d s tag p = refl

pub boolean_xread : (w : SpecVersion) (d : Depth) (b : Bool) → IsXRead w d (boolean b) a_boolean (boolean b)
unfolding xread nodes_of
boolean_xread w d true tag p = refl
boolean_xread w d false tag p = refl

-- ---- the table: no two children of a record have one name

pub child_names_distinct : (n : Name) → distinct (all_child_names (rows n)) ≡ true
unfolding rows
child_names_distinct hash = refl
child_names_distinct _ = refl

-- ---- the children of a row

pub items_row : (w : SpecVersion) (d : Depth) (ts us : Trees) (r : Row) (name : List ℕ) → r.xml ≡ children name → knows r.since w ≡ true
    → ((plan : Plan) (i : ℕ) → find_child w name plan.children ≡ Some (record { name = name; since = r.since; kind = held_kind r.kind; field = i; place = all }) → SetItems plan w d i (nodes_of (items ts) w r.kind) us)
    → RowRead w d (items ts) r absent (gathered us)
unfolding xread nodes_of
items_row w d ts us r name spelled known sets front rs rule' around ds rest p same apart' =
    ap (λ xs. nodes_read xs (plan_of rule' (front ++ r ∷ rs)) around w d p (ds ⧺ more absent rest))
    (if_true (knows r.since w && true) _ _ (rw known refl) ∙ ap (λ x. row_nodes x (items ts) w r.kind (nodes_of (items ts) w r.kind)) spelled)
    ∙ gather (plan_of rule' (front ++ r ∷ rs)) around w d p (nodes_of (items ts) w r.kind) us ds rest none
    (subst (λ i. SetItems (plan_of rule' (front ++ r ∷ rs)) w d i (nodes_of (items ts) w r.kind) us) (sym same)
    (sets (plan_of rule' (front ++ r ∷ rs)) (length front)
    (find_row w name front r rs _ (apart' name (subst (λ (x : Spelled). is_in name (child_names x) ≡ true) (sym spelled) (rw (same_itself name) refl)))
    (λ cs. subst (λ (x : Spelled). find_child w name (row_children (length front) (record r { xml = x }) ++ cs) ≡ Some (record { name = name; since = r.since; kind = held_kind r.kind; field = length front; place = all })) (sym spelled) (finds_first w name _ cs (same_itself name) known)))))
