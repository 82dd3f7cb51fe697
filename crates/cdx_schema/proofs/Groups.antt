-- Rows in groups, and one node more.
use Rattle.std.specs.Prelude.{◌≡◌, refl, ℕ, suc, ◌+◌, List, [], ◌∷◌, ◌++◌, length, Bool, true, false, Result, Ok, Err, Option, Some, None, if◌then◌else◌}
use Rattle.std.proofs.Common.{true≢false}
use Rattle.std.specs.Str.{bytes_eq}
use mathlib.Core.Path.{ap, sym, ◌∙◌}
use native.Mathlib.Omega.{arith}
use Rattle.serde_json.specs.Data.{Data, Members, no_members, put}
use Rattle.serde_json.specs.Data as json
use Rattle.serde_json.specs.Find.{get_member}
use Rattle.serde_json.proofs.Views.{get_member-put, get_member-put_other}
use Rattle.cdx_models.specs.declared.bom.SpecVersion.{SpecVersion}
use Rattle.cdx_models.specs.declared.bom.SpecVersion.TheVariants.{V1_3, V1_4, V1_5}
use Rattle.cdx_models.specs.Versions.{knows}
use Rattle.cdx_models.specs.Trees.{Name, Tree, absent, fields, Trees, none, more, one, ◌⧺◌}
use Rattle.cdx_schema.specs.Kinds.{Kind, Row, Member, member, merged}
use Rattle.cdx_schema.specs.Depth.{Depth, inside, name_too_deep}
use Rattle.cdx_schema.specs.Table.{rows}
use Rattle.cdx_schema.specs.Results.{◌>>=◌}
use Rattle.cdx_schema.specs.Faults.{JsonFault, here, too_deep, wrong_kind, nested}
use Rattle.cdx_schema.specs.JsonReading.{jread, seen, rows_read, row_read, own_read, or_else, Object}
use Rattle.cdx_schema.specs.JsonSpelling.{members_spelled, own_members, set_member, is_spelled, jspell}
use Rattle.cdx_schema.specs.Keeping.{kept, rows_kept}
use Rattle.cdx_schema.specs.XmlReading.{xread, nodes_read, node_read, attributes_read, Plan, plan_of_list, record_so_far, content_from, no_content, content_fields, record_plan, in_force}
use Rattle.cdx_schema.specs.XmlSpelling.{nodes_of, fields_nodes, attributes_in, lone}
use Rattle.cdx_schema.specs.RowLaws.{AreFor, ReadsRows, ReadsGroups, SpellsRows, SpellsGroups, SetsMembers, WritesRows, WritesGroups, KeepsRows, KeepsGroups, element_at, LastStepGivesItems, ListOneMore, ReadsRecord, RecordOneMore}
use Rattle.cdx_events.specs.declared.name.OwnedName.{OwnedName}
use Rattle.cdx_events.specs.declared.name.OwnedAttribute.{OwnedAttribute}
use Rattle.cdx_events.specs.declared.name.Namespace.{Namespace}
use Rattle.cdx_events.specs.Nodes.{Node, Nodes, no_nodes, node}
use Rattle.cdx_schema.specs.Nodes.{places, places_of, ◌⊕◌}
use Rattle.cdx_schema.proofs.JsonBack.{same_name, other_name}
use Rattle.cdx_schema.proofs.Basics.{append_lists}

-- how many fields
abbrev pub count : Trees → ℕ
count none = 0
count (more t ts) = suc (count ts)

suc_inj : {m n : ℕ} → suc m ≡ suc n → m ≡ n
suc_inj h = omega arith

-- Fields that are read in two parts.
parts : {F : Type 0} (x : Result Tree F) (a b c : Result Trees F) → c ≡ (a >>= λ ts. b >>= λ us. Ok (ts ⧺ us))
    → (x >>= λ t. c >>= λ ts. Ok (more t ts)) ≡ ((x >>= λ t. a >>= λ ts. Ok (more t ts)) >>= λ ts. b >>= λ us. Ok (ts ⧺ us))
parts (Err e) a b c h = refl
parts (Ok t) (Err e) b c h = rw h refl
parts (Ok t) (Ok ts) (Err e) c h = rw h refl
parts (Ok t) (Ok ts) (Ok us) c h = rw h refl

all_of : {F : Type 0} (b : Result Trees F) → b ≡ (b >>= λ us. Ok us)
all_of (Ok us) = refl
all_of (Err e) = refl

-- The rows of a front and a back are read as the front, and then the back.
pub rows_in_groups : (o : Object) (own : Kind → Result Tree JsonFault) (rs ss : List Row) (v : SpecVersion) (d : Depth)
    → rows_read o own (rs ++ ss) v d ≡ (rows_read o own rs v d >>= λ ts. rows_read o own ss v d >>= λ us. Ok (ts ⧺ us))
unfolding rows_read
rows_in_groups o own [] ss v d = all_of (rows_read o own ss v d)
rows_in_groups o own (r ∷ rs) ss v d = parts (row_read o own r v d) (rows_read o own rs v d) (rows_read o own ss v d) (rows_read o own (rs ++ ss) v d) (rows_in_groups o own rs ss v d)

-- The members of a front and a back are set one after the other.
pub members_in_groups : (ts us : Trees) (w : SpecVersion) (rs ss : List Row) (ms : Members) → count ts ≡ length rs
    → members_spelled (ts ⧺ us) w (rs ++ ss) ms ≡ members_spelled us w ss (members_spelled ts w rs ms)
unfolding jspell
members_in_groups none us w [] ss ms h = refl
members_in_groups none us w (r ∷ rs) ss ms h = grind arith
members_in_groups (more t ts) us w [] ss ms h = grind arith
members_in_groups (more t ts) us w (r ∷ rs) ss ms h = members_in_groups ts us w rs ss _ (suc_inj h)

pub kept_in_groups : (w l : SpecVersion) (ts us : Trees) (rs ss : List Row) → count ts ≡ length rs
    → rows_kept w l (ts ⧺ us) (rs ++ ss) ≡ rows_kept w l ts rs ⧺ rows_kept w l us ss
unfolding kept
kept_in_groups w l none us [] ss h = refl
kept_in_groups w l none us (r ∷ rs) ss h = grind arith
kept_in_groups w l (more t ts) us [] ss h = grind arith
kept_in_groups w l (more t ts) us (r ∷ rs) ss h = ap (more (if knows r.since w then kept w l t r.kind else absent)) (kept_in_groups w l ts us rs ss (suc_inj h))

-- The attributes and the children of a front and a back stand one after the other.
pub attributes_in_groups : (ts us : Trees) (rs ss : List Row) (w : SpecVersion) → count ts ≡ length rs
    → attributes_in (ts ⧺ us) (rs ++ ss) w ≡ attributes_in ts rs w ++ attributes_in us ss w
attributes_in_groups none us [] ss w h = refl
attributes_in_groups none us (r ∷ rs) ss w h = grind arith
attributes_in_groups (more t ts) us [] ss w h = grind arith
attributes_in_groups (more t ts) us (r ∷ rs) ss w h = rw (attributes_in_groups ts us rs ss w (suc_inj h)) (append_lists _ (attributes_in ts rs w) (attributes_in us ss w))

pub append_nodes : (x a b : Nodes) → x ⊕ (a ⊕ b) ≡ (x ⊕ a) ⊕ b
append_nodes no_nodes a b = refl
append_nodes (node e es) a b = ap (node e) (append_nodes es a b)

pub children_in_groups : (ts us : Trees) (w : SpecVersion) (rs ss : List Row) → count ts ≡ length rs
    → fields_nodes (ts ⧺ us) w (rs ++ ss) ≡ fields_nodes ts w rs ⊕ fields_nodes us w ss
unfolding nodes_of
children_in_groups none us w [] ss h = refl
children_in_groups none us w (r ∷ rs) ss h = grind arith
children_in_groups (more t ts) us w [] ss h = grind arith
children_in_groups (more t ts) us w (r ∷ rs) ss h = rw (children_in_groups ts us w rs ss (suc_inj h)) (append_nodes _ (fields_nodes ts w rs) (fields_nodes us w ss))

-- ---- nodes one after the other

pub after : {A B C F : Type 0} (x : Result A F) (f : A → Result B F) (g : B → Result C F) → (x >>= λ a. f a >>= g) ≡ ((x >>= f) >>= g)
after (Ok a) f g = refl
after (Err e) f g = refl

pub under_ok : {A B F : Type 0} (x : Result A F) (f g : A → Result B F) → ((a : A) → f a ≡ g a) → (x >>= f) ≡ (x >>= g)
under_ok (Ok a) f g h = h a
under_ok (Err e) f g h = refl

pub nodes_in_groups : (xs ys : Nodes) (plan : Plan) (around : List ℕ) (v : SpecVersion) (d : Depth) (p : ℕ) (ts : Trees)
    → nodes_read (xs ⊕ ys) plan around v d p ts ≡ (nodes_read xs plan around v d p ts >>= λ us. nodes_read ys plan around v d (p + places_of xs) us)
unfolding xread
nodes_in_groups no_nodes ys plan around v d p ts = ap (λ q. nodes_read ys plan around v d q ts) (omega arith)
nodes_in_groups (node x xs) ys plan around v d p ts =
    under_ok (node_read x (xread x) plan around v d p ts) _ _ (λ us. nodes_in_groups xs ys plan around v d (p + places x) us)
    ∙ (under_ok (node_read x (xread x) plan around v d p ts) _ _ (λ us. under_ok (nodes_read xs plan around v d (p + places x) us) _ _ (λ vs. ap (λ q. nodes_read ys plan around v d q vs) (omega arith)))
    ∙ after (node_read x (xread x) plan around v d p ts) (λ us. nodes_read xs plan around v d (p + places x) us) (λ vs. nodes_read ys plan around v d (p + places_of (node x xs)) vs))

step_of : {F : Type 0} (x : Result Trees F) → (x >>= λ us. Ok us) ≡ x
step_of (Ok us) = refl
step_of (Err e) = refl

-- One node more at the end of an element is one step more.
pub one_node_more : (xs : Nodes) (m : Node) (plan : Plan) (around : List ℕ) (v : SpecVersion) (d : Depth) (p : ℕ) (ts : Trees)
    → nodes_read (xs ⊕ lone m) plan around v d p ts ≡ (nodes_read xs plan around v d p ts >>= λ us. node_read m (xread m) plan around v d (p + places_of xs) us)
unfolding xread
one_node_more xs m plan around v d p ts = nodes_in_groups xs (lone m) plan around v d p ts ∙ under_ok (nodes_read xs plan around v d p ts) _ _ (λ us. step_of (node_read m (xread m) plan around v d (p + places_of xs) us))

-- ---- the statements

for_count : (ts : Trees) (rs : List Row) → AreFor ts rs → count ts ≡ length rs
for_count none [] h = refl
for_count (more t ts) (r ∷ rs) h = ap suc (for_count ts rs h)
for_count none (r ∷ rs) h = absurd (true≢false h)
for_count (more t ts) [] h = absurd (true≢false h)

-- a fault that comes first
first_fault : {A B F : Type 0} (b : Bool) (e : Result A F) (r : Result A F) (f : A → Result B F) (g : F) → e ≡ Err g → (if b then Err g else (r >>= f)) ≡ ((if b then e else r) >>= f)
first_fault true e r f g h = ap (λ z. z >>= f) (sym h)
first_fault false e r f g h = refl

pub reads_rows : ReadsRows
unfolding jread
reads_rows n json.null v d = first_fault (name_too_deep n d) (here too_deep) (here wrong_kind) (λ ts. Ok (fields n ts)) _ refl
reads_rows n (json.boolean b) v d = first_fault (name_too_deep n d) (here too_deep) (here wrong_kind) (λ ts. Ok (fields n ts)) _ refl
reads_rows n (json.number m) v d = first_fault (name_too_deep n d) (here too_deep) (here wrong_kind) (λ ts. Ok (fields n ts)) _ refl
reads_rows n (json.string s) v d = first_fault (name_too_deep n d) (here too_deep) (here wrong_kind) (λ ts. Ok (fields n ts)) _ refl
reads_rows n (json.array xs) v d = first_fault (name_too_deep n d) (here too_deep) (here wrong_kind) (λ ts. Ok (fields n ts)) _ refl
reads_rows n (json.object ms) v d = first_fault (name_too_deep n d) (here too_deep) (rows_read (seen ms) (own_read (seen ms) v (inside n d)) (rows n) v (inside n d)) (λ ts. Ok (fields n ts)) _ refl

-- Where a front and a back are read, or one fault comes before both.
deep_groups : {F : Type 0} (b : Bool) (g : F) (a c r : Result Trees F) → r ≡ (a >>= λ ts. c >>= λ us. Ok (ts ⧺ us))
    → (if b then Err g else r) ≡ ((if b then Err g else a) >>= λ ts. (if b then Err g else c) >>= λ us. Ok (ts ⧺ us))
deep_groups true g a c r h = refl
deep_groups false g a c r h = h

pub reads_groups : ReadsGroups
reads_groups n front back x v d = deep_groups (name_too_deep n d) _ (of_value front x) (of_value back x) (of_value (front ++ back) x) (by x)
  where
    of_value : List Row → Data → Result Trees JsonFault
    of_value rs (json.object ms) = rows_read (seen ms) (own_read (seen ms) v (inside n d)) rs v (inside n d)
    of_value rs _ = here wrong_kind

    by : (y : Data) → of_value (front ++ back) y ≡ (of_value front y >>= λ ts. of_value back y >>= λ us. Ok (ts ⧺ us))
    by json.null = refl
    by (json.boolean b) = refl
    by (json.number m) = refl
    by (json.string s) = refl
    by (json.array xs) = refl
    by (json.object ms) = rows_in_groups (seen ms) (own_read (seen ms) v (inside n d)) front back v (inside n d)

pub spells_rows : SpellsRows
unfolding jspell
spells_rows n ts w = refl

pub spells_groups : SpellsGroups
spells_groups front back ts us w ms h = members_in_groups ts us w front back ms (for_count ts front h)

or_else_again : {A : Type 0} (a b c : Option A) → or_else a (or_else b c) ≡ or_else (or_else a b) c
or_else_again (Some x) b c = refl
or_else_again None b c = refl

-- one member that is put
put_or : (q n : List ℕ) (x : Data) (ms : Members) → get_member q (put n x ms) ≡ or_else (get_member q (put n x no_members)) (get_member q ms)
put_or q n x ms = by (bytes_eq q n) refl
  where
    by : (b : Bool) → bytes_eq q n ≡ b → get_member q (put n x ms) ≡ or_else (get_member q (put n x no_members)) (get_member q ms)
    by true e = rw (same_name q n e) (get_member-put n x ms ∙ ap (λ o. or_else o (get_member n ms)) (sym (get_member-put n x no_members)))
    by false e = get_member-put_other q n x ms (other_name q n e) ∙ ap (λ o. or_else o (get_member q ms)) (sym (get_member-put_other q n x no_members (other_name q n e)))

set_or : (b : Bool) (j : Member) (x : Data) (own : Members → Members) (q : List ℕ) (ms : Members) → get_member q (own ms) ≡ or_else (get_member q (own no_members)) (get_member q ms)
    → get_member q (if b then set_member j x own ms else ms) ≡ or_else (get_member q (if b then set_member j x own no_members else no_members)) (get_member q ms)
set_or false j x own q ms h = refl
set_or true (member n) x own q ms h = put_or q n x ms
set_or true merged x own q ms h = h

mutual
  unfolding jspell

  pub sets_members : SetsMembers
  sets_members rs none w ms q = refl
  sets_members [] (more t ts) w ms q = refl
  sets_members (r ∷ rs) (more t ts) w ms q =
      sets_members rs ts w (if is_spelled r t w then set_member r.json (jspell t w r.kind) (own_members t w) ms else ms) q
      ∙ (ap (or_else (get_member q (members_spelled ts w rs no_members))) (set_or (is_spelled r t w) r.json (jspell t w r.kind) (own_members t w) q ms (own_or t w ms q))
      ∙ (or_else_again (get_member q (members_spelled ts w rs no_members)) (get_member q (if is_spelled r t w then set_member r.json (jspell t w r.kind) (own_members t w) no_members else no_members)) (get_member q ms)
      ∙ ap (λ o. or_else o (get_member q ms)) (sym (sets_members rs ts w (if is_spelled r t w then set_member r.json (jspell t w r.kind) (own_members t w) no_members else no_members) q))))

  own_or : (t : Tree) (w : SpecVersion) (ms : Members) (q : List ℕ) → get_member q (own_members t w ms) ≡ or_else (get_member q (own_members t w no_members)) (get_member q ms)
  own_or (fields n ts) w ms q = sets_members (rows n) ts w ms q
  own_or _ w ms q = refl

pub writes_rows : WritesRows
unfolding nodes_of
writes_rows n ts w tag = refl

pub writes_groups : WritesGroups
writes_groups front back ts us w h = (attributes_in_groups ts us front back w (for_count ts front h), children_in_groups ts us w front back (for_count ts front h))

pub keeps_rows : KeepsRows
unfolding kept
keeps_rows n ts V1_3 = refl
keeps_rows n ts V1_4 = refl
keeps_rows n ts V1_5 = refl

pub keeps_groups : KeepsGroups
keeps_groups front back ts us w l h = kept_in_groups w l ts us front back (for_count ts front h)

-- ---- one node more, on elements

pub reads_list : LastStepGivesItems
unfolding xread
reads_list n as' space xs l v p d = refl

pub list_one_more : ListOneMore
list_one_more n as' space xs m l v p d = one_node_more xs m (plan_of_list l) n.local_name v d (suc p) (one absent)

pub reads_record : ReadsRecord
unfolding xread
reads_record n as' space xs k v p d = first_fault (name_too_deep k d) (Err (nested p)) (record_so_far (element_at n as' space xs p) k v (inside k d)) _ (nested p) refl

-- A record without a content row, with one node more as its last: what it was before, and then that node.
record_more : (n : OwnedName) (as' : List OwnedAttribute) (space : Namespace) (xs : Nodes) (m : Node) (k : Name) (v : SpecVersion) (p : ℕ) (d : Depth) → content_from 0 (rows k) ≡ no_content
    → record_so_far (element_at n as' space (xs ⊕ lone m) p) k v d
    ≡ (record_so_far (element_at n as' space xs p) k v d >>= λ us. node_read m (xread m) (record_plan k) n.local_name v d (suc p + places_of xs) us)
record_more n as' space xs m k v p d plain =
    ap (λ c. attributes_read (rows k) (in_force k as') v n.local_name p >>= (λ ts. content_fields c (element_at n as' space (xs ⊕ lone m) p) k ts v d)) plain
    ∙ (under_ok (attributes_read (rows k) (in_force k as') v n.local_name p) _ _ (λ ts. one_node_more xs m (record_plan k) n.local_name v d (suc p) ts)
    ∙ (after (attributes_read (rows k) (in_force k as') v n.local_name p) (λ ts. nodes_read xs (record_plan k) n.local_name v d (suc p) ts) (λ us. node_read m (xread m) (record_plan k) n.local_name v d (suc p + places_of xs) us)
    ∙ ap (λ c. (attributes_read (rows k) (in_force k as') v n.local_name p >>= (λ ts. content_fields c (element_at n as' space xs p) k ts v d)) >>= (λ us. node_read m (xread m) (record_plan k) n.local_name v d (suc p + places_of xs) us)) (sym plain)))

deep_more : {F : Type 0} (b : Bool) (g : F) (a c : Result Trees F) (f : Trees → Result Trees F) → c ≡ (a >>= f) → (if b then Err g else c) ≡ ((if b then Err g else a) >>= f)
deep_more true g a c f h = refl
deep_more false g a c f h = h

pub record_one_more : RecordOneMore
record_one_more n as' space xs m k v p d plain = deep_more (name_too_deep k d) (nested p) (record_so_far (element_at n as' space xs p) k v (inside k d)) (record_so_far (element_at n as' space (xs ⊕ lone m) p) k v (inside k d)) _ (record_more n as' space xs m k v p (inside k d) plain)
