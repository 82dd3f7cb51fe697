-- Where each attached text, license id and license name stands in the spelling without empty texts, none is empty.
use Rattle.std.specs.Prelude.{◌≡◌, refl, ℕ, suc, ◌+◌, List, [], ◌∷◌, Bool, true, false, not, ◌&&◌, ◌||◌, if◌then◌else◌, ◌⊎◌, Option, Some, None, codes}
use Rattle.std.proofs.Common.{true≢false, inl, inr}
use Rattle.std.specs.Str.{bytes_eq}
use mathlib.Core.Path.{ap, sym, ◌∙◌, subst}
use Rattle.cdx_models.specs.declared.bom.SpecVersion.{SpecVersion}
use Rattle.cdx_models.specs.declared.bom.SpecVersion.TheVariants.{V1_5}
use Rattle.cdx_models.specs.Versions.{knows}
use Rattle.cdx_models.specs.Trees.{Name, hash, property, attached_text, contact, license, expression, spdx_id, license_name, tool, copyright, classification, service_data, tools_object, signer, signers, chain, Tree, absent, text, number, boolean, items, fields, Trees, none, more, one, is_absent}
use Rattle.cdx_schema.specs.Kinds.{Lists, Kind, a_text, a_boolean, a_number, a_version, a_list, a_record, a_reference, a_license_choice, a_license_identifier, a_tools, a_data, an_entry, a_signature, a_bill, signer_list, chain_list, Spelled, attribute, attribute_or, content, one_text, as_cdata, child, filled_child, children, either_child, the_version, Need, optional, required, required_first, else_empty, Row}
use Rattle.cdx_schema.specs.Table.{rows, list}
use Rattle.cdx_models.specs.Entries.{is_flow}
use Rattle.cdx_schema.specs.Depth.{Depth, inside}
use Rattle.cdx_schema.specs.Held.{held_kind}
use Rattle.cdx_models.specs.declared.errors.XmlReadError.{XmlReadError}
use Rattle.cdx_schema.specs.Trips.{is_hollow, is_passed_over}
use Rattle.cdx_schema.specs.XmlReading.{Plan, find_child, record_plan, plan_of_list, tools_plan, content_from}
use Rattle.cdx_schema.specs.XmlSpelling.{nodes_of, items_nodes, fields_nodes, row_nodes, wrapped, lone, tag_of, each_under}
use Rattle.cdx_events.specs.EmptyTexts.{lean, lean_nodes}
use Rattle.cdx_schema.specs.Dropped.{earlier, record_hole, child_hole, node_hole, hole, holes, has_empty, have_empty, any_empty}
use Rattle.cdx_schema.proofs.JsonBack.{if_true, and_true, same_name, Held, AllHeld, FieldsHeld, RowHeld}
use Rattle.cdx_schema.proofs.XmlBack.{row_written}
use Rattle.cdx_schema.proofs.XmlLaw.{is_plain, tag_plain, optional_text}
use Rattle.cdx_schema.proofs.JsonBack.{one_text_of}
use Rattle.cdx_schema.proofs.HeldKept.{held_kept, fits_first}
use Rattle.cdx_schema.specs.Membership.{IsListKind}
use Rattle.cdx_schema.specs.Keeping.{keep}
use Rattle.cdx_schema.specs.Depth.{top}
use Rattle.cdx_schema.specs.JsonSpelling.{is_written}
use Rattle.cdx_schema.specs.Table.{row, at}
use Rattle.cdx_schema.specs.Trips.{is_child, no_child}
use Rattle.cdx_schema.specs.Dropped.{is_one_text, is_empty_text, DropsTexts}
use Rattle.cdx_schema.proofs.XmlLaw.{absent_is}
use Rattle.cdx_schema.proofs.DroppedLaw.{EmptyHasOne, drops_texts}
use Rattle.cdx_schema.proofs.DroppedFull.{both_none, lean_append, Found, RowFinds, RowsFind, record_finds, is_clear, clear_list, clear_need, held_or, one_row, ItemFinds, list_finds, tool_finds, tools_find, full_has_none}
use Rattle.cdx_events.specs.Nodes.{Node, Nodes, no_nodes, node}
use Rattle.cdx_schema.specs.Nodes.{places, ◌⊕◌}
use Rattle.cdx_schema.proofs.Basics.{neither}

-- ---- trees without texts that have to be there

abbrev KindSolid : SpecVersion → Kind → Type 0
KindSolid w k = (d : Depth) (t : Tree) → Held w d t k → has_empty t ≡ false

abbrev is_bare : Kind → Bool
is_bare a_text = true
is_bare a_number = true
is_bare a_boolean = true
is_bare a_version = true
is_bare a_reference = true
is_bare _ = false

bare_solid : (w : SpecVersion) (k : Kind) → is_bare k ≡ true → KindSolid w k
unfolding has_empty
bare_solid w k e d (items ts) h = by k e h.0
  where
    by : (j : Kind) → is_bare j ≡ true → IsListKind j → have_empty ts ≡ false
    by a_text e h = absurd (true≢false h)
    by a_number e h = absurd (true≢false h)
    by a_boolean e h = absurd (true≢false h)
    by a_version e h = absurd (true≢false h)
    by a_reference e h = absurd (true≢false h)
    by _ e h = absurd (true≢false (sym e))
bare_solid w k e d (fields n ts) h = by k e h.0
  where
    by : (j : Kind) → is_bare j ≡ true → Rattle.cdx_schema.proofs.JsonBack.IsRecordHeld w j n ts → has_empty (fields n ts) ≡ false
    by a_text e h = absurd (true≢false h)
    by a_number e h = absurd (true≢false h)
    by a_boolean e h = absurd (true≢false h)
    by a_version e h = absurd (true≢false h)
    by a_reference e h = absurd (true≢false h)
    by _ e h = absurd (true≢false (sym e))
bare_solid w k e d _ h = refl

absent_solid : (t : Tree) → is_absent t ≡ true → has_empty t ≡ false
unfolding has_empty
absent_solid t h = ap has_empty (absent_is t h)

row_solid : (w : SpecVersion) (d : Depth) (t : Tree) (r : Row) → RowHeld w d t r → (Held w d t r.kind → has_empty t ≡ false) → has_empty t ≡ false
unfolding has_empty
row_solid w d t r (inl h) f = ap has_empty h.1
row_solid w d t r (inr (inr h)) f = f h.2
row_solid w d t r (inr (inl h)) f = by r.need t h.1
  where
    by : (n : Need) (u : Tree) → is_written n u ≡ false → has_empty u ≡ false
    by else_empty (items none) e = refl
    by else_empty (items (more x xs)) e = absurd (true≢false e)
    by optional (items s) e = absurd (true≢false e)
    by required (items s) e = absurd (true≢false e)
    by required_first (items s) e = absurd (true≢false e)
    by n (fields m s) e = absurd (true≢false (sym (written n) ∙ e))
      where
        written : (n : Need) → is_written n (fields m s) ≡ true
        written optional = refl
        written _ = refl
    by n _ e = refl

abbrev RowsSolid : SpecVersion → List Row → Type 0
RowsSolid w [] = Unit {0}
RowsSolid w (r ∷ rs) = KindSolid w r.kind × RowsSolid w rs

abbrev no_one_text : List Row → Bool
no_one_text [] = true
no_one_text (r ∷ rs) = not (is_one_text r.xml) && no_one_text rs

any_none : (ts : Trees) (rs : List Row) → no_one_text rs ≡ true → any_empty ts rs ≡ false
any_none none rs h = refl
any_none (more t ts) [] h = refl
any_none (more t ts) (r ∷ rs) h = by (is_one_text r.xml) h (any_none ts rs (and_true (not (is_one_text r.xml)) (no_one_text rs) h).1)
  where
    by : (b : Bool) → (not b && no_one_text rs) ≡ true → any_empty ts rs ≡ false → ((b && is_empty_text t) || any_empty ts rs) ≡ false
    by true e f = absurd (true≢false (sym e))
    by false e f = f

rows_solid : (w : SpecVersion) (d : Depth) (ts : Trees) (rs : List Row) → RowsSolid w rs → FieldsHeld w d ts rs → have_empty ts ≡ false
unfolding has_empty
rows_solid w d none rs s h = refl
rows_solid w d (more t ts) [] s h = absurd (true≢false h)
rows_solid w d (more t ts) (r ∷ rs) s h = neither (has_empty t) (have_empty ts) (row_solid w d t r h.0 (s.0 d t)) (rows_solid w d ts rs s.1 h.1)

fields_solid : (w : SpecVersion) (d : Depth) (n : Name) (ts : Trees) → RowsSolid w (rows n) → no_one_text (rows n) ≡ true → FieldsHeld w d ts (rows n) → has_empty (fields n ts) ≡ false
unfolding has_empty
fields_solid w d n ts s c h = neither (any_empty ts (rows n)) (have_empty ts) (any_none ts (rows n) c) (rows_solid w d ts (rows n) s h)

all_solid : (w : SpecVersion) (k : Kind) → KindSolid w k → (d : Depth) (ts : Trees) → AllHeld w d ts k → have_empty ts ≡ false
unfolding has_empty
all_solid w k s d none h = refl
all_solid w k s d (more t ts) h = neither (has_empty t) (have_empty ts) (s d t h.0) (all_solid w k s d ts h.1)

record_solid : (w : SpecVersion) (n : Name) → RowsSolid w (rows n) → no_one_text (rows n) ≡ true → KindSolid w (a_record n)
record_solid w n s c d (items x) h = absurd (true≢false h.0)
record_solid w n s c d (fields m ts) h = subst (λ (j : Name). FieldsHeld w (inside j d) ts (rows j) → has_empty (fields j ts) ≡ false) (sym h.0) (fields_solid w (inside n d) n ts s c) h.2
record_solid w n s c d _ h = absurd (true≢false h)

list_solid : (w : SpecVersion) (l : Lists) → KindSolid w (list l).kind → KindSolid w (a_list l)
unfolding has_empty
list_solid w l s d (fields m ts) h = absurd (true≢false h.0)
list_solid w l s d (items ts) h = all_solid w (list l).kind s d ts h.1
list_solid w l s d _ h = absurd (true≢false h)

words : (w : SpecVersion) → KindSolid w a_text
words w = bare_solid w a_text refl

signer_solid : (w : SpecVersion) → RowsSolid w (rows signer)
unfolding rows
signer_solid w = (words w, (words w, tt))

signers_solid : (w : SpecVersion) → RowsSolid w (rows signers)
unfolding rows list
signers_solid w = (list_solid w signer_list (record_solid w signer (signer_solid w) refl), tt)

chain_solid : (w : SpecVersion) → RowsSolid w (rows chain)
unfolding rows list
chain_solid w = (list_solid w chain_list (record_solid w signer (signer_solid w) refl), tt)

signature_solid : (w : SpecVersion) → KindSolid w a_signature
unfolding rows
signature_solid w d (items x) h = absurd (true≢false h.0)
signature_solid w d (fields n ts) h = by h.0
  where
    by : (n ≡ signers) ⊎ ((n ≡ chain) ⊎ (n ≡ signer)) → has_empty (fields n ts) ≡ false
    by (inl e) = subst (λ (j : Name). FieldsHeld w (inside j d) ts (rows j) → has_empty (fields j ts) ≡ false) (sym e) (fields_solid w d signers ts (signers_solid w) refl) h.2
    by (inr (inl e)) = subst (λ (j : Name). FieldsHeld w (inside j d) ts (rows j) → has_empty (fields j ts) ≡ false) (sym e) (fields_solid w d chain ts (chain_solid w) refl) h.2
    by (inr (inr e)) = subst (λ (j : Name). FieldsHeld w (inside j d) ts (rows j) → has_empty (fields j ts) ≡ false) (sym e) (fields_solid w d signer ts (signer_solid w) refl) h.2
signature_solid w d _ h = absurd (true≢false h)

class_solid : (w : SpecVersion) → RowsSolid w (rows classification)
unfolding rows
class_solid w = (words w, (words w, tt))

flow_solid : (w : SpecVersion) → RowsSolid w (rows service_data)
unfolding rows
flow_solid w = (words w, (words w, (record_solid w classification (class_solid w) refl, tt)))

entry_solid : (w : SpecVersion) → KindSolid w an_entry
unfolding rows
entry_solid w d (items x) h = absurd (true≢false h.0)
entry_solid w d (fields n ts) h = by h.0
  where
    by : (n ≡ classification) ⊎ ((n ≡ service_data) × (is_flow n ts ≡ true) × (w ≡ V1_5)) → has_empty (fields n ts) ≡ false
    by (inl e) = subst (λ (j : Name). FieldsHeld w (inside j d) ts (rows j) → has_empty (fields j ts) ≡ false) (sym e) (fields_solid w d classification ts (class_solid w) refl) h.2
    by (inr e) = subst (λ (j : Name). FieldsHeld w (inside j d) ts (rows j) → has_empty (fields j ts) ≡ false) (sym e.0) (fields_solid w d service_data ts (flow_solid w) refl) h.2
entry_solid w d _ h = absurd (true≢false h)

-- ---- what isn't written

-- The rows of the record that aren't children hold no text that has to be there.
abbrev is_frame : List Row → Bool
is_frame [] = true
is_frame (r ∷ rs) = (is_child r.xml || is_bare r.kind) && is_frame rs

hollow_rows : (w : SpecVersion) (d : Depth) (ts : Trees) (rs : List Row) → is_frame rs ≡ true → no_child ts rs ≡ true → FieldsHeld w d ts rs → have_empty ts ≡ false
unfolding has_empty
hollow_rows w d none rs c e h = refl
hollow_rows w d (more t ts) [] c e h = absurd (true≢false h)
hollow_rows w d (more t ts) (r ∷ rs) c e h =
    let a : ((is_child r.xml || is_bare r.kind) ≡ true) × (is_frame rs ≡ true) = and_true (is_child r.xml || is_bare r.kind) (is_frame rs) c in
    let b : ((not (is_child r.xml) || is_absent t) ≡ true) × (no_child ts rs ≡ true) = and_true (not (is_child r.xml) || is_absent t) (no_child ts rs) e in
    neither (has_empty t) (have_empty ts) (by (is_child r.xml) a.0 b.0) (hollow_rows w d ts rs a.1 b.1 h.1)
  where
    by : (z : Bool) → (z || is_bare r.kind) ≡ true → (not z || is_absent t) ≡ true → has_empty t ≡ false
    by true f g = absent_solid t g
    by false f g = row_solid w d t r h.0 (bare_solid w r.kind f d t)

abbrev is_frame_kind : Kind → Bool
is_frame_kind (a_record n) = is_frame (rows n) && no_one_text (rows n)
is_frame_kind _ = false

hollow_solid : (w : SpecVersion) (d : Depth) (t : Tree) (k : Kind) → is_frame_kind k ≡ true → is_hollow t ≡ true → Held w d t k → has_empty t ≡ false
unfolding has_empty is_hollow
hollow_solid w d (fields n ts) (a_record m) c e h =
    let a : (is_frame (rows m) ≡ true) × (no_one_text (rows m) ≡ true) = and_true (is_frame (rows m)) (no_one_text (rows m)) c in
    neither (any_empty ts (rows n)) (have_empty ts) (any_none ts (rows n) (subst (λ (j : Name). no_one_text (rows j) ≡ true) (sym h.0) a.1))
    (hollow_rows w (inside n d) ts (rows n) (subst (λ (j : Name). is_frame (rows j) ≡ true) (sym h.0) a.0) e h.2)
hollow_solid w d (fields n ts) _ c e h = absurd (true≢false (sym c))
hollow_solid w d absent k c e h = absurd (true≢false h)
hollow_solid w d (text x) k c e h = refl
hollow_solid w d (number x) k c e h = refl
hollow_solid w d (boolean x) k c e h = refl
hollow_solid w d (items x) k c e h = absurd (true≢false (sym e))

passed_solid : (w : SpecVersion) (d : Depth) (t : Tree) (k : Kind) → is_passed_over t ≡ true → Held w d t k → has_empty t ≡ false
unfolding has_empty is_hollow rows
passed_solid w d (fields contact ts) k e h = neither (any_empty ts (rows contact)) (have_empty ts) (any_none ts (rows contact) refl) (hollow_rows w d ts (rows contact) refl e h.2)
passed_solid w d _ k e h = absurd (true≢false (sym e))

-- ---- the tree, from its element without a hole

abbrev Back : SpecVersion → Tree → Kind → Type 0
Back w t k = (tag : List ℕ) (p : ℕ) → hole (lean (wrapped t w tag k (nodes_of t w k))) w p k ≡ None → has_empty t ≡ false

none_split : (xs ys : Nodes) (w : SpecVersion) (plan : Plan) (p : ℕ) → holes (xs ⊕ ys) w p plan ≡ None → (holes xs w p plan ≡ None) × ((q : ℕ) × (holes ys w q plan ≡ None))
unfolding hole
none_split no_nodes ys w plan p h = (refl, (p, h))
none_split (node x xs) ys w plan p h =
    let e : (node_hole x w (hole x w p) plan ≡ None) × (holes (xs ⊕ ys) w (p + places x) plan ≡ None) = both_none (node_hole x w (hole x w p) plan) (holes (xs ⊕ ys) w (p + places x) plan) h in
    let f : (holes xs w (p + places x) plan ≡ None) × ((q : ℕ) × (holes ys w q plan ≡ None)) = none_split xs ys w plan (p + places x) e.1 in
    (ap (λ o. earlier o (holes xs w (p + places x) plan)) e.0 ∙ f.0, f.1)

lean_split : (xs ys : Nodes) (w : SpecVersion) (plan : Plan) (p : ℕ) → holes (lean_nodes (xs ⊕ ys)) w p plan ≡ None → (holes (lean_nodes xs) w p plan ≡ None) × ((q : ℕ) × (holes (lean_nodes ys) w q plan ≡ None))
lean_split xs ys w plan p h = none_split (lean_nodes xs) (lean_nodes ys) w plan p (ap (λ zs. holes zs w p plan) (sym (lean_append xs ys)) ∙ h)

child_back : (w : SpecVersion) (plan : Plan) (t : Tree) (k : Kind) (n q : List ℕ) (p : ℕ) → Back w t k → tag_of k t n ≡ q → Found w plan q k → holes (lean_nodes (lone (wrapped t w n k (nodes_of t w k)))) w p plan ≡ None → has_empty t ≡ false
unfolding hole
child_back w plan t k n q p b e f h =
    let x : Node = lean (wrapped t w n k (nodes_of t w k)) in
    let g : (child_hole (find_child w (tag_of k t n) plan.children) (hole (lean (wrapped t w n k (nodes_of t w k))) w p) ≡ None) × (Rattle.std.specs.Prelude.◌≡◌ {A = Option XmlReadError} None None) = both_none (child_hole (find_child w (tag_of k t n) plan.children) (hole (lean (wrapped t w n k (nodes_of t w k))) w p)) None h in
    b n p (sym (ap (λ z. child_hole (find_child w z plan.children) (hole (lean (wrapped t w n k (nodes_of t w k))) w p)) e
    ∙ (ap (λ o. child_hole o (hole (lean (wrapped t w n k (nodes_of t w k))) w p)) f.1
    ∙ ap (hole (lean (wrapped t w n k (nodes_of t w k))) w p) f.2)) ∙ g.0)

abbrev ItemsBack : SpecVersion → Depth → Tree → Type 0
ItemsBack w d t = (l : Lists) (plan : Plan) (p : ℕ) → Held w d t (a_list l) → is_plain (list l).kind ≡ true → Found w plan (list l).name (list l).kind → holes (lean_nodes (nodes_of t w (a_list l))) w p plan ≡ None → has_empty t ≡ false

abbrev is_sound : Kind → Spelled → Bool
is_sound k (attribute n) = is_bare k
is_sound k (attribute_or n m) = is_bare k
is_sound k the_version = is_bare k
is_sound k (filled_child n) = is_frame_kind k
is_sound k _ = true

abbrev is_right : Row → Bool
is_right r = (clear_need r.need r.xml && is_clear r.kind r.xml) && is_sound r.kind r.xml

abbrev all_right : List Row → Bool
all_right [] = true
all_right (r ∷ rs) = is_right r && all_right rs

either_back : (w : SpecVersion) (d : Depth) (plan : Plan) (t : Tree) (m : List ℕ) (p : ℕ) → Held w d t a_license_identifier → Back w t a_license_identifier → Found w plan (codes "id") a_license_identifier → Found w plan (codes "name") a_license_identifier
    → holes (lean_nodes (lone (wrapped t w m a_license_identifier (nodes_of t w a_license_identifier)))) w p plan ≡ None → has_empty t ≡ false
either_back w d plan (fields o ts) m p g e i j h = by o g.0 e h
  where
    by : (o : Name) → (o ≡ spdx_id) ⊎ (o ≡ license_name) → Back w (fields o ts) a_license_identifier → holes (lean_nodes (lone (wrapped (fields o ts) w m a_license_identifier (nodes_of (fields o ts) w a_license_identifier)))) w p plan ≡ None → has_empty (fields o ts) ≡ false
    by o (inl q) = subst (λ (z : Name). Back w (fields z ts) a_license_identifier → holes (lean_nodes (lone (wrapped (fields z ts) w m a_license_identifier (nodes_of (fields z ts) w a_license_identifier)))) w p plan ≡ None → has_empty (fields z ts) ≡ false) (sym q) (λ e h. child_back w plan (fields spdx_id ts) a_license_identifier m (codes "id") p e refl i h)
    by o (inr q) = subst (λ (z : Name). Back w (fields z ts) a_license_identifier → holes (lean_nodes (lone (wrapped (fields z ts) w m a_license_identifier (nodes_of (fields z ts) w a_license_identifier)))) w p plan ≡ None → has_empty (fields z ts) ≡ false) (sym q) (λ e h. child_back w plan (fields license_name ts) a_license_identifier m (codes "name") p e refl j h)
either_back w d plan (items s) m p g e i j h = absurd (true≢false g.0)
either_back w d plan _ m p g e i j h = absurd (true≢false g)

row_back : (w : SpecVersion) (d : Depth) (plan : Plan) (t : Tree) (r : Row) (p : ℕ) → is_clear r.kind r.xml ≡ true → is_sound r.kind r.xml ≡ true → RowFinds w plan r r.xml
    → Held w d t r.kind → Back w t r.kind → ItemsBack w d t → holes (lean_nodes (row_nodes r.xml t w r.kind (nodes_of t w r.kind))) w p plan ≡ None → has_empty t ≡ false
row_back w d plan t r p clear sound finds held b its = by r.kind r.xml clear sound finds held b
  where
    lists : (k : Kind) (n : List ℕ) → clear_list k n ≡ true → Found w plan n (held_kind k) → Held w d t k → holes (lean_nodes (nodes_of t w k)) w p plan ≡ None → has_empty t ≡ false
    lists (a_list l) n c f g h = its l plan p g (and_true (is_plain (list l).kind) (bytes_eq (list l).name n) c).0 (subst (λ (q : List ℕ). Found w plan q (list l).kind) (sym (same_name (list l).name n (and_true (is_plain (list l).kind) (bytes_eq (list l).name n) c).1)) f) h
    lists _ n c f g h = absurd (true≢false (sym c))

    filled : (k : Kind) (n : List ℕ) (z : Bool) → is_hollow t ≡ z → is_frame_kind k ≡ true → Held w d t k → (holes (lean_nodes (lone (wrapped t w n k (nodes_of t w k)))) w p plan ≡ None → has_empty t ≡ false) → holes (lean_nodes (if z then no_nodes else lone (wrapped t w n k (nodes_of t w k)))) w p plan ≡ None → has_empty t ≡ false
    filled k n true i s g f h = hollow_solid w d t k s i g
    filled k n false i s g f h = f h

    either : (k : Kind) (m n : List ℕ) → is_clear k (either_child m n) ≡ true → Found w plan m k × (bytes_eq n m ≡ false → Found w plan n k) → Held w d t k → Back w t k → holes (lean_nodes (lone (wrapped t w m k (nodes_of t w k)))) w p plan ≡ None → has_empty t ≡ false
    either a_license_identifier m n c f g e h =
        let a : (bytes_eq (codes "id") m ≡ true) × (bytes_eq (codes "name") n ≡ true) = and_true (bytes_eq (codes "id") m) (bytes_eq (codes "name") n) c in
        either_back w d plan t m p g e (subst (λ (q : List ℕ). Found w plan q a_license_identifier) (sym (same_name (codes "id") m a.0)) f.0)
        (subst (λ (q : List ℕ). Found w plan q a_license_identifier) (sym (same_name (codes "name") n a.1)) (f.1 (subst (λ (x : List ℕ). bytes_eq n x ≡ false) (same_name (codes "id") m a.0) (subst (λ (x : List ℕ). bytes_eq x (codes "id") ≡ false) (same_name (codes "name") n a.1) refl)))) h
    either _ m n c f g e h = absurd (true≢false (sym c))

    by : (k : Kind) (x : Spelled) → is_clear k x ≡ true → is_sound k x ≡ true → RowFinds w plan (record r { kind = k; xml = x }) x → Held w d t k → Back w t k → holes (lean_nodes (row_nodes x t w k (nodes_of t w k))) w p plan ≡ None → has_empty t ≡ false
    by k content c s f g e h = absurd (true≢false (sym c))
    by k one_text c s f g e h = absurd (true≢false (sym c))
    by k as_cdata c s f g e h = absurd (true≢false (sym c))
    by k (child n) c s f g e h = child_back w plan t k n n p e (tag_plain k t n c) f h
    by k (filled_child n) c s f g e h = filled k n (is_hollow t) refl s g (child_back w plan t k n n p e (tag_plain k t n c) f) h
    by k (children n) c s f g e h = lists k n c f g h
    by k (either_child m n) c s f g e h = either k m n c f g e h
    by k _ c s f g e h = bare_solid w k s d t g

written_back : (w : SpecVersion) (d : Depth) (plan : Plan) (t : Tree) (r : Row) (p : ℕ) → is_right r ≡ true → (knows r.since w ≡ true → RowFinds w plan r r.xml)
    → RowHeld w d t r → (Held w d t r.kind → Back w t r.kind) → ItemsBack w d t → holes (lean_nodes (row_written r t w)) w p plan ≡ None → has_empty t ≡ false
written_back w d plan t r p c finds held b its h = by (held_or w d t r (and_true (clear_need r.need r.xml && is_clear r.kind r.xml) (is_sound r.kind r.xml) c).0 held)
  where
    at : (z : Bool) → is_absent t ≡ z → knows r.since w ≡ true → Held w d t r.kind → has_empty t ≡ false
    at true i k g = absent_solid t i
    at false i k g = row_back w d plan t r p
        (and_true (clear_need r.need r.xml) (is_clear r.kind r.xml) (and_true (clear_need r.need r.xml && is_clear r.kind r.xml) (is_sound r.kind r.xml) c).0).1
        (and_true (clear_need r.need r.xml && is_clear r.kind r.xml) (is_sound r.kind r.xml) c).1 (finds k) g (b g) its
        (ap (λ xs. holes (lean_nodes xs) w p plan) (sym (if_true (knows r.since w && not (is_absent t)) (row_nodes r.xml t w r.kind (nodes_of t w r.kind)) no_nodes (rw (k, i) refl))) ∙ h)

    by : (is_absent t ≡ true) ⊎ ((knows r.since w ≡ true) × Held w d t r.kind) → has_empty t ≡ false
    by (inl e) = absent_solid t e
    by (inr e) = at (is_absent t) refl e.0 e.1

-- ---- records

abbrev RecordBack : SpecVersion → Name → Trees → Type 0
RecordBack w n ts = (tag : List ℕ) (p : ℕ) → record_hole (content_from 0 (rows n)) n w tag p (lean_nodes (fields_nodes ts w (rows n))) (holes (lean_nodes (fields_nodes ts w (rows n))) w (suc p)) ≡ None → has_empty (fields n ts) ≡ false

some_none : {A : Type 0} {f : XmlReadError} → Some f ≡ None → A
some_none {A} {f} h = absurd (true≢false (ap is_some h))
  where
    is_some : Option XmlReadError → Bool
    is_some (Some g) = true
    is_some None = false

id_one : (w : SpecVersion) (s : List ℕ) → RecordBack w spdx_id (one (text s))
unfolding has_empty nodes_of rows hole
id_one w [] tag p h = some_none h
id_one w (c ∷ cs) tag p h = refl

name_one : (w : SpecVersion) (s : List ℕ) → RecordBack w license_name (one (text s))
unfolding has_empty nodes_of rows hole
name_one w [] tag p h = some_none h
name_one w (c ∷ cs) tag p h = refl

-- An attribute of an attached text is text or absent.
attached_three : (w : SpecVersion) (a b : Tree) (s : List ℕ) → (a ≡ absent) ⊎ ((x : List ℕ) × (a ≡ text x)) → (b ≡ absent) ⊎ ((x : List ℕ) × (b ≡ text x)) → RecordBack w attached_text (more a (more b (one (text s))))
unfolding has_empty nodes_of rows hole
attached_three w a b [] (inl e) (inl e') = rw (e, e') (λ tag p h. some_none h)
attached_three w a b [] (inl e) (inr e') = rw (e, e'.1) (λ tag p h. some_none h)
attached_three w a b [] (inr e) (inl e') = rw (e.1, e') (λ tag p h. some_none h)
attached_three w a b [] (inr e) (inr e') = rw (e.1, e'.1) (λ tag p h. some_none h)
attached_three w a b (c ∷ s) (inl e) (inl e') = rw (e, e') (λ tag p h. refl)
attached_three w a b (c ∷ s) (inl e) (inr e') = rw (e, e'.1) (λ tag p h. refl)
attached_three w a b (c ∷ s) (inr e) (inl e') = rw (e.1, e') (λ tag p h. refl)
attached_three w a b (c ∷ s) (inr e) (inr e') = rw (e.1, e'.1) (λ tag p h. refl)

attached_back : (w : SpecVersion) (d : Depth) (ts : Trees) → FieldsHeld w d ts (rows attached_text) → RecordBack w attached_text ts
unfolding rows
attached_back w d none h = absurd (true≢false h)
attached_back w d (more a none) h = absurd (true≢false h.1)
attached_back w d (more a (more b us)) h =
    by us (optional_text w d a (row a_text (attribute (codes "content-type")) "contentType") refl refl h.0) (optional_text w d b (at a_text "encoding") refl refl h.1.0) (one_text_of w d us (one_row "content") refl refl refl h.1.1)
  where
    by : (vs : Trees) → (a ≡ absent) ⊎ ((x : List ℕ) × (a ≡ text x)) → (b ≡ absent) ⊎ ((x : List ℕ) × (b ≡ text x)) → (g : List ℕ) × (vs ≡ one (text g)) → RecordBack w attached_text (more a (more b vs))
    by vs e e' g = subst (λ (z : Trees). RecordBack w attached_text (more a (more b z))) (sym g.1) (attached_three w a b g.0 e e')

id_back : (w : SpecVersion) (d : Depth) (ts : Trees) → FieldsHeld w d ts (rows spdx_id) → RecordBack w spdx_id ts
unfolding rows
id_back w d ts h =
    let e : (s : List ℕ) × (ts ≡ one (text s)) = one_text_of w d ts (one_row "id") refl refl refl h in subst (λ (z : Trees). RecordBack w spdx_id z) (sym e.1) (id_one w e.0)

name_back : (w : SpecVersion) (d : Depth) (ts : Trees) → FieldsHeld w d ts (rows license_name) → RecordBack w license_name ts
unfolding rows
name_back w d ts h =
    let e : (s : List ℕ) × (ts ≡ one (text s)) = one_text_of w d ts (one_row "name") refl refl refl h in subst (λ (z : Trees). RecordBack w license_name z) (sym e.1) (name_one w e.0)

abbrev RowsBack : SpecVersion → Name → Trees → Type 0
RowsBack w n ts = (plan : Plan) (p : ℕ) → all_right (rows n) ≡ true → RowsFind plan w (rows n) → holes (lean_nodes (fields_nodes ts w (rows n))) w p plan ≡ None → have_empty ts ≡ false

full_of : (n : Name) (ts : Trees) → no_one_text (rows n) ≡ true → have_empty ts ≡ false → has_empty (fields n ts) ≡ false
unfolding has_empty
full_of n ts c h = neither (any_empty ts (rows n)) (have_empty ts) (any_none ts (rows n) c) h

record_back : (w : SpecVersion) (d : Depth) (n : Name) (ts : Trees) → FieldsHeld w d ts (rows n) → RowsBack w n ts → RecordBack w n ts
unfolding rows list
record_back w d hash ts h g tag p e = fields_solid w d hash ts (words w, (words w, tt)) refl h
record_back w d property ts h g tag p e = fields_solid w d property ts (words w, (words w, tt)) refl h
record_back w d expression ts h g tag p e = fields_solid w d expression ts (words w, (words w, tt)) refl h
record_back w d classification ts h g tag p e = fields_solid w d classification ts (words w, (words w, tt)) refl h
record_back w d copyright ts h g tag p e = fields_solid w d copyright ts (words w, tt) refl h
record_back w d attached_text ts h g tag p e = attached_back w d ts h tag p e
record_back w d spdx_id ts h g tag p e = id_back w d ts h tag p e
record_back w d license_name ts h g tag p e = name_back w d ts h tag p e
record_back w d n ts h g tag p e = full_of n ts refl (g (record_plan n) (suc p) refl (record_finds n w) e)

-- ---- kinds

data_back : (w : SpecVersion) (d : Depth) (ts : Trees) → AllHeld w d ts an_entry → have_empty ts ≡ false
data_back w d ts h = all_solid w an_entry (entry_solid w) d ts h

abbrev ListBack : SpecVersion → Depth → Trees → Type 0
ListBack w d ts = (k : Kind) (tag : List ℕ) (plan : Plan) (p : ℕ) → AllHeld w d ts k → ItemFinds w d plan k tag → holes (lean_nodes (items_nodes ts w (each_under tag) k)) w p plan ≡ None → have_empty ts ≡ false

items_case : (w : SpecVersion) (d : Depth) (ts : Trees) (k : Kind) → Held w d (items ts) k → ListBack w d ts → Back w (items ts) k
unfolding hole nodes_of list has_empty
items_case w d ts (a_list l) h f tag p e = f (list l).kind (list l).name (plan_of_list l) (suc p) h.1 (list_finds w d l) e
items_case w d ts a_tools h f tag p e = f (a_record tool) (codes "tool") tools_plan (suc p) h.1 (tool_finds w d) e
items_case w d ts a_data h f tag p e = data_back w d ts h.1
items_case w d ts _ h f tag p e = absurd (true≢false h.0)

tools_back : (n : Name) (w : SpecVersion) (ts : Trees) → n ≡ tools_object → w ≡ V1_5 → RowsBack w n ts → Back w (fields n ts) a_tools
unfolding hole nodes_of
tools_back n w ts e v g = subst (λ (m : Name). RowsBack w m ts → Back w (fields m ts) a_tools) (sym e) (subst (λ (u : SpecVersion). RowsBack u tools_object ts → Back u (fields tools_object ts) a_tools) (sym v) at_last) g
  where
    at_last : RowsBack V1_5 tools_object ts → Back V1_5 (fields tools_object ts) a_tools
    at_last f tag p h = full_of tools_object ts (unfold rows in refl) (f tools_plan (suc p) (unfold rows list in refl) tools_find h)

abbrev BackAs : SpecVersion → Trees → List ℕ → ℕ → Kind → Name → Type 0
BackAs w ts tag p k m = RecordBack w m ts → hole (lean (wrapped (fields m ts) w tag k (nodes_of (fields m ts) w k))) w p k ≡ None → has_empty (fields m ts) ≡ false

fields_case : (w : SpecVersion) (d : Depth) (n : Name) (ts : Trees) (k : Kind) → Held w d (fields n ts) k → RowsBack w n ts → Back w (fields n ts) k
unfolding hole nodes_of
fields_case w d n ts (a_record m) h g tag p e = record_back w (inside n d) n ts h.2 g tag p (subst (λ (j : Name). hole (lean (wrapped (fields n ts) w tag (a_record j) (nodes_of (fields n ts) w (a_record j)))) w p (a_record j) ≡ None) (sym h.0) e)
fields_case w d n ts a_license_choice h g tag p e = by h.0
  where
    by : (n ≡ license) ⊎ (n ≡ expression) → has_empty (fields n ts) ≡ false
    by (inl q) = subst (BackAs w ts tag p a_license_choice) (sym q) (λ x y. x (codes "license") p y) (record_back w (inside n d) n ts h.2 g) e
    by (inr q) = subst (BackAs w ts tag p a_license_choice) (sym q) (λ x y. x (codes "expression") p y) (record_back w (inside n d) n ts h.2 g) e
fields_case w d n ts a_license_identifier h g tag p e = by h.0
  where
    by : (n ≡ spdx_id) ⊎ (n ≡ license_name) → has_empty (fields n ts) ≡ false
    by (inl q) = subst (BackAs w ts tag p a_license_identifier) (sym q) (λ x y. x (codes "id") p y) (record_back w (inside n d) n ts h.2 g) e
    by (inr q) = subst (BackAs w ts tag p a_license_identifier) (sym q) (λ x y. x (codes "name") p y) (record_back w (inside n d) n ts h.2 g) e
fields_case w d n ts a_tools h g tag p e = tools_back n w ts h.0.0 h.0.1 g tag p e
fields_case w d n ts an_entry h g tag p e = entry_solid w d (fields n ts) h
fields_case w d n ts a_signature h g tag p e = signature_solid w d (fields n ts) h
fields_case w d n ts a_bill h g tag p e = subst (BackAs w ts tag p a_bill) (sym h.0) (λ x y. x tag p y) (record_back w (inside n d) n ts h.2 g) e
fields_case w d n ts _ h g tag p e = absurd (true≢false h.0)

item_back : (w : SpecVersion) (d : Depth) (t : Tree) (k : Kind) (tag : List ℕ) (plan : Plan) (p : ℕ) (z : Bool) → is_passed_over t ≡ z → Held w d t k → Found w plan (tag_of k t tag) k → Back w t k
    → holes (lean_nodes (if z then no_nodes else lone (wrapped t w tag k (nodes_of t w k)))) w p plan ≡ None → has_empty t ≡ false
item_back w d t k tag plan p true i h f b e = passed_solid w d t k i h
item_back w d t k tag plan p false i h f b e = child_back w plan t k tag (tag_of k t tag) p b refl f e

-- ---- the induction

mutual
  unfolding nodes_of has_empty

  pub back : (w : SpecVersion) (d : Depth) (t : Tree) (k : Kind) → Held w d t k → Back w t k
  back w d (items ts) k h tag p e = items_case w d ts k h (λ j n plan q g i z. items_back w d ts j n plan q g i z) tag p e
  back w d (fields n ts) k h tag p e = fields_case w d n ts k h (λ plan q c i z. rows_back w (inside n d) ts (rows n) plan q c h.2 i z) tag p e
  back w d _ k h tag p e = refl

  pub items_back : (w : SpecVersion) (d : Depth) (ts : Trees) (k : Kind) (tag : List ℕ) (plan : Plan) (p : ℕ) → AllHeld w d ts k → ItemFinds w d plan k tag → holes (lean_nodes (items_nodes ts w (each_under tag) k)) w p plan ≡ None → have_empty ts ≡ false
  items_back w d none k tag plan p h i e = refl
  items_back w d (more t ts) k tag plan p h i e =
      let s : (holes (lean_nodes (if is_passed_over t then no_nodes else lone (wrapped t w tag k (nodes_of t w k)))) w p plan ≡ None) × ((q : ℕ) × (holes (lean_nodes (items_nodes ts w (each_under tag) k)) w q plan ≡ None)) = lean_split (if is_passed_over t then no_nodes else lone (wrapped t w tag k (nodes_of t w k))) (items_nodes ts w (each_under tag) k) w plan p e in
      neither (has_empty t) (have_empty ts) (item_back w d t k tag plan p (is_passed_over t) refl h.0 (i t h.0) (λ a b c. back w d t k h.0 a b c) s.0) (items_back w d ts k tag plan s.1.0 h.1 i s.1.1)

  pub tree_items : (w : SpecVersion) (d : Depth) (t : Tree) → ItemsBack w d t
  tree_items w d (fields n s) l plan p h c i e = absurd (true≢false h.0)
  tree_items w d (items ts) l plan p h c i e = items_back w d ts (list l).kind (list l).name plan p h.1 (λ t g. subst (λ (q : List ℕ). Found w plan q (list l).kind) (sym (tag_plain (list l).kind t (list l).name c)) i) e
  tree_items w d _ l plan p h c i e = absurd (true≢false h)

  pub rows_back : (w : SpecVersion) (d : Depth) (ts : Trees) (rs : List Row) (plan : Plan) (p : ℕ) → all_right rs ≡ true → FieldsHeld w d ts rs → RowsFind plan w rs → holes (lean_nodes (fields_nodes ts w rs)) w p plan ≡ None → have_empty ts ≡ false
  rows_back w d none rs plan p c h i e = refl
  rows_back w d (more t ts) [] plan p c h i e = absurd (true≢false h)
  rows_back w d (more t ts) (r ∷ rs) plan p c h i e =
      let s : (holes (lean_nodes (row_written r t w)) w p plan ≡ None) × ((q : ℕ) × (holes (lean_nodes (fields_nodes ts w rs)) w q plan ≡ None)) = lean_split (row_written r t w) (fields_nodes ts w rs) w plan p e in
      let g : (is_right r ≡ true) × (all_right rs ≡ true) = and_true (is_right r) (all_right rs) c in
      neither (has_empty t) (have_empty ts) (written_back w d plan t r p g.0 i.0 h.0 (λ j a b z. back w d t r.kind j a b z) (tree_items w d t) s.0) (rows_back w d ts rs plan s.1.0 g.1 h.1 i.1 s.1.1)

pub empty_has_one : EmptyHasOne
unfolding hole rows
empty_has_one b w h s f e i = true≢false (sym e ∙ back w top (keep w b a_bill) a_bill (held_kept w w top b a_bill h (fits_first w b a_bill f) s) (codes "bom") 1 i)

-- the law
pub dropped_texts : DropsTexts
dropped_texts = drops_texts full_has_none empty_has_one
