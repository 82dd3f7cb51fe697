-- A record that is written row by row is the schema's spelling of it.
use Rattle.std.proofs.Common.{◌≡◌, ℕ, Bool, true, false, not, ◌&&◌, if◌then◌else◌, List, [], ◌∷◌, ◌++◌, refl, sym, ap, ◌∙◌, append_assoc}
use Rattle.std.proofs.lemmas.List.{append-nil}
use Rattle.cdx_events.specs.declared.name.OwnedAttribute.{OwnedAttribute}
use Rattle.cdx_events.specs.declared.event.XmlEvent.{XmlEvent}
use Rattle.cdx_events.specs.Nodes.{Nodes, no_nodes, node, events_of, events_of_all}
use Rattle.cdx_models.specs.declared.bom.SpecVersion.{SpecVersion}
use Rattle.cdx_models.specs.declared.bom.SpecVersion.TheVariants.{V1_3, V1_4, V1_5}
use Rattle.cdx_models.specs.Versions.{knows}
use Rattle.cdx_models.specs.Trees.{Name, Tree, absent, text, number, boolean, items, fields, Trees, none, more, ◌⧺◌, is_absent, fields_of}
use Rattle.cdx_schema.specs.Kinds.{Kind, a_record, Spelled, attribute, attribute_or, content, one_text, as_cdata, child, filled_child, children, either_child, the_version, Row}
use Rattle.cdx_schema.specs.Nodes.{◌⊕◌}
use Rattle.cdx_schema.specs.Table.{rows}
use Rattle.cdx_schema.specs.Keeping.{kept, keep, rows_kept}
use Rattle.cdx_schema.specs.Trips.{is_hollow}
use Rattle.cdx_schema.specs.XmlSpelling.{row_attributes, attributes_in, ordered, row_nodes, nodes_of, fields_nodes, spelled}
use Rattle.cdx_write.specs.Spelling.{spelled_events, inner}
use Rattle.cdx_schema.specs.Plain.{is_plain}
use Rattle.cdx_schema.proofs.PlainNames.{plain_name}
use Rattle.cdx_write.specs.WrittenRows.{attribute_written, child_written, filled_written, cdata_written, late_written, written_since, attribute_then, attributes_written, row_then, rows_written, are_rows_of}
use Rattle.cdx_write.specs.Writing.{opening, end_tag}

pub events_append : (xs ys : Nodes) → events_of_all (xs ⊕ ys) ≡ events_of_all xs ++ events_of_all ys
events_append no_nodes ys = refl
events_append (node x xs) ys = ap (λ s. events_of x ++ s) (events_append xs ys) ∙ sym (append_assoc (events_of x) (events_of_all xs) (events_of_all ys))

is_written_since : {A : Type 0} (s w : SpecVersion) (xs : List A) → written_since s w xs ≡ (if knows s w then xs else [])
unfolding late_written
is_written_since V1_3 w xs = refl
is_written_since V1_4 w xs = refl
is_written_since V1_5 w xs = refl

-- ---- attributes

-- A row's attributes, where the version knows it, and of nothing where it doesn't.
known_attributes : {A : Type 0} (b : Bool) (t : Tree) (f : Tree → List A) → (if b then f (if b then t else absent) else []) ≡ (if b then f t else [])
known_attributes true t f = refl
known_attributes false t f = refl

none_known : {A : Type 0} (b : Bool) (rest : List A) → (if b then [] else []) ++ rest ≡ rest
none_known true rest = refl
none_known false rest = refl

attribute_row : (x : Spelled) (k : Kind) (r : Row) (t : Tree) (w : SpecVersion) (rest : List OwnedAttribute) → x ≡ r.xml
    → attribute_then (record r { xml = x }) t w rest ≡ (if knows r.since w then row_attributes (record r { xml = x }) (keep w t r.kind) else []) ++ rest
unfolding attribute_written
attribute_row (attribute name) k r t w rest e = ap (λ s. s ++ rest) (is_written_since r.since w _)
attribute_row (attribute_or name n) k r t w rest e = ap (λ s. s ++ rest) (is_written_since r.since w _)
attribute_row content k r t w rest e = sym (none_known (knows r.since w) rest)
attribute_row one_text k r t w rest e = sym (none_known (knows r.since w) rest)
attribute_row as_cdata k r t w rest e = sym (none_known (knows r.since w) rest)
attribute_row (child name) k r t w rest e = sym (none_known (knows r.since w) rest)
attribute_row (filled_child name) k r t w rest e = sym (none_known (knows r.since w) rest)
attribute_row (children name) k r t w rest e = sym (none_known (knows r.since w) rest)
attribute_row (either_child m n) k r t w rest e = sym (none_known (knows r.since w) rest)
attribute_row the_version k r t w rest e = sym (none_known (knows r.since w) rest)

pub attributes_are : (ts : Trees) (w : SpecVersion) (rs : List Row) → attributes_written ts w rs ≡ attributes_in (rows_kept w w ts rs) rs w
unfolding attributes_written kept
attributes_are none w rs = refl
attributes_are (more t ts) w [] = refl
attributes_are (more t ts) w (r ∷ rs) =
    attribute_row r.xml r.kind r t w (attributes_written ts w rs) refl
    ∙ ap (λ s. s ++ attributes_written ts w rs) (sym (known_attributes (knows r.since w) (keep w t r.kind) (row_attributes r)))
    ∙ ap (λ s. (if knows r.since w then row_attributes r (if knows r.since w then keep w t r.kind else absent) else []) ++ s) (attributes_are ts w rs)

-- ---- rows

inner_there : (u : Tree) (w : SpecVersion) (k : Kind) → events_of_all (if not (is_absent u) then nodes_of u w k else no_nodes) ≡ events_of_all (nodes_of u w k)
unfolding nodes_of
inner_there absent w k = refl
inner_there (text s) w k = refl
inner_there (number n) w k = refl
inner_there (boolean b) w k = refl
inner_there (items ts) w k = refl
inner_there (fields n ts) w k = refl

none_there : (b : Bool) → events_of_all (if not b then no_nodes else no_nodes) ≡ []
none_there true = refl
none_there false = refl

one_there : (b : Bool) (xs : Nodes) (s : List XmlEvent) → events_of_all xs ≡ s → events_of_all (if not b then xs else no_nodes) ≡ (if b then [] else s)
one_there true xs s e = refl
one_there false xs s e = e

filled_there : (b h : Bool) (xs : Nodes) (s : List XmlEvent) → events_of_all xs ≡ s → events_of_all (if not b then (if h then no_nodes else xs) else no_nodes) ≡ (if h then [] else (if b then [] else s))
filled_there true true xs s e = refl
filled_there true false xs s e = refl
filled_there false true xs s e = refl
filled_there false false xs s e = e

-- what a row that the version knows adds
abbrev row_events : Spelled → Kind → Tree → SpecVersion → List XmlEvent
row_events x k t w = events_of_all (if not (is_absent (keep w t k)) then row_nodes x (keep w t k) w k (nodes_of (keep w t k) w k) else no_nodes)

known_row : (b : Bool) (x : Spelled) (k : Kind) (t : Tree) (w : SpecVersion)
    → events_of_all (if b && not (is_absent (if b then keep w t k else absent)) then row_nodes x (if b then keep w t k else absent) w k (nodes_of (if b then keep w t k else absent) w k) else no_nodes) ≡ (if b then row_events x k t w else [])
known_row true x k t w = refl
known_row false x k t w = refl

nothing : (b : Bool) (s rest : List XmlEvent) → s ≡ [] → rest ≡ (if b then s else []) ++ rest
nothing true s rest e = ap (λ q. q ++ rest) (sym e)
nothing false s rest e = refl

something : (since w : SpecVersion) (a s rest : List XmlEvent) → a ≡ s → written_since since w a ++ rest ≡ (if knows since w then s else []) ++ rest
something since w a s rest e = ap (λ q. q ++ rest) (is_written_since since w a ∙ ap (λ q. if knows since w then q else []) e)

row_is : (x : Spelled) (r : Row) (t : Tree) (w : SpecVersion) (rest : List XmlEvent)
    → row_then (record r { xml = x }) t w rest ≡ (if knows r.since w then row_events x r.kind t w else []) ++ rest
unfolding inner spelled_events child_written filled_written cdata_written
row_is (attribute name) r t w rest = nothing (knows r.since w) _ rest (none_there (is_absent (keep w t r.kind)))
row_is (attribute_or name n) r t w rest = nothing (knows r.since w) _ rest (none_there (is_absent (keep w t r.kind)))
row_is content r t w rest = something r.since w _ _ rest (sym (inner_there (keep w t r.kind) w r.kind))
row_is one_text r t w rest = something r.since w _ _ rest (sym (inner_there (keep w t r.kind) w r.kind))
row_is as_cdata r t w rest = something r.since w _ _ rest (sym (one_there (is_absent (keep w t r.kind)) _ _ refl))
row_is (child name) r t w rest = something r.since w _ _ rest (sym (one_there (is_absent (keep w t r.kind)) _ _ (append-nil _)))
row_is (filled_child name) r t w rest = something r.since w _ _ rest (sym (filled_there (is_absent (keep w t r.kind)) (is_hollow (keep w t r.kind)) _ _ (append-nil _)))
row_is (children name) r t w rest = something r.since w _ _ rest (sym (inner_there (keep w t r.kind) w r.kind))
row_is (either_child m n) r t w rest = something r.since w _ _ rest (sym (one_there (is_absent (keep w t r.kind)) _ _ (append-nil _)))
row_is the_version r t w rest = nothing (knows r.since w) _ rest (none_there (is_absent (keep w t r.kind)))

pub rows_are : (ts : Trees) (w : SpecVersion) (rs : List Row) → rows_written ts w rs ≡ events_of_all (fields_nodes (rows_kept w w ts rs) w rs)
unfolding rows_written nodes_of kept
rows_are none w rs = refl
rows_are (more t ts) w [] = refl
rows_are (more t ts) w (r ∷ rs) =
    row_is r.xml r t w (rows_written ts w rs)
    ∙ ap (λ s. s ++ rows_written ts w rs) (sym (known_row (knows r.since w) r.xml r.kind t w))
    ∙ ap (λ s. events_of_all (if knows r.since w && not (is_absent (if knows r.since w then keep w t r.kind else absent)) then row_nodes r.xml (if knows r.since w then keep w t r.kind else absent) w r.kind (nodes_of (if knows r.since w then keep w t r.kind else absent) w r.kind) else no_nodes) ++ s) (rows_are ts w rs)
    ∙ sym (events_append _ _)

-- ---- a record

record_kept : (w : SpecVersion) (n : Name) (ts : Trees) → keep w (fields n ts) (a_record n) ≡ fields n (rows_kept w w ts (rows n))
unfolding kept
record_kept V1_3 n ts = refl
record_kept V1_4 n ts = refl
record_kept V1_5 n ts = refl

-- the element of a record, from its attributes and its rows
pub record_is : (n : Name) (ts : Trees) (w : SpecVersion) (tag : List ℕ) → ((xs : List OwnedAttribute) → ordered n xs ≡ xs)
    → spelled_events (fields n ts) w tag (a_record n) ≡ opening tag (attributes_written ts w (rows n)) ∷ rows_written ts w (rows n) ++ end_tag tag ∷ []
unfolding spelled_events nodes_of
record_is n ts w tag plain =
    ap (λ u. events_of (spelled u w tag (a_record n))) (record_kept w n ts)
    ∙ ap (λ xs. opening tag xs ∷ events_of_all (fields_nodes (rows_kept w w ts (rows n)) w (rows n)) ++ end_tag tag ∷ []) (plain (attributes_in (rows_kept w w ts (rows n)) (rows n) w) ∙ sym (attributes_are ts w (rows n)))
    ∙ ap (λ s. opening tag (attributes_written ts w (rows n)) ∷ s ++ end_tag tag ∷ []) (sym (rows_are ts w (rows n)))

-- the same of a record's tree, from attributes that are its own
pub record_made : (n : Name) (t : Tree) (w : SpecVersion) (tag : List ℕ) (as' : List OwnedAttribute) → t ≡ fields n (fields_of t) → is_plain n ≡ true
    → as' ≡ attributes_written (fields_of t) w (rows n)
    → opening tag as' ∷ rows_written (fields_of t) w (rows n) ++ end_tag tag ∷ [] ≡ spelled_events t w tag (a_record n)
record_made n t w tag as' is_record plain is =
    ap (λ xs. opening tag xs ∷ rows_written (fields_of t) w (rows n) ++ end_tag tag ∷ []) is
    ∙ sym (record_is n (fields_of t) w tag (plain_name n plain).in_order) ∙ ap (λ u. spelled_events u w tag (a_record n)) (sym is_record)

-- what stands between the tags of a record
pub record_inner : (n : Name) (ts : Trees) (w : SpecVersion) → inner (fields n ts) w (a_record n) ≡ rows_written ts w (rows n)
unfolding inner nodes_of
record_inner n ts w = ap (λ u. events_of_all (nodes_of u w (a_record n))) (record_kept w n ts) ∙ sym (rows_are ts w (rows n))

-- ---- rows in groups

attribute_then_more : (x : Spelled) (r : Row) (t : Tree) (w : SpecVersion) (a b : List OwnedAttribute) → attribute_then (record r { xml = x }) t w (a ++ b) ≡ attribute_then (record r { xml = x }) t w a ++ b
attribute_then_more (attribute name) r t w a b = sym (append_assoc (written_since r.since w (attribute_written name r.kind t w)) a b)
attribute_then_more (attribute_or name n) r t w a b = sym (append_assoc (written_since r.since w (attribute_written name r.kind t w)) a b)
attribute_then_more content r t w a b = refl
attribute_then_more one_text r t w a b = refl
attribute_then_more as_cdata r t w a b = refl
attribute_then_more (child name) r t w a b = refl
attribute_then_more (filled_child name) r t w a b = refl
attribute_then_more (children name) r t w a b = refl
attribute_then_more (either_child m n) r t w a b = refl
attribute_then_more the_version r t w a b = refl

row_then_more : (x : Spelled) (r : Row) (t : Tree) (w : SpecVersion) (a b : List XmlEvent) → row_then (record r { xml = x }) t w (a ++ b) ≡ row_then (record r { xml = x }) t w a ++ b
row_then_more (attribute name) r t w a b = refl
row_then_more (attribute_or name n) r t w a b = refl
row_then_more content r t w a b = sym (append_assoc (written_since r.since w (inner t w r.kind)) a b)
row_then_more one_text r t w a b = sym (append_assoc (written_since r.since w (inner t w r.kind)) a b)
row_then_more as_cdata r t w a b = sym (append_assoc (written_since r.since w (cdata_written r.kind t w)) a b)
row_then_more (child name) r t w a b = sym (append_assoc (written_since r.since w (child_written name r.kind t w)) a b)
row_then_more (filled_child name) r t w a b = sym (append_assoc (written_since r.since w (filled_written name r.kind t w)) a b)
row_then_more (children name) r t w a b = sym (append_assoc (written_since r.since w (inner t w r.kind)) a b)
row_then_more (either_child m n) r t w a b = sym (append_assoc (written_since r.since w (child_written m r.kind t w)) a b)
row_then_more the_version r t w a b = refl

-- Two groups of rows, written one after the other, are all of them.
pub rows_in_groups : (ts us : Trees) (w : SpecVersion) (rs qs : List Row) → are_rows_of ts rs ≡ true → rows_written (ts ⧺ us) w (rs ++ qs) ≡ rows_written ts w rs ++ rows_written us w qs
unfolding rows_written
rows_in_groups none us w [] qs e = refl
rows_in_groups none us w (r ∷ rs) qs e = absurd cc
rows_in_groups (more t ts) us w [] qs e = absurd cc
rows_in_groups (more t ts) us w (r ∷ rs) qs e = ap (row_then r t w) (rows_in_groups ts us w rs qs e) ∙ row_then_more r.xml r t w (rows_written ts w rs) (rows_written us w qs)

pub attributes_in_groups : (ts us : Trees) (w : SpecVersion) (rs qs : List Row) → are_rows_of ts rs ≡ true → attributes_written (ts ⧺ us) w (rs ++ qs) ≡ attributes_written ts w rs ++ attributes_written us w qs
unfolding attributes_written
attributes_in_groups none us w [] qs e = refl
attributes_in_groups none us w (r ∷ rs) qs e = absurd cc
attributes_in_groups (more t ts) us w [] qs e = absurd cc
attributes_in_groups (more t ts) us w (r ∷ rs) qs e = ap (attribute_then r t w) (attributes_in_groups ts us w rs qs e) ∙ attribute_then_more r.xml r t w (attributes_written ts w rs) (attributes_written us w qs)
