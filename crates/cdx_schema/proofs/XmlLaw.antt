-- What a version holds is read back from its XML spelling, less what the trip takes.
use Rattle.std.specs.Prelude.{◌≡◌, refl, ℕ, suc, ◌^◌, nat_lt, List, [], ◌∷◌, ◌++◌, length, Bool, true, false, not, ◌&&◌, ◌||◌, if◌then◌else◌, ◌⊎◌, Option, Some, None, Ok, Err, codes}
use Rattle.std.proofs.Common.{true≢false, inl, inr}
use Rattle.std.specs.Str.{bytes_eq}
use mathlib.Core.Path.{ap, sym, ◌∙◌, subst}
use native.Mathlib.Omega.{arith}
use Rattle.cdx_models.specs.declared.bom.SpecVersion.{SpecVersion}
use Rattle.cdx_models.specs.declared.bom.SpecVersion.TheVariants.{V1_3, V1_4, V1_5}
use Rattle.cdx_models.specs.Versions.{knows, label}
use Rattle.cdx_models.specs.Trees.{Name, hash, property, attached_text, license, expression, tool, copyright, classification, service_data, tools_object, signer, signers, chain, bill, Tree, absent, text, number, boolean, items, fields, Trees, none, more, one, two, ◌⧺◌, is_absent, field, with_field}
use Rattle.cdx_schema.specs.Kinds.{Lists, hashes, licenses, components, services, tool_list, Kind, strict, a_reference, a_signature, a_version, an_entry, a_bill, a_text, a_boolean, a_number, a_list, a_record, a_tools, a_data, a_license_choice, a_license_identifier, Need, optional, required, required_first, else_empty, Spelled, attribute, attribute_or, content, one_text, as_cdata, child, filled_child, children, either_child, the_version, Row}
use Rattle.cdx_schema.specs.Table.{rows, list, row, must, from, at, of, every, respelled_reference, class_row}
use Rattle.cdx_schema.specs.Results.{◌>>=◌}
use Rattle.cdx_schema.specs.Faults.{lacking}
use Rattle.cdx_schema.specs.Depth.{Depth, inside, name_too_deep}
use Rattle.cdx_schema.specs.Held.{held_kind}
use Rattle.cdx_models.specs.Entries.{is_flow}
use Rattle.cdx_schema.specs.XmlTexts.{tree_of_text, text_of, number_of, number_tree}
use Rattle.cdx_schema.specs.XmlReading.{xread, nodes_read, Plan, Child, Place, last, once, all, stored, is_second, row_children, find_child, find_attribute, attributes_read, attribute_read, attribute_or_read, parsed, row_attribute, filled, lacks, name_owed, ended, in_force, content_from, no_content, plan_of_list, tools_plan, tools_of, signature_plan, signature_of, data_plan, data_of, Element}
use Rattle.cdx_schema.specs.XmlSpelling.{nodes_of, fields_nodes, row_nodes, wrapped, attributes_in, row_attributes, attribute_of, tag_of, plain_element, attributes_of, lone, items_nodes, each_under, as_flows, any_flow, flow_of, name_in, plain_name}
use Rattle.cdx_schema.specs.Trips.{is_hollow, is_passed_over, field_after, none_is_absent}
use Rattle.cdx_schema.specs.JsonReading.{is_required, when_nothing}
use Rattle.cdx_schema.specs.JsonSpelling.{is_written}
use Rattle.cdx_schema.proofs.JsonBack.{is_in, distinct, same_itself, or_false, if_true, if_false, not_in_append, apart, apart_first, is_in_first, is_in_later, distinct_later, Held, IsRecordHeld, IsTextHeld, IsNumberHeld, AllHeld, FieldsHeld, RowHeld, same_name, err_ok, identifier_of, and_true, held_text, one_text_of, two_texts_of, class_of, required_held}
use Rattle.cdx_schema.proofs.HeldKept.{held_there}
use Rattle.cdx_models.specs.Trees.{spdx_id, license_name}
use Rattle.cdx_schema.specs.Membership.{Never, IsListKind, IsBooleanOf}
use Rattle.cdx_schema.proofs.XmlBack.{finds_first, plan_of, node_step, find_row, field_at, with_field_at, child_names, RowRead, RowsRead, Ends, IsXRead, silent_row, items_row, gathered, row_written, SetItems, SetsItem, gather, list_is, rows_read, record_xread, child_names_distinct, list_xread, text_xread, reference_xread, boolean_xread}
use Rattle.cdx_events.specs.declared.name.OwnedAttribute.{OwnedAttribute}
use Rattle.cdx_events.specs.Nodes.{Node, Nodes, characters, no_nodes}
use Rattle.cdx_schema.specs.Nodes.{◌⊕◌}

-- ---- what a trip makes of a tree

abbrev pub list_after : Kind → SpecVersion → Trees → Tree
list_after a_tools V1_5 none = fields tools_object (two absent absent)
list_after k w ts = items ts

unfoldable mutual
  pub tripped : SpecVersion → Tree → Kind → Tree
  tripped w absent k = absent
  tripped w (text s) k = text s
  tripped w (number n) k = number n
  tripped w (boolean b) k = boolean b
  tripped w (items ts) k = list_after k w (items_tripped w ts (held_kind k))
  tripped w (fields n ts) k = fields n (rows_tripped w ts (rows n))

  pub items_tripped : SpecVersion → Trees → Kind → Trees
  items_tripped w none k = none
  items_tripped w (more t ts) k = if is_passed_over t then items_tripped w ts k else more (tripped w t k) (items_tripped w ts k)

  pub rows_tripped : SpecVersion → Trees → List Row → Trees
  rows_tripped w none rs = none
  rows_tripped w (more t ts) [] = none
  rows_tripped w (more t ts) (r ∷ rs) = more (field_after r t (tripped w t r.kind)) (rows_tripped w ts rs)

-- ---- attributes

abbrev pub attribute_names : Spelled → List (List ℕ)
attribute_names (attribute n) = n ∷ []
attribute_names (attribute_or n m) = n ∷ []
attribute_names _ = []

abbrev pub all_attribute_names : List Row → List (List ℕ)
all_attribute_names [] = []
all_attribute_names (r ∷ rs) = attribute_names r.xml ++ all_attribute_names rs

pub flip_false : (q n : List ℕ) → bytes_eq q n ≡ false → bytes_eq n q ≡ false
flip_false q n h = by (bytes_eq n q) refl
  where
    by : (b : Bool) → bytes_eq n q ≡ b → b ≡ false
    by true e = absurd (true≢false (sym (ap (λ x. bytes_eq q x) (same_name n q e) ∙ same_itself q) ∙ h))
    by false e = refl

pub skip_one : (q n : List ℕ) (t : Tree) (as' : List OwnedAttribute) → bytes_eq q n ≡ false → find_attribute q (attribute_of n t ++ as') ≡ find_attribute q as'
skip_one q n t as' h = by (is_absent t)
  where
    by : (b : Bool) → find_attribute q ((if b then [] else record { name = plain_name n; value = text_of t } ∷ []) ++ as') ≡ find_attribute q as'
    by true = refl
    by false = if_false (bytes_eq n q) _ _ (flip_false q n h)

pub skip_row : (q : List ℕ) (r : Row) (t : Tree) (w : SpecVersion) (as' : List OwnedAttribute) → is_in q (attribute_names r.xml) ≡ false
    → find_attribute q ((if knows r.since w then row_attributes r t else []) ++ as') ≡ find_attribute q as'
skip_row q r t w as' h = at (knows r.since w)
  where
    by : (x : Spelled) → is_in q (attribute_names x) ≡ false → find_attribute q (row_attributes (record r { xml = x }) t ++ as') ≡ find_attribute q as'
    by (attribute n) e = skip_one q n t as' (or_false (bytes_eq q n) false e).0
    by (attribute_or n m) e = skip_one q n t as' (or_false (bytes_eq q n) false e).0
    by _ e = refl

    at : (b : Bool) → find_attribute q ((if b then row_attributes r t else []) ++ as') ≡ find_attribute q as'
    at true = by r.xml h
    at false = refl

pub no_attribute : (q : List ℕ) (ts : Trees) (rs : List Row) (w : SpecVersion) → is_in q (all_attribute_names rs) ≡ false → find_attribute q (attributes_in ts rs w) ≡ None
no_attribute q none rs w h = refl
no_attribute q (more t ts) [] w h = refl
no_attribute q (more t ts) (r ∷ rs) w h =
    let e : (is_in q (attribute_names r.xml) ≡ false) × (is_in q (all_attribute_names rs) ≡ false) = not_in_append q (attribute_names r.xml) (all_attribute_names rs) h in
    skip_row q r t w (attributes_in ts rs w) e.0 ∙ no_attribute q ts rs w e.1

-- the field that a row has before the nodes are read
abbrev pub first_at : SpecVersion → Spelled → Tree → Tree
first_at w (attribute n) t = t
first_at w (attribute_or n m) t = t
first_at w the_version t = text (label w)
first_at w _ t = absent

abbrev pub first_field : SpecVersion → Row → Tree → Tree
first_field w r t = first_at w r.xml t

abbrev pub first_fields : SpecVersion → Trees → List Row → Trees
first_fields w none rs = none
first_fields w (more t ts) [] = none
first_fields w (more t ts) (r ∷ rs) = more (first_field w r t) (first_fields w ts rs)

-- An attribute is its tree's text, or it isn't there and needn't be.
abbrev pub IsAttribute : SpecVersion → Row → Tree → Type 0
IsAttribute w r t = ((t ≡ absent) × ((knows r.since w ≡ false) ⊎ (is_required r.need w ≡ false))) ⊎ ((knows r.since w ≡ true) × (is_absent t ≡ false) × (tree_of_text r.kind (text_of t) ≡ Some t))

abbrev pub AttributeHeld : SpecVersion → Row → Tree → Spelled → Type 0
AttributeHeld w r t (attribute n) = IsAttribute w r t
AttributeHeld w r t (attribute_or n m) = (knows r.since w ≡ true) × (is_absent t ≡ false) × (tree_of_text r.kind (text_of t) ≡ Some t)
AttributeHeld w r t the_version = knows r.since w ≡ true
AttributeHeld w r t _ = Unit {0}

abbrev pub AttributesHeld : SpecVersion → Trees → List Row → Type 0
AttributesHeld w none [] = Unit {0}
AttributesHeld w (more t ts) (r ∷ rs) = AttributeHeld w r t r.xml × AttributesHeld w ts rs
AttributesHeld w _ _ = true ≡ false

pub attribute_there : (q : List ℕ) (t : Tree) (as' : List OwnedAttribute) → is_absent t ≡ false → find_attribute q (attribute_of q t ++ as') ≡ Some (text_of t)
attribute_there q t as' h = by (is_absent t) h
  where
    by : (b : Bool) → b ≡ false → find_attribute q ((if b then [] else record { name = plain_name q; value = text_of t } ∷ []) ++ as') ≡ Some (text_of t)
    by true e = absurd (true≢false e)
    by false e = if_true (bytes_eq q q) _ _ (same_itself q)

-- What stands before the row's attribute in the list has other names.
abbrev pub Lacks : List ℕ → List OwnedAttribute → Type 0
Lacks q pre = (ys : List OwnedAttribute) → find_attribute q (pre ++ ys) ≡ find_attribute q ys

pub same_either : {A : Type 0} (b : Bool) (x : A) → (if b then x else x) ≡ x
same_either true x = refl
same_either false x = refl

-- what an attribute's row finds
pub found_there : (w : SpecVersion) (r : Row) (t : Tree) (n : List ℕ) (pre rest : List OwnedAttribute) → knows r.since w ≡ true → is_absent t ≡ false → Lacks n pre
    → find_attribute n (pre ++ ((if knows r.since w then attribute_of n t else []) ++ rest)) ≡ Some (text_of t)
found_there w r t n pre rest known there lacks' =
    lacks' ((if knows r.since w then attribute_of n t else []) ++ rest)
    ∙ (ap (λ x. find_attribute n (x ++ rest)) (if_true (knows r.since w) _ _ known) ∙ attribute_there n t rest there)

pub not_there : (w : SpecVersion) (r : Row) (t : Tree) (n : List ℕ) (pre rest : List OwnedAttribute) → t ≡ absent → Lacks n pre → find_attribute n rest ≡ None
    → find_attribute n (pre ++ ((if knows r.since w then attribute_of n t else []) ++ rest)) ≡ None
not_there w r t n pre rest gone lacks' none' =
    lacks' ((if knows r.since w then attribute_of n t else []) ++ rest)
    ∙ (ap (λ x. find_attribute n ((if knows r.since w then attribute_of n x else []) ++ rest)) gone
    ∙ (ap (λ x. find_attribute n (x ++ rest)) (same_either (knows r.since w) []) ∙ none'))

pub row_attribute_read : (w : SpecVersion) (r : Row) (t : Tree) (pre rest : List OwnedAttribute) (around : List ℕ) (p : ℕ) → AttributeHeld w r t r.xml
    → ((q : List ℕ) → is_in q (attribute_names r.xml) ≡ true → Lacks q pre × (find_attribute q rest ≡ None))
    → row_attribute r (pre ++ ((if knows r.since w then row_attributes r t else []) ++ rest)) w around p ≡ Ok (first_field w r t)
row_attribute_read w r t pre rest around p held lacks' = by r.xml held lacks'
  where
    by : (x : Spelled) → AttributeHeld w r t x → ((q : List ℕ) → is_in q (attribute_names x) ≡ true → Lacks q pre × (find_attribute q rest ≡ None))
        → row_attribute (record r { xml = x }) (pre ++ ((if knows r.since w then row_attributes (record r { xml = x }) t else []) ++ rest)) w around p ≡ Ok (first_field w (record r { xml = x }) t)
    by (attribute n) (inl (e)) l =
        ap (λ f. if knows r.since w then attribute_read f n (record r { xml = attribute n }) w around p else Ok absent) (not_there w r t n pre rest e.0 (l n (rw (same_itself n) refl)).0 (l n (rw (same_itself n) refl)).1)
        ∙ (gone e.1 ∙ ap Ok (sym e.0))
      where
        gone : (knows r.since w ≡ false) ⊎ (is_required r.need w ≡ false) → (if knows r.since w then (if is_required r.need w then Err (lacking p around n) else Ok absent) else Ok absent) ≡ Ok absent
        gone (inl f) = if_false (knows r.since w) _ _ f
        gone (inr f) = ap (λ x. if knows r.since w then x else Ok absent) (if_false (is_required r.need w) _ _ f) ∙ same_either (knows r.since w) (Ok absent)
    by (attribute n) (inr e) l =
        if_true (knows r.since w) _ _ e.0
        ∙ (ap (λ f. attribute_read f n (record r { xml = attribute n }) w around p) (found_there w r t n pre rest e.0 e.1 (l n (rw (same_itself n) refl)).0)
        ∙ ap (λ f. parsed f p n (text_of t) r.kind) e.2)
    by (attribute_or n m) e l =
        if_true (knows r.since w) _ _ e.0
        ∙ (ap (λ f. attribute_or_read f n m (record r { xml = attribute_or n m }) p) (found_there w r t n pre rest e.0 e.1 (l n (rw (same_itself n) refl)).0)
        ∙ ap (λ f. parsed f p n (text_of t) r.kind) e.2)
    by the_version e l = if_true (knows r.since w) _ _ e
    by content e l = refl
    by one_text e l = refl
    by as_cdata e l = refl
    by (child n) e l = refl
    by (filled_child n) e l = refl
    by (children n) e l = refl
    by (either_child m n) e l = refl

pub append_attributes : (x a b : List OwnedAttribute) → x ++ (a ++ b) ≡ (x ++ a) ++ b
append_attributes [] a b = refl
append_attributes (e ∷ es) a b = ap (e ∷◌) (append_attributes es a b)

-- The attributes of the rows are read as the first fields.
pub attributes_back : (w : SpecVersion) (ts : Trees) (rs : List Row) (pre all' : List OwnedAttribute) (around : List ℕ) (p : ℕ)
    → distinct (all_attribute_names rs) ≡ true → ((q : List ℕ) → is_in q (all_attribute_names rs) ≡ true → Lacks q pre) → AttributesHeld w ts rs
    → all' ≡ pre ++ attributes_in ts rs w
    → attributes_read rs all' w around p ≡ Ok (first_fields w ts rs)
unfolding attributes_read
attributes_back w none [] pre all' around p dist lacks' held is = refl
attributes_back w (more t ts) (r ∷ rs) pre all' around p dist lacks' held is =
    ap (λ x. x >>= (λ u. attributes_read rs all' w around p >>= (λ us. Ok (more u us)))) (ap (λ a. row_attribute r a w around p) is
    ∙ row_attribute_read w r t pre (attributes_in ts rs w) around p held.0 (λ q h. (lacks' q (is_in_first q (attribute_names r.xml) (all_attribute_names rs) h), no_attribute q ts rs w (apart q (attribute_names r.xml) (all_attribute_names rs) dist h))))
    ∙ ap (λ x. x >>= (λ us. Ok (more (first_field w r t) us))) (attributes_back w ts rs (pre ++ (if knows r.since w then row_attributes r t else [])) all' around p
    (distinct_later (attribute_names r.xml) (all_attribute_names rs) dist)
    (λ q h ys. ap (find_attribute q) (sym (append_attributes pre (if knows r.since w then row_attributes r t else []) ys))
    ∙ (lacks' q (is_in_later q (attribute_names r.xml) (all_attribute_names rs) h) ((if knows r.since w then row_attributes r t else []) ++ ys)
    ∙ skip_row q r t w ys (apart_first q (attribute_names r.xml) (all_attribute_names rs) dist h)))
    held.1 (is ∙ append_attributes pre (if knows r.since w then row_attributes r t else []) (attributes_in ts rs w)))
attributes_back w none (r ∷ rs) pre all' around p dist lacks' held is = absurd (true≢false held)
attributes_back w (more t ts) [] pre all' around p dist lacks' held is = absurd (true≢false held)

-- ---- children

abbrev pub regathered : Tree → Tree
regathered (items us) = gathered us
regathered t = t

-- the field that a row has after the nodes are read
abbrev pub second_at : SpecVersion → Spelled → Kind → Tree → Tree
second_at w (child n) k t = tripped w t k
second_at w (filled_child n) k t = if is_hollow t then absent else tripped w t k
second_at w (children n) k t = regathered (tripped w t k)
second_at w (either_child m n) k t = tripped w t k
second_at w x k t = first_at w x t

abbrev pub second_field : SpecVersion → Row → Tree → Tree
second_field w r t = second_at w r.xml r.kind t

abbrev pub second_fields : SpecVersion → Trees → List Row → Trees
second_fields w none rs = none
second_fields w (more t ts) [] = none
second_fields w (more t ts) (r ∷ rs) = more (second_field w r t) (second_fields w ts rs)

pub tripped_there : (w : SpecVersion) (t : Tree) (k : Kind) → is_absent t ≡ false → is_absent (tripped w t k) ≡ false
unfolding tripped
tripped_there w absent k h = h
tripped_there w (items ts) k h = by k w (items_tripped w ts (held_kind k))
  where
    by : (l : Kind) (v : SpecVersion) (us : Trees) → is_absent (list_after l v us) ≡ false
    by a_tools V1_5 none = refl
    by l v us = refl
tripped_there w _ k h = refl

-- Rows whose children the law speaks of.
abbrev pub is_optional : Need → Bool
is_optional optional = true
is_optional _ = false

abbrev pub is_list_kind : Kind → Bool
is_list_kind (a_list l) = true
is_list_kind _ = false

abbrev pub is_else_empty : Need → Bool
is_else_empty else_empty = true
is_else_empty _ = false

pub not_required : (n : Need) (w : SpecVersion) (t : Tree) → when_nothing n w ≡ Ok t → is_required n w ≡ false
not_required optional w t h = refl
not_required required w t h = absurd (err_ok h)
not_required else_empty w t h = refl
not_required required_first V1_3 t h = absurd (err_ok h)
not_required required_first V1_4 t h = refl
not_required required_first V1_5 t h = refl

pub absent_is : (t : Tree) → is_absent t ≡ true → t ≡ absent
absent_is absent h = refl
absent_is _ h = absurd (true≢false (sym h))

pub not_false : (b : Bool) → not b ≡ false → b ≡ true
not_false true h = refl
not_false false h = absurd (true≢false h)

-- A row either has a field that is held, or has none and needs none.
pub row_cases : (w : SpecVersion) (d : Depth) (t : Tree) (r : Row) → not (is_else_empty r.need) ≡ true → RowHeld w d t r
    → ((t ≡ absent) × ((knows r.since w ≡ false) ⊎ (is_required r.need w ≡ false))) ⊎ ((knows r.since w ≡ true) × (is_absent t ≡ false) × Held w d t r.kind)
row_cases w d t r well (inl h) = inl (h.1, inl h.0)
row_cases w d t r well (inr (inl h)) = inl (absent_is t (by r.need well h.1), inr (not_required r.need w t h.2))
  where
    by : (n : Need) → not (is_else_empty n) ≡ true → is_written n t ≡ false → is_absent t ≡ true
    by else_empty e f = absurd (true≢false (sym e))
    by _ e f = not_false (is_absent t) f
row_cases w d t r well (inr (inr h)) = inr (h.0, held_there w d t r.kind h.2, h.2)

pub and_false : (b : Bool) → (b && false) ≡ false
and_false true = refl
and_false false = refl

pub lacks_not : (w : SpecVersion) (d : Depth) (t u : Tree) (r : Row) (o : Option (List ℕ))
    → ((t ≡ absent) × ((knows r.since w ≡ false) ⊎ (is_required r.need w ≡ false))) ⊎ ((knows r.since w ≡ true) × (is_absent t ≡ false) × Held w d t r.kind)
    → (is_absent t ≡ false → is_absent u ≡ false) → lacks o r u w ≡ false
lacks_not w d t u r None h f = refl
lacks_not w d t u r (Some q) (inl (h)) f = by h.1
  where
    by : (knows r.since w ≡ false) ⊎ (is_required r.need w ≡ false) → lacks (Some q) r u w ≡ false
    by (inl e) = rw e (and_false (is_required r.need w))
    by (inr e) = rw e refl
lacks_not w d t u r (Some q) (inr h) f = rw (f h.1) (ap (λ b. is_required r.need w && b) (and_false (knows r.since w)) ∙ and_false (is_required r.need w))

-- ---- one row's element

-- A row without a field writes nothing.
pub nothing_written : (w : SpecVersion) (t : Tree) (r : Row) → t ≡ absent → row_written r t w ≡ no_nodes
nothing_written w t r h = if_false (knows r.since w && not (is_absent t)) _ _ (ap (λ x. knows r.since w && not (is_absent x)) h ∙ and_false (knows r.since w))

pub element_row : (w : SpecVersion) (d : Depth) (t : Tree) (r : Row) (u : Tree) (name : List ℕ) (as' : List OwnedAttribute) (xs : Nodes) (place' : Place)
    → is_in name (child_names r.xml) ≡ true
    → row_written r t w ≡ lone (plain_element name as' xs)
    → ((i : ℕ) (cs : List Child) → find_child w name (row_children i r ++ cs) ≡ Some (record { name = name; since = r.since; kind = r.kind; field = i; place = place' }))
    → ((i : ℕ) (ts : Trees) → stored place' i u ts ≡ with_field i u ts) → is_second place' absent ≡ false
    → knows r.since w ≡ true → ((p : ℕ) → xread (plain_element name as' xs) w r.kind p d ≡ Ok u)
    → RowRead w d t r absent u
unfolding xread
element_row w d t r u name as' xs place' among is finds stores first known read front rs rule' around ds rest p same apart' =
    ap (λ ys. nodes_read ys (plan_of rule' (front ++ r ∷ rs)) around w d p (ds ⧺ more absent rest)) is
    ∙ (node_step (plan_of rule' (front ++ r ∷ rs)) around w d p (plain_name name) as' (record { default = None }) xs (record { name = name; since = r.since; kind = r.kind; field = length front; place = place' }) u (ds ⧺ more absent rest)
    (find_row w name front r rs _ (apart' name among) (finds (length front)))
    (ap (is_second place') (ap (λ i. field i (ds ⧺ more absent rest)) (sym same) ∙ field_at ds rest absent) ∙ first)
    (read p)
    ∙ ap Ok (stores (length front) (ds ⧺ more absent rest) ∙ (ap (λ i. with_field i u (ds ⧺ more absent rest)) (sym same) ∙ with_field_at ds rest absent u)))

-- The kinds whose elements bear the name of their row.
abbrev pub is_plain : Kind → Bool
is_plain a_license_choice = false
is_plain a_license_identifier = false
is_plain _ = true

pub tag_plain : (k : Kind) (t : Tree) (tag : List ℕ) → is_plain k ≡ true → tag_of k t tag ≡ tag
tag_plain a_license_choice (fields n ts) tag h = absurd (true≢false (sym h))
tag_plain a_license_identifier (fields n ts) tag h = absurd (true≢false (sym h))
tag_plain _ (fields n ts) tag h = refl
tag_plain k _ tag h = refl

pub wrapped_plain : (w : SpecVersion) (t : Tree) (tag : List ℕ) (k : Kind) (xs : Nodes) → is_plain k ≡ true → wrapped t w tag k xs ≡ plain_element tag (attributes_of t w k) xs
wrapped_plain w t tag k xs h = ap (λ n. plain_element n (attributes_of t w k) xs) (tag_plain k t tag h)

-- what the fields that stand behind `child` need
abbrev pub ChildRead : SpecVersion → Depth → Tree → Row → Type 0
ChildRead w d t r = is_plain r.kind ≡ true → Held w d t r.kind → IsXRead w d t r.kind (tripped w t r.kind)

pub child_row_back : (w : SpecVersion) (d : Depth) (t : Tree) (r : Row) (n : List ℕ) → r.xml ≡ child n → is_plain r.kind ≡ true
    → ((t ≡ absent) × ((knows r.since w ≡ false) ⊎ (is_required r.need w ≡ false))) ⊎ ((knows r.since w ≡ true) × (is_absent t ≡ false) × Held w d t r.kind)
    → ChildRead w d t r → RowRead w d t r absent (tripped w t r.kind)
unfolding tripped
child_row_back w d t r n e plain (inl h) f = subst (λ (x : Tree). RowRead w d x r absent (tripped w x r.kind)) (sym h.0) (silent_row w d absent r absent (nothing_written w absent r refl))
child_row_back w d t r n e plain (inr h) f = element_row w d t r (tripped w t r.kind) n (attributes_of t w r.kind) (nodes_of t w r.kind) last
    (subst (λ (x : Spelled). is_in n (child_names x) ≡ true) (sym e) (rw (same_itself n) refl))
    (if_true (knows r.since w && not (is_absent t)) _ _ (rw (h.0, h.1) refl) ∙ (ap (λ x. row_nodes x t w r.kind (nodes_of t w r.kind)) e ∙ ap lone (wrapped_plain w t n r.kind (nodes_of t w r.kind) plain)))
    (λ i cs. subst (λ (x : Spelled). find_child w n (row_children i (record r { xml = x }) ++ cs) ≡ Some (record { name = n; since = r.since; kind = r.kind; field = i; place = last })) (sym e) (finds_first w n _ cs (same_itself n) h.0))
    (λ i ts. refl) refl h.0
    (λ q. ap (λ x. xread x w r.kind q d) (sym (wrapped_plain w t n r.kind (nodes_of t w r.kind) plain)) ∙ f plain h.2 n q)

pub filled_row_back : (w : SpecVersion) (d : Depth) (t : Tree) (r : Row) (n : List ℕ) → r.xml ≡ filled_child n → is_plain r.kind ≡ true
    → ((t ≡ absent) × ((knows r.since w ≡ false) ⊎ (is_required r.need w ≡ false))) ⊎ ((knows r.since w ≡ true) × (is_absent t ≡ false) × Held w d t r.kind)
    → ChildRead w d t r → RowRead w d t r absent (if is_hollow t then absent else tripped w t r.kind)
unfolding tripped is_hollow
filled_row_back w d t r n e plain (inl h) f = subst (λ (x : Tree). RowRead w d x r absent (if is_hollow x then absent else tripped w x r.kind)) (sym h.0) (silent_row w d absent r absent (nothing_written w absent r refl))
filled_row_back w d t r n e plain (inr h) f = by (is_hollow t) refl
  where
    at : row_written r t w ≡ (if is_hollow t then no_nodes else lone (wrapped t w n r.kind (nodes_of t w r.kind)))
    at = if_true (knows r.since w && not (is_absent t)) _ _ (rw (h.0, h.1) refl) ∙ ap (λ x. row_nodes x t w r.kind (nodes_of t w r.kind)) e

    by : (b : Bool) → is_hollow t ≡ b → RowRead w d t r absent (if b then absent else tripped w t r.kind)
    by true g = silent_row w d t r absent (at ∙ if_true (is_hollow t) _ _ g)
    by false g = element_row w d t r (tripped w t r.kind) n (attributes_of t w r.kind) (nodes_of t w r.kind) last
        (subst (λ (x : Spelled). is_in n (child_names x) ≡ true) (sym e) (rw (same_itself n) refl))
        (at ∙ (if_false (is_hollow t) _ _ g ∙ ap lone (wrapped_plain w t n r.kind (nodes_of t w r.kind) plain)))
        (λ i cs. subst (λ (x : Spelled). find_child w n (row_children i (record r { xml = x }) ++ cs) ≡ Some (record { name = n; since = r.since; kind = r.kind; field = i; place = last })) (sym e) (finds_first w n _ cs (same_itself n) h.0))
        (λ i ts. refl) refl h.0
        (λ q. ap (λ x. xread x w r.kind q d) (sym (wrapped_plain w t n r.kind (nodes_of t w r.kind) plain)) ∙ f plain h.2 n q)

-- ---- items

-- The kinds that stand as elements.
abbrev pub is_elem : Kind → Bool
is_elem a_number = false
is_elem a_version = false
is_elem an_entry = false
is_elem a_bill = false
is_elem (a_record bill) = false
is_elem _ = true

-- A plan appends each item of the kind to a field.
abbrev pub Finds : SpecVersion → Depth → Plan → ℕ → Kind → List ℕ → Type 0
Finds w d plan i k tag = (t : Tree) → Held w d t k → (c : Child) × (find_child w (tag_of k t tag) plan.children ≡ Some c) × (c.field ≡ i) × (c.place ≡ all) × (c.kind ≡ k)

pub item_set : (w : SpecVersion) (d : Depth) (t : Tree) (k : Kind) (u : Tree) (plan : Plan) (i : ℕ) (tag : List ℕ) → Held w d t k → Finds w d plan i k tag → IsXRead w d t k u → SetsItem plan w d i (wrapped t w tag k (nodes_of t w k)) u
item_set w d t k u plan i tag h finds read =
    let f : (c : Child) × (find_child w (tag_of k t tag) plan.children ≡ Some c) × (c.field ≡ i) × (c.place ≡ all) × (c.kind ≡ k) = finds t h in
    (f.0, f.1, f.2, f.3, (λ p. ap (λ x. xread (wrapped t w tag k (nodes_of t w k)) w x p d) f.4 ∙ read tag p))

pub one_more : (plan : Plan) (w : SpecVersion) (d : Depth) (i : ℕ) (b : Bool) (x : Node) (xs : Nodes) (u : Tree) (us : Trees)
    → (b ≡ false → SetsItem plan w d i x u) → SetItems plan w d i xs us
    → SetItems plan w d i ((if b then no_nodes else lone x) ⊕ xs) (if b then us else more u us)
one_more plan w d i true x xs u us f g = g
one_more plan w d i false x xs u us f g = (f refl, g)

-- a row of children, whose list is held
pub list_row_held : (w : SpecVersion) (d : Depth) (r : Row) (ts : Trees) → RowHeld w d (items ts) r → AllHeld w d ts (held_kind r.kind)
list_row_held w d r ts (inl h) = absurd (true≢false (sym (ap is_absent h.1)))
list_row_held w d r ts (inr (inl h)) = by r.need ts h.1
  where
    by : (n : Need) (us : Trees) → is_written n (items us) ≡ false → AllHeld w d us (held_kind r.kind)
    by else_empty none e = tt
    by else_empty (more u us) e = absurd (true≢false e)
    by _ us e = absurd (true≢false e)
list_row_held w d r ts (inr (inr h)) = h.2.1

-- whether a tree is there and no list
abbrev is_other : Tree → Bool
is_other absent = false
is_other (items ts) = false
is_other _ = true

other_written : (t : Tree) (n : Need) → is_other t ≡ true → is_written n t ≡ true
other_written absent n o = absurd (true≢false (sym o))
other_written (items ts) n o = absurd (true≢false (sym o))
other_written _ optional o = refl
other_written _ _ o = refl

other_not_held : (w : SpecVersion) (d : Depth) (t : Tree) (l : Lists) → is_other t ≡ true → Held w d t (a_list l) → ⊥
other_not_held w d absent l o h = absurd (true≢false (sym o))
other_not_held w d (items ts) l o h = absurd (true≢false (sym o))
other_not_held w d (fields m s) l o h = true≢false h.0
other_not_held w d _ l o h = true≢false h

-- A row of children holds nothing but a list.
no_other : (w : SpecVersion) (d : Depth) (t : Tree) (l : Lists) (r : Row) → r.kind ≡ a_list l → is_other t ≡ true → RowHeld w d t r → ⊥
no_other w d t l r e o (inl h) = true≢false (sym o ∙ ap is_other h.1)
no_other w d t l r e o (inr (inl h)) = true≢false (sym (other_written t r.need o) ∙ h.1)
no_other w d t l r e o (inr (inr h)) = other_not_held w d t l o (subst (λ (k : Kind). Held w d t k) e h.2)

pub known_of : (w : SpecVersion) (d : Depth) (r : Row) (ts : Trees) → RowHeld w d (items ts) r → knows r.since w ≡ true
known_of w d r ts (inl h) = absurd (true≢false (sym (ap is_absent h.1)))
known_of w d r ts (inr (inl h)) = h.0
known_of w d r ts (inr (inr h)) = h.0

pub children_row_back : (w : SpecVersion) (d : Depth) (t : Tree) (l : Lists) (n : List ℕ) (r : Row) → r.kind ≡ a_list l → r.xml ≡ children n → (list l).name ≡ n → RowHeld w d t r
    → ((ts : Trees) → t ≡ items ts → (plan : Plan) (i : ℕ) → AllHeld w d ts (list l).kind → find_child w n plan.children ≡ Some (record { name = n; since = r.since; kind = (list l).kind; field = i; place = all }) → SetItems plan w d i (nodes_of (items ts) w (a_list l)) (items_tripped w ts (list l).kind))
    → RowRead w d t r absent (regathered (tripped w t (a_list l)))
unfolding tripped nodes_of
children_row_back w d absent l n r e x name h f = silent_row w d absent r absent (nothing_written w absent r refl)
children_row_back w d (items ts) l n r e x name h f =
    items_row w d ts (items_tripped w ts (list l).kind) r n x (known_of w d r ts h)
    (λ plan i found. subst (λ (k : Kind). SetItems plan w d i (nodes_of (items ts) w k) (items_tripped w ts (list l).kind)) (sym e)
    (f ts refl plan i (subst (λ (k : Kind). AllHeld w d ts (held_kind k)) e (list_row_held w d r ts h)) (subst (λ (k : Kind). find_child w n plan.children ≡ Some (record { name = n; since = r.since; kind = held_kind k; field = i; place = all })) e found)))
children_row_back w d t l n r e x name h f = absurd (no_other w d t l r e refl h)

-- ---- any row

abbrev pub is_well_kind : Kind → Bool
is_well_kind k = is_plain k && is_elem k

abbrev pub is_well_list : Kind → List ℕ → Bool
is_well_list (a_list l) n = bytes_eq (list l).name n && is_well_kind (list l).kind
is_well_list _ n = false

abbrev pub is_identifier : Kind → Bool
is_identifier a_license_identifier = true
is_identifier _ = false

abbrev pub is_leaf : Kind → Bool
is_leaf a_text = true
is_leaf a_boolean = true
is_leaf a_number = true
is_leaf _ = false

abbrev pub is_listed : Need → Bool
is_listed required_first = false
is_listed _ = true

-- rows of a record without content: how each is written and read
abbrev pub reads_well : Need → Kind → Spelled → Bool
reads_well n k (attribute q) = not (is_else_empty n) && is_leaf k
reads_well n k (attribute_or q m) = false
reads_well n k (child q) = not (is_else_empty n) && is_well_kind k
reads_well n k (filled_child q) = is_optional n && is_well_kind k
reads_well n k (children q) = is_listed n && is_well_list k q
reads_well n k (either_child p q) = not (is_else_empty n) && (is_identifier k && (bytes_eq p (codes "id") && bytes_eq q (codes "name")))
reads_well n k _ = false

pub optional_cases : (n : Need) → is_optional n ≡ true → not (is_else_empty n) ≡ true
optional_cases else_empty h = sym (sym h)
optional_cases _ h = refl

pub spdx_id_row : (w : SpecVersion) (d : Depth) (s : List ℕ) (r : Row) → r.xml ≡ either_child (codes "id") (codes "name") → r.kind ≡ a_license_identifier → knows r.since w ≡ true
    → RowRead w d (fields spdx_id (one (text s))) r absent (tripped w (fields spdx_id (one (text s))) r.kind)
unfolding tripped nodes_of xread rows attributes_read ended
spdx_id_row w d s r x k known = element_row w d (fields spdx_id (one (text s))) r (fields spdx_id (one (text s))) (codes "id") [] (lone (characters s)) once
    (subst (λ (y : Spelled). is_in (codes "id") (child_names y) ≡ true) (sym x) refl)
    (if_true (knows r.since w && true) _ _ (rw known refl) ∙ (ap (λ y. row_nodes y (fields spdx_id (one (text s))) w r.kind (nodes_of (fields spdx_id (one (text s))) w r.kind)) x ∙ ap (λ l. lone (wrapped (fields spdx_id (one (text s))) w (codes "id") l (nodes_of (fields spdx_id (one (text s))) w l))) k))
    (λ i cs. subst (λ (y : Spelled). find_child w (codes "id") (row_children i (record r { xml = y }) ++ cs) ≡ Some (record { name = codes "id"; since = r.since; kind = r.kind; field = i; place = once })) (sym x)
    (finds_first w (codes "id") (record { name = codes "id"; since = r.since; kind = r.kind; field = i; place = once }) (record { name = codes "name"; since = r.since; kind = r.kind; field = i; place = once } ∷ cs) refl known))
    (λ i ts. refl) refl known
    (λ q. ap (λ l. xread (plain_element (codes "id") [] (lone (characters s))) w l q d) k)

pub license_name_row : (w : SpecVersion) (d : Depth) (s : List ℕ) (r : Row) → r.xml ≡ either_child (codes "id") (codes "name") → r.kind ≡ a_license_identifier → knows r.since w ≡ true
    → RowRead w d (fields license_name (one (text s))) r absent (tripped w (fields license_name (one (text s))) r.kind)
unfolding tripped nodes_of xread rows attributes_read ended
license_name_row w d s r x k known = element_row w d (fields license_name (one (text s))) r (fields license_name (one (text s))) (codes "name") [] (lone (characters s)) once
    (subst (λ (y : Spelled). is_in (codes "name") (child_names y) ≡ true) (sym x) refl)
    (if_true (knows r.since w && true) _ _ (rw known refl) ∙ (ap (λ y. row_nodes y (fields license_name (one (text s))) w r.kind (nodes_of (fields license_name (one (text s))) w r.kind)) x ∙ ap (λ l. lone (wrapped (fields license_name (one (text s))) w (codes "id") l (nodes_of (fields license_name (one (text s))) w l))) k))
    (λ i cs. subst (λ (y : Spelled). find_child w (codes "name") (row_children i (record r { xml = y }) ++ cs) ≡ Some (record { name = codes "name"; since = r.since; kind = r.kind; field = i; place = once })) (sym x)
    (finds_first w (codes "name") (record { name = codes "name"; since = r.since; kind = r.kind; field = i; place = once }) cs refl known))
    (λ i ts. refl) refl known
    (λ q. ap (λ l. xread (plain_element (codes "name") [] (lone (characters s))) w l q d) k)

pub either_row_back : (w : SpecVersion) (d : Depth) (t : Tree) (r : Row) → r.xml ≡ either_child (codes "id") (codes "name") → r.kind ≡ a_license_identifier
    → ((t ≡ absent) × ((knows r.since w ≡ false) ⊎ (is_required r.need w ≡ false))) ⊎ ((knows r.since w ≡ true) × (is_absent t ≡ false) × Held w d t r.kind)
    → RowRead w d t r absent (tripped w t r.kind)
unfolding tripped
either_row_back w d t r x k (inl h) = subst (λ (y : Tree). RowRead w d y r absent (tripped w y r.kind)) (sym h.0) (silent_row w d absent r absent (nothing_written w absent r refl))
either_row_back w d t r x k (inr h) = by (identifier_of w d t (subst (λ (l : Kind). Held w d t l) k h.2))
  where
    by : ((s : List ℕ) × (t ≡ fields spdx_id (one (text s)))) ⊎ ((s : List ℕ) × (t ≡ fields license_name (one (text s)))) → RowRead w d t r absent (tripped w t r.kind)
    by (inl e) = subst (λ (y : Tree). RowRead w d y r absent (tripped w y r.kind)) (sym e.1) (spdx_id_row w d e.0 r x k h.0)
    by (inr e) = subst (λ (y : Tree). RowRead w d y r absent (tripped w y r.kind)) (sym e.1) (license_name_row w d e.0 r x k h.0)

-- ---- the dispatch

-- what stands in a row of children
abbrev pub ItemsRead : SpecVersion → Depth → Tree → Type 0
ItemsRead w d t = (ts : Trees) → t ≡ items ts → (l : Lists) → is_well_kind (list l).kind ≡ true → (plan : Plan) (i : ℕ) → AllHeld w d ts (list l).kind → Finds w d plan i (list l).kind (list l).name
    → SetItems plan w d i (nodes_of (items ts) w (a_list l)) (items_tripped w ts (list l).kind)

-- a child that is found by its own name
pub finds_plain : (w : SpecVersion) (d : Depth) (plan : Plan) (i : ℕ) (v : SpecVersion) (k : Kind) (n : List ℕ) → is_plain k ≡ true → find_child w n plan.children ≡ Some (record { name = n; since = v; kind = k; field = i; place = all }) → Finds w d plan i k n
finds_plain w d plan i v k n plain found t h = (record { name = n; since = v; kind = k; field = i; place = all }, ap (λ x. find_child w x plan.children) (tag_plain k t n plain) ∙ found, refl, refl, refl)

pub list_row : (w : SpecVersion) (d : Depth) (t : Tree) (r : Row) (n : List ℕ) (k : Kind) → r.kind ≡ k → r.xml ≡ children n → is_well_list k n ≡ true → RowHeld w d t r → ItemsRead w d t
    → RowRead w d t r absent (regathered (tripped w t r.kind))
list_row w d t r n (a_list l) e x well h f =
    let p : (bytes_eq (list l).name n ≡ true) × (is_well_kind (list l).kind ≡ true) = and_true (bytes_eq (list l).name n) (is_well_kind (list l).kind) well in
    let q : (is_plain (list l).kind ≡ true) × (is_elem (list l).kind ≡ true) = and_true (is_plain (list l).kind) (is_elem (list l).kind) p.1 in
    subst (λ (j : Kind). RowRead w d t r absent (regathered (tripped w t j))) (sym e)
    (children_row_back w d t l n r e x (same_name (list l).name n p.0) h
    (λ ts is plan i held found. f ts is l p.1 plan i held
    (subst (λ (m : List ℕ). Finds w d plan i (list l).kind m) (sym (same_name (list l).name n p.0)) (finds_plain w d plan i r.since (list l).kind n q.0 found))))
list_row w d t r n _ e x well h f = absurd (true≢false (sym well))

pub row_back : (w : SpecVersion) (d : Depth) (t : Tree) (r : Row) → reads_well r.need r.kind r.xml ≡ true → RowHeld w d t r
    → (is_elem r.kind ≡ true → ChildRead w d t r) → ItemsRead w d t
    → RowRead w d t r (first_field w r t) (second_field w r t)
row_back w d t r well h f g = by r.xml refl well
  where
    silent : (x : Spelled) → r.xml ≡ x → row_nodes x t w r.kind (nodes_of t w r.kind) ≡ no_nodes → row_written r t w ≡ no_nodes
    silent x e s = ap (λ (y : Spelled). if knows r.since w && not (is_absent t) then row_nodes y t w r.kind (nodes_of t w r.kind) else no_nodes) e ∙ (ap (λ z. if knows r.since w && not (is_absent t) then z else no_nodes) s ∙ same_either (knows r.since w && not (is_absent t)) no_nodes)

    by : (x : Spelled) → r.xml ≡ x → reads_well r.need r.kind x ≡ true → RowRead w d t r (first_at w x t) (second_at w x r.kind t)
    by (attribute n) e v = silent_row w d t r t (silent (attribute n) e refl)
    by (child n) e v =
        let p : (not (is_else_empty r.need) ≡ true) × (is_well_kind r.kind ≡ true) = and_true (not (is_else_empty r.need)) (is_well_kind r.kind) v in
        let q : (is_plain r.kind ≡ true) × (is_elem r.kind ≡ true) = and_true (is_plain r.kind) (is_elem r.kind) p.1 in
        child_row_back w d t r n e q.0 (row_cases w d t r p.0 h) (f q.1)
    by (filled_child n) e v =
        let p : (is_optional r.need ≡ true) × (is_well_kind r.kind ≡ true) = and_true (is_optional r.need) (is_well_kind r.kind) v in
        let q : (is_plain r.kind ≡ true) × (is_elem r.kind ≡ true) = and_true (is_plain r.kind) (is_elem r.kind) p.1 in
        filled_row_back w d t r n e q.0 (row_cases w d t r (optional_cases r.need p.0) h) (f q.1)
    by (children n) e v = list_row w d t r n r.kind refl e (and_true (is_listed r.need) (is_well_list r.kind n) v).1 h g
    by (either_child m n) e v =
        let p : (not (is_else_empty r.need) ≡ true) × ((is_identifier r.kind && (bytes_eq m (codes "id") && bytes_eq n (codes "name"))) ≡ true) = and_true (not (is_else_empty r.need)) (is_identifier r.kind && (bytes_eq m (codes "id") && bytes_eq n (codes "name"))) v in
        let q : (is_identifier r.kind ≡ true) × ((bytes_eq m (codes "id") && bytes_eq n (codes "name")) ≡ true) = and_true (is_identifier r.kind) (bytes_eq m (codes "id") && bytes_eq n (codes "name")) p.1 in
        let s : (bytes_eq m (codes "id") ≡ true) × (bytes_eq n (codes "name") ≡ true) = and_true (bytes_eq m (codes "id")) (bytes_eq n (codes "name")) q.1 in
        either_row_back w d t r (e ∙ names_same m n s.0 s.1) (identifier_kind r.kind q.0) (row_cases w d t r p.0 h)
      where
        names_same : (a b : List ℕ) → bytes_eq a (codes "id") ≡ true → bytes_eq b (codes "name") ≡ true → either_child a b ≡ either_child (codes "id") (codes "name")
        names_same a b i j = rw (same_name a (codes "id") i, same_name b (codes "name") j) refl

        identifier_kind : (k : Kind) → is_identifier k ≡ true → k ≡ a_license_identifier
        identifier_kind a_license_identifier i = refl
        identifier_kind _ i = absurd (true≢false (sym i))
    by _ e v = absurd (true≢false (sym v))

pub gone : (w : SpecVersion) (t : Tree) (k : Kind) → t ≡ absent → t ≡ tripped w t k
unfolding tripped
gone w t k h = subst (λ (x : Tree). x ≡ tripped w x k) (sym h) refl

-- ---- the end of a row

pub optional_not : (n : Need) (w : SpecVersion) → is_optional n ≡ true → is_required n w ≡ false
optional_not optional w h = refl
optional_not _ w h = absurd (true≢false (sym h))

pub lacks_optional : (w : SpecVersion) (r : Row) (u : Tree) (q : List ℕ) → is_optional r.need ≡ true → lacks (Some q) r u w ≡ false
lacks_optional w r u q h = rw (optional_not r.need w h) refl

pub leaf_same : (w : SpecVersion) (d : Depth) (t : Tree) (k : Kind) → is_leaf k ≡ true → Held w d t k → t ≡ tripped w t k
unfolding tripped
leaf_same w d (items ts) k l h = absurd (true≢false (by k l h.0))
  where
    by : (j : Kind) → is_leaf j ≡ true → IsListKind j → Never
    by (a_list x) e g = sym e
    by a_tools e g = sym e
    by a_data e g = sym e
    by _ e g = g
leaf_same w d (fields n ts) k l h = absurd (true≢false (by k l h.0))
  where
    by : (j : Kind) → is_leaf j ≡ true → IsRecordHeld w j n ts → Never
    by a_text e g = g
    by a_boolean e g = g
    by a_number e g = g
    by _ e g = sym e
leaf_same w d _ k l h = refl

-- Rows of children that aren't optional are known to every version.
abbrev pub is_always : Need → SpecVersion → Bool
is_always optional s = true
is_always n V1_3 = true
is_always n _ = false

pub list_end : (w : SpecVersion) (d : Depth) (t : Tree) (r : Row) (n : List ℕ) (l : Lists) → r.kind ≡ a_list l → is_listed r.need ≡ true → is_always r.need r.since ≡ true → RowHeld w d t r
    → filled (record r { xml = children n }) (regathered (tripped w t (a_list l))) ≡ none_is_absent r.need (tripped w t (a_list l))
unfolding tripped
list_end w d absent r n l e listed always h = by r.need r.since listed always h
  where
    by : (m : Need) (s : SpecVersion) → is_listed m ≡ true → is_always m s ≡ true
        → ((knows s w ≡ false) × (absent ≡ absent)) ⊎ (((knows s w ≡ true) × (is_written m absent ≡ false) × (when_nothing m w ≡ Ok absent)) ⊎ ((knows s w ≡ true) × (is_written m absent ≡ true) × Never))
        → filled (record r { xml = children n; need = m }) absent ≡ none_is_absent m absent
    by optional s i j g = refl
    by required_first s i j g = absurd (true≢false (sym i))
    by required V1_3 i j (inl g) = absurd (true≢false g.0)
    by required V1_3 i j (inr (inl g)) = absurd (err_ok g.2)
    by required V1_3 i j (inr (inr g)) = absurd (true≢false g.2)
    by required V1_4 i j g = absurd (true≢false (sym j))
    by required V1_5 i j g = absurd (true≢false (sym j))
    by else_empty V1_3 i j (inl g) = absurd (true≢false g.0)
    by else_empty V1_3 i j (inr (inl g)) = grind arith
    by else_empty V1_3 i j (inr (inr g)) = absurd (true≢false g.2)
    by else_empty V1_4 i j g = absurd (true≢false (sym j))
    by else_empty V1_5 i j g = absurd (true≢false (sym j))
list_end w d (items ts) r n l e listed always h = by r.need listed (items_tripped w ts (list l).kind)
  where
    by : (m : Need) → is_listed m ≡ true → (us : Trees) → filled (record r { xml = children n; need = m }) (gathered us) ≡ none_is_absent m (items us)
    by optional i (more u us) = refl
    by required i (more u us) = refl
    by required_first i us = absurd (true≢false (sym i))
    by else_empty i (more u us) = refl
    by _ i none = refl
list_end w d t r n l e listed always h = absurd (no_other w d t l r e refl h)

-- ---- rows together

abbrev pub ends_well : Spelled → Need → SpecVersion → Bool
ends_well (children q) n v = is_always n v
ends_well _ n v = true

abbrev pub all_well : List Row → Bool
all_well [] = true
all_well (r ∷ rs) = (reads_well r.need r.kind r.xml && ends_well r.xml r.need r.since) && all_well rs

-- How a row ends: nothing is missed, and the field is what the trip makes of it.
abbrev pub IsEnd : SpecVersion → Tree → Row → Spelled → Type 0
IsEnd w t r x = (lacks (name_owed x) r (second_at w x r.kind t) w ≡ false) × (filled (record r { xml = x }) (second_at w x r.kind t) ≡ field_after (record r { xml = x }) t (tripped w t r.kind))

pub row_end : (w : SpecVersion) (d : Depth) (t : Tree) (r : Row) → reads_well r.need r.kind r.xml ≡ true → ends_well r.xml r.need r.since ≡ true → RowHeld w d t r → IsEnd w t r r.xml
row_end w d t r well always h = by r.xml well always
  where
    leaf : (k : Kind) → is_leaf k ≡ true → not (is_else_empty r.need) ≡ true → k ≡ r.kind → t ≡ tripped w t k
    leaf k l v e = at (row_cases w d t r v h)
      where
        at : ((t ≡ absent) × ((knows r.since w ≡ false) ⊎ (is_required r.need w ≡ false))) ⊎ ((knows r.since w ≡ true) × (is_absent t ≡ false) × Held w d t r.kind) → t ≡ tripped w t k
        at (inl g) = gone w t k g.0
        at (inr g) = leaf_same w d t k l (subst (λ (j : Kind). Held w d t j) (sym e) g.2)

    by : (x : Spelled) → reads_well r.need r.kind x ≡ true → ends_well x r.need r.since ≡ true → IsEnd w t r x
    by (attribute n) v a = let p : (not (is_else_empty r.need) ≡ true) × (is_leaf r.kind ≡ true) = and_true (not (is_else_empty r.need)) (is_leaf r.kind) v in (refl, leaf r.kind p.1 p.0 refl)
    by (child n) v a = (lacks_not w d t (tripped w t r.kind) r (Some n) (row_cases w d t r (and_true (not (is_else_empty r.need)) (is_well_kind r.kind) v).0 h) (tripped_there w t r.kind), refl)
    by (filled_child n) v a = (lacks_optional w r _ n (and_true (is_optional r.need) (is_well_kind r.kind) v).0, refl)
    by (children n) v a = (refl, list_kind r.kind refl (and_true (is_listed r.need) (is_well_list r.kind n) v))
      where
        list_kind : (k : Kind) → r.kind ≡ k → (is_listed r.need ≡ true) × (is_well_list k n ≡ true) → filled (record r { xml = children n }) (regathered (tripped w t r.kind)) ≡ none_is_absent r.need (tripped w t r.kind)
        list_kind (a_list l) e p = subst (λ (j : Kind). filled (record r { xml = children n }) (regathered (tripped w t j)) ≡ none_is_absent r.need (tripped w t j)) (sym e) (list_end w d t r n l e p.0 a h)
        list_kind _ e p = absurd (true≢false (sym p.1))
    by (either_child m n) v a = (lacks_not w d t (tripped w t r.kind) r (name_owed (either_child m n)) (row_cases w d t r (and_true (not (is_else_empty r.need)) (is_identifier r.kind && (bytes_eq m (codes "id") && bytes_eq n (codes "name"))) v).0 h) (tripped_there w t r.kind), refl)
    by _ v a = absurd (true≢false (sym v))

pub rows_end : (w : SpecVersion) (d : Depth) (ts : Trees) (rs : List Row) → all_well rs ≡ true → FieldsHeld w d ts rs → Ends w (second_fields w ts rs) rs (rows_tripped w ts rs)
unfolding tripped
rows_end w d none [] v h = tt
rows_end w d none (r ∷ rs) v h = absurd (true≢false h)
rows_end w d (more t ts) [] v h = absurd (true≢false h)
rows_end w d (more t ts) (r ∷ rs) v h =
    let p : ((reads_well r.need r.kind r.xml && ends_well r.xml r.need r.since) ≡ true) × (all_well rs ≡ true) = and_true (reads_well r.need r.kind r.xml && ends_well r.xml r.need r.since) (all_well rs) v in
    let q : (reads_well r.need r.kind r.xml ≡ true) × (ends_well r.xml r.need r.since ≡ true) = and_true (reads_well r.need r.kind r.xml) (ends_well r.xml r.need r.since) p.0 in
    let e : IsEnd w t r r.xml = row_end w d t r q.0 q.1 h.0 in
    (e.0, e.1, rows_end w d ts rs p.1 h.1)

-- A number's text is read as the number.
abbrev pub Decimals : Type 0
Decimals = (n : ℕ) → nat_lt n (2 ^ 32) ≡ true → number_of (text_of (number n)) ≡ Some n

pub text_leaf : (w : SpecVersion) (d : Depth) (t : Tree) → Held w d t a_text → tree_of_text a_text (text_of t) ≡ Some t
text_leaf w d t h = let e : (s : List ℕ) × (t ≡ text s) = held_text w d t h in subst (λ (x : Tree). tree_of_text a_text (text_of x) ≡ Some x) (sym e.1) refl

pub boolean_leaf : (w : SpecVersion) (d : Depth) (t : Tree) → Held w d t a_boolean → tree_of_text a_boolean (text_of t) ≡ Some t
boolean_leaf w d (boolean true) h = refl
boolean_leaf w d (boolean false) h = refl
boolean_leaf w d (items s) h = absurd (true≢false h.0)
boolean_leaf w d (fields n s) h = absurd (true≢false h.0)
boolean_leaf w d _ h = absurd (true≢false h)

pub number_leaf : Decimals → (w : SpecVersion) (d : Depth) (t : Tree) → Held w d t a_number → tree_of_text a_number (text_of t) ≡ Some t
number_leaf dec w d (number n) h = ap number_tree (dec n h)
number_leaf dec w d (items s) h = absurd (true≢false h.0)
number_leaf dec w d (fields n s) h = absurd (true≢false h.0)
number_leaf dec w d _ h = absurd (true≢false h)

pub leaf_text : Decimals → (w : SpecVersion) (d : Depth) (t : Tree) (k : Kind) → is_leaf k ≡ true → Held w d t k → tree_of_text k (text_of t) ≡ Some t
leaf_text dec w d t a_text l h = text_leaf w d t h
leaf_text dec w d t a_boolean l h = boolean_leaf w d t h
leaf_text dec w d t a_number l h = number_leaf dec w d t h
leaf_text dec w d t _ l h = absurd (true≢false (sym l))

pub attribute_held : Decimals → (w : SpecVersion) (d : Depth) (t : Tree) (r : Row) → reads_well r.need r.kind r.xml ≡ true → RowHeld w d t r → AttributeHeld w r t r.xml
attribute_held dec w d t r v h = by r.xml v
  where
    at : is_leaf r.kind ≡ true → ((t ≡ absent) × ((knows r.since w ≡ false) ⊎ (is_required r.need w ≡ false))) ⊎ ((knows r.since w ≡ true) × (is_absent t ≡ false) × Held w d t r.kind) → IsAttribute w r t
    at l (inl g) = inl g
    at l (inr g) = inr (g.0, g.1, leaf_text dec w d t r.kind l g.2)

    by : (x : Spelled) → reads_well r.need r.kind x ≡ true → AttributeHeld w r t x
    by (attribute n) v' = let p : (not (is_else_empty r.need) ≡ true) × (is_leaf r.kind ≡ true) = and_true (not (is_else_empty r.need)) (is_leaf r.kind) v' in at p.1 (row_cases w d t r p.0 h)
    by (attribute_or n m) v' = absurd (true≢false (sym v'))
    by the_version v' = absurd (true≢false (sym v'))
    by _ v' = tt

pub attributes_held : Decimals → (w : SpecVersion) (d : Depth) (ts : Trees) (rs : List Row) → all_well rs ≡ true → FieldsHeld w d ts rs → AttributesHeld w ts rs
attributes_held dec w d none [] v h = tt
attributes_held dec w d none (r ∷ rs) v h = absurd (true≢false h)
attributes_held dec w d (more t ts) [] v h = absurd (true≢false h)
attributes_held dec w d (more t ts) (r ∷ rs) v h =
    let p : ((reads_well r.need r.kind r.xml && ends_well r.xml r.need r.since) ≡ true) × (all_well rs ≡ true) = and_true (reads_well r.need r.kind r.xml && ends_well r.xml r.need r.since) (all_well rs) v in
    (attribute_held dec w d t r (and_true (reads_well r.need r.kind r.xml) (ends_well r.xml r.need r.since) p.0).0 h.0, attributes_held dec w d ts rs p.1 h.1)

-- A record without content and without a form of its own is read back where its children are.
pub well_xread : Decimals → (w : SpecVersion) (d : Depth) (n : Name) (ts : Trees) → name_too_deep n d ≡ false
    → all_well (rows n) ≡ true → content_from 0 (rows n) ≡ no_content → distinct (all_attribute_names (rows n)) ≡ true
    → in_force n (attributes_of (fields n ts) w (a_record n)) ≡ attributes_in ts (rows n) w
    → FieldsHeld w (inside n d) ts (rows n) → RowsRead w (inside n d) ts (rows n) (first_fields w ts (rows n)) (second_fields w ts (rows n))
    → IsXRead w d (fields n ts) (a_record n) (tripped w (fields n ts) (a_record n))
unfolding tripped
well_xread dec w d n ts deep well plain names' order held reads =
    record_xread w d n ts (first_fields w ts (rows n)) (second_fields w ts (rows n)) (rows_tripped w ts (rows n)) deep plain (child_names_distinct n)
    (λ around p. ap (λ a. attributes_read (rows n) a w around p) order ∙ attributes_back w ts (rows n) [] (attributes_in ts (rows n) w) around p names' (λ q h ys. refl) (attributes_held dec w (inside n d) ts (rows n) well held) refl)
    reads (rows_end w (inside n d) ts (rows n) well held)

-- ---- records with content

abbrev pub XBack : SpecVersion → Depth → Name → Trees → Type 0
XBack w d n ts = IsXRead w d (fields n ts) (a_record n) (tripped w (fields n ts) (a_record n))

pub optional_text : (w : SpecVersion) (d : Depth) (t : Tree) (r : Row) → r.need ≡ optional → r.kind ≡ a_text → RowHeld w d t r → (t ≡ absent) ⊎ ((s : List ℕ) × (t ≡ text s))
optional_text w d t r need kind h = by (row_cases w d t r (ap (λ n. not (is_else_empty n)) need) h)
  where
    by : ((t ≡ absent) × ((knows r.since w ≡ false) ⊎ (is_required r.need w ≡ false))) ⊎ ((knows r.since w ≡ true) × (is_absent t ≡ false) × Held w d t r.kind) → (t ≡ absent) ⊎ ((s : List ℕ) × (t ≡ text s))
    by (inl g) = inl g.0
    by (inr g) = inr (held_text w d t (subst (λ (k : Kind). Held w d t k) kind g.2))

pub two_texts_back : (w : SpecVersion) (d : Depth) (n : Name) (ts : Trees) → (f : List ℕ) × (g : List ℕ) × (ts ≡ two (text f) (text g)) → ((f g : List ℕ) → XBack w d n (two (text f) (text g))) → XBack w d n ts
two_texts_back w d n ts e h = subst (XBack w d n) (sym e.2) (h e.0 e.1)

pub one_text_back : (w : SpecVersion) (d : Depth) (n : Name) (ts : Trees) → (f : List ℕ) × (ts ≡ one (text f)) → ((f : List ℕ) → XBack w d n (one (text f))) → XBack w d n ts
one_text_back w d n ts e h = subst (XBack w d n) (sym e.1) (h e.0)

pub hash_back : (w : SpecVersion) (d : Depth) (f g : List ℕ) → XBack w d hash (two (text f) (text g))
unfolding xread nodes_of rows attributes_read ended tripped
hash_back w d f g tag p = refl

pub property_back : (w : SpecVersion) (d : Depth) (f g : List ℕ) → XBack w d property (two (text f) (text g))
unfolding xread nodes_of rows attributes_read ended tripped
property_back w d f g tag p = refl

pub class_back : (w : SpecVersion) (d : Depth) (f g : List ℕ) → XBack w d classification (two (text f) (text g))
unfolding xread nodes_of rows attributes_read ended tripped
class_back w d f g tag p = refl

pub copyright_back : (w : SpecVersion) (d : Depth) (f : List ℕ) → XBack w d copyright (one (text f))
unfolding xread nodes_of rows attributes_read ended tripped
copyright_back w d f tag p = refl

pub spdx_back : (w : SpecVersion) (d : Depth) (f : List ℕ) → XBack w d spdx_id (one (text f))
unfolding xread nodes_of rows attributes_read ended tripped
spdx_back w d f tag p = refl

pub name_back : (w : SpecVersion) (d : Depth) (f : List ℕ) → XBack w d license_name (one (text f))
unfolding xread nodes_of rows attributes_read ended tripped
name_back w d f tag p = refl

abbrev pub text_row : Row
text_row = must (row a_text content "expression")

pub expression_back : (w : SpecVersion) (d : Depth) (ts : Trees) → FieldsHeld w d ts (rows expression) → XBack w d expression ts
unfolding xread nodes_of rows attributes_read ended tripped
expression_back w d none h = absurd (true≢false h)
expression_back w d (more a us) h = by a us (optional_text w d a respelled_reference refl refl h.0) (one_text_of w d us text_row refl refl refl h.1)
  where
    at : (g : List ℕ) (b : Tree) → (b ≡ absent) ⊎ ((s : List ℕ) × (b ≡ text s)) → XBack w d expression (more b (one (text g)))
    at g b (inl e) = subst (λ (x : Tree). XBack w d expression (more x (one (text g)))) (sym e) (λ tag p. refl)
    at g b (inr e) = subst (λ (x : Tree). XBack w d expression (more x (one (text g)))) (sym e.1) (λ tag p. refl)

    by : (b : Tree) (vs : Trees) → (b ≡ absent) ⊎ ((s : List ℕ) × (b ≡ text s)) → (g : List ℕ) × (vs ≡ one (text g)) → XBack w d expression (more b vs)
    by b vs e f = subst (λ (x : Trees). XBack w d expression (more b x)) (sym f.1) (at f.0 b e)

pub attached_back : (w : SpecVersion) (d : Depth) (ts : Trees) → FieldsHeld w d ts (rows attached_text) → XBack w d attached_text ts
unfolding xread nodes_of rows attributes_read ended tripped
attached_back w d none h = absurd (true≢false h)
attached_back w d (more a none) h = absurd (true≢false h.1)
attached_back w d (more a (more b us)) h = by a b us (optional_text w d a (row a_text (attribute (codes "content-type")) "contentType") refl refl h.0) (optional_text w d b (at a_text "encoding") refl refl h.1.0) (one_text_of w d us (must (row a_text one_text "content")) refl refl refl h.1.1)
  where
    second : (g : List ℕ) (x y : Tree) → (x ≡ absent) ⊎ ((s : List ℕ) × (x ≡ text s)) → (y ≡ absent) ⊎ ((s : List ℕ) × (y ≡ text s)) → XBack w d attached_text (more x (more y (one (text g))))
    second g x y (inl e) (inl f) = subst (λ (z : Tree). XBack w d attached_text (more z (more y (one (text g))))) (sym e) (subst (λ (z : Tree). XBack w d attached_text (more absent (more z (one (text g))))) (sym f) (λ tag p. refl))
    second g x y (inl e) (inr f) = subst (λ (z : Tree). XBack w d attached_text (more z (more y (one (text g))))) (sym e) (subst (λ (z : Tree). XBack w d attached_text (more absent (more z (one (text g))))) (sym f.1) (λ tag p. refl))
    second g x y (inr e) (inl f) = subst (λ (z : Tree). XBack w d attached_text (more z (more y (one (text g))))) (sym e.1) (subst (λ (z : Tree). XBack w d attached_text (more (text e.0) (more z (one (text g))))) (sym f) (λ tag p. refl))
    second g x y (inr e) (inr f) = subst (λ (z : Tree). XBack w d attached_text (more z (more y (one (text g))))) (sym e.1) (subst (λ (z : Tree). XBack w d attached_text (more (text e.0) (more z (one (text g))))) (sym f.1) (λ tag p. refl))

    by : (x y : Tree) (vs : Trees) → (x ≡ absent) ⊎ ((s : List ℕ) × (x ≡ text s)) → (y ≡ absent) ⊎ ((s : List ℕ) × (y ≡ text s)) → (g : List ℕ) × (vs ≡ one (text g)) → XBack w d attached_text (more x (more y vs))
    by x y vs e f g = subst (λ (z : Trees). XBack w d attached_text (more x (more y z))) (sym g.1) (second g.0 x y e f)

-- ---- every record but the bill

pub record_back : Decimals → (w : SpecVersion) (d : Depth) (n : Name) (ts : Trees) → (n ≡ bill → ⊥) → name_too_deep n d ≡ false → FieldsHeld w (inside n d) ts (rows n)
    → (all_well (rows n) ≡ true → RowsRead w (inside n d) ts (rows n) (first_fields w ts (rows n)) (second_fields w ts (rows n))) → XBack w d n ts
unfolding rows list
record_back dec w d bill ts other' deep h f = absurd (other' refl)
record_back dec w d hash ts other' deep h f = two_texts_back w d hash ts (two_texts_of w d ts (must (at a_text "alg")) (must (row a_text content "content")) refl refl refl refl refl refl h) (hash_back w d)
record_back dec w d property ts other' deep h f = two_texts_back w d property ts (two_texts_of w d ts (must (at a_text "name")) (must (row a_text content "value")) refl refl refl refl refl refl h) (property_back w d)
record_back dec w d classification ts other' deep h f = two_texts_back w d classification ts (two_texts_of w d ts (must (at a_text "flow")) (must (row a_text content "classification")) refl refl refl refl refl refl h) (class_back w d)
record_back dec w d copyright ts other' deep h f = one_text_back w d copyright ts (one_text_of w d ts (must (row a_text as_cdata "text")) refl refl refl h) (copyright_back w d)
record_back dec w d spdx_id ts other' deep h f = one_text_back w d spdx_id ts (one_text_of w d ts (must (row a_text one_text "id")) refl refl refl h) (spdx_back w d)
record_back dec w d license_name ts other' deep h f = one_text_back w d license_name ts (one_text_of w d ts (must (row a_text one_text "name")) refl refl refl h) (name_back w d)
record_back dec w d expression ts other' deep h f = expression_back w d ts h
record_back dec w d attached_text ts other' deep h f = attached_back w d ts h
record_back dec w d n ts other' deep h f = well_xread dec w d n ts deep refl refl refl refl h (f refl)

-- ---- the induction

pub finds_list : (w : SpecVersion) (d : Depth) (l : Lists) → Finds w d (plan_of_list l) 0 (list l).kind (list l).name
unfolding list
finds_list w d licenses absent h = absurd (true≢false h)
finds_list w d licenses (text x) h = absurd (true≢false h)
finds_list w d licenses (number x) h = absurd (true≢false h)
finds_list w d licenses (boolean x) h = absurd (true≢false h)
finds_list w d licenses (items x) h = absurd (true≢false h.0)
finds_list w d licenses (fields n ts) h = by h.0
  where
    by : (n ≡ license) ⊎ (n ≡ expression) → (c : Child) × (find_child w (tag_of a_license_choice (fields n ts) (list licenses).name) (plan_of_list licenses).children ≡ Some c) × (c.field ≡ 0) × (c.place ≡ all) × (c.kind ≡ a_license_choice)
    by (inl e) = (record { name = codes "license"; since = V1_3; kind = a_license_choice; field = 0; place = all }, ap (λ (m : Name). find_child w (name_in a_license_choice m (list licenses).name) (plan_of_list licenses).children) e, refl, refl, refl)
    by (inr e) = (record { name = codes "expression"; since = V1_3; kind = a_license_choice; field = 0; place = all }, ap (λ (m : Name). find_child w (name_in a_license_choice m (list licenses).name) (plan_of_list licenses).children) e, refl, refl, refl)
finds_list w d l t h = finds_plain w d (plan_of_list l) 0 V1_3 (list l).kind (list l).name refl refl t h

pub list_elem : (l : Lists) → is_elem (list l).kind ≡ true
unfolding list
list_elem hashes = refl
list_elem _ = refl

pub choice_license : (w : SpecVersion) (d : Depth) (ts : Trees) → XBack w d license ts → IsXRead w d (fields license ts) a_license_choice (tripped w (fields license ts) a_license_choice)
unfolding xread nodes_of tripped
choice_license w d ts h tag p = h (codes "license") p

pub choice_expression : (w : SpecVersion) (d : Depth) (ts : Trees) → XBack w d expression ts → IsXRead w d (fields expression ts) a_license_choice (tripped w (fields expression ts) a_license_choice)
unfolding xread nodes_of tripped
choice_expression w d ts h tag p = h (codes "expression") p

pub identifier_xback : (w : SpecVersion) (d : Depth) (t : Tree) → Held w d t a_license_identifier → IsXRead w d t a_license_identifier (tripped w t a_license_identifier)
unfolding xread nodes_of rows attributes_read ended tripped
identifier_xback w d t h = by (identifier_of w d t h)
  where
    by : ((s : List ℕ) × (t ≡ fields spdx_id (one (text s)))) ⊎ ((s : List ℕ) × (t ≡ fields license_name (one (text s)))) → IsXRead w d t a_license_identifier (tripped w t a_license_identifier)
    by (inl e) = subst (λ (x : Tree). IsXRead w d x a_license_identifier (tripped w x a_license_identifier)) (sym e.1) (λ tag p. refl)
    by (inr e) = subst (λ (x : Tree). IsXRead w d x a_license_identifier (tripped w x a_license_identifier)) (sym e.1) (λ tag p. refl)

-- ---- tools

pub tools_list_back : (w : SpecVersion) (d : Depth) (ts us : Trees) → SetItems tools_plan w d 0 (nodes_of (items ts) w a_tools) us → IsXRead w d (items ts) a_tools (list_after a_tools w us)
unfolding xread
tools_list_back w d ts us h tag p =
    ap (λ x. x >>= (λ vs. tools_of E w vs)) (gather tools_plan tag w d (suc p) (nodes_of (items ts) w a_tools) us none (two absent absent) none h)
    ∙ by w us
  where
    E : Element
    E = record { name = tag; attributes = []; namespace = None; nodes = nodes_of (items ts) w a_tools; start = p; read = λ plan v e xs. nodes_read (nodes_of (items ts) w a_tools) plan tag v e (suc p) xs }

    by : (v : SpecVersion) (vs : Trees) → tools_of E v (more (gathered vs) (two absent absent)) ≡ Ok (list_after a_tools v vs)
    by V1_3 none = refl
    by V1_4 none = refl
    by V1_5 none = refl
    by V1_3 (more x xs) = refl
    by V1_4 (more x xs) = refl
    by V1_5 (more x xs) = refl

pub finds_tool : (w : SpecVersion) (d : Depth) → Finds w d tools_plan 0 (a_record tool) (codes "tool")
finds_tool w d t h = finds_plain w d tools_plan 0 V1_3 (a_record tool) (codes "tool") refl refl t h

-- the row of which the tools before an object are, and the rows of an object as its plan knows them
abbrev pub tool_row : Row
tool_row = every tool_list "tool"

abbrev pub object_rows : List Row
object_rows = from V1_5 (of (a_list services) "services") ∷ from V1_5 (of (a_list components) "components") ∷ []

object_held : (d : Depth) (ts : Trees) → FieldsHeld V1_5 d ts (rows tools_object) → FieldsHeld V1_5 d ts object_rows
unfolding rows
object_held d none h = h
object_held d (more s none) h = h
object_held d (more s (more c none)) h = h
object_held d (more s (more c (more x us))) h = h

-- rows that are written and read well are read back
abbrev pub RowsReadBack : SpecVersion → Depth → Trees → Type 0
RowsReadBack w d ts = (rs : List Row) → all_well rs ≡ true → FieldsHeld w d ts rs → RowsRead w d ts rs (first_fields w ts rs) (second_fields w ts rs)

pub tools_object_back : (d : Depth) (ts : Trees) → FieldsHeld V1_5 d ts (rows tools_object) → RowsRead V1_5 d ts object_rows (first_fields V1_5 ts object_rows) (second_fields V1_5 ts object_rows)
    → IsXRead V1_5 d (fields tools_object ts) a_tools (tripped V1_5 (fields tools_object ts) a_tools)
unfolding xread nodes_of tripped rows list
tools_object_back d none h r tag p = absurd (true≢false h)
tools_object_back d (more s none) h r tag p = absurd (true≢false h.1)
tools_object_back d (more s (more c (more x us))) h r tag p = absurd (true≢false h.1.1)
tools_object_back d (more s (more c none)) h r tag p =
    ap (λ x. x >>= (λ vs. tools_of E V1_5 vs)) (rows_read V1_5 d (two s c) object_rows (two absent absent) (two (tripped V1_5 s (a_list services)) (tripped V1_5 c (a_list components))) (tool_row ∷ []) strict tag (one absent) (suc p) refl refl r)
  where
    E : Element
    E = record { name = tag; attributes = []; namespace = None; nodes = fields_nodes (two s c) V1_5 (rows tools_object); start = p; read = λ plan v e xs. nodes_read (fields_nodes (two s c) V1_5 (rows tools_object)) plan tag v e (suc p) xs }

-- ---- signatures

pub signer_xback : (w : SpecVersion) (d : Depth) (ts : Trees) → FieldsHeld w d ts (rows signer) → IsXRead w d (fields signer ts) a_signature (tripped w (fields signer ts) a_signature)
unfolding xread nodes_of rows attributes_read ended tripped
signer_xback w d ts h = by (two_texts_of w d ts (must (of a_text "algorithm")) (must (of a_text "value")) refl refl refl refl refl refl h)
  where
    by : (f : List ℕ) × (g : List ℕ) × (ts ≡ two (text f) (text g)) → IsXRead w d (fields signer ts) a_signature (tripped w (fields signer ts) a_signature)
    by e = subst (λ (x : Trees). IsXRead w d (fields signer x) a_signature (tripped w (fields signer x) a_signature)) (sym e.2) (λ tag p. refl)

pub listed_back : (w : SpecVersion) (d : Depth) (n : Name) (name : List ℕ) (ts : Trees) (tag : List ℕ) (p : ℕ)
    → find_child w name signature_plan.children ≡ Some (record { name = name; since = V1_3; kind = a_record n; field = 0; place = last })
    → ((q : ℕ) → xread (plain_element name [] (fields_nodes ts w (rows n))) w (a_record n) q d ≡ Ok (tripped w (fields n ts) (a_record n)))
    → xread (plain_element tag [] (lone (plain_element name [] (fields_nodes ts w (rows n))))) w a_signature p d ≡ Ok (tripped w (fields n ts) a_signature)
unfolding xread tripped
listed_back w d n name ts tag p found read =
    ap (λ x. x >>= (λ vs. signature_of E w vs)) (node_step signature_plan tag w d (suc p) (plain_name name) [] (record { default = None }) (fields_nodes ts w (rows n)) (record { name = name; since = V1_3; kind = a_record n; field = 0; place = last }) (tripped w (fields n ts) (a_record n)) (more absent (two absent absent)) found refl (read (suc p)))
  where
    E : Element
    E = record { name = tag; attributes = []; namespace = None; nodes = lone (plain_element name [] (fields_nodes ts w (rows n))); start = p; read = λ plan v e xs. nodes_read (lone (plain_element name [] (fields_nodes ts w (rows n)))) plan tag v e (suc p) xs }

pub signers_xback : (w : SpecVersion) (d : Depth) (ts : Trees) → FieldsHeld w d ts (rows signers) → XBack w d signers ts → IsXRead w d (fields signers ts) a_signature (tripped w (fields signers ts) a_signature)
unfolding nodes_of rows
signers_xback w d none x h tag p = absurd (true≢false x)
signers_xback w d (more t (more u us)) x h tag p = absurd (true≢false x.1)
signers_xback w d (more t none) x h tag p = listed_back w d signers (codes "signers") (one t) tag p refl (h (codes "signers"))

pub chain_xback : (w : SpecVersion) (d : Depth) (ts : Trees) → FieldsHeld w d ts (rows chain) → XBack w d chain ts → IsXRead w d (fields chain ts) a_signature (tripped w (fields chain ts) a_signature)
unfolding nodes_of rows
chain_xback w d none x h tag p = absurd (true≢false x)
chain_xback w d (more t (more u us)) x h tag p = absurd (true≢false x.1)
chain_xback w d (more t none) x h tag p = listed_back w d chain (codes "chain") (one t) tag p refl (h (codes "chain"))

abbrev pub is_signers : Name → Bool
is_signers signers = true
is_signers _ = false

abbrev pub is_chain : Name → Bool
is_chain chain = true
is_chain _ = false

-- ---- data

pub class_item : (w : SpecVersion) (d : Depth) (us : Trees) → FieldsHeld w d us (rows classification)
    → SetsItem data_plan w d 0 (wrapped (fields classification us) w (codes "classification") an_entry (nodes_of (fields classification us) w an_entry)) (tripped w (fields classification us) an_entry)
unfolding xread nodes_of rows attributes_read ended tripped
class_item w d us h = by (two_texts_of w d us (must (at a_text "flow")) (must (row a_text content "classification")) refl refl refl refl refl refl h)
  where
    by : (f : List ℕ) × (g : List ℕ) × (us ≡ two (text f) (text g)) → SetsItem data_plan w d 0 (wrapped (fields classification us) w (codes "classification") an_entry (nodes_of (fields classification us) w an_entry)) (tripped w (fields classification us) an_entry)
    by e = subst (λ (x : Trees). SetsItem data_plan w d 0 (wrapped (fields classification x) w (codes "classification") an_entry (nodes_of (fields classification x) w an_entry)) (tripped w (fields classification x) an_entry)) (sym e.2)
        (record { name = codes "classification"; since = V1_3; kind = a_record classification; field = 0; place = all }, refl, refl, refl, (λ p. refl))

abbrev pub FlowItem : Depth → Name → Trees → Type 0
FlowItem d n us = SetsItem data_plan V1_5 d 1 (flow_of (fields n us) V1_5 an_entry (nodes_of (fields n us) V1_5 an_entry)) (tripped V1_5 (fields n us) an_entry)

pub class_flow : (d : Depth) (us : Trees) → FieldsHeld V1_5 d us (rows classification) → FlowItem d classification us
unfolding xread nodes_of rows attributes_read ended tripped
class_flow d us h = by (two_texts_of V1_5 d us (must (at a_text "flow")) (must (row a_text content "classification")) refl refl refl refl refl refl h)
  where
    by : (f : List ℕ) × (g : List ℕ) × (us ≡ two (text f) (text g)) → FlowItem d classification us
    by e = subst (FlowItem d classification) (sym e.2) (record { name = codes "dataflow"; since = V1_5; kind = an_entry; field = 1; place = all }, refl, refl, refl, (λ p. refl))

pub flow_flow : (d : Depth) (us : Trees) → is_flow service_data us ≡ true → FieldsHeld V1_5 d us (rows service_data) → FlowItem d service_data us
unfolding xread nodes_of rows attributes_read ended tripped
flow_flow d none f h = absurd (true≢false h)
flow_flow d (more a none) f h = absurd (true≢false h.1)
flow_flow d (more a (more b none)) f h = absurd (true≢false h.1.1)
flow_flow d (more a (more b (more c (more x us)))) f h = absurd (true≢false h.1.1.1)
flow_flow d (more a (more b (more c none))) f h = by a b c (optional_text V1_5 d a (at a_text "name") refl refl h.0) (optional_text V1_5 d b (at a_text "description") refl refl h.1.0) (class_of V1_5 d c (required_held V1_5 d c class_row refl refl h.1.1.0)) f
  where
    it : Child
    it = record { name = codes "dataflow"; since = V1_5; kind = an_entry; field = 1; place = all }

    two' : (x y : Tree) (f' g : List ℕ) → (x ≡ absent) ⊎ ((s : List ℕ) × (x ≡ text s)) → (y ≡ absent) ⊎ ((s : List ℕ) × (y ≡ text s)) → is_flow service_data (more x (more y (one (fields classification (two (text f') (text g)))))) ≡ true
        → FlowItem d service_data (more x (more y (one (fields classification (two (text f') (text g))))))
    two' x y f' g (inl e) (inl e') fl = absurd (true≢false (sym fl ∙ rw (e, e') refl))
    two' x y f' g (inl e) (inr e') fl = subst (λ (z : Tree). FlowItem d service_data (more z (more y (one (fields classification (two (text f') (text g))))))) (sym e) (subst (λ (z : Tree). FlowItem d service_data (more absent (more z (one (fields classification (two (text f') (text g))))))) (sym e'.1) (it, refl, refl, refl, (λ p. refl)))
    two' x y f' g (inr e) (inl e') fl = subst (λ (z : Tree). FlowItem d service_data (more z (more y (one (fields classification (two (text f') (text g))))))) (sym e.1) (subst (λ (z : Tree). FlowItem d service_data (more (text e.0) (more z (one (fields classification (two (text f') (text g))))))) (sym e') (it, refl, refl, refl, (λ p. refl)))
    two' x y f' g (inr e) (inr e') fl = subst (λ (z : Tree). FlowItem d service_data (more z (more y (one (fields classification (two (text f') (text g))))))) (sym e.1) (subst (λ (z : Tree). FlowItem d service_data (more (text e.0) (more z (one (fields classification (two (text f') (text g))))))) (sym e'.1) (it, refl, refl, refl, (λ p. refl)))

    by : (x y z : Tree) → (x ≡ absent) ⊎ ((s : List ℕ) × (x ≡ text s)) → (y ≡ absent) ⊎ ((s : List ℕ) × (y ≡ text s)) → (f' : List ℕ) × (g : List ℕ) × (z ≡ fields classification (two (text f') (text g))) → is_flow service_data (more x (more y (one z))) ≡ true
        → FlowItem d service_data (more x (more y (one z)))
    by x y z e e' q fl = subst (λ (v : Tree). is_flow service_data (more x (more y (one v))) ≡ true → FlowItem d service_data (more x (more y (one v)))) (sym q.2) (two' x y q.0 q.1 e e') fl

pub classes_set : (w : SpecVersion) (d : Depth) (ts : Trees) → AllHeld w d ts an_entry → any_flow ts ≡ false → SetItems data_plan w d 0 (items_nodes ts w (each_under (codes "classification")) an_entry) (items_tripped w ts an_entry)
unfolding nodes_of tripped
classes_set w d none h f = tt
classes_set w d (more absent ts) h f = absurd (true≢false h.0)
classes_set w d (more (text s) ts) h f = absurd (true≢false h.0)
classes_set w d (more (number s) ts) h f = absurd (true≢false h.0)
classes_set w d (more (boolean s) ts) h f = absurd (true≢false h.0)
classes_set w d (more (items s) ts) h f = absurd (true≢false h.0.0)
classes_set w d (more (fields n us) ts) h f =
    one_more data_plan w d 0 (is_passed_over (fields n us)) (wrapped (fields n us) w (codes "classification") an_entry (nodes_of (fields n us) w an_entry)) (items_nodes ts w (each_under (codes "classification")) an_entry) (tripped w (fields n us) an_entry) (items_tripped w ts an_entry)
    (λ g. by h.0.0) (classes_set w d ts h.1 (or_false (is_flow n us) (any_flow ts) f).1)
  where
    by : (n ≡ classification) ⊎ ((n ≡ service_data) × (is_flow n us ≡ true) × (w ≡ V1_5)) → SetsItem data_plan w d 0 (wrapped (fields n us) w (codes "classification") an_entry (nodes_of (fields n us) w an_entry)) (tripped w (fields n us) an_entry)
    by (inl e) = subst (λ (m : Name). FieldsHeld w (inside m d) us (rows m) → SetsItem data_plan w d 0 (wrapped (fields m us) w (codes "classification") an_entry (nodes_of (fields m us) w an_entry)) (tripped w (fields m us) an_entry)) (sym e) (class_item w d us) h.0.2
    by (inr e) = absurd (true≢false (sym e.1 ∙ (or_false (is_flow n us) (any_flow ts) f).0))

pub flows_set : (d : Depth) (ts : Trees) → AllHeld V1_5 d ts an_entry → SetItems data_plan V1_5 d 1 (items_nodes ts V1_5 as_flows an_entry) (items_tripped V1_5 ts an_entry)
unfolding nodes_of tripped
flows_set d none h = tt
flows_set d (more absent ts) h = absurd (true≢false h.0)
flows_set d (more (text s) ts) h = absurd (true≢false h.0)
flows_set d (more (number s) ts) h = absurd (true≢false h.0)
flows_set d (more (boolean s) ts) h = absurd (true≢false h.0)
flows_set d (more (items s) ts) h = absurd (true≢false h.0.0)
flows_set d (more (fields n us) ts) h =
    one_more data_plan V1_5 d 1 (is_passed_over (fields n us)) (flow_of (fields n us) V1_5 an_entry (nodes_of (fields n us) V1_5 an_entry)) (items_nodes ts V1_5 as_flows an_entry) (tripped V1_5 (fields n us) an_entry) (items_tripped V1_5 ts an_entry)
    (λ g. by h.0.0) (flows_set d ts h.1)
  where
    by : (n ≡ classification) ⊎ ((n ≡ service_data) × (is_flow n us ≡ true) × (V1_5 ≡ V1_5)) → FlowItem d n us
    by (inl e) = subst (λ (m : Name). FieldsHeld V1_5 (inside m d) us (rows m) → FlowItem d m us) (sym e) (class_flow d us) h.0.2
    by (inr e) = subst (λ (m : Name). is_flow m us ≡ true → FieldsHeld V1_5 (inside m d) us (rows m) → FlowItem d m us) (sym e.0) (flow_flow d us) e.1 h.0.2

pub flow_version : (w : SpecVersion) (d : Depth) (ts : Trees) → AllHeld w d ts an_entry → any_flow ts ≡ true → w ≡ V1_5
flow_version w d none h f = absurd (true≢false (sym f))
flow_version w d (more absent ts) h f = absurd (true≢false h.0)
flow_version w d (more (text s) ts) h f = absurd (true≢false h.0)
flow_version w d (more (number s) ts) h f = absurd (true≢false h.0)
flow_version w d (more (boolean s) ts) h f = absurd (true≢false h.0)
flow_version w d (more (items s) ts) h f = absurd (true≢false h.0.0)
flow_version w d (more (fields n us) ts) h f = by h.0.0 (flow_version w d ts h.1)
  where
    by : (n ≡ classification) ⊎ ((n ≡ service_data) × (is_flow n us ≡ true) × (w ≡ V1_5)) → (any_flow ts ≡ true → w ≡ V1_5) → w ≡ V1_5
    by (inl e) later = later (subst (λ (m : Name). (is_flow m us || any_flow ts) ≡ true → any_flow ts ≡ true) (sym e) (λ x. x) f)
    by (inr e) later = e.2

pub data_at : (w : SpecVersion) (d : Depth) (ts : Trees) (b : Bool) → any_flow ts ≡ b → AllHeld w d ts an_entry
    → (tag : List ℕ) (p : ℕ) → xread (plain_element tag [] (items_nodes ts w (if b then as_flows else each_under (codes "classification")) an_entry)) w a_data p d ≡ Ok (items (items_tripped w ts an_entry))
unfolding xread
data_at w d ts false f h tag p =
    ap (λ x. x >>= (λ vs. Ok (data_of vs))) (gather data_plan tag w d (suc p) (items_nodes ts w (each_under (codes "classification")) an_entry) (items_tripped w ts an_entry) none (one absent) none (classes_set w d ts h f))
    ∙ ap Ok (list_is (items_tripped w ts an_entry))
data_at w d ts true f h tag p =
    subst (λ (v : SpecVersion). AllHeld v d ts an_entry → xread (plain_element tag [] (items_nodes ts v as_flows an_entry)) v a_data p d ≡ Ok (items (items_tripped v ts an_entry))) (sym (flow_version w d ts h f))
    (λ g. ap (λ x. x >>= (λ vs. Ok (data_of vs))) (gather data_plan tag V1_5 d (suc p) (items_nodes ts V1_5 as_flows an_entry) (items_tripped V1_5 ts an_entry) (one absent) none none (flows_set d ts g)) ∙ ap Ok (last_is (items_tripped V1_5 ts an_entry))) h
  where
    last_is : (us : Trees) → data_of (two absent (gathered us)) ≡ items us
    last_is none = refl
    last_is (more u us) = refl

pub data_xback : (w : SpecVersion) (d : Depth) (ts : Trees) → AllHeld w d ts an_entry → IsXRead w d (items ts) a_data (tripped w (items ts) a_data)
unfolding nodes_of tripped list
data_xback w d ts h tag p = data_at w d ts (any_flow ts) refl h tag p

pub text_case : (w : SpecVersion) (d : Depth) (s : List ℕ) (k : Kind) → is_elem k ≡ true → IsTextHeld k s → IsXRead w d (text s) k (tripped w (text s) k)
unfolding tripped
text_case w d s a_text e h = text_xread w d s
text_case w d s a_reference e h = reference_xread w d s
text_case w d s a_version e h = absurd (true≢false (sym e))
text_case w d s _ e h = absurd (true≢false h)

pub number_case : (w : SpecVersion) (d : Depth) (n : ℕ) (k : Kind) → is_elem k ≡ true → IsNumberHeld k n → IsXRead w d (number n) k (tripped w (number n) k)
number_case w d n a_number e h = absurd (true≢false (sym e))
number_case w d n _ e h = absurd (true≢false h)

pub boolean_case : (w : SpecVersion) (d : Depth) (b : Bool) (k : Kind) → IsBooleanOf k → IsXRead w d (boolean b) k (tripped w (boolean b) k)
unfolding tripped
boolean_case w d b a_boolean h = boolean_xread w d b
boolean_case w d b _ h = absurd (true≢false h)

pub items_case : (w : SpecVersion) (d : Depth) (ts : Trees) (k : Kind) → Held w d (items ts) k
    → ((l : Lists) → AllHeld w d ts (list l).kind → SetItems (plan_of_list l) w d 0 (items_nodes ts w (each_under (list l).name) (list l).kind) (items_tripped w ts (list l).kind))
    → (AllHeld w d ts (a_record tool) → SetItems tools_plan w d 0 (items_nodes ts w (each_under (codes "tool")) (a_record tool)) (items_tripped w ts (a_record tool)))
    → IsXRead w d (items ts) k (tripped w (items ts) k)
unfolding tripped nodes_of list
items_case w d ts (a_list l) h f g = list_xread w d l ts (items_tripped w ts (list l).kind) (f l h.1)
items_case w d ts a_tools h f g = tools_list_back w d ts (items_tripped w ts (a_record tool)) (g h.1)
items_case w d ts a_data h f g = data_xback w d ts h.1
items_case w d ts _ h f g = absurd (true≢false h.0)

abbrev pub is_license : Name → Bool
is_license license = true
is_license _ = false

abbrev pub is_expression : Name → Bool
is_expression expression = true
is_expression _ = false

pub fields_case : (w : SpecVersion) (d : Depth) (n : Name) (ts : Trees) (k : Kind) → is_elem k ≡ true → Held w d (fields n ts) k
    → ((n ≡ bill → ⊥) → XBack w d n ts) → RowsReadBack w (inside n d) ts → IsXRead w d (fields n ts) k (tripped w (fields n ts) k)
unfolding tripped rows list
fields_case w d n ts (a_record m) e h f g = subst (λ (j : Name). IsXRead w d (fields n ts) (a_record j) (tripped w (fields n ts) (a_record j))) h.0 (f (λ b. true≢false (sym e ∙ (ap (λ (j : Name). is_elem (a_record j)) (sym h.0) ∙ ap (λ (j : Name). is_elem (a_record j)) b))))
fields_case w d n ts a_license_choice e h f g = by h.0
  where
    by : (n ≡ license) ⊎ (n ≡ expression) → IsXRead w d (fields n ts) a_license_choice (tripped w (fields n ts) a_license_choice)
    by (inl q) = subst (λ (m : Name). ((m ≡ bill → ⊥) → XBack w d m ts) → IsXRead w d (fields m ts) a_license_choice (tripped w (fields m ts) a_license_choice)) (sym q) (λ x. choice_license w d ts (x (λ b. true≢false (ap is_license b)))) f
    by (inr q) = subst (λ (m : Name). ((m ≡ bill → ⊥) → XBack w d m ts) → IsXRead w d (fields m ts) a_license_choice (tripped w (fields m ts) a_license_choice)) (sym q) (λ x. choice_expression w d ts (x (λ b. true≢false (ap is_expression b)))) f
fields_case w d n ts a_license_identifier e h f g = identifier_xback w d (fields n ts) h
fields_case w d n ts a_tools e h f g =
    subst (λ (m : Name). FieldsHeld w (inside m d) ts (rows m) → RowsReadBack w (inside m d) ts → IsXRead w d (fields m ts) a_tools (tripped w (fields m ts) a_tools)) (sym h.0.0)
    (subst (λ (v : SpecVersion). FieldsHeld v d ts (rows tools_object) → RowsReadBack v d ts → IsXRead v d (fields tools_object ts) a_tools (tripped v (fields tools_object ts) a_tools)) (sym h.0.1)
    (λ x y. tools_object_back d ts x (y object_rows (unfold list in refl) (object_held d ts x)))) h.2 g
fields_case w d n ts a_signature e h f g = by h.0
  where
    by : (n ≡ signers) ⊎ ((n ≡ chain) ⊎ (n ≡ signer)) → IsXRead w d (fields n ts) a_signature (tripped w (fields n ts) a_signature)
    by (inl q) = subst (λ (m : Name). FieldsHeld w (inside m d) ts (rows m) → ((m ≡ bill → ⊥) → XBack w d m ts) → IsXRead w d (fields m ts) a_signature (tripped w (fields m ts) a_signature)) (sym q) (λ x y. signers_xback w d ts x (y (λ b. true≢false (ap is_signers b)))) h.2 f
    by (inr (inl q)) = subst (λ (m : Name). FieldsHeld w (inside m d) ts (rows m) → ((m ≡ bill → ⊥) → XBack w d m ts) → IsXRead w d (fields m ts) a_signature (tripped w (fields m ts) a_signature)) (sym q) (λ x y. chain_xback w d ts x (y (λ b. true≢false (ap is_chain b)))) h.2 f
    by (inr (inr q)) = subst (λ (m : Name). FieldsHeld w (inside m d) ts (rows m) → IsXRead w d (fields m ts) a_signature (tripped w (fields m ts) a_signature)) (sym q) (signer_xback w d ts) h.2
fields_case w d n ts an_entry e h f g = absurd (true≢false (sym e))
fields_case w d n ts a_bill e h f g = absurd (true≢false (sym e))
fields_case w d n ts _ e h f g = absurd (true≢false h.0)

abbrev pub items_in : Tree → Trees
items_in (items ts) = ts
items_in _ = none

mutual
  unfolding tripped nodes_of

  pub xml_back : Decimals → (w : SpecVersion) → (d : Depth) (t : Tree) (k : Kind) → is_elem k ≡ true → Held w d t k → IsXRead w d t k (tripped w t k)
  xml_back dec w d absent k e h = absurd (true≢false h)
  xml_back dec w d (text s) k e h = text_case w d s k e h
  xml_back dec w d (number n) k e h = number_case w d n k e h
  xml_back dec w d (boolean b) k e h = boolean_case w d b k h
  xml_back dec w d (items ts) k e h = items_case w d ts k h (λ l g. items_back dec w d ts (list l).kind (list l).name (plan_of_list l) 0 (list_elem l) g (finds_list w d l)) (λ g. items_back dec w d ts (a_record tool) (codes "tool") tools_plan 0 refl g (finds_tool w d))
  xml_back dec w d (fields n ts) k e h = fields_case w d n ts k e h (λ b. record_back dec w d n ts b h.1 h.2 (λ well. rows_back dec w (inside n d) ts (rows n) well h.2)) (λ rs well held. rows_back dec w (inside n d) ts rs well held)

  pub items_back : Decimals → (w : SpecVersion) → (d : Depth) (ts : Trees) (k : Kind) (tag : List ℕ) (plan : Plan) (i : ℕ) → is_elem k ≡ true → AllHeld w d ts k → Finds w d plan i k tag
      → SetItems plan w d i (items_nodes ts w (each_under tag) k) (items_tripped w ts k)
  items_back dec w d none k tag plan i e h f = tt
  items_back dec w d (more t ts) k tag plan i e h f =
      one_more plan w d i (is_passed_over t) (wrapped t w tag k (nodes_of t w k)) (items_nodes ts w (each_under tag) k) (tripped w t k) (items_tripped w ts k)
      (λ g. item_set w d t k (tripped w t k) plan i tag h.0 f (xml_back dec w d t k e h.0)) (items_back dec w d ts k tag plan i e h.1 f)

  pub tree_items : Decimals → (w : SpecVersion) → (d : Depth) (t : Tree) → ItemsRead w d t
  tree_items dec w d (items us) ts is l v plan i h f =
      subst (λ (vs : Trees). AllHeld w d vs (list l).kind → SetItems plan w d i (nodes_of (items vs) w (a_list l)) (items_tripped w vs (list l).kind)) (ap items_in is)
      (λ g. items_back dec w d us (list l).kind (list l).name plan i (and_true (is_plain (list l).kind) (is_elem (list l).kind) v).1 g f) h
  tree_items dec w d _ ts is l v plan i h f = grind arith

  pub rows_back : Decimals → (w : SpecVersion) → (d : Depth) (ts : Trees) (rs : List Row) → all_well rs ≡ true → FieldsHeld w d ts rs → RowsRead w d ts rs (first_fields w ts rs) (second_fields w ts rs)
  rows_back dec w d none [] v h = tt
  rows_back dec w d none (r ∷ rs) v h = absurd (true≢false h)
  rows_back dec w d (more t ts) [] v h = absurd (true≢false h)
  rows_back dec w d (more t ts) (r ∷ rs) v h =
      let p : ((reads_well r.need r.kind r.xml && ends_well r.xml r.need r.since) ≡ true) × (all_well rs ≡ true) = and_true (reads_well r.need r.kind r.xml && ends_well r.xml r.need r.since) (all_well rs) v in (
        row_back w d t r (and_true (reads_well r.need r.kind r.xml) (ends_well r.xml r.need r.since) p.0).0 h.0 (λ e plain g. xml_back dec w d t r.kind e g) (tree_items dec w d t),
        rows_back dec w d ts rs p.1 h.1,
      )
