-- The element of a whole bill is read back.
use Rattle.std.specs.Prelude.{◌≡◌, refl, ℕ, ◌^◌, ◌&&◌, List, [], ◌∷◌, ◌++◌, reverse, Bool, true, false, nat_lt, if◌then◌else◌, ◌⊎◌, Some, Ok, codes}
use Rattle.std.proofs.Common.{true≢false, inl, inr}
use Rattle.std.specs.Str.{bytes_eq}
use mathlib.Core.Path.{ap, sym, ◌∙◌, subst}
use Rattle.cdx_models.specs.declared.bom.SpecVersion.{SpecVersion}
use Rattle.cdx_models.specs.Versions.{knows, label, namespace}
use Rattle.cdx_models.specs.Trees.{bill, Tree, absent, text, number, fields, Trees, none, more, two}
use Rattle.cdx_schema.specs.Kinds.{Row, lax, Spelled, attribute, a_text, a_number, a_version, a_bill, the_version, attribute_or}
use Rattle.cdx_schema.specs.Table.{rows, rule, list, row, must, at, bill_children}
use Rattle.cdx_schema.specs.Results.{◌>>=◌}
use Rattle.cdx_schema.specs.Depth.{Depth}
use Rattle.cdx_schema.specs.XmlTexts.{decimal, number_tree}
use Rattle.cdx_schema.specs.XmlReading.{xread, nodes_read, attributes_read, ended, end_of, Element, content_fields, content_from, no_content, record_plan}
use Rattle.cdx_schema.specs.XmlSpelling.{root, nodes_of, fields_nodes, attributes_in, attributes_of, attribute_of, row_attributes, plain_name}
use Rattle.cdx_schema.proofs.JsonBack.{FieldsHeld, if_true, same_itself, and_true}
use Rattle.cdx_schema.proofs.XmlBack.{rows_read, ended_is}
use Rattle.cdx_schema.proofs.XmlLaw.{tripped, rows_tripped, first_fields, second_fields, rows_back, rows_end, attributes_back, attributes_held, same_either}
use Rattle.cdx_schema.proofs.DecimalTexts.{decimals}
use Rattle.cdx_events.specs.declared.name.OwnedAttribute.{OwnedAttribute}
use Rattle.cdx_events.specs.Nodes.{Nodes, element}

abbrev bill_front : List Row
bill_front = must (row a_version the_version "specVersion") ∷ must (row a_number (attribute_or (codes "version") 1) "version") ∷ at a_text "serialNumber" ∷ []

-- Rows without attributes write none.
abbrev bears_none : Spelled → Bool
bears_none (attribute n) = false
bears_none (attribute_or n m) = false
bears_none _ = true

abbrev bear_none : List Row → Bool
bear_none [] = true
bear_none (r ∷ rs) = bears_none r.xml && bear_none rs

row_bears_none : (r : Row) (t : Tree) → bears_none r.xml ≡ true → row_attributes r t ≡ []
row_bears_none r t h = by r.xml h
  where
    by : (x : Spelled) → bears_none x ≡ true → row_attributes (record r { xml = x }) t ≡ []
    by (attribute n) e = absurd (true≢false (sym e))
    by (attribute_or n m) e = absurd (true≢false (sym e))
    by _ e = refl

no_attributes : (w : SpecVersion) (ts : Trees) (rs : List Row) → bear_none rs ≡ true → attributes_in ts rs w ≡ []
no_attributes w none rs h = refl
no_attributes w (more t ts) [] h = refl
no_attributes w (more t ts) (r ∷ rs) h =
    let p : (bears_none r.xml ≡ true) × (bear_none rs ≡ true) = and_true (bears_none r.xml) (bear_none rs) h in
    ap (λ x. (if knows r.since w then x else []) ++ attributes_in ts rs w) (row_bears_none r t p.0)
    ∙ (ap (λ x. x ++ attributes_in ts rs w) (same_either (knows r.since w) []) ∙ no_attributes w ts rs p.1)

append_nothing : (xs : List OwnedAttribute) → xs ≡ xs ++ []
append_nothing [] = refl
append_nothing (x ∷ xs) = ap (x ∷◌) (append_nothing xs)

rest_attributes : (w : SpecVersion) (d : Depth) (ts : Trees) (as' : List OwnedAttribute) (around : List ℕ) (p : ℕ) → FieldsHeld w d ts bill_children → attributes_read bill_children as' w around p ≡ Ok (first_fields w ts bill_children)
unfolding list
rest_attributes w d ts as' around p held =
    attributes_back w ts bill_children as' as' around p refl (λ q h ys. absurd (true≢false (sym h))) (attributes_held decimals w d ts bill_children refl held)
    (append_nothing as' ∙ ap (as' ++◌) (sym (no_attributes w ts bill_children refl)))

-- the first three fields, and the root's attributes
abbrev pub whole : SpecVersion → ℕ → Tree → Trees → Trees
whole w n s ts = more (text (label w)) (more (number n) (more s ts))

abbrev version_attribute : ℕ → OwnedAttribute
version_attribute n = record { name = plain_name (codes "version"); value = decimal n }

abbrev pub IsSerial : Tree → Type 0
IsSerial s = (s ≡ absent) ⊎ ((x : List ℕ) × (s ≡ text x))

root_attributes : (w : SpecVersion) (n : ℕ) (ts : Trees) (s : Tree) → attributes_of (fields bill (whole w n s ts)) w a_bill ≡ reverse (version_attribute n ∷ (attribute_of (codes "serialNumber") s ++ []))
unfolding rows
root_attributes w n ts s = ap (λ x. reverse (version_attribute n ∷ (attribute_of (codes "serialNumber") s ++ x))) (no_attributes w ts bill_children refl)

first_three : (w : SpecVersion) (d : Depth) (n : ℕ) (ts : Trees) (around : List ℕ) (p : ℕ) → nat_lt n (2 ^ 32) ≡ true → FieldsHeld w d ts bill_children
    → attributes_read (rows bill) (version_attribute n ∷ []) w around p ≡ Ok (whole w n absent (first_fields w ts bill_children))
unfolding attributes_read rows
first_three w d n ts around p lt held = rw (ap number_tree (decimals n lt)) (ap (λ x. x >>= (λ us. Ok (whole w n absent us))) (rest_attributes w d ts (version_attribute n ∷ []) around p held))

first_four : (w : SpecVersion) (d : Depth) (n : ℕ) (x : List ℕ) (ts : Trees) (around : List ℕ) (p : ℕ) → nat_lt n (2 ^ 32) ≡ true → FieldsHeld w d ts bill_children
    → attributes_read (rows bill) (record { name = plain_name (codes "serialNumber"); value = x } ∷ version_attribute n ∷ []) w around p ≡ Ok (whole w n (text x) (first_fields w ts bill_children))
unfolding attributes_read rows
first_four w d n x ts around p lt held = rw (ap number_tree (decimals n lt)) (ap (λ y. y >>= (λ us. Ok (whole w n (text x) us))) (rest_attributes w d ts (record { name = plain_name (codes "serialNumber"); value = x } ∷ version_attribute n ∷ []) around p held))

abbrev pub IsBillRead : SpecVersion → Depth → ℕ → Trees → Tree → Type 0
IsBillRead w d n ts s = xread (root (fields bill (whole w n s ts)) w) w a_bill 1 d ≡ Ok (tripped w (fields bill (whole w n s ts)) a_bill)

-- A bill whose attributes, children and end are read is read.
bill_steps : (w : SpecVersion) (d : Depth) (n : ℕ) (ts : Trees) (s : Tree) (as' : List OwnedAttribute) (xs : Nodes)
    → attributes_of (fields bill (whole w n s ts)) w a_bill ≡ as' → nodes_of (fields bill (whole w n s ts)) w a_bill ≡ xs
    → attributes_read (rows bill) as' w (codes "bom") 1 ≡ Ok (whole w n s (first_fields w ts bill_children))
    → nodes_read xs (record_plan bill) (codes "bom") w d 2 (whole w n s (first_fields w ts bill_children)) ≡ Ok (whole w n s (second_fields w ts bill_children))
    → ((p : ℕ) → ended (rows bill) (whole w n s (second_fields w ts bill_children)) w (codes "bom") p ≡ Ok (rows_tripped w (whole w n s ts) (rows bill)))
    → IsBillRead w d n ts s
unfolding xread tripped
bill_steps w d n ts s as' xs is holds atts reads ends =
    ap (λ a. xread (element (plain_name (codes "bom")) a (record { default = Some (namespace w) }) (nodes_of (fields bill (whole w n s ts)) w a_bill)) w a_bill 1 d) is
    ∙ (ap (λ y. xread (element (plain_name (codes "bom")) as' (record { default = Some (namespace w) }) y) w a_bill 1 d) holds
    ∙ (if_true (bytes_eq (namespace w) (namespace w)) _ _ (same_itself (namespace w))
    ∙ (ap (λ x. (x >>= (λ vs. content_fields (content_from 0 (rows bill)) E bill vs w d)) >>= (λ us. ended (rows bill) us w (codes "bom") (end_of E) >>= (λ zs. Ok (fields bill zs)))) atts
    ∙ (ap (λ c. content_fields c E bill (whole w n s (first_fields w ts bill_children)) w d >>= (λ us. ended (rows bill) us w (codes "bom") (end_of E) >>= (λ zs. Ok (fields bill zs)))) no_text
    ∙ (ap (λ x. x >>= (λ us. ended (rows bill) us w (codes "bom") (end_of E) >>= (λ zs. Ok (fields bill zs)))) reads
    ∙ ap (λ x. x >>= (λ zs. Ok (fields bill zs))) (ends (end_of E)))))))
  where
    E : Element
    E = record { name = codes "bom"; attributes = as'; namespace = Some (namespace w); nodes = xs; start = 1; read = λ plan v e us. nodes_read xs plan (codes "bom") v e 2 us }

    no_text : content_from 0 (rows bill) ≡ no_content
    no_text = unfold rows in refl

children_back : (w : SpecVersion) (d : Depth) (n : ℕ) (ts : Trees) (s : Tree) → FieldsHeld w d ts bill_children
    → nodes_read (fields_nodes ts w bill_children) (record_plan bill) (codes "bom") w d 2 (whole w n s (first_fields w ts bill_children)) ≡ Ok (whole w n s (second_fields w ts bill_children))
unfolding rows rule list
children_back w d n ts s held = rows_read w d ts bill_children (first_fields w ts bill_children) (second_fields w ts bill_children) bill_front lax (codes "bom") (more (text (label w)) (two (number n) s)) 2 refl refl (rows_back decimals w d ts bill_children refl held)

pub bill_xback : (w : SpecVersion) (d : Depth) (n : ℕ) (ts : Trees) (s : Tree) → nat_lt n (2 ^ 32) ≡ true → IsSerial s → FieldsHeld w d ts bill_children → IsBillRead w d n ts s
bill_xback w d n ts s lt (inl e) held = subst (IsBillRead w d n ts) (sym e)
    (bill_steps w d n ts absent (version_attribute n ∷ []) (fields_nodes ts w bill_children) (root_attributes w n ts absent) (unfold nodes_of rows in refl) (first_three w d n ts (codes "bom") 1 lt held) (children_back w d n ts absent held)
    (λ p. ended_is w (whole w n absent (second_fields w ts bill_children)) (rows bill) (rows_tripped w (whole w n absent ts) (rows bill)) (codes "bom") p (unfold rows tripped list in (refl, refl, (refl, refl, (refl, refl, rows_end w d ts bill_children refl held))))))
bill_xback w d n ts s lt (inr e) held = subst (IsBillRead w d n ts) (sym e.1)
    (bill_steps w d n ts (text e.0) (record { name = plain_name (codes "serialNumber"); value = e.0 } ∷ version_attribute n ∷ []) (fields_nodes ts w bill_children) (root_attributes w n ts (text e.0)) (unfold nodes_of rows in refl) (first_four w d n e.0 ts (codes "bom") 1 lt held) (children_back w d n ts (text e.0) held)
    (λ p. ended_is w (whole w n (text e.0) (second_fields w ts bill_children)) (rows bill) (rows_tripped w (whole w n (text e.0) ts) (rows bill)) (codes "bom") p (unfold rows tripped list in (refl, refl, (refl, refl, (refl, refl, rows_end w d ts bill_children refl held))))))
