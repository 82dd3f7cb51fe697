-- Bills once an empty tool list counts as a tools object without parts.
use Rattle.std.proofs.Common.{◌≡◌, ◌↔◌, Bool, true, false, not, ◌&&◌, List, [], ◌∷◌, length, Option, Some, None, is_some, is_none, refl, sym, ap, ◌∙◌, arith}
use Rattle.cdx_models.specs.Trees.{component, entity, tools_object, metadata, bill, Tree, absent, text, number, boolean, items, fields, Trees, two, ◌⧺◌, trees, each, present, list_tree, is_absent}
use Rattle.cdx_models.specs.Equal.{equal, equal_each}
use Rattle.cdx_models.specs.EqualLaws.{equal-Decides, equal_laws}
use Rattle.cdx_models.specs.Records.{urn_tree, contact_tree, entity_tree, references_tree, properties_tree, tool_tree}
use mathlib.Core.Bool.{and-true}
use Rattle.cdx_models.specs.declared.tool.Tool.{Tool}
use Rattle.cdx_license.specs.Records.{licenses_tree}
use Rattle.cdx_relations.specs.Records.{dependencies_tree, compositions_tree}
use Rattle.cdx_signature.specs.Records.{signature_tree}
use Rattle.cdx_models.proofs.Lists.{equal_each-append}
use Rattle.cdx_schema.specs.Kinds.{Kind, tool_list, authors, licenses, components, services, external_references, dependencies, compositions, properties, a_text, a_list, a_record, a_tools, a_signature, a_bill}
use Rattle.cdx_schema.specs.Table.{rows, list}
use Rattle.cdx_schema.specs.Trips.{settled, list_settled, IsSame}
use Rattle.cdx_nest.specs.Nested.{component_tree, components_tree, Components, services_tree, Services, components_there, services_there}
use Rattle.cdx_nest.specs.declared.metadata.Metadata.{Metadata}
use Rattle.cdx_nest.specs.declared.tools.Tools.{Tools}
use Rattle.cdx_nest.specs.Trees.{object_tree, tools_tree, tools_there, metadata_tree}
use Rattle.cdx_schema.proofs.Alike.{settled_there}
use Rattle.cdx_bom.specs.declared.bom.Bom.{Bom}
use Rattle.cdx_bom.specs.Trees.{identity, bill_contents, relations, bom_tree}
use Rattle.cdx_bom.specs.SettledBills.{settled_inventory}
use Rattle.cdx_bom.proofs.Compared.{inventory_with_compared}
use Rattle.cdx_bom.proofs.Names.{lacks, is_metadata, metadata_spares, is_tools, settled_as_is, items_settled_as_is}
use Rattle.cdx_bom.proofs.Leaves.{texts_lack, row_lacks, list_lacks, items_lack, urn_lacks, contact_lacks, entity_lacks, licenses_lack, tool_lacks, references_lack, dependencies_lack, compositions_lack, properties_lack, signature_lacks}
use Rattle.cdx_bom.proofs.Whole.{component_lacks, components_lack, services_lack}

as_is : {A : Type 0} (f : A → Tree) (o : Option A) (k : Kind) → is_tools k ≡ false → ((x : A) → lacks is_metadata (f x) ≡ true) → settled (present f o) k ≡ present f o
as_is f o k e h = settled_as_is (present f o) k e (row_lacks is_metadata f h o)

-- ---- bills

pub bill_settled : (b : Bom) → settled (bom_tree b) a_bill ≡ fields bill (settled_inventory b ⧺ relations b)
unfolding settled rows
bill_settled b = rw (
  as_is urn_tree b.serial_number a_text refl (urn_lacks is_metadata),
  as_is components_tree b.components (a_list components) refl (components_lack is_metadata metadata_spares refl),
  as_is services_tree b.services (a_list services) refl (services_lack is_metadata metadata_spares refl),
  as_is references_tree b.external_references (a_list external_references) refl (references_lack is_metadata metadata_spares),
  as_is dependencies_tree b.dependencies (a_list dependencies) refl (dependencies_lack is_metadata metadata_spares),
  as_is compositions_tree b.compositions (a_list compositions) refl (compositions_lack is_metadata metadata_spares),
  as_is properties_tree b.properties (a_list properties) refl (properties_lack is_metadata metadata_spares),
  as_is signature_tree b.signature a_signature refl (signature_lacks is_metadata metadata_spares),
) refl

pub bills_compared : (a b : Bom) → equal (settled (bom_tree a) a_bill) (settled (bom_tree b) a_bill) ≡ (equal_each (settled_inventory a) (settled_inventory b) && equal_each (relations a) (relations b))
bills_compared a b =
    ap (λ x. equal x (settled (bom_tree b) a_bill)) (bill_settled a) ∙ ap (equal (fields bill (settled_inventory a ⧺ relations a))) (bill_settled b)
    ∙ equal_each-append (settled_inventory a) (settled_inventory b) (relations a) (relations b) refl

pub inventory_settled : (a b : Bom) → equal_each (settled_inventory a) (settled_inventory b)
    ≡ (equal_each (identity a) (identity b) && (equal (settled (present metadata_tree a.metadata) (a_record metadata)) (settled (present metadata_tree b.metadata) (a_record metadata)) && equal_each (bill_contents a) (bill_contents b)))
inventory_settled a b = inventory_with_compared (settled (present metadata_tree a.metadata) (a_record metadata)) (settled (present metadata_tree b.metadata) (a_record metadata)) a b

-- the test is the one that the definition asks for
pub decides : (a b : Bom) (r : Bool) → r ≡ equal (settled (bom_tree a) a_bill) (settled (bom_tree b) a_bill) → (r ≡ true) ↔ IsSame (bom_tree a) (bom_tree b)
decides a b r is =
    let d = equal-Decides (settled (bom_tree a) a_bill) (settled (bom_tree b) a_bill) in
    ((λ e. d.0 (sym is ∙ e)), (λ e. is ∙ d.1 e))

-- ---- metadata

abbrev pub makers_settled : Metadata → Trees
makers_settled m = trees (present text m.timestamp ∷ settled (present tools_tree m.tools) a_tools ∷ present (list_tree contact_tree) m.authors ∷ present component_tree m.component ∷ present entity_tree m.manufacture ∷ present entity_tree m.supplier ∷ present licenses_tree m.licenses ∷ present properties_tree m.properties ∷ [])

pub metadata_is : (m : Metadata) → settled (metadata_tree m) (a_record metadata) ≡ fields metadata (makers_settled m)
unfolding settled rows
metadata_is m = rw (
  settled_as_is (present text m.timestamp) a_text refl (texts_lack is_metadata m.timestamp),
  as_is (list_tree contact_tree) m.authors (a_list authors) refl (list_lacks is_metadata contact_tree (contact_lacks is_metadata metadata_spares)),
  as_is component_tree m.component (a_record component) refl (component_lacks is_metadata metadata_spares refl),
  as_is entity_tree m.manufacture (a_record entity) refl (entity_lacks is_metadata metadata_spares),
  as_is entity_tree m.supplier (a_record entity) refl (entity_lacks is_metadata metadata_spares),
  as_is licenses_tree m.licenses (a_list licenses) refl (licenses_lack is_metadata metadata_spares),
  as_is properties_tree m.properties (a_list properties) refl (properties_lack is_metadata metadata_spares),
) refl

pub metadata_settled : (a b : Metadata) → equal (settled (metadata_tree a) (a_record metadata)) (settled (metadata_tree b) (a_record metadata)) ≡ equal_each (makers_settled a) (makers_settled b)
metadata_settled a b =
    ap (λ t. equal t (settled (metadata_tree b) (a_record metadata))) (metadata_is a) ∙ ap (equal (fields metadata (makers_settled a))) (metadata_is b)

-- ---- tools

pub settled_list : (xs : List Tool) → settled (list_tree tool_tree xs) a_tools ≡ list_settled a_tools (each tool_tree xs)
unfolding settled list
settled_list xs = ap (list_settled a_tools) (items_settled_as_is (each tool_tree xs) (list tool_list).kind refl (items_lack is_metadata tool_tree (tool_lacks is_metadata metadata_spares) xs))

pub settled_object : (ss : Option Services) (cs : Option Components) → settled (object_tree ss cs) a_tools ≡ object_tree ss cs
unfolding settled rows
settled_object ss cs = rw (
  as_is services_tree ss (a_list services) refl (services_lack is_metadata metadata_spares refl),
  as_is components_tree cs (a_list components) refl (components_lack is_metadata metadata_spares refl),
) refl

lists : (xs ys : List Tool) → equal (list_tree tool_tree xs) (list_tree tool_tree ys) ≡ equal (list_settled a_tools (each tool_tree xs)) (list_settled a_tools (each tool_tree ys))
lists [] [] = refl
lists [] (y ∷ ys) = refl
lists (x ∷ xs) [] = refl
lists (x ∷ xs) (y ∷ ys) = refl

pub tool_lists : (xs ys : List Tool) → equal (list_tree tool_tree xs) (list_tree tool_tree ys) ≡ equal (settled (list_tree tool_tree xs) a_tools) (settled (list_tree tool_tree ys) a_tools)
tool_lists xs ys = lists xs ys ∙ sym (ap (λ t. equal t (settled (list_tree tool_tree ys) a_tools)) (settled_list xs) ∙ ap (equal (list_settled a_tools (each tool_tree xs))) (settled_list ys))

pub tool_objects : (ss ts : Option Services) (cs ds : Option Components) → equal (settled (object_tree ss cs) a_tools) (settled (object_tree ts ds) a_tools) ≡ (equal (present services_tree ss) (present services_tree ts) && equal (present components_tree cs) (present components_tree ds))
tool_objects ss ts cs ds =
    ap (λ t. equal t (settled (object_tree ts ds) a_tools)) (settled_object ss cs) ∙ ap (equal (object_tree ss cs)) (settled_object ts ds)
    ∙ rw (and-true (equal (present components_tree cs) (present components_tree ds))) refl

absent_left : (t : Tree) → is_absent t ≡ false → equal absent t ≡ false
absent_left absent e = absurd cc
absent_left (text s) e = refl
absent_left (number n) e = refl
absent_left (boolean b) e = refl
absent_left (items ts) e = refl
absent_left (fields n ts) e = refl

turned : (t u : Tree) → equal t u ≡ equal u t
turned t u = (equal_laws as_tree).symm t u
  where
    as_tree : Tree → Tree
    as_tree t = t

nothing_left : {A : Type 0} (f : A → Tree) → ((x : A) → is_absent (f x) ≡ false) → (o : Option A) → equal absent (present f o) ≡ is_none o
nothing_left f there None = refl
nothing_left f there (Some x) = absent_left (f x) (there x)

no_object : (ss : Option Services) (cs : Option Components) → equal (fields tools_object (two absent absent)) (object_tree ss cs) ≡ (is_none ss && is_none cs)
no_object ss cs = rw (nothing_left services_tree services_there ss, nothing_left components_tree components_there cs, and-true (is_none cs)) refl

-- an empty list and an object
pub hollow : (xs : List Tool) (ss : Option Services) (cs : Option Components) → length xs ≡ 0 → equal (settled (list_tree tool_tree xs) a_tools) (settled (object_tree ss cs) a_tools) ≡ (is_none ss && is_none cs)
hollow [] ss cs e = ap (λ t. equal t (settled (object_tree ss cs) a_tools)) (settled_list []) ∙ ap (equal (fields tools_object (two absent absent))) (settled_object ss cs) ∙ no_object ss cs
hollow (x ∷ xs) ss cs e = absurd (omega arith)

-- a list with a tool and an object
pub not_hollow : (xs : List Tool) (ss : Option Services) (cs : Option Components) → (length xs ≡ 0 → ⊥) → false ≡ equal (settled (list_tree tool_tree xs) a_tools) (settled (object_tree ss cs) a_tools)
not_hollow [] ss cs e = absurd (e refl)
not_hollow (x ∷ xs) ss cs e = sym (ap (λ t. equal t (settled (object_tree ss cs) a_tools)) (settled_list (x ∷ xs)) ∙ ap (equal (items (each tool_tree (x ∷ xs)))) (settled_object ss cs))

pub other_way : (xs : List Tool) (ss : Option Services) (cs : Option Components) (b : Bool) → b ≡ equal (settled (list_tree tool_tree xs) a_tools) (settled (object_tree ss cs) a_tools) → b ≡ equal (settled (object_tree ss cs) a_tools) (settled (list_tree tool_tree xs) a_tools)
other_way xs ss cs b e = e ∙ turned (settled (list_tree tool_tree xs) a_tools) (settled (object_tree ss cs) a_tools)

tools_there_settled : (x : Tools) → is_absent (settled (tools_tree x) a_tools) ≡ false
tools_there_settled x = settled_there (tools_tree x) a_tools ∙ tools_there x

pub none_and_tools : (x : Tools) → false ≡ equal (settled (present tools_tree None) a_tools) (settled (tools_tree x) a_tools)
unfolding settled
none_and_tools x = sym (absent_left (settled (tools_tree x) a_tools) (tools_there_settled x))

pub tools_and_none : (x : Tools) → false ≡ equal (settled (tools_tree x) a_tools) (settled (present tools_tree None) a_tools)
tools_and_none x = none_and_tools x ∙ turned (settled (present tools_tree None) a_tools) (settled (tools_tree x) a_tools)

-- what `is_none` tells
pub told_none : {A : Type 0} (o : Option A) (b : Bool) → is_some o ≡ not b → b ≡ is_none o
told_none None true e = refl
told_none None false e = absurd cc
told_none (Some x) true e = absurd cc
told_none (Some x) false e = refl
