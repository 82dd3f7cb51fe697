-- Records and lists as frames.
use Rattle.std.specs.Prelude.{◌≡◌, refl, ℕ, suc, ◌+◌, List, [], ◌∷◌, true, Ok, Err, ⊤}
use Rattle.std.proofs.Common.{sym, ap, ◌∙◌}
use Rattle.cdx_events.specs.declared.name.OwnedName.{OwnedName}
use Rattle.cdx_events.specs.declared.name.OwnedAttribute.{OwnedAttribute}
use Rattle.cdx_events.specs.Nodes.{Nodes}
use Rattle.cdx_models.specs.declared.bom.SpecVersion.{SpecVersion}
use Rattle.cdx_models.specs.declared.errors.XmlReadError.{XmlReadError}
use Rattle.cdx_models.specs.Trees.{Name, Tree, Trees, absent, fields, field, one}
use Rattle.cdx_schema.specs.Depth.{Depth}
use Rattle.cdx_schema.specs.Kinds.{Kind, Lists, a_list, a_license_choice, a_record}
use Rattle.cdx_schema.specs.Locality.{fault_place}
use Rattle.cdx_schema.specs.Nodes.{places_of}
use Rattle.cdx_schema.specs.Results.{◌>>=◌}
use Rattle.cdx_schema.specs.Table.{rows, list}
use Rattle.cdx_schema.specs.XmlReading.{no_content, content_from, record_plan, items_plan, plan_of_list, list_of, attributes_read, in_force, ended, xread, nodes_read}
use Rattle.cdx_schema.proofs.FaultPlaces.{ok_err, bind_err, attributes_place, ended_place}
use Rattle.cdx_leaf.specs.Each.{each_node, plan_step}
use Rattle.cdx_schema.specs.Plain.{is_plain}
use Rattle.cdx_leaf.specs.Trees.{collected}
use Rattle.cdx_leaf.proofs.ChildSteps.{both, each_is}
use Rattle.cdx_leaf.proofs.Whole.{so_far, finished, record_is}
use Rattle.cdx_machine.specs.Contents.{First}
use Rattle.cdx_machine.specs.Frames.{Last, IsFrame, read_so_far}
use Rattle.cdx_machine.specs.Several.{kinds_of}
use Rattle.cdx_machine.specs.Plain.{attributes_first}

-- the last step of a record: what is missing, or the record
abbrev pub record_end : Name → Last
record_end name el v q ts = ended (rows name) ts v el q >>= λ us. Ok (fields name us)

pub record_end_place : (name : Name) (el : List ℕ) (v : SpecVersion) (q : ℕ) (ts : Trees) (f : XmlReadError) → record_end name el v q ts ≡ Err f → fault_place f ≡ q
record_end_place name el v q ts f h = bind_err (ended (rows name) ts v el q) (λ us. Ok (fields name us)) f h (λ e. ended_place (rows name) ts v el q f e) (λ us i j. ok_err j)

-- what is read of a record node by node
pub record_by_nodes : (name : Name) (v : SpecVersion) (n : OwnedName) (a : List OwnedAttribute) (d : Depth) (p : ℕ) (xs : Nodes)
    → (so_far name v d n.local_name a p xs >>= λ ts. finished name v n.local_name (suc (p + places_of xs)) ts) ≡ (read_so_far (attributes_first name) (record_plan name) n.local_name a v d p xs >>= λ ts. record_end name n.local_name v (suc (p + places_of xs)) ts)
record_by_nodes name v n a d p xs =
    ap (λ r. r >>= λ ts. record_end name n.local_name v (suc (p + places_of xs)) ts)
    (sym (both (attributes_read (rows name) (in_force name a) v n.local_name p) (λ ts. nodes_read xs (record_plan name) n.local_name v d (suc p) ts) (λ ts. each_node (plan_step (record_plan name) v d n.local_name) xs (suc p) ts) (λ ts. each_is xs (record_plan name) n.local_name v d (suc p) ts)))

pub record_frame : (name : Name) → content_from 0 (rows name) ≡ no_content → is_plain name ≡ true → IsFrame (a_record name) (record_plan name) (attributes_first name) (record_end name)
record_frame name alone plain = record {
  reads = λ n a s xs v p d. record_is name alone plain v n a s d p xs ∙ record_by_nodes name v n a d p xs;
  first_place = λ el a v p f h. attributes_place (rows name) (in_force name a) v el p f h;
  last_place = record_end_place name;
}

-- ---- lists

abbrev pub list_first : First
list_first el a v p = Ok (one absent)

abbrev pub list_last : Last
list_last el v q ts = Ok (list_of (field 0 ts))

pub list_frame : (l : Lists) → IsFrame (a_list l) (plan_of_list l) list_first list_last
unfolding xread
list_frame l = record { reads = λ n a s xs v p d. refl; first_place = λ el a v p f h. ok_err h; last_place = λ el v q ts f h. ok_err h }

-- Items of this kind have one name. Licenses and expressions have two.
abbrev pub HasOneName : Kind → Type 0
HasOneName a_license_choice = ⊥
HasOneName _ = ⊤

-- They are its only children.
pub one_plan : (l : Lists) (k : Kind) → k ≡ (list l).kind → HasOneName k → plan_of_list l ≡ items_plan l
one_plan l a_license_choice is one = absurd one
one_plan l _ is one = rw (sym is) (rw (sym is) refl)

pub item_kinds : (l : Lists) (k : Kind) → k ≡ (list l).kind → HasOneName k → k ∷ [] ≡ kinds_of (plan_of_list l).children
item_kinds l k is one = ap (λ k. k ∷ []) is ∙ ap (λ p. kinds_of p.children) (sym (one_plan l k is one))

abbrev pub items_slots : {X : Type 0} → (X → Tree) → List X → Trees
items_slots f xs = one (collected f xs)
