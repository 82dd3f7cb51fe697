-- How an element of a nested kind is read: what its start begins, then its nodes by a plan, then a last step.
use Rattle.std.specs.Prelude.{◌≡◌, refl, ℕ, suc, ◌+◌, List, Bool, true, false, ◌&&◌, codes, Result, Ok, Err, if◌then◌else◌}
use Rattle.std.proofs.Common.{sym, ap, ◌∙◌}
use Rattle.cdx_events.specs.declared.name.OwnedName.{OwnedName}
use Rattle.cdx_events.specs.declared.name.OwnedAttribute.{OwnedAttribute}
use Rattle.cdx_events.specs.declared.name.Namespace.{Namespace}
use Rattle.cdx_events.specs.Nodes.{Node, characters, cdata, element, Nodes}
use Rattle.cdx_models.specs.declared.bom.SpecVersion.{SpecVersion}
use Rattle.cdx_models.specs.declared.errors.XmlReadError.{XmlReadError}
use Rattle.cdx_models.specs.Trees.{Name, Tree, absent, text, number, boolean, items, fields, Trees, none, more, two, field, is_absent}
use Rattle.cdx_schema.specs.Depth.{Depth, inside, is_too_deep}
use Rattle.cdx_schema.specs.Faults.{lacking, nested}
use Rattle.cdx_schema.specs.Kinds.{Lists, Kind, a_record, a_list, a_tools}
use Rattle.cdx_schema.specs.Locality.{fault_place}
use Rattle.cdx_schema.specs.Nodes.{places_of}
use Rattle.cdx_schema.specs.Results.{◌>>=◌}
use Rattle.cdx_schema.specs.Table.{rows}
use Rattle.cdx_schema.specs.XmlReading.{Plan, Element, end_of, no_content, content_from, record_plan, plan_of_list, tools_plan, tools_of, tools_object_of, no_plan, in_force, xread, nodes_read}
use Rattle.cdx_schema.proofs.FaultPlaces.{ok_err, err_same, attributes_place}
use Rattle.cdx_leaf.proofs.Whole.{nested_is}
use Rattle.cdx_machine.specs.Contents.{First}
use Rattle.cdx_machine.specs.Frames.{Last, read_so_far}
use Rattle.cdx_machine.specs.Plain.{attributes_first}
use Rattle.cdx_machine.specs.Records.{record_end, record_end_place, record_by_nodes, list_first, list_last, list_frame}

abbrev pub plan_of : Kind → Plan
plan_of (a_record n) = record_plan n
plan_of (a_list l) = plan_of_list l
plan_of a_tools = tools_plan
plan_of _ = no_plan

abbrev pub first_of : Kind → First
first_of (a_record n) = attributes_first n
first_of (a_list l) = list_first
first_of _ = λ el a v p. Ok (more absent (two absent absent))

-- what tools come to, by the tools among the fields
abbrev pub tools_by : List ℕ → SpecVersion → ℕ → Trees → Tree → Result Tree XmlReadError
tools_by el v q ts absent = Ok (tools_object_of v ts)
tools_by el v q ts t = if is_absent (field 1 ts) && is_absent (field 2 ts) then Ok t else Err (lacking q el (codes "tool array or services & components"))

abbrev pub tools_last : Last
tools_last el v q ts = tools_by el v q ts (field 0 ts)

abbrev pub last_step : Kind → Last
last_step (a_record n) = record_end n
last_step (a_list l) = list_last
last_step a_tools = tools_last
last_step _ = λ el v q ts. Ok absent

-- the depth of its parts
abbrev pub inner_of : Kind → Depth → Depth
inner_of (a_record n) d = inside n d
inner_of _ d = d

-- An element that isn't too deep, by the depth of its parts.
abbrev pub inner_read : Kind → Node → SpecVersion → ℕ → Depth → Result Tree XmlReadError
inner_read kind (element n a s xs) v p d = read_so_far (first_of kind) (plan_of kind) n.local_name a v d p xs >>= λ ts. last_step kind n.local_name v (suc (p + places_of xs)) ts
inner_read kind x v p d = xread x v kind p d

pub record IsNested (kind : Kind) : Type 0 where
  pub reads : (x : Node) (v : SpecVersion) (p : ℕ) (d : Depth) → is_too_deep kind d ≡ false → xread x v kind p d ≡ inner_read kind x v p (inner_of kind d)
  pub deep : (n : OwnedName) (a : List OwnedAttribute) (s : Namespace) (xs : Nodes) (v : SpecVersion) (p : ℕ) (d : Depth) → is_too_deep kind d ≡ true → xread (element n a s xs) v kind p d ≡ Err (nested p)
  pub first_place : (el : List ℕ) (a : List OwnedAttribute) (v : SpecVersion) (p : ℕ) (f : XmlReadError) → first_of kind el a v p ≡ Err f → fault_place f ≡ p
  pub last_place : (el : List ℕ) (v : SpecVersion) (q : ℕ) (ts : Trees) (f : XmlReadError) → last_step kind el v q ts ≡ Err f → fault_place f ≡ q

-- ---- records

record_as_plan : (name : Name) → content_from 0 (rows name) ≡ no_content → (x : Node) (v : SpecVersion) (p : ℕ) (d : Depth) → is_too_deep (a_record name) d ≡ false → xread x v (a_record name) p d ≡ inner_read (a_record name) x v p (inside name d)
unfolding xread
record_as_plan name alone (characters t) v p d h = refl
record_as_plan name alone (cdata t) v p d h = refl
record_as_plan name alone (element n a s xs) v p d h =
    nested_is name alone v n a s d p xs h ∙ record_by_nodes name v n a (inside name d) p xs

record_deep : (name : Name) (n : OwnedName) (a : List OwnedAttribute) (s : Namespace) (xs : Nodes) (v : SpecVersion) (p : ℕ) (d : Depth) → is_too_deep (a_record name) d ≡ true → xread (element n a s xs) v (a_record name) p d ≡ Err (nested p)
unfolding xread
record_deep name n a s xs v p d h = rw h refl

pub record_nested : (name : Name) → content_from 0 (rows name) ≡ no_content → IsNested (a_record name)
record_nested name alone = record {
  reads = record_as_plan name alone;
  deep = record_deep name;
  first_place = λ el a v p f h. attributes_place (rows name) (in_force name a) v el p f h;
  last_place = record_end_place name;
}

-- ---- lists

list_as_plan : (l : Lists) (x : Node) (v : SpecVersion) (p : ℕ) (d : Depth) → is_too_deep (a_list l) d ≡ false → xread x v (a_list l) p d ≡ inner_read (a_list l) x v p d
unfolding xread
list_as_plan l (characters t) v p d h = refl
list_as_plan l (cdata t) v p d h = refl
list_as_plan l (element n a s xs) v p d h = refl

pub list_nested : (l : Lists) → IsNested (a_list l)
list_nested l = record {
  reads = list_as_plan l;
  deep = λ n a s xs v p d h. absurd (let wrong : false ≡ true = h in cc);
  first_place = (list_frame l).first_place;
  last_place = (list_frame l).last_place;
}

-- ---- tools

tools_are : (e : Element) (v : SpecVersion) (ts : Trees) → tools_of e v ts ≡ tools_last e.name v (end_of e) ts
tools_are e v none = refl
tools_are e v (more absent us) = refl
tools_are e v (more (text s) us) = refl
tools_are e v (more (number i) us) = refl
tools_are e v (more (boolean b) us) = refl
tools_are e v (more (items ts) us) = refl
tools_are e v (more (fields n ts) us) = refl

tools_reads : (x : Node) (v : SpecVersion) (p : ℕ) (d : Depth) → is_too_deep a_tools d ≡ false → xread x v a_tools p d ≡ inner_read a_tools x v p d
unfolding xread
tools_reads (characters t) v p d h = refl
tools_reads (cdata t) v p d h = refl
tools_reads (element n a s xs) v p d h =
    let e : Element = record { name = n.local_name; attributes = a; namespace = s.default; nodes = xs; start = p; read = λ plan w e ts. nodes_read xs plan n.local_name w e (suc p) ts } in
    by e (nodes_read xs tools_plan n.local_name v d (suc p) (more absent (two absent absent)))
  where
    by : (e : Element) (r : Result Trees XmlReadError) → (r >>= λ ts. tools_of e v ts) ≡ (r >>= λ ts. tools_last e.name v (end_of e) ts)
    by e (Ok ts) = tools_are e v ts
    by e (Err f) = refl

tools_place : (el : List ℕ) (v : SpecVersion) (q : ℕ) (ts : Trees) (f : XmlReadError) → tools_last el v q ts ≡ Err f → fault_place f ≡ q
tools_place el v q ts f h = by (field 0 ts) h
  where
    beside : (b : Bool) (t : Tree) → (if b then Ok t else Err (lacking q el (codes "tool array or services & components"))) ≡ Err f → fault_place f ≡ q
    beside true t e = ok_err e
    beside false t e = ap fault_place (sym (err_same e))

    by : (t : Tree) → tools_by el v q ts t ≡ Err f → fault_place f ≡ q
    by absent e = ok_err e
    by t e = beside (is_absent (field 1 ts) && is_absent (field 2 ts)) t e

pub tools_nested : IsNested a_tools
tools_nested = record {
  reads = tools_reads;
  deep = λ n a s xs v p d h. absurd (let wrong : false ≡ true = h in cc);
  first_place = λ el a v p f h. ok_err h;
  last_place = tools_place;
}
