-- Whole records.
use Rattle.std.proofs.Common.{◌≡◌, ℕ, suc, ◌+◌, ◌-◌, ◌≤◌, List, true, false, Result, Ok, Err, sym, ap, ◌∙◌, subst, arith}
use Rattle.std.specs.Prelude.{if◌then◌else◌}
use Rattle.cdx_events.specs.declared.name.OwnedName.{OwnedName}
use Rattle.cdx_events.specs.declared.name.OwnedAttribute.{OwnedAttribute}
use Rattle.cdx_events.specs.declared.name.Namespace.{Namespace}
use Rattle.cdx_events.specs.declared.event.XmlEvent.{XmlEvent}
use Rattle.cdx_events.specs.Nodes.{Nodes, element}
use Rattle.cdx_events.specs.Cursor.{Cursor}
use Rattle.cdx_models.specs.declared.errors.XmlReadError.{XmlReadError}
use Rattle.cdx_models.specs.declared.bom.SpecVersion.{SpecVersion}
use Rattle.cdx_models.specs.Trees.{Name, Tree, Trees, fields}
use Rattle.cdx_schema.specs.Faults.{nested}
use Rattle.cdx_schema.specs.Results.{◌>>=◌}
use Rattle.cdx_schema.specs.Depth.{Depth, inside, is_too_deep}
use Rattle.cdx_schema.specs.Kinds.{a_record}
use Rattle.cdx_schema.specs.Plain.{is_plain}
use Rattle.cdx_schema.proofs.PlainNames.{plain_name}
use Rattle.cdx_schema.specs.Table.{rows}
use Rattle.cdx_schema.specs.Nodes.{places_of}
use Rattle.cdx_schema.specs.XmlReading.{Plan, no_content, content_from, content_fields, record_plan, attributes_read, in_force, ended, Element, record_denoted, xread, nodes_read}
use Rattle.cdx_leaf.specs.Fault.{FailsAt}
use Rattle.cdx_leaf.specs.Attribute.{GivesAt}
use Rattle.cdx_leaf.specs.Each.{each_node, plan_step}
use Rattle.cdx_leaf.specs.Reading.{Stands, Reads, behind_end}
use Rattle.cdx_leaf.specs.Begun.{Begins, read_on, ReadsBegun}
use Rattle.cdx_leaf.proofs.ChildSteps.{both, each_is}
use Rattle.cdx_leaf.proofs.Records.{first_fails}

-- ---- what read_record reads

pub same_reading : {R : Type 0} (slots : R → Trees) (plan_of : R → Plan) (depth_of : R → Depth → Depth) (v : SpecVersion) (d : Depth) (depth : Depth → Depth) (plan : Plan) (el : List ℕ) (first : Result Trees XmlReadError) (p q : ℕ) (nodes : Nodes) (r : R) → q ≡ suc p → Begins slots plan_of depth_of v depth plan p first (Ok r)
    → each_node (plan_step (plan_of r) v (depth_of r d) el) nodes q (slots r) ≡ read_on first plan v (depth d) el p nodes
same_reading slots plan_of depth_of v d depth plan el first p q nodes r at b =
    ap (λ x. each_node (plan_step x v (depth_of r d) el) nodes q (slots r)) b.1
    ∙ ap (λ x. each_node (plan_step plan v (x d) el) nodes q (slots r)) b.2
    ∙ ap (λ x. each_node (plan_step plan v (depth d) el) nodes x (slots r)) at
    ∙ ap (λ x. x >>= λ ts. each_node (plan_step plan v (depth d) el) nodes (suc p) ts) (sym b.0)

pub begun_fails : (e : XmlReadError) (p q : ℕ) (first : Result Trees XmlReadError) (f : Trees → Result Trees XmlReadError) → q ≡ suc p → FailsAt e (p + 1) first → FailsAt e q (first >>= f)
begun_fails e p q first f at h =
    let same : p + 1 ≡ q = omega arith in
    first_fails e q first f (subst (λ x. FailsAt e x first) same h)

-- ---- a record that is read child by child

-- its fields before the last step
abbrev pub so_far : Name → SpecVersion → Depth → List ℕ → List OwnedAttribute → ℕ → Nodes → Result Trees XmlReadError
so_far name v d el a p nodes = read_on (attributes_read (rows name) (in_force name a) v el p) (record_plan name) v d el p nodes

abbrev pub finished : Name → SpecVersion → List ℕ → ℕ → Trees → Result Tree XmlReadError
finished name v el q ts = ended (rows name) ts v el q >>= λ us. Ok (fields name us)

-- a record is its fields, read at its own depth, and its end
pub nested_is : (name : Name) → content_from 0 (rows name) ≡ no_content → (v : SpecVersion) (n : OwnedName) (a : List OwnedAttribute) (ns : Namespace) (d : Depth) (p : ℕ) (nodes : Nodes) → is_too_deep (a_record name) d ≡ false
    → xread (element n a ns nodes) v (a_record name) p d ≡ (so_far name v (inside name d) n.local_name a p nodes >>= λ ts. finished name v n.local_name (suc (p + places_of nodes)) ts)
unfolding xread
nested_is name alone v n a ns d p nodes shallow =
    let e : Element = record { name = n.local_name; attributes = a; namespace = ns.default; nodes = nodes; start = p; read = λ plan w e ts. nodes_read nodes plan n.local_name w e (suc p) ts } in
    let last : Trees → Result Tree XmlReadError = λ ts. finished name v n.local_name (suc (p + places_of nodes)) ts in
    let first = attributes_read (rows name) (in_force name a) v n.local_name p in
    let i = inside name d in
    ap (λ b. if b then Err (nested p) else record_denoted e name v d) shallow
    ∙ ap (λ c. (first >>= λ ts. content_fields c e name ts v i) >>= last) alone
    ∙ ap (λ r. r >>= last) (both first (λ ts. nodes_read nodes (record_plan name) n.local_name v i (suc p) ts) (λ ts. each_node (plan_step (record_plan name) v i n.local_name) nodes (suc p) ts) (λ ts. each_is nodes (record_plan name) n.local_name v i (suc p) ts))

-- its fields, read at a depth, and its end
abbrev pub IsNested : Name → SpecVersion → OwnedName → List OwnedAttribute → Namespace → Depth → Depth → ℕ → Nodes → Type 0
IsNested name v n a ns d inner p nodes = xread (element n a ns nodes) v (a_record name) p d ≡ (so_far name v inner n.local_name a p nodes >>= λ ts. finished name v n.local_name (suc (p + places_of nodes)) ts)

pub record_is : (name : Name) → content_from 0 (rows name) ≡ no_content → is_plain name ≡ true → (v : SpecVersion) (n : OwnedName) (a : List OwnedAttribute) (ns : Namespace) (d : Depth) (p : ℕ) (nodes : Nodes) → IsNested name v n a ns d d p nodes
record_is name alone plain v n a ns d p nodes =
    nested_is name alone v n a ns d p nodes ((plain_name name plain).shallow d) ∙ ap (λ x. so_far name v x n.local_name a p nodes >>= λ ts. finished name v n.local_name (suc (p + places_of nodes)) ts) ((plain_name name plain).same_depth d)

-- Begun by its attributes, and read to the element's end.
pub begins : {R : Type 0} (slots : R → Trees) (plan : R → Plan) (depth : R → Depth → Depth) (v : SpecVersion) (pl : Plan) (dp : Depth → Depth) (p : ℕ) (first : Result Trees XmlReadError) (begun : Result R XmlReadError) → ((r : R) → (plan r ≡ pl) × (depth r ≡ dp)) → GivesAt slots (p + 1) first begun → Begins slots plan depth v dp pl p first begun
begins slots plan depth v pl dp p first (Ok r) laws h = (h, (laws r).0, (laws r).1)
begins slots plan depth v pl dp p first (Err e) laws h = h

pub start_is : (q k p : ℕ) → q ≡ k → q ≡ suc p → k - 1 ≡ p
start_is q k p is at = omega arith

pub reads_so_far : {R : Type 0} (slots : R → Trees) (plan_of : R → Plan) (depth_of : R → Depth → Depth) (name : Name) → ((r : R) → (plan_of r ≡ record_plan name) × (depth_of r ≡ (λ d. d)))
    → (v : SpecVersion) (n : OwnedName) (a : List OwnedAttribute) (old new : Cursor) (k : ℕ) (begun result : Result R XmlReadError)
    → old.place ≡ k → GivesAt slots ((k - 1) + 1) (attributes_read (rows name) (in_force name a) v n.local_name (k - 1)) begun
    → ReadsBegun slots plan_of depth_of old new v n begun result
    → (d : Depth) (p : ℕ) (nodes : Nodes) (rest : List XmlEvent) → Stands old n p nodes rest → Reads slots old new (behind_end old nodes rest) (so_far name v d n.local_name a p nodes) result
reads_so_far slots plan_of depth_of name laws v n a old new k begun result at gives reads d p nodes rest st =
    let first : ℕ → Result Trees XmlReadError = λ x. attributes_read (rows name) (in_force name a) v n.local_name x in
    let gives' : GivesAt slots (p + 1) (first p) begun = subst (λ x. GivesAt slots (x + 1) (first x) begun) (start_is old.place k p at st.place) gives in
    reads d (λ d. d) (record_plan name) (first p) p nodes rest st (begins slots plan_of depth_of v (record_plan name) (λ d. d) p (first p) begun laws gives')

-- ---- a record that is finished at its end

-- the part was refused
pub part_fails : (name : Name) (v : SpecVersion) (n : OwnedName) (a : List OwnedAttribute) (ns : Namespace) (d : Depth) (p : ℕ) (nodes : Nodes) (old new : Cursor) (e : XmlReadError) → IsNested name v n a ns d d p nodes
    → (old.place ≤ new.place) × FailsAt e new.place (so_far name v d n.local_name a p nodes) → (old.place ≤ new.place) × FailsAt e new.place (xread (element n a ns nodes) v (a_record name) p d)
part_fails name v n a ns d p nodes old new e is h =
    (h.0, subst (λ x. FailsAt e new.place x) (sym is) (first_fails e new.place (so_far name v d n.local_name a p nodes) (λ ts. finished name v n.local_name (suc (p + places_of nodes)) ts) h.1))

-- k is where the reader stands after the end
pub end_is : (old new : Cursor) (k p m : ℕ) → old.place ≡ suc p → new.place ≡ k → new.place ≡ old.place + m + 1 → k - 1 ≡ suc (p + m)
end_is old new k p m at is e = omega arith

-- Fields that were read to the element's end are finished.
pub finished_as : {X : Type 0} (into : X → Trees) (name : Name) (v : SpecVersion) (n : OwnedName) (p : ℕ) (nodes : Nodes) (rest : List XmlEvent) (old new : Cursor) (k : ℕ) (ts : Trees) (result : Result X XmlReadError)
    → Stands old n p nodes rest → new ≡ behind_end old nodes rest
    → new.place ≡ k → GivesAt into ((k - 1) + 1) (ended (rows name) ts v n.local_name (k - 1)) result
    → Reads (λ x. fields name (into x)) old new (behind_end old nodes rest) (finished name v n.local_name (suc (p + places_of nodes)) ts) result
finished_as {X = X} into name v n p nodes rest old new k ts result st is at gives =
    let q = suc (p + places_of nodes) in
    let placed : new.place ≡ old.place + places_of nodes + 1 = ap (λ (c : Cursor). c.place) is in
    let ended_at : GivesAt into (q + 1) (ended (rows name) ts v n.local_name q) result = subst (λ x. GivesAt into (x + 1) (ended (rows name) ts v n.local_name x) result) (end_is old new k p (places_of nodes) st.place at placed) gives in
    last result ended_at placed
  where
    last : (r : Result X XmlReadError) → GivesAt into (suc (p + places_of nodes) + 1) (ended (rows name) ts v n.local_name (suc (p + places_of nodes))) r → new.place ≡ old.place + places_of nodes + 1
        → Reads (λ x. fields name (into x)) old new (behind_end old nodes rest) (finished name v n.local_name (suc (p + places_of nodes)) ts) r
    last (Ok x) h placed = (ap (λ r. r >>= λ us. Ok (fields name us)) h, is)
    last (Err e) h placed =
        let same : suc (p + places_of nodes) + 1 ≡ new.place = omega (arith, st.place, placed) in
        (omega (arith, placed), first_fails e new.place (ended (rows name) ts v n.local_name (suc (p + places_of nodes))) (λ us. Ok (fields name us)) (subst (λ y. FailsAt e y (ended (rows name) ts v n.local_name (suc (p + places_of nodes)))) same h))

-- the part was read, and is finished
pub part_finishes : {R X : Type 0} (slots : R → Trees) (into : X → Trees) (name : Name) (v : SpecVersion) (n : OwnedName) (a : List OwnedAttribute) (ns : Namespace) (d : Depth) (p : ℕ) (nodes : Nodes) (rest : List XmlEvent) (old new : Cursor) (k : ℕ) (part : R) (result : Result X XmlReadError) → IsNested name v n a ns d d p nodes
    → Stands old n p nodes rest → (so_far name v d n.local_name a p nodes ≡ Ok (slots part)) × (new ≡ behind_end old nodes rest)
    → new.place ≡ k → GivesAt into ((k - 1) + 1) (ended (rows name) (slots part) v n.local_name (k - 1)) result
    → Reads (λ x. fields name (into x)) old new (behind_end old nodes rest) (xread (element n a ns nodes) v (a_record name) p d) result
part_finishes slots into name v n a ns d p nodes rest old new k part result whole st read at gives =
    let q = suc (p + places_of nodes) in
    let is : xread (element n a ns nodes) v (a_record name) p d ≡ finished name v n.local_name q (slots part) = whole ∙ ap (λ x. x >>= λ ts. finished name v n.local_name q ts) read.0 in
    subst (λ x. Reads (λ x. fields name (into x)) old new (behind_end old nodes rest) x result) (sym is) (finished_as into name v n p nodes rest old new k (slots part) result st read.1 at gives)

-- the reader is past the element's start
pub past_start : (old new : Cursor) (k : ℕ) (nodes : Nodes) (rest : List XmlEvent) → new ≡ behind_end old nodes rest → k ≡ new.place → 1 ≤ k
past_start old new k nodes rest is at =
    let placed : new.place ≡ old.place + places_of nodes + 1 = ap (λ (c : Cursor). c.place) is in
    omega arith

pub start_near : (q p : ℕ) → q ≡ suc p → (q ≤ q) × (q ≤ p + 1)
start_near q p at = (omega arith, omega arith)

-- what is seen as its fields under a name is seen as its tree
pub seen_whole : {X : Type 0} (tree : X → Tree) (into : X → Trees) (name : Name) (old new end : Cursor) (denoted : Result Tree XmlReadError) (r : Result X XmlReadError) → ((x : X) → tree x ≡ fields name (into x)) → Reads (λ x. fields name (into x)) old new end denoted r → Reads tree old new end denoted r
seen_whole tree into name old new end denoted (Ok x) is h = (h.0 ∙ ap (λ t. Ok t) (sym (is x)), h.1)
seen_whole tree into name old new end denoted (Err e) is h = h
