-- Records that stand in records of their own kind: they count their depth, and plain functions that call one another read them.
use Rattle.std.proofs.Common.{◌≡◌, ℕ, suc, ◌+◌, ◌-◌, ◌≤◌, List, Result, Ok, Err, sym, ap, ◌∙◌, subst, arith}
use Rattle.cdx_events.specs.declared.name.OwnedName.{OwnedName}
use Rattle.cdx_events.specs.declared.name.OwnedAttribute.{OwnedAttribute}
use Rattle.cdx_events.specs.declared.name.Namespace.{Namespace}
use Rattle.cdx_events.specs.declared.event.XmlEvent.{XmlEvent}
use Rattle.cdx_events.specs.Nodes.{Nodes, element}
use Rattle.cdx_events.specs.Cursor.{Cursor}
use Rattle.cdx_models.specs.declared.errors.XmlReadError.{XmlReadError}
use Rattle.cdx_models.specs.declared.bom.SpecVersion.{SpecVersion}
use Rattle.cdx_models.specs.Trees.{Name, Tree, Trees, fields}
use Rattle.cdx_schema.specs.Results.{◌>>=◌}
use Rattle.cdx_schema.specs.Depth.{Depth}
use Rattle.cdx_schema.specs.Kinds.{a_record}
use Rattle.cdx_schema.specs.Table.{rows}
use Rattle.cdx_schema.specs.Nodes.{places_of}
use Rattle.cdx_schema.specs.XmlReading.{record_plan, attributes_read, in_force, xread, ended}
use Rattle.cdx_leaf.specs.Attribute.{GivesAt}
use Rattle.cdx_leaf.specs.Each.{each_node, plan_step}
use Rattle.cdx_leaf.specs.Fault.{FailsAt}
use Rattle.cdx_leaf.specs.Reading.{Stands, Reads, behind_end}
use Rattle.cdx_leaf.proofs.Records.{first_fails}
use Rattle.cdx_leaf.proofs.Whole.{so_far, finished, IsNested, start_is, begun_fails, finished_as, seen_whole}

-- ---- children at one depth

-- ---- a record that counts its depth

module _ (name : Name) (v : SpecVersion) (n : OwnedName) (a : List OwnedAttribute) (ns : Namespace) (d inner : Depth) (p : ℕ) (nodes : Nodes) (rest : List XmlEvent) (old : Cursor) where
  -- the attributes are refused
  pub begin_fails : {X : Type 0} (tree : X → Tree) (e : XmlReadError) (k : ℕ) → IsNested name v n a ns d inner p nodes → Stands old n p nodes rest → k ≡ old.place → FailsAt e ((k - 1) + 1) (attributes_read (rows name) (in_force name a) v n.local_name (k - 1))
      → Reads {X = X} tree old old (behind_end old nodes rest) (xread (element n a ns nodes) v (a_record name) p d) (Err e)
  begin_fails tree e k is st at h =
      let first = attributes_read (rows name) (in_force name a) v n.local_name p in
      let moved : FailsAt e (p + 1) first = subst (λ x. FailsAt e (x + 1) (attributes_read (rows name) (in_force name a) v n.local_name x)) (start_is old.place k p (sym at) st.place) h in
      (omega arith, subst (λ x. FailsAt e old.place x) (sym is) (first_fails e old.place (so_far name v inner n.local_name a p nodes) (λ ts. finished name v n.local_name (suc (p + places_of nodes)) ts) (begun_fails e p old.place first (λ ts. each_node (plan_step (record_plan name) v inner n.local_name) nodes (suc p) ts) st.place moved)))

  -- what the attributes give, k being where the reader stands
  abbrev pub Begun : ℕ → Trees → Type 0
  Begun k begun = attributes_read (rows name) (in_force name a) v n.local_name (k - 1) ≡ Ok begun

  -- the fields after the children, from where the reader stands
  abbrev pub all_rows : Trees → Result Trees XmlReadError
  all_rows begun = each_node (plan_step (record_plan name) v inner n.local_name) nodes old.place begun

  so_far_is : (k : ℕ) (begun : Trees) → Stands old n p nodes rest → k ≡ old.place → Begun k begun → so_far name v inner n.local_name a p nodes ≡ all_rows begun
  so_far_is k begun st at b =
      let here : attributes_read (rows name) (in_force name a) v n.local_name p ≡ Ok begun = subst (λ x. attributes_read (rows name) (in_force name a) v n.local_name x ≡ Ok begun) (start_is old.place k p (sym at) st.place) b in
      ap (λ r. r >>= λ ts. each_node (plan_step (record_plan name) v inner n.local_name) nodes (suc p) ts) here
      ∙ ap (λ q. each_node (plan_step (record_plan name) v inner n.local_name) nodes q begun) (sym st.place)

  -- a child is refused
  pub rows_fail : {X : Type 0} (tree : X → Tree) (new : Cursor) (e : XmlReadError) (k : ℕ) (begun : Trees) → IsNested name v n a ns d inner p nodes → Stands old n p nodes rest → k ≡ old.place → Begun k begun
      → (old.place ≤ new.place) × FailsAt e new.place (all_rows begun) → Reads {X = X} tree old new (behind_end old nodes rest) (xread (element n a ns nodes) v (a_record name) p d) (Err e)
  rows_fail tree new e k begun is st at b h = (
    h.0,
    subst (λ x. FailsAt e new.place x) (sym is) (first_fails e new.place (so_far name v inner n.local_name a p nodes) (λ ts. finished name v n.local_name (suc (p + places_of nodes)) ts)
        (subst (λ x. FailsAt e new.place x) (sym (so_far_is k begun st at b)) h.1)),
  )

  -- the children were read, and the record is finished
  pub rows_finish : {X : Type 0} (tree : X → Tree) (into : X → Trees) (new : Cursor) (k m : ℕ) (begun ts : Trees) (result : Result X XmlReadError) → ((x : X) → tree x ≡ fields name (into x)) → IsNested name v n a ns d inner p nodes → Stands old n p nodes rest → k ≡ old.place → Begun k begun
      → (all_rows begun ≡ Ok ts) × (new ≡ behind_end old nodes rest) → m ≡ new.place → GivesAt into ((m - 1) + 1) (ended (rows name) ts v n.local_name (m - 1)) result
      → Reads tree old new (behind_end old nodes rest) (xread (element n a ns nodes) v (a_record name) p d) result
  rows_finish tree into new k m begun ts result whole is st at b read end gives =
      let q = suc (p + places_of nodes) in
      let same : xread (element n a ns nodes) v (a_record name) p d ≡ finished name v n.local_name q ts = is ∙ ap (λ x. x >>= λ us. finished name v n.local_name q us) (so_far_is k begun st at b ∙ read.0) in
      seen_whole tree into name old new (behind_end old nodes rest) (xread (element n a ns nodes) v (a_record name) p d) result whole
      (subst (λ x. Reads (λ x. fields name (into x)) old new (behind_end old nodes rest) x result) (sym same) (finished_as into name v n p nodes rest old new m ts result st read.1 (sym end) gives))
