-- A service's data in XML: a flow is an entry, and the flows hide the classifications.
use Rattle.std.proofs.Common.{◌≡◌, ℕ, suc, List, [], ◌∷◌, length, Result, Ok, Err, refl, sym, ap, ◌∙◌, subst, arith}
use Rattle.cdx_events.specs.declared.name.OwnedName.{OwnedName}
use Rattle.cdx_events.specs.declared.name.OwnedAttribute.{OwnedAttribute}
use Rattle.cdx_events.specs.declared.name.Namespace.{Namespace}
use Rattle.cdx_events.specs.Cursor.{Cursor}
use Rattle.cdx_events.specs.Nodes.{Nodes, element}
use Rattle.cdx_models.specs.declared.bom.SpecVersion.{SpecVersion}
use Rattle.cdx_models.specs.declared.errors.XmlReadError.{XmlReadError}
use Rattle.cdx_models.specs.Entries.{entry_of}
use Rattle.cdx_models.specs.Trees.{service_data, Tree, absent, items, Trees, none, more, one, two, each, list_tree, ◌⧺◌}
use Rattle.cdx_schema.specs.Depth.{Depth}
use Rattle.cdx_schema.specs.Kinds.{a_record, a_data, an_entry}
use Rattle.cdx_schema.specs.Results.{◌>>=◌}
use Rattle.cdx_schema.specs.XmlReading.{xread, appended, data_plan, data_of}
use Rattle.cdx_leaf.specs.declared.taken.Taken.{Taken}
use Rattle.cdx_leaf.specs.Children.{Took, TakesMore}
use Rattle.cdx_leaf.specs.Each.{plan_step}
use Rattle.cdx_leaf.specs.Each as steps
use Rattle.cdx_leaf.specs.Fault.{FailsAt}
use Rattle.cdx_leaf.specs.Trees.{collected}
use Rattle.cdx_leaf.proofs.ChildSteps.{each_is}
use Rattle.cdx_leaf.proofs.Records.{first_fails}
use Rattle.cdx_service_data.specs.Entries.{over}
use Rattle.cdx_service_data.specs.Parts.{data_part}
use Rattle.cdx_service_data.specs.Records.{classification_tree, service_data_tree, service_entry}
use Rattle.cdx_service_data.specs.declared.service.DataClassification.{DataClassification}
use Rattle.cdx_service_data.specs.declared.service.ServiceData.{ServiceData}
use Rattle.cdx_service_data.specs.declared.parts.DataPart.{DataPart}
use Rattle.cdx_service_data.proofs.Entries.{over-each}

-- ---- a flow is read as a service data

-- flows that were met so far, each as an entry
abbrev as_entries : Tree → Tree
as_entries (items ts) = items (over entry_of ts)
as_entries t = absent

over-push : (ts : Trees) (t : Tree) → over entry_of (ts ⧺ one t) ≡ over entry_of ts ⧺ one (entry_of t)
over-push none t = refl
over-push (more u ts) t = ap (more (entry_of u)) (over-push ts t)

entries_are : (xs : List ServiceData) → as_entries (collected service_data_tree xs) ≡ collected service_entry xs
entries_are [] = refl
entries_are (x ∷ xs) = ap items (over-each entry_of service_data_tree (x ∷ xs))

entry_pushed : (xs : List ServiceData) (t : Tree) → as_entries (appended (collected service_data_tree xs) t) ≡ appended (collected service_entry xs) (entry_of t)
entry_pushed [] t = refl
entry_pushed (x ∷ xs) t = ap items (over-push (each service_data_tree (x ∷ xs)) t ∙ ap (λ ts. ts ⧺ one (entry_of t)) (over-each entry_of service_data_tree (x ∷ xs)))

entry_read : (v : SpecVersion) (n : OwnedName) (a : List OwnedAttribute) (ns : Namespace) (d : Depth) (p : ℕ) (nodes : Nodes) → xread (element n a ns nodes) v an_entry p d ≡ (xread (element n a ns nodes) v (a_record service_data) p d >>= λ t. Ok (entry_of t))
unfolding xread
entry_read v n a ns d p nodes = refl

pushed_read : (xs : List ServiceData) (r : Result Tree XmlReadError) → ((r >>= λ t. Ok (entry_of t)) >>= λ t. Ok (appended (collected service_entry xs) t)) ≡ ((r >>= λ t. Ok (appended (collected service_data_tree xs) t)) >>= λ t. Ok (as_entries t))
pushed_read xs (Ok t) = ap Ok (sym (entry_pushed xs t))
pushed_read xs (Err e) = refl

took_entry : (old new end : Cursor) (ys : List ServiceData) (x y : Result Tree XmlReadError) (r : Result Taken XmlReadError) → y ≡ (x >>= λ t. Ok (as_entries t)) → Took (collected service_data_tree ys) old new end x r → Took (collected service_entry ys) old new end y r
took_entry old new end ys x y (Ok b) is h = (h.0, is ∙ ap (λ q. q >>= λ t. Ok (as_entries t)) h.1 ∙ ap Ok (entries_are ys), h.2)
took_entry old new end ys x y (Err e) is h = (h.0, subst (λ q. FailsAt e new.place q) (sym is) (first_fails e new.place x (λ t. Ok (as_entries t)) h.1))

pub flow_taken : (v : SpecVersion) (n : OwnedName) (a : List OwnedAttribute) (old new : Cursor) (xs ys : List ServiceData) (r : Result Taken XmlReadError)
    → TakesMore (collected service_data_tree xs) (collected service_data_tree ys) old new v (a_record service_data) (λ d. d) n a r → TakesMore (collected service_entry xs) (collected service_entry ys) old new v an_entry (λ d. d) n a r
flow_taken v n a old new xs ys r takes d ns p nodes rest st =
    took_entry old new _ ys _ _ r (ap (λ q. q >>= λ t. Ok (appended (collected service_entry xs) t)) (entry_read v n a ns d p nodes) ∙ pushed_read xs (xread (element n a ns nodes) v (a_record service_data) p d)) (takes d ns p nodes rest st)

-- ---- a whole data

module _ (v : SpecVersion) (n : OwnedName) (a : List OwnedAttribute) (ns : Namespace) (d : Depth) (p : ℕ) (nodes : Nodes) where
  abbrev entries_read : Result Trees XmlReadError
  entries_read = steps.each_node (plan_step data_plan v d n.local_name) nodes (suc p) (two absent absent)

  data_is : xread (element n a ns nodes) v a_data p d ≡ (entries_read >>= λ ts. Ok (data_of ts))
  unfolding xread
  data_is = ap (λ r. r >>= λ ts. Ok (data_of ts)) (each_is nodes data_plan n.local_name v d (suc p) (two absent absent))

  pub data_fails : (e : XmlReadError) (place : ℕ) → FailsAt e place entries_read → FailsAt e place (xread (element n a ns nodes) v a_data p d)
  data_fails e place h = subst (λ x. FailsAt e place x) (sym data_is) (first_fails e place entries_read (λ ts. Ok (data_of ts)) h)

  data_read : (x : DataPart) → entries_read ≡ Ok (data_part x) → xread (element n a ns nodes) v a_data p d ≡ Ok (data_of (data_part x))
  data_read x h = data_is ∙ ap (λ r. r >>= λ ts. Ok (data_of ts)) h

  pub data_classified : (x : DataPart) (count : ℕ) → count ≡ length x.flows → count ≡ 0 → entries_read ≡ Ok (data_part x) → xread (element n a ns nodes) v a_data p d ≡ Ok (list_tree classification_tree x.classifications)
  data_classified x count is empty h = data_read x h ∙ ap Ok (by x.flows x.classifications (sym is ∙ empty))
    where
      by : (fs : List ServiceData) (cs : List DataClassification) → length fs ≡ 0 → data_of (two (collected classification_tree cs) (collected service_entry fs)) ≡ list_tree classification_tree cs
      by [] [] e = refl
      by [] (c ∷ cs) e = refl
      by (f ∷ fs) cs e = absurd (omega arith)

  pub data_flows : (x : DataPart) (count : ℕ) → count ≡ length x.flows → (count ≡ 0 → ⊥) → entries_read ≡ Ok (data_part x) → xread (element n a ns nodes) v a_data p d ≡ Ok (list_tree service_entry x.flows)
  data_flows x count is some h = data_read x h ∙ ap Ok (by x.flows (collected classification_tree x.classifications) (λ e. some (is ∙ e)))
    where
      by : (fs : List ServiceData) (t : Tree) → (length fs ≡ 0 → ⊥) → data_of (two t (collected service_entry fs)) ≡ list_tree service_entry fs
      by [] t h = absurd (h refl)
      by (f ∷ fs) t h = refl
