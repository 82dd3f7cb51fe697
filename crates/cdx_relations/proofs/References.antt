-- References.
use Rattle.std.proofs.Common.{◌≡◌, ℕ, suc, ◌+◌, ◌-◌, List, Option, Some, None, Ok, refl, subst, arith}
use Rattle.std.specs.Prelude.{codes}
use Rattle.cdx_events.specs.declared.name.OwnedName.{OwnedName}
use Rattle.cdx_events.specs.declared.name.OwnedAttribute.{OwnedAttribute}
use Rattle.cdx_events.specs.declared.name.Namespace.{Namespace}
use Rattle.cdx_events.specs.Nodes.{Nodes, element, characters, cdata, no_nodes, node}
use Rattle.cdx_models.specs.declared.errors.XmlReadError.{XmlReadError}
use Rattle.cdx_models.specs.declared.bom.SpecVersion.{SpecVersion}
use Rattle.cdx_models.specs.Trees as trees
use Rattle.cdx_schema.specs.Faults.{lacking}
use Rattle.cdx_schema.specs.Results.{◌>>=◌}
use Rattle.cdx_schema.specs.Depth.{Depth}
use Rattle.cdx_schema.specs.Kinds.{a_reference}
use Rattle.cdx_schema.specs.XmlReading.{xread, nodes_read, no_plan, find_attribute, after_text}
use Rattle.cdx_leaf.specs.Fault.{FailsAt}
use Rattle.cdx_leaf.specs.Attribute.{or_fault}
use Rattle.cdx_leaf.proofs.Whole.{start_is}

module _ (v : SpecVersion) (n : OwnedName) (a : List OwnedAttribute) (ns : Namespace) (d : Depth) (p : ℕ) (nodes : Nodes) where
  closes : (kids : Nodes) (q : ℕ) (s : List ℕ) → (nodes_read kids no_plan n.local_name v d q trees.none >>= λ ts. Ok (trees.text s)) ≡ (after_text s kids n.local_name q >>= λ t. Ok (trees.text t))
  unfolding nodes_read
  closes no_nodes q s = refl
  closes (node (characters t) ks) q s = refl
  closes (node (cdata t) ks) q s = refl
  closes (node (element m b r js) ks) q s = refl

  -- a reference: its attribute, and no content
  pub reference_is : (o : Option (List ℕ)) → find_attribute (codes "ref") a ≡ o → xread (element n a ns nodes) v a_reference p d ≡ (or_fault o (lacking p n.local_name (codes "ref")) >>= λ s. after_text s nodes n.local_name (suc p) >>= λ t. Ok (trees.text t))
  unfolding xread
  reference_is None e = rw e refl
  reference_is (Some s) e = rw e (closes nodes (suc p) s)

-- an attribute's fault at the element's start
pub start_fails : (e : XmlReadError) (q k p : ℕ) (o : Option (List ℕ)) (el name : List ℕ) → q ≡ k → q ≡ suc p → FailsAt e ((k - 1) + 1) (or_fault o (lacking (k - 1) el name)) → FailsAt e q (or_fault o (lacking p el name))
start_fails e q k p o el name is at h =
    let same : p + 1 ≡ q = omega arith in
    subst (λ x. FailsAt e x (or_fault o (lacking p el name))) same (subst (λ x. FailsAt e (x + 1) (or_fault o (lacking x el name))) (start_is q k p is at) h)

pub start_gives : (q k p : ℕ) (o : Option (List ℕ)) (el name t : List ℕ) → q ≡ k → q ≡ suc p → or_fault o (lacking (k - 1) el name) ≡ Ok t → or_fault o (lacking p el name) ≡ Ok t
start_gives q k p o el name t is at h = subst (λ x. or_fault o (lacking x el name) ≡ Ok t) (start_is q k p is at) h
