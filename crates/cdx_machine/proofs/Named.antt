-- Kinds that are read by the name of their element.
use Rattle.std.proofs.Common.{◌≡◌, ℕ, ◌+◌, List, Ok, refl, sym, subst}
use Rattle.cdx_events.specs.declared.name.OwnedName.{OwnedName}
use Rattle.cdx_events.specs.declared.name.OwnedAttribute.{OwnedAttribute}
use Rattle.cdx_events.specs.declared.name.Namespace.{Namespace}
use Rattle.cdx_events.specs.Nodes.{Node, Nodes, no_nodes, element}
use Rattle.cdx_models.specs.declared.bom.SpecVersion.{SpecVersion}
use Rattle.cdx_schema.specs.Depth.{Depth}
use Rattle.cdx_schema.specs.Kinds.{Kind}
use Rattle.cdx_schema.specs.XmlReading.{xread}
use Rattle.cdx_machine.specs.Begun.{innermost}
use Rattle.cdx_machine.specs.Machines.{Holding, IsQuiet, StartsAs}
use Rattle.cdx_machine.proofs.Frames.{IsNamed}

-- An element of a name that the two kinds read alike.
module _ (kind other_kind : Kind) (Is : List ℕ → Type 0) (alike : (n : OwnedName) (a : List OwnedAttribute) (s : Namespace) (xs : Nodes) (v : SpecVersion) (p : ℕ) (d : Depth) → Is n.local_name → xread (element n a s xs) v kind p d ≡ xread (element n a s xs) v other_kind p d) where
  read_alike : (k : Node) (n : OwnedName) (v : SpecVersion) (p : ℕ) (d : Depth) → IsNamed n k → Is n.local_name → xread k v other_kind p d ≡ xread k v kind p d
  read_alike k n v p d (a, s, xs, is) named = subst (λ (k : Node). xread k v other_kind p d ≡ xread k v kind p d) (sym is) (sym (alike n a s xs v p d named))

  pub starts_alike : {M N : Type 0} (holds : Holding M) (holds' : Holding N) (wrap : M → N) (v : SpecVersion) (place : ℕ) (n : OwnedName) (a : List OwnedAttribute) (m : M) → Is n.local_name → ((d : Depth) (s : Namespace) → holds m v place d (innermost n a s no_nodes) → holds' (wrap m) v place d (innermost n a s no_nodes))
      → StartsAs holds other_kind v place n a (Ok m) → StartsAs holds' kind v place n a (Ok (wrap m))
  starts_alike holds holds' wrap v place n a m named up h d s = (up d s (h d s).0, subst (λ r. IsQuiet (place + 1) r) (read_alike (element n a s no_nodes) n v place d (a, s, no_nodes, refl) named) (h d s).1)
