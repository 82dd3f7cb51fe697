-- Kinds that are read by the name of their element.
use Rattle.std.specs.Prelude.{◌≡◌, ℕ, List, true, false, Err}
use Rattle.std.specs.Str.{bytes_eq}
use Rattle.cdx_events.specs.declared.name.OwnedName.{OwnedName}
use Rattle.cdx_events.specs.declared.name.OwnedAttribute.{OwnedAttribute}
use Rattle.cdx_events.specs.declared.name.Namespace.{Namespace}
use Rattle.cdx_events.specs.Nodes.{Nodes, element}
use Rattle.cdx_models.specs.declared.bom.SpecVersion.{SpecVersion}
use Rattle.cdx_schema.specs.Depth.{Depth}
use Rattle.cdx_schema.specs.Faults.{lacking}
use Rattle.cdx_schema.specs.Kinds.{Kind}
use Rattle.cdx_schema.specs.XmlReading.{xread}
use Rattle.cdx_machine.specs.declared.or.Or.{Or}
use Rattle.cdx_machine.specs.declared.or.Or.TheVariants.{This, Other}
use Rattle.cdx_machine.specs.Begun.{start_name}
use Rattle.cdx_machine.specs.Machines.{Holding}

-- The kind is the one by the first name and the other by the second, and an element of any other name lacks something.
pub record IsByName (kind : Kind) (one other lacked : List ℕ) (first second : Kind) : Type 0 where
  pub by_one : (n : OwnedName) (a : List OwnedAttribute) (s : Namespace) (xs : Nodes) (v : SpecVersion) (p : ℕ) (d : Depth) → bytes_eq n.local_name one ≡ true → xread (element n a s xs) v kind p d ≡ xread (element n a s xs) v first p d
  pub by_other : (n : OwnedName) (a : List OwnedAttribute) (s : Namespace) (xs : Nodes) (v : SpecVersion) (p : ℕ) (d : Depth) → bytes_eq n.local_name one ≡ false → bytes_eq n.local_name other ≡ true → xread (element n a s xs) v kind p d ≡ xread (element n a s xs) v second p d
  pub by_neither : (n : OwnedName) (a : List OwnedAttribute) (s : Namespace) (xs : Nodes) (v : SpecVersion) (p : ℕ) (d : Depth) → bytes_eq n.local_name one ≡ false → bytes_eq n.local_name other ≡ false → xread (element n a s xs) v kind p d ≡ Err (lacking p n.local_name lacked)

abbrev pub named_holds : {M N : Type 0} → List ℕ → List ℕ → Holding M → Holding N → Holding (Or M N)
named_holds one other first second (This m) v p d o = (bytes_eq (start_name o).local_name one ≡ true) × first m v p d o
named_holds one other first second (Other m) v p d o = (bytes_eq (start_name o).local_name one ≡ false) × (bytes_eq (start_name o).local_name other ≡ true) × second m v p d o
