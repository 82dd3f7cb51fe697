-- License identifiers and choices.
use Rattle.std.proofs.Common.{◌≡◌, ℕ, List, Bool, true, false, Option, Some, None, Err, refl, sym}
use Rattle.std.specs.Prelude.{is_some, not, bytes_eq, codes}
use Rattle.cdx_events.specs.declared.name.OwnedName.{OwnedName}
use Rattle.cdx_events.specs.declared.name.OwnedAttribute.{OwnedAttribute}
use Rattle.cdx_events.specs.declared.name.Namespace.{Namespace}
use Rattle.cdx_events.specs.Nodes.{Nodes, element}
use Rattle.cdx_models.specs.declared.bom.SpecVersion.{SpecVersion}
use Rattle.cdx_models.specs.Trees.{spdx_id, license_name, license, expression, is_absent, present}
use Rattle.cdx_schema.specs.Faults.{lacking}
use Rattle.cdx_schema.specs.Depth.{Depth}
use Rattle.cdx_schema.specs.Kinds.{a_record, a_license_identifier, a_license_choice}
use Rattle.cdx_schema.specs.XmlReading.{xread}
use Rattle.cdx_license.specs.declared.license.LicenseIdentifier.{LicenseIdentifier}
use Rattle.cdx_license.specs.declared.license.LicenseIdentifier.TheVariants.{SpdxId, Name}
use Rattle.cdx_license.specs.Records.{identifier_tree}

pub identifier_second : (o : Option LicenseIdentifier) (b : Bool) → b ≡ is_some o → not (is_absent (present identifier_tree o)) ≡ b
identifier_second None b e = sym e
identifier_second (Some (SpdxId t)) b e = sym e
identifier_second (Some (Name t)) b e = sym e

module _ (v : SpecVersion) (n : OwnedName) (a : List OwnedAttribute) (ns : Namespace) (d : Depth) (p : ℕ) (nodes : Nodes) where
  pub identifier_id : true ≡ bytes_eq n.local_name (codes "id") → xread (element n a ns nodes) v a_license_identifier p d ≡ xread (element n a ns nodes) v (a_record spdx_id) p d
  unfolding xread
  identifier_id e = rw (sym e) refl

  pub identifier_name : false ≡ bytes_eq n.local_name (codes "id") → true ≡ bytes_eq n.local_name (codes "name") → xread (element n a ns nodes) v a_license_identifier p d ≡ xread (element n a ns nodes) v (a_record license_name) p d
  unfolding xread
  identifier_name e f = rw (sym e, sym f) refl

  pub identifier_none : false ≡ bytes_eq n.local_name (codes "id") → false ≡ bytes_eq n.local_name (codes "name") → xread (element n a ns nodes) v a_license_identifier p d ≡ Err (lacking p n.local_name (codes "id or name"))
  unfolding xread
  identifier_none e f = rw (sym e, sym f) refl

  pub choice_license : true ≡ bytes_eq n.local_name (codes "license") → xread (element n a ns nodes) v a_license_choice p d ≡ xread (element n a ns nodes) v (a_record license) p d
  unfolding xread
  choice_license e = rw (sym e) refl

  pub choice_expression : false ≡ bytes_eq n.local_name (codes "license") → true ≡ bytes_eq n.local_name (codes "expression") → xread (element n a ns nodes) v a_license_choice p d ≡ xread (element n a ns nodes) v (a_record expression) p d
  unfolding xread
  choice_expression e f = rw (sym e, sym f) refl

  pub choice_none : false ≡ bytes_eq n.local_name (codes "license") → false ≡ bytes_eq n.local_name (codes "expression") → xread (element n a ns nodes) v a_license_choice p d ≡ Err (lacking p n.local_name (codes "license or expression"))
  unfolding xread
  choice_none e f = rw (sym e, sym f) refl
