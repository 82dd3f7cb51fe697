-- A license stays there, whatever version keeps it.
use Rattle.std.specs.Prelude.{◌≡◌, false}
use Rattle.cdx_models.specs.declared.bom.SpecVersion.{SpecVersion}
use Rattle.cdx_models.specs.Trees.{is_absent}
use Rattle.cdx_license.specs.Records.{choice_tree, identifier_tree}
use Rattle.cdx_license.specs.declared.license.LicenseChoice.{LicenseChoice}
use Rattle.cdx_license.specs.declared.license.LicenseChoice.TheVariants as choice
use Rattle.cdx_license.specs.declared.license.LicenseIdentifier.{LicenseIdentifier}
use Rattle.cdx_license.specs.declared.license.LicenseIdentifier.TheVariants as identifier
use Rattle.cdx_schema.specs.Kinds.{a_license_choice, a_license_identifier}
use Rattle.cdx_schema.specs.Keeping.{kept}
use Rattle.cdx_json.specs.Stays.{choice_fields_stay, identifier_fields_stay}

pub choice_stays : (w l : SpecVersion) (x : LicenseChoice) → is_absent (kept w l (choice_tree x) a_license_choice) ≡ false
choice_stays w l (choice.License x) = choice_fields_stay w l _ _
choice_stays w l (choice.Expression x) = choice_fields_stay w l _ _

pub identifier_stays : (w l : SpecVersion) (x : LicenseIdentifier) → is_absent (kept w l (identifier_tree x) a_license_identifier) ≡ false
identifier_stays w l (identifier.SpdxId s) = identifier_fields_stay w l _ _
identifier_stays w l (identifier.Name s) = identifier_fields_stay w l _ _
