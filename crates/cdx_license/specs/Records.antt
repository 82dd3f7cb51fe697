-- The trees of licenses, a field for each row of the schema and in its order.
use Rattle.std.specs.Prelude.{◌≡◌, refl, false, [], ◌∷◌}
use Rattle.cdx_models.specs.Trees.{license, expression, spdx_id, license_name, Tree, text, fields, trees, one, present, list_tree, is_absent}
use Rattle.cdx_license.specs.declared.license.LicenseIdentifier.{LicenseIdentifier}
use Rattle.cdx_license.specs.declared.license.LicenseIdentifier.TheVariants as identifier
use Rattle.cdx_license.specs.declared.license.License.{License}
use Rattle.cdx_license.specs.declared.license.Expression.{Expression}
use Rattle.cdx_license.specs.declared.license.LicenseChoice.{LicenseChoice}
use Rattle.cdx_license.specs.declared.license.LicenseChoice.TheVariants as choice
use Rattle.cdx_license.specs.declared.license.Licenses.{Licenses}
use Rattle.cdx_models.specs.Records.{attached_text_tree, properties_tree}

-- ---- licenses

abbrev pub identifier_tree : LicenseIdentifier → Tree
identifier_tree (identifier.SpdxId s) = fields spdx_id (one (text s))
identifier_tree (identifier.Name s) = fields license_name (one (text s))

abbrev pub license_tree : License → Tree
license_tree x = fields license (trees (present text x.bom_ref ∷ identifier_tree x.license_identifier ∷ present attached_text_tree x.text ∷ present text x.url ∷ present properties_tree x.properties ∷ []))

abbrev pub expression_tree : Expression → Tree
expression_tree x = fields expression (trees (present text x.bom_ref ∷ text x.expression ∷ []))

abbrev pub choice_tree : LicenseChoice → Tree
choice_tree (choice.License x) = license_tree x
choice_tree (choice.Expression x) = expression_tree x

abbrev pub licenses_tree : Licenses → Tree
licenses_tree xs = list_tree choice_tree xs.0

-- ---- neither enumeration's tree is absent

pub identifier_there : (x : LicenseIdentifier) → is_absent (identifier_tree x) ≡ false
identifier_there (identifier.SpdxId s) = refl
identifier_there (identifier.Name s) = refl

pub choice_there : (x : LicenseChoice) → is_absent (choice_tree x) ≡ false
choice_there (choice.License x) = refl
choice_there (choice.Expression x) = refl
