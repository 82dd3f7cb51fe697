-- The fields of licenses while they are read.
use Rattle.std.specs.Prelude.{ℕ, List, [], ◌∷◌, Option}
use Rattle.cdx_models.specs.Trees.{text, absent, trees, Trees, one, present}
use Rattle.cdx_license.specs.Records.{identifier_tree, choice_tree}
use Rattle.cdx_models.specs.Records.{attached_text_tree, properties_tree}
use Rattle.cdx_license.specs.declared.parts.LicensePart.{LicensePart}
use Rattle.cdx_license.specs.declared.parts.ChoicesPart.{ChoicesPart}
use Rattle.cdx_leaf.specs.Trees.{collected}

abbrev pub license_part : LicensePart → Trees
license_part x = trees (present text x.bom_ref ∷ present identifier_tree x.license_identifier ∷ present attached_text_tree x.text ∷ present text x.url ∷ present properties_tree x.properties ∷ [])

abbrev pub choices_part : ChoicesPart → Trees
choices_part x = one (collected choice_tree x.items)

-- What the attribute of an expression begins, whose content is a text.
abbrev pub reference_alone : Option (List ℕ) → Trees
reference_alone o = trees (present text o ∷ absent ∷ [])
