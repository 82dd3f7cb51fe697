-- A bill with one library under one license, which tells its owner.
use Rattle.std.specs.Prelude.{ℕ, List, [], ◌∷◌, codes}
use Rattle.cdx_models.specs.declared.bom.SpecVersion.TheVariants.{V1_5}
use Rattle.cdx_models.specs.Versions.{label}
use Rattle.cdx_models.specs.Trees.{property, license, spdx_id, component, bill, Tree, absent, text, number, items, fields, trees, one}

-- the license with this identifier, and nothing else
abbrev pub license_of : List ℕ → Tree
license_of id = fields license (trees (absent ∷ fields spdx_id (one (text id)) ∷ absent ∷ absent ∷ absent ∷ []))

abbrev pub owner_of : List ℕ → Tree
owner_of owner = fields property (trees (text (codes "owner") ∷ text owner ∷ []))

-- the component of this type and name, with these licenses and properties, and nothing else
abbrev pub component_with : List ℕ → List ℕ → Tree → Tree → Tree
component_with component_type name licenses properties = fields component (trees (
    text component_type ∷ absent ∷ absent ∷ absent ∷ absent ∷ absent
    ∷ absent ∷ text name ∷ absent ∷ absent ∷ absent ∷ absent
    ∷ licenses ∷ absent ∷ absent ∷ absent ∷ absent ∷ absent
    ∷ absent ∷ absent ∷ properties ∷ absent ∷ absent ∷ absent ∷ []))

-- the bill of 1.5 with one library of this name, under this license and with this owner
abbrev pub bill_of_owner : List ℕ → List ℕ → List ℕ → Tree
bill_of_owner name id owner = fields bill (trees (
    text (label V1_5) ∷ number 1 ∷ absent ∷ absent
    ∷ items (one (component_with (codes "library") name (items (one (license_of id))) (items (one (owner_of owner))))) ∷ absent
    ∷ absent ∷ absent ∷ absent ∷ absent ∷ absent ∷ []))
