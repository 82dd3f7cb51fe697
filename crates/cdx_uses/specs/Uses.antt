-- What the callers give.
use Rattle.std.specs.Prelude.{◌≡◌, ℕ, List, [], ◌∷◌, length, codes, Option, Some, None, Result, Ok, Err}
use Rattle.cdx_models.specs.declared.bom.SpecVersion.TheVariants.{V1_5}
use Rattle.cdx_models.specs.declared.errors.JsonReadError.{JsonReadError}
use Rattle.cdx_models.specs.Trees.{bill, Tree, absent, text, number, items, fields, trees}
use Rattle.cdx_models.specs.Versions.{label}
use Rattle.cdx_schema.specs.Faults.{JsonFault}
use Rattle.cdx_json.specs.Gives.{Fails}
use Rattle.cdx_component.specs.declared.component.Components.{Components}
use Rattle.cdx_component.specs.Trees.{new_component, component_items}
use Rattle.cdx_bom.specs.declared.bom.Bom.{Bom}
use Rattle.cdx_bom.specs.Trees.{bom_tree}

-- ---- the number of components

abbrev pub components_counted : Option Components → ℕ
components_counted None = 0
components_counted (Some components) = length (component_items components)

-- The answer is the number of components in the list of the bill that is owed, or the fault that is owed.
abbrev pub CountsComponents : Result Tree JsonFault → Result ℕ JsonReadError → Type 0
CountsComponents owed (Ok n) = (b : Bom) × (owed ≡ Ok (bom_tree b)) × (n ≡ components_counted b.components)
CountsComponents owed (Err e) = Fails e owed

-- ---- a bill with one component

abbrev pub components_alone : Tree → Tree
components_alone t = items (trees (t ∷ []))

-- the bill of 1.5 with the library of this name and version, and nothing else
abbrev pub library_bill : List ℕ → List ℕ → Tree
library_bill name version = fields bill (trees (
    text (label V1_5) ∷ number 1 ∷ absent ∷ absent ∷ components_alone (new_component (codes "library") name (Some version))
    ∷ absent ∷ absent ∷ absent ∷ absent ∷ absent ∷ absent ∷ []))
