-- What an inventory tells of each component.
use Rattle.std.specs.Prelude.{ℕ, List, [], ◌∷◌, map, filter, Bool, Option, Some, None}
use Rattle.std.specs.Str.{bytes_eq}
use Rattle.std.specs.List.{list_any}
use Rattle.cdx_models.specs.declared.errors.Step.{Step}
use Rattle.cdx_models.specs.Trees.{license, expression, Tree, items, fields, Trees, none, more, field, fields_of}
use Rattle.cdx_ways.specs.Ways.{At}
use Rattle.cdx_inventory.specs.declared.entry.Entry.{Entry}
use Rattle.cdx_inventory.specs.Listing.{listed, text_itself, licenses_position, component_name, component_version}

pub record Told : Type 0 where
  pub path : List Step
  pub name : List ℕ
  pub version : Option (List ℕ)
  pub licenses : List (List ℕ)

abbrev pub members_of : Tree → Trees
members_of (items ts) = ts
members_of _ = none

-- of a license its id or name, of an expression its text
abbrev pub license_text : Tree → List ℕ
license_text (fields license ts) = text_itself (field 0 (fields_of (field 1 ts)))
license_text (fields expression ts) = text_itself (field 1 ts)
license_text _ = []

abbrev pub license_texts : Trees → List (List ℕ)
license_texts none = []
license_texts (more t ts) = license_text t ∷ license_texts ts

-- the texts of a component's licenses; those in evidence don't count
abbrev pub licenses_of : Tree → List (List ℕ)
licenses_of c = license_texts (members_of (field licenses_position (fields_of c)))

-- the path, the name, the version where there is one, and the texts of the licenses
abbrev pub entry : At Tree → Told
entry x = record { path = x.0; name = component_name x.1; version = component_version x.1; licenses = licenses_of x.1 }

abbrev pub has_license : List ℕ → Told → Bool
has_license s e = list_any (λ t. bytes_eq t s) e.licenses

-- the entries of all components, or of those under exactly this license alone
abbrev pub inventory : Tree → Option (List ℕ) → List Told
inventory b None = map entry (listed b)
inventory b (Some s) = filter (has_license s) (map entry (listed b))

-- what an entry tells
abbrev pub told : Entry → Told
told e = record { path = e.path.0; name = e.name; version = e.version; licenses = e.licenses }

abbrev pub all_told : List Entry → List Told
all_told es = map told es
