-- Records that are read and written by their rows alone.
use Rattle.std.specs.Prelude.{◌≡◌, List, Bool, true, false}
use Rattle.serde_json.specs.Data.{no_members}
use Rattle.cdx_events.specs.declared.name.OwnedAttribute.{OwnedAttribute}
use Rattle.cdx_models.specs.Trees.{Name, component, service, bill}
use Rattle.cdx_schema.specs.Depth.{Depth, inside, name_too_deep}
use Rattle.cdx_schema.specs.JsonSpelling.{heading}
use Rattle.cdx_schema.specs.XmlSpelling.{ordered}

-- A record of the name has no member beside those of its rows, its attributes stand in row order, and it counts for no
-- depth.
pub record IsPlain (name : Name) : Type 0 where
  pub no_heading : heading name ≡ no_members
  pub in_order : (xs : List OwnedAttribute) → ordered name xs ≡ xs
  pub shallow : (d : Depth) → name_too_deep name d ≡ false
  pub same_depth : (d : Depth) → inside name d ≡ d

-- Every record is, but a component, a service and a bill.
abbrev pub is_plain : Name → Bool
is_plain component = false
is_plain service = false
is_plain bill = false
is_plain _ = true
