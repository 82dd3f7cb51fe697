-- The items of a list.
use Rattle.std.specs.Prelude.{◌≡◌, ℕ, List, [], if◌then◌else◌}
use Rattle.cdx_events.specs.declared.event.XmlEvent.{XmlEvent}
use Rattle.cdx_models.specs.declared.bom.SpecVersion.{SpecVersion}
use Rattle.cdx_models.specs.Trees.{Tree}
use Rattle.cdx_schema.specs.Kinds.{Lists, Kind}
use Rattle.cdx_schema.specs.Table.{list}
use Rattle.cdx_schema.specs.Keeping.{keep}
use Rattle.cdx_schema.specs.Trips.{is_passed_over}
use Rattle.cdx_write.specs.Spelling.{spelled_events}

-- A list whose items are of the kind, each under the name.
abbrev pub IsListOf : Kind → List ℕ → Lists → Type 0
IsListOf k tag l = ((list l).kind ≡ k) × ((list l).name ≡ tag)

-- An item under a name; a list passes over a hollow contact.
unfoldable pub item_put : List ℕ → Kind → Tree → SpecVersion → List XmlEvent
item_put tag k t w = if is_passed_over (keep w t k) then [] else spelled_events t w tag k
