-- The laws of the soonest fault, as statements.
use Rattle.std.specs.Prelude.{◌≡◌, ℕ, List, Option}
use Rattle.cdx_events.specs.declared.event.XmlEvent.{XmlEvent}
use Rattle.cdx_events.specs.Nodes.{element}
use Rattle.cdx_models.specs.declared.bom.SpecVersion.{SpecVersion}
use Rattle.cdx_models.specs.declared.errors.XmlReadError.{XmlReadError}
use Rattle.cdx_schema.specs.Depth.{Depth}
use Rattle.cdx_schema.specs.Kinds.{Kind}
use Rattle.cdx_schema.specs.Soon.{BeginsElement, IsEnded, IsSoon}

-- Events with which an element begins are those of an element once what is still open is ended, and of that one alone.
abbrev pub EndAsOne : Type 0
EndAsOne = (so_far : List XmlEvent) → (BeginsElement so_far → IsEnded so_far) × ((i j : IsEnded so_far) → element i.name i.attributes i.namespace i.nodes ≡ element j.name j.attributes j.namespace j.nodes)

-- They have one soonest fault, or none.
abbrev pub HaveOneSoonest : Type 0
HaveOneSoonest = (v : SpecVersion) (k : Kind) (so_far : List XmlEvent) (p : ℕ) (d : Depth) → BeginsElement so_far
    → (soon : Option XmlReadError) × IsSoon v k so_far p d soon × ((other : Option XmlReadError) → IsSoon v k so_far p d other → other ≡ soon)
