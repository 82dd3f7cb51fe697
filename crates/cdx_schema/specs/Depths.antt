-- How deep a reader stands, as the schema counts it.
use Rattle.cdx_schema.specs.Depth.{Depth}
use Rattle.cdx_schema.specs.declared.depth.Depth.{Depth as Counts}

abbrev pub depth_of : Counts → Depth
depth_of d = record { components = d.components; services = d.services }
