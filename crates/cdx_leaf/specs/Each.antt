-- Nodes are read from left to right.
use Rattle.std.specs.Prelude.{ℕ, ◌+◌, List, Result, Ok}
use Rattle.cdx_events.specs.Nodes.{Node, Nodes, no_nodes, node}
use Rattle.cdx_models.specs.declared.errors.XmlReadError.{XmlReadError}
use Rattle.cdx_models.specs.declared.bom.SpecVersion.{SpecVersion}
use Rattle.cdx_models.specs.Trees.{Trees}
use Rattle.cdx_schema.specs.Results.{◌>>=◌}
use Rattle.cdx_schema.specs.Depth.{Depth}
use Rattle.cdx_schema.specs.Nodes.{places}
use Rattle.cdx_schema.specs.XmlReading.{Plan, node_read, xread}

-- each node takes what was read so far further, or is the first fault
abbrev pub each_node : {S : Type 0} → (Node → ℕ → S → Result S XmlReadError) → Nodes → ℕ → S → Result S XmlReadError
each_node step no_nodes q s = Ok s
each_node step (node item nodes) q s = step item q s >>= λ next. each_node step nodes (q + places item) next

-- a node of an element of this name
abbrev pub plan_step : Plan → SpecVersion → Depth → List ℕ → Node → ℕ → Trees → Result Trees XmlReadError
plan_step plan v d el k q s = node_read k (xread k) plan el v d q s
