use Rattle.std.proofs.Common.{refl}
use Rattle.cdx_schema.specs.Kinds.{authors}
use Rattle.cdx_schema.specs.Table.{rows, list}
use Rattle.cdx_json.specs.KeptRows.{rows_held}
use Rattle.cdx_nest.proofs.json.metadata.keep_makers.Goals as goal

pub returns : goal.returns
unfolding rows_held rows list
returns c = rw (c.in_ok-timestamp.ensures, c.in_ok-tools.ensures, (c.in_ok-authors.ensures authors refl), c.in_ok-component.ensures, c.in_ok-manufacture.ensures, c.in_ok-supplier.ensures) refl
