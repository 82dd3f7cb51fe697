use Rattle.std.proofs.Common.{refl}
use Rattle.cdx_schema.specs.Table.{rows, list}
use Rattle.cdx_json.specs.KeptRows.{rows_held}
use Rattle.cdx_nest.proofs.json.metadata.keep_terms.Goals as goal

pub returns : goal.returns
unfolding rows_held rows list
returns c = rw (c.in_ok-licenses.ensures, c.in_ok-properties.ensures) refl
