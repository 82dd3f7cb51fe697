use Rattle.std.proofs.Common.{refl}
use Rattle.cdx_schema.specs.Table.{rows, list}
use Rattle.cdx_json.specs.KeptRows.{rows_held}
use Rattle.cdx_component.proofs.json.keeping.keep_marks.Goals as goal

pub returns : goal.returns
unfolding rows_held rows list
returns c = rw (c.in_ok-licenses.ensures, c.in_ok-copyright.ensures, c.in_ok-cpe.ensures, c.in_ok-purl.ensures, c.in_ok-swid.ensures, c.in_ok-modified.ensures) refl
