use Rattle.std.proofs.Common.{refl}
use Rattle.cdx_schema.specs.Table.{rows, list}
use Rattle.cdx_json.specs.KeptRows.{rows_held}
use Rattle.cdx_component.proofs.json.keeping.keep_naming.Goals as goal

pub returns : goal.returns
unfolding rows_held rows list
returns c = rw (c.in_ok-group.ensures, c.in_ok-name.ensures, c.in_ok-held_version.ensures, c.in_ok-description.ensures, c.in_ok-scope.ensures, c.in_ok-hashes.ensures) refl
