use Rattle.std.proofs.Common.{refl}
use Rattle.cdx_schema.specs.Table.{rows, list}
use Rattle.cdx_json.specs.KeptRows.{rows_held}
use Rattle.cdx_service.proofs.json.keeping.keep_service_naming.Goals as goal

pub returns : goal.returns
unfolding rows_held rows list
returns c = rw (c.in_ok-bom_ref.ensures, c.in_ok-provider.ensures, c.in_ok-group.ensures, c.in_ok-name.ensures, c.in_ok-held_version.ensures, c.in_ok-description.ensures) refl
