use Rattle.std.proofs.Common.{refl}
use Rattle.cdx_schema.specs.Table.{rows, list}
use Rattle.cdx_json.specs.KeptRows.{rows_held}
use Rattle.cdx_bom.proofs.json.keeping.keep_inventory.Goals as goal

pub returns : goal.returns
unfolding rows_held rows list
returns c = rw (c.in_ok-new_label.ensures, c.in_ok-bill_version.ensures, c.in_ok-serial_number.ensures, c.in_ok-metadata.ensures, c.in_ok-components.ensures, c.in_ok-services.ensures) refl
