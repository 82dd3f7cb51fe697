use Rattle.std.proofs.Common.{refl}
use Rattle.cdx_schema.specs.Table.{rows, list}
use Rattle.cdx_json.specs.KeptRows.{rows_held}
use Rattle.cdx_component.proofs.json.keeping.keep_origin.Goals as goal

pub returns : goal.returns
unfolding rows_held rows list
returns c = rw (c.in_ok-component_type.ensures, c.in_ok-mime_type.ensures, c.in_ok-bom_ref.ensures, c.in_ok-supplier.ensures, c.in_ok-author.ensures, c.in_ok-publisher.ensures) refl
