use Rattle.std.proofs.Common.{refl}
use Rattle.cdx_schema.specs.Kinds.{endpoints}
use Rattle.cdx_schema.specs.Table.{rows, list}
use Rattle.cdx_json.specs.KeptRows.{rows_held}
use Rattle.cdx_service.proofs.json.keeping.keep_service_access.Goals as goal

pub returns : goal.returns
unfolding rows_held rows list
returns c = rw ((c.in_ok-endpoints.ensures endpoints refl), c.in_ok-authenticated.ensures, c.in_ok-x_trust_boundary.ensures, c.in_ok-data_items.ensures, c.in_ok-licenses.ensures, c.in_ok-external_references.ensures) refl
