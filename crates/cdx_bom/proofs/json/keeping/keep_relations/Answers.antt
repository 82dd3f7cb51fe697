use Rattle.std.proofs.Common.{refl}
use Rattle.cdx_schema.specs.Table.{rows, list}
use Rattle.cdx_json.specs.KeptRows.{rows_held}
use Rattle.cdx_bom.proofs.json.keeping.keep_relations.Goals as goal

pub returns : goal.returns
unfolding rows_held rows list
returns c = rw (c.in_ok-external_references.ensures, c.in_ok-dependencies.ensures, c.in_ok-compositions.ensures, c.in_ok-properties.ensures, c.in_ok-signature.ensures) refl
