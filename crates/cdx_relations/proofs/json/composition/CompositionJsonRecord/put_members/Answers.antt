use Rattle.std.proofs.Common.{refl}
use Rattle.cdx_schema.specs.Kinds.{assemblies, composed, vulnerabilities}
use Rattle.cdx_schema.specs.Table.{rows, list}
use Rattle.cdx_json.specs.KeptRows.{rows_put}
use Rattle.cdx_relations.proofs.json.composition.CompositionJsonRecord.put_members.Goals as goal

pub returns : goal.returns
unfolding rows_put rows list
returns c = rw (c.in_ok-put_row_since-2.ensures, c.in_ok-put_optional_list_since.ensures vulnerabilities refl, c.in_ok-put_optional_list-2.ensures composed refl, c.in_ok-put_optional_list.ensures assemblies refl, c.in_ok-put_required.ensures, c.in_ok-put_row_since.ensures) refl
