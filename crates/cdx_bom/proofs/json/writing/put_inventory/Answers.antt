use Rattle.std.proofs.Common.{codes, refl}
use Rattle.cdx_json.specs.KeptRows.{rows_put}
use Rattle.cdx_json.specs.Spellings.{spelling_members}
use Rattle.cdx_schema.specs.Table.{rows, list}
use Rattle.cdx_bom.proofs.Labels.{label_put}
use Rattle.cdx_bom.proofs.json.writing.put_inventory.Goals as goal

pub returns : goal.returns
unfolding rows_put rows list
returns c =
    let labelled = label_put (codes "specVersion") c.as_str.result c.args.held.now.spec_version c.args.target.version (spelling_members c.args.map.now.items) (spelling_members c.put.new.members.items) c.as_str.ensures c.in_ok-put.ensures in
    rw (c.in_ok-put_row-3.ensures, c.in_ok-put_components.ensures, c.in_ok-put_row-2.ensures, c.in_ok-put_row.ensures, c.in_ok-put_required.ensures, labelled) refl
