use Rattle.std.proofs.Common.{ap, ◌∙◌}
use Rattle.cdx_json.specs.KeptRows.{rows_put}
use Rattle.cdx_json.specs.Spellings.{spelling_members}
use Rattle.cdx_models.specs.Trees.{bill, present}
use Rattle.cdx_schema.specs.Groups.{group}
use Rattle.cdx_nest.specs.Nested.{components_tree}
use Rattle.cdx_bom.specs.Trees.{inventory_beside}
use Rattle.cdx_bom.proofs.Grouped.{bill_put}
use Rattle.cdx_bom.proofs.json.BomToJson.spelling.Goals as goal

pub returns : goal.returns
returns c =
    let lent = ap (λ o. rows_put (inventory_beside (present components_tree o) c.args.self.now) c.args.version (group 0 bill) (spelling_members c.put_format.new.map.items)) c.as_ref.ensures.value in
    bill_put _ c.args.self.now c.args.version _ _ c.in_ok-put_format.ensures (c.in_ok-put_inventory.ensures ∙ lent) c.in_ok-put_relations.ensures
