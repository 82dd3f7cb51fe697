use Rattle.std.proofs.Common.{Some, codes, refl, sym, ap, subst, ◌∙◌}
use Rattle.serde_json.specs.View.{view}
use Rattle.cdx_json.specs.SeenOf.{seen_of}
use Rattle.cdx_schema.specs.Depths.{depth_of}
use Rattle.cdx_models.specs.Trees.{present}
use Rattle.cdx_schema.specs.Kinds.{a_list, components, optional}
use Rattle.cdx_schema.specs.JsonReading.{seen}
use Rattle.cdx_json.specs.Gives.{Gives}
use Rattle.cdx_nest.specs.Nested.{components_tree}
use Rattle.cdx_bom.specs.Trees.{bom_tree}
use Rattle.cdx_bom.specs.Groups.{bill_by_groups}
use Rattle.cdx_bom.proofs.ReadApart.{is_with, member_held}
use Rattle.cdx_bom.proofs.Grouped.{bill_err, bill_gives}
use Rattle.cdx_bom.proofs.json.BomFromJson.from_json_at.Goals as goal

pub returns-in-None : goal.returns-in-None
returns-in-None c = bill_err c.here.result (view c.args.value.now) c.args.context.version (depth_of c.args.context.depth) c.in-None.ensures c.here.ensures

pub returns-in_ok-members-in-Some : goal.returns-in_ok-members-in-Some
returns-in_ok-members-in-Some c =
    let o = seen (seen_of c.in_ok-members-in-Some.members.members.items) in
    let version = c.args.context.version in
    let depth = depth_of c.args.context.depth in
    let read = c.bom_from_members.ensures (o (codes "components")) (subst (Gives (present components_tree) c.optional_row-components.result) (member_held o (codes "components") optional (a_list components) version depth) c.optional_row-components.ensures) in
    bill_gives bom_tree c.bom_from_members.result (view c.args.value.now) (seen_of c.in_ok-members-in-Some.members.members.items) version depth (ap Some c.in_ok-members-in-Some.ensures ∙ c.in-Some.ensures)
    (subst (λ q. Gives bom_tree c.bom_from_members.result (bill_by_groups q version depth)) (sym (is_with (codes "components") o o (λ other apart. refl))) read)
