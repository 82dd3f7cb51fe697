use Rattle.std.proofs.Common.{Ok, refl, sym, ap, subst, codes, ◌∙◌}
use Rattle.serde_json.specs.View.{members_view}
use Rattle.cdx_models.specs.Trees.{component, items, each}
use Rattle.cdx_schema.specs.Kinds.{a_list, a_record, components, optional}
use Rattle.cdx_schema.specs.Table.{list}
use Rattle.cdx_schema.specs.JsonReading.{seen}
use Rattle.cdx_schema.specs.Depths.{depth_of}
use Rattle.cdx_json.specs.Gives.{Fails}
use Rattle.cdx_json.specs.ByRows.{IsJsonListOf}
use Rattle.cdx_nest.specs.Nested.{component_tree, components_tree-out}
use Rattle.cdx_bom.proofs.ReadApart.{member_held}
use Rattle.cdx_bom.proofs.json.owned.take_components.Goals as goal

lists_components : IsJsonListOf (a_record component) components
unfolding list
lists_components = refl

pub returns-in-Ok-Err-clause-read : goal.returns-in-Ok-Err-clause-read
returns-in-Ok-Err-clause-read c =
    subst (Fails c.in-Ok-Err.error) (member_held (seen (members_view c.args.map.now.entries)) (codes "components") optional (a_list components) c.args.context.version (depth_of c.args.context.depth))
    ((rw c.in-Ok-Err.field-0-is at c.in-Ok-Err.ensures.read) components lists_components)

pub returns-in-Ok-Ok-None-clause-read : goal.returns-in-Ok-Ok-None-clause-read
returns-in-Ok-Ok-None-clause-read c =
    sym (member_held (seen (members_view c.args.map.now.entries)) (codes "components") optional (a_list components) c.args.context.version (depth_of c.args.context.depth))
    ∙ (rw (c.in-Ok-Ok-None.field-0-is, c.in-Ok-Ok-None.field-0-0-is) at c.in-Ok-Ok-None.ensures.read) components lists_components

pub returns-in-Ok-Ok-Some-clause-read : goal.returns-in-Ok-Ok-Some-clause-read
returns-in-Ok-Ok-Some-clause-read c =
    sym (member_held (seen (members_view c.args.map.now.entries)) (codes "components") optional (a_list components) c.args.context.version (depth_of c.args.context.depth))
    ∙ (rw (c.in-Ok-Ok-Some.field-0-is, c.in-Ok-Ok-Some.field-0-0-is) at c.in-Ok-Ok-Some.ensures.read) components lists_components
    ∙ ap Ok (ap (λ xs. items (each component_tree xs)) (sym c.from_list.ensures) ∙ sym (components_tree-out c.from_list.result))
