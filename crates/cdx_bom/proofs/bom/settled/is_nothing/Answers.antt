use Rattle.std.proofs.Common.{false, sym, ◌∙◌}
use Rattle.cdx_models.specs.Trees.{list_tree}
use Rattle.cdx_models.specs.Records.{tool_tree}
use Rattle.cdx_models.specs.Equal.{equal}
use Rattle.cdx_schema.specs.Kinds.{a_tools}
use Rattle.cdx_schema.specs.Trips.{settled}
use Rattle.cdx_nest.specs.Trees.{object_tree}
use Rattle.cdx_bom.proofs.Nested.{then_both, else_neither}
use Rattle.cdx_bom.proofs.Settled.{hollow, not_hollow, other_way, told_none}
use Rattle.cdx_bom.proofs.bom.settled.is_nothing.Goals as goal

pub returns-then-len-ne0-clause-list : goal.returns-then-len-ne0-clause-list
returns-then-len-ne0-clause-list c = not_hollow c.args.tools.now c.args.services.now c.args.components.now (λ e. c.if-len-ne0.true (c.len.ensures ∙ e))

pub returns-then-len-ne0-clause-object : goal.returns-then-len-ne0-clause-object
returns-then-len-ne0-clause-object c =
    other_way c.args.tools.now c.args.services.now c.args.components.now false (not_hollow c.args.tools.now c.args.services.now c.args.components.now (λ e. c.if-len-ne0.true (c.len.ensures ∙ e)))

pub returns-then-is_none-clause-list : goal.returns-then-is_none-clause-list
returns-then-is_none-clause-list c =
    then_both c.is_none.result c.is_none-then-is_none.result _ _ (equal (settled (list_tree tool_tree c.args.tools.now) a_tools) (settled (object_tree c.args.services.now c.args.components.now) a_tools))
    (hollow c.args.tools.now c.args.services.now c.args.components.now (sym c.len.ensures ∙ c.if-len-ne0.false)) (told_none c.args.services.now c.is_none.result c.is_none.ensures) c.if-is_none.true (told_none c.args.components.now c.is_none-then-is_none.result c.is_none-then-is_none.ensures)

pub returns-then-is_none-clause-object : goal.returns-then-is_none-clause-object
returns-then-is_none-clause-object c =
    other_way c.args.tools.now c.args.services.now c.args.components.now c.is_none-then-is_none.result
    (then_both c.is_none.result c.is_none-then-is_none.result _ _ (equal (settled (list_tree tool_tree c.args.tools.now) a_tools) (settled (object_tree c.args.services.now c.args.components.now) a_tools))
    (hollow c.args.tools.now c.args.services.now c.args.components.now (sym c.len.ensures ∙ c.if-len-ne0.false)) (told_none c.args.services.now c.is_none.result c.is_none.ensures) c.if-is_none.true (told_none c.args.components.now c.is_none-then-is_none.result c.is_none-then-is_none.ensures))

pub returns-else-is_none-clause-list : goal.returns-else-is_none-clause-list
returns-else-is_none-clause-list c =
    else_neither c.is_none.result _ _ (equal (settled (list_tree tool_tree c.args.tools.now) a_tools) (settled (object_tree c.args.services.now c.args.components.now) a_tools))
    (hollow c.args.tools.now c.args.services.now c.args.components.now (sym c.len.ensures ∙ c.if-len-ne0.false)) (told_none c.args.services.now c.is_none.result c.is_none.ensures) c.if-is_none.false

pub returns-else-is_none-clause-object : goal.returns-else-is_none-clause-object
returns-else-is_none-clause-object c =
    other_way c.args.tools.now c.args.services.now c.args.components.now c.is_none.result
    (else_neither c.is_none.result _ _ (equal (settled (list_tree tool_tree c.args.tools.now) a_tools) (settled (object_tree c.args.services.now c.args.components.now) a_tools))
    (hollow c.args.tools.now c.args.services.now c.args.components.now (sym c.len.ensures ∙ c.if-len-ne0.false)) (told_none c.args.services.now c.is_none.result c.is_none.ensures) c.if-is_none.false)
