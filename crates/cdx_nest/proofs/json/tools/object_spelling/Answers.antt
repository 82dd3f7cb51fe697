use Rattle.std.proofs.Common.{◌∙◌}
use Rattle.cdx_models.specs.Trees.{fields_of}
use Rattle.cdx_json.proofs.Spelled.{if_ok}
use Rattle.cdx_nest.specs.Trees.{object_tree}
use Rattle.cdx_nest.proofs.ToolValues.{object_spelled}
use Rattle.cdx_nest.proofs.json.tools.object_spelling.Goals as goal

pub returns-in-V1_5 : goal.returns-in-V1_5
returns-in-V1_5 c = rw c.in-V1_5.is (if_ok c.members_spelling.result (λ v e. e ∙ object_spelled (fields_of (object_tree c.args.services.now c.args.components.now))) (rw c.in-V1_5.is at c.members_spelling.ensures))
