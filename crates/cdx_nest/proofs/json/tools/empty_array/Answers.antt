use Rattle.cdx_nest.proofs.ToolValues.{empty_is}
use Rattle.cdx_nest.proofs.json.tools.empty_array.Goals as goal

pub returns : goal.returns
returns c = empty_is c.new.result c.new.ensures.items
