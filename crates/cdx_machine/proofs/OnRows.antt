-- What the check takes for the children of a record's rows.
use Rattle.std.specs.Prelude.{⊤}
use Rattle.cdx_schema.specs.Table.{rows, list}
use Rattle.cdx_leaf.proofs.ChildSteps.{differs}
use Rattle.cdx_machine.proofs.Names.{same_name, more_put}

-- what it unfolds
unfoldable pub on_rows : ⊤
unfolding rows list
on_rows = tt

-- what it cites for the name of a child, and for its value
pub ruleset by_rows = (differs, same_name, more_put)
