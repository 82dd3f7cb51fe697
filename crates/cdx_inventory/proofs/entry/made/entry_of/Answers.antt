use Rattle.cdx_inventory.proofs.Made.{told_of, same_line}
use Rattle.cdx_inventory.proofs.entry.made.entry_of.Goals as goal

pub returns : goal.returns
returns c = told_of c.args.steps.now c.args.component.now _ _ _ _ c.in_ok-path.ensures c.in_ok-name.ensures (same_line _ _ c.in_ok-version.ensures) c.in_ok-licenses.ensures
