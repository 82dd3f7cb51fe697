use Rattle.cdx_component.proofs.Copied.{component_copied}
use Rattle.cdx_component.proofs.component.copied.+component_copy.Goals as goal

pub copy_component-returns : goal.copy_component-returns
copy_component-returns t c = component_copied _ c.args.component.now _ _ _ _ c.assemble.ensures c.in_ok-origin.ensures c.in-Ok.ensures c.in-Ok-copy_marks.ensures c.in-Ok-copy_contents.ensures
