use Rattle.std.proofs.Common.{rules, string_bytes}
use Rattle.cdx_tool.proofs.Printing.{attribute_printed}
use Rattle.cdx_tool.proofs.events.print.print_attribute.Goals as goal

pub returns : goal.returns
returns c = let printed = attribute_printed (string_bytes c.args.out.now) c.args.attribute.now in search rules
