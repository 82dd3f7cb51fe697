-- The program's commands beside those of the words.
use Rattle.cdx_tool.specs.declared.words.Command.{Command}
use Rattle.cdx_tool.specs.declared.words.Command.TheVariants.{Road, Make}
use Rattle.cdx_tool.specs.Words as asked
use Rattle.cdx_tool.specs.Words.{a_road, a_make}

abbrev pub command_in : Command → asked.Command
command_in Road = a_road
command_in (Make n) = a_make n
