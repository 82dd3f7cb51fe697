-- What the words of the program ask for.
use Rattle.std.specs.Prelude.{List, [], ◌∷◌, codes, if◌then◌else◌, Option, Some, None, String, string_bytes}
use Rattle.std.specs.Str.{bytes_eq}
use Rattle.std.specs.declared.alloc.Global.{Global}
use Rattle.cdx_canon.specs.declared.words.Command.{Command}
use Rattle.cdx_canon.specs.declared.words.Command.TheVariants.{Text, Equal}

-- the one word `text`, or the one word `equal`
abbrev pub command_of : List (String Global) → Option Command
command_of [] = None
command_of (word ∷ []) = if bytes_eq (string_bytes word) (codes "text") then Some Text else (if bytes_eq (string_bytes word) (codes "equal") then Some Equal else None)
command_of (word ∷ next ∷ words) = None
