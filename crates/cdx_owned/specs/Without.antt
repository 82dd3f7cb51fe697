-- An object whose member was taken out.
use Rattle.std.specs.Prelude.{ℕ, List, if◌then◌else◌}
use Rattle.std.specs.Str.{bytes_eq}
use Rattle.serde_json.specs.Data.{Members, no_members, member}

-- the members without the one with this name
abbrev pub without : List ℕ → Members → Members
without name no_members = no_members
without name (member l x ms) = if bytes_eq l name then ms else member l x (without name ms)
