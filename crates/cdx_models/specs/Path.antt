-- How a path is printed: a JSON pointer by RFC 6901.
use Rattle.std.specs.Prelude.{ℕ, ◌==◌, List, [], ◌∷◌, flat_map, codes, decimal, if◌then◌else◌}
use Rattle.cdx_models.specs.declared.errors.Step.{Step}
use Rattle.cdx_models.specs.declared.errors.Step.TheVariants.{Member, Item}

-- `~` is written `~0`, and `/` is written `~1`
abbrev pub escaped_byte : ℕ → List ℕ
escaped_byte c = if c == 126 then codes "~0" else (if c == 47 then codes "~1" else c ∷ [])

abbrev pub escaped : List ℕ → List ℕ
escaped name = flat_map escaped_byte name

-- a step is a `/`, and then a member's name or an item's number
abbrev pub step_text : Step → List ℕ
step_text (Member name) = 47 ∷ escaped name
step_text (Item n) = 47 ∷ decimal n

abbrev pub pointer : List Step → List ℕ
pointer steps = flat_map step_text steps
