-- What the words ask for.
use Rattle.std.specs.Prelude.{ℕ, ◌+◌, ◌*◌, ◌-◌, ◌==◌, ◌&&◌, List, [], ◌∷◌, Bool, true, false, not, codes, nat_lt, nat_le, if◌then◌else◌, Option, Some, None, option_map, String, string_bytes, bytes_eq}
use Rattle.std.specs.Str.{all_ascii_digits}
use Rattle.std.specs.declared.alloc.Global.{Global}

-- to answer the request that the source holds, or to make a bill of so many components
pub data Command : Type 0 where
  a_road : Command
  a_make : ℕ → Command

-- ---- numbers

-- the number of decimal digits that follow on a number
abbrev pub digits_read : ℕ → List ℕ → ℕ
digits_read n [] = n
digits_read n (c ∷ cs) = digits_read (10 * n + (c - 48)) cs

-- decimal digits, the first of which isn't 0
abbrev pub is_plain_number : List ℕ → Bool
is_plain_number [] = false
is_plain_number (c ∷ cs) = not (c == 48) && all_ascii_digits (c ∷ cs)

-- neither 0 nor a sign stands first
abbrev pub is_led : List ℕ → Bool
is_led [] = false
is_led (c ∷ cs) = not (c == 48) && not (c == 43)

-- how many components a bill may be made of
abbrev pub most : ℕ
most = 20000

abbrev pub counted_if : ℕ → Option ℕ
counted_if n = if nat_lt 0 n && nat_le n most then Some n else None

-- a number from 1 to the most, in decimal, without sign or leading zero
abbrev pub count_of : List ℕ → Option ℕ
count_of s = if is_plain_number s then counted_if (digits_read 0 s) else None

-- ---- commands

-- the one word `road`, or the two words `make` and a number
abbrev pub command_of : List (String Global) → Option Command
command_of [] = None
command_of (word ∷ []) = if bytes_eq (string_bytes word) (codes "road") then Some a_road else None
command_of (word ∷ number ∷ []) = if bytes_eq (string_bytes word) (codes "make") then option_map (λ n. a_make n) (count_of (string_bytes number)) else None
command_of (word ∷ number ∷ next ∷ words) = None

abbrev pub is_road_or_not : Option Command → Bool
is_road_or_not None = false
is_road_or_not (Some a_road) = true
is_road_or_not (Some (a_make n)) = false

-- whether the words are the one word `road`, so that the source is read
abbrev pub is_road : List (String Global) → Bool
is_road words = is_road_or_not (command_of words)
