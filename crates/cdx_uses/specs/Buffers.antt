-- What contracts see of a buffer.
use Rattle.std.specs.Prelude.{ℕ, List}

pub record Held : Type 0 where
  -- what was written
  pub written : List ℕ
  -- how much of it is flushed
  pub flushed : ℕ
  -- how often it has failed
  pub faults : ℕ
