-- Bytes that were put last.
use Rattle.std.specs.Prelude.{◌≡◌, ℕ, List, ◌++◌}

-- The bytes begin with what they were.
pub record Grows (old new : List ℕ) : Type 0 where
  pub more : List ℕ
  pub parts : new ≡ old ++ more
