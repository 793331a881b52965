-- The sum of bytes, from a place on.
-- Assumes nothing.
use Rattle.std.specs.Prelude.{ℕ, ◌≤◌, List, ◌≡◌, length, drop}
use Rattle.std.specs.List.{fold}
use Rattle.tool_patterns.specs.Patterns.{with_byte, sum_of}

abbrev pub sum_from : ℕ → List ℕ → ℕ
sum_from sum bytes = fold with_byte sum bytes

-- the bytes from i on are still to be added
pub record Adding (bytes : List ℕ) (i sum : ℕ) : Type 0 where
  pub within : i ≤ length bytes
  pub is : sum_from sum (drop i bytes) ≡ sum_of bytes
