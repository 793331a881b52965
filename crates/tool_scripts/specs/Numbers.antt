-- The numbers of a line, read one behind the other.
-- Assumes nothing.
use Rattle.std.specs.Prelude.{ℕ, ◌-◌, List, ◌≡◌}
use Rattle.tool_scripts.specs.Script.{numbers_fit}

-- the fields that are left decide, after i numbers
pub record Left (all : List (List ℕ)) (most i : ℕ) (left : List (List ℕ)) : Type 0 where
  pub decides : numbers_fit most all ≡ numbers_fit (most - i) left
