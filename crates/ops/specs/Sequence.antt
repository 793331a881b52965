-- Operations for one number after the other, as a loop over endpoints makes them.
-- Assumes nothing.
use Rattle.std.specs.Prelude.{ℕ, zero, suc, List, [], ◌++◌}
use Rattle.ops.specs.Ops.{Op}

-- those of 1, then those of 2, and so on, those of n last
unfoldable pub up_to : (ℕ → List Op) → ℕ → List Op
up_to each zero = []
up_to each (suc n) = up_to each n ++ each (suc n)
