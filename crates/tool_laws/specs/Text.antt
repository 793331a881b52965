-- Text put into a buffer.
-- Assumes nothing.
use Rattle.std.specs.Prelude.{ℕ, ◌-◌, List}
use Rattle.io.specs.Digits.{last_digits, IsDigitCount}
use Rattle.ops.specs.Stores.{Stored}

-- the decimal digits of n, as few as hold it, stand from `at` up to r
pub record NumberStored (l : List ℕ) (at n r : ℕ) (l' : List ℕ) : Type 0 where
  pub fewest : IsDigitCount 10 1 n (r - at)
  pub text : Stored l at (last_digits 10 (r - at) n) r l'
