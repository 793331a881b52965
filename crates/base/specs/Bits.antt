-- A flag as a number.
-- Assumes nothing.
use Rattle.std.specs.Prelude.{ℕ, Bool, true, false}

abbrev pub bit : Bool → ℕ
bit false = 0
bit true = 1
