-- A flag as a number is 0 or 1.
-- Assumes nothing.
use Rattle.std.specs.Prelude.{◌≤◌, Bool, true, false}
use Rattle.std.proofs.Common.{arith}
use Rattle.base.specs.Bits.{bit}

pub bit_small : (b : Bool) → bit b ≤ 1
bit_small true = omega arith
bit_small false = omega arith
