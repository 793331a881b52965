-- How long the address takes.
-- Assumes nothing.
use Rattle.std.specs.Prelude.{ℕ, ◌≤◌, length, Option, Some, None}
use Rattle.std.proofs.Common.{arith}
use Rattle.ops.specs.Ops.{flat, records}
use Rattle.control_report.specs.Ep0.{address_due}

pub address_most : (address : Option ℕ) → length (flat (address_due address)) ≤ records 1
address_most (Some address) = omega arith
address_most None = omega arith
