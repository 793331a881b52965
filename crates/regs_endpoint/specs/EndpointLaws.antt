-- How long the lists are.
-- Assumes nothing.
use Rattle.std.specs.Prelude.{ℕ, ◌≤◌, length, Bool, true, false}
use Rattle.std.proofs.Common.{arith}
use Rattle.ops.specs.Ops.{flat, records}
use Rattle.regs_endpoint.specs.Endpoint.{abort_busy_ops}

pub abort_busy_room : (e : ℕ) (incoming busy : Bool) → length (flat (abort_busy_ops e incoming busy)) ≤ records 3
abort_busy_room e incoming true = omega arith
abort_busy_room e incoming false = omega arith
