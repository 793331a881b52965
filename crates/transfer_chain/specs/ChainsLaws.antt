-- A chain is handed over in five records at most, and its bytes fit 32 bits.
-- Assumes nothing.
use Rattle.std.specs.Prelude.{ℕ, ◌-◌, ◌*◌, ◌<◌, ◌≤◌, Bool, true, false, length}
use Rattle.std.proofs.Common.{mul-le-mul_right, arith}
use Rattle.ops.specs.Ops.{flat, records}
use Rattle.state.specs.declared.Slot.{Slot}
use Rattle.transfer_chain.specs.Chains.{queue_ops}

-- what the packets of a chain come to in bytes fits 32 bits
pub product_fits : (k m : ℕ) → k ≤ 255 → m < 65536 → k * m < 4294967296 - 65536
product_fits k m h d = omega (arith, mul-le-mul_right m h)

-- a chain is handed over in five records at most
pub queue_most : (limit e : ℕ) (incoming : Bool) (x : Slot) → length (flat (queue_ops limit e incoming x)) ≤ records 5
queue_most limit e true x = omega arith
queue_most limit e false x = omega arith
