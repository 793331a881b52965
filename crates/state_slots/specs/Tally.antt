-- Begun = finished + cut + in hand, modulo 2^32.
-- Assumes nothing.
use Rattle.std.specs.Prelude.{◌≡◌, ℕ, ◌+◌, ◌%◌, ◌^◌, not}
use Rattle.base.specs.Bits.{bit}
use Rattle.state.specs.declared.Slot.{Slot}
use Rattle.state_slots.specs.Slots.{idleb}

-- 1 while a transfer is busy or done and not taken, else 0
abbrev pub in_hand : Slot → ℕ
in_hand x = bit (not (idleb x.phase))

-- what is to equal `begun`
abbrev pub accounted : Slot → ℕ
accounted x = (x.tally.finished + x.tally.cut + in_hand x) % 2 ^ 32

-- a call on a slot that begins nothing
pub record KeepsAccount (x y : Slot) : Type 0 where
  pub begun : y.tally.begun ≡ x.tally.begun
  pub same : accounted y ≡ accounted x

-- begun less accounted is the same, modulo 2^32
pub record SameDifference (x y : Slot) : Type 0 where
  pub difference : (y.tally.begun + accounted x) % 2 ^ 32 ≡ (x.tally.begun + accounted y) % 2 ^ 32
