-- How long the lists are.
-- Assumes nothing.
use Rattle.std.specs.Prelude.{ℕ, ◌*◌, length, ◌≡◌, refl}
use Rattle.ops.specs.Sequence.{up_to}
use Rattle.ops.specs.SequenceLaws.{up_to_length}
use Rattle.ops.specs.Ops.{flat, records}
use Rattle.regs_device.specs.Device.{clear_both, protocol_reset_ops, bus_reset_ops, power_on_ops}

pub clear_both_length : (n : ℕ) → length (flat (up_to clear_both n)) ≡ n * records 8
clear_both_length n = up_to_length clear_both (records 8) (λ e. refl) n

pub protocol_reset_length : (ep0 : ℕ) → length (flat (protocol_reset_ops ep0)) ≡ records 81
unfolding up_to
protocol_reset_length ep0 = refl

pub bus_reset_length : (ep0 : ℕ) → length (flat (bus_reset_ops ep0)) ≡ records 83
unfolding up_to
bus_reset_length ep0 = refl

-- the longest list of all, whatever the revision and the memory of endpoint 0 are
pub power_on_length : (revision ep0 : ℕ) → length (flat (power_on_ops revision ep0)) ≡ records 127
unfolding up_to
power_on_length revision ep0 = refl
