-- Sets of slots, a bit for each, and what a call wakes.
-- Assumes nothing.
use Rattle.std.specs.Prelude.{ℕ, ◌+◌, ◌/◌, ◌%◌, ◌^◌, Bool, true, false, cond, ◌==◌, nat_lt}
use Rattle.state.specs.declared.Wakes.{Wakes}

-- the set of one slot; empty where no slot has the number
abbrev pub slot_set : ℕ → ℕ
slot_set i = cond (nat_lt i 16) (2 ^ i) 0

abbrev pub has_slot : ℕ → ℕ → Bool
has_slot slots i = slots / slot_set i % 2 == 1

-- a set with slot i
abbrev pub add_slot : ℕ → ℕ → ℕ
add_slot slots i = slots + cond (has_slot slots i) 0 (slot_set i)

-- nobody; one slot alone; the bus and every slot
abbrev pub no_wakes : Wakes
no_wakes = record { bus = false; slots = 0 }

abbrev pub wake_slot : ℕ → Wakes
wake_slot i = record { bus = false; slots = slot_set i }

abbrev pub wake_all : Wakes
wake_all = record { bus = true; slots = 65535 }
