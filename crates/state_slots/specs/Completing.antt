-- The end of a slot's transfer, and the end of an interrupt (reference: `complete` and `on_interrupt` of device.rs).
-- Assumes nothing.
use Rattle.std.specs.Prelude.{ℕ, Bool, true, false, cond, not, ◌==◌, nat_lt}
use Rattle.state.specs.declared.Phase.TheVariants.{Done}
use Rattle.state.specs.declared.Slot.{Slot}
use Rattle.state.specs.declared.State.{State}
use Rattle.state.specs.declared.Events.{Events}
use Rattle.state.specs.declared.Wakes.{Wakes}
use Rattle.state.specs.Fresh.{slot_at, nothing_awaited}
use Rattle.state.specs.Setters.{with_slot, with_wake, with_awaited}
use Rattle.state_slots.specs.Slots.{busyb, moved_slot}
use Rattle.state_slots.specs.Waking.{add_slot}

-- who waits for a slot: of endpoint 0 slot 0, for both directions
abbrev pub waiter_of : ℕ → ℕ
waiter_of i = cond (nat_lt i 2) 0 i

abbrev pub done_slot : Slot → Slot
done_slot x = moved_slot x Done x.transfer

-- slot i, busy as x, is done; the end of the interrupt wakes who waits for it
abbrev pub done_at : State → ℕ → Slot → State
done_at s i x = with_wake (with_slot s i (done_slot x)) (add_slot s.wake (waiter_of i))

-- only a busy slot is completed
abbrev pub complete_at : Bool → State → ℕ → State
complete_at true s i = done_at s i (slot_at s i)
complete_at false s i = s

abbrev pub complete : State → ℕ → State
complete s i = complete_at (busyb (slot_at s i).phase) s i

-- the same of a slot, and of the set, by itself
abbrev pub completed_slot : Slot → Slot
completed_slot x = cond (busyb x.phase) (done_slot x) x

abbrev pub completed_wake : ℕ → Slot → ℕ → ℕ
completed_wake i x wake = cond (busyb x.phase) (add_slot wake (waiter_of i)) wake

-- and the state where the slot is x by now
abbrev pub complete_as : State → ℕ → Slot → State
complete_as s i x = with_wake (with_slot s i (completed_slot x)) (completed_wake i x s.wake)

-- whom the end of an interrupt wakes: the bus where events are pending, and the slots collected
abbrev pub collected : Events → ℕ → Wakes
collected v wake = record { bus = not (v.events == 0); slots = wake }

-- nobody is left to be woken then, and nothing is awaited or remembered
abbrev pub ended_state : State → State
ended_state s = with_awaited (with_wake s 0) nothing_awaited
