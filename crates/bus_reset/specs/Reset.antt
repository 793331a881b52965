-- Resets (reference: `reset` of EndpointState, `control_reset` and `bus_reset` of device.rs). Their operations are those
-- of regs_device.
-- Assumes nothing.
use Rattle.std.specs.Prelude.{ℕ, ◌+◌, ◌%◌, ◌^◌, Bool, true, false, ◌&&◌, nat_le, nat_lt, None}
use Rattle.base.specs.Each.{change}
use Rattle.state.specs.declared.Slot.{Slot}
use Rattle.state.specs.declared.State.{State}
use Rattle.state.specs.Setters.{Control, control_of, with_slots, with_link, with_control, with_wake, unasked}
use Rattle.state_slots.specs.Slots.{reset_slot, slots_off}
use Rattle.state_slots.specs.Waking.{add_slot}

-- a slot once its transfer is cut: off, but of endpoint 0 on where `control` is
abbrev pub slot_after : Bool → ℕ → Slot → Slot
slot_after control i x = reset_slot x (nat_le 2 i) (control && nat_lt i 2)

-- endpoint 0's slots are on behind a reset
abbrev pub ep0_slot : ℕ → Slot → Slot
ep0_slot i x = reset_slot x false true

-- the control transfer is over: its generation grows, an address that waits is dropped, no IN packet is the last
abbrev pub ended_control : Control → Control
ended_control c =
    record {
      setup = c.setup;
      generation = (c.generation + 1) % 2 ^ 32;
      last = false;
      sequence = c.sequence;
      address = None;
    }

-- who waits for a stage of it is to be woken
abbrev pub control_reset : State → State
control_reset s = with_wake (with_control (with_slots s (change ep0_slot 2 s.endpoints)) (ended_control (control_of s))) (add_slot s.wake 0)

-- a bus reset: no SETUP waits, the link isn't suspended, every slot is off, the control transfer is reset, and all slots
-- are to be woken
abbrev pub bus_reset_state : State → State
bus_reset_state s =
    with_wake
    (control_reset (with_link (unasked (with_slots s (slots_off s.endpoints))) (record { suspended = false; seen = s.reset_seen; low = false })))
    65535
