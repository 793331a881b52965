-- Power off (reference: `power_off` of device.rs).
-- Assumes nothing.
use Rattle.std.specs.Prelude.{ℕ, Bool, cond, List, [], Err, Result, Ok}
use Rattle.ops.specs.Ops.{Op}
use Rattle.state.specs.declared.State.{State}
use Rattle.state.specs.declared.Events.{Events}
use Rattle.state.specs.declared.Refusal.{Refusal}
use Rattle.state.specs.Setters.{with_slots, unasked, unpowered}
use Rattle.state.specs.Refusals.{Condition, first_refusal}
use Rattle.state_slots.specs.Slots.{slots_off}
use Rattle.state_slots.specs.Waking.{wake_all}
use Rattle.state_call.specs.Turn.{admitted}
use Rattle.state_call.specs.Outcome.{Outcome, unless}
use Rattle.regs_device.specs.Device.{shutdown_ops}

abbrev pub off_conditions : ℕ → State → Events → List Condition
off_conditions room s v = admitted room s v []

-- every transfer is cut and a waiting SETUP dropped, also where the device is off already
abbrev pub off_state : State → State
off_state s = unpowered (unasked (with_slots s (slots_off s.endpoints)))

-- the registers of one that is off are left alone
abbrev pub shut_ops : Bool → List Op
shut_ops powered = cond powered shutdown_ops []

unfoldable pub power_off_call : ℕ → State → Events → Outcome (Result Unit Refusal)
power_off_call room s v =
    unless Err (first_refusal (off_conditions room s v)) s v
    (record { answer = Ok tt; state = off_state s; events = v; ops = shut_ops s.powered; wakes = wake_all; copied = [] })
