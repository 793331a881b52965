-- Orders and power: they record no chain; power off takes the address to 0, an order leaves it as it was.
-- Assumes nothing.
use Rattle.std.specs.Prelude.{ℕ, Bool, true, false, cond, [], ◌++◌, Ok, Err}
use Rattle.state.specs.declared.Slot.{Slot}
use Rattle.state.specs.Refusals.{Check}
use Rattle.state_slots.specs.Slots.{busyb}
use Rattle.state_call.specs.Outcome.{or_else}
use Rattle.regs_endpoint.specs.Endpoint.{abort_busy_ops, halt_ops, clear_ops, configure_ops, enable_ops}
use Rattle.regs_device.specs.Device.{shutdown_ops}
use Rattle.bus_endpoint.specs.declared.Order.{Order}
use Rattle.bus_endpoint.specs.declared.Order.TheVariants.{Stall, Enable}
use Rattle.bus_endpoint.specs.Endpoint.{isochronous_of, fits, ordered_ops, made_ops, obeyed_ops}
use Rattle.bus_power_off.specs.PowerOff.{shut_ops}
use Rattle.history_ops.specs.Recorded.{Silent}
use Rattle.history_ops.specs.Held.{Moves}
use Rattle.history_ops.specs.Touched.{Quiet}
use Rattle.history_ops.proofs.RecordedLaws.{silent_none, silent_cond}
use Rattle.history_ops.proofs.HeldLaws.{stays_none, moves_still, moves_cond}
use Rattle.history_ops.proofs.TouchedLaws.{quiet_none, quiet_append, quiet_cond}
use Rattle.history_ops.proofs.EndpointOps.{abort_busy_quiet, halt_quiet, clear_quiet, configure_quiet, enable_quiet}
use Rattle.history_ops.proofs.DeviceOps.{shutdown_silent, shutdown_moves}

pub ordered_quiet : (o : Order) (e : ℕ) (incoming : Bool) (x : Slot) → Quiet (ordered_ops o e incoming x)
ordered_quiet (Stall stalled) e incoming x =
    quiet_append (abort_busy_ops e incoming (busyb x.phase)) (cond stalled (halt_ops e incoming) (clear_ops e incoming)) (abort_busy_quiet e incoming (busyb x.phase))
    (quiet_cond stalled (halt_ops e incoming) (clear_ops e incoming) (halt_quiet e incoming) (clear_quiet e incoming))
ordered_quiet (Enable enabled) e incoming x =
    let iso = isochronous_of x.config in
    let set_up = configure_ops e incoming iso ++ enable_ops e incoming true in
    quiet_append (enable_ops e incoming false) (cond enabled set_up (clear_ops e incoming)) (enable_quiet e incoming false)
    (quiet_cond enabled set_up (clear_ops e incoming)
    (quiet_append (configure_ops e incoming iso) (enable_ops e incoming true) (configure_quiet e incoming iso) (enable_quiet e incoming true))
    (clear_quiet e incoming))

pub made_quiet : (powered : Bool) (e : ℕ) (incoming : Bool) (o : Order) (x : Slot) → Quiet (made_ops powered e incoming o x)
made_quiet powered e incoming o x = quiet_cond (fits powered e o x) (ordered_ops o e incoming x) [] (ordered_quiet o e incoming x) quiet_none

pub obeyed_quiet : (c : Check) (powered : Bool) (e : ℕ) (incoming : Bool) (o : Order) (x : Slot) → Quiet (obeyed_ops c powered e incoming o x)
unfolding or_else
obeyed_quiet (Ok u) powered e incoming o x = made_quiet powered e incoming o x
obeyed_quiet (Err r) powered e incoming o x = quiet_none

-- a device that is off already is left alone
pub shut_silent : (powered : Bool) → Silent (shut_ops powered)
shut_silent powered = silent_cond powered shutdown_ops [] shutdown_silent silent_none

pub shut_moves : (a : ℕ) (powered : Bool) → Moves a (cond powered 0 a) (shut_ops powered)
shut_moves a powered = moves_cond powered shutdown_ops [] (shutdown_moves a) (moves_still (stays_none a))
