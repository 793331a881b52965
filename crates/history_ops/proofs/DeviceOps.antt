-- What is done to the device as a whole: it records no chain, and the address goes to 0.
-- Assumes nothing.
use Rattle.std.specs.Prelude.{ℕ, true, false, List, ◌++◌, refl}
use Rattle.ops.specs.Ops.{Op}
use Rattle.ops.specs.Sequence.{up_to}
use Rattle.regs_endpoint.specs.Endpoint.{clear_ops}
use Rattle.regs_link.specs.Link.{link_power_allow_ops}
use Rattle.regs_control.specs.Control.{ep0_tx_clear_ops, ep0_rx_ready_ops, address_ops}
use Rattle.regs_init.specs.Init.{init_ops}
use Rattle.regs_device.specs.Device.{shutdown_ops, protocol_ops, clear_both, ep0_memory_ops, protocol_reset_ops, bus_reset_ops, power_on_ops}
use Rattle.history_ops.specs.Recorded.{Silent}
use Rattle.history_ops.specs.Held.{held_by, held, through, Stays, Moves}
use Rattle.history_ops.specs.Touched.{touches, Quiet}
use Rattle.history_ops.proofs.RecordedLaws.{silent_append}
use Rattle.history_ops.proofs.HeldLaws.{moves_behind, moves_before}
use Rattle.history_ops.proofs.TouchedLaws.{silent_untouched, quiet_untouched, quiet_append}
use Rattle.history_ops.proofs.EndpointOps.{clear_quiet}
use Rattle.history_ops.proofs.LinkOps.{link_power_allow_quiet, init_quiet}

pub protocol_silent : Silent protocol_ops
unfolding touches
protocol_silent = silent_untouched protocol_ops refl

-- the write of the interrupts that are wanted doesn't name it
pub protocol_moves : (a : ℕ) → Moves a 0 protocol_ops
unfolding through held held_by
protocol_moves a = record { first = 2; others = 5; each = refl; end = refl }

pub clear_both_quiet : (e : ℕ) → Quiet (clear_both e)
clear_both_quiet e = quiet_append (clear_ops e true) (clear_ops e false) (clear_quiet e true) (clear_quiet e false)

pub ep0_memory_quiet : (ep0 : ℕ) → Quiet (ep0_memory_ops ep0)
unfolding touches
ep0_memory_quiet ep0 = quiet_untouched (ep0_memory_ops ep0) refl

pub protocol_reset_silent : (ep0 : ℕ) → Silent (protocol_reset_ops ep0)
unfolding touches up_to
protocol_reset_silent ep0 = silent_untouched (protocol_reset_ops ep0) refl

-- what a reset does behind that of the protocol layer: it gives the address 0, which it is already
abbrev anew : ℕ → List Op
anew ep0 = up_to clear_both 7 ++ (ep0_memory_ops ep0 ++ (ep0_tx_clear_ops ++ (ep0_rx_ready_ops ++ address_ops 0)))

anew_stays : (ep0 : ℕ) → Stays 0 (anew ep0)
unfolding through held_by up_to
anew_stays ep0 = refl

pub protocol_reset_moves : (a ep0 : ℕ) → Moves a 0 (protocol_reset_ops ep0)
protocol_reset_moves a ep0 = moves_before protocol_ops (anew ep0) (protocol_moves a) (anew_stays ep0)

pub bus_reset_silent : (ep0 : ℕ) → Silent (bus_reset_ops ep0)
bus_reset_silent ep0 = silent_append (protocol_reset_ops ep0) (link_power_allow_ops false) (protocol_reset_silent ep0) (link_power_allow_quiet false).silent

pub bus_reset_moves : (a ep0 : ℕ) → Moves a 0 (bus_reset_ops ep0)
bus_reset_moves a ep0 = moves_before (protocol_reset_ops ep0) (link_power_allow_ops false) (protocol_reset_moves a ep0) ((link_power_allow_quiet false).keeps 0)

pub power_on_silent : (revision ep0 : ℕ) → Silent (power_on_ops revision ep0)
power_on_silent revision ep0 = silent_append (init_ops revision) (bus_reset_ops ep0) (init_quiet revision).silent (bus_reset_silent ep0)

pub power_on_moves : (a revision ep0 : ℕ) → Moves a 0 (power_on_ops revision ep0)
power_on_moves a revision ep0 = moves_behind (init_ops revision) (bus_reset_ops ep0) ((init_quiet revision).keeps a) (bus_reset_moves a ep0)

pub shutdown_silent : Silent shutdown_ops
unfolding touches
shutdown_silent = silent_untouched shutdown_ops refl

-- its first write names other fields only
pub shutdown_moves : (a : ℕ) → Moves a 0 shutdown_ops
unfolding through held held_by
shutdown_moves a = record { first = 0; others = 6; each = refl; end = refl }
