-- Endpoint 0's part of an interrupt, and a request accepted: no chain is recorded, and the address that waits is given by the end
-- of a status stage, at once, and by nothing else.
-- Assumes nothing.
use Rattle.std.specs.Prelude.{ℕ, Bool, true, false, List, ◌++◌, refl, Option, Some, None}
use Rattle.ops.specs.Ops.{Op}
use Rattle.ops.specs.Numbers as number
use Rattle.regs_control.specs.Control.{ep0_tx_clear_ops, ep0_rx_ready_ops, status_ack_ops}
use Rattle.control_report.specs.Ep0.{setup_ops, address_due, status_ops, length_ops, sequence_ops}
use Rattle.control_accept.specs.Accept.{accept_ops}
use Rattle.history_ops.specs.Recorded.{Silent}
use Rattle.history_ops.specs.Held.{Moves, due}
use Rattle.history_ops.specs.Touched.{touches, Quiet}
use Rattle.history_ops.proofs.RecordedLaws.{silent_none, silent_append}
use Rattle.history_ops.proofs.HeldLaws.{stays_none, moves_still, moves_behind, moves_before}
use Rattle.history_ops.proofs.TouchedLaws.{quiet_untouched}
use Rattle.history_ops.proofs.ControlOps.{status_ack_quiet, ep0_rx_answer_quiet, address_silent, address_moves}

pub setup_quiet : Quiet setup_ops
unfolding touches
setup_quiet = quiet_untouched setup_ops refl

pub address_due_silent : (address : Option ℕ) → Silent (address_due address)
address_due_silent None = silent_none
address_due_silent (Some b) = address_silent b

pub address_due_moves : (a : ℕ) (address : Option ℕ) → Moves a (due address a) (address_due address)
address_due_moves a None = moves_still (stays_none a)
address_due_moves a (Some b) = address_moves a b

-- what the end of a status stage writes before and behind the address
abbrev ready : List Op
ready = ep0_tx_clear_ops ++ ep0_rx_ready_ops

ready_quiet : Quiet ready
unfolding touches
ready_quiet = quiet_untouched ready refl

pub status_silent : (address : Option ℕ) → Silent (status_ops address)
status_silent address =
    silent_append (status_ack_ops number.udif_status) (address_due address ++ ready) (status_ack_quiet number.udif_status).silent
    (silent_append (address_due address) ready (address_due_silent address) ready_quiet.silent)

pub status_moves : (a : ℕ) (address : Option ℕ) → Moves a (due address a) (status_ops address)
status_moves a address =
    moves_behind (status_ack_ops number.udif_status) (address_due address ++ ready) ((status_ack_quiet number.udif_status).keeps a)
    (moves_before (address_due address) ready (address_due_moves a address) (ready_quiet.keeps (due address a)))

pub length_quiet : Quiet length_ops
length_quiet = ep0_rx_answer_quiet number.nrdy

pub sequence_quiet : (follows : Bool) → Quiet (sequence_ops follows)
unfolding touches
sequence_quiet true = quiet_untouched (sequence_ops true) refl
sequence_quiet false = quiet_untouched (sequence_ops false) refl

pub accept_quiet : Quiet accept_ops
unfolding touches
accept_quiet = quiet_untouched accept_ops refl
