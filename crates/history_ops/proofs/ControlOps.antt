-- What is done to endpoint 0's registers and to the transfer flags: it records no chain, and only the write of the address changes that.
-- Assumes nothing.
use Rattle.std.specs.Prelude.{ℕ, Bool, refl}
use Rattle.ops.specs.declared.numbers.Field.{Field}
use Rattle.regs_control.specs.Control.{ep0_rx_ready_ops, ep0_tx_ready_ops, ep0_stall_ops, ep0_tx_clear_ops, ep0_rx_clear_ops, ep0_tx_answer_ops, ep0_rx_answer_ops, status_ack_ops, status_others_ops, address_ops}
use Rattle.history_ops.specs.Recorded.{Silent}
use Rattle.history_ops.specs.Held.{held_by, held, through, Moves}
use Rattle.history_ops.specs.Touched.{touches, Quiet}
use Rattle.history_ops.proofs.TouchedLaws.{silent_untouched, quiet_untouched}

pub ep0_rx_ready_quiet : Quiet ep0_rx_ready_ops
unfolding touches
ep0_rx_ready_quiet = quiet_untouched ep0_rx_ready_ops refl

pub ep0_tx_ready_quiet : (seq len : ℕ) → Quiet (ep0_tx_ready_ops seq len)
unfolding touches
ep0_tx_ready_quiet seq len = quiet_untouched (ep0_tx_ready_ops seq len) refl

pub ep0_stall_quiet : Quiet ep0_stall_ops
unfolding touches
ep0_stall_quiet = quiet_untouched ep0_stall_ops refl

pub ep0_tx_clear_quiet : Quiet ep0_tx_clear_ops
unfolding touches
ep0_tx_clear_quiet = quiet_untouched ep0_tx_clear_ops refl

pub ep0_rx_clear_quiet : Quiet ep0_rx_clear_ops
unfolding touches
ep0_rx_clear_quiet = quiet_untouched ep0_rx_clear_ops refl

pub ep0_tx_answer_quiet : (answer : ℕ) → Quiet (ep0_tx_answer_ops answer)
unfolding touches
ep0_tx_answer_quiet answer = quiet_untouched (ep0_tx_answer_ops answer) refl

pub ep0_rx_answer_quiet : (answer : ℕ) → Quiet (ep0_rx_answer_ops answer)
unfolding touches
ep0_rx_answer_quiet answer = quiet_untouched (ep0_rx_answer_ops answer) refl

pub status_ack_quiet : (flag : Field) → Quiet (status_ack_ops flag)
unfolding touches
status_ack_quiet flag = quiet_untouched (status_ack_ops flag) refl

pub status_others_quiet : (itp ping txov rxov : Bool) → Quiet (status_others_ops itp ping txov rxov)
unfolding touches
status_others_quiet itp ping txov rxov = quiet_untouched (status_others_ops itp ping txov rxov) refl

-- The address that the device answers to from now on.
pub address_silent : (address : ℕ) → Silent (address_ops address)
unfolding touches
address_silent address = silent_untouched (address_ops address) refl

pub address_moves : (a address : ℕ) → Moves a address (address_ops address)
unfolding through held held_by
address_moves a address = record { first = 0; others = 1; each = refl; end = refl }
