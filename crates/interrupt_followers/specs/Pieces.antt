-- The transfer status and the readings behind it by the pieces of the state that they look at and change: what the code works
-- on. That these are the readings on the state itself, as `Followers` has them, is shown in `interrupt_pieces`.
-- Assumes nothing.
use Rattle.std.specs.Prelude.{ℕ, Bool, false, not, ◌||◌, cond, List, [], Option, Some}
use Rattle.state.specs.declared.Awaiting.{Awaiting}
use Rattle.state.specs.declared.Reading.{Reading}
use Rattle.state.specs.Fresh.{nothing_awaited}
use Rattle.state_slots.specs.Slots.{busyb}
use Rattle.control_report.specs.Ep0.{received_slot, length_ops, sequence_ops}
use Rattle.interrupt_asks.specs.declared.Sight.{Sight}
use Rattle.interrupt_asks.specs.Turns.{Heard}
use Rattle.interrupt_transfer.specs.declared.TransferEffect.{TransferEffect}
use Rattle.interrupt_transfer.specs.Transfers.{last_asked}
use Rattle.interrupt_transfer.specs.Pieces.{turned_to, completed_pieces, report_pieces, status_pieces}
use Rattle.interrupt_readings.specs.Matched.{Matched, other, link_flags, link_status, capability, term_status, message, warm_status, transfer_status, setup_bytes, ep0_length, ep0_sequence, chain_packets, last_length, matched_as}

-- a SETUP has come
abbrev pub with_bytes : TransferEffect → List ℕ → TransferEffect
with_bytes f bytes = record f { setup = Some bytes }

abbrev pub with_received : TransferEffect → ℕ → TransferEffect
with_received f n = record f { slot = received_slot n f.slot }

abbrev pub with_number : TransferEffect → ℕ → TransferEffect
with_number f q = record f { tx_seq = q }

-- the status stage follows the last packet, and one that no stage asked for
abbrev pub follows_pieces : Sight → TransferEffect → Bool
follows_pieces g f = g.in_last || not (busyb f.slot.phase)

abbrev pub sequence_pieces : Bool → TransferEffect → TransferEffect
sequence_pieces follows f = cond follows f (completed_pieces 1 f)

unfoldable pub heard_pieces : Sight → TransferEffect → Matched → Heard TransferEffect
heard_pieces g f other = turned_to f g.awaited []
heard_pieces g f (link_flags x) = turned_to f g.awaited []
heard_pieces g f (link_status r) = turned_to f g.awaited []
heard_pieces g f (capability b) = turned_to f g.awaited []
heard_pieces g f (term_status r) = turned_to f g.awaited []
heard_pieces g f (message w) = turned_to f g.awaited []
heard_pieces g f (warm_status r) = turned_to f g.awaited []
heard_pieces g f (transfer_status t) = status_pieces g f t
heard_pieces g f (setup_bytes b) = turned_to (with_bytes f b) nothing_awaited []
heard_pieces g f (ep0_length n) = turned_to (completed_pieces 0 (with_received f n)) nothing_awaited length_ops
heard_pieces g f (ep0_sequence q) = turned_to (sequence_pieces (follows_pieces g f) (with_number f q)) nothing_awaited (sequence_ops (follows_pieces g f))
heard_pieces g f (chain_packets p) = turned_to f (last_asked g.awaited p) []
heard_pieces g f (last_length n) = report_pieces g f g.awaited.endpoint false g.awaited.packets n

-- a reading that is taken, by what is awaited
abbrev pub pieces_heard : Sight → TransferEffect → Option Awaiting → Reading → Heard TransferEffect
pieces_heard g f next r = heard_pieces g f (matched_as next r)
