-- Endpoint 0's part of an interrupt (reference: `transfer_irq` and `ep0_irq` of device.rs).
-- Assumes nothing.
use Rattle.std.specs.Prelude.{ℕ, Bool, not, ◌||◌, cond, List, [], ◌++◌, Option, Some, None}
use Rattle.ops.specs.Numbers as number
use Rattle.ops.specs.Ops.{Op}
use Rattle.state.specs.declared.Slot.{Slot}
use Rattle.state.specs.declared.State.{State}
use Rattle.state.specs.Fresh.{slot_at}
use Rattle.state.specs.Setters.{with_setup, with_sequence, with_stage}
use Rattle.state_slots.specs.Slots.{busyb, moved_slot}
use Rattle.state_slots.specs.Completing.{complete, complete_as}
use Rattle.regs_control.specs.Control.{ep0_tx_clear_ops, ep0_rx_clear_ops, ep0_rx_ready_ops, ep0_tx_answer_ops, ep0_rx_answer_ops, status_ack_ops, address_ops}
use Rattle.bus_reset.specs.Reset.{control_reset, bus_reset_state}

-- a SETUP: both directions are cleared and its flag acknowledged before its bytes are read
abbrev pub setup_ops : List Op
setup_ops = ep0_tx_clear_ops ++ (ep0_rx_clear_ops ++ status_ack_ops number.udif_setup)

-- its bytes end the control transfer in hand, and wait to be fetched
abbrev pub setup_received : State → List ℕ → State
setup_received s bytes = with_setup (control_reset s) bytes

-- a bus reset, or the bytes of a SETUP that has come, which reset the control transfer
abbrev pub received_by : State → Option (List ℕ) → State
received_by s None = s
received_by s (Some bytes) = setup_received s bytes

abbrev pub reset_by : Bool → State → Option (List ℕ) → State
reset_by bus s setup = cond bus (bus_reset_state s) (received_by s setup)

-- the status stage (USB 3.2, 9.4.6: an address takes hold behind it): the address that waits is written, if one does,
abbrev pub address_due : Option ℕ → List Op
address_due None = []
address_due (Some address) = address_ops address

abbrev pub status_ops : Option ℕ → List Op
status_ops address =
    status_ack_ops number.udif_status ++ (address_due address ++ (ep0_tx_clear_ops ++ ep0_rx_ready_ops))

-- and waits no longer; the IN stage is done
abbrev pub status_done : State → State
status_done s = complete (with_stage s s.in_last None) 1

-- so many bytes have come; further packets are answered NRDY, and the OUT stage is done
abbrev pub received_slot : ℕ → Slot → Slot
received_slot n x = moved_slot x x.phase (record x.transfer { progress = n })

abbrev pub length_ops : List Op
length_ops = ep0_rx_answer_ops number.nrdy

abbrev pub length_received : State → ℕ → State
length_received s n = complete_as s 0 (received_slot n (slot_at s 0))

-- A packet has gone out under a sequence number. Behind the last one, or where no stage is under way, follows the status
-- stage, which completes the slot; else NRDY until the next packet is ready, and the IN stage is done.
abbrev pub status_follows : State → Bool
status_follows s = s.in_last || not (busyb (slot_at s 1).phase)

abbrev pub sequence_ops : Bool → List Op
sequence_ops follows = cond follows (ep0_tx_answer_ops number.dph ++ ep0_rx_ready_ops) (ep0_tx_answer_ops number.nrdy)

abbrev pub packet_sent : State → ℕ → State
packet_sent s q = cond (status_follows s) (with_sequence s q) (complete (with_sequence s q) 1)
