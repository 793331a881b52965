-- The transfer status by the pieces of the state that it looks at and changes: what the code works on. That this is the
-- reading on the state itself, as `Transfers` has it, is shown in `PiecesLaws`.
-- Assumes nothing.
use Rattle.std.specs.Prelude.{ℕ, ◌+◌, ◌*◌, ◌%◌, Bool, true, cond, List, [], ◌++◌, eqb, leb, set, Some, None}
use Rattle.ops.specs.Ops.{Op}
use Rattle.state.specs.declared.Awaiting.TheVariants as awaiting
use Rattle.state.specs.declared.Awaited.{Awaited}
use Rattle.state.specs.declared.TransferStatus.{TransferStatus}
use Rattle.state.specs.declared.State.{State}
use Rattle.state.specs.Fresh.{slot_at, nothing_awaited}
use Rattle.state.specs.Setters.{state_of, power_of, link_of, limit_of}
use Rattle.state_slots.specs.Completing.{completed_slot, completed_wake}
use Rattle.regs_endpoint.specs.Endpoint.{chain_ack_ops}
use Rattle.regs_control.specs.Control.{status_others_ops}
use Rattle.transfer_step.specs.declared.Step.{Step}
use Rattle.transfer_step.specs.Step.{report_step, slot_after, wake_after, list_after}
use Rattle.control_report.specs.Ep0.{setup_ops, received_by, status_ops}
use Rattle.interrupt_asks.specs.declared.Sight.{Sight}
use Rattle.interrupt_asks.specs.Turns.{Heard}
use Rattle.interrupt_asks.specs.Asking.{asked}
use Rattle.interrupt_transfer.specs.declared.TransferEffect.{TransferEffect}
use Rattle.interrupt_transfer.specs.Transfers.{chain_asked, ep0_reading}

-- ---- pieces of a state

-- what is looked at, with slot i and a window that was counted
abbrev pub sight_of : State → ℕ → ℕ → Sight
sight_of s i window =
    record {
      ep0 = s.ep0_address;
      revision = s.revision;
      limit = limit_of s;
      window = window;
      in_last = s.in_last;
      awaited = s.awaited;
      place = i;
    }

-- what may change, with slot i; no SETUP has come
abbrev pub pieces_of : State → ℕ → TransferEffect
pieces_of s i = record { slot = slot_at s i; wake = s.wake; setup = None; address = s.address; tx_seq = s.tx_seq }

-- stored back
abbrev pub placed : State → ℕ → TransferEffect → State
placed s i f =
    state_of (set s.endpoints i f.slot) (power_of s) (link_of s)
    (record {
      setup = s.setup;
      generation = s.control_generation;
      last = s.in_last;
      sequence = f.tx_seq;
      address = f.address;
    })
    f.wake s.awaited

-- behind a SETUP's bytes the control transfer is reset too
abbrev pub after_pieces : State → ℕ → TransferEffect → State
after_pieces s i f = received_by (placed s i f) f.setup

-- ---- the reading

-- the slot that a transfer status is about: of a status stage, and of what is about none, slot 1
abbrev pub status_slot : TransferStatus → ℕ
status_slot t = cond t.udif_status 1 (2 * (t.ep_id % 8) + 1)

-- what it leaves of the pieces, what is awaited behind it, and what is written
abbrev pub turned_to : TransferEffect → Awaited → List Op → Heard TransferEffect
turned_to f a ops = record { effect = f; awaited = a; ops = ops }

-- slot i is done, if it is busy
abbrev pub completed_pieces : ℕ → TransferEffect → TransferEffect
completed_pieces i f = record f { slot = completed_slot f.slot; wake = completed_wake i f.slot f.wake }

-- and no address waits
abbrev pub without_address : TransferEffect → TransferEffect
without_address f = record f { address = None }

-- the end of a chain of slot i
abbrev pub stepped : ℕ → ℕ → TransferEffect → Bool → Step → TransferEffect
stepped limit i f incoming step = record f { slot = slot_after limit incoming f.slot step; wake = wake_after f.wake i step }

abbrev pub report_pieces : Sight → TransferEffect → ℕ → Bool → ℕ → ℕ → Heard TransferEffect
report_pieces g f e incoming packets last =
    turned_to (stepped g.limit g.place f incoming (report_step g.limit incoming packets last f.slot)) nothing_awaited
    (chain_ack_ops e incoming ++ list_after g.limit g.window e incoming (report_step g.limit incoming packets last f.slot))

abbrev pub endpoint_pieces : Sight → TransferEffect → ℕ → Bool → Heard TransferEffect
endpoint_pieces g f e incoming =
    cond (eqb e 0) (turned_to f (asked g.awaited (Some (ep0_reading incoming))) [])
    (cond (leb e 7) (cond incoming (report_pieces g f e true 0 0) (turned_to f (chain_asked g.awaited e) [])) (turned_to f nothing_awaited []))

unfoldable pub status_pieces : Sight → TransferEffect → TransferStatus → Heard TransferEffect
status_pieces g f t =
    cond t.udif_status (turned_to (without_address (completed_pieces 1 f)) nothing_awaited (status_ops f.address))
    (cond t.udif_setup (turned_to f (asked g.awaited (Some awaiting.SetupBytes)) setup_ops)
    (cond t.uif_transfer (endpoint_pieces g f t.ep_id t.ep_dir)
    (turned_to f nothing_awaited (status_others_ops t.uif_itp t.uif_rx_ping t.uif_fifo_txov t.uif_fifo_rxov))))
