-- What the transfer status leads to (reference: `transfer_irq` of device.rs): a reading that follows it, or the end.
-- Assumes nothing.
use Rattle.std.specs.Prelude.{ℕ, Bool, true, cond, List, [], eqb, leb, Some}
use Rattle.ops.specs.Ops.{Op}
use Rattle.state.specs.declared.Awaiting.{Awaiting}
use Rattle.state.specs.declared.Awaiting.TheVariants as awaiting
use Rattle.state.specs.declared.Awaited.{Awaited}
use Rattle.state.specs.declared.TransferStatus.{TransferStatus}
use Rattle.state.specs.declared.State.{State}
use Rattle.state.specs.Fresh.{nothing_awaited}
use Rattle.regs_control.specs.Control.{status_others_ops}
use Rattle.transfer_report.specs.Report.{report_state, report_ops}
use Rattle.control_report.specs.Ep0.{setup_ops, status_ops, status_done}
use Rattle.interrupt_asks.specs.Asking.{asked}

-- what a reading of the transfers leaves, what is awaited behind it, and what it writes
pub record Turned : Type 0 where
  pub state : State
  pub awaited : Awaited
  pub ops : List Op

-- nothing is awaited behind it
abbrev pub over : State → List Op → Turned
over s ops = record { state = s; awaited = nothing_awaited; ops = ops }

abbrev pub asking : State → Awaited → List Op → Turned
asking s a ops = record { state = s; awaited = a; ops = ops }

-- of OUT the packets of the chain are read, and then the last one's length
abbrev pub chain_asked : Awaited → ℕ → Awaited
chain_asked a e = record a { next = Some awaiting.ChainPackets; endpoint = e }

abbrev pub last_asked : Awaited → ℕ → Awaited
last_asked a p = record a { next = Some awaiting.LastLength; packets = p }

abbrev pub ep0_reading : Bool → Awaiting
ep0_reading incoming = cond incoming awaiting.Ep0Sequence awaiting.Ep0Length

-- a transfer of endpoint 0, of a data endpoint, or of one that isn't there
abbrev pub endpoint_turn : State → ℕ → Bool → Turned
endpoint_turn s e incoming =
    cond (eqb e 0) (asking s (asked s.awaited (Some (ep0_reading incoming))) [])
    (cond (leb e 7) (cond incoming (over (report_state s e true 0 0) (report_ops s e true 0 0)) (asking s (chain_asked s.awaited e) []))
    (over s []))

-- a status stage goes before a SETUP that is flagged beside it; where neither they nor a transfer are flagged, the four
-- other flags are written back as they were read
unfoldable pub status_turn : State → TransferStatus → Turned
status_turn s t =
    cond t.udif_status (over (status_done s) (status_ops s.address))
    (cond t.udif_setup (asking s (asked s.awaited (Some awaiting.SetupBytes)) setup_ops)
    (cond t.uif_transfer (endpoint_turn s t.ep_id t.ep_dir)
    (over s (status_others_ops t.uif_itp t.uif_rx_ping t.uif_fifo_txov t.uif_fifo_rxov))))
