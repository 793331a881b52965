-- The world and the lent list behind a line of `report` (docs/REPLAY.md, "Transfers").
-- Assumes nothing.
use Rattle.std.specs.Prelude.{ℕ, Bool, true, false, cond, not, ◌&&◌, List, ltb, is_some}
use Rattle.std.proofs.lemmas.List.Edits.{sets}
use Rattle.ops.specs.Ops.{flat}
use Rattle.state.specs.declared.LinkState.TheVariants.{U0}
use Rattle.state.specs.declared.TransferStatus.{TransferStatus}
use Rattle.state.specs.declared.Reading.{Reading}
use Rattle.state.specs.declared.Reading.TheVariants as reading
use Rattle.state.specs.Fresh.{nothing_awaited}
use Rattle.state_slots.specs.Slots.{data_endpoint}
use Rattle.interrupt_begin.specs.Begin.{interrupt_call}
use Rattle.interrupt.specs.Interrupt.{answer_call}
use Rattle.tool_scripts.specs.Script.{number_at}
use Rattle.tool_arguments.specs.Arguments.{byte_at, flag_at}
use Rattle.tool_calls_interrupt.specs.Heard.{left_by}
use Rattle.world.specs.declared.World.{World}

-- a data endpoint, and numbers that registers can hold
abbrev pub report_fits : List ℕ → Bool
report_fits line = data_endpoint (byte_at line 1) && (ltb (number_at line 2) 256 && ltb (number_at line 3) 65536)

-- no reading is awaited, and the power is on
abbrev pub report_due : World → List ℕ → Bool
report_due w line = not (is_some w.state.awaited.next) && (w.state.powered && report_fits line)

-- the interrupt begins
unfoldable pub world_begun : World → World
world_begun w = left_by w (interrupt_call 640 w.state w.events)

unfoldable pub list_begun : World → List ℕ → List ℕ
list_begun w l = sets l 0 (flat (interrupt_call 640 w.state w.events).ops)

-- one of its readings
unfoldable pub world_heard : Reading → World → World
world_heard r w = left_by w (answer_call 640 w.state w.events r)

unfoldable pub list_heard : Reading → World → List ℕ → List ℕ
list_heard r w l = sets l 0 (flat (answer_call 640 w.state w.events r).ops)

-- the link has nothing to say
abbrev pub no_flag : Reading
no_flag = reading.LinkFlags nothing_awaited.flags

abbrev pub link_up : Reading
link_up = reading.LinkStatus (record { link_state = U0; link_rx_term_pres = true; link_rx_warm_rst = false })

abbrev pub world_quiet : World → World
world_quiet w = world_heard link_up (world_heard no_flag w)

abbrev pub list_quiet : World → List ℕ → List ℕ
list_quiet w l = list_heard link_up (world_heard no_flag w) (list_heard no_flag w l)

-- a transfer's interrupt, of the endpoint that is named
abbrev pub transfer_status : ℕ → Bool → TransferStatus
transfer_status index incoming =
    record {
      udif_setup = false;
      udif_status = false;
      uif_transfer = true;
      ep_id = index;
      ep_dir = incoming;
      uif_itp = false;
      uif_rx_ping = false;
      uif_fifo_txov = false;
      uif_fifo_rxov = false;
    }

abbrev pub status_of : List ℕ → Reading
status_of line = reading.TransferStatus (transfer_status (byte_at line 1) (flag_at line 0))

abbrev pub world_status : World → List ℕ → World
world_status w line = world_heard (status_of line) (world_quiet (world_begun w))

abbrev pub list_status : World → List ℕ → List ℕ → List ℕ
list_status w line l = list_heard (status_of line) (world_quiet (world_begun w)) (list_quiet (world_begun w) (list_begun w l))

-- of OUT, how many packets came and how long the last one is
abbrev pub packets_of : List ℕ → Reading
packets_of line = reading.ChainPackets (number_at line 2)

abbrev pub last_of : List ℕ → Reading
last_of line = reading.LastLength (number_at line 3)

abbrev pub world_reported : World → List ℕ → World
world_reported w line = cond (flag_at line 0) (world_status w line) (world_heard (last_of line) (world_heard (packets_of line) (world_status w line)))

abbrev pub list_reported : World → List ℕ → List ℕ → List ℕ
list_reported w line l =
    cond (flag_at line 0) (list_status w line l)
    (list_heard (last_of line) (world_heard (packets_of line) (world_status w line)) (list_heard (packets_of line) (world_status w line) (list_status w line l)))
