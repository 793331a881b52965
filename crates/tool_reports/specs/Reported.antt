-- What a report's interrupt comes to, call by call, and the list of 640 numbers that is lent to each.
-- Assumes nothing.
use Rattle.std.specs.Prelude.{ℕ, Bool, true, false, cond, List, length, Option, Result}
use Rattle.std.proofs.lemmas.List.Edits.{sets}
use Rattle.ops.specs.Ops.{flat}
use Rattle.state.specs.declared.State.{State}
use Rattle.state.specs.declared.Events.{Events}
use Rattle.state.specs.declared.LinkState.TheVariants.{U0}
use Rattle.state.specs.declared.TransferStatus.{TransferStatus}
use Rattle.state.specs.declared.Awaiting.{Awaiting}
use Rattle.state.specs.declared.Reading.{Reading}
use Rattle.state.specs.declared.Reading.TheVariants as reading
use Rattle.state.specs.declared.Refusal.{Refusal}
use Rattle.state.specs.Fresh.{nothing_awaited}
use Rattle.state_call.specs.Outcome.{Outcome}
use Rattle.interrupt_asks.specs.declared.InterruptResult.{InterruptResult}
use Rattle.usbss.specs.Call.{Interrupt, Answer}
use Rattle.usbss.specs.Step.{world, step}

-- a call's result
abbrev pub result_of : Outcome (Result (Option Awaiting) Refusal) → InterruptResult
result_of o = record { state = o.state; events = o.events; answer = o.answer; end = length (flat o.ops); wakes = o.wakes }

-- the interrupt begins
unfoldable pub begun : State → Events → InterruptResult
begun s v = result_of (step (world s v) (Interrupt 640))

unfoldable pub list_begun : State → Events → List ℕ → List ℕ
list_begun s v l = sets l 0 (flat (step (world s v) (Interrupt 640)).ops)

-- a reading behind a call
unfoldable pub heard : Reading → InterruptResult → InterruptResult
heard r before = result_of (step (world before.state before.events) (Answer 640 r))

unfoldable pub list_heard : Reading → InterruptResult → List ℕ → List ℕ
list_heard r before l = sets l 0 (flat (step (world before.state before.events) (Answer 640 r)).ops)

-- the link has nothing to say
abbrev pub no_flag : Reading
no_flag = reading.LinkFlags nothing_awaited.flags

abbrev pub link_up : Reading
link_up = reading.LinkStatus (record { link_state = U0; link_rx_term_pres = true; link_rx_warm_rst = false })

abbrev pub quiet : InterruptResult → InterruptResult
quiet before = heard link_up (heard no_flag before)

abbrev pub list_quiet : InterruptResult → List ℕ → List ℕ
list_quiet before l = list_heard link_up (heard no_flag before) (list_heard no_flag before l)

-- a transfer's interrupt, of the endpoint that is named
abbrev pub transfer_status : ℕ → Bool → TransferStatus
transfer_status index incoming =
    record {
      udif_setup = false;
      udif_status = false;
      uif_transfer = true;
      ep_id = index;
      ep_dir = incoming;
      uif_itp = false;
      uif_rx_ping = false;
      uif_fifo_txov = false;
      uif_fifo_rxov = false;
    }

abbrev pub told : ℕ → Bool → InterruptResult → InterruptResult
told e incoming before = heard (reading.TransferStatus (transfer_status e incoming)) before

abbrev pub list_told : ℕ → Bool → InterruptResult → List ℕ → List ℕ
list_told e incoming before l = list_heard (reading.TransferStatus (transfer_status e incoming)) before l

-- of OUT, how many packets came and how long the last one is
unfoldable pub chained : ℕ → Bool → ℕ → ℕ → InterruptResult → InterruptResult
chained e incoming packets last before =
    cond incoming (told e incoming before) (heard (reading.LastLength last) (heard (reading.ChainPackets packets) (told e incoming before)))

unfoldable pub list_chained : ℕ → Bool → ℕ → ℕ → InterruptResult → List ℕ → List ℕ
list_chained e incoming packets last before l =
    cond incoming (list_told e incoming before l)
    (list_heard (reading.LastLength last) (heard (reading.ChainPackets packets) (told e incoming before))
    (list_heard (reading.ChainPackets packets) (told e incoming before) (list_told e incoming before l)))

-- the whole of it
abbrev pub reported : State → Events → ℕ → Bool → ℕ → ℕ → InterruptResult
reported s v e incoming packets last = chained e incoming packets last (quiet (begun s v))

abbrev pub list_reported : State → Events → ℕ → Bool → ℕ → ℕ → List ℕ → List ℕ
list_reported s v e incoming packets last l = list_chained e incoming packets last (quiet (begun s v)) (list_quiet (begun s v) (list_begun s v l))
