-- What a call is to one direction of a data endpoint, by the call, its answer and what the calls before have told; of the state
-- the slot's configuration alone is looked at.
-- Assumes nothing.
use Rattle.std.specs.Prelude.{ℕ, Bool, true, false, not, cond, ◌&&◌, ◌≡◌, length, Option, Some, None, Result, Ok, Err}
use Rattle.state.specs.declared.Slot.{Slot}
use Rattle.state.specs.declared.Refusal.{Refusal}
use Rattle.state.specs.Awaiting.{awaitingb}
use Rattle.state_slots.specs.Slots.{slot_of}
use Rattle.state_call.specs.Outcome.{Outcome}
use Rattle.transfer_piece.specs.declared.Piece.{Piece}
use Rattle.transfer_piece.specs.Piece.{begun_slot}
use Rattle.endpoint_parts.specs.Parts.{part}
use Rattle.endpoint_choice.specs.declared.Asked.{Asked}
use Rattle.endpoint_choice.specs.Choice.{asked_of, own_unfit, send_begins, send_piece, receive_piece, own_transfer, any_length}
use Rattle.endpoint_answer.specs.declared.Move.{Move}
use Rattle.endpoint_answer.specs.declared.Move.TheVariants as move
use Rattle.endpoint_sent.specs.Sent.{sent_says}
use Rattle.endpoint_received.specs.Received.{receive_most, received_says, brought_by}
use Rattle.interrupt_readings.specs.Matched.{matched_as}
use Rattle.history_ideal.specs.Ideal.{Report}
use Rattle.history_ops.specs.Recorded.{same_slot}
use Rattle.history_ops.specs.Readings as ops
use Rattle.history_ops.specs.Readings.{report_of, resets_bus}
use Rattle.usbss.specs.Call.{World, Call, Start, PowerOn, PowerOff, Ordered, IsStalled, IsEnabled, Raise, Poll, Wakeup, Begin, Take, Abandon, Send, Sent, Receive, Received, Setup, DataOut, DataIn, Accept, AcceptAddress, Reject, TakeOut, TakeIn, Interrupt, Answer, Answers}
use Rattle.history_rows.specs.Memory.{Memory, accepted}

-- what a take comes to: refused, busy, or so many bytes
abbrev pub Told : Type 0
Told = Result (Option ℕ) Refusal

pub data Seen : Type 1 where
  -- an accepted begin of a piece
  Begins : Piece → Seen
  -- the end of a chain, as an accepted reading reports it
  Reports : Report → Seen
  -- A take in its turn. What it is lent may be unfit, and it has room for so many bytes; it said busy, or not. Of a transfer of
  -- the piece p it says, and stores, what `Says p` has for what the take comes to.
  Asks : (unfit : Bool) (most : Piece → ℕ) (busy : Bool) (Says : Piece → Told → Type 0) → Seen
  -- a take while a reading is awaited
  Early : (Says : Piece → Told → Type 0) → Seen
  -- an order, an abandon, a start, a change of power, a bus reset
  Cuts : Seen
  -- anything else, refused calls among them
  Nothing : Seen

-- the piece of an accepted begin
abbrev pub begun_by : Seen → Option Piece
begun_by (Begins p) = Some p
begun_by (Reports r) = None
begun_by (Asks unfit most busy Says) = None
begun_by (Early Says) = None
begun_by Cuts = None
begun_by Nothing = None

abbrev pub only : Bool → Seen → Seen
only b x = cond b x Nothing

-- of a call on the direction `way` of endpoint i
abbrev pub own : ℕ → Bool → ℕ → Bool → Seen → Seen
own e incoming i way x = only (same_slot i way e incoming) x

abbrev pub takes : Memory → (unfit : Bool) (most : Piece → ℕ) (busy : Bool) (Says : Piece → Told → Type 0) → Seen
takes m unfit most busy Says = cond (awaitingb m.awaited.next) (Early Says) (Asks unfit most busy Says)

abbrev pub took_busy : Told → Bool
took_busy (Err r) = false
took_busy (Ok None) = true
took_busy (Ok (Some n)) = false

abbrev pub moved_busy : Result Move Refusal → Bool
moved_busy (Err r) = false
moved_busy (Ok (move.Begun n)) = false
moved_busy (Ok move.Busy) = true
moved_busy (Ok (move.More n)) = false
moved_busy (Ok (move.Ended n)) = false

-- a report of a chain, if it is this direction's
abbrev pub seen_report : ℕ → Bool → Option ops.Report → Seen
seen_report e incoming None = Nothing
seen_report e incoming (Some r) = own e incoming r.endpoint r.incoming (Reports (record { packets = r.packets; last = r.last }))

-- a send begins a piece unless nothing is left to send
abbrev pub seen_send : Slot → Asked → Seen
seen_send x k = only (send_begins x k) (Begins (send_piece x k))

unfoldable pub seen : ℕ → Bool → Memory → World → (c : Call) → Outcome (Answers c) → Seen
seen e incoming m w (Start driver size) o = only (accepted o.answer) Cuts
seen e incoming m w (PowerOn room revision) o = only (accepted o.answer && not m.powered) Cuts
seen e incoming m w (PowerOff room) o = only (accepted o.answer) Cuts
seen e incoming m w (Ordered room at order) o = own e incoming at.index at.incoming (only (accepted o.answer) Cuts)
seen e incoming m w (IsStalled at) o = Nothing
seen e incoming m w (IsEnabled at) o = Nothing
seen e incoming m w (Raise event) o = Nothing
seen e incoming m w Poll o = Nothing
seen e incoming m w (Wakeup room) o = Nothing
seen e incoming m w (Begin room at p) o = own e incoming at.index at.incoming (only (accepted o.answer) (Begins p))
seen e incoming m w (Take at) o = own e incoming at.index at.incoming (takes m false (λ p. any_length) (took_busy o.answer) (λ p t. o.answer ≡ t))
seen e incoming m w (Abandon room at) o = own e incoming at.index at.incoming (only (accepted o.answer) Cuts)
seen e incoming m w (Send room i request bytes size) o =
    own e incoming i true (only (accepted o.answer) (seen_send (slot_of w.state i true) (asked_of request (length bytes))))
seen e incoming m w (Sent i request bytes size) o =
    let x = slot_of w.state i true in
    let k = asked_of request bytes in
    own e incoming i true
    (takes m (own_unfit x request.own_address size) (λ p. any_length) (moved_busy o.answer) (λ p t. o.answer ≡ sent_says (begun_slot x p) k t))
seen e incoming m w (Receive room i request bytes size) o =
    own e incoming i false (only (accepted o.answer) (Begins (receive_piece (slot_of w.state i false) (asked_of request bytes))))
seen e incoming m w (Received i request bytes held) o =
    let x = slot_of w.state i false in
    let k = asked_of request bytes in
    own e incoming i false
    (takes m (own_unfit x request.own_address (length held)) (λ p. receive_most (begun_slot x p) k (length held)) (moved_busy o.answer)
    (λ p t. (o.answer ≡ received_says (begun_slot x p) k t) × (o.copied ≡ part held 0 (brought_by (own_transfer (begun_slot x p)) t))))
seen e incoming m w Setup o = Nothing
seen e incoming m w (DataOut room g) o = Nothing
seen e incoming m w (DataIn room g bytes address ep0 first last) o = Nothing
seen e incoming m w (Accept room g) o = Nothing
seen e incoming m w (AcceptAddress room g address) o = Nothing
seen e incoming m w (Reject room g) o = Nothing
seen e incoming m w (TakeOut g out ep0 address) o = Nothing
seen e incoming m w (TakeIn g) o = Nothing
seen e incoming m w (Interrupt room) o = Nothing
seen e incoming m w (Answer room r) o =
    let told = matched_as m.awaited.next r in
    only (accepted o.answer) (cond (resets_bus m.revision m.awaited told) Cuts (seen_report e incoming (report_of m.awaited told)))
