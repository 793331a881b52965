-- Only calls on a data endpoint begin a piece.
-- Assumes nothing.
use Rattle.std.specs.Prelude.{ℕ, Bool, true, false, not, ◌&&◌, cond, List, ◌≡◌, refl, length, Option, Some, None, Ok, Err, Result}
use Rattle.std.proofs.Common.{sym, ◌∙◌}
use Rattle.state.specs.declared.State.{State}
use Rattle.state.specs.declared.Events.{Events}
use Rattle.state.specs.declared.EndpointAddress.{EndpointAddress}
use Rattle.state.specs.declared.Refusal.{Refusal}
use Rattle.state.specs.Refusals.{Check, first_refusal}
use Rattle.state.specs.Awaiting.{awaitingb}
use Rattle.state_slots.specs.Slots.{data_endpoint, slot_of}
use Rattle.state_call.specs.Outcome.{Outcome, or_else, unless}
use Rattle.transfer_piece.specs.declared.Piece.{Piece}
use Rattle.transfer_piece.specs.Piece.{begun_slot}
use Rattle.transfer_begin.specs.Begin.{begin_conditions, begin_call}
use Rattle.transfer_begin.specs.BeginLaws.{begin_reaches}
use Rattle.endpoint_parts.specs.Parts.{part}
use Rattle.endpoint_choice.specs.declared.MoveRequest.{MoveRequest}
use Rattle.endpoint_choice.specs.Choice.{asked_of, longer, own_unfit, send_piece, receive_piece, own_transfer, any_length}
use Rattle.endpoint_send.specs.Send.{send_conditions, send_made, send_call}
use Rattle.endpoint_sent.specs.Sent.{sent_says}
use Rattle.endpoint_receive.specs.Receive.{receive_conditions, receive_call}
use Rattle.endpoint_received.specs.Received.{receive_most, received_says, brought_by}
use Rattle.interrupt_readings.specs.Matched.{matched_as}
use Rattle.history_ops.specs.Recorded.{same_slot}
use Rattle.history_ops.specs.Readings as ops
use Rattle.history_ops.specs.Readings.{report_of, resets_bus}
use Rattle.usbss.specs.Call.{World, Call, Start, PowerOn, PowerOff, Ordered, IsStalled, IsEnabled, Raise, Poll, Wakeup, Begin, Take, Abandon, Send, Sent, Receive, Received, Setup, DataOut, DataIn, Accept, AcceptAddress, Reject, TakeOut, TakeIn, Interrupt, Answer}
use Rattle.usbss.specs.Step.{step}
use Rattle.history_rows.specs.Memory.{Memory, memory_of, accepted}
use Rattle.history_effect.specs.Seen.{Told, Seen, Begins, Reports, Asks, Early, Cuts, begun_by, only, own, takes, took_busy, moved_busy, seen_report, seen_send, seen}
use Rattle.history_effect.proofs.SlotCases.{this_slot}

-- what is begun only where b holds
begun_only : (b : Bool) (k : Seen) (p : Piece) → begun_by (only b k) ≡ Some p → (b ≡ true) × (begun_by k ≡ Some p)
begun_only true k p h = (refl, h)
begun_only false k p h = absurd (cc)

-- what begins nothing begins no piece
never : {o : Option Piece} {p : Piece} → o ≡ Some p → o ≡ None → ⊥
never {o} {p} h n = let q : None ≡ Some p = sym n ∙ h in absurd (cc)

only_none : (b : Bool) (k : Seen) → begun_by k ≡ None → begun_by (only b k) ≡ None
only_none true k h = h
only_none false k h = refl

cuts_none : (b : Bool) → begun_by (only b Cuts) ≡ None
cuts_none b = only_none b Cuts refl

own_cuts_none : (e : ℕ) (incoming : Bool) (i : ℕ) (way : Bool) (b : Bool) → begun_by (own e incoming i way (only b Cuts)) ≡ None
own_cuts_none e incoming i way b = only_none (same_slot i way e incoming) (only b Cuts) (cuts_none b)

takes_none : (m : Memory) (unfit : Bool) (most : Piece → ℕ) (busy : Bool) (Says : Piece → Told → Type 0) → begun_by (takes m unfit most busy Says) ≡ None
takes_none m unfit most busy Says = go (awaitingb m.awaited.next)
  where
    go : (b : Bool) → begun_by (cond b (Early Says) (Asks unfit most busy Says)) ≡ None
    go true = refl
    go false = refl

own_takes_none : (e : ℕ) (incoming : Bool) (i : ℕ) (way : Bool) (m : Memory) (unfit : Bool) (most : Piece → ℕ) (busy : Bool) (Says : Piece → Told → Type 0)
    → begun_by (own e incoming i way (takes m unfit most busy Says)) ≡ None
own_takes_none e incoming i way m unfit most busy Says = only_none (same_slot i way e incoming) (takes m unfit most busy Says) (takes_none m unfit most busy Says)

-- a reading reports, cuts or is nothing
report_none : (e : ℕ) (incoming : Bool) (r : Option ops.Report) → begun_by (seen_report e incoming r) ≡ None
report_none e incoming None = refl
report_none e incoming (Some r) =
    only_none (same_slot r.endpoint r.incoming e incoming) (Reports (record { packets = r.packets; last = r.last })) refl

reading_none : (b resets : Bool) (e : ℕ) (incoming : Bool) (r : Option ops.Report) → begun_by (only b (cond resets Cuts (seen_report e incoming r))) ≡ None
reading_none b true e incoming r = only_none b Cuts refl
reading_none b false e incoming r = only_none b (seen_report e incoming r) (report_none e incoming r)

-- what a call begins, it begins on a data endpoint
abbrev pub BeginsData : Memory → World → Call → Type 0
BeginsData m w c = (e : ℕ) (incoming : Bool) (p : Piece) → begun_by (seen e incoming m w c (step w c)) ≡ Some p → data_endpoint e ≡ true

-- a call that is accepted on data endpoints alone
module _ {A : Type 0} (c : Check) (s : State) (v : Events) (o : Outcome (Result A Refusal)) (i : ℕ) (way : Bool) (k : Seen) (reaches : c ≡ Ok tt → data_endpoint i ≡ true) where
  accepted_data : accepted (unless Err c s v o).answer ≡ true → data_endpoint i ≡ true
  unfolding or_else
  accepted_data h = go c reaches h
    where
      go : (d : Check) → (d ≡ Ok tt → data_endpoint i ≡ true) → accepted (unless Err d s v o).answer ≡ true → data_endpoint i ≡ true
      go (Ok u) f q = f refl
      go (Err r) f q = absurd (cc)

  begun_data : (e : ℕ) (incoming : Bool) (p : Piece) → begun_by (own e incoming i way (only (accepted (unless Err c s v o).answer) k)) ≡ Some p → data_endpoint e ≡ true
  begun_data e incoming p h =
      let a = begun_only (same_slot i way e incoming) (only (accepted (unless Err c s v o).answer) k) p h in
      let b = begun_only (accepted (unless Err c s v o).answer) k p a.1 in
      rw (← (this_slot i way e incoming a.0).0) (accepted_data b.0)

-- the calls that begin a piece, and the takes, whatever is remembered
module _ (m : Memory) (w : World) where
  begin_data : (room : ℕ) (at : EndpointAddress) (q : Piece) → BeginsData m w (Begin room at q)
  unfolding seen step begin_call
  begin_data room at q =
      begun_data (first_refusal (begin_conditions room w.state w.events at.index at.incoming q false false)) w.state w.events _ at.index at.incoming (Begins q)
      (begin_reaches room w.state w.events at.index at.incoming q false false)

  send_data : (room i : ℕ) (request : MoveRequest) (bytes : List ℕ) (size : ℕ) → BeginsData m w (Send room i request bytes size)
  unfolding seen step send_call
  send_data room i request bytes size =
      let k = asked_of request (length bytes) in
      let x = slot_of w.state i true in
      begun_data (first_refusal (send_conditions room w.state w.events i k request.own_address size)) w.state w.events (send_made w.state w.events i k bytes) i true
      (seen_send x k)
      (begin_reaches room w.state w.events i true (send_piece x k) (longer x k) (own_unfit x request.own_address size))

  receive_data : (room i : ℕ) (request : MoveRequest) (bytes size : ℕ) → BeginsData m w (Receive room i request bytes size)
  unfolding seen step receive_call
  receive_data room i request bytes size =
      let k = asked_of request bytes in
      let x = slot_of w.state i false in
      let q = receive_piece x k in
      begun_data (first_refusal (receive_conditions room w.state w.events i k request.own_address size)) w.state w.events _ i false (Begins q)
      (begin_reaches room w.state w.events i false q false (own_unfit x request.own_address size))

  sent_none : (i : ℕ) (request : MoveRequest) (bytes own : ℕ) (e : ℕ) (incoming : Bool)
      → begun_by (seen e incoming m w (Sent i request bytes own) (step w (Sent i request bytes own))) ≡ None
  unfolding seen
  sent_none i request bytes own e incoming =
      let k = asked_of request bytes in
      let x = slot_of w.state i true in
      let a = (step w (Sent i request bytes own)).answer in
      own_takes_none e incoming i true m (own_unfit x request.own_address own) (λ p. any_length) (moved_busy a) (λ p t. a ≡ sent_says (begun_slot x p) k t)

  received_none : (i : ℕ) (request : MoveRequest) (bytes : ℕ) (held : List ℕ) (e : ℕ) (incoming : Bool)
      → begun_by (seen e incoming m w (Received i request bytes held) (step w (Received i request bytes held))) ≡ None
  unfolding seen
  received_none i request bytes held e incoming =
      let k = asked_of request bytes in
      let x = slot_of w.state i false in
      let o = step w (Received i request bytes held) in
      own_takes_none e incoming i false m (own_unfit x request.own_address (length held)) (λ p. receive_most (begun_slot x p) k (length held)) (moved_busy o.answer)
      (λ p t. (o.answer ≡ received_says (begun_slot x p) k t) × (o.copied ≡ part held 0 (brought_by (own_transfer (begun_slot x p)) t)))

pub begins_data_by : (m : Memory) (w : World) (c : Call) → BeginsData m w c
unfolding seen
begins_data_by m w (Start driver size) e incoming p h = absurd (never h (cuts_none (accepted (step w (Start driver size)).answer)))
begins_data_by m w (PowerOn room revision) e incoming p h = absurd (never h (cuts_none (accepted (step w (PowerOn room revision)).answer && not m.powered)))
begins_data_by m w (PowerOff room) e incoming p h = absurd (never h (cuts_none (accepted (step w (PowerOff room)).answer)))
begins_data_by m w (Ordered room at order) e incoming p h =
    absurd (never h (own_cuts_none e incoming at.index at.incoming (accepted (step w (Ordered room at order)).answer)))
begins_data_by m w (IsStalled at) e incoming p h = absurd (never h refl)
begins_data_by m w (IsEnabled at) e incoming p h = absurd (never h refl)
begins_data_by m w (Raise event) e incoming p h = absurd (never h refl)
begins_data_by m w Poll e incoming p h = absurd (never h refl)
begins_data_by m w (Wakeup room) e incoming p h = absurd (never h refl)
begins_data_by m w (Begin room at q) e incoming p h = begin_data m w room at q e incoming p h
begins_data_by m w (Take at) e incoming p h =
    absurd (never h (own_takes_none e incoming at.index at.incoming m false (λ p. any_length) (took_busy (step w (Take at)).answer) (λ p t. (step w (Take at)).answer ≡ t)))
begins_data_by m w (Abandon room at) e incoming p h =
    absurd (never h (own_cuts_none e incoming at.index at.incoming (accepted (step w (Abandon room at)).answer)))
begins_data_by m w (Send room i request bytes size) e incoming p h = send_data m w room i request bytes size e incoming p h
begins_data_by m w (Sent i request bytes size) e incoming p h = absurd (never h (sent_none m w i request bytes size e incoming))
begins_data_by m w (Receive room i request bytes size) e incoming p h = receive_data m w room i request bytes size e incoming p h
begins_data_by m w (Received i request bytes held) e incoming p h = absurd (never h (received_none m w i request bytes held e incoming))
begins_data_by m w Setup e incoming p h = absurd (never h refl)
begins_data_by m w (DataOut room g) e incoming p h = absurd (never h refl)
begins_data_by m w (DataIn room g bytes address ep0 first last) e incoming p h = absurd (never h refl)
begins_data_by m w (Accept room g) e incoming p h = absurd (never h refl)
begins_data_by m w (AcceptAddress room g address) e incoming p h = absurd (never h refl)
begins_data_by m w (Reject room g) e incoming p h = absurd (never h refl)
begins_data_by m w (TakeOut g out ep0 address) e incoming p h = absurd (never h refl)
begins_data_by m w (TakeIn g) e incoming p h = absurd (never h refl)
begins_data_by m w (Interrupt room) e incoming p h = absurd (never h refl)
begins_data_by m w (Answer room r) e incoming p h =
    let t = matched_as m.awaited.next r in
    absurd (never h (reading_none (accepted (step w (Answer room r)).answer) (resets_bus m.revision m.awaited t) e incoming (report_of m.awaited t)))

-- with what the state remembers
pub begins_data : (w : World) (c : Call) (e : ℕ) (incoming : Bool) (p : Piece)
    → begun_by (seen e incoming (memory_of w.state) w c (step w c)) ≡ Some p → data_endpoint e ≡ true
begins_data w c = begins_data_by (memory_of w.state) w c
