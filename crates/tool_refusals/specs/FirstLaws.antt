-- The answer of each call is the first of its conditions that is due.
-- Assumes nothing.
use Rattle.std.specs.Prelude.{ℕ, Bool, true, false, cond, not, ◌&&◌, List, [], ◌∷◌, ◌++◌, ◌≡◌, refl, length, leb, Option, Some, None, Result, Ok, Err}
use Rattle.std.proofs.Common.{sym, ◌∙◌}
use Rattle.state.specs.declared.Slot.{Slot}
use Rattle.state.specs.declared.State.{State}
use Rattle.state.specs.declared.Events.{Events}
use Rattle.state.specs.declared.Driver.{Driver}
use Rattle.state.specs.declared.EndpointRequest.{EndpointRequest}
use Rattle.state.specs.declared.Refusal.{Refusal}
use Rattle.state.specs.declared.Awaited.{Awaited}
use Rattle.state.specs.Awaiting.{awaitingb, awaiting_number}
use Rattle.ops.specs.Ops.{Op}
use Rattle.state.specs.declared.Refusal.TheVariants.{TooLong}
use Rattle.state.specs.Fresh.{slot_at}
use Rattle.state.specs.Refusals.{Check, Condition, ◌if◌, first_refusal}
use Rattle.state.specs.RefusalsLaws.{first_passed, first_stopped}
use Rattle.state_slots.specs.Slots.{busyb, slot_of}
use Rattle.state_call.specs.Outcome.{Outcome, or_else, unless}
use Rattle.driver_new.specs.New.{new_check, new_conditions, new_driver, new_result}
use Rattle.driver_allocate.specs.Allocate.{allocate_conditions, allocate_check, placed, allocate_at, allocate_result}
use Rattle.driver_start.specs.Start.{start_call}
use Rattle.bus_power_on.specs.PowerOn.{power_on_call}
use Rattle.bus_power_off.specs.PowerOff.{power_off_call}
use Rattle.bus_order.specs.Order.{order_call}
use Rattle.bus_query.specs.Query.{stalled_call, enabled_call}
use Rattle.bus_events.specs.Raise.{raise_call}
use Rattle.bus_events.specs.Poll.{poll_call}
use Rattle.bus_wakeup.specs.Wakeup.{wakeup_call}
use Rattle.transfer_begin.specs.Begin.{begin_call}
use Rattle.transfer_take.specs.Take.{take_conditions, take_call}
use Rattle.transfer_abandon.specs.Abandon.{abandon_call}
use Rattle.endpoint_choice.specs.declared.Asked.{Asked}
use Rattle.endpoint_choice.specs.Choice.{asked_of, own_unfit, send_begins, any_length}
use Rattle.endpoint_answer.specs.declared.Move.{Move}
use Rattle.control_stage.specs.declared.Stage.{Stage}
use Rattle.state.specs.declared.Awaiting.{Awaiting}
use Rattle.endpoint_send.specs.Send.{send_call}
use Rattle.endpoint_sent.specs.Sent.{sent_says, sent_call}
use Rattle.endpoint_receive.specs.Receive.{receive_call}
use Rattle.endpoint_received.specs.Received.{receive_most, received_says, received_call}
use Rattle.control_stage.specs.Stage.{servedb, ep0_unfit}
use Rattle.control_setup.specs.Setup.{setup_call}
use Rattle.control_out.specs.DataOut.{data_out_call}
use Rattle.control_in.specs.DataIn.{data_in_call}
use Rattle.control_accept.specs.Accept.{accept_call, accept_address_call}
use Rattle.control_reject.specs.Reject.{reject_call}
use Rattle.control_take.specs.Take.{doneb, take_in_call}
use Rattle.control_take_out.specs.TakeOut.{take_out_conditions, take_out_call}
use Rattle.interrupt_asks.specs.Settled.{settled_at, settled}
use Rattle.interrupt_begin.specs.Begin.{interrupt_call}
use Rattle.interrupt.specs.Interrupt.{answer_call}
use Rattle.usbss.specs.Call.{World, Call, Start, PowerOn, PowerOff, Ordered, IsStalled, IsEnabled, Raise, Poll, Wakeup, Begin, Take, Abandon, Send, Sent, Receive, Received, Setup, DataOut, DataIn, Accept, AcceptAddress, Reject, TakeOut, TakeIn, Interrupt, Answer}
use Rattle.usbss.specs.Step.{step}
use Rattle.tool_refusals.specs.Tested.{came_conditions, stage_conditions, conditions, check_of}

-- A call that is made unless a condition is due: its answer tells which is, where none more is looked at behind them,
told : {A : Type 0} (c : Check) (s : State) (v : Events) (o : Outcome (Result A Refusal)) → check_of o.answer ≡ Ok tt → check_of (unless Err c s v o).answer ≡ c
unfolding or_else
told (Ok u) s v o h = h
told (Err r) s v o h = refl

-- and where what it makes looks at some more
told_behind : {A : Type 0} (ds es : List Condition) (s : State) (v : Events) (o : Outcome (Result A Refusal)) → check_of o.answer ≡ first_refusal es
    → check_of (unless Err (first_refusal ds) s v o).answer ≡ first_refusal (ds ++ es)
unfolding or_else
told_behind {A} ds es s v o h = go (first_refusal ds) refl
  where
    go : (c : Check) → first_refusal ds ≡ c → check_of (unless Err c s v o).answer ≡ first_refusal (ds ++ es)
    go (Ok u) e = h ∙ sym (first_passed ds es u e)
    go (Err r) e = sym (first_stopped ds es r e)

-- one of two answers
either : {A : Type 0} (b : Bool) (x y : A) → check_of (cond b (Ok x) (Ok y)) ≡ Ok tt
either true x y = refl
either false x y = refl

made_told : {A : Type 0} (b : Bool) (o u : Outcome (Result A Refusal)) → check_of o.answer ≡ Ok tt → check_of u.answer ≡ Ok tt → check_of (cond b o u).answer ≡ Ok tt
made_told true o u h k = h
made_told false o u h k = k

-- a transfer that was taken, by whether it is busy and by whether it is too long
took : (busy long : Bool) (n : ℕ) → check_of (cond busy (Ok None) (cond long (Err TooLong) (Ok (Some n)))) ≡ first_refusal (TooLong if (not busy && long) ∷ [])
took true long n = refl
took false true n = refl
took false false n = refl

-- a stage, by whether it is done
stage_took : (done long : Bool) (n : ℕ) → check_of (cond done (cond long (Err TooLong) (Ok (Some n))) (Ok None)) ≡ first_refusal (TooLong if (done && long) ∷ [])
stage_took true true n = refl
stage_took true false n = refl
stage_took false long n = refl

-- what is next is no refusal
sent_told : (x : Slot) (k : Asked) (a : Result (Option ℕ) Refusal) → check_of (sent_says x k a) ≡ check_of a
sent_told x k (Err r) = refl
sent_told x k (Ok None) = refl
sent_told x k (Ok (Some n)) = refl

received_told : (x : Slot) (k : Asked) (a : Result (Option ℕ) Refusal) → check_of (received_says x k a) ≡ check_of a
received_told x k (Err r) = refl
received_told x k (Ok None) = refl
received_told x k (Ok (Some n)) = refl

take_told : (s : State) (v : Events) (e : ℕ) (incoming unfit : Bool) (most : ℕ)
    → check_of (take_call s v e incoming unfit most).answer ≡ first_refusal (take_conditions s v e incoming unfit ++ came_conditions (slot_of s e incoming) most)
unfolding take_call
take_told s v e incoming unfit most = told_behind (take_conditions s v e incoming unfit) (came_conditions (slot_of s e incoming) most) s v _ (took (busyb (slot_of s e incoming).phase) _ _)

-- an interrupt asks for a reading, or is handled
settled_told : (s : State) (v : Events) (a : Awaited) (ops : List Op) → check_of (settled s v a ops).answer ≡ Ok tt
unfolding settled
settled_told s v a ops = go (awaitingb a.next)
  where
    go : (b : Bool) → check_of (settled_at b s v a ops).answer ≡ Ok tt
    go true = refl
    go false = refl

pub each_first : (w : World) (c : Call) → check_of (step w c).answer ≡ first_refusal (conditions w c)
unfolding step start_call power_on_call power_off_call order_call stalled_call enabled_call raise_call poll_call wakeup_call begin_call abandon_call send_call sent_call receive_call received_call setup_call data_out_call data_in_call accept_call accept_address_call reject_call take_in_call take_out_call interrupt_call answer_call
each_first w (Start driver size) = told _ w.state w.events _ refl
each_first w (PowerOn room revision) = told _ w.state w.events _ refl
each_first w (PowerOff room) = told _ w.state w.events _ refl
each_first w (Ordered room endpoint order) = told _ w.state w.events _ refl
each_first w (IsStalled endpoint) = told _ w.state w.events _ refl
each_first w (IsEnabled endpoint) = told _ w.state w.events _ refl
each_first w (Raise event) = told _ w.state w.events _ refl
each_first w Poll = told _ w.state w.events _ refl
each_first w (Wakeup room) = told _ w.state w.events _ refl
each_first w (Begin room endpoint piece) = told _ w.state w.events _ refl
each_first w (Take endpoint) = take_told w.state w.events endpoint.index endpoint.incoming false any_length
each_first w (Abandon room endpoint) = told _ w.state w.events _ refl
each_first w (Send room e request bytes own) = told _ w.state w.events _ (made_told {A = Move} (send_begins (slot_of w.state e true) (asked_of request (length bytes))) _ _ refl refl)
each_first w (Sent e request bytes own) =
    sent_told (slot_of w.state e true) (asked_of request bytes) (take_call w.state w.events e true (own_unfit (slot_of w.state e true) request.own_address own) any_length).answer
    ∙ take_told w.state w.events e true (own_unfit (slot_of w.state e true) request.own_address own) any_length
each_first w (Receive room e request bytes own) = told _ w.state w.events _ refl
each_first w (Received e request bytes own) =
    let x = slot_of w.state e false in
    let unfit = own_unfit x request.own_address (length own) in
    let most = receive_most x (asked_of request bytes) (length own) in
    received_told x (asked_of request bytes) (take_call w.state w.events e false unfit most).answer ∙ take_told w.state w.events e false unfit most
each_first w Setup = told _ w.state w.events _ refl
each_first w (DataOut room g) = told _ w.state w.events _ refl
each_first w (DataIn room g bytes address ep0 first last) = told _ w.state w.events _ refl
each_first w (Accept room g) = told _ w.state w.events _ refl
each_first w (AcceptAddress room g address) = told _ w.state w.events _ (made_told {A = Stage} (leb address 127) _ _ refl refl)
each_first w (Reject room g) = told _ w.state w.events _ (made_told {A = Stage} (servedb w.state g) _ _ refl refl)
each_first w (TakeOut g out ep0 address) =
    told_behind (take_out_conditions w.state w.events g (ep0_unfit w.state address (length ep0))) (stage_conditions (slot_at w.state 0) out) w.state w.events _
    (stage_took (doneb (slot_at w.state 0).phase) _ _)
each_first w (TakeIn g) = told _ w.state w.events _ (either (doneb (slot_at w.state 1).phase) _ _)
each_first w (Interrupt room) = told _ w.state w.events _ (settled_told w.state w.events _ _)
each_first w (Answer room reading) = told _ w.state w.events _ (made_told {A = Option Awaiting} (leb (awaiting_number w.state.awaited.next) 6) _ _ (settled_told _ _ _ _) (settled_told _ _ _ _))

pub new_first : (address length : ℕ) → check_of (new_result address length) ≡ first_refusal (new_conditions address length)
unfolding new_result new_check or_else
new_first address length = go (first_refusal (new_conditions address length))
  where
    go : (c : Check) → check_of (or_else c Err (Ok (new_driver address length))) ≡ c
    go (Ok u) = refl
    go (Err r) = refl

pub allocate_first : (d : Driver) (incoming : Bool) (r : EndpointRequest) → check_of (allocate_result d incoming r).answer ≡ first_refusal (allocate_conditions d incoming r)
unfolding allocate_result allocate_check placed or_else
allocate_first d incoming r = go (first_refusal (allocate_conditions d incoming r))
  where
    go : (c : Check) → check_of (allocate_at c d incoming r).answer ≡ c
    go (Ok u) = refl
    go (Err q) = refl
