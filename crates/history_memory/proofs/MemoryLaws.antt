-- What the state has of power, revision and an interrupt in hand is what the calls and their answers tell: behind each call,
-- refused or not, and behind every list of calls. No state need be sound.
-- Assumes nothing.
use Rattle.std.specs.Prelude.{ℕ, Bool, true, false, cond, ◌≡◌, refl, List, [], ◌∷◌, Option, Ok, Err, Result}
use Rattle.std.proofs.Common.{sym, subst}
use Rattle.state.specs.declared.Awaiting.{Awaiting}
use Rattle.state.specs.declared.Awaited.{Awaited}
use Rattle.state.specs.declared.Reading.{Reading}
use Rattle.state.specs.declared.Refusal.{Refusal}
use Rattle.state.specs.declared.State.{State}
use Rattle.state.specs.declared.Events.{Events}
use Rattle.state.specs.Fresh.{nothing_awaited}
use Rattle.state.specs.Refusals.{Check}
use Rattle.state_call.specs.Outcome.{Outcome, unless}
use Rattle.state_call.specs.OutcomeLaws.{or_either}
use Rattle.driver_start.specs.Start.{start_call}
use Rattle.bus_power_on.specs.PowerOn.{on_state, power_on_call}
use Rattle.bus_power_off.specs.PowerOff.{power_off_call}
use Rattle.bus_order.specs.Order.{order_call}
use Rattle.bus_query.specs.Query.{stalled_call, enabled_call}
use Rattle.bus_events.specs.Raise.{raise_call}
use Rattle.bus_events.specs.Poll.{poll_call}
use Rattle.bus_wakeup.specs.Wakeup.{wakeup_call}
use Rattle.transfer_begin.specs.Begin.{begin_call}
use Rattle.transfer_take.specs.Take.{take_call}
use Rattle.transfer_abandon.specs.Abandon.{abandon_call}
use Rattle.endpoint_send.specs.Send.{send_call}
use Rattle.endpoint_sent.specs.Sent.{sent_call}
use Rattle.endpoint_receive.specs.Receive.{receive_call}
use Rattle.endpoint_received.specs.Received.{received_call}
use Rattle.control_setup.specs.Setup.{setup_call}
use Rattle.control_out.specs.DataOut.{data_out_call}
use Rattle.control_in.specs.DataIn.{data_in_call}
use Rattle.control_accept.specs.Accept.{accept_call, accept_address_call}
use Rattle.control_reject.specs.Reject.{reject_call}
use Rattle.control_take.specs.Take.{take_in_call}
use Rattle.control_take_out.specs.TakeOut.{take_out_call}
use Rattle.interrupt_asks.specs.Asking.{asked}
use Rattle.interrupt_asks.specs.Settled.{settled}
use Rattle.interrupt_begin.specs.Begin.{first_awaited, interrupt_call}
use Rattle.interrupt.specs.Interrupt.{answer_call}
use Rattle.usbss.specs.Call.{World, Call, Start, PowerOn, PowerOff, Ordered, IsStalled, IsEnabled, Raise, Poll, Wakeup, Begin, Take, Abandon, Send, Sent, Receive, Received, Setup, DataOut, DataIn, Accept, AcceptAddress, Reject, TakeOut, TakeIn, Interrupt, Answer}
use Rattle.usbss.specs.Step.{step}
use Rattle.history_rows.specs.Rows.{left_by, rows, final}
use Rattle.history_rows.specs.Memory.{Memory, memory_of, accepted}
use Rattle.history_memory.specs.Sequence.{first_reading, follows}
use Rattle.history_memory.specs.Remembered.{noted_if, hears, turned_on, turned_off, remembered, recall}
use Rattle.history_memory.proofs.NotedLaws.{tested_leads}

-- ---- a call by what its tests come to

module _ {A : Type 0} (c : Check) (s : State) (v : Events) (o : Outcome (Result A Refusal)) where
  -- a refusal tells nothing, and what an accepted call tells is looked at
  told : (f : Result A Refusal → Memory) → ((r : Refusal) → f (Err r) ≡ memory_of s) → (c ≡ Ok tt → memory_of o.state ≡ f o.answer)
      → memory_of (unless Err c s v o).state ≡ f (unless Err c s v o).answer
  told f refused made = or_either {B = Outcome (Result A Refusal)} (λ u. memory_of u.state ≡ f u.answer) c _ o (λ r h. sym (refused r)) made

  -- most calls tell nothing
  untold : memory_of o.state ≡ memory_of s → memory_of (unless Err c s v o).state ≡ memory_of s
  untold e = told (λ a. memory_of s) (λ r. refl) (λ h. e)

either : {A : Type 0} (b : Bool) (s : State) (o u : Outcome A) → memory_of o.state ≡ memory_of s → memory_of u.state ≡ memory_of s → memory_of (cond b o u).state ≡ memory_of s
either true s o u h k = h
either false s o u h k = k

either_state : (b : Bool) (s t u : State) → memory_of t ≡ memory_of s → memory_of u ≡ memory_of s → memory_of (cond b t u) ≡ memory_of s
either_state true s t u h k = h
either_state false s t u h k = k

-- ---- the calls that tell something

module _ (s : State) (v : Events) where
  -- a device that is on already stays as it is
  on_told : (b : Bool) (revision : ℕ) → memory_of (cond b s (on_state s revision)) ≡ cond b (memory_of s) (record (memory_of s) { powered = true; revision = revision })
  on_told true revision = refl
  on_told false revision = refl

  -- what a refusal leaves, and what is heard of a call that isn't one
  abbrev heard : Awaited → Result (Option Awaiting) Refusal → Memory
  heard x a = cond (accepted a) (hears (memory_of s) x) (memory_of s)

  -- the link's flags are asked first, of a device that is on
  begun_told : (b : Bool) → memory_of (settled s v (first_awaited b) []).state ≡ heard (asked nothing_awaited (first_reading b)) (settled s v (first_awaited b) []).answer
  unfolding settled
  begun_told true = refl
  begun_told false = refl

  interrupt_told : (room : ℕ) → memory_of (interrupt_call room s v).state ≡ heard (asked nothing_awaited (first_reading s.powered)) (interrupt_call room s v).answer
  unfolding interrupt_call
  interrupt_told room = told _ s v _ (heard (asked nothing_awaited (first_reading s.powered))) (λ r. refl) (λ h. begun_told s.powered)

  answer_told : (room : ℕ) (r : Reading)
      → memory_of (answer_call room s v r).state ≡ heard (noted_if s.awaited r (follows s.revision s.awaited r)) (answer_call room s v r).answer
  unfolding answer_call
  answer_told room r =
      told _ s v _ (heard (noted_if s.awaited r (follows s.revision s.awaited r))) (λ q. refl)
      (λ h. let t = tested_leads room s v r h in rw t.0 t.1)

-- ---- every call

-- What a call leaves remembered in the state is what is remembered of the call and its answer.
pub memory_step : (w : World) (c : Call) → memory_of (step w c).state ≡ remembered (memory_of w.state) c (step w c).answer
unfolding step remembered start_call power_on_call power_off_call order_call stalled_call enabled_call raise_call poll_call wakeup_call begin_call take_call abandon_call send_call sent_call receive_call received_call setup_call data_out_call data_in_call accept_call accept_address_call reject_call take_in_call take_out_call
memory_step w (Start driver size) =
    told _ w.state w.events _ (λ a. cond (accepted a) (turned_off (memory_of w.state)) (memory_of w.state)) (λ r. refl) (λ h. refl)
memory_step w (PowerOn room revision) =
    told _ w.state w.events _ (λ a. cond (accepted a) (turned_on revision (memory_of w.state)) (memory_of w.state)) (λ r. refl)
    (λ h. on_told w.state w.events w.state.powered revision)
memory_step w (PowerOff room) =
    told _ w.state w.events _ (λ a. cond (accepted a) (turned_off (memory_of w.state)) (memory_of w.state)) (λ r. refl) (λ h. refl)
memory_step w (Ordered room at order) = untold _ w.state w.events _ refl
memory_step w (IsStalled at) = untold _ w.state w.events _ refl
memory_step w (IsEnabled at) = untold _ w.state w.events _ refl
memory_step w (Raise event) = untold _ w.state w.events _ refl
memory_step w Poll = untold _ w.state w.events _ refl
memory_step w (Wakeup room) = untold _ w.state w.events _ refl
memory_step w (Begin room at piece) = untold _ w.state w.events _ refl
memory_step w (Take at) = untold _ w.state w.events _ refl
memory_step w (Abandon room at) = untold _ w.state w.events _ refl
memory_step w (Send room e request bytes own) = untold _ w.state w.events _ (either _ w.state _ _ refl refl)
memory_step w (Sent e request bytes own) = untold _ w.state w.events _ refl
memory_step w (Receive room e request bytes own) = untold _ w.state w.events _ refl
memory_step w (Received e request bytes own) = untold _ w.state w.events _ refl
memory_step w Setup = untold _ w.state w.events _ refl
memory_step w (DataOut room g) = untold _ w.state w.events _ refl
memory_step w (DataIn room g bytes address ep0 first last) = untold _ w.state w.events _ refl
memory_step w (Accept room g) = untold _ w.state w.events _ refl
memory_step w (AcceptAddress room g address) = untold _ w.state w.events _ (either _ w.state _ _ refl refl)
memory_step w (Reject room g) = untold _ w.state w.events _ (either _ w.state _ _ refl refl)
memory_step w (TakeOut g out ep0 address) = untold _ w.state w.events _ (either_state _ w.state _ w.state refl refl)
memory_step w (TakeIn g) = untold _ w.state w.events _ (either_state _ w.state _ w.state refl refl)
memory_step w (Interrupt room) = interrupt_told w.state w.events room
memory_step w (Answer room reading) = answer_told w.state w.events room reading

-- and behind a list of calls, of its rows.
pub memory_final : (w : World) (cs : List Call) → recall (memory_of w.state) (rows w cs) ≡ memory_of (final w cs).state
unfolding recall rows final
memory_final w [] = refl
memory_final w (c ∷ cs) =
    let next = left_by (step w c) in
    subst (λ (m : Memory). recall m (rows next cs) ≡ memory_of (final next cs).state) (memory_step w c) (memory_final next cs)
