-- The state's `address` is the one that waits, as the calls and their answers tell: behind each call, refused or not. No state need
-- be sound.
-- Assumes nothing.
use Rattle.std.specs.Prelude.{ℕ, Bool, true, false, ◌&&◌, ◌||◌, not, cond, List, [], eqb, leb, ◌≡◌, refl, Option, Some, None, Ok, Err, Result}
use Rattle.ops.specs.Ops.{Op}
use Rattle.state.specs.declared.Awaiting.{Awaiting}
use Rattle.state.specs.declared.Awaiting.TheVariants as awaiting
use Rattle.state.specs.declared.Awaited.{Awaited}
use Rattle.state.specs.declared.TransferStatus.{TransferStatus}
use Rattle.state.specs.declared.Reading.{Reading}
use Rattle.state.specs.declared.Refusal.{Refusal}
use Rattle.state.specs.declared.State.{State}
use Rattle.state.specs.declared.Events.{Events}
use Rattle.state.specs.Awaiting.{awaitingb}
use Rattle.state.specs.Fresh.{slot_at}
use Rattle.state.specs.Refusals.{Check}
use Rattle.state.specs.RefusalsLaws.{none_due}
use Rattle.state.specs.Setters.{limit_of, with_sequence, with_stage}
use Rattle.state_slots.specs.Slots.{slot_number, slot_of, busyb}
use Rattle.state_slots.specs.Completing.{complete_at, complete}
use Rattle.state_call.specs.Outcome.{Outcome, unless}
use Rattle.state_call.specs.OutcomeLaws.{or_either}
use Rattle.regs_control.specs.Control.{status_others_ops}
use Rattle.driver_start.specs.Start.{start_call}
use Rattle.bus_reset.specs.Reset.{bus_reset_state}
use Rattle.bus_power_on.specs.PowerOn.{on_state, power_on_call}
use Rattle.bus_power_off.specs.PowerOff.{off_state, power_off_call}
use Rattle.bus_order.specs.Order.{order_call}
use Rattle.bus_query.specs.Query.{stalled_call, enabled_call}
use Rattle.bus_events.specs.Raise.{raise_call}
use Rattle.bus_events.specs.Poll.{poll_call}
use Rattle.bus_wakeup.specs.Wakeup.{wakeup_call}
use Rattle.transfer_step.specs.declared.Step.{Step}
use Rattle.transfer_step.specs.declared.Step.TheVariants.{Ignored, GoesOn, Completes}
use Rattle.transfer_step.specs.Step.{report_step}
use Rattle.transfer_report.specs.Report.{state_after, report_state, report_ops}
use Rattle.transfer_begin.specs.Begin.{begin_call}
use Rattle.transfer_take.specs.Take.{take_call}
use Rattle.transfer_abandon.specs.Abandon.{abandon_call}
use Rattle.endpoint_send.specs.Send.{send_call}
use Rattle.endpoint_sent.specs.Sent.{sent_call}
use Rattle.endpoint_receive.specs.Receive.{receive_call}
use Rattle.endpoint_received.specs.Received.{received_call}
use Rattle.control_report.specs.Ep0.{setup_ops, status_ops, status_done, status_follows}
use Rattle.control_stage.specs.Stage.{begun, unanswered, in_stage}
use Rattle.control_setup.specs.Setup.{setup_call}
use Rattle.control_out.specs.DataOut.{data_out_call}
use Rattle.control_in.specs.DataIn.{data_in_call}
use Rattle.control_accept.specs.Accept.{accept_ops, accept_call, accept_address_call}
use Rattle.control_reject.specs.Reject.{reject_call}
use Rattle.control_take.specs.Take.{take_in_call}
use Rattle.control_take_out.specs.TakeOut.{take_out_call}
use Rattle.interrupt_asks.specs.Asking.{asked}
use Rattle.interrupt_asks.specs.Settled.{settled_at, settled}
use Rattle.interrupt_begin.specs.Begin.{first_awaited, interrupt_call}
use Rattle.interrupt_transfer.specs.Transfers.{Turned, over, asking, chain_asked, ep0_reading, endpoint_turn, status_turn}
use Rattle.interrupt_readings.specs.Matched.{Matched, matched_as}
use Rattle.interrupt_readings.specs.Heard.{heard_link}
use Rattle.interrupt_followers.specs.Followers.{heard_transfer}
use Rattle.interrupt.specs.Interrupt.{answer_conditions, link_before, link_after, link_settled, transfer_settled, answer_call}
use Rattle.interrupt_laws.specs.ReadingLaws.{EachReading, each_reading, answered_at, tested_reading}
use Rattle.usbss.specs.Call.{World, Call, Start, PowerOn, PowerOff, Ordered, IsStalled, IsEnabled, Raise, Poll, Wakeup, Begin, Take, Abandon, Send, Sent, Receive, Received, Setup, DataOut, DataIn, Accept, AcceptAddress, Reject, TakeOut, TakeIn, Interrupt, Answer}
use Rattle.usbss.specs.Step.{step}
use Rattle.history_ops.specs.Readings.{ends_status, resets_bus}
use Rattle.history_ops.proofs.ReadingOps.{link_resets}
use Rattle.history_rows.specs.Memory.{memory_of, accepted}
use Rattle.history_address.specs.Address.{Bearing, Waits, Forgets, Applies, Resets, Off, Nothing, waits_behind, only, armed, brings_setup, told_by, bearing}

-- ---- a call by what its tests come to

module _ {A : Type 0} (c : Check) (s : State) (v : Events) (o : Outcome (Result A Refusal)) where
  -- a refusal tells nothing, and what an accepted call tells is looked at
  told : (f : Result A Refusal → Bearing) → ((r : Refusal) → s.address ≡ waits_behind (f (Err r)) s.address) → (c ≡ Ok tt → o.state.address ≡ waits_behind (f o.answer) s.address)
      → (unless Err c s v o).state.address ≡ waits_behind (f (unless Err c s v o).answer) s.address
  told f refused made = or_either {B = Outcome (Result A Refusal)} (λ u. u.state.address ≡ waits_behind (f u.answer) s.address) c _ o (λ r h. refused r) made

  -- most calls tell nothing
  untold : o.state.address ≡ s.address → (unless Err c s v o).state.address ≡ s.address
  untold e = told (λ a. Nothing) (λ r. refl) (λ h. e)

either : {A : Type 0} (b : Bool) (s : State) (o u : Outcome A) → o.state.address ≡ s.address → u.state.address ≡ s.address → (cond b o u).state.address ≡ s.address
either true s o u h k = h
either false s o u h k = k

either_state : (b : Bool) (s t u : State) → t.address ≡ s.address → u.address ≡ s.address → (cond b t u).address ≡ s.address
either_state true s t u h k = h
either_state false s t u h k = k

-- ---- a reading

completed : (t : State) (i : ℕ) → (complete t i).address ≡ t.address
completed t i = go (busyb (slot_at t i).phase)
  where
    go : (b : Bool) → (complete_at b t i).address ≡ t.address
    go true = refl
    go false = refl

reported : (s : State) (e : ℕ) (incoming : Bool) (packets last : ℕ) → (report_state s e incoming packets last).address ≡ s.address
unfolding report_state
reported s e incoming packets last = go (report_step (limit_of s) incoming packets last (slot_of s e incoming))
  where
    go : (k : Step) → (state_after s (slot_number e incoming) incoming k).address ≡ s.address
    go Ignored = refl
    go (GoesOn x) = refl
    go (Completes x) = refl

module _ (s : State) (v : Events) where
  -- what an accepted reading leaves is what its bearing x says
  abbrev Leaves : Bearing → Outcome (Result (Option Awaiting) Refusal) → Type 0
  Leaves x o = o.state.address ≡ waits_behind (only (accepted o.answer) x) s.address

  abbrev told_of : Matched → Bearing
  told_of m = told_by s.revision s.awaited m

  settles : (x : Bearing) (t : State) (u : Events) (a : Awaited) (ops : List Op) → t.address ≡ waits_behind x s.address → Leaves x (settled t u a ops)
  unfolding settled
  settles x t u a ops h = go (awaitingb a.next)
    where
      go : (b : Bool) → Leaves x (settled_at b t u a ops)
      go true = h
      go false = h

  link_leaves : (m : Matched) → ends_status m ≡ false → brings_setup m ≡ false
      → Leaves (told_of m) (link_settled s (heard_link s.ep0_address s.revision s.awaited (link_before s v) m))
  link_leaves m h k =
      let x = heard_link s.ep0_address s.revision s.awaited (link_before s v) m in
      settles (told_of m) (link_after s x.effect) x.effect.events x.awaited x.ops
      (rw (link_resets s.ep0_address s.revision s.awaited (link_before s v) m, h, k) (go (resets_bus s.revision s.awaited m)))
    where
      go : (b : Bool) → (cond (b || false) (bus_reset_state s) s).address ≡ waits_behind (cond b Resets Nothing) s.address
      go true = refl
      go false = refl

  transfer_leaves : (x : Bearing) (k : Turned) → k.state.address ≡ waits_behind x s.address → Leaves x (transfer_settled v k)
  transfer_leaves x k h = settles x k.state v k.awaited k.ops h

  endpoint_turned : (e : ℕ) (incoming : Bool) → (endpoint_turn s e incoming).state.address ≡ s.address
  endpoint_turned e incoming = go (eqb e 0) (leb e 7) incoming
    where
      go : (b c d : Bool)
          → (cond b (asking s (asked s.awaited (Some (ep0_reading d))) [])
          (cond c (cond d (over (report_state s e true 0 0) (report_ops s e true 0 0)) (asking s (chain_asked s.awaited e) [])) (over s []))).state.address
          ≡ s.address
      go true c d = refl
      go false true true = reported s e true 0 0
      go false true false = refl
      go false false d = refl

  -- the end of a status stage goes before all else that is flagged
  status_turned : (t : TransferStatus) → (status_turn s t).state.address ≡ waits_behind (cond t.udif_status Applies Nothing) s.address
  unfolding status_turn
  status_turned t = go t.udif_status t.udif_setup t.uif_transfer
    where
      go : (a b c : Bool)
          → (cond a (over (status_done s) (status_ops s.address))
          (cond b (asking s (asked s.awaited (Some awaiting.SetupBytes)) setup_ops)
          (cond c (endpoint_turn s t.ep_id t.ep_dir) (over s (status_others_ops t.uif_itp t.uif_rx_ping t.uif_fifo_txov t.uif_fifo_rxov))))).state.address
          ≡ waits_behind (cond a Applies Nothing) s.address
      go true b c = completed (with_stage s s.in_last None) 1
      go false true c = refl
      go false false true = endpoint_turned t.ep_id t.ep_dir
      go false false false = refl

  abbrev Bears : ℕ → Matched → Type 0
  Bears n m = Leaves (told_of m) (answered_at s v n m)

  each : EachReading Bears
  unfolding heard_transfer
  each =
      record {
        on_flags = λ f. link_leaves _ refl refl;
        on_status = λ r. link_leaves _ refl refl;
        on_capability = λ b. link_leaves _ refl refl;
        on_term = λ r. link_leaves _ refl refl;
        on_message = λ w. link_leaves _ refl refl;
        on_warm = λ r. link_leaves _ refl refl;
        on_transfer = λ t. transfer_leaves _ (status_turn s t) (status_turned t);
        on_setup = λ b. transfer_leaves Forgets _ refl;
        on_bytes = λ l. transfer_leaves Nothing _ refl;
        on_sequence =
            λ q k. transfer_leaves Nothing _
            (either_state (status_follows s) s (with_sequence s q) (complete (with_sequence s q) 1) refl (completed (with_sequence s q) 1));
        on_packets = λ p. transfer_leaves Nothing _ refl;
        on_last = λ l. transfer_leaves Nothing _ (reported s s.awaited.endpoint false s.awaited.packets l);
      }

  answer_told : (room : ℕ) (r : Reading)
      → (answer_call room s v r).state.address ≡ waits_behind (only (accepted (answer_call room s v r).answer) (told_of (matched_as s.awaited.next r))) s.address
  unfolding answer_call
  answer_told room r =
      told _ s v _ (λ a. only (accepted a) (told_of (matched_as s.awaited.next r))) (λ q. refl)
      (λ h. let t = tested_reading room s v r (none_due (answer_conditions room s v r) h) in each_reading Bears each s.awaited.next r t.matches t.range)

  -- ---- the other calls that tell something

  on_told : (b : Bool) (revision : ℕ) → (cond b s (on_state s revision)).address ≡ waits_behind (only (not b) Resets) s.address
  on_told true revision = refl
  on_told false revision = refl

  off_told : (b : Bool) → (off_state s).address ≡ waits_behind (only b Off) s.address
  off_told true = refl
  off_told false = refl

  -- an address above 127 is answered without a number, and doesn't wait
  address_told : (b : Bool) (address : ℕ)
      → (cond b (begun (in_stage s true (Some address)) v accept_ops []) (unanswered s v)).state.address
      ≡ waits_behind (only (armed (cond b (begun (in_stage s true (Some address)) v accept_ops []) (unanswered s v)).answer) (Waits address)) s.address
  address_told true address = refl
  address_told false address = refl

  -- an interrupt that begins asks for a reading at most
  begun_told : (b : Bool) → (settled s v (first_awaited b) []).state.address ≡ s.address
  unfolding settled
  begun_told true = refl
  begun_told false = refl

-- ---- every call

-- What a call leaves waiting in the state is what its bearing leaves waiting.
pub waiting_step : (w : World) (c : Call) → (step w c).state.address ≡ waits_behind (bearing (memory_of w.state) c (step w c).answer) w.state.address
unfolding step bearing start_call power_on_call power_off_call order_call stalled_call enabled_call raise_call poll_call wakeup_call begin_call take_call abandon_call send_call sent_call receive_call received_call setup_call data_out_call data_in_call accept_call accept_address_call reject_call take_in_call take_out_call interrupt_call
waiting_step w (Start driver size) = untold _ w.state w.events _ refl
waiting_step w (PowerOn room revision) =
    told _ w.state w.events _ (λ a. only (accepted a && not w.state.powered) Resets) (λ r. refl) (λ h. on_told w.state w.events w.state.powered revision)
waiting_step w (PowerOff room) = told _ w.state w.events _ (λ a. only (accepted a && w.state.powered) Off) (λ r. refl) (λ h. off_told w.state w.events w.state.powered)
waiting_step w (Ordered room at order) = untold _ w.state w.events _ refl
waiting_step w (IsStalled at) = untold _ w.state w.events _ refl
waiting_step w (IsEnabled at) = untold _ w.state w.events _ refl
waiting_step w (Raise event) = untold _ w.state w.events _ refl
waiting_step w Poll = untold _ w.state w.events _ refl
waiting_step w (Wakeup room) = untold _ w.state w.events _ refl
waiting_step w (Begin room at piece) = untold _ w.state w.events _ refl
waiting_step w (Take at) = untold _ w.state w.events _ refl
waiting_step w (Abandon room at) = untold _ w.state w.events _ refl
waiting_step w (Send room e request bytes own) = untold _ w.state w.events _ (either _ w.state _ _ refl refl)
waiting_step w (Sent e request bytes own) = untold _ w.state w.events _ refl
waiting_step w (Receive room e request bytes own) = untold _ w.state w.events _ refl
waiting_step w (Received e request bytes own) = untold _ w.state w.events _ refl
waiting_step w Setup = untold _ w.state w.events _ refl
waiting_step w (DataOut room g) = untold _ w.state w.events _ refl
waiting_step w (DataIn room g bytes address ep0 first last) = untold _ w.state w.events _ refl
waiting_step w (Accept room g) = told _ w.state w.events _ (λ a. only (armed a) Forgets) (λ r. refl) (λ h. refl)
waiting_step w (AcceptAddress room g address) =
    told _ w.state w.events _ (λ a. only (armed a) (Waits address)) (λ r. refl) (λ h. address_told w.state w.events (leb address 127) address)
waiting_step w (Reject room g) = untold _ w.state w.events _ (either _ w.state _ _ refl refl)
waiting_step w (TakeOut g out ep0 address) = untold _ w.state w.events _ (either_state _ w.state _ w.state refl refl)
waiting_step w (TakeIn g) = untold _ w.state w.events _ (either_state _ w.state _ w.state refl refl)
waiting_step w (Interrupt room) = untold _ w.state w.events _ (begun_told w.state w.events w.state.powered)
waiting_step w (Answer room reading) = answer_told w.state w.events room reading
