-- No call alters a data slot's difference, begun less finished, cut and in hand, whatever the state is: each call's own law, gathered.
-- Assumes nothing.
use Rattle.std.specs.Prelude.{ℕ, ◌≤◌, ◌<◌, ◌%◌, ◌^◌, Bool, true, false, ◌≡◌, refl, List, [], ◌∷◌, length, Err}
use Rattle.std.proofs.Common.{sym, ap, ◌∙◌, subst}
use Rattle.std.proofs.lemmas.List.{get_or-replicate}
use Rattle.state.specs.declared.Slot.{Slot}
use Rattle.state.specs.declared.State.{State}
use Rattle.state.specs.declared.Events.{Events}
use Rattle.state.specs.Fresh.{fresh_slot, fresh_state, slot_at}
use Rattle.state_slots.specs.Slots.{slot_number, data_endpoint, slot_of}
use Rattle.state_slots.specs.Tally.{accounted, KeepsAccount, SameDifference}
use Rattle.state_laws.specs.SlotLaws.{slot_range}
use Rattle.state_laws.specs.TallyLaws.{keeps_difference, unmoved_difference, difference_then, balanced_still}
use Rattle.state_call.specs.OutcomeLaws.{keeps}
use Rattle.driver_start.specs.Start.{start_call}
use Rattle.driver_laws.specs.StartKeeps.{start_keeps_account}
use Rattle.bus_query.specs.Query.{query_conditions, query_call, stalled_call, enabled_call}
use Rattle.bus_order.specs.Order.{order_call}
use Rattle.bus_power_off.specs.PowerOff.{power_off_call}
use Rattle.bus_power_on.specs.PowerOn.{power_on_call}
use Rattle.bus_laws.specs.PowerKeeps.{power_on_keeps_account, power_off_keeps_account}
use Rattle.bus_laws.specs.OrderKeeps.{order_keeps_account}
use Rattle.bus_wakeup.specs.WakeupLaws.{wakeup_state}
use Rattle.bus_laws.specs.EventKeeps.{raise_state, poll_state}
use Rattle.transfer_laws.specs.BeginKeeps.{begin_keeps_account}
use Rattle.transfer_laws.specs.FinishKeeps.{take_keeps_account, abandon_keeps_account}
use Rattle.endpoint_choice.specs.Choice.{asked_of}
use Rattle.endpoint_laws.specs.MoveKeeps.{send_keeps_account, sent_keeps_account, receive_keeps_account, received_keeps_account}
use Rattle.control_laws.specs.ControlKeeps.{data_out_keeps, data_in_keeps, accept_keeps, accept_address_keeps, reject_keeps, setup_keeps, take_in_keeps, take_out_keeps}
use Rattle.interrupt_laws.specs.InterruptKeeps.{answer_keeps, interrupt_keeps}
use Rattle.usbss.specs.Call.{World, Call, Start, PowerOn, PowerOff, Ordered, IsStalled, IsEnabled, Raise, Poll, Wakeup, Begin, Take, Abandon, Send, Sent, Receive, Received, Setup, DataOut, DataIn, Accept, AcceptAddress, Reject, TakeOut, TakeIn, Interrupt, Answer}
use Rattle.usbss.specs.Step.{step}
use Rattle.history_rows.specs.Rows.{left_by, final}

-- a slot that keeps its account, and one of a state that stays
module _ (s t : State) (i : ℕ) where
  by_account : KeepsAccount (slot_at s i) (slot_at t i) → SameDifference (slot_at s i) (slot_at t i)
  by_account k = keeps_difference (slot_at s i) (slot_at t i) k

  by_state : t ≡ s → SameDifference (slot_at s i) (slot_at t i)
  by_state q = subst (λ (u : State). SameDifference (slot_at s i) (slot_at u i)) (sym q) (unmoved_difference (slot_at s i))

-- a query changes nothing, whatever it says
query_state : (s : State) (v : Events) (b : Bool) → (query_call s v b).state ≡ s
query_state s v b = keeps (λ t u. t ≡ s) Err (query_conditions s v) s v _ refl (λ n. refl)

module _ (i : ℕ) (low : 2 ≤ i) (high : i < 16) where
  difference_at : (w : World) (c : Call) → SameDifference (slot_at w.state i) (slot_at (step w c).state i)
  unfolding step stalled_call enabled_call
  difference_at w (Start driver size) = by_account w.state (start_call w.state w.events driver size).state i (start_keeps_account w.state w.events driver size i low high)
  difference_at w (PowerOn room revision) = by_account w.state (power_on_call room w.state w.events revision).state i (power_on_keeps_account room w.state w.events revision i low high)
  difference_at w (PowerOff room) = by_account w.state (power_off_call room w.state w.events).state i (power_off_keeps_account room w.state w.events i low high)
  difference_at w (Ordered room at order) = by_account w.state (order_call room w.state w.events at.index at.incoming order).state i (order_keeps_account room w.state w.events at.index at.incoming order i)
  difference_at w (IsStalled at) = by_state w.state _ i (query_state w.state w.events _)
  difference_at w (IsEnabled at) = by_state w.state _ i (query_state w.state w.events _)
  difference_at w (Raise event) = by_state w.state _ i (raise_state w.state w.events event)
  difference_at w Poll = by_state w.state _ i (poll_state w.state w.events)
  difference_at w (Wakeup room) = by_state w.state _ i (wakeup_state room w.state w.events)
  difference_at w (Begin room at piece) = begin_keeps_account room w.state w.events at.index at.incoming piece false false i
  difference_at w (Take at) = take_keeps_account w.state w.events at.index at.incoming false _ i
  difference_at w (Abandon room at) = abandon_keeps_account room w.state w.events at.index at.incoming i
  difference_at w (Send room e request bytes own) = send_keeps_account room w.state w.events e (asked_of request (length bytes)) bytes request.own_address own i
  difference_at w (Sent e request bytes own) = sent_keeps_account w.state w.events e (asked_of request bytes) [] request.own_address own i
  difference_at w (Receive room e request bytes own) =
      receive_keeps_account room w.state w.events e (asked_of request bytes) [] request.own_address own i
  difference_at w (Received e request bytes own) =
      received_keeps_account w.state w.events e (asked_of request bytes) own request.own_address (length own) i
  difference_at w Setup = (setup_keeps w.state w.events).account i low high
  difference_at w (DataOut room g) = (data_out_keeps w.state w.events room g).account i low high
  difference_at w (DataIn room g bytes address ep0 first last) = (data_in_keeps w.state w.events room g bytes address ep0 first last).account i low high
  difference_at w (Accept room g) = (accept_keeps w.state w.events room g).account i low high
  difference_at w (AcceptAddress room g address) = (accept_address_keeps w.state w.events room g address).account i low high
  difference_at w (Reject room g) = (reject_keeps w.state w.events room g).account i low high
  difference_at w (TakeOut g out ep0 address) = (take_out_keeps w.state w.events g out ep0 address).account i low high
  difference_at w (TakeIn g) = (take_in_keeps w.state w.events g).account i low high
  difference_at w (Interrupt room) = (interrupt_keeps room w.state w.events).account i low high
  difference_at w (Answer room reading) = (answer_keeps room w.state w.events reading).account i low high

module _ (e : ℕ) (incoming : Bool) (d : data_endpoint e ≡ true) where
  -- the fresh state has the slot
  pub fresh_there : (w : World) → w.state ≡ fresh_state → slot_of w.state e incoming ≡ fresh_slot
  fresh_there w q =
      ap (λ (s : State). slot_of s e incoming) q ∙ get_or-replicate 16 (slot_number e incoming) fresh_slot fresh_slot (slot_range e incoming d).1

  -- of a call, refused or not,
  pub difference_step : (w : World) (c : Call) → SameDifference (slot_of w.state e incoming) (slot_of (step w c).state e incoming)
  difference_step w c = let r = slot_range e incoming d in difference_at (slot_number e incoming) r.0 r.1 w c

  -- and of a list of calls
  pub difference_final : (w : World) (cs : List Call) → SameDifference (slot_of w.state e incoming) (slot_of (final w cs).state e incoming)
  unfolding final
  difference_final w [] = unmoved_difference (slot_of w.state e incoming)
  difference_final w (c ∷ cs) =
      difference_then (slot_of w.state e incoming) (slot_of (step w c).state e incoming) (slot_of (final (left_by (step w c)) cs).state e incoming)
      (difference_step w c) (difference_final (left_by (step w c)) cs)

  -- Begun = finished + cut + in hand, modulo 2^32, from the fresh state on.
  pub fresh_balanced : (w : World) → w.state ≡ fresh_state → (cs : List Call)
      → (slot_of (final w cs).state e incoming).tally.begun % 2 ^ 32 ≡ accounted (slot_of (final w cs).state e incoming)
  fresh_balanced w q cs =
      balanced_still (slot_of w.state e incoming) (slot_of (final w cs).state e incoming) (difference_final w cs)
      (subst (λ (x : Slot). x.tally.begun % 2 ^ 32 ≡ accounted x) (sym (fresh_there w q)) refl)
