-- Only a start, raise and poll, and an interrupt alter the pending events.
-- Assumes nothing.
use Rattle.std.specs.Prelude.{Bool, true, false, cond, ◌≡◌, refl, Err}
use Rattle.state.specs.declared.Events.{Events}
use Rattle.state.specs.declared.State.{State}
use Rattle.state.specs.declared.Refusal.{Refusal}
use Rattle.state.specs.Refusals.{Check}
use Rattle.state_call.specs.Outcome.{Outcome, unless}
use Rattle.state_call.specs.OutcomeLaws.{or_either}
use Rattle.driver_start.specs.Start.{start_call}
use Rattle.bus_power_on.specs.PowerOn.{power_on_call}
use Rattle.bus_power_off.specs.PowerOff.{power_off_call}
use Rattle.bus_order.specs.Order.{order_call}
use Rattle.bus_query.specs.Query.{stalled_call, enabled_call}
use Rattle.bus_wakeup.specs.Wakeup.{wakeup_call}
use Rattle.transfer_begin.specs.Begin.{begin_call}
use Rattle.transfer_take.specs.Take.{take_call}
use Rattle.transfer_abandon.specs.Abandon.{abandon_call}
use Rattle.endpoint_send.specs.Send.{send_call}
use Rattle.endpoint_sent.specs.Sent.{sent_call}
use Rattle.endpoint_receive.specs.Receive.{receive_call}
use Rattle.endpoint_received.specs.Received.{received_call}
use Rattle.control_setup.specs.Setup.{setup_call}
use Rattle.control_out.specs.DataOut.{data_out_call}
use Rattle.control_in.specs.DataIn.{data_in_call}
use Rattle.control_accept.specs.Accept.{accept_call, accept_address_call}
use Rattle.control_reject.specs.Reject.{reject_call}
use Rattle.control_take.specs.Take.{take_in_call}
use Rattle.control_take_out.specs.TakeOut.{take_out_call}
use Rattle.usbss.specs.Call.{World, Call, Start, PowerOn, PowerOff, Ordered, IsStalled, IsEnabled, Raise, Poll, Wakeup, Begin, Take, Abandon, Send, Sent, Receive, Received, Setup, DataOut, DataIn, Accept, AcceptAddress, Reject, TakeOut, TakeIn, Interrupt, Answer}
use Rattle.usbss.specs.Step.{step}

-- the calls that are lent the events, or give them back
abbrev pub alters : Call → Bool
alters (Start driver size) = true
alters (PowerOn room revision) = false
alters (PowerOff room) = false
alters (Ordered room endpoint order) = false
alters (IsStalled endpoint) = false
alters (IsEnabled endpoint) = false
alters (Raise event) = true
alters Poll = true
alters (Wakeup room) = false
alters (Begin room endpoint piece) = false
alters (Take endpoint) = false
alters (Abandon room endpoint) = false
alters (Send room e request bytes own) = false
alters (Sent e request bytes own) = false
alters (Receive room e request bytes own) = false
alters (Received e request bytes own) = false
alters Setup = false
alters (DataOut room g) = false
alters (DataIn room g bytes address ep0 first last) = false
alters (Accept room g) = false
alters (AcceptAddress room g address) = false
alters (Reject room g) = false
alters (TakeOut g out ep0 address) = false
alters (TakeIn g) = false
alters (Interrupt room) = true
alters (Answer room reading) = true

-- a call that has none of its own keeps them, refused or not
kept : {A : Type 0} (refused : Refusal → A) (c : Check) (s : State) (v : Events) (o : Outcome A) → o.events ≡ v → (unless refused c s v o).events ≡ v
kept {A} refused c s v o e = or_either {B = Outcome A} (λ u. u.events ≡ v) c _ o (λ r h. refl) (λ h. e)

either : {A : Type 0} (b : Bool) (v : Events) (o u : Outcome A) → o.events ≡ v → u.events ≡ v → (cond b o u).events ≡ v
either true v o u h k = h
either false v o u h k = k

pub events_stay : (w : World) (c : Call) → alters c ≡ false → (step w c).events ≡ w.events
unfolding step start_call power_on_call power_off_call order_call stalled_call enabled_call wakeup_call begin_call take_call abandon_call send_call sent_call receive_call received_call setup_call data_out_call data_in_call accept_call accept_address_call reject_call take_in_call take_out_call
events_stay w (Start driver size) h = absurd (cc)
events_stay w (PowerOn room revision) h = kept Err _ w.state w.events _ refl
events_stay w (PowerOff room) h = kept Err _ w.state w.events _ refl
events_stay w (Ordered room endpoint order) h = kept Err _ w.state w.events _ refl
events_stay w (IsStalled endpoint) h = kept Err _ w.state w.events _ refl
events_stay w (IsEnabled endpoint) h = kept Err _ w.state w.events _ refl
events_stay w (Raise event) h = absurd (cc)
events_stay w Poll h = absurd (cc)
events_stay w (Wakeup room) h = kept Err _ w.state w.events _ refl
events_stay w (Begin room endpoint piece) h = kept Err _ w.state w.events _ refl
events_stay w (Take endpoint) h = kept Err _ w.state w.events _ refl
events_stay w (Abandon room endpoint) h = kept Err _ w.state w.events _ refl
events_stay w (Send room e request bytes own) h = kept Err _ w.state w.events _ (either _ w.events _ _ refl refl)
events_stay w (Sent e request bytes own) h = refl
events_stay w (Receive room e request bytes own) h = kept Err _ w.state w.events _ refl
events_stay w (Received e request bytes own) h = refl
events_stay w Setup h = kept Err _ w.state w.events _ refl
events_stay w (DataOut room g) h = kept Err _ w.state w.events _ refl
events_stay w (DataIn room g bytes address ep0 first last) h = kept Err _ w.state w.events _ refl
events_stay w (Accept room g) h = kept Err _ w.state w.events _ refl
events_stay w (AcceptAddress room g address) h = kept Err _ w.state w.events _ (either _ w.events _ _ refl refl)
events_stay w (Reject room g) h = kept Err _ w.state w.events _ (either _ w.events _ _ refl refl)
events_stay w (TakeOut g out ep0 address) h = kept Err _ w.state w.events _ refl
events_stay w (TakeIn g) h = kept Err _ w.state w.events _ refl
events_stay w (Interrupt room) h = absurd (cc)
events_stay w (Answer room reading) h = absurd (cc)
