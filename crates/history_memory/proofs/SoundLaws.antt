-- Every call leaves a sound world sound: each call's own law, gathered.
-- Assumes nothing.
use Rattle.std.specs.Prelude.{Bool, true, false, ◌≡◌, refl, List, [], ◌∷◌, length, Err}
use Rattle.std.proofs.Common.{sym, subst}
use Rattle.state.specs.declared.State.{State}
use Rattle.state.specs.declared.Events.{Events}
use Rattle.state_sound.specs.Sound.{soundb}
use Rattle.state_call.specs.OutcomeLaws.{keeps}
use Rattle.driver_laws.specs.StartKeeps.{start_keeps_sound}
use Rattle.bus_query.specs.Query.{query_conditions, query_call, stalled_call, enabled_call}
use Rattle.bus_laws.specs.PowerKeeps.{power_on_keeps_sound, power_off_keeps_sound}
use Rattle.bus_laws.specs.OrderKeeps.{order_keeps_sound}
use Rattle.bus_wakeup.specs.Wakeup.{wakeup_conditions, wakeup_call}
use Rattle.bus_laws.specs.EventKeeps.{raise_keeps_sound, poll_keeps_sound}
use Rattle.transfer_laws.specs.BeginKeeps.{begin_keeps_sound}
use Rattle.transfer_laws.specs.FinishKeeps.{take_keeps_sound, abandon_keeps_sound}
use Rattle.endpoint_choice.specs.Choice.{asked_of}
use Rattle.endpoint_laws.specs.MoveKeeps.{send_keeps_sound, sent_keeps_sound, receive_keeps_sound, received_keeps_sound}
use Rattle.control_laws.specs.ControlKeeps.{data_out_keeps, data_in_keeps, accept_keeps, accept_address_keeps, reject_keeps, setup_keeps, take_in_keeps, take_out_keeps}
use Rattle.interrupt_laws.specs.InterruptKeeps.{answer_keeps, interrupt_keeps}
use Rattle.usbss.specs.Call.{World, Call, Start, PowerOn, PowerOff, Ordered, IsStalled, IsEnabled, Raise, Poll, Wakeup, Begin, Take, Abandon, Send, Sent, Receive, Received, Setup, DataOut, DataIn, Accept, AcceptAddress, Reject, TakeOut, TakeIn, Interrupt, Answer}
use Rattle.usbss.specs.Step.{step}
use Rattle.usbss.specs.StepLaws.{alters, events_stay}
use Rattle.history_rows.specs.Rows.{left_by, final}
use Rattle.history_rows.specs.Memory.{Sound}

-- a query changes nothing, whatever it says
query_keeps_sound : (s : State) (v : Events) (b : Bool) → soundb s v ≡ true → soundb (query_call s v b).state (query_call s v b).events ≡ true
query_keeps_sound s v b h = keeps (λ t u. soundb t u ≡ true) Err (query_conditions s v) s v _ h (λ n. h)

-- the laws of sends and receives have the events of before, which those calls keep
beside : (w : World) (c : Call) → alters c ≡ false → soundb (step w c).state w.events ≡ true → Sound (left_by (step w c))
beside w c e h = subst (λ (u : Events). soundb (step w c).state u ≡ true) (sym (events_stay w c e)) h

-- A call, refused or not, leaves what 26 doesn't refuse.
pub sound_step : (w : World) → Sound w → (c : Call) → Sound (left_by (step w c))
unfolding step stalled_call enabled_call wakeup_call
sound_step w h (Start driver size) = start_keeps_sound w.state w.events driver size h
sound_step w h (PowerOn room revision) = power_on_keeps_sound room w.state w.events revision h
sound_step w h (PowerOff room) = power_off_keeps_sound room w.state w.events h
sound_step w h (Ordered room at order) = order_keeps_sound room w.state w.events at.index at.incoming order h
sound_step w h (IsStalled at) = query_keeps_sound w.state w.events _ h
sound_step w h (IsEnabled at) = query_keeps_sound w.state w.events _ h
sound_step w h (Raise event) = raise_keeps_sound w.state w.events event h
sound_step w h Poll = poll_keeps_sound w.state w.events h
sound_step w h (Wakeup room) = keeps (λ t u. soundb t u ≡ true) Err (wakeup_conditions room w.state w.events) w.state w.events _ h (λ n. h)
sound_step w h (Begin room at piece) = begin_keeps_sound room w.state w.events at.index at.incoming piece false false h
sound_step w h (Take at) = take_keeps_sound w.state w.events at.index at.incoming false _ h
sound_step w h (Abandon room at) = abandon_keeps_sound room w.state w.events at.index at.incoming h
sound_step w h (Send room e request bytes own) =
    beside w (Send room e request bytes own) refl (send_keeps_sound room w.state w.events e (asked_of request (length bytes)) bytes request.own_address own h)
sound_step w h (Sent e request bytes own) = beside w (Sent e request bytes own) refl (sent_keeps_sound w.state w.events e (asked_of request bytes) [] request.own_address own h)
sound_step w h (Receive room e request bytes own) =
    beside w (Receive room e request bytes own) refl (receive_keeps_sound room w.state w.events e (asked_of request bytes) [] request.own_address own h)
sound_step w h (Received e request bytes own) =
    beside w (Received e request bytes own) refl (received_keeps_sound w.state w.events e (asked_of request bytes) own request.own_address (length own) h)
sound_step w h Setup = (setup_keeps w.state w.events).sound h
sound_step w h (DataOut room g) = (data_out_keeps w.state w.events room g).sound h
sound_step w h (DataIn room g bytes address ep0 first last) = (data_in_keeps w.state w.events room g bytes address ep0 first last).sound h
sound_step w h (Accept room g) = (accept_keeps w.state w.events room g).sound h
sound_step w h (AcceptAddress room g address) = (accept_address_keeps w.state w.events room g address).sound h
sound_step w h (Reject room g) = (reject_keeps w.state w.events room g).sound h
sound_step w h (TakeOut g out ep0 address) = (take_out_keeps w.state w.events g out ep0 address).sound h
sound_step w h (TakeIn g) = (take_in_keeps w.state w.events g).sound h
sound_step w h (Interrupt room) = (interrupt_keeps room w.state w.events).sound h
sound_step w h (Answer room reading) = (answer_keeps room w.state w.events reading).sound h

-- So does a list of calls.
pub sound_final : (w : World) → Sound w → (cs : List Call) → Sound (final w cs)
unfolding final
sound_final w h [] = h
sound_final w h (c ∷ cs) = sound_final (left_by (step w c)) (sound_step w h c) cs
