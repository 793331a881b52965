-- What each call comes to, in any world: one line a call.
-- Assumes nothing.
use Rattle.std.specs.Prelude.{false, length}
use Rattle.state_call.specs.Outcome.{Outcome}
use Rattle.driver_start.specs.Start.{start_call}
use Rattle.bus_power_on.specs.PowerOn.{power_on_call}
use Rattle.bus_power_off.specs.PowerOff.{power_off_call}
use Rattle.bus_order.specs.Order.{order_call}
use Rattle.bus_query.specs.Query.{stalled_call, enabled_call}
use Rattle.bus_events.specs.Raise.{raise_call}
use Rattle.bus_events.specs.Poll.{poll_call}
use Rattle.bus_wakeup.specs.Wakeup.{wakeup_call}
use Rattle.transfer_begin.specs.Begin.{begin_call}
use Rattle.transfer_take.specs.Take.{take_call}
use Rattle.transfer_abandon.specs.Abandon.{abandon_call}
use Rattle.endpoint_choice.specs.Choice.{asked_of, any_length}
use Rattle.endpoint_send.specs.Send.{send_call}
use Rattle.endpoint_sent.specs.Sent.{sent_call}
use Rattle.endpoint_receive.specs.Receive.{receive_call}
use Rattle.endpoint_received.specs.Received.{received_call}
use Rattle.control_setup.specs.Setup.{setup_call}
use Rattle.control_out.specs.DataOut.{data_out_call}
use Rattle.control_in.specs.DataIn.{data_in_call}
use Rattle.control_accept.specs.Accept.{accept_call, accept_address_call}
use Rattle.control_reject.specs.Reject.{reject_call}
use Rattle.control_take.specs.Take.{take_in_call}
use Rattle.control_take_out.specs.TakeOut.{take_out_call}
use Rattle.interrupt_begin.specs.Begin.{interrupt_call}
use Rattle.interrupt.specs.Interrupt.{answer_call}
use Rattle.usbss.specs.Call.{World, Call, Start, PowerOn, PowerOff, Ordered, IsStalled, IsEnabled, Raise, Poll, Wakeup, Begin, Take, Abandon, Send, Sent, Receive, Received, Setup, DataOut, DataIn, Accept, AcceptAddress, Reject, TakeOut, TakeIn, Interrupt, Answer, Answers}

-- A plain begin finds nothing wrong with its caller's bytes, and a plain take has room for any number of them.
unfoldable pub step : World → (c : Call) → Outcome (Answers c)
step w (Start driver size) = start_call w.state w.events driver size
step w (PowerOn room revision) = power_on_call room w.state w.events revision
step w (PowerOff room) = power_off_call room w.state w.events
step w (Ordered room endpoint order) = order_call room w.state w.events endpoint.index endpoint.incoming order
step w (IsStalled endpoint) = stalled_call w.state w.events endpoint.index endpoint.incoming
step w (IsEnabled endpoint) = enabled_call w.state w.events endpoint.index endpoint.incoming
step w (Raise event) = raise_call w.state w.events event
step w Poll = poll_call w.state w.events
step w (Wakeup room) = wakeup_call room w.state w.events
step w (Begin room endpoint piece) = begin_call room w.state w.events endpoint.index endpoint.incoming piece false false
step w (Take endpoint) = take_call w.state w.events endpoint.index endpoint.incoming false any_length
step w (Abandon room endpoint) = abandon_call room w.state w.events endpoint.index endpoint.incoming
step w (Send room e request bytes own) = send_call room w.state w.events e (asked_of request (length bytes)) bytes request.own_address own
step w (Sent e request bytes own) = sent_call w.state w.events e (asked_of request bytes) request.own_address own
step w (Receive room e request bytes own) = receive_call room w.state w.events e (asked_of request bytes) request.own_address own
step w (Received e request bytes own) = received_call w.state w.events e (asked_of request bytes) own request.own_address
step w Setup = setup_call w.state w.events
step w (DataOut room g) = data_out_call room w.state w.events g
step w (DataIn room g bytes address ep0 first last) = data_in_call room w.state w.events g bytes address ep0 first last
step w (Accept room g) = accept_call room w.state w.events g
step w (AcceptAddress room g address) = accept_address_call room w.state w.events g address
step w (Reject room g) = reject_call room w.state w.events g
step w (TakeOut g out ep0 address) = take_out_call w.state w.events g out ep0 address
step w (TakeIn g) = take_in_call w.state w.events g
step w (Interrupt room) = interrupt_call room w.state w.events
step w (Answer room reading) = answer_call room w.state w.events reading

abbrev pub world : Rattle.state.specs.declared.State.State → Rattle.state.specs.declared.Events.Events → World
world s v = record { state = s; events = v }
