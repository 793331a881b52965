-- All that the rows of a history are computed by, under one name.
-- Assumes nothing.
use Rattle.std.specs.Prelude.{List}
use Rattle.base.specs.Each.{every, count, change_from}
use Rattle.base.specs.Ceil.{div_ceil}
use Rattle.ops.specs.Sequence.{up_to}
use Rattle.state_sound.specs.Sound.{soundb, driver_soundb}
use Rattle.state_call.specs.Outcome.{or_else}
use Rattle.driver_allocate.specs.Rules.{lowest}
use Rattle.driver_allocate.specs.Allocate.{allocate_check, placed, allocate_result}
use Rattle.driver_start.specs.Start.{started_slots, start_call}
use Rattle.bus_power_on.specs.PowerOn.{power_on_call}
use Rattle.bus_power_off.specs.PowerOff.{power_off_call}
use Rattle.bus_order.specs.Order.{order_call}
use Rattle.bus_query.specs.Query.{stalled_call, enabled_call}
use Rattle.bus_events.specs.Raise.{raise_call}
use Rattle.bus_events.specs.Poll.{poll_call}
use Rattle.bus_wakeup.specs.Wakeup.{wakeup_call}
use Rattle.transfer_chain.specs.Chains.{chain_packets, chain_bytes}
use Rattle.transfer_window.specs.Window.{out_window, windows_ops}
use Rattle.transfer_begin.specs.Begin.{begin_call}
use Rattle.transfer_report.specs.Report.{report_state, report_ops}
use Rattle.transfer_take.specs.Take.{take_call}
use Rattle.transfer_abandon.specs.Abandon.{abandon_call}
use Rattle.endpoint_send.specs.Send.{send_call}
use Rattle.endpoint_sent.specs.Sent.{sent_call}
use Rattle.endpoint_receive.specs.Receive.{receive_call}
use Rattle.endpoint_received.specs.Received.{received_call}
use Rattle.control_setup.specs.Setup.{setup_call}
use Rattle.control_out.specs.DataOut.{data_out_call}
use Rattle.control_in.specs.DataIn.{data_in_call}
use Rattle.control_accept.specs.Accept.{accept_call, accept_address_call}
use Rattle.control_reject.specs.Reject.{reject_call}
use Rattle.control_take.specs.Take.{take_in_call}
use Rattle.control_take_out.specs.TakeOut.{take_out_call}
use Rattle.interrupt_asks.specs.Settled.{settled}
use Rattle.interrupt_begin.specs.Begin.{interrupt_call}
use Rattle.interrupt_readings.specs.Heard.{heard_link}
use Rattle.interrupt_transfer.specs.Transfers.{status_turn}
use Rattle.interrupt_followers.specs.Followers.{heard_transfer}
use Rattle.interrupt.specs.Interrupt.{answer_call}
use Rattle.usbss.specs.Call.{World, Call}
use Rattle.usbss.specs.Step.{step}
use Rattle.history_ops.specs.Recorded.{given_by, given, recorded}
use Rattle.history_rows.specs.Rows.{Row, rows, final}
use Rattle.history_examples.specs.Example.{driver}

unfoldable pub computed : World → List Call → List Row
unfolding every count change_from div_ceil up_to soundb driver_soundb or_else lowest allocate_check placed allocate_result started_slots start_call power_on_call power_off_call order_call stalled_call enabled_call raise_call poll_call wakeup_call chain_packets chain_bytes out_window windows_ops begin_call report_state report_ops take_call abandon_call send_call sent_call receive_call received_call setup_call data_out_call data_in_call accept_call accept_address_call reject_call take_in_call take_out_call settled interrupt_call heard_link status_turn heard_transfer answer_call step given_by given recorded rows final driver
computed w cs = rows w cs
