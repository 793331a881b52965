-- The tallies that the script comes to, computed.
-- Assumes nothing.
use Rattle.std.specs.Prelude.{◌≡◌, refl}
use Rattle.base.specs.Each.{every, change_from}
use Rattle.base.specs.Ceil.{div_ceil}
use Rattle.state_sound.specs.Sound.{soundb, driver_soundb, configb, useb, transferb, outb, busy_clausesb, slotb, ownb, awaitedb, memoryb, slotsb, allocationsb}
use Rattle.state_call.specs.Outcome.{or_else}
use Rattle.driver_allocate.specs.Rules.{lowest}
use Rattle.driver_allocate.specs.Allocate.{allocate_check, placed, allocate_result}
use Rattle.driver_start.specs.Start.{started_slots, start_call}
use Rattle.bus_power_on.specs.PowerOn.{power_on_call}
use Rattle.bus_power_off.specs.PowerOff.{power_off_call}
use Rattle.bus_order.specs.Order.{order_call}
use Rattle.transfer_begin.specs.Begin.{begin_call}
use Rattle.transfer_take.specs.Take.{take_call}
use Rattle.transfer_abandon.specs.Abandon.{abandon_call}
use Rattle.transfer_report.specs.Report.{report_state}
use Rattle.transfer_chain.specs.Chains.{chain_packets, chain_bytes}
use Rattle.interrupt_asks.specs.Settled.{settled}
use Rattle.interrupt_begin.specs.Begin.{interrupt_call}
use Rattle.interrupt_transfer.specs.Transfers.{status_turn}
use Rattle.interrupt_readings.specs.Heard.{heard_link}
use Rattle.interrupt_followers.specs.Followers.{heard_transfer}
use Rattle.interrupt.specs.Interrupt.{answer_call}
use Rattle.usbss.specs.Step.{step}
use Rattle.tool_reports.specs.Reported.{begun, heard, chained}
use Rattle.tool_tally_bus.specs.Layout.{driver_also, script_driver}
use Rattle.tool_tally_bus.specs.Bus.{bench_started, bench_on, bench_off, bench_reset}
use Rattle.tool_tally_steps.specs.Steps.{bench_ordered, bench_begun, bench_taken, bench_abandoned, bench_reported}
use Rattle.tool_tally_parts.specs.Parts.{bench_in_use, bench_images, bench_answers}
use Rattle.tool_tally_small.specs.Small.{bench_small_in, bench_small_out, bench_transfers}
use Rattle.tool_tally.specs.Script.{bench_anew, script_state}
use Rattle.tool_tally.specs.Tallies.{tallies_of, script_tallies}

pub tallied : tallies_of script_state ≡ script_tallies
unfolding script_driver driver_also allocate_result allocate_check placed lowest driver_soundb allocationsb memoryb configb or_else every bench_on bench_started power_on_call start_call started_slots change_from soundb ownb awaitedb slotsb slotb useb transferb outb busy_clausesb bench_ordered order_call bench_begun begin_call bench_taken take_call bench_abandoned abandon_call bench_reported begun heard chained step interrupt_call answer_call settled heard_link heard_transfer status_turn report_state chain_packets chain_bytes div_ceil bench_in_use bench_images bench_answers bench_small_in bench_small_out bench_transfers bench_anew script_state bench_off power_off_call bench_reset
tallied = refl
