-- The bench at the start, and behind power and reset.
-- Assumes nothing.
use Rattle.std.specs.Prelude.{replicate}
use Rattle.std.proofs.lemmas.List.Edits.{sets}
use Rattle.ops.specs.Ops.{flat}
use Rattle.state.specs.Fresh.{fresh_state}
use Rattle.regs_device.specs.Device.{bus_reset_ops}
use Rattle.driver_start.specs.Start.{start_call}
use Rattle.bus_reset.specs.Reset.{bus_reset_state}
use Rattle.bus_power_on.specs.PowerOn.{power_on_call}
use Rattle.bus_power_off.specs.PowerOff.{power_off_call}
use Rattle.tool_tally_steps.specs.declared.Bench.{Bench}
use Rattle.tool_tally_steps.specs.Steps.{power_pending, left_by}
use Rattle.tool_tally_bus.specs.Layout.{script_driver}

-- the driver is started, and nothing written
unfoldable pub bench_started : Bench
bench_started = record { list = replicate 640 0; state = (start_call fresh_state power_pending script_driver 512).state }

-- the silicon's revision is 3
unfoldable pub bench_on : Bench → Bench
bench_on b = left_by b (power_on_call 640 b.state power_pending 3)

unfoldable pub bench_off : Bench → Bench
bench_off b = left_by b (power_off_call 640 b.state power_pending)

unfoldable pub bench_reset : Bench → Bench
bench_reset b = record { list = sets b.list 0 (flat (bus_reset_ops b.state.ep0_address)); state = bus_reset_state b.state }
