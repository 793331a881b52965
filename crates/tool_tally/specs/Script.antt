-- The state that the whole script leaves.
-- Assumes nothing.
use Rattle.std.specs.Prelude.{true}
use Rattle.state.specs.declared.State.{State}
use Rattle.bus_endpoint.specs.declared.Order.TheVariants.{Enable}
use Rattle.tool_tally_steps.specs.declared.Bench.{Bench}
use Rattle.tool_tally_steps.specs.Steps.{bench_ordered, bench_begun}
use Rattle.tool_tally_bus.specs.Bus.{bench_started, bench_on, bench_off, bench_reset}
use Rattle.tool_tally_parts.specs.Parts.{bench_in_use}
use Rattle.tool_tally_small.specs.Small.{bench_transfers}

-- behind a bus reset endpoint 2 begins anew
unfoldable pub bench_anew : Bench → Bench
bench_anew b = bench_begun 2 true 100 (bench_ordered 2 true (Enable true) (bench_reset b))

unfoldable pub script_state : State
script_state = (bench_off (bench_anew (bench_transfers (bench_in_use (bench_on bench_started))))).state
