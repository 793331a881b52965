-- The bench behind the transfers of the endpoints 2 and 3, and of all.
-- Assumes nothing.
use Rattle.std.specs.Prelude.{true, false}
use Rattle.bus_endpoint.specs.declared.Order.TheVariants.{Enable, Stall}
use Rattle.tool_tally_steps.specs.declared.Bench.{Bench}
use Rattle.tool_tally_steps.specs.Steps.{bench_ordered, bench_begun, bench_taken, bench_sent, bench_received}
use Rattle.tool_tally_parts.specs.Parts.{bench_images, bench_answers}

-- endpoint 2 sends: one is stalled, one taken
unfoldable pub bench_small_in : Bench → Bench
bench_small_in b =
    bench_taken 2 true (bench_sent 2 64 (bench_ordered 2 true (Stall false) (bench_ordered 2 true (Stall true) (bench_begun 2 true 640 b))))

-- endpoint 3 receives: one is taken, one is disabled while it is done
unfoldable pub bench_small_out : Bench → Bench
bench_small_out b = bench_ordered 3 false (Enable false) (bench_received 3 32 1 3 (bench_taken 3 false (bench_received 3 160 10 16 b)))

unfoldable pub bench_transfers : Bench → Bench
bench_transfers b = bench_small_out (bench_small_in (bench_answers (bench_images b)))
