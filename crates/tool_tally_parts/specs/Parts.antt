-- The bench behind the endpoints that are put in use, and behind the transfers of endpoint 1.
-- Assumes nothing.
use Rattle.std.specs.Prelude.{true, false}
use Rattle.bus_endpoint.specs.declared.Order.TheVariants.{Enable}
use Rattle.tool_tally_steps.specs.declared.Bench.{Bench}
use Rattle.tool_tally_steps.specs.Steps.{bench_ordered, bench_begun, bench_taken, bench_abandoned, bench_reported, bench_sent, bench_received}

unfoldable pub bench_in_use : Bench → Bench
bench_in_use b =
    bench_ordered 3 false (Enable true)
    (bench_ordered 2 true (Enable true)
    (bench_ordered 1 false (Enable true)
    (bench_ordered 1 true (Enable true) b)))

-- endpoint 1 sends: one is taken, one given up, one left done
unfoldable pub bench_images : Bench → Bench
bench_images b = bench_sent 1 2048 (bench_abandoned 1 true (bench_begun 1 true 300000 (bench_taken 1 true (bench_sent 1 1025 b))))

-- endpoint 1 receives: one that a short packet ends is taken, one is left busy
unfoldable pub bench_answers : Bench → Bench
bench_answers b = bench_received 1 2048 1 1024 (bench_taken 1 false (bench_reported 1 false 9 100 (bench_received 1 4096 2 1024 b)))
