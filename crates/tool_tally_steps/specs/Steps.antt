-- The bench that each step of a script leaves: the state, and the list that is lent to the call.
-- Assumes nothing.
use Rattle.std.specs.Prelude.{ℕ, Bool, true, false}
use Rattle.std.proofs.lemmas.List.Edits.{sets}
use Rattle.ops.specs.Ops.{flat}
use Rattle.state.specs.declared.Events.{Events}
use Rattle.state_call.specs.Outcome.{Outcome}
use Rattle.bus_endpoint.specs.declared.Order.{Order}
use Rattle.bus_order.specs.Order.{order_call}
use Rattle.transfer_piece.specs.declared.Piece.{Piece}
use Rattle.transfer_begin.specs.Begin.{begin_call}
use Rattle.transfer_take.specs.Take.{take_call}
use Rattle.transfer_abandon.specs.Abandon.{abandon_call}
use Rattle.tool_reports.specs.Reported.{reported, list_reported}
use Rattle.tool_tally_steps.specs.declared.Bench.{Bench}

-- the power alone is pending, throughout
abbrev pub power_pending : Events
power_pending = record { events = 8 }

-- behind a call that is lent the list
abbrev pub left_by : {A : Type 0} → Bench → Outcome A → Bench
left_by b called = record { list = sets b.list 0 (flat called.ops); state = called.state }

-- an order to an endpoint
unfoldable pub bench_ordered : ℕ → Bool → Order → Bench → Bench
bench_ordered e incoming o b = left_by b (order_call 640 b.state power_pending e incoming o)

-- a transfer begun, whose buffer lies where all do
abbrev pub piece_of : ℕ → Piece
piece_of length = record { address = 0x200B_0000; length = length; zlp = false }

unfoldable pub bench_begun : ℕ → Bool → ℕ → Bench → Bench
bench_begun e incoming length b = left_by b (begin_call 640 b.state power_pending e incoming (piece_of length) false false)

-- a transfer taken, with room for any number of bytes; no list is lent
unfoldable pub bench_taken : ℕ → Bool → Bench → Bench
bench_taken e incoming b = record b { state = (take_call b.state power_pending e incoming false 0xFFFF_FFFF).state }

-- a transfer given up
unfoldable pub bench_abandoned : ℕ → Bool → Bench → Bench
bench_abandoned e incoming b = left_by b (abandon_call 640 b.state power_pending e incoming)

-- the end of a chain, reported by an interrupt
unfoldable pub bench_reported : ℕ → Bool → ℕ → ℕ → Bench → Bench
bench_reported e incoming packets last b =
    record {
      list = list_reported b.state power_pending e incoming packets last b.list;
      state = (reported b.state power_pending e incoming packets last).state;
    }

-- a transfer whose first chain has ended
abbrev pub bench_sent : ℕ → ℕ → Bench → Bench
bench_sent e length b = bench_reported e true 0 0 (bench_begun e true length b)

abbrev pub bench_received : ℕ → ℕ → ℕ → ℕ → Bench → Bench
bench_received e length packets last b = bench_reported e false packets last (bench_begun e false length b)
