-- All that the rows of a transfer are judged by, under one name.
-- Assumes nothing.
use Rattle.std.specs.Prelude.{ℕ, Bool, List}
use Rattle.base.specs.Ceil.{div_ceil}
use Rattle.transfer_piece.specs.declared.Piece.{Piece}
use Rattle.history_ideal.specs.Ideal.{Ideal, full, chain_count, data_chain, start_of, bytes_of, chain_in, ideal_in, packets_left, sum_with, tally_more, tally_next, tally, ideal_out, ideal}
use Rattle.history_ideal.specs.Plan.{handed}
use Rattle.history_ops.specs.Recorded.{given_by, given, recorded}
use Rattle.history_rows.specs.Rows.{Row}
use Rattle.history_rows.specs.Memory.{Memory}
use Rattle.history_memory.specs.Sequence.{behind_place, follows}
use Rattle.history_memory.specs.Remembered.{remembered, recall}
use Rattle.history_effect.specs.Seen.{seen}
use Rattle.history_runs.specs.Runs.{FreeNext, Free, told, Next, Goes, Transfer}

unfoldable pub judged : ℕ → Bool → Ideal → Piece → Memory → List Row → Type 0
unfolding div_ceil full chain_count data_chain start_of bytes_of chain_in ideal_in packets_left sum_with tally_more tally_next tally ideal_out ideal handed given_by given recorded behind_place follows remembered recall seen FreeNext Free told Next Goes Transfer
judged e incoming i p m rs = Transfer e incoming i p m rs
