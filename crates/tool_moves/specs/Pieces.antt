-- The numbers of a piece that are printed (docs/REPLAY.md, "What is printed").
-- Assumes nothing.
use Rattle.std.specs.Prelude.{ℕ, ◌+◌, ◌%◌, ◌^◌, min, Bool, true, false, cond, ◌&&◌, Err, Result, Ok}
use Rattle.state.specs.declared.Refusal.{Refusal}
use Rattle.state.specs.declared.Slot.{Slot}
use Rattle.endpoint_choice.specs.Choice.{own_transfer}
use Rattle.endpoint_answer.specs.declared.Move.{Move}
use Rattle.endpoint_answer.specs.declared.Move.TheVariants.{Begun, Busy, More, Ended}
use Rattle.tool_moves.specs.declared.asked.Asked.{Asked}

-- where the caller's bytes stand
abbrev pub place_of : Asked → ℕ
place_of k = (k.address + k.position) % 2 ^ 32

abbrev pub begunb : (Result Move Refusal) → Bool
begunb (Err r) = false
begunb (Ok (Begun n)) = true
begunb (Ok Busy) = false
begunb (Ok (More n)) = false
begunb (Ok (Ended n)) = false

-- a piece was taken
abbrev pub movedb : (Result Move Refusal) → Bool
movedb (Err r) = false
movedb (Ok (Begun n)) = false
movedb (Ok Busy) = false
movedb (Ok (More n)) = true
movedb (Ok (Ended n)) = true

-- how many bytes were copied into the own buffer, and out of it
abbrev pub handed_over : (Result Move Refusal) → Slot → ℕ
handed_over a x = cond (begunb a && own_transfer x) x.transfer.length 0

abbrev pub brought_out : (Result Move Refusal) → Slot → ℕ
brought_out a x = cond (movedb a && own_transfer x) x.transfer.progress 0

-- the value: a send gives none
abbrev pub given_at : Bool → ℕ → ℕ
given_at incoming total = cond incoming 0 (min total 65536)
