-- The world behind a step of an interrupt (docs/REPLAY.md, "Interrupts by their readings").
-- Assumes nothing.
use Rattle.std.specs.Prelude.{ℕ, List, Option, Some, None}
use Rattle.std.proofs.lemmas.List.Edits.{sets}
use Rattle.ops.specs.Ops.{flat}
use Rattle.state.specs.declared.Reading.{Reading}
use Rattle.state_call.specs.Outcome.{Outcome}
use Rattle.interrupt.specs.Interrupt.{answer_call}
use Rattle.world.specs.declared.World.{World}

-- a call leaves its state and its events, and the driver in the making as it was
abbrev pub left_by : {A : Type 0} → World → Outcome A → World
left_by w o = record w { state = o.state; events = o.events }

-- nothing is done where there is no reading
abbrev pub world_heard : World → Option Reading → World
world_heard w (Some reading) = left_by w (answer_call 640 w.state w.events reading)
world_heard w None = w

-- and the list that is lent stays as it is
abbrev pub list_heard : World → Option Reading → List ℕ → List ℕ
list_heard w (Some reading) l = sets l 0 (flat (answer_call 640 w.state w.events reading).ops)
list_heard w None l = l
