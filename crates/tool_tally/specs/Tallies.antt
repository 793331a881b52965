-- What the script has moved.
-- Assumes nothing.
use Rattle.std.specs.Prelude.{ℕ, suc, cond, List, [], ◌∷◌}
use Rattle.state.specs.declared.Tally.{Tally}
use Rattle.state.specs.declared.Slot.{Slot}
use Rattle.state.specs.declared.State.{State}
use Rattle.state_slots.specs.Slots.{configured}

-- the configured slots by number, the first of the list being number i, each with its tally
abbrev pub tallies_from : ℕ → List Slot → List (ℕ × Tally)
tallies_from i [] = []
tallies_from i (x ∷ l) = cond (configured x.config) ((i, x.tally) ∷ tallies_from (suc i) l) (tallies_from (suc i) l)

abbrev pub tallies_of : State → List (ℕ × Tally)
tallies_of s = tallies_from 0 s.endpoints

-- transfers begun, finished and cut, and the bytes moved
abbrev pub tally : ℕ → ℕ → ℕ → ℕ → Tally
tally begun finished cut bytes = record { begun = begun; finished = finished; cut = cut; bytes = bytes }

abbrev pub script_tallies : List (ℕ × Tally)
script_tallies =
    (2, tally 2 1 1 4196)
    ∷ (3, tally 3 1 2 264193)
    ∷ (5, tally 3 1 2 804)
    ∷ (6, tally 2 1 1 163)
    ∷ (9, tally 0 0 0 0)
    ∷ []
