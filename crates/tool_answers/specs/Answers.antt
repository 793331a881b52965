-- What is printed of an answer (docs/REPLAY.md, "What is printed").
-- Assumes nothing.
use Rattle.std.specs.Prelude.{ℕ, List, [], ◌∷◌, ◌++◌, Result, Ok, Err, codes}
use Rattle.base.specs.Bits.{bit}
use Rattle.state.specs.declared.Refusal.{Refusal}
use Rattle.state.specs.declared.Wakes.{Wakes}
use Rattle.state.specs.Numbers.{refusal_number}
use Rattle.tool_print.specs.Text.{tab, line_feed, row}

-- a refusal's number and no value, or 0 and the value
abbrev pub answer_numbers : Result ℕ Refusal → ℕ × ℕ
answer_numbers (Err r) = (refusal_number r, 0)
answer_numbers (Ok value) = (0, value)

-- both, and whom the call wakes: the bus, and the slots of a set
abbrev pub answer_text : Result ℕ Refusal → Wakes → List ℕ
answer_text said wakes = row (codes "answer") ((answer_numbers said).0 ∷ (answer_numbers said).1 ∷ bit wakes.bus ∷ wakes.slots ∷ [])

-- a take that has to wait
abbrev pub busy_text : List ℕ
busy_text = row (codes "answer" ++ tab ++ codes "busy") (0 ∷ 0 ∷ 0 ∷ [])

-- a send or receive that went on to its next piece
abbrev pub more_text : Wakes → List ℕ
more_text wakes = row (codes "answer" ++ tab ++ codes "more") (0 ∷ bit wakes.bus ∷ wakes.slots ∷ [])

-- an allocation that is refused, with one error for its five numbers
abbrev pub not_allocated_text : List ℕ
not_allocated_text = row (codes "answer" ++ tab ++ codes "refused") (0 ∷ 0 ∷ 0 ∷ [])

-- a line that can't be read
abbrev pub unfit_text : List ℕ
unfit_text = codes "unfit" ++ line_feed
