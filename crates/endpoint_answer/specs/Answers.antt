-- The answers of sends and receives, and their numbers.
-- Assumes nothing.
use Rattle.std.specs.Prelude.{ℕ, List, [], ◌∷◌, Ok, Err, Result}
use Rattle.state.specs.declared.Refusal.{Refusal}
use Rattle.state.specs.Refusals.{Check}
use Rattle.state.specs.Numbers.{refusal_number}
use Rattle.endpoint_answer.specs.declared.Move.{Move}
use Rattle.endpoint_answer.specs.declared.Move.TheVariants as move

-- the numbers of an answer: a refusal's; or 0, then 0 for a piece that is under way, 1 for one to be begun from a
-- position, 2 for an end, and the bytes
abbrev pub move_numbers : Result Move Refusal → List ℕ
move_numbers (Err r) = refusal_number r ∷ []
move_numbers (Ok (move.Begun n)) = 0 ∷ 0 ∷ n ∷ []
move_numbers (Ok move.Busy) = 0 ∷ 0 ∷ []
move_numbers (Ok (move.More n)) = 0 ∷ 1 ∷ n ∷ []
move_numbers (Ok (move.Ended n)) = 0 ∷ 2 ∷ n ∷ []

-- a piece of so many bytes was begun, or refused
abbrev pub begun_answer : ℕ → Check → Result Move Refusal
begun_answer n (Err r) = Err r
begun_answer n (Ok u) = Ok (move.Begun n)
