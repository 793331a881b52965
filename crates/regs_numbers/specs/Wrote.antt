-- What a function does that adds operations by number to a lent list; and rows of five numbers.
-- Assumes nothing.
use Rattle.std.specs.Prelude.{ℕ, ◌+◌, ◌≡◌, List, [], ◌∷◌, ◌++◌, length, get_or}
use Rattle.std.proofs.lemmas.List.Edits.{sets}
use Rattle.regs_numbers.specs.Ops.{Op, flat, rec, ◌≔◌}

-- the records of `os` stand from `at` up to `r`, and nothing else changed
pub record Wrote (l : List ℕ) (at : ℕ) (os : List Op) (r : ℕ) (l' : List ℕ) : Type 0 where
  pub end : r ≡ at + length (flat os)
  pub list : l' ≡ sets l at (flat os)

-- the record of a row: kind, register, index, field, value
abbrev pub row_record : List ℕ → List ℕ
row_record row = rec (get_or row 0 0) (get_or row 1 0) (get_or row 2 0) (get_or row 3 0 ≔ get_or row 4 0)

abbrev pub row_records : List (List ℕ) → List ℕ
row_records [] = []
row_records (row ∷ rows) = row_record row ++ row_records rows
