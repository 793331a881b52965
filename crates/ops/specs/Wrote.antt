-- What a function does that adds operations to a lent list; and rows, the form in which it hands them in.
-- Assumes nothing.
use Rattle.std.specs.Prelude.{ℕ, ◌+◌, ◌≡◌, List, [], ◌∷◌, ◌++◌, length}
use Rattle.std.proofs.lemmas.List.Edits.{sets}
use Rattle.ops.specs.declared.numbers.Kind.{Kind}
use Rattle.ops.specs.declared.numbers.Register.{Register}
use Rattle.ops.specs.declared.numbers.Field.{Field}
use Rattle.ops.specs.Ops.{Op, flat, rec, ◌≔◌}

-- the records of `os` stand from `at` up to `r`, and nothing else changed
pub record Wrote (l : List ℕ) (at : ℕ) (os : List Op) (r : ℕ) (l' : List ℕ) : Type 0 where
  pub end : r ≡ at + length (flat os)
  pub list : l' ≡ sets l at (flat os)

-- a row: kind, register, index, field, value
abbrev pub Row : Type 0
Row = Kind × Register × ℕ × Field × ℕ

-- its record
abbrev pub row_record : Row → List ℕ
row_record row = rec row.0 row.1 row.2 (row.3 ≔ row.4)

abbrev pub row_records : List Row → List ℕ
row_records [] = []
row_records (row ∷ rows) = row_record row ++ row_records rows
