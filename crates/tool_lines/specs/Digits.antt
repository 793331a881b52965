-- A field's digits, read one after the other.
-- Assumes nothing.
use Rattle.std.specs.Prelude.{ℕ, ◌-◌, cond, ◌≡◌, Option, Some, None, drop}
use mathlib.Core.List.{List, foldl}
use Rattle.tool_lines.specs.Line.{digitb, allb, with_digit, decimal, numberb}

-- what a digit counts
abbrev pub digit_of : ℕ → Option ℕ
digit_of b = cond (digitb b) (Some (b - 48)) None

-- a field's number, 0 where it is none
abbrev pub value_of : List ℕ → ℕ
value_of field = cond (numberb field) (decimal field) 0

abbrev pub number_of : List ℕ → Option ℕ
number_of field = cond (numberb field) (Some (decimal field)) None

-- what is left of a field from byte i on decides on the whole, after digits that make up v
pub record Reading (field : List ℕ) (i v : ℕ) : Type 0 where
  pub digits : allb digitb field ≡ allb digitb (drop i field)
  pub number : decimal field ≡ foldl with_digit v (drop i field)
