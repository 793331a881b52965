-- A line's fields, each found behind the one before.
-- Assumes nothing.
use Rattle.std.specs.Prelude.{ℕ, Bool, cond, List, [], ◌≡◌, leb, length, drop}
use Rattle.tool_lines.specs.Line.{fields, numberb}
use Rattle.tool_lines.specs.Digits.{value_of}
use Rattle.tool_lines.specs.Fields.{first_field}

-- the fields from the one that begins at `from` on; none behind the end
unfoldable pub rest : List ℕ → ℕ → List (List ℕ)
rest line from = cond (leb from (length line)) (fields (drop from line)) []

-- a number, or that there is none, and where the field behind its own begins
pub record NumberAt : Type 0 where
  pub fits : Bool
  pub value : ℕ
  pub next : ℕ

-- a field read as a number
pub record ReadAt (line : List ℕ) (from : ℕ) (number : NumberAt) : Type 0 where
  pub fits : number.fits ≡ numberb (first_field (rest line from))
  pub value : number.value ≡ value_of (first_field (rest line from))
  pub behind : rest line number.next ≡ drop 1 (rest line from)
