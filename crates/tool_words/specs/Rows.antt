-- The table of words as the code has it: a word, its call, and how many numbers that takes at most.
-- Assumes nothing.
use Rattle.std.specs.Prelude.{ℕ, List, Option, Some, None, map, ◌≡◌}
use Rattle.std.specs.Borrow.{Bor}
use Rattle.std.specs.List.{find}
use Rattle.tool_lines.specs.Line.{sameb}
use Rattle.tool_words.specs.declared.Word.{Word}
use Rattle.tool_words.specs.declared.Word.TheVariants.{Unfit}
use Rattle.tool_words.specs.declared.Meant.{Meant}
use Rattle.tool_words.specs.Words.{bytes, ◌taking◌, Row}

abbrev pub TableRow : Type 0
TableRow = Bor (List ℕ) × Word × ℕ

abbrev pub Shown : Type 0
Shown = List ℕ × Meant

abbrev pub seen : TableRow → Shown
seen row = (row.0.now, row.1 taking row.2)

abbrev pub shown : Row → Shown
shown row = (bytes row.name, row.meant)

abbrev pub meant_by : Option TableRow → Meant
meant_by None = Unfit taking 0
meant_by (Some row) = row.1 taking row.2

-- the first row with this word, and what it says
abbrev pub first_in : List ℕ → List TableRow → Option TableRow
first_in word table = find (λ (row : TableRow). sameb word row.0.now) table

unfoldable pub named_in : List ℕ → List TableRow → Meant
named_in word table = meant_by (first_in word table)

-- the code's table has the rows in their sequence
abbrev pub HasRows : List TableRow → List Row → Type 0
HasRows table rows = map seen table ≡ map shown rows
