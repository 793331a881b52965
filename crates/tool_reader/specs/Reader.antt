-- The lines of lent bytes: "a line reader over the lent bytes keeps the bytes and its position" (document 01, the listing).
-- Assumes nothing.
use Rattle.std.specs.Prelude.{ℕ, ◌+◌, cond, ltb, List, length, Option, Some, None}
use Rattle.std.specs.List.{slice_range}
use Rattle.tool_lines.specs.Line.{line_end}
use Rattle.tool_reader.specs.declared.Line.{Line}

-- the line that begins at a position and ends before the next line feed; none where no line feed follows
abbrev pub whole_line : List ℕ → ℕ → Option (List ℕ)
whole_line bytes from = cond (ltb (line_end bytes from) (length bytes)) (Some (slice_range bytes from (line_end bytes from))) None

-- where the next line begins, behind that line feed; without one the position stays
abbrev pub behind_line : List ℕ → ℕ → ℕ
behind_line bytes from = cond (ltb (line_end bytes from) (length bytes)) (line_end bytes from + 1) from

-- where that line lies, and where the next one begins
abbrev pub line_from : List ℕ → ℕ → Option Line
line_from bytes from =
    cond (ltb (line_end bytes from) (length bytes))
    (Some (record { start = from; stop = line_end bytes from; next = line_end bytes from + 1 }))
    None
