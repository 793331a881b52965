-- What a line's data stage is lent (docs/REPLAY.md, "Control").
-- Assumes nothing.
use Rattle.std.specs.Prelude.{ℕ, List, min, take, replicate}
use Rattle.tool_scripts.specs.Script.{number_at}
use Rattle.tool_patterns.specs.Patterns.{filled}

-- the bytes to be sent: as many as the line's third number says, of its pattern. 513 are as much too long as any more.
abbrev pub bytes_lent : List ℕ → List ℕ
bytes_lent line = take (min (number_at line 2) 513) (filled (number_at line 5) (replicate 513 0))
