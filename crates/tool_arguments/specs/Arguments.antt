-- A line's numbers, in the types that the calls take (docs/REPLAY.md, the tables of words).
-- Assumes nothing.
use Rattle.std.specs.Prelude.{ℕ, Bool, List, ltb}
use Rattle.tool_scripts.specs.Script.{number_at, held_to}

-- number k of a line where a byte is taken: one above 255 is 255
abbrev pub byte_at : List ℕ → ℕ → ℕ
byte_at line k = held_to 255 (number_at line k)

-- the same where 16 bits are taken
abbrev pub half_at : List ℕ → ℕ → ℕ
half_at line k = held_to 65535 (number_at line k)

-- whether number k sets a flag: 0 doesn't
abbrev pub flag_at : List ℕ → ℕ → Bool
flag_at line k = ltb 0 (number_at line k)
