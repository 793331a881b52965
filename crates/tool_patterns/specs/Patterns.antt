-- The pattern that fills lent bytes, and the sum of bytes (docs/REPLAY.md).
-- Assumes nothing.
use Rattle.std.specs.Prelude.{ℕ, ◌+◌, ◌*◌, ◌/◌, ◌%◌, ◌^◌, List, length}
use Rattle.std.specs.List.{fold}
use Rattle.base.specs.Each.{change}

-- byte i of a pattern
abbrev pub pattern_byte : ℕ → ℕ → ℕ
pattern_byte pattern i = (pattern + 31 * i + 17 * (i / 256)) % 256

-- all bytes, each by its place
abbrev pub filled : ℕ → List ℕ → List ℕ
filled pattern bytes = change (λ i byte. pattern_byte pattern i) (length bytes) bytes

-- a byte behind those that make up a sum
abbrev pub with_byte : ℕ → ℕ → ℕ
with_byte sum byte = (sum * 31 + byte) % 2 ^ 32

abbrev pub sum_of : List ℕ → ℕ
sum_of bytes = fold with_byte 0 bytes
