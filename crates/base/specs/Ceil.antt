-- Division that rounds up.
-- Assumes nothing.
use Rattle.std.specs.Prelude.{ℕ, ◌+◌, ◌-◌, ◌/◌}

-- shut, so that arithmetic over it sees one number
unfoldable pub div_ceil : ℕ → ℕ → ℕ
div_ceil n m = (n + (m - 1)) / m
