-- The pending events.
-- Assumes nothing.
use Rattle.std.specs.Prelude.{ℕ, ◌/◌, ◌%◌, Bool, ◌&&◌, not, eqb}

-- the bits of the four events
abbrev pub reset : ℕ
reset = 1

abbrev pub suspend : ℕ
suspend = 2

abbrev pub resume : ℕ
resume = 4

abbrev pub power : ℕ
power = 8

-- whether the event with bit `flag` is among the pending ones
abbrev pub pendingb : ℕ → ℕ → Bool
pendingb events flag = eqb (events / flag % 2) 1

-- refusal 26: SUSPEND with RESUME
abbrev pub events_soundb : ℕ → Bool
events_soundb events = not (pendingb events suspend && pendingb events resume)
