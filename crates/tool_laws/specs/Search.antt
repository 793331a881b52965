-- Where a byte is found first.
-- Assumes nothing.
use Rattle.std.specs.Prelude.{ℕ, ◌+◌, List, eqb, drop}
use Rattle.std.specs.List.{position_or_len}

-- the first b from `from` on, or the end
abbrev pub seek : List ℕ → ℕ → ℕ → ℕ
seek l from b = from + position_or_len (λ x. eqb x b) (drop from l)
