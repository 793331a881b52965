-- A flag of the link layer acknowledged, by number.
-- Assumes nothing.
use Rattle.std.specs.Prelude.{ℕ, List, [], ◌∷◌}
use Rattle.ops.specs.Numbers.{link_int_flag, register_number}
use Rattle.regs_numbers.specs.Ops.{Op, write, ◌≔◌}

-- acknowledges one flag of the link layer
abbrev pub link_ack_ops : ℕ → List Op
link_ack_ops flag = write (register_number link_int_flag) 0 (flag ≔ 1) [] ∷ []
