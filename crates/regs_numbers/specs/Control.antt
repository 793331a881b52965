-- What endpoint 0 answers, and a flag of `status` acknowledged, by number.
-- Assumes nothing.
use Rattle.std.specs.Prelude.{ℕ, List, [], ◌∷◌}
use Rattle.ops.specs.Numbers as n
use Rattle.ops.specs.Numbers.{register_number, field_number}
use Rattle.regs_numbers.specs.Ops.{Op, write, ◌≔◌}

-- what a direction answers from now on
abbrev pub ep0_tx_answer_ops : ℕ → List Op
ep0_tx_answer_ops answer = write (register_number n.uep0_tx_ctrl) 0 (field_number n.ep0_tx_res ≔ answer) [] ∷ []

abbrev pub ep0_rx_answer_ops : ℕ → List Op
ep0_rx_answer_ops answer = write (register_number n.uep0_rx_ctrl) 0 (field_number n.ep0_rx_res ≔ answer) [] ∷ []

-- acknowledges one flag of `status`: SETUP received, or the status stage ended
abbrev pub status_ack_ops : ℕ → List Op
status_ack_ops flag = write (register_number n.status) 0 (flag ≔ 1) [] ∷ []
