-- Which registers a list of operations works on: a test that tells of most lists that they record no chain and leave the address
-- all along.
-- Assumes nothing.
use Rattle.std.specs.Prelude.{Bool, false, ◌||◌, List, [], ◌∷◌}
use Rattle.ops.specs.declared.numbers.Register.{Register}
use Rattle.ops.specs.Numbers as n
use Rattle.ops.specs.Ops.{Op, write, modify, modify_if_differs, wait, clear_bits}
use Rattle.history_ops.specs.Recorded.{same_register, Silent}
use Rattle.history_ops.specs.Held.{Keeps}

abbrev pub target : Op → Register
target (write q i s ss) = q
target (modify q i s ss) = q
target (modify_if_differs q i s) = q
target (wait k) = n.delay
target (clear_bits q i s) = q

abbrev pub among : List Register → Register → Bool
among [] q = false
among (r ∷ rs) q = same_register q r || among rs q

-- whether one of them works on one of these registers
unfoldable pub touches : List Register → List Op → Bool
touches rs [] = false
touches rs (o ∷ os) = among rs (target o) || touches rs os

-- a chain's, of either direction
abbrev pub chain_registers : List Register
chain_registers = n.tx_dma ∷ n.tx_chain_exp_nump ∷ n.tx_chain_len ∷ n.rx_dma ∷ n.rx_chain_max_nump ∷ []

abbrev pub address_registers : List Register
address_registers = n.usbss_ctrl ∷ []

abbrev pub both_registers : List Register
both_registers = n.usbss_ctrl ∷ chain_registers

-- no chain, and the address stays, behind each operation
pub record Quiet (ops : List Op) : Type 0 where
  pub silent : Silent ops
  pub keeps : Keeps ops
