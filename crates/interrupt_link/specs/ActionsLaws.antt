-- How long what the link's part writes is.
-- Assumes nothing.
use Rattle.std.specs.Prelude.{ℕ, ◌/◌, ◌%◌, ◌^◌, ◌≤◌, Bool, true, false, ◌&&◌, cond, List, [], eqb, ltb, length}
use Rattle.std.proofs.Common.{arith}
use Rattle.ops.specs.Ops.{Op, flat, records}
use Rattle.ops.specs.Sequence.{up_to}
use Rattle.state.specs.declared.LinkState.{LinkState}
use Rattle.state.specs.declared.LinkState.TheVariants as link
use Rattle.regs_link.specs.Link.{link_power_allow_ops, tx_port_cap_ops, tx_port_cfg_res_ops, tx_cap_vld_ops, u2_timer_ops}
use Rattle.interrupt_link.specs.Actions.{changed_ops, lmp_subtype, message_ops}

-- one of two lists
pub either_most : (b : Bool) (x y : List Op) (n : ℕ) → length (flat x) ≤ n → length (flat y) ≤ n → length (flat (cond b x y)) ≤ n
either_most true x y n h k = h
either_most false x y n h k = k

-- a change of the link's state, its flag acknowledged
pub changed_most : (flag : Bool) (l : LinkState) (ep0 : ℕ) (low : Bool) → length (flat (changed_ops flag l ep0 low)) ≤ records 85
unfolding up_to
changed_most false l ep0 low = omega arith
changed_most true link.U0 ep0 low = omega arith
changed_most true link.U1 ep0 low = omega arith
changed_most true link.U2 ep0 low = omega arith
changed_most true link.U3 ep0 low = omega arith
changed_most true link.DISABLED ep0 low = omega arith
changed_most true link.RXDET ep0 low = omega arith
changed_most true link.RECOVERY ep0 true = omega arith
changed_most true link.RECOVERY ep0 false = omega arith
changed_most true link.HOTRST ep0 low = omega arith
changed_most true link.OTHER ep0 low = omega arith

-- the answer to a message
pub message_most : (revision word : ℕ) → length (flat (message_ops revision word)) ≤ records 4
message_most revision word =
    go (eqb (lmp_subtype word) 4) (eqb (lmp_subtype word) 5) (eqb (lmp_subtype word) 6) (eqb (lmp_subtype word) 2) (eqb (lmp_subtype word) 1 && ltb revision 3)
  where
    go : (a b c d e : Bool)
        → length (flat (cond a tx_port_cap_ops (cond b tx_port_cfg_res_ops (cond c tx_cap_vld_ops (cond d (u2_timer_ops (word / 2 ^ 9 % 2 ^ 8)) (cond e (link_power_allow_ops (eqb (word / 2 ^ 10 % 2) 1)) []))))))
        ≤ records 4
    go true b c d e = omega arith
    go false true c d e = omega arith
    go false false true d e = omega arith
    go false false false true e = omega arith
    go false false false false true = omega arith
    go false false false false false = omega arith
