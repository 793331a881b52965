-- How long what is written before a reading is.
-- Assumes nothing.
use Rattle.std.specs.Prelude.{◌≤◌, Bool, true, false, cond, [], ◌++◌, length}
use Rattle.std.proofs.Common.{arith}
use Rattle.ops.specs.Numbers as number
use Rattle.ops.specs.Ops.{flat, records}
use Rattle.state.specs.declared.LinkFlags.{LinkFlags}
use Rattle.regs_link.specs.Link.{link_ack_ops, tx_port_cap_ops}
use Rattle.interrupt_asks.specs.Asking.{sent_ops}

pub sent_most : (f : LinkFlags) → length (flat (sent_ops f)) ≤ records 4
sent_most f = go f.link_if_tx_lmp
  where
    go : (b : Bool) → length (flat (cond b (link_ack_ops number.link_if_tx_lmp ++ tx_port_cap_ops) [])) ≤ records 4
    go true = omega arith
    go false = omega arith
