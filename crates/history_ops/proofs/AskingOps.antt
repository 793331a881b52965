-- What an interrupt writes before it asks for a reading: it records no chain and leaves the address.
-- Assumes nothing.
use Rattle.std.specs.Prelude.{[], ◌++◌, refl}
use Rattle.ops.specs.Numbers as number
use Rattle.state.specs.declared.LinkFlags.{LinkFlags}
use Rattle.regs_link.specs.Link.{link_ack_ops, tx_port_cap_ops}
use Rattle.interrupt_asks.specs.Asking.{behind_timeout_ops, timeout_ops, behind_message_ops, behind_sent_ops, sent_ops, behind_term_ops, behind_change_ops}
use Rattle.history_ops.specs.Touched.{touches, Quiet}
use Rattle.history_ops.proofs.TouchedLaws.{quiet_untouched, quiet_none, quiet_append, quiet_cond}
use Rattle.history_ops.proofs.LinkOps.{link_ack_quiet, tx_port_cap_quiet}

pub timeout_quiet : Quiet timeout_ops
unfolding touches
timeout_quiet = quiet_untouched timeout_ops refl

module _ (f : LinkFlags) where
  pub behind_timeout_quiet : Quiet (behind_timeout_ops f)
  behind_timeout_quiet = quiet_cond f.link_if_warm_rst (link_ack_ops number.link_if_warm_rst) [] (link_ack_quiet number.link_if_warm_rst) quiet_none

  pub behind_message_quiet : Quiet (behind_message_ops f)
  behind_message_quiet = quiet_cond f.link_if_rx_lmp_tout timeout_ops (behind_timeout_ops f) timeout_quiet behind_timeout_quiet

  pub behind_sent_quiet : Quiet (behind_sent_ops f)
  behind_sent_quiet =
      quiet_cond f.link_if_rx_lmp (link_ack_ops number.link_if_rx_lmp) (behind_message_ops f) (link_ack_quiet number.link_if_rx_lmp) behind_message_quiet

  pub sent_quiet : Quiet (sent_ops f)
  sent_quiet =
      quiet_cond f.link_if_tx_lmp (link_ack_ops number.link_if_tx_lmp ++ tx_port_cap_ops) []
      (quiet_append (link_ack_ops number.link_if_tx_lmp) tx_port_cap_ops (link_ack_quiet number.link_if_tx_lmp) tx_port_cap_quiet) quiet_none

  pub behind_term_quiet : Quiet (behind_term_ops f)
  behind_term_quiet = quiet_append (sent_ops f) (behind_sent_ops f) sent_quiet behind_sent_quiet

  pub behind_change_quiet : Quiet (behind_change_ops f)
  behind_change_quiet =
      quiet_cond f.link_if_term_pres (link_ack_ops number.link_if_term_pres) (behind_term_ops f) (link_ack_quiet number.link_if_term_pres) behind_term_quiet
