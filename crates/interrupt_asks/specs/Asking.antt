-- Which reading an interrupt awaits next, and what is written before it is asked for (document 01, "Registers read in
-- mid-work"). The link's flags decide; a flag is acknowledged before the reading that it leads to. From the last place of
-- the sequence to the first; none is the end of handling.
-- Assumes nothing.
use Rattle.std.specs.Prelude.{true, cond, List, [], ◌++◌, Option, Some, None}
use Rattle.ops.specs.Numbers as number
use Rattle.ops.specs.Ops.{Op}
use Rattle.state.specs.declared.LinkFlags.{LinkFlags}
use Rattle.state.specs.declared.Awaiting.{Awaiting}
use Rattle.state.specs.declared.Awaiting.TheVariants as awaiting
use Rattle.state.specs.declared.Awaited.{Awaited}
use Rattle.regs_link.specs.Link.{link_ack_ops, tx_port_cap_ops, go_disabled_ops, go_rx_det_ops}

-- a warm reset asks for the link's status once more; the transfer status comes last
abbrev pub behind_timeout : LinkFlags → Option Awaiting
behind_timeout f = cond f.link_if_warm_rst (Some awaiting.WarmResetStatus) (Some awaiting.TransferStatus)

abbrev pub behind_timeout_ops : LinkFlags → List Op
behind_timeout_ops f = cond f.link_if_warm_rst (link_ack_ops number.link_if_warm_rst) []

-- a message that timed out takes the link down and ends handling
abbrev pub timeout_ops : List Op
timeout_ops = link_ack_ops number.link_if_rx_lmp_tout ++ (go_disabled_ops true ++ go_rx_det_ops)

abbrev pub behind_message : LinkFlags → Option Awaiting
behind_message f = cond f.link_if_rx_lmp_tout None (behind_timeout f)

abbrev pub behind_message_ops : LinkFlags → List Op
behind_message_ops f = cond f.link_if_rx_lmp_tout timeout_ops (behind_timeout_ops f)

-- a message received
abbrev pub behind_sent : LinkFlags → Option Awaiting
behind_sent f = cond f.link_if_rx_lmp (Some awaiting.MessageWord) (behind_message f)

abbrev pub behind_sent_ops : LinkFlags → List Op
behind_sent_ops f = cond f.link_if_rx_lmp (link_ack_ops number.link_if_rx_lmp) (behind_message_ops f)

-- the port's capability is to be sent
abbrev pub sent_ops : LinkFlags → List Op
sent_ops f = cond f.link_if_tx_lmp (link_ack_ops number.link_if_tx_lmp ++ tx_port_cap_ops) []

abbrev pub behind_term_ops : LinkFlags → List Op
behind_term_ops f = sent_ops f ++ behind_sent_ops f

-- a change of the terminations asks for the link's status once more
abbrev pub behind_change : LinkFlags → Option Awaiting
behind_change f = cond f.link_if_term_pres (Some awaiting.TermPresStatus) (behind_sent f)

abbrev pub behind_change_ops : LinkFlags → List Op
behind_change_ops f = cond f.link_if_term_pres (link_ack_ops number.link_if_term_pres) (behind_term_ops f)

-- another reading awaited, or none, with what is remembered
abbrev pub asked : Awaited → Option Awaiting → Awaited
asked a next = record a { next = next }
