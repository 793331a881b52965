-- What each reading of the link leads to, in the sequence of document 01.
-- Assumes nothing.
use Rattle.std.specs.Prelude.{ℕ, Bool, ◌&&◌, cond, List, [], ◌++◌, leb, Option, Some}
use Rattle.ops.specs.Numbers as number
use Rattle.ops.specs.Ops.{Op}
use Rattle.state.specs.declared.LinkFlags.{LinkFlags}
use Rattle.state.specs.declared.LinkState.{LinkState}
use Rattle.state.specs.declared.Awaiting.{Awaiting}
use Rattle.state.specs.declared.Awaiting.TheVariants as awaiting
use Rattle.state.specs.declared.Awaited.{Awaited}
use Rattle.state.specs.declared.Reading.{Reading}
use Rattle.state.specs.Fresh.{nothing_awaited}
use Rattle.regs_link.specs.Link.{link_power_allow_ops, link_ack_ops}
use Rattle.interrupt_link.specs.declared.LinkEffect.{LinkEffect}
use Rattle.interrupt_link.specs.Actions.{changed, changed_ops, term_present, message_ops, warmed, warmed_ops}
use Rattle.interrupt_asks.specs.declared.Sight.{Sight}
use Rattle.interrupt_asks.specs.Turns.{Heard}
use Rattle.interrupt_asks.specs.Asking.{behind_message, behind_message_ops, behind_sent, behind_term_ops, behind_change, behind_change_ops, asked}
use Rattle.interrupt_readings.specs.Matched.{Matched, other, link_flags, link_status, capability, term_status, message, warm_status, transfer_status, setup_bytes, ep0_length, ep0_sequence, chain_packets, last_length, matched_as}

-- the flags are remembered until handling ends
abbrev pub flagged : LinkFlags → Awaited
flagged f = record { next = Some awaiting.LinkStatus; flags = f; link_state = nothing_awaited.link_state; endpoint = 0; packets = 0 }

-- and so is the link's state
abbrev pub seeing : Awaited → LinkState → Awaited
seeing a l = record a { link_state = l }

-- a change of the link's state, and what follows
abbrev pub from_change : ℕ → Awaited → LinkState → LinkEffect → List Op → Heard LinkEffect
from_change ep0 a l f before =
    record {
      effect = changed a.flags.link_if_state_chg l f;
      awaited = asked a (behind_change a.flags);
      ops = before ++ (changed_ops a.flags.link_if_state_chg l ep0 f.low_power ++ behind_change_ops a.flags);
    }

-- silicon from revision 3 on reports Set Link Function by a flag, and what was set by the port capability
abbrev pub capability_due : ℕ → Awaited → Bool
capability_due revision a = leb 3 revision && a.flags.link_if_rx_set_fc

abbrev pub status_heard : ℕ → ℕ → Awaited → LinkEffect → LinkState → Heard LinkEffect
status_heard ep0 revision a f l =
    cond (capability_due revision a)
    (record { effect = f; awaited = asked (seeing a l) (Some awaiting.PortCapability); ops = link_ack_ops number.link_if_rx_set_fc })
    (from_change ep0 (seeing a l) l f [])

abbrev pub unheard : Awaited → LinkEffect → Heard LinkEffect
unheard a f = record { effect = f; awaited = a; ops = [] }

unfoldable pub heard_link : ℕ → ℕ → Awaited → LinkEffect → Matched → Heard LinkEffect
heard_link ep0 revision a f other = unheard a f
heard_link ep0 revision a f (link_flags g) = record { effect = f; awaited = flagged g; ops = [] }
heard_link ep0 revision a f (link_status r) = status_heard ep0 revision a f r.link_state
heard_link ep0 revision a f (capability b) = from_change ep0 a a.link_state f (link_power_allow_ops b)
heard_link ep0 revision a f (term_status r) =
    record { effect = term_present r.link_rx_term_pres f; awaited = asked a (behind_sent a.flags); ops = behind_term_ops a.flags }
heard_link ep0 revision a f (message w) =
    record { effect = f; awaited = asked a (behind_message a.flags); ops = message_ops revision w ++ behind_message_ops a.flags }
heard_link ep0 revision a f (warm_status r) =
    record { effect = warmed r.link_rx_warm_rst f; awaited = asked a (Some awaiting.TransferStatus); ops = warmed_ops r.link_rx_warm_rst ep0 }
heard_link ep0 revision a f (transfer_status t) = unheard a f
heard_link ep0 revision a f (setup_bytes b) = unheard a f
heard_link ep0 revision a f (ep0_length n) = unheard a f
heard_link ep0 revision a f (ep0_sequence q) = unheard a f
heard_link ep0 revision a f (chain_packets p) = unheard a f
heard_link ep0 revision a f (last_length n) = unheard a f

-- a reading that is taken, by what is awaited
abbrev pub link_heard : Sight → LinkEffect → Option Awaiting → Reading → Heard LinkEffect
link_heard g f next r = heard_link g.ep0 g.revision g.awaited f (matched_as next r)
