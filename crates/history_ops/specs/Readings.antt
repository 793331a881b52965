-- What an interrupt's reading is to the chains and to the address: the report of a chain's end, the end of a status stage, a
-- bus reset.
-- Assumes nothing.
use Rattle.std.specs.Prelude.{ℕ, Bool, true, false, not, ◌&&◌, cond, eqb, leb, Option, Some, None}
use Rattle.state.specs.declared.LinkState.{LinkState}
use Rattle.state.specs.declared.LinkState.TheVariants as link
use Rattle.state.specs.declared.TransferStatus.{TransferStatus}
use Rattle.state.specs.declared.Awaited.{Awaited}
use Rattle.state.specs.declared.State.{State}
use Rattle.state.specs.Setters.{limit_of}
use Rattle.state_slots.specs.Slots.{slot_of}
use Rattle.transfer_step.specs.Step.{report_step}
use Rattle.interrupt_readings.specs.Matched.{Matched, other, link_flags, link_status, capability, term_status, message, warm_status, transfer_status, setup_bytes, ep0_length, ep0_sequence, chain_packets, last_length}
use Rattle.interrupt_readings.specs.Heard.{capability_due}
use Rattle.history_ops.specs.Recorded.{Recorded, none, handed, follower}

-- ---- chains

-- packets and last length, which of IN aren't looked at
pub record Report : Type 0 where
  pub endpoint : ℕ
  pub incoming : Bool
  pub packets : ℕ
  pub last : ℕ

-- a transfer flagged alone, of IN, of an endpoint 1 to 7
abbrev pub reports_in : TransferStatus → Bool
reports_in t = not t.udif_status && (not t.udif_setup && (t.uif_transfer && (not (eqb t.ep_id 0) && (leb t.ep_id 7 && t.ep_dir))))

abbrev pub in_report : Bool → ℕ → Option Report
in_report due i = cond due (Some (record { endpoint = i; incoming = true; packets = 0; last = 0 })) None

-- of OUT the last length comes last, the endpoint and the packets were read before
abbrev pub report_of : Awaited → Matched → Option Report
report_of a other = None
report_of a (link_flags f) = None
report_of a (link_status r) = None
report_of a (capability b) = None
report_of a (term_status r) = None
report_of a (message w) = None
report_of a (warm_status r) = None
report_of a (transfer_status t) = in_report (reports_in t) t.ep_id
report_of a (setup_bytes b) = None
report_of a (ep0_length n) = None
report_of a (ep0_sequence q) = None
report_of a (chain_packets p) = None
report_of a (last_length n) = Some (record { endpoint = a.endpoint; incoming = false; packets = a.packets; last = n })

-- what a report records: the chain that follows it, if one does
abbrev pub reported : State → Option Report → Bool → ℕ → Recorded
reported s None incoming e = none
reported s (Some r) incoming e =
    handed r.endpoint r.incoming (follower (limit_of s) r.incoming (report_step (limit_of s) r.incoming r.packets r.last (slot_of s r.endpoint r.incoming))) incoming e

-- ---- the address

abbrev pub ends_status : Matched → Bool
ends_status other = false
ends_status (link_flags f) = false
ends_status (link_status r) = false
ends_status (capability b) = false
ends_status (term_status r) = false
ends_status (message w) = false
ends_status (warm_status r) = false
ends_status (transfer_status t) = t.udif_status
ends_status (setup_bytes b) = false
ends_status (ep0_length n) = false
ends_status (ep0_sequence q) = false
ends_status (chain_packets p) = false
ends_status (last_length n) = false

-- a link state that resets the bus
abbrev pub resetting : LinkState → Bool
resetting link.U0 = false
resetting link.U1 = false
resetting link.U2 = false
resetting link.U3 = false
resetting link.DISABLED = false
resetting link.RXDET = true
resetting link.RECOVERY = false
resetting link.HOTRST = true
resetting link.OTHER = false

-- the link's state takes effect where its change is flagged, once the port capability, if that is asked, is known
abbrev pub resets_bus : ℕ → Awaited → Matched → Bool
resets_bus revision a other = false
resets_bus revision a (link_flags f) = false
resets_bus revision a (link_status r) = not (capability_due revision a) && (a.flags.link_if_state_chg && resetting r.link_state)
resets_bus revision a (capability b) = a.flags.link_if_state_chg && resetting a.link_state
resets_bus revision a (term_status r) = false
resets_bus revision a (message w) = false
resets_bus revision a (warm_status r) = r.link_rx_warm_rst
resets_bus revision a (transfer_status t) = false
resets_bus revision a (setup_bytes b) = false
resets_bus revision a (ep0_length n) = false
resets_bus revision a (ep0_sequence q) = false
resets_bus revision a (chain_packets p) = false
resets_bus revision a (last_length n) = false
