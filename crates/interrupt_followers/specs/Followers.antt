-- What the transfer status and the readings behind it lead to.
-- Assumes nothing.
use Rattle.std.specs.Prelude.{false, []}
use Rattle.state.specs.declared.State.{State}
use Rattle.transfer_report.specs.Report.{report_state, report_ops}
use Rattle.control_report.specs.Ep0.{setup_received, length_ops, length_received, status_follows, sequence_ops, packet_sent}
use Rattle.interrupt_transfer.specs.Transfers.{Turned, over, asking, last_asked, status_turn}
use Rattle.interrupt_readings.specs.Matched.{Matched, other, link_flags, link_status, capability, term_status, message, warm_status, transfer_status, setup_bytes, ep0_length, ep0_sequence, chain_packets, last_length}

-- a reading that changes nothing
abbrev pub unturned : State → Turned
unturned s = asking s s.awaited []

unfoldable pub heard_transfer : State → Matched → Turned
heard_transfer s other = unturned s
heard_transfer s (link_flags f) = unturned s
heard_transfer s (link_status r) = unturned s
heard_transfer s (capability b) = unturned s
heard_transfer s (term_status r) = unturned s
heard_transfer s (message w) = unturned s
heard_transfer s (warm_status r) = unturned s
heard_transfer s (transfer_status t) = status_turn s t
heard_transfer s (setup_bytes b) = over (setup_received s b) []
heard_transfer s (ep0_length n) = over (length_received s n) length_ops
heard_transfer s (ep0_sequence q) = over (packet_sent s q) (sequence_ops (status_follows s))
heard_transfer s (chain_packets p) = asking s (last_asked s.awaited p) []
heard_transfer s (last_length n) =
    over (report_state s s.awaited.endpoint false s.awaited.packets n) (report_ops s s.awaited.endpoint false s.awaited.packets n)
