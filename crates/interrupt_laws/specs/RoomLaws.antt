-- No list of an interrupt takes over 94 records, of the 128 that there is room for; one takes 94.
-- Assumes nothing.
use Rattle.std.specs.Prelude.{ℕ, ◌+◌, ◌≤◌, Bool, true, false, cond, List, [], ◌++◌, ◌≡◌, refl, eqb, leb, length, Err, Option, Some, Result}
use Rattle.std.proofs.Common.{sym, arith, length-append}
use Rattle.base.specs.Each.{every}
use Rattle.ops.specs.Numbers as number
use Rattle.ops.specs.Ops.{Op, flat, records, list_numbers}
use Rattle.ops.specs.OpsLaws.{flat_append}
use Rattle.ops.specs.Sequence.{up_to}
use Rattle.regs_link.specs.Link.{link_power_allow_ops, link_ack_ops, go_disabled_ops, delay_ops}
use Rattle.regs_device.specs.DeviceLaws.{bus_reset_length}
use Rattle.regs_device.specs.Device.{bus_reset_ops}
use Rattle.regs_endpoint.specs.Endpoint.{chain_ack_ops}
use Rattle.state.specs.declared.LinkFlags.{LinkFlags}
use Rattle.state.specs.declared.LinkState.{LinkState}
use Rattle.state.specs.declared.LinkState.TheVariants as link
use Rattle.state.specs.declared.Awaiting.{Awaiting}
use Rattle.state.specs.declared.Awaiting.TheVariants as awaiting
use Rattle.state.specs.declared.Awaited.{Awaited}
use Rattle.state.specs.declared.Reading.{Reading}
use Rattle.state.specs.declared.Reading.TheVariants as reading
use Rattle.state.specs.declared.TransferStatus.{TransferStatus}
use Rattle.state.specs.declared.State.{State}
use Rattle.state.specs.declared.Events.{Events}
use Rattle.state.specs.declared.Refusal.{Refusal}
use Rattle.state.specs.Awaiting.{awaiting_number}
use Rattle.state.specs.Refusals.{first_refusal}
use Rattle.state.specs.Setters.{limit_of, with_awaited}
use Rattle.state_slots.specs.Slots.{slot_of}
use Rattle.state_sound.specs.Sound.{soundb}
use Rattle.state_sound.proofs.FaultLaws.{running, no_events}
use Rattle.state_call.specs.Outcome.{Outcome, or_else, refusal}
use Rattle.state_call.specs.OutcomeLaws.{or_either}
use Rattle.transfer_chain.specs.ChainsLaws.{queue_most}
use Rattle.transfer_chain.specs.Chains.{queue_ops}
use Rattle.transfer_window.specs.Window.{own_window_ops}
use Rattle.transfer_step.specs.declared.Step.{Step}
use Rattle.transfer_step.specs.declared.Step.TheVariants.{Ignored, GoesOn, Completes}
use Rattle.transfer_step.specs.Step.{report_step}
use Rattle.transfer_report.specs.Report.{ops_after, report_state, report_ops}
use Rattle.control_report.specs.Ep0.{setup_ops, address_due, status_ops, status_done, status_follows}
use Rattle.control_report.specs.Ep0Laws.{address_most}
use Rattle.regs_control.specs.Control.{status_ack_ops, ep0_tx_clear_ops, ep0_rx_ready_ops, status_others_ops, ep0_tx_answer_ops}
use Rattle.interrupt_link.specs.declared.LinkEffect.{LinkEffect}
use Rattle.interrupt_link.specs.Actions.{changed_ops, message_ops, warmed_ops}
use Rattle.interrupt_link.specs.ActionsLaws.{either_most, changed_most, message_most}
use Rattle.interrupt_asks.specs.Asking.{asked, timeout_ops, behind_timeout_ops, behind_message_ops, behind_sent_ops, sent_ops, behind_term_ops, behind_change_ops}
use Rattle.interrupt_asks.specs.AskingLaws.{sent_most}
use Rattle.interrupt_asks.specs.Settled.{settled}
use Rattle.interrupt_asks.specs.SettledLaws.{settled_ops}
use Rattle.interrupt_transfer.specs.Transfers.{over, asking, chain_asked, ep0_reading, endpoint_turn, status_turn}
use Rattle.interrupt_readings.specs.Matched.{Matched, other, link_flags, link_status, capability, term_status, message, warm_status, transfer_status, setup_bytes, ep0_length, ep0_sequence, chain_packets, last_length, matched_as}
use Rattle.interrupt_readings.specs.Heard.{seeing, from_change, capability_due, heard_link}
use Rattle.interrupt_followers.specs.Followers.{heard_transfer}
use Rattle.interrupt_begin.specs.Begin.{interrupt_conditions, first_awaited, interrupt_call}
use Rattle.interrupt.specs.Interrupt.{answer_conditions, link_before, link_after, link_settled, transfer_settled, answered, answer_call}

-- one list behind the other
both_most : (x y : List Op) (m n : ℕ) → length (flat x) ≤ m → length (flat y) ≤ n → length (flat (x ++ y)) ≤ m + n
both_most x y m n h k = rw (flat_append x y, length-append (flat x) (flat y)) (omega (arith, h, k))

-- ---- the link's

timeout_most : (f : LinkFlags) → length (flat (behind_timeout_ops f)) ≤ records 1
timeout_most f = either_most f.link_if_warm_rst (link_ack_ops number.link_if_warm_rst) [] (records 1) (omega arith) (omega arith)

behind_message_most : (f : LinkFlags) → length (flat (behind_message_ops f)) ≤ records 3
behind_message_most f = either_most f.link_if_rx_lmp_tout timeout_ops (behind_timeout_ops f) (records 3) (omega arith) (omega (arith, timeout_most f))

behind_sent_most : (f : LinkFlags) → length (flat (behind_sent_ops f)) ≤ records 3
behind_sent_most f = either_most f.link_if_rx_lmp (link_ack_ops number.link_if_rx_lmp) (behind_message_ops f) (records 3) (omega arith) (behind_message_most f)

behind_term_most : (f : LinkFlags) → length (flat (behind_term_ops f)) ≤ records 7
behind_term_most f = both_most (sent_ops f) (behind_sent_ops f) (records 4) (records 3) (sent_most f) (behind_sent_most f)

behind_change_most : (f : LinkFlags) → length (flat (behind_change_ops f)) ≤ records 7
behind_change_most f = either_most f.link_if_term_pres (link_ack_ops number.link_if_term_pres) (behind_term_ops f) (records 7) (omega arith) (behind_term_most f)

from_change_most : (ep0 : ℕ) (a : Awaited) (l : LinkState) (f : LinkEffect) (before : List Op) → length (flat before) ≤ records 2
    → length (flat (from_change ep0 a l f before).ops) ≤ records 94
from_change_most ep0 a l f before h =
    let flag = a.flags.link_if_state_chg in
    both_most before (changed_ops flag l ep0 f.low_power ++ behind_change_ops a.flags) (records 2) (records 92) h
    (both_most (changed_ops flag l ep0 f.low_power) (behind_change_ops a.flags) (records 85) (records 7) (changed_most flag l ep0 f.low_power) (behind_change_most a.flags))

warmed_most : (warm : Bool) (ep0 : ℕ) → length (flat (warmed_ops warm ep0)) ≤ records 86
warmed_most warm ep0 =
    either_most warm (bus_reset_ops ep0 ++ rest) [] (records 86) (both_most (bus_reset_ops ep0) rest (records 83) (records 3) (omega (arith, bus_reset_length ep0)) (omega arith)) (omega arith)
  where
    rest : List Op
    rest = go_disabled_ops true ++ (delay_ops 16 ++ go_disabled_ops false)

link_most : (ep0 revision : ℕ) (a : Awaited) (f : LinkEffect) (m : Matched) → length (flat (heard_link ep0 revision a f m).ops) ≤ records 94
unfolding heard_link
link_most ep0 revision a f other = omega arith
link_most ep0 revision a f (link_flags g) = omega arith
link_most ep0 revision a f (link_status r) = go (capability_due revision a)
  where
    l : LinkState
    l = r.link_state

    go : (b : Bool)
        → length (flat (cond b (record { effect = f; awaited = asked (seeing a l) (Some awaiting.PortCapability); ops = link_ack_ops number.link_if_rx_set_fc }) (from_change ep0 (seeing a l) l f [])).ops)
        ≤ records 94
    go true = omega arith
    go false = from_change_most ep0 (seeing a l) l f [] (omega arith)
link_most ep0 revision a f (capability b) = from_change_most ep0 a a.link_state f (link_power_allow_ops b) (omega arith)
link_most ep0 revision a f (term_status r) = omega (arith, behind_term_most a.flags)
link_most ep0 revision a f (message w) =
    omega (arith, both_most (message_ops revision w) (behind_message_ops a.flags) (records 4) (records 3) (message_most revision w) (behind_message_most a.flags))
link_most ep0 revision a f (warm_status r) = omega (arith, warmed_most r.link_rx_warm_rst ep0)
link_most ep0 revision a f (transfer_status t) = omega arith
link_most ep0 revision a f (setup_bytes b) = omega arith
link_most ep0 revision a f (ep0_length n) = omega arith
link_most ep0 revision a f (ep0_sequence q) = omega arith
link_most ep0 revision a f (chain_packets p) = omega arith
link_most ep0 revision a f (last_length n) = omega arith

-- ---- the transfers'

own_window_most : (s : State) (e : ℕ) (incoming : Bool) → length (flat (own_window_ops s e incoming)) ≤ records 1
own_window_most s e true = omega arith
own_window_most s e false = omega arith

after_most : (s : State) (e : ℕ) (incoming : Bool) (step : Step) → length (flat (ops_after s e incoming step)) ≤ records 6
after_most s e incoming Ignored = omega arith
after_most s e incoming (GoesOn x) =
    both_most (queue_ops (limit_of s) e incoming x) (own_window_ops s e incoming) (records 5) (records 1) (queue_most (limit_of s) e incoming x) (own_window_most s e incoming)
after_most s e incoming (Completes x) = omega arith

-- A report takes seven at most: the chain's flag, the next chain and its window.
pub report_most : (s : State) (e : ℕ) (incoming : Bool) (packets last : ℕ) → length (flat (report_ops s e incoming packets last)) ≤ records 7
unfolding report_ops
report_most s e incoming packets last =
    let step = report_step (limit_of s) incoming packets last (slot_of s e incoming) in
    both_most (chain_ack_ops e incoming) (ops_after s e incoming step) (records 1) (records 6) (omega arith) (after_most s e incoming step)

endpoint_most : (s : State) (e : ℕ) (incoming : Bool) → length (flat (endpoint_turn s e incoming).ops) ≤ records 7
endpoint_most s e incoming = go (eqb e 0) (leb e 7) incoming
  where
    go : (b c d : Bool)
        → length (flat (cond b (asking s (asked s.awaited (Some (ep0_reading d))) []) (cond c (cond d (over (report_state s e true 0 0) (report_ops s e true 0 0)) (asking s (chain_asked s.awaited e) [])) (over s []))).ops)
        ≤ records 7
    go true c d = omega arith
    go false true true = report_most s e true 0 0
    go false true false = omega arith
    go false false d = omega arith

status_ops_most : (address : Option ℕ) → length (flat (status_ops address)) ≤ records 7
status_ops_most address =
    omega (
      arith,
      both_most (status_ack_ops number.udif_status) (address_due address ++ (ep0_tx_clear_ops ++ ep0_rx_ready_ops)) (records 1) (records 4) (omega arith)
          (both_most (address_due address) (ep0_tx_clear_ops ++ ep0_rx_ready_ops) (records 1) (records 3) (address_most address) (omega arith)),
    )

status_most : (s : State) (t : TransferStatus) → length (flat (status_turn s t).ops) ≤ records 7
unfolding status_turn
status_most s t = go t.udif_status t.udif_setup t.uif_transfer
  where
    go : (a b c : Bool)
        → length (flat (cond a (over (status_done s) (status_ops s.address)) (cond b (asking s (asked s.awaited (Some awaiting.SetupBytes)) setup_ops) (cond c (endpoint_turn s t.ep_id t.ep_dir) (over s (status_others_ops t.uif_itp t.uif_rx_ping t.uif_fifo_txov t.uif_fifo_rxov))))).ops)
        ≤ records 7
    go true b c = status_ops_most s.address
    go false true c = omega arith
    go false false true = endpoint_most s t.ep_id t.ep_dir
    go false false false = omega arith

transfer_most : (s : State) (m : Matched) → length (flat (heard_transfer s m).ops) ≤ records 7
unfolding heard_transfer
transfer_most s other = omega arith
transfer_most s (link_flags f) = omega arith
transfer_most s (link_status r) = omega arith
transfer_most s (capability b) = omega arith
transfer_most s (term_status r) = omega arith
transfer_most s (message w) = omega arith
transfer_most s (warm_status r) = omega arith
transfer_most s (transfer_status t) = status_most s t
transfer_most s (setup_bytes b) = omega arith
transfer_most s (ep0_length n) = omega arith
transfer_most s (ep0_sequence q) =
    either_most (status_follows s) (ep0_tx_answer_ops number.dph ++ ep0_rx_ready_ops) (ep0_tx_answer_ops number.nrdy) (records 7) (omega arith) (omega arith)
transfer_most s (chain_packets p) = omega arith
transfer_most s (last_length n) = report_most s s.awaited.endpoint false s.awaited.packets n

-- ---- the calls

answered_most : (s : State) (v : Events) (m : Matched) → length (flat (answered s v m).ops) ≤ records 94
answered_most s v m = go (leb (awaiting_number s.awaited.next) 6)
  where
    go : (b : Bool)
        → length (flat (cond b (link_settled s (heard_link s.ep0_address s.revision s.awaited (link_before s v) m)) (transfer_settled v (heard_transfer s m))).ops) ≤ records 94
    go true =
        let h = heard_link s.ep0_address s.revision s.awaited (link_before s v) m in
        rw (← settled_ops (link_after s h.effect) h.effect.events h.awaited h.ops) (link_most s.ep0_address s.revision s.awaited (link_before s v) m)
    go false = let h = heard_transfer s m in rw (← settled_ops h.state v h.awaited h.ops) (omega (arith, transfer_most s m))

-- A reading's list takes 94 records at most, refused or not;
pub answer_room : (room : ℕ) (s : State) (v : Events) (r : Reading) → length (flat (answer_call room s v r).ops) ≤ records 94
unfolding answer_call
answer_room room s v r =
    or_either {B = Outcome (Result (Option Awaiting) Refusal)} (λ o. length (flat o.ops) ≤ records 94) (first_refusal (answer_conditions room s v r)) (λ q. refusal (Err q) s v)
    (answered s v (matched_as s.awaited.next r)) (λ q e. omega arith) (λ e. answered_most s v (matched_as s.awaited.next r))

-- the begin's has none.
pub interrupt_room : (room : ℕ) (s : State) (v : Events) → (interrupt_call room s v).ops ≡ []
unfolding interrupt_call
interrupt_room room s v =
    or_either {B = Outcome (Result (Option Awaiting) Refusal)} (λ o. o.ops ≡ []) (first_refusal (interrupt_conditions room s v)) (λ q. refusal (Err q) s v)
    (settled s v (first_awaited s.powered) []) (λ q e. refl) (λ e. sym (settled_ops s v (first_awaited s.powered) []))

-- 94 are reached: behind a hot reset, with the capability to be sent and a message timed out, where what was set comes first
abbrev longest : Awaited
longest =
    record {
      next = Some awaiting.PortCapability;
      flags =
          record {
            link_if_tx_lmp = true;
            link_if_rx_lmp = false;
            link_if_rx_lmp_tout = true;
            link_if_state_chg = true;
            link_if_warm_rst = false;
            link_if_term_pres = false;
            link_if_rx_set_fc = true;
          };
      link_state = link.HOTRST;
      endpoint = 0;
      packets = 0;
    }

pub room_reached : length (flat (answer_call list_numbers (with_awaited running longest) no_events (reading.PortCapability true)).ops) ≡ records 94
unfolding answer_call or_else soundb every heard_link settled up_to
room_reached = refl
