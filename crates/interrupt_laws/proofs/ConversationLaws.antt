-- An interrupt ends: an accepted reading leads to a later one or to the end, so that no conversation has over nine.
-- Assumes nothing.
use Rattle.std.specs.Prelude.{ℕ, ◌≤◌, ◌<◌, Bool, true, false, cond, List, [], ◌∷◌, ◌≡◌, refl, eqb, leb, length, Ok, Err, Option, Some, None}
use Rattle.std.proofs.Common.{arith, sym}
use Rattle.ops.specs.Numbers as number
use Rattle.ops.specs.Ops.{Op}
use Rattle.regs_link.specs.Link.{link_ack_ops}
use Rattle.regs_control.specs.Control.{status_others_ops}
use Rattle.state.specs.declared.LinkFlags.{LinkFlags}
use Rattle.state.specs.declared.LinkState.{LinkState}
use Rattle.state.specs.declared.TransferStatus.{TransferStatus}
use Rattle.state.specs.declared.Awaiting.{Awaiting}
use Rattle.state.specs.declared.Awaiting.TheVariants as awaiting
use Rattle.state.specs.declared.Awaited.{Awaited}
use Rattle.state.specs.declared.Reading.{Reading}
use Rattle.state.specs.declared.State.{State}
use Rattle.state.specs.declared.Events.{Events}
use Rattle.state.specs.Awaiting.{awaiting_number, awaitingb}
use Rattle.state.specs.Refusals.{first_refusal}
use Rattle.state_call.specs.OutcomeLaws.{accepted}
use Rattle.transfer_report.specs.Report.{report_state, report_ops}
use Rattle.control_report.specs.Ep0.{status_done, status_ops, setup_ops}
use Rattle.interrupt_link.specs.declared.LinkEffect.{LinkEffect}
use Rattle.interrupt_asks.specs.Asking.{asked, behind_timeout, behind_message, behind_sent, behind_change}
use Rattle.interrupt_asks.specs.Settled.{settled_at, settled}
use Rattle.interrupt_transfer.specs.Transfers.{over, asking, chain_asked, ep0_reading, endpoint_turn, status_turn}
use Rattle.interrupt_readings.specs.Matched.{Matched, link_flags, link_status, capability, term_status, message, warm_status, transfer_status, setup_bytes, ep0_length, ep0_sequence, chain_packets, last_length, matched_as}
use Rattle.interrupt_readings.specs.Heard.{seeing, from_change, heard_link, status_heard, capability_due}
use Rattle.interrupt_followers.specs.Followers.{heard_transfer}
use Rattle.interrupt_begin.specs.Begin.{interrupt_conditions, interrupt_call, first_awaited}
use Rattle.interrupt.specs.Interrupt.{answer_conditions, link_before, link_after, link_settled, transfer_settled, answered, answer_call}
use Rattle.interrupt_laws.specs.ReadingLaws.{EachReading, each_reading, answered_at, tested_reading}
use Rattle.interrupt_laws.specs.Conversation.{readings_left, Given, AllAccepted}

-- how many are left, by the place in the sequence
abbrev left_at : ℕ → ℕ
left_at n =
    cond (eqb n 1) 9
    (cond (eqb n 2) 8
    (cond (eqb n 3) 7 (cond (eqb n 4) 6 (cond (eqb n 5) 5 (cond (eqb n 6) 4 (cond (eqb n 7) 3 (cond (eqb n 11) 2 (cond (eqb n 0) 0 1))))))))

left_at_lem : (a : Option Awaiting) → (readings_left a ≡ left_at (awaiting_number a)) × (readings_left a ≤ 9)
left_at_lem None = (refl, omega arith)
left_at_lem (Some awaiting.LinkFlags) = (refl, omega arith)
left_at_lem (Some awaiting.LinkStatus) = (refl, omega arith)
left_at_lem (Some awaiting.PortCapability) = (refl, omega arith)
left_at_lem (Some awaiting.TermPresStatus) = (refl, omega arith)
left_at_lem (Some awaiting.MessageWord) = (refl, omega arith)
left_at_lem (Some awaiting.WarmResetStatus) = (refl, omega arith)
left_at_lem (Some awaiting.TransferStatus) = (refl, omega arith)
left_at_lem (Some awaiting.SetupBytes) = (refl, omega arith)
left_at_lem (Some awaiting.Ep0Length) = (refl, omega arith)
left_at_lem (Some awaiting.Ep0Sequence) = (refl, omega arith)
left_at_lem (Some awaiting.ChainPackets) = (refl, omega arith)
left_at_lem (Some awaiting.LastLength) = (refl, omega arith)

-- ---- what comes behind

settled_left : (s : State) (v : Events) (a : Awaited) (ops : List Op) → readings_left (settled s v a ops).state.awaited.next ≤ readings_left a.next
unfolding settled
settled_left s v a ops = go (awaitingb a.next)
  where
    go : (b : Bool) → readings_left (settled_at b s v a ops).state.awaited.next ≤ readings_left a.next
    go true = omega arith
    go false = omega arith

warm_left : (f : LinkFlags) → readings_left (behind_timeout f) < 5
warm_left f = go f.link_if_warm_rst
  where
    go : (b : Bool) → readings_left (cond b (Some awaiting.WarmResetStatus) (Some awaiting.TransferStatus)) < 5
    go true = omega arith
    go false = omega arith

message_left : (f : LinkFlags) → readings_left (behind_message f) < 5
message_left f = go f.link_if_rx_lmp_tout
  where
    go : (b : Bool) → readings_left (cond b None (behind_timeout f)) < 5
    go true = omega arith
    go false = warm_left f

sent_left : (f : LinkFlags) → readings_left (behind_sent f) < 6
sent_left f = go f.link_if_rx_lmp
  where
    go : (b : Bool) → readings_left (cond b (Some awaiting.MessageWord) (behind_message f)) < 6
    go true = omega arith
    go false = omega (arith, message_left f)

change_left : (f : LinkFlags) → readings_left (behind_change f) < 7
change_left f = go f.link_if_term_pres
  where
    go : (b : Bool) → readings_left (cond b (Some awaiting.TermPresStatus) (behind_sent f)) < 7
    go true = omega arith
    go false = omega (arith, sent_left f)

status_heard_left : (ep0 revision : ℕ) (a : Awaited) (f : LinkEffect) (l : LinkState) → readings_left (status_heard ep0 revision a f l).awaited.next < 8
status_heard_left ep0 revision a f l = go (capability_due revision a)
  where
    go : (b : Bool)
        → readings_left (cond b (record { effect = f; awaited = asked (seeing a l) (Some awaiting.PortCapability); ops = link_ack_ops number.link_if_rx_set_fc }) (from_change ep0 (seeing a l) l f [])).awaited.next < 8
    go true = omega arith
    go false = omega (arith, change_left a.flags)

endpoint_left : (s : State) (e : ℕ) (incoming : Bool) → readings_left (endpoint_turn s e incoming).awaited.next < 3
endpoint_left s e incoming = go (eqb e 0) (leb e 7) incoming
  where
    go : (b c d : Bool)
        → readings_left (cond b (asking s (asked s.awaited (Some (ep0_reading d))) []) (cond c (cond d (over (report_state s e true 0 0) (report_ops s e true 0 0)) (asking s (chain_asked s.awaited e) [])) (over s []))).awaited.next < 3
    go true c true = omega arith
    go true c false = omega arith
    go false true true = omega arith
    go false true false = omega arith
    go false false d = omega arith

status_left : (s : State) (t : TransferStatus) → readings_left (status_turn s t).awaited.next < 3
unfolding status_turn
status_left s t = go t.udif_status t.udif_setup t.uif_transfer
  where
    go : (a b c : Bool)
        → readings_left (cond a (over (status_done s) (status_ops s.address)) (cond b (asking s (asked s.awaited (Some awaiting.SetupBytes)) setup_ops) (cond c (endpoint_turn s t.ep_id t.ep_dir) (over s (status_others_ops t.uif_itp t.uif_rx_ping t.uif_fifo_txov t.uif_fifo_rxov))))).awaited.next < 3
    go true b c = omega arith
    go false true c = omega arith
    go false false true = endpoint_left s t.ep_id t.ep_dir
    go false false false = omega arith

-- ---- the readings

module _ (s : State) (v : Events) where
  link_left : (m : Matched) → readings_left (link_settled s (heard_link s.ep0_address s.revision s.awaited (link_before s v) m)).state.awaited.next
      ≤ readings_left (heard_link s.ep0_address s.revision s.awaited (link_before s v) m).awaited.next
  link_left m =
      let h = heard_link s.ep0_address s.revision s.awaited (link_before s v) m in
      settled_left (link_after s h.effect) h.effect.events h.awaited h.ops

  transfer_left : (m : Matched) → readings_left (transfer_settled v (heard_transfer s m)).state.awaited.next ≤ readings_left (heard_transfer s m).awaited.next
  transfer_left m = let h = heard_transfer s m in settled_left h.state v h.awaited h.ops

  each_moves : EachReading (λ n m. readings_left (answered_at s v n m).state.awaited.next < left_at n)
  unfolding heard_link heard_transfer
  each_moves =
      record {
        on_flags = λ f. omega (arith, link_left (link_flags f));
        on_status = λ r. omega (arith, link_left (link_status r), status_heard_left s.ep0_address s.revision s.awaited (link_before s v) r.link_state);
        on_capability = λ b. omega (arith, link_left (capability b), change_left s.awaited.flags);
        on_term = λ r. omega (arith, link_left (term_status r), sent_left s.awaited.flags);
        on_message = λ w. omega (arith, link_left (message w), message_left s.awaited.flags);
        on_warm = λ r. omega (arith, link_left (warm_status r));
        on_transfer = λ t. omega (arith, transfer_left (transfer_status t), status_left s t);
        on_setup = λ b. omega (arith, transfer_left (setup_bytes b));
        on_bytes = λ l. omega (arith, transfer_left (ep0_length l));
        on_sequence = λ q k. omega (arith, transfer_left (ep0_sequence q));
        on_packets = λ p. omega (arith, transfer_left (chain_packets p));
        on_last = λ l. omega (arith, transfer_left (last_length l));
      }

  -- Each accepted reading ends the interrupt, or leads to one that is later in the sequence.
  pub moves_on : (room : ℕ) (r : Reading) → first_refusal (answer_conditions room s v r) ≡ Ok tt
      → readings_left (answer_call room s v r).state.awaited.next < readings_left s.awaited.next
  unfolding answer_call
  moves_on room r e =
      let k = accepted Err (answer_conditions room s v r) s v (answered s v (matched_as s.awaited.next r)) e in
      let t = tested_reading room s v r k.0 in
      rw (k.1, (left_at_lem s.awaited.next).0) (each_reading (λ n m. readings_left (answered_at s v n m).state.awaited.next < left_at n) each_moves s.awaited.next r t.matches t.range)

-- ---- conversations

-- So readings that are all accepted are no more than were left,
pub no_more_than_left : (s : State) (v : Events) (gs : List Given) → AllAccepted s v gs → length gs ≤ readings_left s.awaited.next
no_more_than_left s v [] all = omega arith
no_more_than_left s v (g ∷ gs) all =
    let o = answer_call g.room s v g.reading in
    omega (arith, moves_on s v g.room g.reading all.0, no_more_than_left o.state o.events gs all.1)

-- which are nine at the most.
pub at_most_nine : (s : State) (v : Events) (gs : List Given) → AllAccepted s v gs → length gs ≤ 9
at_most_nine s v gs all = omega (arith, no_more_than_left s v gs all, (left_at_lem s.awaited.next).1)

-- An interrupt that is begun with power awaits the link's flags, all nine being left; without power it has ended.
module _ (room : ℕ) (s : State) (v : Events) where
  begun_call : first_refusal (interrupt_conditions room s v) ≡ Ok tt → interrupt_call room s v ≡ settled s v (first_awaited s.powered) []
  unfolding interrupt_call
  begun_call e = (accepted Err (interrupt_conditions room s v) s v (settled s v (first_awaited s.powered) []) e).1

  pub interrupt_settled : first_refusal (interrupt_conditions room s v) ≡ Ok tt → settled s v (first_awaited s.powered) [] ≡ interrupt_call room s v
  interrupt_settled e = sym (begun_call e)

  pub begun_with_power : first_refusal (interrupt_conditions room s v) ≡ Ok tt → s.powered ≡ true
      → ((interrupt_call room s v).answer ≡ Ok (Some awaiting.LinkFlags)) × ((interrupt_call room s v).state.awaited.next ≡ Some awaiting.LinkFlags)
  unfolding settled
  begun_with_power e on = rw (begun_call e, on) (refl, refl)

  pub begun_without : first_refusal (interrupt_conditions room s v) ≡ Ok tt → s.powered ≡ false
      → ((interrupt_call room s v).answer ≡ (Ok None)) × ((interrupt_call room s v).state.awaited.next ≡ None)
  unfolding settled
  begun_without e off = rw (begun_call e, off) (refl, refl)
