-- A slot behind the report of a chain's end: what a reading of the transfers leaves of a direction of a data endpoint.
-- Assumes nothing.
use Rattle.std.specs.Prelude.{ℕ, Bool, true, false, not, ◌&&◌, cond, [], eqb, leb, ◌≡◌, refl, Option, Some, None}
use Rattle.std.proofs.Common.{ap, sym, ◌∙◌}
use Rattle.std.proofs.lemmas.Bool.{eq-eqb, eqb-true}
use Rattle.base.specs.EachLaws.{and_left, and_right, true_not_false}
use Rattle.state.specs.declared.Slot.{Slot}
use Rattle.state.specs.declared.State.{State}
use Rattle.state.specs.declared.TransferStatus.{TransferStatus}
use Rattle.state.specs.declared.Awaiting.TheVariants as awaiting
use Rattle.state.specs.Fresh.{slot_at}
use Rattle.state.specs.Setters.{with_sequence, with_stage, limit_of}
use Rattle.state_slots.specs.Slots.{busyb, data_endpoint, slot_number, slot_of, slot_size}
use Rattle.state_slots.specs.Completing.{done_slot, completed_slot, complete_at, complete}
use Rattle.state_laws.specs.SlotLaws.{slot_range, slots_apart, stored_here, stored_there}
use Rattle.regs_control.specs.Control.{status_others_ops}
use Rattle.bus_laws.specs.PowerKeeps.{control_reset_apart}
use Rattle.transfer_chain.specs.Chains.{queued_slot}
use Rattle.transfer_step.specs.declared.Step.{Step}
use Rattle.transfer_step.specs.declared.Step.TheVariants.{Ignored, GoesOn, Completes}
use Rattle.transfer_step.specs.Step.{goes_on, counted_transfer, counted_slot, step_of, report_step, slot_after}
use Rattle.transfer_report.specs.Report.{state_after, report_state, report_ops}
use Rattle.control_report.specs.Ep0.{setup_ops, status_ops, status_done, received_slot, status_follows}
use Rattle.interrupt_asks.specs.Asking.{asked}
use Rattle.interrupt_transfer.specs.Transfers.{over, asking, chain_asked, ep0_reading, endpoint_turn, status_turn}
use Rattle.interrupt_readings.specs.Matched.{Matched, other, link_flags, link_status, capability, term_status, message, warm_status, transfer_status, setup_bytes, ep0_length, ep0_sequence, chain_packets, last_length}
use Rattle.interrupt_followers.specs.Followers.{heard_transfer}
use Rattle.history_ops.specs.Recorded.{same_way, same_slot}
use Rattle.history_ops.specs.Readings.{Report, reports_in, in_report, report_of}
use Rattle.history_effect.proofs.DataSlots.{ep0_stored}

-- ---- whether a direction of an endpoint is another's

pub same_self : (e : ℕ) (incoming : Bool) → same_slot e incoming e incoming ≡ true
same_self e true = rw (eq-eqb e e refl)
same_self e false = rw (eq-eqb e e refl)

way_is : (way incoming : Bool) → same_way way incoming ≡ true → way ≡ incoming
way_is true incoming h = sym h
way_is false true h = absurd (true_not_false (sym h))
way_is false false h = refl

pub same_is : (i : ℕ) (way : Bool) (e : ℕ) (incoming : Bool) → same_slot i way e incoming ≡ true → (i ≡ e) × (way ≡ incoming)
same_is i way e incoming h =
    (eqb-true i e (and_left (eqb i e) (same_way way incoming) h), way_is way incoming (and_right (eqb i e) (same_way way incoming) h))

-- another has another slot
other_slot : (i : ℕ) (way : Bool) (e : ℕ) (incoming : Bool) → same_slot i way e incoming ≡ false → slot_number e incoming ≡ slot_number i way → ⊥
other_slot i way e incoming h q =
    let k = slots_apart e i incoming way q in
    true_not_false (sym (same_self i way) ∙ rw (k.0, k.1) at h)

-- ---- a slot behind a report, if that is its own

abbrev pub slot_behind : State → Option Report → ℕ → Bool → Slot
slot_behind s None e incoming = slot_of s e incoming
slot_behind s (Some r) e incoming =
    cond (same_slot r.endpoint r.incoming e incoming)
    (slot_after (limit_of s) incoming (slot_of s e incoming) (report_step (limit_of s) incoming r.packets r.last (slot_of s e incoming)))
    (slot_of s e incoming)

module _ (s : State) where
  -- a slot that goes on or is done was busy, so it is there
  step_here : (i : ℕ) (incoming b more : Bool) (y : Slot) → busyb (slot_at s i).phase ≡ b
      → slot_at (state_after s i incoming (step_of b more y)) i ≡ slot_after (limit_of s) incoming (slot_at s i) (step_of b more y)
  step_here i incoming false more y h = refl
  step_here i incoming true true y h = stored_here s i (queued_slot (limit_of s) incoming y) (λ q. true_not_false (sym h ∙ ap (λ (x : Slot). busyb x.phase) q))
  step_here i incoming true false y h = stored_here s i (done_slot y) (λ q. true_not_false (sym h ∙ ap (λ (x : Slot). busyb x.phase) q))

  step_there : (i j : ℕ) (incoming : Bool) (step : Step) → (j ≡ i → ⊥) → slot_at (state_after s i incoming step) j ≡ slot_at s j
  step_there i j incoming Ignored h = refl
  step_there i j incoming (GoesOn y) h = stored_there s i j (queued_slot (limit_of s) incoming y) h
  step_there i j incoming (Completes y) h = stored_there s i j (done_slot y) h

  report_here : (e : ℕ) (incoming : Bool) (packets last : ℕ)
      → slot_of (report_state s e incoming packets last) e incoming
      ≡ slot_after (limit_of s) incoming (slot_of s e incoming) (report_step (limit_of s) incoming packets last (slot_of s e incoming))
  unfolding report_state
  report_here e incoming packets last =
      let x = slot_of s e incoming in
      step_here (slot_number e incoming) incoming (busyb x.phase) (goes_on incoming (slot_size x) last (counted_transfer (limit_of s) incoming packets last x))
      (counted_slot (limit_of s) incoming packets last x) refl

  pub report_slot : (i : ℕ) (way : Bool) (packets last e : ℕ) (incoming : Bool)
      → slot_of (report_state s i way packets last) e incoming ≡ slot_behind s (Some (record { endpoint = i; incoming = way; packets = packets; last = last })) e incoming
  report_slot i way packets last e incoming = go (same_slot i way e incoming) refl
    where
      go : (b : Bool) → same_slot i way e incoming ≡ b
          → slot_of (report_state s i way packets last) e incoming
          ≡ cond b (slot_after (limit_of s) incoming (slot_of s e incoming) (report_step (limit_of s) incoming packets last (slot_of s e incoming))) (slot_of s e incoming)
      go true h = let k = same_is i way e incoming h in rw (k.0, k.1) (report_here e incoming packets last)
      go false h = unfold report_state in step_there (slot_number i way) (slot_number e incoming) way _ (other_slot i way e incoming h)

  -- ---- the readings of the transfers

  module _ (e : ℕ) (incoming : Bool) (d : data_endpoint e ≡ true) where
    abbrev j : ℕ
    j = slot_number e incoming

    abbrev Leaves : State → Option Report → Type 0
    Leaves t report = slot_of t e incoming ≡ slot_behind s report e incoming

    -- slot 1 is done, if it is busy
    completed : (t : State) → t.endpoints ≡ s.endpoints → (b : Bool) → slot_at (complete_at b t 1) j ≡ slot_at s j
    completed t q true = rw q (ep0_stored s e incoming d 1 (done_slot (slot_at s 1)) refl)
    completed t q false = rw q

    endpoint_slot : (i : ℕ) (way : Bool) → Leaves (endpoint_turn s i way).state (in_report (not (eqb i 0) && (leb i 7 && way)) i)
    endpoint_slot i way = go (eqb i 0) (leb i 7) way
      where
        go : (b c d : Bool)
            → Leaves
            (cond b (asking s (asked s.awaited (Some (ep0_reading d))) [])
            (cond c (cond d (over (report_state s i true 0 0) (report_ops s i true 0 0)) (asking s (chain_asked s.awaited i) [])) (over s []))).state
            (in_report (not b && (c && d)) i)
        go true c d = refl
        go false true true = report_slot i true 0 0 e incoming
        go false true false = refl
        go false false d = refl

    turn_slot : (t : TransferStatus) → Leaves (status_turn s t).state (in_report (reports_in t) t.ep_id)
    unfolding status_turn
    turn_slot t = go t.udif_status t.udif_setup t.uif_transfer
      where
        go : (a b c : Bool)
            → Leaves
            (cond a (over (status_done s) (status_ops s.address))
            (cond b (asking s (asked s.awaited (Some awaiting.SetupBytes)) setup_ops)
            (cond c (endpoint_turn s t.ep_id t.ep_dir) (over s (status_others_ops t.uif_itp t.uif_rx_ping t.uif_fifo_txov t.uif_fifo_rxov))))).state
            (in_report (not a && (not b && (c && (not (eqb t.ep_id 0) && (leb t.ep_id 7 && t.ep_dir))))) t.ep_id)
        go true b c = completed (with_stage s s.in_last None) refl (busyb (slot_at s 1).phase)
        go false true c = refl
        go false false true = endpoint_slot t.ep_id t.ep_dir
        go false false false = refl

    sent_slot : (q : ℕ) (follows : Bool) → slot_at (cond follows (with_sequence s q) (complete (with_sequence s q) 1)) j ≡ slot_at s j
    sent_slot q true = refl
    sent_slot q false = completed (with_sequence s q) refl (busyb (slot_at s 1).phase)

    -- A reading of the transfers leaves the slot, unless it reports a chain of its own.
    pub transfer_slot : (m : Matched) → slot_of (heard_transfer s m).state e incoming ≡ slot_behind s (report_of s.awaited m) e incoming
    unfolding heard_transfer
    transfer_slot other = refl
    transfer_slot (link_flags f) = refl
    transfer_slot (link_status r) = refl
    transfer_slot (capability b) = refl
    transfer_slot (term_status r) = refl
    transfer_slot (message w) = refl
    transfer_slot (warm_status r) = refl
    transfer_slot (transfer_status t) = turn_slot t
    transfer_slot (setup_bytes b) = control_reset_apart s j (slot_range e incoming d).0
    transfer_slot (ep0_length n) = ep0_stored s e incoming d 0 (completed_slot (received_slot n (slot_at s 0))) refl
    transfer_slot (ep0_sequence q) = sent_slot q (status_follows s)
    transfer_slot (chain_packets p) = refl
    transfer_slot (last_length n) = report_slot s.awaited.endpoint false s.awaited.packets n e incoming
