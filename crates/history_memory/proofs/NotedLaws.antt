-- A reading that is accepted leads to the one that follows it, and leaves in the state what is noted of it: what an interrupt in hand
-- awaits and has read is what its readings told.
-- Assumes nothing.
use Rattle.std.specs.Prelude.{ℕ, Bool, true, false, not, ◌&&◌, cond, eqb, leb, ◌≡◌, refl, Option, Some, None, List, [], Ok, Result}
use Rattle.std.proofs.Common.{sym, ap, subst, ◌∙◌, eqb-true}
use Rattle.base.specs.EachLaws.{true_not_false}
use Rattle.ops.specs.Ops.{Op}
use Rattle.ops.specs.Numbers as number
use Rattle.regs_link.specs.Link.{link_ack_ops}
use Rattle.regs_control.specs.Control.{status_others_ops}
use Rattle.state.specs.declared.LinkFlags.{LinkFlags}
use Rattle.state.specs.declared.LinkStatus.{LinkStatus}
use Rattle.state.specs.declared.LinkState.{LinkState}
use Rattle.state.specs.declared.TransferStatus.{TransferStatus}
use Rattle.state.specs.declared.Awaiting.{Awaiting}
use Rattle.state.specs.declared.Awaiting.TheVariants as awaiting
use Rattle.state.specs.declared.Awaited.{Awaited}
use Rattle.state.specs.declared.Reading.{Reading}
use Rattle.state.specs.declared.Reading.TheVariants as reading
use Rattle.state.specs.declared.Refusal.{Refusal}
use Rattle.state.specs.declared.State.{State}
use Rattle.state.specs.declared.Events.{Events}
use Rattle.state.specs.Fresh.{slot_at, nothing_awaited}
use Rattle.state.specs.Awaiting.{awaiting_number, awaitingb}
use Rattle.state.specs.Refusals.{first_refusal}
use Rattle.state.specs.RefusalsLaws.{none_due}
use Rattle.state.specs.Setters.{limit_of, with_sequence, with_stage}
use Rattle.state_slots.specs.Slots.{slot_number, slot_of, busyb}
use Rattle.state_slots.specs.Completing.{complete_at, complete}
use Rattle.state_call.specs.Outcome.{Outcome}
use Rattle.bus_reset.specs.Reset.{bus_reset_state}
use Rattle.transfer_step.specs.declared.Step.{Step}
use Rattle.transfer_step.specs.declared.Step.TheVariants.{Ignored, GoesOn, Completes}
use Rattle.transfer_step.specs.Step.{report_step}
use Rattle.transfer_report.specs.Report.{state_after, report_state, report_ops}
use Rattle.control_report.specs.Ep0.{setup_ops, setup_received, status_ops, status_done, length_ops, length_received, status_follows, sequence_ops, packet_sent}
use Rattle.interrupt_link.specs.declared.LinkEffect.{LinkEffect}
use Rattle.interrupt_asks.specs.Turns.{Heard}
use Rattle.interrupt_asks.specs.Asking.{behind_change, asked}
use Rattle.interrupt_asks.specs.Settled.{settled_at, settled}
use Rattle.interrupt_asks.specs.SettledLaws.{none_awaited}
use Rattle.interrupt_transfer.specs.Transfers.{Turned, over, asking, chain_asked, last_asked, ep0_reading, endpoint_turn, status_turn}
use Rattle.interrupt_readings.specs.Matched.{Matched, other, link_flags, link_status, capability, term_status, message, warm_status, transfer_status, setup_bytes, ep0_length, ep0_sequence, chain_packets, last_length, matched, matchesb, matched_as}
use Rattle.state.specs.Numbers.{reading_in_range}
use Rattle.interrupt_readings.specs.Heard.{seeing, from_change, capability_due, heard_link}
use Rattle.interrupt_followers.specs.Followers.{heard_transfer}
use Rattle.interrupt.specs.Interrupt.{answer_conditions, link_before, link_after, link_settled, transfer_settled, answered}
use Rattle.interrupt_laws.specs.ReadingLaws.{EachReading, each_reading, answered_at, tested_reading}
use Rattle.history_rows.specs.Memory.{memory_of}
use Rattle.history_memory.specs.Sequence.{behind_place, behind_report, follows}
use Rattle.history_memory.specs.Remembered.{noted, noted_if, hears}
use Rattle.history_memory.proofs.SequenceLaws.{after_flags, after_status, after_capability, after_term, after_message, after_warm}

-- ---- an accepted reading is told apart

abbrev unknown : Matched → Bool
unknown other = true
unknown (link_flags f) = false
unknown (link_status r) = false
unknown (capability b) = false
unknown (term_status r) = false
unknown (message w) = false
unknown (warm_status r) = false
unknown (transfer_status t) = false
unknown (setup_bytes b) = false
unknown (ep0_length n) = false
unknown (ep0_sequence q) = false
unknown (chain_packets p) = false
unknown (last_length n) = false

known : (next : Option Awaiting) (r : Reading) → matchesb next r ≡ true → reading_in_range r ≡ true → unknown (matched_as next r) ≡ false
known next r = each_reading (λ n m. unknown m ≡ false) each next r
  where
    each : EachReading (λ n m. unknown m ≡ false)
    each =
        record {
          on_flags = λ f. refl;
          on_status = λ r. refl;
          on_capability = λ b. refl;
          on_term = λ r. refl;
          on_message = λ w. refl;
          on_warm = λ r. refl;
          on_transfer = λ t. refl;
          on_setup = λ b. refl;
          on_bytes = λ l. refl;
          on_sequence = λ q k. refl;
          on_packets = λ p. refl;
          on_last = λ l. refl;
        }

-- so what is tested for it holds
in_turn : (b : Bool) (m : Matched) → unknown (cond b m other) ≡ false → b ≡ true
in_turn true m z = refl
in_turn false m z = absurd (true_not_false z)

-- ---- what a reading leaves

module _ (s : State) where
  -- t is on or off as s is, at the same revision
  abbrev Like : State → Type 0
  Like t = (a : Awaited) → hears (memory_of t) a ≡ hears (memory_of s) a

  like_either : (b : Bool) (t u : State) → Like t → Like u → Like (cond b t u)
  like_either true t u h k = h
  like_either false t u h k = k

  like_complete : (t : State) (i : ℕ) → Like t → Like (complete t i)
  like_complete t i h = go (busyb (slot_at t i).phase)
    where
      go : (b : Bool) → Like (complete_at b t i)
      go true = h
      go false = h

  like_report : (e : ℕ) (incoming : Bool) (packets last : ℕ) → Like (report_state s e incoming packets last)
  unfolding report_state
  like_report e incoming packets last = go (report_step (limit_of s) incoming packets last (slot_of s e incoming))
    where
      go : (k : Step) → Like (state_after s (slot_number e incoming) incoming k)
      go Ignored a = refl
      go (GoesOn x) a = refl
      go (Completes x) a = refl

  like_link : (f : LinkEffect) → Like (link_after s f)
  like_link f a = go f.resets
    where
      go : (b : Bool) → hears (memory_of (cond b (bus_reset_state s) s)) a ≡ hears (memory_of s) a
      go true = refl
      go false = refl

module _ (s : State) (v : Events) (r : Reading) where
  -- it is answered that `next` follows, and what the reading r leaves is what is noted of it then
  abbrev Leads : Option Awaiting → Outcome (Result (Option Awaiting) Refusal) → Type 0
  Leads next o = (o.answer ≡ Ok next) × (memory_of o.state ≡ hears (memory_of s) (noted_if s.awaited r next))

  abbrev Follows : Outcome (Result (Option Awaiting) Refusal) → Type 0
  Follows o = Leads (follows s.revision s.awaited r) o

  -- of what is awaited: the next reading, with all that was read
  abbrev Noted : Awaited → Type 0
  Noted a = (next : Awaiting) → a.next ≡ Some next → a ≡ noted s.awaited next r

  settled_leads : (t : State) (u : Events) (a : Awaited) (ops : List Op) → Like s t → Noted a → Leads a.next (settled t u a ops)
  unfolding settled
  settled_leads t u a ops like h = go (awaitingb a.next) a.next refl refl
    where
      go : (b : Bool) (next : Option Awaiting) → awaitingb a.next ≡ b → a.next ≡ next → Leads a.next (settled_at b t u a ops)
      go false next e q = subst (λ (k : Option Awaiting). Leads k (settled_at false t u a ops)) (sym (none_awaited a.next e)) (refl, like nothing_awaited)
      go true None e q = absurd (true_not_false (sym (rw q at e)))
      go true (Some next) e q = (
        refl,
        subst (λ (k : Option Awaiting). hears (memory_of t) a ≡ hears (memory_of s) (noted_if s.awaited r k)) (sym q)
            (like a ∙ ap (hears (memory_of s)) (h next q)),
      )

  -- nothing is awaited behind it
  ended_leads : (t : State) (ops : List Op) → Like s t → Leads None (settled t v nothing_awaited ops)
  unfolding settled
  ended_leads t ops like = (refl, like nothing_awaited)

  link_leads : (x : Heard LinkEffect) → Noted x.awaited → follows s.revision s.awaited r ≡ x.awaited.next → Follows (link_settled s x)
  link_leads x h q =
      subst (λ (k : Option Awaiting). Leads k (link_settled s x)) (sym q) (settled_leads (link_after s x.effect) x.effect.events x.awaited x.ops (like_link s x.effect) h)

  -- another reading is awaited, and nothing else changes
  asking_leads : (k : Awaiting) (a : Awaited) (ops : List Op) → a.next ≡ Some k → a ≡ noted s.awaited k r → Leads (Some k) (settled s v a ops)
  asking_leads k a ops p h =
      subst (λ (i : Option Awaiting). Leads i (settled s v a ops)) p
      (settled_leads s v a ops (λ x. refl) (λ next q. let e : k ≡ next = cc in subst (λ (i : Awaiting). a ≡ noted s.awaited i r) e h))

-- ---- each reading, in its place

module _ (s : State) (v : Events) where
  abbrev n : ℕ
  n = awaiting_number s.awaited.next

  abbrev heard : Matched → Heard LinkEffect
  heard m = heard_link s.ep0_address s.revision s.awaited (link_before s v) m

  -- what follows in the link's sequence, where place k is awaited
  in_sequence : (f : LinkFlags) (k : ℕ) (next : Option Awaiting) → n ≡ k → behind_place s.revision f k ≡ next → behind_place s.revision f n ≡ next
  in_sequence f k next e h = ap (behind_place s.revision f) e ∙ h

  status_leads : (r : LinkStatus) → n ≡ 2 → Follows s v (reading.LinkStatus r) (answered_at s v 2 (link_status r))
  unfolding heard_link follows
  status_leads r e = go (capability_due s.revision s.awaited) (in_sequence s.awaited.flags 2 _ e (after_status s.revision s.awaited.flags))
    where
      l : LinkState
      l = r.link_state

      due : Heard LinkEffect
      due = record { effect = link_before s v; awaited = asked (seeing s.awaited l) (Some awaiting.PortCapability); ops = link_ack_ops number.link_if_rx_set_fc }

      rest : Heard LinkEffect
      rest = from_change s.ep0_address (seeing s.awaited l) l (link_before s v) []

      go : (b : Bool) → behind_place s.revision s.awaited.flags n ≡ cond b (Some awaiting.PortCapability) (behind_change s.awaited.flags)
          → Follows s v (reading.LinkStatus r) (link_settled s (cond b due rest))
      go true q = link_leads s v (reading.LinkStatus r) due (λ next p. rw (← p, e)) q
      go false q = link_leads s v (reading.LinkStatus r) rest (λ next p. rw (← p, e)) q

  turn_leads : (t : TransferStatus) → Follows s v (reading.TransferStatus t) (answered_at s v 7 (transfer_status t))
  unfolding heard_transfer status_turn follows
  turn_leads t = go t.udif_status t.udif_setup t.uif_transfer
    where
      r : Reading
      r = reading.TransferStatus t

      turn : Bool → Bool → Bool → Turned
      turn a b c =
          cond a (over (status_done s) (status_ops s.address))
          (cond b (asking s (asked s.awaited (Some awaiting.SetupBytes)) setup_ops)
          (cond c (endpoint_turn s t.ep_id t.ep_dir) (over s (status_others_ops t.uif_itp t.uif_rx_ping t.uif_fifo_txov t.uif_fifo_rxov))))

      of_endpoint : (b c d : Bool)
          → Leads s v r (cond b (Some (cond d awaiting.Ep0Sequence awaiting.Ep0Length)) (cond (c && not d) (Some awaiting.ChainPackets) None))
          (transfer_settled v
          (cond b (asking s (asked s.awaited (Some (ep0_reading d))) [])
          (cond c (cond d (over (report_state s t.ep_id true 0 0) (report_ops s t.ep_id true 0 0)) (asking s (chain_asked s.awaited t.ep_id) [])) (over s []))))
      of_endpoint true c true = asking_leads s v r awaiting.Ep0Sequence (asked s.awaited (Some awaiting.Ep0Sequence)) [] refl refl
      of_endpoint true c false = asking_leads s v r awaiting.Ep0Length (asked s.awaited (Some awaiting.Ep0Length)) [] refl refl
      of_endpoint false true true = ended_leads s v r (report_state s t.ep_id true 0 0) (report_ops s t.ep_id true 0 0) (like_report s t.ep_id true 0 0)
      of_endpoint false true false = asking_leads s v r awaiting.ChainPackets (chain_asked s.awaited t.ep_id) [] refl refl
      of_endpoint false false d = ended_leads s v r s [] (λ a. refl)

      go : (a b c : Bool) → Leads s v r (cond a None (cond b (Some awaiting.SetupBytes) (cond c (behind_report t.ep_id t.ep_dir) None))) (transfer_settled v (turn a b c))
      go true b c = ended_leads s v r (status_done s) (status_ops s.address) (like_complete s (with_stage s s.in_last None) 1 (λ a. refl))
      go false true c = asking_leads s v r awaiting.SetupBytes (asked s.awaited (Some awaiting.SetupBytes)) setup_ops refl refl
      go false false true = of_endpoint (eqb t.ep_id 0) (leb t.ep_id 7) t.ep_dir
      go false false false = ended_leads s v r s _ (λ a. refl)

  -- the reading of place k, where that is awaited
  in_place : (k : ℕ) (r : Reading) → (n ≡ k → Follows s v r (answered_at s v k (matched k r))) → eqb n k ≡ true → Follows s v r (answered_at s v n (matched n r))
  in_place k r h q = let e = eqb-true n k q in subst (λ (i : ℕ). Follows s v r (answered_at s v i (matched i r))) (sym e) (h e)

  -- the link's status is asked at three places
  in_places : (r : LinkStatus) (b c d : Bool) → eqb n 2 ≡ b → eqb n 4 ≡ c → eqb n 6 ≡ d
      → unknown (cond b (link_status r) (cond c (term_status r) (cond d (warm_status r) other))) ≡ false
      → Follows s v (reading.LinkStatus r) (answered_at s v n (matched n (reading.LinkStatus r)))
  unfolding heard_link follows
  in_places r true c d qb qc qd z = in_place 2 (reading.LinkStatus r) (status_leads r) qb
  in_places r false true d qb qc qd z =
      in_place 4 (reading.LinkStatus r)
      (λ e. link_leads s v (reading.LinkStatus r) (heard (term_status r)) (λ next q. rw (← q, e)) (in_sequence s.awaited.flags 4 _ e (after_term s.revision s.awaited.flags))) qc
  in_places r false false true qb qc qd z =
      in_place 6 (reading.LinkStatus r)
      (λ e. link_leads s v (reading.LinkStatus r) (heard (warm_status r)) (λ next q. rw (← q, e)) (in_sequence s.awaited.flags 6 _ e (after_warm s.revision s.awaited.flags))) qd
  in_places r false false false qb qc qd z = absurd (true_not_false z)

  each_leads : (r : Reading) → unknown (matched n r) ≡ false → Follows s v r (answered_at s v n (matched n r))
  unfolding heard_link heard_transfer follows
  each_leads (reading.LinkFlags f) z =
      in_place 1 (reading.LinkFlags f)
      (λ e. link_leads s v (reading.LinkFlags f) (heard (link_flags f)) (λ next q. rw (← q)) (in_sequence f 1 _ e (after_flags s.revision f))) (in_turn _ _ z)
  each_leads (reading.LinkStatus r) z = in_places r _ _ _ refl refl refl z
  each_leads (reading.PortCapability b) z =
      in_place 3 (reading.PortCapability b)
      (λ e. link_leads s v (reading.PortCapability b) (heard (capability b)) (λ next q. rw (← q)) (in_sequence s.awaited.flags 3 _ e (after_capability s.revision s.awaited.flags)))
      (in_turn _ _ z)
  each_leads (reading.MessageWord w) z =
      in_place 5 (reading.MessageWord w)
      (λ e. link_leads s v (reading.MessageWord w) (heard (message w)) (λ next q. rw (← q)) (in_sequence s.awaited.flags 5 _ e (after_message s.revision s.awaited.flags)))
      (in_turn _ _ z)
  each_leads (reading.TransferStatus t) z = in_place 7 (reading.TransferStatus t) (λ e. turn_leads t) (in_turn _ _ z)
  each_leads (reading.SetupBytes b) z =
      in_place 8 (reading.SetupBytes b) (λ e. ended_leads s v (reading.SetupBytes b) (setup_received s b) [] (λ a. refl)) (in_turn _ _ z)
  each_leads (reading.Ep0Length l) z =
      in_place 9 (reading.Ep0Length l) (λ e. ended_leads s v (reading.Ep0Length l) (length_received s l) length_ops (λ a. refl)) (in_turn _ _ z)
  each_leads (reading.Ep0Sequence q) z =
      in_place 10 (reading.Ep0Sequence q)
      (λ e. ended_leads s v (reading.Ep0Sequence q) (packet_sent s q) (sequence_ops (status_follows s))
      (like_either s (status_follows s) (with_sequence s q) (complete (with_sequence s q) 1) (λ a. refl) (like_complete s (with_sequence s q) 1 (λ a. refl)))) (in_turn _ _ z)
  each_leads (reading.ChainPackets p) z =
      in_place 11 (reading.ChainPackets p) (λ e. asking_leads s v (reading.ChainPackets p) awaiting.LastLength (last_asked s.awaited p) [] refl refl) (in_turn _ _ z)
  each_leads (reading.LastLength l) z =
      in_place 12 (reading.LastLength l)
      (λ e. ended_leads s v (reading.LastLength l) (report_state s s.awaited.endpoint false s.awaited.packets l) (report_ops s s.awaited.endpoint false s.awaited.packets l)
      (like_report s s.awaited.endpoint false s.awaited.packets l)) (in_turn _ _ z)

  -- What an accepted reading answers is the one that follows it, and what it leaves remembered is what is noted of it then.
  pub reading_leads : (r : Reading) → matchesb s.awaited.next r ≡ true → reading_in_range r ≡ true → Follows s v r (answered s v (matched_as s.awaited.next r))
  reading_leads r h k = each_leads r (known s.awaited.next r h k)

-- so of a reading that the call's tests let through
pub tested_leads : (room : ℕ) (s : State) (v : Events) (r : Reading) → first_refusal (answer_conditions room s v r) ≡ Ok tt
    → Follows s v r (answered s v (matched_as s.awaited.next r))
tested_leads room s v r h = let t = tested_reading room s v r (none_due (answer_conditions room s v r) h) in reading_leads s v r t.matches t.range
