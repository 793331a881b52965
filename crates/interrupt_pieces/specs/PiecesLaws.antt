-- A reading by pieces of the state is the reading on the state.
-- Assumes nothing.
use Rattle.std.specs.Prelude.{ℕ, ◌+◌, ◌*◌, ◌%◌, ◌≤◌, Bool, cond, [], ◌++◌, ◌≡◌, None}
use Rattle.std.proofs.Math.Bool.{true, false}
use Rattle.std.proofs.Math.Path.{refl, ap}
use Rattle.std.proofs.Common.{◌∙◌, arith, le-leb, leb-true, eqb-true}
use Rattle.std.proofs.Math.Dec.{eqb, leb}
use Rattle.base.specs.EachLaws.{and_right, set_own}
use Rattle.state.specs.declared.State.{State}
use Rattle.state.specs.declared.Events.{Events}
use Rattle.state.specs.declared.TransferStatus.{TransferStatus}
use Rattle.state.specs.declared.Reading.{Reading}
use Rattle.state.specs.declared.Reading.TheVariants as reading
use Rattle.state.specs.Awaiting.{awaiting_number}
use Rattle.state.specs.Fresh.{fresh_slot, slot_at}
use Rattle.state.specs.Setters.{with_stage, with_sequence, limit_of}
use Rattle.state_slots.specs.Slots.{slot_number, slot_place}
use Rattle.state_slots.specs.SlotsLaws.{own_place}
use Rattle.state_slots.specs.Completing.{complete}
use Rattle.state_slots.specs.CompletingLaws.{complete_stored}
use Rattle.state_sound.specs.Sound.{soundb}
use Rattle.state_sound.proofs.FactLaws.{own_facts}
use Rattle.regs_endpoint.specs.Endpoint.{chain_ack_ops}
use Rattle.transfer_window.specs.Window.{in_hand_count, window_of}
use Rattle.transfer_step.specs.Step.{report_step}
use Rattle.transfer_report.specs.Report.{report_state, report_ops, slots_counted}
use Rattle.transfer_report.specs.ReportLaws.{stored_after, list_after_lem, list_in}
use Rattle.control_report.specs.Ep0.{setup_received, status_follows}
use Rattle.interrupt_asks.specs.Turns.{Heard}
use Rattle.interrupt_transfer.specs.declared.TransferEffect.{TransferEffect}
use Rattle.interrupt_transfer.specs.Transfers.{Turned, over, status_turn}
use Rattle.interrupt_transfer.specs.Pieces.{sight_of, pieces_of, placed, after_pieces, status_slot, turned_to, report_pieces, status_pieces}
use Rattle.interrupt_readings.specs.Matched.{Matched, other, link_flags, link_status, capability, term_status, message, warm_status, transfer_status, setup_bytes, ep0_length, ep0_sequence, chain_packets, matched_as}
use Rattle.interrupt_followers.specs.Followers.{unturned, heard_transfer}
use Rattle.interrupt_followers.specs.Pieces.{with_number, sequence_pieces, heard_pieces}
use Rattle.interrupt_hear.specs.Hear.{slots_heard, heard_slot}

-- what a reading by pieces has in common with one on the state
pub record SameTurn (s : State) (i : ℕ) (h : Heard TransferEffect) (o : Turned) : Type 0 where
  pub state : after_pieces s i h.effect ≡ o.state
  pub awaited : h.awaited ≡ o.awaited
  pub ops : h.ops ≡ o.ops

-- pieces that are stored as they were taken out change nothing
pub placed_own : (s : State) (i : ℕ) → placed s i (pieces_of s i) ≡ s
placed_own s i = rw (set_own s.endpoints i fresh_slot)

-- a report of a slot by itself, with the window that the state has
module _ (s : State) (e : ℕ) (packets last : ℕ) where
  abbrev ReportSame : ℕ → Bool → Type 0
  ReportSame w incoming =
      SameTurn s (slot_number e incoming) (report_pieces (sight_of s (slot_number e incoming) w) (pieces_of s (slot_number e incoming)) e incoming packets last)
      (over (report_state s e incoming packets last) (report_ops s e incoming packets last))

  out_placed : ReportSame (window_of (in_hand_count s 14)) false
  unfolding report_state report_ops
  out_placed =
      let i = slot_number e false in
      let step = report_step (limit_of s) false packets last (slot_at s i) in
      record { state = stored_after s i false step; awaited = refl; ops = ap (λ l. chain_ack_ops e false ++ l) (list_after_lem s e false step) }

  -- IN has none
  in_placed : (w : ℕ) → ReportSame w true
  unfolding report_state report_ops
  in_placed w =
      let i = slot_number e true in
      let step = report_step (limit_of s) true packets last (slot_at s i) in
      record { state = stored_after s i true step; awaited = refl; ops = ap (λ l. chain_ack_ops e true ++ l) (list_in (limit_of s) w (window_of (in_hand_count s (slots_counted true))) e step ∙ list_after_lem s e true step) }

-- ---- the transfer status

module _ (s : State) (w : ℕ) (t : TransferStatus) where
  abbrev StatusSame : Type 0
  StatusSame =
      SameTurn s (status_slot t) (status_pieces (sight_of s (status_slot t) w) (pieces_of s (status_slot t)) t) (status_turn s t)

  abbrev e : ℕ
  e = t.ep_id

  -- slots of endpoints 1 to 7 are where their numbers say
  its_slot : leb e 7 ≡ true → 2 * (e % 8) + 1 ≡ slot_number e true
  its_slot h = omega (arith, leb-true e 7 h)

  pub status_placed : StatusSame
  unfolding status_pieces status_turn
  status_placed = by_status t.udif_status refl
    where
      reported : t.udif_status ≡ false → t.udif_setup ≡ false → t.uif_transfer ≡ true → (a : Bool) → eqb e 0 ≡ a → (b : Bool) → leb e 7 ≡ b → (c : Bool) → t.ep_dir ≡ c → StatusSame
      reported p q r true x b y c z = rw (p, q, r, x) (record { state = placed_own s _; awaited = refl; ops = refl })
      reported p q r false x false y c z = rw (p, q, r, x, y) (record { state = placed_own s _; awaited = refl; ops = refl })
      reported p q r false x true y false z = rw (p, q, r, x, y, z) (record { state = placed_own s _; awaited = refl; ops = refl })
      reported p q r false x true y true z = rw (p, q, r, x, y, z, its_slot y) (in_placed s e 0 0 w)

      by_transfer : t.udif_status ≡ false → t.udif_setup ≡ false → (c : Bool) → t.uif_transfer ≡ c → StatusSame
      by_transfer p q true r = reported p q r (eqb e 0) refl (leb e 7) refl t.ep_dir refl
      by_transfer p q false r = rw (p, q, r) (record { state = placed_own s _; awaited = refl; ops = refl })

      by_setup : t.udif_status ≡ false → (b : Bool) → t.udif_setup ≡ b → StatusSame
      by_setup p true q = rw (p, q) (record { state = placed_own s _; awaited = refl; ops = refl })
      by_setup p false q = by_transfer p q t.uif_transfer refl

      by_status : (a : Bool) → t.udif_status ≡ a → StatusSame
      by_status true p = rw p (record { state = complete_stored (with_stage s s.in_last None) 1; awaited = refl; ops = refl })
      by_status false p = by_setup p t.udif_setup refl

-- ---- every reading

module _ (s : State) (v : Events) (sound : soundb s v ≡ true) where
  abbrev window : ℕ
  window = window_of (in_hand_count s (slots_heard s.awaited.next))

  abbrev Same : Reading → Type 0
  Same r =
      let i = heard_slot s.awaited.endpoint r in
      SameTurn s i (heard_pieces (sight_of s i window) (pieces_of s i) (matched_as s.awaited.next r)) (heard_transfer s (matched_as s.awaited.next r))

  still : (i : ℕ) → SameTurn s i (turned_to (pieces_of s i) s.awaited []) (unturned s)
  still i = record { state = placed_own s i; awaited = refl; ops = refl }

  abbrev SameAt : ℕ → Matched → Type 0
  SameAt i m = SameTurn s i (heard_pieces (sight_of s i window) (pieces_of s i) m) (heard_transfer s m)

  either : (i : ℕ) (b : Bool) (m k : Matched) → SameAt i m → SameAt i k → SameAt i (cond b m k)
  either i true m k h g = h
  either i false m k h g = g

  abbrev n : ℕ
  n = awaiting_number s.awaited.next

  -- a chain's endpoint is one of the seven
  few : eqb n 12 ≡ true → s.awaited.endpoint ≤ 7
  few p =
      let c = (own_facts s v sound).chain in
      let last : leb 11 n ≡ true = le-leb 11 n (omega (arith, eqb-true n 12 p)) in
      leb-true s.awaited.endpoint 7 (and_right (leb 1 s.awaited.endpoint) (leb s.awaited.endpoint 7) (rw last at c))

  sent : (q : ℕ) (b : Bool)
      → after_pieces s 1 (sequence_pieces b (with_number (pieces_of s 1) q)) ≡ cond b (with_sequence s q) (complete (with_sequence s q) 1)
  sent q true = rw (set_own s.endpoints 1 fresh_slot)
  sent q false = complete_stored (with_sequence s q) 1

  pub pieces_same : (r : Reading) → Same r
  unfolding heard_pieces heard_transfer
  pieces_same (reading.LinkFlags f) = either 1 (eqb n 1) (link_flags f) other (still 1) (still 1)
  pieces_same (reading.LinkStatus r) =
      either 1 (eqb n 2) (link_status r) _ (still 1) (either 1 (eqb n 4) (term_status r) _ (still 1) (either 1 (eqb n 6) (warm_status r) other (still 1) (still 1)))
  pieces_same (reading.PortCapability b) = either 1 (eqb n 3) (capability b) other (still 1) (still 1)
  pieces_same (reading.MessageWord w) = either 1 (eqb n 5) (message w) other (still 1) (still 1)
  pieces_same (reading.TransferStatus t) = either (status_slot t) (eqb n 7) (transfer_status t) other (status_placed s window t) (still (status_slot t))
  pieces_same (reading.SetupBytes b) =
      either 1 (eqb n 8) (setup_bytes b) other (record { state = ap (λ t. setup_received t b) (placed_own s 1); awaited = refl; ops = refl }) (still 1)
  pieces_same (reading.Ep0Length l) = either 0 (eqb n 9) (ep0_length l) other (record { state = refl; awaited = refl; ops = refl }) (still 0)
  pieces_same (reading.Ep0Sequence q) =
      either 1 (eqb n 10) (ep0_sequence q) other (record { state = sent q (status_follows s); awaited = refl; ops = refl }) (still 1)
  pieces_same (reading.ChainPackets p) = either 1 (eqb n 11) (chain_packets p) other (record { state = placed_own s 1; awaited = refl; ops = refl }) (still 1)
  pieces_same (reading.LastLength l) = go (eqb n 12) refl
    where
      go : (b : Bool) → eqb n 12 ≡ b → Same (reading.LastLength l)
      go true p = rw (p, own_place s.awaited.endpoint false (few p)) (out_placed s s.awaited.endpoint s.awaited.packets l)
      go false p = rw p (still (slot_place s.awaited.endpoint false))
