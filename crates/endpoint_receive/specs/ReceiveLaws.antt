-- A piece of a receive begun, by what stands in its endpoint's place.
-- Assumes nothing.
use Rattle.std.specs.Prelude.{ℕ, ◌*◌, ◌/◌, ◌%◌, ◌≤◌, ◌<◌, Bool, true, ◌&&◌, cond, List, ◌≡◌, eqb, leb, ltb, length, Ok, Err, Option, Some, None, Result}
use Rattle.std.proofs.Math.Bool.{false}
use Rattle.std.proofs.Math.Path.{refl, subst}
use Rattle.std.proofs.Common.{sym, ◌∙◌, mod-eq_of_lt, lt_irrefl, arith, ltb-true, le-ltb, leb-true, leb-false, eqb-true}
use Rattle.std.proofs.lemmas.Bool.{not-false}
use Rattle.base.specs.EachLaws.{and_left, and_right}
use Rattle.state.specs.declared.EndpointConfig.{EndpointConfig}
use Rattle.state.specs.declared.Slot.{Slot}
use Rattle.state.specs.declared.State.{State}
use Rattle.state.specs.declared.Events.{Events}
use Rattle.state.specs.declared.Refusal.{Refusal}
use Rattle.state.specs.Fresh.{slot_at}
use Rattle.state.specs.Refusals.{Check, first_refusal, Bound}
use Rattle.state.specs.RefusalsLaws.{none_due, bound}
use Rattle.state_slots.specs.Slots.{slot_number, size_of, slot_size, buffer_of, own_buffer, slot_place, slot_of}
use Rattle.state_sound.specs.Clauses.{in_ram, aligned, multiple, packet_size, whole_packets}
use Rattle.state_sound.specs.Sound.{soundb, configb}
use Rattle.state_sound.proofs.FactLaws.{multiple_facts, slot_sound, slot_facts}
use Rattle.state_call.specs.Outcome.{Outcome, or_else}
use Rattle.state_call.specs.OutcomeLaws.{passed}
use Rattle.state_laws.specs.SlotLaws.{slot_range}
use Rattle.transfer_piece.specs.Piece.{begin_own}
use Rattle.transfer_begin.specs.Begin.{begin_call}
use Rattle.transfer_begin.specs.BeginLaws.{begin_reaches}
use Rattle.endpoint_choice.specs.declared.Asked.{Asked}
use Rattle.endpoint_parts.specs.Parts.{piece_of}
use Rattle.endpoint_parts.specs.PartsLaws.{part_whole}
use Rattle.endpoint_choice.specs.Choice.{place, rest, own_unfit, own_room, receive_direct, receive_piece}
use Rattle.endpoint_choice.specs.ChoiceLaws.{receive_reached, whole_below}
use Rattle.endpoint_answer.specs.Answers.{move_numbers, begun_answer}
use Rattle.endpoint_answer.specs.AnswersLaws.{chosen_check, begin_lent, begin_slot}
use Rattle.endpoint_receive.specs.Receive.{receive_conditions, receive_call, receive_says}

-- a buffer of whole packets holds one
holds : (n m : ℕ) → whole_packets n m ≡ true → m ≤ n
holds n m h = go (leb m n) refl
  where
    facts : (0 < n) × ((0 < m) × (n % m ≡ 0))
    facts = (ltb-true 0 n (and_left (ltb 0 n) (multiple n m) h), multiple_facts n m (and_right (ltb 0 n) (multiple n m) h))

    go : (b : Bool) → leb m n ≡ b → m ≤ n
    go true e = leb-true m n e
    go false e = absurd (lt_irrefl 0 (subst (λ k. 0 < k) (sym (mod-eq_of_lt (leb-false m n e)) ∙ facts.1.1) facts.0))

-- so an own buffer holds a packet, where there is any
own_holds : (i : ℕ) (o : Option EndpointConfig) → configb i o ≡ true → size_of o ≤ (buffer_of o).size
unfolding configb
own_holds i None h = omega arith
own_holds i (Some c) h =
    let named = eqb (slot_number c.endpoint.index c.endpoint.incoming) i in
    let sized = packet_size c.max_packet_size in
    let inside = in_ram c.buffer.address c.buffer.size in
    let even = aligned c.buffer.address in
    let whole = whole_packets c.buffer.size c.max_packet_size in
    holds c.buffer.size c.max_packet_size (and_left whole true (and_right even (whole && true) (and_right inside (even && (whole && true)) (and_right sized (inside && (even && (whole && true))) (and_right named (sized && (inside && (even && (whole && true)))) h)))))

-- the piece lies whole in the bytes that it is a part of
pub piece_long : (x : Slot) (k : Asked) (bytes own : List ℕ) → length own ≡ (own_buffer x).size → length bytes ≡ k.length → slot_size x ≤ (own_buffer x).size
    → length (piece_of (receive_direct x k) bytes own (place k) (receive_piece x k).length) ≡ (receive_piece x k).length
piece_long x k bytes own lo lb one = go (receive_direct x k) k.single refl
  where
    go : (d b : Bool) → receive_direct x k ≡ d
        → length (piece_of d bytes own (place k) (cond b (slot_size x) (cond d (rest k / slot_size x * slot_size x) (own_room (own_buffer x).size (slot_size x) (rest k)))))
        ≡ cond b (slot_size x) (cond d (rest k / slot_size x * slot_size x) (own_room (own_buffer x).size (slot_size x) (rest k)))
    go true true e = part_whole bytes (place k) (slot_size x) (omega (arith, lb, (receive_reached x k e).1.0))
    go true false e = part_whole bytes (place k) (rest k / slot_size x * slot_size x) (omega (arith, lb, whole_below (rest k) (slot_size x)))
    go false true e = part_whole own 0 (slot_size x) (omega (arith, lo, one))
    go false false e = part_whole own 0 (own_room (own_buffer x).size (slot_size x) (rest k)) (omega (arith, lo))

module _ (room : ℕ) (s : State) (v : Events) (e : ℕ) (k : Asked) (own_address own_size : ℕ) where
  -- Each refusal is given exactly where it is the first that is due, and none where none is.
  pub receive_bound : Bound (receive_conditions room s v e k own_address own_size) (first_refusal (receive_conditions room s v e k own_address own_size))
  receive_bound = bound (receive_conditions room s v e k own_address own_size)

  abbrev place_call : Slot → Outcome (Result Unit Refusal)
  place_call x = begin_call room s v e false (receive_piece x k) false (own_unfit x own_address own_size)

  -- an accepted one was lent the own buffer, which holds a packet
  receive_own : first_refusal (receive_conditions room s v e k own_address own_size) ≡ Ok tt
      → (own_size ≡ (own_buffer (slot_of s e false)).size) × (slot_size (slot_of s e false) ≤ (own_buffer (slot_of s e false)).size)
  receive_own h =
      let x = slot_of s e false in
      let p = receive_piece x k in
      let unfit = own_unfit x own_address own_size in
      let q = passed room (soundb s v) s.awaited.next (begin_own s.powered e false p.address p.length false unfit x) (none_due (receive_conditions room s v e k own_address own_size) h) in
      let range = slot_range e false (begin_reaches room s v e false p false unfit h) in
      let facts = slot_facts s.powered (slot_number e false) x (le-ltb (slot_number e false) 2 range.0) (slot_sound s v q.1.0 (slot_number e false) range.1) in
      let lent = not-false _ (begin_lent room s v e false p false unfit h) in
      (eqb-true _ _ (and_right (eqb own_address (own_buffer x).address) (eqb own_size (own_buffer x).size) lent), own_holds (slot_number e false) x.config facts.config)

  -- what a begin asked by a slot x comes to is what the call says
  abbrev pub ReceiveBegun : List ℕ → List ℕ → Slot → Type 0
  ReceiveBegun bytes own x =
      (begun_answer (length (piece_of (receive_direct x k) bytes own (place k) (receive_piece x k).length)) (place_call x).answer ≡ (receive_call room s v e k own_address own_size).answer)
      × (((place_call x).state ≡ (receive_call room s v e k own_address own_size).state)
      × (((place_call x).ops ≡ (receive_call room s v e k own_address own_size).ops)
      × (((place_call x).wakes ≡ (receive_call room s v e k own_address own_size).wakes) × (move_numbers (begun_answer (length (piece_of (receive_direct x k) bytes own (place k) (receive_piece x k).length)) (place_call x).answer) ≡ receive_says room s v e k own_address own_size))))

  pub receive_begun : (bytes own : List ℕ) → length bytes ≡ k.length → length own ≡ own_size → ReceiveBegun bytes own (slot_at s (slot_place e false))
  unfolding receive_call begin_call or_else
  receive_begun bytes own lb lo = go (first_refusal (receive_conditions room s v e k own_address own_size)) refl
    where
      go : (c : Check) → first_refusal (receive_conditions room s v e k own_address own_size) ≡ c → ReceiveBegun bytes own (slot_at s (slot_place e false))
      go (Err r) h = rw (chosen_check room s v e false (λ x. receive_piece x k) (λ x. false) (λ x. own_unfit x own_address own_size) ∙ h, h) (refl, (refl, (refl, (refl, refl))))
      go (Ok tt) h =
          let f = receive_own h in
          subst (ReceiveBegun bytes own) (sym (begin_slot room s v e false (receive_piece (slot_of s e false) k) false (own_unfit (slot_of s e false) own_address own_size) h))
          (rw (h, piece_long (slot_of s e false) k bytes own (lo ∙ f.0) lb f.1) (refl, (refl, (refl, (refl, refl)))))
