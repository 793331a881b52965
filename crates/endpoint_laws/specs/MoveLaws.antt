-- The calls of sends and receives, by what their pieces are.
-- Assumes nothing.
use Prim.Native.Nat.{ℕ, ◌+◌, ◌≤◌, min}
use Rattle.std.specs.Prelude.{Bool, cond, List, [], ◌++◌, ◌≡◌, refl, ltb, take, drop, Ok, Err}
use Rattle.std.proofs.Math.Bool.{true, false}
use Rattle.std.proofs.Common.{sym, subst, arith, ltb-false}
use Rattle.std.proofs.Math.ListN.{length}
use Rattle.std.proofs.Math.Seq.{take-append_seam}
use Rattle.base.specs.EachLaws.{true_not_false}
use Rattle.state.specs.declared.Slot.{Slot}
use Rattle.state.specs.declared.State.{State}
use Rattle.state.specs.declared.Events.{Events}
use Rattle.state.specs.declared.Refusal.TheVariants.{TooLong}
use Rattle.state.specs.Refusals.{first_refusal}
use Rattle.state.specs.Setters.{with_slot}
use Rattle.state_slots.specs.Slots.{busyb, slot_number, slot_of, own_buffer}
use Rattle.state_call.specs.Outcome.{or_else, front}
use Rattle.transfer_piece.specs.Piece.{piece}
use Rattle.transfer_take.specs.Take.{take_conditions, taken_slot, take_call}
use Rattle.endpoint_parts.specs.Parts.{part, piece_of, put}
use Rattle.endpoint_parts.specs.PartsLaws.{part_whole}
use Rattle.endpoint_choice.specs.declared.Asked.{Asked}
use Rattle.endpoint_choice.specs.Choice.{place, rest, closes, own_unfit, send_direct, send_piece, own_transfer, any_length}
use Rattle.endpoint_send.specs.Send.{send_copies}
use Rattle.endpoint_sent.specs.Sent.{sent_next, sent_call}
use Rattle.endpoint_received.specs.Received.{receive_most, received_next, received_call}
use Rattle.endpoint_laws.specs.Sends.{handed}
use Rattle.endpoint_laws.specs.Receives.{stored}
use Rattle.endpoint_laws.specs.ReceiveLaws.{put_none}

-- What the controller is handed at a begin is the piece of the caller's bytes: in its place, or at the start of the own
-- buffer, where `send` has copied it.
pub handed_over_lem : (x : Slot) (k : Asked) (bytes own : List ℕ) → length bytes ≡ k.length → piece_of (send_direct k) bytes (front (send_copies x k bytes) own) (place k) (send_piece x k).length ≡ handed x k bytes
handed_over_lem x k bytes own lb = go (send_direct k)
  where
    chosen : Bool → ℕ
    chosen d = (cond d (piece (k.address + place k) (rest k) (closes x k)) (piece (own_buffer x).address (min (own_buffer x).size (rest k)) false)).length

    go : (d : Bool) → piece_of d bytes (front (cond d [] (part bytes (place k) (chosen d))) own) (place k) (chosen d) ≡ part bytes (place k) (chosen d)
    go true = refl
    go false =
        let n = min (own_buffer x).size (rest k) in
        let p = part bytes (place k) n in
        subst (λ m. take m (p ++ drop (length p) own) ≡ p) (part_whole bytes (place k) n (omega (arith, lb))) (take-append_seam p (drop (length p) own))

-- A piece of a send that is done is taken, and `sent` says what is next.
module _ (s : State) (v : Events) (e : ℕ) (k : Asked) (own_address own_size : ℕ) where
  pub sent_says_lem : first_refusal (take_conditions s v e true (own_unfit (slot_of s e true) own_address own_size)) ≡ Ok tt → busyb (slot_of s e true).phase ≡ false
      → ltb any_length (slot_of s e true).transfer.progress ≡ false
      → ((sent_call s v e k own_address own_size).answer ≡ Ok (sent_next (slot_of s e true) k (slot_of s e true).transfer.progress))
      × ((sent_call s v e k own_address own_size).state ≡ with_slot s (slot_number e true) (taken_slot (slot_of s e true)))
  unfolding sent_call take_call or_else
  sent_says_lem f b l = rw (f, b, l) (refl, refl)

module _ (s : State) (v : Events) (e : ℕ) (k : Asked) (own : List ℕ) (own_address : ℕ) (fits : first_refusal (take_conditions s v e false (own_unfit (slot_of s e false) own_address (length own))) ≡ Ok tt) (done : busyb (slot_of s e false).phase ≡ false) where
  -- A piece of a receive that is done is taken, and stands in the caller's bytes.
  pub received_stored : (bytes : List ℕ) → length bytes ≡ k.length → ltb (receive_most (slot_of s e false) k (length own)) (slot_of s e false).transfer.progress ≡ false
      → ((received_call s v e k own own_address).answer ≡ Ok (received_next (slot_of s e false) k (slot_of s e false).transfer.progress))
      × ((put bytes (place k) (received_call s v e k own own_address).copied ≡ stored (own_transfer (slot_of s e false)) bytes own (place k) (slot_of s e false).transfer.progress)
      × ((place k + (slot_of s e false).transfer.progress ≤ length bytes) × (own_transfer (slot_of s e false) ≡ true → (slot_of s e false).transfer.progress ≤ length own)))
  unfolding received_call take_call or_else
  received_stored bytes lb l =
      let n = (slot_of s e false).transfer.progress in
      let h = room (own_transfer (slot_of s e false)) (ltb-false _ n l) in
      rw (fits, done, l) (refl, (refl, (omega (arith, h.0, lb), h.1)))
    where
      room : (o : Bool) → (slot_of s e false).transfer.progress ≤ min any_length (cond o (min (rest k) (length own)) (rest k))
          → ((slot_of s e false).transfer.progress ≤ rest k) × (o ≡ true → (slot_of s e false).transfer.progress ≤ length own)
      room true h = (omega (arith, h), λ q. omega (arith, h))
      room false h = (omega (arith, h), λ q. absurd (true_not_false (sym q)))

  -- 9 closes the transfer and stores no byte
  pub received_nine : (bytes : List ℕ) → ltb (receive_most (slot_of s e false) k (length own)) (slot_of s e false).transfer.progress ≡ true
      → ((received_call s v e k own own_address).answer ≡ Err TooLong)
      × (((received_call s v e k own own_address).state ≡ with_slot s (slot_number e false) (taken_slot (slot_of s e false))) × (put bytes (place k) (received_call s v e k own own_address).copied ≡ bytes))
  unfolding received_call take_call or_else
  received_nine bytes l = rw (fits, done, l) (refl, (refl, put_none bytes (place k)))
