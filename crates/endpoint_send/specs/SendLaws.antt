-- A piece of a send, by its ways out.
-- Assumes nothing.
use Rattle.std.specs.Prelude.{ℕ, ◌+◌, min, Bool, false, ◌&&◌, not, cond, List, [], ◌∷◌, ◌≡◌, eqb, length, Ok, Err, Result}
use Rattle.std.specs.Result.{is_ok}
use Rattle.std.proofs.Math.Bool.{true}
use Rattle.std.proofs.Math.Path.{refl, subst}
use Rattle.std.proofs.Common.{sym, ◌∙◌, arith, eqb-true}
use Rattle.std.proofs.lemmas.Bool.{not-false}
use Rattle.base.specs.EachLaws.{and_right}
use Rattle.state.specs.declared.Slot.{Slot}
use Rattle.state.specs.declared.State.{State}
use Rattle.state.specs.declared.Events.{Events}
use Rattle.state.specs.declared.Refusal.{Refusal}
use Rattle.state.specs.Fresh.{slot_at}
use Rattle.state.specs.Numbers.{refusal_number}
use Rattle.state.specs.Refusals.{Check, Condition, first_refusal, Bound}
use Rattle.state.specs.RefusalsLaws.{bound}
use Rattle.state_slots.specs.Slots.{slot_place, slot_of, own_buffer}
use Rattle.state_slots.specs.Waking.{no_wakes}
use Rattle.state_call.specs.Outcome.{Outcome, or_else, unless}
use Rattle.transfer_piece.specs.Piece.{piece}
use Rattle.transfer_begin.specs.Begin.{begin_conditions, begin_call}
use Rattle.endpoint_parts.specs.Parts.{part, piece_of}
use Rattle.endpoint_parts.specs.PartsLaws.{part_whole}
use Rattle.endpoint_choice.specs.declared.Asked.{Asked}
use Rattle.endpoint_choice.specs.Choice.{place, rest, closes, longer, own_unfit, send_direct, send_piece, send_begins}
use Rattle.endpoint_answer.specs.declared.Move.TheVariants as move
use Rattle.endpoint_answer.specs.Answers.{move_numbers, begun_answer}
use Rattle.endpoint_answer.specs.AnswersLaws.{chosen_check, begin_lent, begin_slot}
use Rattle.endpoint_send.specs.Send.{send_conditions, send_copies, send_made, send_call, send_says}

-- the piece lies whole in the bytes that it is a part of
pub piece_long : (x : Slot) (k : Asked) (bytes own : List ℕ) → length own ≡ (own_buffer x).size → length bytes ≡ k.length
    → length (piece_of (send_direct k) bytes own (place k) (send_piece x k).length) ≡ (send_piece x k).length
piece_long x k bytes own lo lb = go (send_direct k)
  where
    go : (d : Bool)
        → length (piece_of d bytes own (place k) (cond d (piece (k.address + place k) (rest k) (closes x k)) (piece (own_buffer x).address (min (own_buffer x).size (rest k)) false)).length)
        ≡ (cond d (piece (k.address + place k) (rest k) (closes x k)) (piece (own_buffer x).address (min (own_buffer x).size (rest k)) false)).length
    go true = part_whole bytes (place k) (rest k) (omega (arith, lb))
    go false = part_whole own 0 (min (own_buffer x).size (rest k)) (omega (arith, lo))

-- and what is copied of it fits the own buffer
copies : (x : Slot) (k : Asked) (bytes : List ℕ) (size : ℕ) → size ≡ (own_buffer x).size
    → cond (not (send_direct k)) (part bytes (place k) (min (send_piece x k).length size)) [] ≡ send_copies x k bytes
copies x k bytes size e = go (send_direct k)
  where
    go : (d : Bool)
        → cond (not d) (part bytes (place k) (min (cond d (piece (k.address + place k) (rest k) (closes x k)) (piece (own_buffer x).address (min (own_buffer x).size (rest k)) false)).length size)) []
        ≡ cond d [] (part bytes (place k) (cond d (piece (k.address + place k) (rest k) (closes x k)) (piece (own_buffer x).address (min (own_buffer x).size (rest k)) false)).length)
    go true = refl
    go false = let held : min (min (own_buffer x).size (rest k)) size ≡ min (own_buffer x).size (rest k) = omega (arith, e) in rw held

module _ (room : ℕ) (s : State) (v : Events) (e : ℕ) (k : Asked) (bytes : List ℕ) (own_address own_size : ℕ) where
  -- Each refusal is given exactly where it is the first that is due, and none where none is.
  pub send_bound : Bound (send_conditions room s v e k own_address own_size) (first_refusal (send_conditions room s v e k own_address own_size))
  send_bound = bound (send_conditions room s v e k own_address own_size)

  -- one that fits was lent the own buffer
  pub send_lent : first_refusal (send_conditions room s v e k own_address own_size) ≡ Ok tt → own_size ≡ (own_buffer (slot_of s e true)).size
  send_lent h =
      let x = slot_of s e true in
      let fits = not-false _ (begin_lent room s v e true (send_piece x k) (longer x k) (own_unfit x own_address own_size) h) in
      eqb-true _ _ (and_right (eqb own_address (own_buffer x).address) (eqb own_size (own_buffer x).size) fits)

  -- the tests by what stands in the endpoint's place
  abbrev pub place_conditions : List Condition
  place_conditions =
      begin_conditions room s v e true (send_piece (slot_at s (slot_place e true)) k) (longer (slot_at s (slot_place e true)) k) (own_unfit (slot_at s (slot_place e true)) own_address own_size)

  same_check : first_refusal place_conditions ≡ first_refusal (send_conditions room s v e k own_address own_size)
  same_check = chosen_check room s v e true (λ x. send_piece x k) (λ x. longer x k) (λ x. own_unfit x own_address own_size)

  same_slot : first_refusal (send_conditions room s v e k own_address own_size) ≡ Ok tt → slot_at s (slot_place e true) ≡ slot_of s e true
  same_slot h = begin_slot room s v e true (send_piece (slot_of s e true) k) (longer (slot_of s e true) k) (own_unfit (slot_of s e true) own_address own_size) h

  -- nothing is left to send
  pub send_nothing : send_begins (slot_at s (slot_place e true)) k ≡ false
      → (or_else (first_refusal place_conditions) Err (Ok (move.Ended k.length)) ≡ (send_call room s v e k bytes own_address own_size).answer)
      × ((s ≡ (send_call room s v e k bytes own_address own_size).state)
      × (([] ≡ (send_call room s v e k bytes own_address own_size).ops)
      × ((no_wakes ≡ (send_call room s v e k bytes own_address own_size).wakes)
      × ((move_numbers (or_else (first_refusal place_conditions) Err (Ok (move.Ended k.length))) ≡ send_says room s v e k own_address own_size)
      × ([] ≡ (send_call room s v e k bytes own_address own_size).copied)))))
  unfolding send_call or_else
  send_nothing none = rw same_check (go (first_refusal (send_conditions room s v e k own_address own_size)) refl)
    where
      go : (c : Check) → first_refusal (send_conditions room s v e k own_address own_size) ≡ c
          → (or_else c Err (Ok (move.Ended k.length)) ≡ (unless Err c s v (send_made s v e k bytes)).answer)
          × ((s ≡ (unless Err c s v (send_made s v e k bytes)).state)
          × (([] ≡ (unless Err c s v (send_made s v e k bytes)).ops)
          × ((no_wakes ≡ (unless Err c s v (send_made s v e k bytes)).wakes)
          × ((move_numbers (or_else c Err (Ok (move.Ended k.length))) ≡ or_else c (λ r. refusal_number r ∷ []) (cond (send_begins (slot_of s e true) k) (0 ∷ 0 ∷ (send_piece (slot_of s e true) k).length ∷ []) (0 ∷ 2 ∷ k.length ∷ [])))
          × ([] ≡ (unless Err c s v (send_made s v e k bytes)).copied)))))
      go (Err r) h = (refl, (refl, (refl, (refl, (refl, refl)))))
      go (Ok tt) h = rw (rw (same_slot h) at none) (refl, (refl, (refl, (refl, (refl, refl)))))

  -- what a begin asked by a slot x comes to is what the call says; own is the own buffer's bytes, after the copy
  abbrev place_call : Slot → Outcome (Result Unit Refusal)
  place_call x = begin_call room s v e true (send_piece x k) (longer x k) (own_unfit x own_address own_size)

  abbrev pub SendBegun : Slot → List ℕ → Type 0
  SendBegun x own =
      (begun_answer (length (piece_of (send_direct k) bytes own (place k) (send_piece x k).length)) (place_call x).answer ≡ (send_call room s v e k bytes own_address own_size).answer)
      × (((place_call x).state ≡ (send_call room s v e k bytes own_address own_size).state)
      × (((place_call x).ops ≡ (send_call room s v e k bytes own_address own_size).ops)
      × (((place_call x).wakes ≡ (send_call room s v e k bytes own_address own_size).wakes)
      × ((move_numbers (begun_answer (length (piece_of (send_direct k) bytes own (place k) (send_piece x k).length)) (place_call x).answer) ≡ send_says room s v e k own_address own_size)
      × (cond (is_ok (place_call x).answer && not (send_direct k)) (part bytes (place k) (min (send_piece x k).length own_size)) [] ≡ (send_call room s v e k bytes own_address own_size).copied)))))

  pub send_begun : (own : List ℕ) → length own ≡ own_size → length bytes ≡ k.length → send_begins (slot_at s (slot_place e true)) k ≡ true → SendBegun (slot_at s (slot_place e true)) own
  unfolding send_call begin_call or_else
  send_begun own lo lb some = go (first_refusal (send_conditions room s v e k own_address own_size)) refl
    where
      go : (c : Check) → first_refusal (send_conditions room s v e k own_address own_size) ≡ c → SendBegun (slot_at s (slot_place e true)) own
      go (Err r) h = rw (same_check ∙ h, h) (refl, (refl, (refl, (refl, (refl, refl)))))
      go (Ok tt) h =
          let x = slot_of s e true in
          let lent = send_lent h in
          subst (λ y. SendBegun y own) (sym (same_slot h))
          (rw (h, rw (same_slot h) at some, piece_long x k bytes own (lo ∙ lent) lb) (refl, (refl, (refl, (refl, (refl, copies x k bytes own_size lent))))))
