-- A begin whose piece was chosen by what stands in its endpoint's place.
-- Assumes nothing.
use Rattle.std.specs.Prelude.{ℕ, Bool, true, false, not, ◌||◌, ◌≡◌, ltb, Ok, Err}
use Rattle.std.proofs.Math.Path.{refl, ap}
use Rattle.std.proofs.Common.{sym, ◌∙◌}
use Rattle.base.specs.EachLaws.{true_not_false}
use Rattle.ops.specs.Ops.{list_numbers}
use Rattle.state.specs.declared.Slot.{Slot}
use Rattle.state.specs.declared.State.{State}
use Rattle.state.specs.declared.Events.{Events}
use Rattle.state.specs.declared.Refusal.TheVariants.{ListTooShort, Unsound, OutOfTurn, TooLong, Disabled, InHand, UnfitBuffer}
use Rattle.state.specs.Fresh.{slot_at}
use Rattle.state.specs.Awaiting.{awaitingb}
use Rattle.state.specs.Refusals.{Check, refuse_if, first_refusal}
use Rattle.state.specs.RefusalsLaws.{none_due, not_due}
use Rattle.state_slots.specs.Slots.{idleb, slot_size, slot_place, slot_of, ready}
use Rattle.state_slots.specs.SlotsLaws.{data_place}
use Rattle.state_sound.specs.Sound.{soundb}
use Rattle.state_call.specs.Outcome.{or_else}
use Rattle.state_call.specs.OutcomeLaws.{call_answer, passed, reached}
use Rattle.transfer_begin.specs.Begin.{begin_conditions, begin_call}
use Rattle.transfer_begin.specs.BeginLaws.{begin_reaches}
use Rattle.transfer_piece.specs.declared.Piece.{Piece}
use Rattle.transfer_piece.specs.Piece.{piece_fits, begin_own}

module _ (room : ℕ) (s : State) (v : Events) (e : ℕ) (incoming : Bool) where
  -- an endpoint without a slot is refused, whatever was chosen; another's place is its slot
  pub chosen_check : (p : Slot → Piece) (long unfit : Slot → Bool)
      → first_refusal (begin_conditions room s v e incoming (p (slot_at s (slot_place e incoming))) (long (slot_at s (slot_place e incoming))) (unfit (slot_at s (slot_place e incoming))))
      ≡ first_refusal (begin_conditions room s v e incoming (p (slot_of s e incoming)) (long (slot_of s e incoming)) (unfit (slot_of s e incoming)))
  chosen_check p long unfit =
      ap (λ k. refuse_if (ltb room list_numbers) ListTooShort (refuse_if (not (soundb s v)) Unsound (refuse_if (awaitingb s.awaited.next) OutOfTurn k)))
      (reached s e incoming
      (λ y. refuse_if (long y) TooLong
      (refuse_if (not (ready s.powered (slot_of s e incoming))) Disabled
      (refuse_if (not (idleb (slot_of s e incoming).phase)) InHand
      (refuse_if (unfit y || not (piece_fits incoming (slot_size (slot_of s e incoming)) (p y).address (p y).length)) UnfitBuffer (Ok tt))))))

  -- the answer tells what the tests came to
  pub begin_check_lem : (p : Piece) (long unfit : Bool) → first_refusal (begin_conditions room s v e incoming p long unfit) ≡ (begin_call room s v e incoming p long unfit).answer
  unfolding begin_call or_else
  begin_check_lem p long unfit =
      go (first_refusal (begin_conditions room s v e incoming p long unfit))
      ∙ sym (call_answer Err (first_refusal (begin_conditions room s v e incoming p long unfit)) s v _)
    where
      go : (c : Check) → c ≡ or_else c Err (Ok tt)
      go (Ok tt) = refl
      go (Err r) = refl

  -- one that fits was lent what fits
  pub begin_lent : (p : Piece) (long unfit : Bool) → first_refusal (begin_conditions room s v e incoming p long unfit) ≡ Ok tt → unfit ≡ false
  begin_lent p long unfit h =
      let own = begin_own s.powered e incoming p.address p.length long unfit (slot_of s e incoming) in
      let q = passed room (soundb s v) s.awaited.next own (none_due (begin_conditions room s v e incoming p long unfit) h) in
      left unfit _ (not_due (not_due (not_due (not_due (not_due q.1.1.1).1).1).1).1).0
    where
      left : (a b : Bool) → (a || b) ≡ false → a ≡ false
      left false b e = refl
      left true b e = absurd (true_not_false e)

  -- and what stands in its place is its slot
  pub begin_slot : (p : Piece) (long unfit : Bool) → first_refusal (begin_conditions room s v e incoming p long unfit) ≡ Ok tt → slot_at s (slot_place e incoming) ≡ slot_of s e incoming
  begin_slot p long unfit h = rw (data_place e incoming (begin_reaches room s v e incoming p long unfit h))
