-- Taking: the slot by itself is the call, and its numbers are the paper's.
-- Assumes nothing.
use Rattle.std.specs.Prelude.{◌≡◌, ℕ, Bool, true, false, cond, not, [], ◌∷◌, nat_lt, Ok, Err, Some, None, Option, Result}
use Rattle.std.proofs.Math.Path.{refl, sym}
use Rattle.std.proofs.Common.{ap, ◌∙◌}
use Rattle.std.proofs.lemmas.Bool.{not-false}
use Rattle.state.specs.declared.Slot.{Slot}
use Rattle.state.specs.declared.State.{State}
use Rattle.state.specs.declared.Events.{Events}
use Rattle.state.specs.declared.Refusal.{Refusal}
use Rattle.state.specs.declared.Refusal.TheVariants.{Unsound, OutOfTurn, Disabled, UnfitBuffer, TooLong}
use Rattle.state.specs.Fresh.{slot_at}
use Rattle.state.specs.Setters.{with_slot}
use Rattle.state.specs.Awaiting.{awaitingb}
use Rattle.state.specs.Numbers.{refusal_number}
use Rattle.state.specs.Refusals.{Check, refuse_if, first_refusal, Bound}
use Rattle.state.specs.RefusalsLaws.{none_due, not_due, bound}
use Rattle.state_slots.specs.Slots.{idleb, busyb, slot_place, slot_of, data_endpoint}
use Rattle.state_slots.specs.Waking.{no_wakes}
use Rattle.state_sound.specs.Sound.{soundb}
use Rattle.state_call.specs.Turn.{turn_of}
use Rattle.state_call.specs.Outcome.{or_else}
use Rattle.state_call.specs.OutcomeLaws.{or_same, call_answer, call_state, call_wakes, passed_turn, reached, stored, told}
use Rattle.transfer_take.specs.Take.{Took, take_own, take_conditions, take_answer, take_leaves, take_call, take_numbers, take_says, took_at}

-- Each refusal is given exactly where it is the first that is due, and none where none is.
pub take_bound : (s : State) (v : Events) (e : ℕ) (incoming unfit : Bool) → Bound (take_conditions s v e incoming unfit) (first_refusal (take_conditions s v e incoming unfit))
take_bound s v e incoming unfit = bound (take_conditions s v e incoming unfit)

module _ (s : State) (v : Events) (e : ℕ) (incoming unfit : Bool) (most : ℕ) where
  take_reaches : first_refusal (take_conditions s v e incoming unfit) ≡ Ok tt → data_endpoint e ≡ true
  take_reaches h =
      let p = passed_turn (soundb s v) s.awaited.next (take_own e unfit (slot_of s e incoming)) (none_due (take_conditions s v e incoming unfit) h) in
      not-false _ (not_due p.1.1).0

  -- the tests of what stands in the endpoint's place are those of its slot
  check_place : first_refusal (turn_of (soundb s v) s.awaited.next (take_own e unfit (slot_at s (slot_place e incoming)))) ≡ first_refusal (take_conditions s v e incoming unfit)
  check_place =
      ap (λ k. refuse_if (not (soundb s v)) Unsound (refuse_if (awaitingb s.awaited.next) OutOfTurn k))
      (reached s e incoming (λ y. refuse_if (idleb y.phase) Disabled (refuse_if unfit UnfitBuffer (Ok tt))))

  numbers : (c : Check) (y : Slot) → take_numbers (or_else c Err (take_answer most y)) ≡
      or_else c (λ r. refusal_number r ∷ []) (cond (busyb y.phase) (0 ∷ 0 ∷ []) (cond (nat_lt most y.transfer.progress) (9 ∷ []) (0 ∷ 1 ∷ y.transfer.progress ∷ [])))
  unfolding or_else
  numbers (Err r) y = refl
  numbers (Ok tt) y = go (busyb y.phase) (nat_lt most y.transfer.progress)
    where
      go : (b l : Bool) → take_numbers (cond b (Ok None) (cond l (Err TooLong) (Ok (Some y.transfer.progress)))) ≡ cond b (0 ∷ 0 ∷ []) (cond l (9 ∷ []) (0 ∷ 1 ∷ y.transfer.progress ∷ []))
      go true l = refl
      go false true = refl
      go false false = refl

  -- what is stored in the endpoint's place, and what is said of it
  pub took_take : (t : Took) → t ≡ took_at (first_refusal (turn_of (soundb s v) s.awaited.next (take_own e unfit (slot_at s (slot_place e incoming))))) most (slot_at s (slot_place e incoming))
      → (t.answer ≡ (take_call s v e incoming unfit most).answer)
      × ((with_slot s (slot_place e incoming) t.slot ≡ (take_call s v e incoming unfit most).state)
      × ((no_wakes ≡ (take_call s v e incoming unfit most).wakes) × (take_numbers t.answer ≡ take_says s v e incoming unfit most)))
  unfolding take_call
  took_take t q =
      let k = first_refusal (take_conditions s v e incoming unfit) in
      let same = told s e incoming k Err (take_answer most) take_reaches in
      let kept = stored s e incoming k take_leaves take_reaches in
      rw (q, check_place)
      (same ∙ sym (call_answer Err k s v _), (kept ∙ sym (call_state Err k s v _), (sym (or_same k no_wakes) ∙ sym (call_wakes Err k s v _), rw same (numbers k (slot_of s e incoming)))))

  -- the same of the two by themselves
  pub took_parts : {answer : Result (Option ℕ) Refusal} {slot : Slot}
      → answer ≡ (took_at (first_refusal (turn_of (soundb s v) s.awaited.next (take_own e unfit (slot_at s (slot_place e incoming))))) most (slot_at s (slot_place e incoming))).answer
      → slot ≡ (took_at (first_refusal (turn_of (soundb s v) s.awaited.next (take_own e unfit (slot_at s (slot_place e incoming))))) most (slot_at s (slot_place e incoming))).slot
      → (answer ≡ (take_call s v e incoming unfit most).answer)
      × ((with_slot s (slot_place e incoming) slot ≡ (take_call s v e incoming unfit most).state)
      × ((no_wakes ≡ (take_call s v e incoming unfit most).wakes) × (take_numbers answer ≡ take_says s v e incoming unfit most)))
  took_parts {answer} {slot} says leaves = took_take (record { answer = answer; slot = slot }) (rw (says, leaves) refl)
