-- An OUT stage taken, by its ways out.
-- Assumes nothing.
use Rattle.std.specs.Prelude.{ℕ, ◌≤◌, Bool, true, false, ◌||◌, List, [], ◌≡◌, refl, eqb, ltb, length, take, Ok, Err, Some, None}
use Rattle.std.proofs.Common.{eqb-true, ltb-false}
use Rattle.std.proofs.lemmas.Bool.{not-false}
use Rattle.base.specs.EachLaws.{and_right, true_not_false}
use Rattle.state.specs.declared.State.{State}
use Rattle.state.specs.declared.Events.{Events}
use Rattle.state.specs.declared.Refusal.{Refusal}
use Rattle.state.specs.declared.Refusal.TheVariants.{TooLong}
use Rattle.state.specs.Fresh.{slot_at}
use Rattle.state.specs.Refusals.{first_refusal, Bound}
use Rattle.state.specs.RefusalsLaws.{none_due, not_due, bound}
use Rattle.state.specs.Setters.{with_slot}
use Rattle.state_slots.specs.Waking.{no_wakes}
use Rattle.state_sound.specs.Sound.{soundb}
use Rattle.state_call.specs.Outcome.{or_else}
use Rattle.state_call.specs.OutcomeLaws.{passed_turn}
use Rattle.transfer_take.specs.Take.{take_numbers}
use Rattle.control_stage.specs.Stage.{ep0_unfit}
use Rattle.control_take.specs.Take.{doneb, idle_slot, stage_own}
use Rattle.control_take_out.specs.TakeOut.{take_out_conditions, overflows, out_says, out_copies, take_out_call, take_out_says}

module _ (s : State) (v : Events) (generation room : ℕ) (ep0 : List ℕ) (address : ℕ) where
  pub take_out_bound : Bound (take_out_conditions s v generation (ep0_unfit s address (length ep0))) (first_refusal (take_out_conditions s v generation (ep0_unfit s address (length ep0))))
  take_out_bound = bound (take_out_conditions s v generation (ep0_unfit s address (length ep0)))

  -- EP0's buffer is all there
  pub take_out_lent : first_refusal (take_out_conditions s v generation (ep0_unfit s address (length ep0))) ≡ Ok tt → length ep0 ≡ 512
  take_out_lent e =
      let p = passed_turn (soundb s v) s.awaited.next (stage_own s generation (ep0_unfit s address (length ep0))) (none_due (take_out_conditions s v generation (ep0_unfit s address (length ep0))) e) in
      eqb-true (length ep0) 512 (and_right (eqb address s.ep0_address) (eqb (length ep0) 512) (not-false _ (not_due (not_due p.1.1).1).0))

  pub take_out_refused : (q : Refusal) → first_refusal (take_out_conditions s v generation (ep0_unfit s address (length ep0))) ≡ Err q
      → (Err q ≡ (take_out_call s v generation room ep0 address).answer) × ((s ≡ (take_out_call s v generation room ep0 address).state) × ((no_wakes ≡ (take_out_call s v generation room ep0 address).wakes) × (([] ≡ (take_out_call s v generation room ep0 address).copied) × (take_numbers (Err q) ≡ take_out_says s v generation room ep0 address))))
  unfolding take_out_call or_else
  take_out_refused q e = rw e (refl, (refl, (refl, (refl, refl))))

  pub take_out_busy : first_refusal (take_out_conditions s v generation (ep0_unfit s address (length ep0))) ≡ Ok tt → doneb (slot_at s 0).phase ≡ false
      → (Ok None ≡ (take_out_call s v generation room ep0 address).answer) × ((s ≡ (take_out_call s v generation room ep0 address).state) × ((no_wakes ≡ (take_out_call s v generation room ep0 address).wakes) × (([] ≡ (take_out_call s v generation room ep0 address).copied) × (take_numbers (Ok None) ≡ take_out_says s v generation room ep0 address))))
  unfolding take_out_call or_else
  take_out_busy e h = rw (e, h) (refl, (refl, (refl, (refl, refl))))

  -- taken, or too long
  pub take_out_closed : first_refusal (take_out_conditions s v generation (ep0_unfit s address (length ep0))) ≡ Ok tt → doneb (slot_at s 0).phase ≡ true
      → (out_says (slot_at s 0).transfer.progress room ≡ (take_out_call s v generation room ep0 address).answer) × ((with_slot s 0 (idle_slot (slot_at s 0)) ≡ (take_out_call s v generation room ep0 address).state) × ((no_wakes ≡ (take_out_call s v generation room ep0 address).wakes) × ((out_copies (slot_at s 0).transfer.progress room ep0 ≡ (take_out_call s v generation room ep0 address).copied) × (take_numbers (out_says (slot_at s 0).transfer.progress room) ≡ take_out_says s v generation room ep0 address))))
  unfolding take_out_call or_else
  take_out_closed e h = rw (e, h) (refl, (refl, (refl, (refl, refl))))

  pub take_out_long : first_refusal (take_out_conditions s v generation (ep0_unfit s address (length ep0))) ≡ Ok tt → doneb (slot_at s 0).phase ≡ true → overflows (slot_at s 0).transfer.progress room ≡ true
      → (Err TooLong ≡ (take_out_call s v generation room ep0 address).answer) × ((with_slot s 0 (idle_slot (slot_at s 0)) ≡ (take_out_call s v generation room ep0 address).state) × ((no_wakes ≡ (take_out_call s v generation room ep0 address).wakes) × (([] ≡ (take_out_call s v generation room ep0 address).copied) × (take_numbers (Err TooLong) ≡ take_out_says s v generation room ep0 address))))
  unfolding take_out_call or_else
  take_out_long e h k = rw (e, h, k) (refl, (refl, (refl, (refl, refl))))

  pub take_out_done : first_refusal (take_out_conditions s v generation (ep0_unfit s address (length ep0))) ≡ Ok tt → doneb (slot_at s 0).phase ≡ true → overflows (slot_at s 0).transfer.progress room ≡ false
      → (Ok (Some (slot_at s 0).transfer.progress) ≡ (take_out_call s v generation room ep0 address).answer) × ((with_slot s 0 (idle_slot (slot_at s 0)) ≡ (take_out_call s v generation room ep0 address).state) × ((no_wakes ≡ (take_out_call s v generation room ep0 address).wakes) × ((take (slot_at s 0).transfer.progress ep0 ≡ (take_out_call s v generation room ep0 address).copied) × (take_numbers (Ok (Some (slot_at s 0).transfer.progress)) ≡ take_out_says s v generation room ep0 address))))
  unfolding take_out_call or_else
  take_out_done e h k = rw (e, h, k) (refl, (refl, (refl, (refl, refl))))

neither : (a b : Bool) → (a || b) ≡ false → (a ≡ false) × (b ≡ false)
neither false b e = (refl, e)
neither true b e = absurd (true_not_false e)

-- what doesn't overflow fits on both sides
pub within : (received room : ℕ) → overflows received room ≡ false → (received ≤ room) × (received ≤ 512)
within received room e =
    let n = neither (ltb room received) (ltb 512 received) e in
    (ltb-false room received n.0, ltb-false 512 received n.1)
