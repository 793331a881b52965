-- An IN stage taken, by its ways out.
-- Assumes nothing.
use Rattle.std.specs.Prelude.{ℕ, true, false, [], ◌≡◌, refl, Ok, Err, Some, None}
use Rattle.state.specs.declared.State.{State}
use Rattle.state.specs.declared.Events.{Events}
use Rattle.state.specs.declared.Refusal.{Refusal}
use Rattle.state.specs.Fresh.{slot_at}
use Rattle.state.specs.Refusals.{first_refusal, Bound}
use Rattle.state.specs.RefusalsLaws.{bound}
use Rattle.state.specs.Setters.{with_slot}
use Rattle.state_slots.specs.Waking.{no_wakes}
use Rattle.state_call.specs.Outcome.{or_else}
use Rattle.transfer_take.specs.Take.{take_numbers}
use Rattle.control_take.specs.Take.{doneb, idle_slot, take_in_conditions, take_in_call, take_in_says}

module _ (s : State) (v : Events) (generation : ℕ) where
  pub take_in_bound : Bound (take_in_conditions s v generation) (first_refusal (take_in_conditions s v generation))
  take_in_bound = bound (take_in_conditions s v generation)

  pub take_in_refused : (q : Refusal) → first_refusal (take_in_conditions s v generation) ≡ Err q
      → (Err q ≡ (take_in_call s v generation).answer) × ((s ≡ (take_in_call s v generation).state) × ((no_wakes ≡ (take_in_call s v generation).wakes) × (([] ≡ (take_in_call s v generation).copied) × (take_numbers (Err q) ≡ take_in_says s v generation))))
  unfolding take_in_call or_else
  take_in_refused q e = rw e (refl, (refl, (refl, (refl, refl))))

  pub take_in_busy : first_refusal (take_in_conditions s v generation) ≡ Ok tt → doneb (slot_at s 1).phase ≡ false
      → (Ok None ≡ (take_in_call s v generation).answer) × ((s ≡ (take_in_call s v generation).state) × ((no_wakes ≡ (take_in_call s v generation).wakes) × (([] ≡ (take_in_call s v generation).copied) × (take_numbers (Ok None) ≡ take_in_says s v generation))))
  unfolding take_in_call or_else
  take_in_busy e h = rw (e, h) (refl, (refl, (refl, (refl, refl))))

  pub take_in_done : first_refusal (take_in_conditions s v generation) ≡ Ok tt → doneb (slot_at s 1).phase ≡ true
      → (Ok (Some 0) ≡ (take_in_call s v generation).answer) × ((with_slot s 1 (idle_slot (slot_at s 1)) ≡ (take_in_call s v generation).state) × ((no_wakes ≡ (take_in_call s v generation).wakes) × (([] ≡ (take_in_call s v generation).copied) × (take_numbers (Ok (Some 0)) ≡ take_in_says s v generation))))
  unfolding take_in_call or_else
  take_in_done e h = rw (e, h) (refl, (refl, (refl, (refl, refl))))
