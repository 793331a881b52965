-- A request accepted, by its ways out.
-- Assumes nothing.
use Rattle.std.specs.Prelude.{ℕ, true, false, cond, [], ◌∷◌, ◌≡◌, refl, leb, Some, None, Ok, Err}
use Rattle.state.specs.declared.State.{State}
use Rattle.state.specs.declared.Events.{Events}
use Rattle.state.specs.declared.Refusal.{Refusal}
use Rattle.state.specs.Refusals.{first_refusal, Bound}
use Rattle.state.specs.RefusalsLaws.{bound}
use Rattle.state_slots.specs.Waking.{no_wakes}
use Rattle.state_call.specs.Outcome.{or_else}
use Rattle.control_stage.specs.declared.Stage.TheVariants as stage
use Rattle.control_stage.specs.Stage.{in_stage, stage_numbers, stage_says}
use Rattle.control_accept.specs.Accept.{accept_ops, accept_conditions, accept_call, address_conditions, accept_address_call}

module _ (room : ℕ) (s : State) (v : Events) (generation : ℕ) where
  -- Each refusal is given exactly where it is the first that is due, and none where none is.
  pub accept_bound : Bound (accept_conditions room s v generation) (first_refusal (accept_conditions room s v generation))
  accept_bound = bound (accept_conditions room s v generation)

  pub accept_refused : (q : Refusal) → first_refusal (accept_conditions room s v generation) ≡ Err q
      → (Err q ≡ (accept_call room s v generation).answer)
      × ((s ≡ (accept_call room s v generation).state) × (([] ≡ (accept_call room s v generation).ops) × ((no_wakes ≡ (accept_call room s v generation).wakes) × (([] ≡ (accept_call room s v generation).copied) × (stage_numbers (Err q) ≡ stage_says (first_refusal (accept_conditions room s v generation)) (0 ∷ []))))))
  unfolding accept_call or_else
  accept_refused q e = rw e (refl, (refl, (refl, (refl, (refl, refl)))))

  pub accept_made : first_refusal (accept_conditions room s v generation) ≡ Ok tt
      → (Ok stage.Accepted ≡ (accept_call room s v generation).answer)
      × ((in_stage s true None ≡ (accept_call room s v generation).state) × ((accept_ops ≡ (accept_call room s v generation).ops) × ((no_wakes ≡ (accept_call room s v generation).wakes) × (([] ≡ (accept_call room s v generation).copied) × (stage_numbers (Ok stage.Accepted) ≡ stage_says (first_refusal (accept_conditions room s v generation)) (0 ∷ []))))))
  unfolding accept_call or_else
  accept_made e = rw e (refl, (refl, (refl, (refl, (refl, refl)))))

module _ (room : ℕ) (s : State) (v : Events) (generation address : ℕ) where
  -- Each refusal is given exactly where it is the first that is due, and none where none is.
  pub address_bound : Bound (address_conditions room s v generation address) (first_refusal (address_conditions room s v generation address))
  address_bound = bound (address_conditions room s v generation address)

  pub address_refused : (q : Refusal) → first_refusal (address_conditions room s v generation address) ≡ Err q
      → (Err q ≡ (accept_address_call room s v generation address).answer)
      × ((s ≡ (accept_address_call room s v generation address).state) × (([] ≡ (accept_address_call room s v generation address).ops) × ((no_wakes ≡ (accept_address_call room s v generation address).wakes) × (([] ≡ (accept_address_call room s v generation address).copied) × (stage_numbers (Err q) ≡ stage_says (first_refusal (address_conditions room s v generation address)) (cond (leb address 127) (0 ∷ []) []))))))
  unfolding accept_address_call or_else
  address_refused q e = rw e (refl, (refl, (refl, (refl, (refl, refl)))))

  pub address_made : first_refusal (address_conditions room s v generation address) ≡ Ok tt → leb address 127 ≡ true
      → (Ok stage.Accepted ≡ (accept_address_call room s v generation address).answer)
      × ((in_stage s true (Some address) ≡ (accept_address_call room s v generation address).state) × ((accept_ops ≡ (accept_address_call room s v generation address).ops) × ((no_wakes ≡ (accept_address_call room s v generation address).wakes) × (([] ≡ (accept_address_call room s v generation address).copied) × (stage_numbers (Ok stage.Accepted) ≡ stage_says (first_refusal (address_conditions room s v generation address)) (cond (leb address 127) (0 ∷ []) []))))))
  unfolding accept_address_call or_else
  address_made e h = rw (e, h) (refl, (refl, (refl, (refl, (refl, refl)))))

  pub address_unanswered : first_refusal (address_conditions room s v generation address) ≡ Ok tt → leb address 127 ≡ false
      → (Ok stage.Unanswered ≡ (accept_address_call room s v generation address).answer)
      × ((s ≡ (accept_address_call room s v generation address).state) × (([] ≡ (accept_address_call room s v generation address).ops) × ((no_wakes ≡ (accept_address_call room s v generation address).wakes) × (([] ≡ (accept_address_call room s v generation address).copied) × (stage_numbers (Ok stage.Unanswered) ≡ stage_says (first_refusal (address_conditions room s v generation address)) (cond (leb address 127) (0 ∷ []) []))))))
  unfolding accept_address_call or_else
  address_unanswered e h = rw (e, h) (refl, (refl, (refl, (refl, (refl, refl)))))
