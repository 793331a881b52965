-- An OUT data stage by its ways out.
-- Assumes nothing.
use Rattle.std.specs.Prelude.{ℕ, [], ◌∷◌, ◌≡◌, refl, Ok, Err}
use Rattle.state.specs.declared.State.{State}
use Rattle.state.specs.declared.Events.{Events}
use Rattle.state.specs.declared.Refusal.{Refusal}
use Rattle.state.specs.Fresh.{slot_at}
use Rattle.state.specs.Refusals.{first_refusal, Bound}
use Rattle.state.specs.RefusalsLaws.{bound}
use Rattle.state.specs.Setters.{with_slot}
use Rattle.state_slots.specs.Waking.{no_wakes}
use Rattle.state_call.specs.Outcome.{or_else}
use Rattle.regs_control.specs.Control.{ep0_rx_ready_ops}
use Rattle.control_stage.specs.declared.Stage.TheVariants as stage
use Rattle.control_stage.specs.Stage.{staged_slot, stage_numbers, stage_says}
use Rattle.control_out.specs.DataOut.{data_out_conditions, data_out_call}

module _ (room : ℕ) (s : State) (v : Events) (generation : ℕ) where
  -- Each refusal is given exactly where it is the first that is due, and none where none is.
  pub data_out_bound : Bound (data_out_conditions room s v generation) (first_refusal (data_out_conditions room s v generation))
  data_out_bound = bound (data_out_conditions room s v generation)

  pub data_out_refused : (q : Refusal) → first_refusal (data_out_conditions room s v generation) ≡ Err q
      → (Err q ≡ (data_out_call room s v generation).answer)
      × ((s ≡ (data_out_call room s v generation).state) × (([] ≡ (data_out_call room s v generation).ops) × ((no_wakes ≡ (data_out_call room s v generation).wakes) × (([] ≡ (data_out_call room s v generation).copied) × (stage_numbers (Err q) ≡ stage_says (first_refusal (data_out_conditions room s v generation)) (0 ∷ []))))))
  unfolding data_out_call or_else
  data_out_refused q e = rw e (refl, (refl, (refl, (refl, (refl, refl)))))

  pub data_out_made : first_refusal (data_out_conditions room s v generation) ≡ Ok tt
      → (Ok stage.Accepted ≡ (data_out_call room s v generation).answer)
      × ((with_slot s 0 (staged_slot (slot_at s 0)) ≡ (data_out_call room s v generation).state) × ((ep0_rx_ready_ops ≡ (data_out_call room s v generation).ops) × ((no_wakes ≡ (data_out_call room s v generation).wakes) × (([] ≡ (data_out_call room s v generation).copied) × (stage_numbers (Ok stage.Accepted) ≡ stage_says (first_refusal (data_out_conditions room s v generation)) (0 ∷ []))))))
  unfolding data_out_call or_else
  data_out_made e = rw e (refl, (refl, (refl, (refl, (refl, refl)))))
