-- A request rejected, by its ways out.
-- Assumes nothing.
use Rattle.std.specs.Prelude.{ℕ, true, false, cond, [], ◌∷◌, ◌≡◌, refl, Ok, Err}
use Rattle.state.specs.declared.State.{State}
use Rattle.state.specs.declared.Events.{Events}
use Rattle.state.specs.declared.Refusal.{Refusal}
use Rattle.state.specs.Refusals.{first_refusal, Bound}
use Rattle.state.specs.RefusalsLaws.{bound}
use Rattle.state_slots.specs.Waking.{no_wakes}
use Rattle.state_call.specs.Outcome.{or_else}
use Rattle.regs_control.specs.Control.{ep0_stall_ops}
use Rattle.control_stage.specs.declared.Stage.TheVariants as stage
use Rattle.control_stage.specs.Stage.{servedb, stage_numbers, stage_says}
use Rattle.control_reject.specs.Reject.{reject_conditions, reject_call}

module _ (room : ℕ) (s : State) (v : Events) (generation : ℕ) where
  -- Each refusal is given exactly where it is the first that is due, and none where none is.
  pub reject_bound : Bound (reject_conditions room s v) (first_refusal (reject_conditions room s v))
  reject_bound = bound (reject_conditions room s v)

  pub reject_refused : (q : Refusal) → first_refusal (reject_conditions room s v) ≡ Err q
      → (Err q ≡ (reject_call room s v generation).answer)
      × ((s ≡ (reject_call room s v generation).state) × (([] ≡ (reject_call room s v generation).ops) × ((no_wakes ≡ (reject_call room s v generation).wakes) × (([] ≡ (reject_call room s v generation).copied) × (stage_numbers (Err q) ≡ stage_says (first_refusal (reject_conditions room s v)) (cond (servedb s generation) (0 ∷ []) []))))))
  unfolding reject_call or_else
  reject_refused q e = rw e (refl, (refl, (refl, (refl, (refl, refl)))))

  pub reject_made : first_refusal (reject_conditions room s v) ≡ Ok tt → servedb s generation ≡ true
      → (Ok stage.Accepted ≡ (reject_call room s v generation).answer)
      × ((s ≡ (reject_call room s v generation).state) × ((ep0_stall_ops ≡ (reject_call room s v generation).ops) × ((no_wakes ≡ (reject_call room s v generation).wakes) × (([] ≡ (reject_call room s v generation).copied) × (stage_numbers (Ok stage.Accepted) ≡ stage_says (first_refusal (reject_conditions room s v)) (cond (servedb s generation) (0 ∷ []) []))))))
  unfolding reject_call or_else
  reject_made e h = rw (e, h) (refl, (refl, (refl, (refl, (refl, refl)))))

  pub reject_unanswered : first_refusal (reject_conditions room s v) ≡ Ok tt → servedb s generation ≡ false
      → (Ok stage.Unanswered ≡ (reject_call room s v generation).answer)
      × ((s ≡ (reject_call room s v generation).state) × (([] ≡ (reject_call room s v generation).ops) × ((no_wakes ≡ (reject_call room s v generation).wakes) × (([] ≡ (reject_call room s v generation).copied) × (stage_numbers (Ok stage.Unanswered) ≡ stage_says (first_refusal (reject_conditions room s v)) (cond (servedb s generation) (0 ∷ []) []))))))
  unfolding reject_call or_else
  reject_unanswered e h = rw (e, h) (refl, (refl, (refl, (refl, (refl, refl)))))
