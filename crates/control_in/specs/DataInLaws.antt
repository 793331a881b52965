-- An IN data stage by its ways out.
-- Assumes nothing.
use Rattle.std.specs.Prelude.{ℕ, ◌≤◌, Bool, List, [], ◌∷◌, ◌≡◌, refl, eqb, length, Ok, Err}
use Rattle.std.proofs.Common.{eqb-true, ltb-false}
use Rattle.std.proofs.lemmas.Bool.{not-false}
use Rattle.base.specs.EachLaws.{and_right}
use Rattle.ops.specs.Ops.{list_numbers}
use Rattle.state.specs.declared.State.{State}
use Rattle.state.specs.declared.Events.{Events}
use Rattle.state.specs.declared.Refusal.{Refusal}
use Rattle.state.specs.Refusals.{first_refusal, Bound}
use Rattle.state.specs.RefusalsLaws.{none_due, not_due, bound}
use Rattle.state_slots.specs.Waking.{no_wakes}
use Rattle.state_sound.specs.Sound.{soundb}
use Rattle.state_call.specs.Outcome.{or_else}
use Rattle.state_call.specs.OutcomeLaws.{passed}
use Rattle.regs_control.specs.Control.{ep0_tx_ready_ops}
use Rattle.control_stage.specs.declared.Stage.TheVariants as stage
use Rattle.control_stage.specs.Stage.{ep0_unfit, in_stage, stage_numbers, stage_says}
use Rattle.control_in.specs.DataIn.{next_sequence, data_in_conditions, data_in_call}

module _ (room : ℕ) (s : State) (v : Events) (generation : ℕ) (bytes : List ℕ) (address size : ℕ) (first last : Bool) where
  -- Each refusal is given exactly where it is the first that is due, and none where none is.
  pub data_in_bound : Bound (data_in_conditions room s v generation (length bytes) (ep0_unfit s address size)) (first_refusal (data_in_conditions room s v generation (length bytes) (ep0_unfit s address size)))
  data_in_bound = bound (data_in_conditions room s v generation (length bytes) (ep0_unfit s address size))

  pub data_in_refused : (q : Refusal) → first_refusal (data_in_conditions room s v generation (length bytes) (ep0_unfit s address size)) ≡ Err q
      → (Err q ≡ (data_in_call room s v generation bytes address size first last).answer)
      × ((s ≡ (data_in_call room s v generation bytes address size first last).state) × (([] ≡ (data_in_call room s v generation bytes address size first last).ops) × ((no_wakes ≡ (data_in_call room s v generation bytes address size first last).wakes) × (([] ≡ (data_in_call room s v generation bytes address size first last).copied) × (stage_numbers (Err q) ≡ stage_says (first_refusal (data_in_conditions room s v generation (length bytes) (ep0_unfit s address size))) (0 ∷ []))))))
  unfolding data_in_call or_else
  data_in_refused q e = rw e (refl, (refl, (refl, (refl, (refl, refl)))))

  pub data_in_made : first_refusal (data_in_conditions room s v generation (length bytes) (ep0_unfit s address size)) ≡ Ok tt
      → (Ok stage.Accepted ≡ (data_in_call room s v generation bytes address size first last).answer)
      × ((in_stage s last s.address ≡ (data_in_call room s v generation bytes address size first last).state) × ((ep0_tx_ready_ops (next_sequence first s.tx_seq) (length bytes) ≡ (data_in_call room s v generation bytes address size first last).ops) × ((no_wakes ≡ (data_in_call room s v generation bytes address size first last).wakes) × ((bytes ≡ (data_in_call room s v generation bytes address size first last).copied) × (stage_numbers (Ok stage.Accepted) ≡ stage_says (first_refusal (data_in_conditions room s v generation (length bytes) (ep0_unfit s address size))) (0 ∷ []))))))
  unfolding data_in_call or_else
  data_in_made e = rw e (refl, (refl, (refl, (refl, (refl, refl)))))

  -- what an accepted one has
  pub data_in_fits : first_refusal (data_in_conditions room s v generation (length bytes) (ep0_unfit s address size)) ≡ Ok tt → (list_numbers ≤ room) × ((length bytes ≤ 512) × (size ≡ 512))
  data_in_fits e =
      let p = passed room (soundb s v) s.awaited.next _ (none_due (data_in_conditions room s v generation (length bytes) (ep0_unfit s address size)) e) in
      let long = not_due p.1.1.1 in
      let lent = not_due (not_due long.1).1 in
      (p.0, (ltb-false 512 (length bytes) long.0, eqb-true size 512 (and_right (eqb address s.ep0_address) (eqb size 512) (not-false _ lent.0))))
