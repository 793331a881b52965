-- The host woken, by its ways out.
-- Assumes nothing.
use Rattle.std.specs.Prelude.{ℕ, ◌≡◌, refl, [], Ok, Err}
use Rattle.std.proofs.Common.{◌∙◌}
use Rattle.state.specs.declared.State.{State}
use Rattle.state.specs.declared.Events.{Events}
use Rattle.state.specs.declared.Refusal.{Refusal}
use Rattle.state.specs.Numbers.{check_number, refusal_number}
use Rattle.state.specs.Refusals.{first_refusal, Bound}
use Rattle.state.specs.RefusalsLaws.{bound}
use Rattle.state_slots.specs.Waking.{no_wakes}
use Rattle.state_call.specs.Outcome.{or_else}
use Rattle.state_call.specs.OutcomeLaws.{or_same, call_state}
use Rattle.regs_link.specs.Link.{ux_exit_ops}
use Rattle.bus_wakeup.specs.Wakeup.{wakeup_conditions, wakeup_call}

module _ (room : ℕ) (s : State) (v : Events) where
  -- Each refusal is given exactly where it is the first that is due, and none where none is.
  pub wakeup_bound : Bound (wakeup_conditions room s v) (first_refusal (wakeup_conditions room s v))
  wakeup_bound = bound (wakeup_conditions room s v)

  pub wakeup_refused : (r : Refusal) → first_refusal (wakeup_conditions room s v) ≡ Err r
      → (Err r ≡ (wakeup_call room s v).answer)
      × ((s ≡ (wakeup_call room s v).state)
      × (([] ≡ (wakeup_call room s v).ops) × ((no_wakes ≡ (wakeup_call room s v).wakes) × (refusal_number r ≡ check_number (first_refusal (wakeup_conditions room s v))))))
  unfolding wakeup_call or_else
  wakeup_refused r h = rw h (refl, (refl, (refl, (refl, refl))))

  pub wakeup_made : first_refusal (wakeup_conditions room s v) ≡ Ok tt
      → (Ok tt ≡ (wakeup_call room s v).answer)
      × ((s ≡ (wakeup_call room s v).state)
      × ((ux_exit_ops ≡ (wakeup_call room s v).ops) × ((no_wakes ≡ (wakeup_call room s v).wakes) × (0 ≡ check_number (first_refusal (wakeup_conditions room s v))))))
  unfolding wakeup_call or_else
  wakeup_made h = rw h (refl, (refl, (refl, (refl, refl))))

  -- It leaves the state: the link's own change, which an interrupt reads, ends the suspend.
  pub wakeup_state : (wakeup_call room s v).state ≡ s
  unfolding wakeup_call
  wakeup_state = call_state Err (first_refusal (wakeup_conditions room s v)) s v _ ∙ or_same (first_refusal (wakeup_conditions room s v)) s
