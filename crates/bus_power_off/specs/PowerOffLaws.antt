-- Power off by its ways out.
-- Assumes nothing.
use Rattle.std.specs.Prelude.{ℕ, ◌≡◌, refl, [], Ok, Err}
use Rattle.state.specs.declared.State.{State}
use Rattle.state.specs.declared.Events.{Events}
use Rattle.state.specs.declared.Refusal.{Refusal}
use Rattle.state.specs.Numbers.{check_number, refusal_number}
use Rattle.state.specs.Refusals.{first_refusal, Bound}
use Rattle.state.specs.RefusalsLaws.{bound}
use Rattle.state_slots.specs.Waking.{no_wakes, wake_all}
use Rattle.state_call.specs.Outcome.{or_else}
use Rattle.bus_power_off.specs.PowerOff.{off_conditions, off_state, shut_ops, power_off_call}

module _ (room : ℕ) (s : State) (v : Events) where
  -- Each refusal is given exactly where it is the first that is due, and none where none is.
  pub off_bound : Bound (off_conditions room s v) (first_refusal (off_conditions room s v))
  off_bound = bound (off_conditions room s v)

  pub off_refused : (r : Refusal) → first_refusal (off_conditions room s v) ≡ Err r
      → (Err r ≡ (power_off_call room s v).answer)
      × ((s ≡ (power_off_call room s v).state)
      × (([] ≡ (power_off_call room s v).ops) × ((no_wakes ≡ (power_off_call room s v).wakes) × (refusal_number r ≡ check_number (first_refusal (off_conditions room s v))))))
  unfolding power_off_call or_else
  off_refused r h = rw h (refl, (refl, (refl, (refl, refl))))

  pub off_made : first_refusal (off_conditions room s v) ≡ Ok tt
      → (Ok tt ≡ (power_off_call room s v).answer)
      × ((off_state s ≡ (power_off_call room s v).state)
      × ((shut_ops s.powered ≡ (power_off_call room s v).ops) × ((wake_all ≡ (power_off_call room s v).wakes) × (0 ≡ check_number (first_refusal (off_conditions room s v))))))
  unfolding power_off_call or_else
  off_made h = rw h (refl, (refl, (refl, (refl, refl))))
