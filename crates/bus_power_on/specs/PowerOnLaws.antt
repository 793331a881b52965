-- Power on by its ways out.
-- Assumes nothing.
use Rattle.std.specs.Prelude.{ℕ, ◌≤◌, ◌≡◌, refl, true, false, [], length, Ok, Err}
use Rattle.std.proofs.Common.{ltb-false}
use Rattle.ops.specs.Ops.{flat, records, list_numbers}
use Rattle.state.specs.declared.State.{State}
use Rattle.state.specs.declared.Events.{Events}
use Rattle.state.specs.declared.Refusal.{Refusal}
use Rattle.state.specs.Numbers.{check_number, refusal_number}
use Rattle.state.specs.Refusals.{first_refusal, Bound}
use Rattle.state.specs.RefusalsLaws.{none_due, not_due, bound}
use Rattle.state_slots.specs.Waking.{no_wakes, wake_all}
use Rattle.state_sound.specs.Sound.{soundb}
use Rattle.state_call.specs.Outcome.{or_else}
use Rattle.state_call.specs.OutcomeLaws.{passed}
use Rattle.regs_device.specs.Device.{power_on_ops}
use Rattle.regs_device.specs.DeviceLaws.{power_on_length}
use Rattle.bus_power_on.specs.PowerOn.{on_own, on_conditions, on_state, power_on_call}

module _ (room : ℕ) (s : State) (v : Events) (revision : ℕ) where
  -- Each refusal is given exactly where it is the first that is due, and none where none is.
  pub on_bound : Bound (on_conditions room s v revision) (first_refusal (on_conditions room s v revision))
  on_bound = bound (on_conditions room s v revision)

  -- what an accepted power-on has
  pub on_fits : first_refusal (on_conditions room s v revision) ≡ Ok tt → (list_numbers ≤ room) × (revision ≤ 15)
  on_fits h =
      let p = passed room (soundb s v) s.awaited.next (on_own revision s.ep0_address) (none_due (on_conditions room s v revision) h) in
      (p.0, ltb-false 15 revision (not_due p.1.1.1).0)

  pub on_refused : (r : Refusal) → first_refusal (on_conditions room s v revision) ≡ Err r
      → (Err r ≡ (power_on_call room s v revision).answer)
      × ((s ≡ (power_on_call room s v revision).state)
      × (([] ≡ (power_on_call room s v revision).ops)
      × ((no_wakes ≡ (power_on_call room s v revision).wakes) × (refusal_number r ≡ check_number (first_refusal (on_conditions room s v revision))))))
  unfolding power_on_call or_else
  on_refused r h = rw h (refl, (refl, (refl, (refl, refl))))

  -- on already, and brought up
  pub on_already : first_refusal (on_conditions room s v revision) ≡ Ok tt → s.powered ≡ true
      → (Ok tt ≡ (power_on_call room s v revision).answer)
      × ((s ≡ (power_on_call room s v revision).state)
      × (([] ≡ (power_on_call room s v revision).ops)
      × ((wake_all ≡ (power_on_call room s v revision).wakes) × (0 ≡ check_number (first_refusal (on_conditions room s v revision))))))
  unfolding power_on_call or_else
  on_already h on = rw (h, on) (refl, (refl, (refl, (refl, refl))))

  pub on_anew : first_refusal (on_conditions room s v revision) ≡ Ok tt → s.powered ≡ false
      → (Ok tt ≡ (power_on_call room s v revision).answer)
      × ((on_state s revision ≡ (power_on_call room s v revision).state)
      × ((power_on_ops revision s.ep0_address ≡ (power_on_call room s v revision).ops)
      × ((wake_all ≡ (power_on_call room s v revision).wakes) × (0 ≡ check_number (first_refusal (on_conditions room s v revision))))))
  unfolding power_on_call or_else
  on_anew h off = rw (h, off) (refl, (refl, (refl, (refl, refl))))

  -- the longest list of all
  pub on_length : first_refusal (on_conditions room s v revision) ≡ Ok tt → s.powered ≡ false → length (flat (power_on_call room s v revision).ops) ≡ records 127
  unfolding power_on_call or_else
  on_length h off = rw (h, off) (power_on_length revision s.ep0_address)
