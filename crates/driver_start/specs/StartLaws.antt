-- A start by its ways out, and slot after slot.
-- Assumes nothing.
use Rattle.std.specs.Prelude.{ℕ, ◌+◌, ◌≡◌, refl, set, Ok, Err}
use Rattle.state.specs.declared.Slot.{Slot}
use Rattle.state.specs.declared.State.{State}
use Rattle.state.specs.declared.Events.{Events}
use Rattle.state.specs.declared.Driver.{Driver}
use Rattle.state.specs.declared.Refusal.{Refusal}
use Rattle.state.specs.Fresh.{slot_at}
use Rattle.state.specs.Setters.{with_slots}
use Rattle.state.specs.Numbers.{check_number, refusal_number}
use Rattle.state.specs.Refusals.{first_refusal, Bound}
use Rattle.state.specs.RefusalsLaws.{bound}
use Rattle.state_slots.specs.SlotsLaws.{change_none_of, change_next_in}
use Rattle.state_slots.specs.Waking.{no_wakes}
use Rattle.state_events.specs.Bytes.{power}
use Rattle.state_call.specs.Outcome.{or_else}
use Rattle.driver_start.specs.Start.{started_slot, started_slots, started_state, start_conditions, start_call}

pub started_none : (s : State) (d : Driver) → with_slots s (started_slots d 0 s.endpoints) ≡ s
unfolding started_slots
started_none s d = change_none_of (started_slot d) s

pub started_next : (s₀ s : State) (d : Driver) (i : ℕ) (y : Slot) → s ≡ with_slots s₀ (started_slots d i s₀.endpoints) → y ≡ started_slot d i (slot_at s i)
    → with_slots s (set s.endpoints i y) ≡ with_slots s₀ (started_slots d (i + 1) s₀.endpoints)
unfolding started_slots
started_next s₀ s d i y h e = change_next_in (started_slot d) s₀ s i y h e

module _ (s : State) (v : Events) (d : Driver) (size : ℕ) where
  -- Each refusal is given exactly where it is the first that is due, and none where none is.
  pub start_bound : Bound (start_conditions s v d size) (first_refusal (start_conditions s v d size))
  start_bound = bound (start_conditions s v d size)

  pub start_refused : (r : Refusal) → first_refusal (start_conditions s v d size) ≡ Err r
      → (Err r ≡ (start_call s v d size).answer)
      × ((s ≡ (start_call s v d size).state)
      × ((v ≡ (start_call s v d size).events) × ((no_wakes ≡ (start_call s v d size).wakes) × (refusal_number r ≡ check_number (first_refusal (start_conditions s v d size))))))
  unfolding start_call or_else
  start_refused r h = rw h (refl, (refl, (refl, (refl, refl))))

  pub start_made : first_refusal (start_conditions s v d size) ≡ Ok tt
      → (Ok tt ≡ (start_call s v d size).answer)
      × ((started_state s d ≡ (start_call s v d size).state)
      × ((record { events = power } ≡ (start_call s v d size).events) × ((no_wakes ≡ (start_call s v d size).wakes) × (0 ≡ check_number (first_refusal (start_conditions s v d size))))))
  unfolding start_call or_else
  start_made h = rw h (refl, (refl, (refl, (refl, refl))))
