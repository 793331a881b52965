-- Raising and polling by their ways out.
-- Assumes nothing.
use Rattle.std.specs.Prelude.{ℕ, ◌≡◌, refl, [], ◌∷◌, Ok, Err, Option, Some, None}
use Rattle.state.specs.declared.State.{State}
use Rattle.state.specs.declared.Events.{Events}
use Rattle.state.specs.declared.Refusal.{Refusal}
use Rattle.state.specs.Numbers.{check_number, refusal_number}
use Rattle.state.specs.Refusals.{first_refusal, Bound}
use Rattle.state.specs.RefusalsLaws.{bound}
use Rattle.state_slots.specs.Waking.{no_wakes}
use Rattle.state_events.specs.declared.Event.{Event}
use Rattle.state_events.specs.Events.{raise_byte, next_pending, pending_number, poll_byte}
use Rattle.state_call.specs.Outcome.{or_else}
use Rattle.bus_events.specs.Raise.{raise_conditions, raise_call}
use Rattle.bus_events.specs.Poll.{poll_conditions, poll_call, poll_numbers, poll_says}

module _ (s : State) (v : Events) (event : ℕ) where
  -- Each refusal is given exactly where it is the first that is due, and none where none is.
  pub raise_bound : Bound (raise_conditions s v event) (first_refusal (raise_conditions s v event))
  raise_bound = bound (raise_conditions s v event)

  pub raise_refused : (r : Refusal) → first_refusal (raise_conditions s v event) ≡ Err r
      → (Err r ≡ (raise_call s v event).answer)
      × ((v ≡ (raise_call s v event).events) × ((no_wakes ≡ (raise_call s v event).wakes) × (refusal_number r ≡ check_number (first_refusal (raise_conditions s v event)))))
  unfolding raise_call or_else
  raise_refused r h = rw h (refl, (refl, (refl, refl)))

  pub raise_made : first_refusal (raise_conditions s v event) ≡ Ok tt
      → ((Ok tt) ≡ (raise_call s v event).answer)
      × ((record { events = raise_byte v.events event } ≡ (raise_call s v event).events)
      × ((no_wakes ≡ (raise_call s v event).wakes) × (0 ≡ check_number (first_refusal (raise_conditions s v event)))))
  unfolding raise_call or_else
  raise_made h = rw h (refl, (refl, (refl, refl)))

module _ (s : State) (v : Events) where
  pub poll_bound : Bound (poll_conditions s v) (first_refusal (poll_conditions s v))
  poll_bound = bound (poll_conditions s v)

  pub poll_refused : (r : Refusal) → first_refusal (poll_conditions s v) ≡ Err r
      → (Err r ≡ (poll_call s v).answer) × ((v ≡ (poll_call s v).events) × ((no_wakes ≡ (poll_call s v).wakes) × (poll_numbers (Err r) ≡ poll_says s v)))
  unfolding poll_call or_else
  poll_refused r h = rw h (refl, (refl, (refl, refl)))

  numbers : (p : Option Event) → poll_numbers (Ok p) ≡ 0 ∷ pending_number p ∷ []
  numbers None = refl
  numbers (Some e) = refl

  pub poll_made : first_refusal (poll_conditions s v) ≡ Ok tt
      → (Ok (next_pending v.events) ≡ (poll_call s v).answer)
      × ((record { events = poll_byte v.events } ≡ (poll_call s v).events)
      × ((no_wakes ≡ (poll_call s v).wakes) × (poll_numbers (Ok (next_pending v.events)) ≡ poll_says s v)))
  unfolding poll_call or_else
  poll_made h = rw h (refl, (refl, (refl, numbers (next_pending v.events))))
