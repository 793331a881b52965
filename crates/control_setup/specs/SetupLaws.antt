-- A SETUP fetched, by its ways out.
-- Assumes nothing.
use Rattle.std.specs.Prelude.{ℕ, List, [], ◌≡◌, refl, Option, Ok, Err, Some, None}
use Rattle.state.specs.declared.State.{State}
use Rattle.state.specs.declared.Events.{Events}
use Rattle.state.specs.declared.Refusal.{Refusal}
use Rattle.state.specs.Refusals.{first_refusal, Bound}
use Rattle.state.specs.RefusalsLaws.{bound}
use Rattle.state.specs.Setters.{unasked}
use Rattle.state_slots.specs.Waking.{no_wakes}
use Rattle.state_call.specs.Outcome.{or_else}
use Rattle.control_setup.specs.Setup.{setup_conditions, fetched, fetched_says, setup_call, setup_numbers, setup_says}

module _ (s : State) (v : Events) where
  -- Each refusal is given exactly where it is the first that is due, and none where none is.
  pub setup_bound : Bound (setup_conditions s v) (first_refusal (setup_conditions s v))
  setup_bound = bound (setup_conditions s v)

  pub setup_refused : (q : Refusal) → first_refusal (setup_conditions s v) ≡ Err q
      → (Err q ≡ (setup_call s v).answer) × ((s ≡ (setup_call s v).state) × ((no_wakes ≡ (setup_call s v).wakes) × (([] ≡ (setup_call s v).copied) × (setup_numbers (Err q) ≡ setup_says s v))))
  unfolding setup_call or_else
  setup_refused q e = rw e (refl, (refl, (refl, (refl, refl))))

  numbers : (o : Option (List ℕ)) → setup_numbers (Ok (fetched s.control_generation o)) ≡ fetched_says s.control_generation o
  numbers None = refl
  numbers (Some bytes) = refl

  pub setup_made : first_refusal (setup_conditions s v) ≡ Ok tt
      → (Ok (fetched s.control_generation s.setup) ≡ (setup_call s v).answer) × ((unasked s ≡ (setup_call s v).state) × ((no_wakes ≡ (setup_call s v).wakes) × (([] ≡ (setup_call s v).copied) × (setup_numbers (Ok (fetched s.control_generation s.setup)) ≡ setup_says s v))))
  unfolding setup_call or_else
  setup_made e = rw e (refl, (refl, (refl, (refl, numbers s.setup))))

  pub setup_fetched : first_refusal (setup_conditions s v) ≡ Ok tt → (bytes : List ℕ) → s.setup ≡ Some bytes
      → (Ok (Some (record { setup = bytes; generation = s.control_generation })) ≡ (setup_call s v).answer) × ((unasked s ≡ (setup_call s v).state) × ((no_wakes ≡ (setup_call s v).wakes) × (([] ≡ (setup_call s v).copied) × (setup_numbers (Ok (Some (record { setup = bytes; generation = s.control_generation }))) ≡ setup_says s v))))
  unfolding setup_call or_else
  setup_fetched e bytes h = rw (e, h) (refl, (refl, (refl, (refl, refl))))

  pub setup_none : first_refusal (setup_conditions s v) ≡ Ok tt → s.setup ≡ None
      → (Ok None ≡ (setup_call s v).answer) × ((unasked s ≡ (setup_call s v).state) × ((no_wakes ≡ (setup_call s v).wakes) × (([] ≡ (setup_call s v).copied) × (setup_numbers (Ok None) ≡ setup_says s v))))
  unfolding setup_call or_else
  setup_none e h = rw (e, h) (refl, (refl, (refl, (refl, refl))))
