-- Raising and polling keep the state, and the events sound beside it.
-- Assumes nothing.
use Rattle.std.specs.Prelude.{ℕ, true, ◌≡◌, refl, Err}
use Rattle.state.specs.declared.State.{State}
use Rattle.state.specs.declared.Events.{Events}
use Rattle.state_laws.specs.EventsLaws.{raise_sound, poll_sound}
use Rattle.state_sound.specs.Sound.{soundb}
use Rattle.state_sound.proofs.FactLaws.{own_facts, events_sound}
use Rattle.state_call.specs.OutcomeLaws.{keeps}
use Rattle.bus_events.specs.Raise.{raise_conditions, raise_call}
use Rattle.bus_events.specs.Poll.{poll_conditions, poll_call}

pub raise_keeps_sound : (s : State) (v : Events) (event : ℕ) → soundb s v ≡ true → soundb (raise_call s v event).state (raise_call s v event).events ≡ true
unfolding raise_call
raise_keeps_sound s v event h =
    keeps (λ t u. soundb t u ≡ true) Err (raise_conditions s v event) s v _ h
    (λ n. events_sound s v _ h (raise_sound v.events event (own_facts s v h).apart))

pub poll_keeps_sound : (s : State) (v : Events) → soundb s v ≡ true → soundb (poll_call s v).state (poll_call s v).events ≡ true
unfolding poll_call
poll_keeps_sound s v h =
    keeps (λ t u. soundb t u ≡ true) Err (poll_conditions s v) s v _ h
    (λ n. events_sound s v _ h (poll_sound v.events (own_facts s v h).apart))

-- They leave the state as it was.
pub raise_state : (s : State) (v : Events) (event : ℕ) → (raise_call s v event).state ≡ s
unfolding raise_call
raise_state s v event = keeps (λ t u. t ≡ s) Err (raise_conditions s v event) s v _ refl (λ n. refl)

pub poll_state : (s : State) (v : Events) → (poll_call s v).state ≡ s
unfolding poll_call
poll_state s v = keeps (λ t u. t ≡ s) Err (poll_conditions s v) s v _ refl (λ n. refl)
