-- Asking for an event (reference: `poll` of device.rs).
-- Assumes nothing.
use Rattle.std.specs.Prelude.{ℕ, List, [], ◌∷◌, Err, Option, Some, None, Result, Ok}
use Rattle.state.specs.declared.State.{State}
use Rattle.state.specs.declared.Events.{Events}
use Rattle.state.specs.declared.Refusal.{Refusal}
use Rattle.state.specs.Numbers.{refusal_number}
use Rattle.state.specs.Refusals.{Condition, first_refusal}
use Rattle.state_slots.specs.Waking.{no_wakes}
use Rattle.state_events.specs.declared.Event.{Event}
use Rattle.state_events.specs.Events.{event_number, next_pending, pending_number, poll_byte}
use Rattle.state_call.specs.Turn.{in_turn}
use Rattle.state_call.specs.Outcome.{Outcome, or_else, unless}

abbrev pub poll_conditions : State → Events → List Condition
poll_conditions s v = in_turn s v []

-- the pending event of highest precedence is cleared
unfoldable pub poll_call : State → Events → Outcome (Result (Option Event) Refusal)
poll_call s v =
    unless Err (first_refusal (poll_conditions s v)) s v
    (record { answer = Ok (next_pending v.events); state = s; events = record { events = poll_byte v.events }; ops = []; wakes = no_wakes; copied = [] })

-- the numbers of an answer: the refusal's, or 0 and the event's, which is 0 where none is pending
abbrev pub poll_numbers : (Result (Option Event) Refusal) → List ℕ
poll_numbers (Err r) = refusal_number r ∷ []
poll_numbers (Ok None) = 0 ∷ 0 ∷ []
poll_numbers (Ok (Some e)) = 0 ∷ event_number e ∷ []

abbrev pub poll_says : State → Events → List ℕ
poll_says s v = or_else (first_refusal (poll_conditions s v)) (λ r. refusal_number r ∷ []) (0 ∷ pending_number (next_pending v.events) ∷ [])
