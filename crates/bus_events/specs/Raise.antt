-- Raising an event (reference: `raise` of device.rs).
-- Assumes nothing.
use Rattle.std.specs.Prelude.{ℕ, not, List, [], ◌∷◌, Err, Result, Ok}
use Rattle.state.specs.declared.State.{State}
use Rattle.state.specs.declared.Events.{Events}
use Rattle.state.specs.declared.Refusal.{Refusal}
use Rattle.state.specs.declared.Refusal.TheVariants.{OutOfRange}
use Rattle.state.specs.Refusals.{Condition, ◌if◌, first_refusal}
use Rattle.state_slots.specs.Waking.{no_wakes}
use Rattle.state_events.specs.Events.{eventb, raise_byte}
use Rattle.state_call.specs.Turn.{in_turn}
use Rattle.state_call.specs.Outcome.{Outcome, unless}

-- 11: the number of an event is its bit
abbrev pub raise_own : ℕ → List Condition
raise_own event = OutOfRange if not (eventb event) ∷ []

abbrev pub raise_conditions : State → Events → ℕ → List Condition
raise_conditions s v event = in_turn s v (raise_own event)

unfoldable pub raise_call : State → Events → ℕ → Outcome (Result Unit Refusal)
raise_call s v event =
    unless Err (first_refusal (raise_conditions s v event)) s v
    (record { answer = (Ok tt); state = s; events = record { events = raise_byte v.events event }; ops = []; wakes = no_wakes; copied = [] })
