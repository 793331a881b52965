-- What an interrupt's call comes to: it awaits a reading, or handling has ended (reference: `on_interrupt` of device.rs).
-- Assumes nothing.
use Rattle.std.specs.Prelude.{ℕ, Bool, true, false, List, [], ◌∷◌, Err, Option, None, Result, Ok}
use Rattle.ops.specs.Ops.{Op}
use Rattle.state.specs.declared.Awaiting.{Awaiting}
use Rattle.state.specs.declared.Awaited.{Awaited}
use Rattle.state.specs.declared.State.{State}
use Rattle.state.specs.declared.Events.{Events}
use Rattle.state.specs.declared.Refusal.{Refusal}
use Rattle.state.specs.Awaiting.{awaiting_number, awaitingb}
use Rattle.state.specs.Numbers.{refusal_number}
use Rattle.state.specs.Setters.{with_awaited}
use Rattle.state_slots.specs.Completing.{collected, ended_state}
use Rattle.state_slots.specs.Waking.{no_wakes}
use Rattle.state_call.specs.Outcome.{Outcome}

-- a reading is awaited; or the bus flag is "events pending", the set is the one collected, and the state's is emptied
abbrev pub settled_at : Bool → State → Events → Awaited → List Op → Outcome (Result (Option Awaiting) Refusal)
settled_at true s v a ops = record { answer = Ok a.next; state = with_awaited s a; events = v; ops = ops; wakes = no_wakes; copied = [] }
settled_at false s v a ops = record { answer = Ok None; state = ended_state s; events = v; ops = ops; wakes = collected v s.wake; copied = [] }

unfoldable pub settled : State → Events → Awaited → List Op → Outcome (Result (Option Awaiting) Refusal)
settled s v a ops = settled_at (awaitingb a.next) s v a ops

-- the numbers of an answer: a refusal's; 0 and the place of the awaited reading in the sequence; 0 and 0 at the end
abbrev pub interrupt_numbers : Result (Option Awaiting) Refusal → List ℕ
interrupt_numbers (Err r) = refusal_number r ∷ []
interrupt_numbers (Ok next) = 0 ∷ awaiting_number next ∷ []
