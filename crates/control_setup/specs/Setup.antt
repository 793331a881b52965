-- A SETUP fetched (reference: `setup` of control.rs).
-- Assumes nothing.
use Rattle.std.specs.Prelude.{ℕ, List, [], ◌∷◌, Err, Option, Some, None, Result, Ok}
use Rattle.state.specs.declared.State.{State}
use Rattle.state.specs.declared.Events.{Events}
use Rattle.state.specs.declared.Refusal.{Refusal}
use Rattle.state.specs.Numbers.{refusal_number}
use Rattle.state.specs.Refusals.{Condition, first_refusal}
use Rattle.state.specs.Setters.{unasked}
use Rattle.state_slots.specs.Waking.{no_wakes}
use Rattle.state_call.specs.Turn.{in_turn}
use Rattle.state_call.specs.Outcome.{Outcome, or_else, unless}
use Rattle.control_setup.specs.declared.Fetched.{Fetched}

abbrev pub setup_conditions : State → Events → List Condition
setup_conditions s v = in_turn s v []

-- a SETUP's bytes, and the generation that its stages are to name
abbrev pub fetched : ℕ → Option (List ℕ) → Option Fetched
fetched generation None = None
fetched generation (Some bytes) = Some (record { setup = bytes; generation = generation })

-- it waits no longer
unfoldable pub setup_call : State → Events → Outcome (Result (Option Fetched) Refusal)
setup_call s v =
    unless Err (first_refusal (setup_conditions s v)) s v
    (record { answer = Ok (fetched s.control_generation s.setup); state = unasked s; events = v; ops = []; wakes = no_wakes; copied = [] })

-- the numbers of an answer: a refusal's, 0 where no SETUP waits, or 0 and the generation
abbrev pub setup_numbers : Result (Option Fetched) Refusal → List ℕ
setup_numbers (Err r) = refusal_number r ∷ []
setup_numbers (Ok None) = 0 ∷ []
setup_numbers (Ok (Some f)) = 0 ∷ f.generation ∷ []

abbrev pub fetched_says : ℕ → Option (List ℕ) → List ℕ
fetched_says generation None = 0 ∷ []
fetched_says generation (Some bytes) = 0 ∷ generation ∷ []

abbrev pub setup_says : State → Events → List ℕ
setup_says s v = or_else (first_refusal (setup_conditions s v)) (λ r. refusal_number r ∷ []) (fetched_says s.control_generation s.setup)
