-- Whether an endpoint is stalled, and whether it is enabled (reference: `is_endpoint_stalled` of device.rs, `wait_enabled`
-- of endpoint.rs).
-- Assumes nothing.
use Rattle.std.specs.Prelude.{ℕ, Bool, ◌&&◌, List, [], ◌∷◌, ltb, Err, Result, Ok}
use Rattle.base.specs.Bits.{bit}
use Rattle.state.specs.declared.State.{State}
use Rattle.state.specs.declared.Events.{Events}
use Rattle.state.specs.declared.Refusal.{Refusal}
use Rattle.state.specs.Numbers.{refusal_number}
use Rattle.state.specs.Refusals.{Condition, first_refusal}
use Rattle.state_slots.specs.Slots.{slot_of}
use Rattle.state_slots.specs.Waking.{no_wakes}
use Rattle.state_call.specs.Turn.{in_turn}
use Rattle.state_call.specs.Outcome.{Outcome, or_else, unless}

-- of endpoint 0 too; one that isn't there isn't stalled
abbrev pub stalledb : State → ℕ → Bool → Bool
stalledb s e incoming = ltb e 8 && (slot_of s e incoming).stalled

-- nothing is enabled while unpowered
abbrev pub enabledb : State → ℕ → Bool → Bool
enabledb s e incoming = ltb e 8 && (s.powered && (slot_of s e incoming).enabled)

-- a query is lent no list
abbrev pub query_conditions : State → Events → List Condition
query_conditions s v = in_turn s v []

abbrev pub query_call : State → Events → Bool → Outcome (Result Bool Refusal)
query_call s v b =
    unless Err (first_refusal (query_conditions s v)) s v (record { answer = Ok b; state = s; events = v; ops = []; wakes = no_wakes; copied = [] })

unfoldable pub stalled_call : State → Events → ℕ → Bool → Outcome (Result Bool Refusal)
stalled_call s v e incoming = query_call s v (stalledb s e incoming)

unfoldable pub enabled_call : State → Events → ℕ → Bool → Outcome (Result Bool Refusal)
enabled_call s v e incoming = query_call s v (enabledb s e incoming)

-- the numbers of an answer: the refusal's, or 0 and what it says as 0 or 1
abbrev pub query_numbers : Result Bool Refusal → List ℕ
query_numbers (Err r) = refusal_number r ∷ []
query_numbers (Ok b) = 0 ∷ bit b ∷ []

abbrev pub query_says : State → Events → Bool → List ℕ
query_says s v b = or_else (first_refusal (query_conditions s v)) (λ r. refusal_number r ∷ []) (0 ∷ bit b ∷ [])
