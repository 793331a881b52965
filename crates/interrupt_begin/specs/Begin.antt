-- An interrupt begun (reference: `on_interrupt` of device.rs).
-- Assumes nothing.
use Rattle.std.specs.Prelude.{ℕ, Bool, not, cond, List, [], ◌∷◌, ltb, Err, Option, Some, Result}
use Rattle.ops.specs.Ops.{list_numbers}
use Rattle.state.specs.declared.Awaiting.{Awaiting}
use Rattle.state.specs.declared.Awaiting.TheVariants as awaiting
use Rattle.state.specs.declared.Awaited.{Awaited}
use Rattle.state.specs.declared.State.{State}
use Rattle.state.specs.declared.Events.{Events}
use Rattle.state.specs.Refusals.{Check}
use Rattle.state.specs.declared.Refusal.{Refusal}
use Rattle.state.specs.declared.Refusal.TheVariants.{ListTooShort, Unsound}
use Rattle.state.specs.Fresh.{nothing_awaited}
use Rattle.state.specs.Numbers.{refusal_number}
use Rattle.state.specs.Refusals.{Condition, ◌if◌, first_refusal}
use Rattle.state_call.specs.Turn.{admitted}
use Rattle.state_call.specs.Outcome.{Outcome, or_else, unless}
use Rattle.interrupt_asks.specs.Asking.{asked}
use Rattle.interrupt_asks.specs.Settled.{settled}

abbrev pub interrupt_conditions : ℕ → State → Events → List Condition
interrupt_conditions room s v = admitted room s v []

-- the link's flags are read first; unpowered, nothing is
abbrev pub first_awaited : Bool → Awaited
first_awaited powered = cond powered (asked nothing_awaited (Some awaiting.LinkFlags)) nothing_awaited

unfoldable pub interrupt_call : ℕ → State → Events → Outcome (Result (Option Awaiting) Refusal)
interrupt_call room s v = unless Err (first_refusal (interrupt_conditions room s v)) s v (settled s v (first_awaited s.powered) [])

abbrev pub interrupt_says : ℕ → State → Events → List ℕ
interrupt_says room s v = or_else (first_refusal (interrupt_conditions room s v)) (λ r. refusal_number r ∷ []) (0 ∷ cond s.powered 1 0 ∷ [])

-- of a reading 10 and 26 come before it is looked at
abbrev pub door_conditions : ℕ → Bool → List Condition → List Condition
door_conditions room good own = ListTooShort if ltb room list_numbers ∷ Unsound if not good ∷ own

abbrev pub door : ℕ → Bool → Check
door room good = first_refusal (door_conditions room good [])
