-- What the takes of stages share, and an IN stage taken (reference: `stage` of control.rs).
-- Assumes nothing.
use Rattle.std.specs.Prelude.{ℕ, Bool, true, false, not, cond, List, [], ◌∷◌, Err, Option, Some, None, Result, Ok}
use Rattle.state.specs.declared.Phase.{Phase}
use Rattle.state.specs.declared.Phase.TheVariants.{Idle, Busy, Done}
use Rattle.state.specs.declared.Slot.{Slot}
use Rattle.state.specs.declared.State.{State}
use Rattle.state.specs.declared.Events.{Events}
use Rattle.state.specs.declared.Refusal.{Refusal}
use Rattle.state.specs.declared.Refusal.TheVariants.{Disabled, UnfitBuffer}
use Rattle.state.specs.Fresh.{slot_at}
use Rattle.state.specs.Numbers.{refusal_number}
use Rattle.state.specs.Refusals.{Condition, ◌if◌, first_refusal}
use Rattle.state.specs.Setters.{with_slot}
use Rattle.state_slots.specs.Slots.{moved_slot}
use Rattle.state_slots.specs.Waking.{no_wakes}
use Rattle.state_call.specs.Turn.{in_turn}
use Rattle.state_call.specs.Outcome.{Outcome, or_else, unless}
use Rattle.transfer_take.specs.Take.{take_numbers}
use Rattle.control_stage.specs.Stage.{servedb}

abbrev pub doneb : Phase → Bool
doneb Idle = false
doneb Busy = false
doneb Done = true

abbrev pub idle_slot : Slot → Slot
idle_slot x = moved_slot x Idle x.transfer

abbrev pub stage_own : State → ℕ → Bool → List Condition
stage_own s generation unfit = Disabled if not (servedb s generation) ∷ UnfitBuffer if unfit ∷ []

abbrev pub take_in_conditions : State → Events → ℕ → List Condition
take_in_conditions s v generation = in_turn s v (stage_own s generation false)

-- an IN stage that is done gives nothing but that it is
unfoldable pub take_in_call : State → Events → ℕ → Outcome (Result (Option ℕ) Refusal)
take_in_call s v generation =
    unless Err (first_refusal (take_in_conditions s v generation)) s v
    (record {
      answer = cond (doneb (slot_at s 1).phase) (Ok (Some 0)) (Ok None);
      state = cond (doneb (slot_at s 1).phase) (with_slot s 1 (idle_slot (slot_at s 1))) s;
      events = v;
      ops = [];
      wakes = no_wakes;
      copied = [];
    })

-- of a take they are those of any other take
abbrev pub take_in_says : State → Events → ℕ → List ℕ
take_in_says s v generation =
    or_else (first_refusal (take_in_conditions s v generation)) (λ r. refusal_number r ∷ []) (take_numbers (cond (doneb (slot_at s 1).phase) (Ok (Some 0)) (Ok None)))
