-- What the stages of a control transfer share (reference: control.rs). A stage replaces one of its own direction that is in
-- hand.
-- Assumes nothing.
use Rattle.std.specs.Prelude.{ℕ, Bool, not, ◌&&◌, Option, List, [], ◌∷◌, eqb, Err, Result, Ok}
use Rattle.ops.specs.Ops.{Op}
use Rattle.state.specs.declared.Phase.TheVariants.{Busy}
use Rattle.state.specs.declared.Slot.{Slot}
use Rattle.state.specs.declared.State.{State}
use Rattle.state.specs.declared.Events.{Events}
use Rattle.state.specs.declared.Refusal.{Refusal}
use Rattle.state.specs.Refusals.{Check}
use Rattle.state.specs.Fresh.{slot_at}
use Rattle.state.specs.Numbers.{refusal_number}
use Rattle.state.specs.Setters.{with_slot, with_stage}
use Rattle.state_slots.specs.Slots.{moved_slot}
use Rattle.state_slots.specs.Waking.{no_wakes}
use Rattle.state_call.specs.Outcome.{Outcome, or_else}
use Rattle.control_stage.specs.declared.Stage.{Stage}
use Rattle.control_stage.specs.declared.Stage.TheVariants as stage

-- a stage is served while there is power and its generation is that of the last SETUP or bus reset
abbrev pub servedb : State → ℕ → Bool
servedb s generation = s.powered && eqb s.control_generation generation

-- refusal 8: EP0's lent buffer is of another address or length than the state's
abbrev pub ep0_unfit : State → ℕ → ℕ → Bool
ep0_unfit s address size = not (eqb address s.ep0_address && eqb size 512)

-- a slot of endpoint 0 under way
abbrev pub staged_slot : Slot → Slot
staged_slot x = moved_slot x Busy x.transfer

-- an accepted stage
abbrev pub begun : State → Events → List Op → List ℕ → Outcome (Result Stage Refusal)
begun s v ops bytes = record { answer = Ok stage.Accepted; state = s; events = v; ops = ops; wakes = no_wakes; copied = bytes }

-- answered without a number: no change, no record
abbrev pub unanswered : State → Events → Outcome (Result Stage Refusal)
unanswered s v = record { answer = Ok stage.Unanswered; state = s; events = v; ops = []; wakes = no_wakes; copied = [] }

-- an IN stage begun: whether its packet is the last, and the address that waits for the status stage, if one does
abbrev pub in_stage : State → Bool → Option ℕ → State
in_stage s last address = with_stage (with_slot s 1 (staged_slot (slot_at s 1))) last address

-- the numbers of an answer: a refusal's, 0, or none
abbrev pub stage_numbers : Result Stage Refusal → List ℕ
stage_numbers (Err r) = refusal_number r ∷ []
stage_numbers (Ok stage.Accepted) = 0 ∷ []
stage_numbers (Ok stage.Unanswered) = []

abbrev pub stage_says : Check → List ℕ → List ℕ
stage_says c made = or_else c (λ r. refusal_number r ∷ []) made
