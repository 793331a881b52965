-- An OUT stage taken (reference: `stage` of control.rs).
-- Assumes nothing.
use Rattle.std.specs.Prelude.{ℕ, Bool, ◌||◌, cond, List, [], ◌∷◌, ltb, length, take, Err, Option, Some, None, Result, Ok}
use Rattle.state.specs.declared.State.{State}
use Rattle.state.specs.declared.Events.{Events}
use Rattle.state.specs.declared.Refusal.{Refusal}
use Rattle.state.specs.declared.Refusal.TheVariants.{TooLong}
use Rattle.state.specs.Fresh.{slot_at}
use Rattle.state.specs.Numbers.{refusal_number}
use Rattle.state.specs.Refusals.{Condition, first_refusal}
use Rattle.state.specs.Setters.{with_slot}
use Rattle.state_slots.specs.Waking.{no_wakes}
use Rattle.state_call.specs.Turn.{in_turn}
use Rattle.state_call.specs.Outcome.{Outcome, or_else, unless}
use Rattle.transfer_take.specs.Take.{take_numbers}
use Rattle.control_stage.specs.Stage.{ep0_unfit}
use Rattle.control_take.specs.Take.{doneb, idle_slot, stage_own}

abbrev pub take_out_conditions : State → Events → ℕ → Bool → List Condition
take_out_conditions s v generation unfit = in_turn s v (stage_own s generation unfit)

-- more has come than the caller has room for, or than EP0's 512 bytes hold
abbrev pub overflows : ℕ → ℕ → Bool
overflows received room = ltb room received || ltb 512 received

-- what an OUT stage that is done says: its bytes, or 9, which closes the stage too
abbrev pub out_says : ℕ → ℕ → Result (Option ℕ) Refusal
out_says received room = cond (overflows received room) (Err TooLong) (Ok (Some received))

-- and copies of EP0's bytes
abbrev pub out_copies : ℕ → ℕ → List ℕ → List ℕ
out_copies received room ep0 = cond (overflows received room) [] (take received ep0)

-- the caller has room for so many bytes; EP0's are lent from an address
unfoldable pub take_out_call : State → Events → ℕ → ℕ → List ℕ → ℕ → Outcome (Result (Option ℕ) Refusal)
take_out_call s v generation room ep0 address =
    unless Err (first_refusal (take_out_conditions s v generation (ep0_unfit s address (length ep0)))) s v
    (record {
      answer = cond (doneb (slot_at s 0).phase) (out_says (slot_at s 0).transfer.progress room) (Ok None);
      state = cond (doneb (slot_at s 0).phase) (with_slot s 0 (idle_slot (slot_at s 0))) s;
      events = v;
      ops = [];
      wakes = no_wakes;
      copied = cond (doneb (slot_at s 0).phase) (out_copies (slot_at s 0).transfer.progress room ep0) [];
    })

abbrev pub take_out_says : State → Events → ℕ → ℕ → List ℕ → ℕ → List ℕ
take_out_says s v generation room ep0 address =
    or_else (first_refusal (take_out_conditions s v generation (ep0_unfit s address (length ep0)))) (λ r. refusal_number r ∷ [])
    (take_numbers (cond (doneb (slot_at s 0).phase) (out_says (slot_at s 0).transfer.progress room) (Ok None)))
