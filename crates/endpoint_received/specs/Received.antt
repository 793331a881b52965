-- A piece of a receive taken (reference: the loop of `receive` in endpoint.rs).
-- Assumes nothing.
use Rattle.std.specs.Prelude.{ℕ, min, Bool, false, ◌||◌, cond, List, [], ◌∷◌, eqb, ltb, length, Err, Option, Some, None, Result, Ok}
use Rattle.state.specs.declared.Slot.{Slot}
use Rattle.state.specs.declared.State.{State}
use Rattle.state.specs.declared.Events.{Events}
use Rattle.state.specs.declared.Refusal.{Refusal}
use Rattle.state.specs.Numbers.{refusal_number}
use Rattle.state.specs.Refusals.{first_refusal}
use Rattle.state_slots.specs.Slots.{busyb, slot_of}
use Rattle.state_call.specs.Outcome.{Outcome, or_else}
use Rattle.transfer_take.specs.Take.{take_conditions, take_call}
use Rattle.endpoint_parts.specs.Parts.{part}
use Rattle.endpoint_choice.specs.declared.Asked.{Asked}
use Rattle.endpoint_choice.specs.Choice.{rest, place_after, own_unfit, own_transfer, any_length}
use Rattle.endpoint_answer.specs.declared.Move.{Move}
use Rattle.endpoint_answer.specs.declared.Move.TheVariants as move
use Rattle.endpoint_answer.specs.Answers.{move_numbers}

-- refusal 9: more than is left of the caller's bytes, or than the own buffer holds that they are to come from
abbrev pub receive_most : Slot → Asked → ℕ → ℕ
receive_most x k own_size = min any_length (cond (own_transfer x) (min (rest k) own_size) (rest k))

-- a receive ends with one packet where one was asked for, with a piece that isn't filled, and with the caller's bytes full
abbrev pub received_ends : Slot → Asked → ℕ → Bool
received_ends x k n = k.single || (ltb n x.transfer.length || eqb (place_after k n) k.length)

abbrev pub received_next : Slot → Asked → ℕ → Move
received_next x k n = cond (received_ends x k n) (move.Ended (place_after k n)) (move.More (place_after k n))

abbrev pub received_says : Slot → Asked → Result (Option ℕ) Refusal → Result Move Refusal
received_says x k (Err r) = Err r
received_says x k (Ok None) = Ok move.Busy
received_says x k (Ok (Some n)) = Ok (received_next x k n)

-- how many bytes came by way of the own buffer: they are stored in the caller's bytes, from where it stands
abbrev pub brought_by : Bool → Result (Option ℕ) Refusal → ℕ
brought_by own (Err r) = 0
brought_by own (Ok None) = 0
brought_by own (Ok (Some n)) = cond own n 0

-- The transfer is taken as any other, with 8 of the lent own buffer and 9 of what came. 9 closes it and copies no byte.
unfoldable pub received_call : State → Events → ℕ → Asked → List ℕ → ℕ → Outcome (Result Move Refusal)
received_call s v e k own own_address =
    let x = slot_of s e false in
    let t = take_call s v e false (own_unfit x own_address (length own)) (receive_most x k (length own)) in
    record { answer = received_says x k t.answer; state = t.state; events = v; ops = []; wakes = t.wakes; copied = part own 0 (brought_by (own_transfer x) t.answer) }

-- the numbers of its answer
abbrev pub received_numbers : State → Events → ℕ → Asked → ℕ → ℕ → List ℕ
received_numbers s v e k own_address own_size =
    or_else (first_refusal (take_conditions s v e false (own_unfit (slot_of s e false) own_address own_size))) (λ r. refusal_number r ∷ [])
    (cond (busyb (slot_of s e false).phase) (0 ∷ 0 ∷ [])
    (cond (ltb (receive_most (slot_of s e false) k own_size) (slot_of s e false).transfer.progress) (9 ∷ []) (move_numbers (Ok (received_next (slot_of s e false) k (slot_of s e false).transfer.progress)))))
