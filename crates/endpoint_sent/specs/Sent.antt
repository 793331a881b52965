-- A piece of a send taken (reference: the loop of `send` in endpoint.rs).
-- Assumes nothing.
use Rattle.std.specs.Prelude.{ℕ, true, ◌&&◌, cond, List, [], ◌∷◌, ltb, Err, Option, Some, None, Result, Ok}
use Rattle.state.specs.declared.Slot.{Slot}
use Rattle.state.specs.declared.State.{State}
use Rattle.state.specs.declared.Events.{Events}
use Rattle.state.specs.declared.Refusal.{Refusal}
use Rattle.state.specs.Numbers.{refusal_number}
use Rattle.state.specs.Refusals.{first_refusal}
use Rattle.state_slots.specs.Slots.{busyb, slot_of}
use Rattle.state_call.specs.Outcome.{Outcome, or_else}
use Rattle.transfer_take.specs.Take.{take_conditions, take_call}
use Rattle.endpoint_choice.specs.declared.Asked.{Asked}
use Rattle.endpoint_choice.specs.Choice.{place_after, closes, own_unfit, own_transfer, any_length}
use Rattle.endpoint_answer.specs.declared.Move.{Move}
use Rattle.endpoint_answer.specs.declared.Move.TheVariants as move
use Rattle.endpoint_answer.specs.Answers.{move_numbers}

-- Bytes are left, or the closing packet of what was copied, or nothing. The closing packet is the piece of no bytes; a
-- send from where its bytes lie has it in its one transfer.
abbrev pub sent_next : Slot → Asked → ℕ → Move
sent_next x k n =
    cond (ltb (place_after k n) k.length) (move.More (place_after k n))
    (cond (own_transfer x && (closes x k && ltb 0 n)) (move.More k.length) (move.Ended k.length))

abbrev pub sent_says : Slot → Asked → Result (Option ℕ) Refusal → Result Move Refusal
sent_says x k (Err r) = Err r
sent_says x k (Ok None) = Ok move.Busy
sent_says x k (Ok (Some n)) = Ok (sent_next x k n)

-- The transfer is taken as any other, with 8 of the lent own buffer; the answer says what is next.
unfoldable pub sent_call : State → Events → ℕ → Asked → ℕ → ℕ → Outcome (Result Move Refusal)
sent_call s v e k own_address own_size =
    let t = take_call s v e true (own_unfit (slot_of s e true) own_address own_size) any_length in
    record { answer = sent_says (slot_of s e true) k t.answer; state = t.state; events = v; ops = []; wakes = t.wakes; copied = [] }

-- the numbers of its answer
abbrev pub sent_numbers : State → Events → ℕ → Asked → ℕ → ℕ → List ℕ
sent_numbers s v e k own_address own_size =
    or_else (first_refusal (take_conditions s v e true (own_unfit (slot_of s e true) own_address own_size))) (λ r. refusal_number r ∷ [])
    (cond (busyb (slot_of s e true).phase) (0 ∷ 0 ∷ [])
    (cond (ltb any_length (slot_of s e true).transfer.progress) (9 ∷ []) (move_numbers (Ok (sent_next (slot_of s e true) k (slot_of s e true).transfer.progress)))))
