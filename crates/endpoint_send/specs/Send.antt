-- A piece of a send begun (reference: `write`, `write_transfer` and `send` of endpoint.rs).
-- Assumes nothing.
use Rattle.std.specs.Prelude.{ℕ, true, cond, List, [], ◌∷◌, Err, Result, Ok}
use Rattle.state.specs.declared.Slot.{Slot}
use Rattle.state.specs.declared.State.{State}
use Rattle.state.specs.declared.Events.{Events}
use Rattle.state.specs.declared.Refusal.{Refusal}
use Rattle.state.specs.Numbers.{refusal_number}
use Rattle.state.specs.Refusals.{Condition, first_refusal}
use Rattle.state_slots.specs.Slots.{slot_of}
use Rattle.state_slots.specs.Waking.{no_wakes}
use Rattle.state_call.specs.Outcome.{Outcome, or_else, unless}
use Rattle.transfer_begin.specs.Begin.{begin_conditions, begun_state, begun_ops}
use Rattle.endpoint_parts.specs.Parts.{part}
use Rattle.endpoint_choice.specs.declared.Asked.{Asked}
use Rattle.endpoint_choice.specs.Choice.{place, longer, own_unfit, send_direct, send_piece, send_begins}
use Rattle.endpoint_answer.specs.declared.Move.{Move}
use Rattle.endpoint_answer.specs.declared.Move.TheVariants as move

-- Those of begin: 7; 9 of a `write` above a packet; 22; 23; 8 also of the lent own buffer. They come before everything,
-- also where there is nothing to send.
abbrev pub send_conditions : ℕ → State → Events → ℕ → Asked → ℕ → ℕ → List Condition
send_conditions room s v e k own_address own_size =
    begin_conditions room s v e true (send_piece (slot_of s e true) k) (longer (slot_of s e true) k) (own_unfit (slot_of s e true) own_address own_size)

-- the bytes that go to the start of the own buffer: the piece, where it isn't sent from where it lies
abbrev pub send_copies : Slot → Asked → List ℕ → List ℕ
send_copies x k bytes = cond (send_direct k) [] (part bytes (place k) (send_piece x k).length)

-- the transfer of the next piece begins, its bytes in place; or there is none left, and all is sent
abbrev pub send_made : State → Events → ℕ → Asked → List ℕ → Outcome (Result Move Refusal)
send_made s v e k bytes =
    cond (send_begins (slot_of s e true) k)
    (record {
      answer = Ok (move.Begun (send_piece (slot_of s e true) k).length);
      state = begun_state s e true (send_piece (slot_of s e true) k);
      events = v;
      ops = begun_ops s e true (send_piece (slot_of s e true) k);
      wakes = no_wakes;
      copied = send_copies (slot_of s e true) k bytes;
    })
    (record { answer = Ok (move.Ended k.length); state = s; events = v; ops = []; wakes = no_wakes; copied = [] })

-- the caller's bytes are lent, and the own buffer, which lies at an address and is so long
unfoldable pub send_call : ℕ → State → Events → ℕ → Asked → List ℕ → ℕ → ℕ → Outcome (Result Move Refusal)
send_call room s v e k bytes own_address own_size = unless Err (first_refusal (send_conditions room s v e k own_address own_size)) s v (send_made s v e k bytes)

-- the numbers of its answer
abbrev pub send_says : ℕ → State → Events → ℕ → Asked → ℕ → ℕ → List ℕ
send_says room s v e k own_address own_size =
    or_else (first_refusal (send_conditions room s v e k own_address own_size)) (λ r. refusal_number r ∷ [])
    (cond (send_begins (slot_of s e true) k) (0 ∷ 0 ∷ (send_piece (slot_of s e true) k).length ∷ []) (0 ∷ 2 ∷ k.length ∷ []))
