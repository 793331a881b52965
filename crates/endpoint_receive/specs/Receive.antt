-- A piece of a receive begun (reference: `read`, `read_transfer` and `receive` of endpoint.rs).
-- Assumes nothing.
use Rattle.std.specs.Prelude.{ℕ, false, List, [], ◌∷◌, Ok, Err, Result}
use Rattle.state.specs.declared.State.{State}
use Rattle.state.specs.declared.Events.{Events}
use Rattle.state.specs.declared.Refusal.{Refusal}
use Rattle.state.specs.Numbers.{refusal_number}
use Rattle.state.specs.Refusals.{Condition, first_refusal}
use Rattle.state_slots.specs.Slots.{slot_of}
use Rattle.state_slots.specs.Waking.{no_wakes}
use Rattle.state_call.specs.Outcome.{Outcome, or_else, unless}
use Rattle.transfer_begin.specs.Begin.{begin_conditions, begun_state, begun_ops}
use Rattle.endpoint_choice.specs.declared.Asked.{Asked}
use Rattle.endpoint_choice.specs.Choice.{own_unfit, receive_piece}
use Rattle.endpoint_answer.specs.declared.Move.{Move}
use Rattle.endpoint_answer.specs.declared.Move.TheVariants as move

-- Those of begin: 7; 22; 23; 8 also of the lent own buffer. What comes can't be too long yet.
abbrev pub receive_conditions : ℕ → State → Events → ℕ → Asked → ℕ → ℕ → List Condition
receive_conditions room s v e k own_address own_size = begin_conditions room s v e false (receive_piece (slot_of s e false) k) false (own_unfit (slot_of s e false) own_address own_size)

-- the transfer of the next piece begins; no byte is stored before it is taken
unfoldable pub receive_call : ℕ → State → Events → ℕ → Asked → ℕ → ℕ → Outcome (Result Move Refusal)
receive_call room s v e k own_address own_size =
    unless Err (first_refusal (receive_conditions room s v e k own_address own_size)) s v
    (record {
      answer = Ok (move.Begun (receive_piece (slot_of s e false) k).length);
      state = begun_state s e false (receive_piece (slot_of s e false) k);
      events = v;
      ops = begun_ops s e false (receive_piece (slot_of s e false) k);
      wakes = no_wakes;
      copied = [];
    })

-- the numbers of its answer
abbrev pub receive_says : ℕ → State → Events → ℕ → Asked → ℕ → ℕ → List ℕ
receive_says room s v e k own_address own_size =
    or_else (first_refusal (receive_conditions room s v e k own_address own_size)) (λ r. refusal_number r ∷ []) (0 ∷ 0 ∷ (receive_piece (slot_of s e false) k).length ∷ [])
