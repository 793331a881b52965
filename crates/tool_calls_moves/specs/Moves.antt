-- The world and the lent list behind a line of `move` or `next` (docs/REPLAY.md, "Sends and receives").
-- Assumes nothing.
use Rattle.std.specs.Prelude.{ℕ, min, take, replicate, cond, List, Result, Ok, Err}
use Rattle.std.proofs.lemmas.List.Edits.{sets}
use Rattle.ops.specs.Ops.{flat}
use Rattle.state.specs.declared.State.{State}
use Rattle.state.specs.declared.Events.{Events}
use Rattle.state.specs.declared.Slot.{Slot}
use Rattle.state.specs.declared.Refusal.{Refusal}
use Rattle.state.specs.Fresh.{slot_at}
use Rattle.state_slots.specs.Slots.{slot_place, own_buffer}
use Rattle.state_call.specs.Outcome.{Outcome}
use Rattle.endpoint_choice.specs.declared.MoveRequest.{MoveRequest}
use Rattle.endpoint_choice.specs.Choice.{asked_of}
use Rattle.endpoint_answer.specs.declared.Move.{Move}
use Rattle.endpoint_answer.specs.declared.Move.TheVariants.{Begun, Busy, More, Ended}
use Rattle.endpoint_send.specs.Send.{send_call}
use Rattle.endpoint_sent.specs.Sent.{sent_call}
use Rattle.endpoint_receive.specs.Receive.{receive_call}
use Rattle.endpoint_received.specs.Received.{received_call}
use Rattle.tool_patterns.specs.Patterns.{filled}
use Rattle.tool_moves.specs.declared.asked.Asked.{Asked}
use Rattle.tool_moves.specs.Lines.{from}
use Rattle.world.specs.declared.World.{World}

-- the slot that a line names
abbrev pub slot_for : State → Asked → Slot
slot_for s k = slot_at s (slot_place k.endpoint.index k.endpoint.incoming)

-- the first bytes of so many that a pattern fills
abbrev pub patterned : ℕ → ℕ → ℕ → List ℕ
patterned room pattern count = take count (filled pattern (replicate room 0))

-- no more of the caller's bytes are lent than 65536, and of the own buffer's than 16384
abbrev pub count_lent : Asked → ℕ
count_lent k = min k.length 65536

abbrev pub own_lent : Slot → ℕ
own_lent x = min (own_buffer x).size 16384

abbrev pub request_for : Asked → Slot → MoveRequest
request_for k x = record { single = k.single; needs_zlp = k.flag; address = k.address; own_address = (own_buffer x).address; position = k.position }

-- A piece is begun: of a send the caller's bytes hold the pattern.
abbrev pub send_for : State → Events → Asked → Slot → Outcome (Result Move Refusal)
send_for s v k x =
    send_call 640 s v k.endpoint.index (asked_of (request_for k x) (count_lent k)) (patterned 65536 k.pattern (count_lent k)) (own_buffer x).address (own_lent x)

abbrev pub receive_for : State → Events → Asked → Slot → Outcome (Result Move Refusal)
receive_for s v k x = receive_call 640 s v k.endpoint.index (asked_of (request_for k x) (count_lent k)) (own_buffer x).address (own_lent x)

abbrev pub begun_for : State → Events → Asked → Outcome (Result Move Refusal)
begun_for s v k = cond k.endpoint.incoming (send_for s v k (slot_for s k)) (receive_for s v k (slot_for s k))

-- A piece is taken: of a receive the own buffer holds the pattern.
abbrev pub sent_for : State → Events → Asked → Slot → Outcome (Result Move Refusal)
sent_for s v k x = sent_call s v k.endpoint.index (asked_of (request_for k x) (count_lent k)) (own_buffer x).address (own_lent x)

abbrev pub received_for : State → Events → Asked → Slot → Outcome (Result Move Refusal)
received_for s v k x =
    received_call s v k.endpoint.index (asked_of (request_for k x) (count_lent k)) (patterned 16384 k.pattern (own_lent x)) (own_buffer x).address

abbrev pub taken_for : State → Events → Asked → Outcome (Result Move Refusal)
taken_for s v k = cond k.endpoint.incoming (sent_for s v k (slot_for s k)) (received_for s v k (slot_for s k))

abbrev pub world_begun : World → Asked → World
world_begun w k = record w { state = (begun_for w.state w.events k).state }

abbrev pub list_begun : World → Asked → List ℕ → List ℕ
list_begun w k l = sets l 0 (flat (begun_for w.state w.events k).ops)

-- where a piece that was taken leaves more to move, the next one is begun from there
abbrev pub gone_on : World → Asked → Result Move Refusal → World
gone_on w k (Err r) = w
gone_on w k (Ok (Begun n)) = w
gone_on w k (Ok Busy) = w
gone_on w k (Ok (More position)) = world_begun w (from k position)
gone_on w k (Ok (Ended n)) = w

abbrev pub list_gone_on : World → Asked → Result Move Refusal → List ℕ → List ℕ
list_gone_on w k (Err r) l = l
list_gone_on w k (Ok (Begun n)) l = l
list_gone_on w k (Ok Busy) l = l
list_gone_on w k (Ok (More position)) l = list_begun w (from k position) l
list_gone_on w k (Ok (Ended n)) l = l

abbrev pub world_taken : World → Asked → World
world_taken w k = record w { state = (taken_for w.state w.events k).state }

abbrev pub world_next : World → Asked → World
world_next w k = gone_on (world_taken w k) k (taken_for w.state w.events k).answer

abbrev pub list_next : World → Asked → List ℕ → List ℕ
list_next w k l = list_gone_on (world_taken w k) k (taken_for w.state w.events k).answer l
