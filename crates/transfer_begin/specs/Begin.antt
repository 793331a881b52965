-- Beginning a transfer (reference: `run` of endpoint.rs, `start` of device.rs).
-- Assumes nothing.
use Rattle.std.specs.Prelude.{ℕ, Bool, List, [], ◌++◌, Err, Result, Ok}
use Rattle.ops.specs.Ops.{Op}
use Rattle.state.specs.declared.Slot.{Slot}
use Rattle.state.specs.declared.State.{State}
use Rattle.state.specs.declared.Events.{Events}
use Rattle.state.specs.declared.Refusal.{Refusal}
use Rattle.state.specs.Setters.{with_slot, limit_of}
use Rattle.state.specs.Refusals.{Condition, first_refusal}
use Rattle.state_slots.specs.Slots.{slot_number, slot_of}
use Rattle.state_slots.specs.Waking.{no_wakes}
use Rattle.state_call.specs.Turn.{admitted}
use Rattle.state_call.specs.Outcome.{Outcome, unless}
use Rattle.transfer_chain.specs.Chains.{queued_slot, queue_ops}
use Rattle.transfer_window.specs.Window.{windows_ops}
use Rattle.transfer_piece.specs.declared.Piece.{Piece}
use Rattle.transfer_piece.specs.Piece.{begin_own, begun_slot}

abbrev pub begin_conditions : ℕ → State → Events → ℕ → Bool → Piece → Bool → Bool → List Condition
begin_conditions room s v e incoming p long unfit =
    admitted room s v (begin_own s.powered e incoming p.address p.length long unfit (slot_of s e incoming))

abbrev pub begun_at : State → ℕ → Bool → Piece → Slot
begun_at s e incoming p = begun_slot (slot_of s e incoming) p

-- The start of a transfer, behind its tests: its first chain is handed over,
abbrev pub begun_state : State → ℕ → Bool → Piece → State
begun_state s e incoming p = with_slot s (slot_number e incoming) (queued_slot (limit_of s) incoming (begun_at s e incoming p))

-- and before that the windows of all busy OUT endpoints are written. They are decided with this transfer in hand.
abbrev pub in_hand_state : State → ℕ → Bool → Piece → State
in_hand_state s e incoming p = with_slot s (slot_number e incoming) (begun_at s e incoming p)

abbrev pub begun_ops : State → ℕ → Bool → Piece → List Op
begun_ops s e incoming p = windows_ops (in_hand_state s e incoming p) ++ queue_ops (limit_of s) e incoming (begun_at s e incoming p)

unfoldable pub begin_call : ℕ → State → Events → ℕ → Bool → Piece → Bool → Bool → Outcome (Result Unit Refusal)
begin_call room s v e incoming p long unfit =
    unless Err (first_refusal (begin_conditions room s v e incoming p long unfit)) s v
    (record { answer = Ok tt; state = begun_state s e incoming p; events = v; ops = begun_ops s e incoming p; wakes = no_wakes; copied = [] })
