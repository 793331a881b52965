-- The end of a chain, as an interrupt reports it (reference: `data_irq` of device.rs). It isn't refused: the interrupt
-- tests its readings before. IN has no packets and no last length to tell; what is handed in for them isn't looked at.
-- Assumes nothing.
use Rattle.std.specs.Prelude.{ℕ, Bool, cond, List, [], ◌++◌}
use Rattle.ops.specs.Ops.{Op}
use Rattle.state.specs.declared.State.{State}
use Rattle.state.specs.Setters.{with_slot, limit_of}
use Rattle.state_slots.specs.Slots.{slot_number, slot_of}
use Rattle.state_slots.specs.Completing.{done_at}
use Rattle.regs_endpoint.specs.Endpoint.{chain_ack_ops}
use Rattle.transfer_chain.specs.Chains.{queued_slot, queue_ops}
use Rattle.transfer_window.specs.Window.{own_window_ops}
use Rattle.transfer_step.specs.declared.Step.{Step}
use Rattle.transfer_step.specs.declared.Step.TheVariants.{Ignored, GoesOn, Completes}
use Rattle.transfer_step.specs.Step.{report_step}

abbrev pub state_after : State → ℕ → Bool → Step → State
state_after s i incoming Ignored = s
state_after s i incoming (GoesOn x) = with_slot s i (queued_slot (limit_of s) incoming x)
state_after s i incoming (Completes x) = done_at s i x

-- the next chain, and behind it the window of an OUT endpoint
abbrev pub ops_after : State → ℕ → Bool → Step → List Op
ops_after s e incoming Ignored = []
ops_after s e incoming (GoesOn x) = queue_ops (limit_of s) e incoming x ++ own_window_ops s e incoming
ops_after s e incoming (Completes x) = []

unfoldable pub report_state : State → ℕ → Bool → ℕ → ℕ → State
report_state s e incoming packets last = state_after s (slot_number e incoming) incoming (report_step (limit_of s) incoming packets last (slot_of s e incoming))

-- the flag of the chain is acknowledged first, whatever the slot is in
unfoldable pub report_ops : State → ℕ → Bool → ℕ → ℕ → List Op
report_ops s e incoming packets last = chain_ack_ops e incoming ++ ops_after s e incoming (report_step (limit_of s) incoming packets last (slot_of s e incoming))

-- how many slots are counted for the window: of IN none, since it has no window
abbrev pub slots_counted : Bool → ℕ
slots_counted incoming = cond incoming 0 14
