-- What a report is to its slot, and what follows (reference: `data_irq` of device.rs).
-- Assumes nothing.
use Rattle.std.specs.Prelude.{ℕ, Bool, true, false, List, [], ◌++◌}
use Rattle.ops.specs.Ops.{Op}
use Rattle.state.specs.declared.Transfer.{Transfer}
use Rattle.state.specs.declared.Slot.{Slot}
use Rattle.state_slots.specs.Slots.{busyb, slot_size, moved_slot}
use Rattle.state_slots.specs.Waking.{add_slot}
use Rattle.state_slots.specs.Completing.{waiter_of, done_slot}
use Rattle.regs_endpoint.specs.Endpoint.{window_ops}
use Rattle.transfer_chain.specs.Chains.{queued_slot, queue_ops, arrived, in_goes_on, out_goes_on}
use Rattle.transfer_step.specs.declared.Step.{Step}
use Rattle.transfer_step.specs.declared.Step.TheVariants.{Ignored, GoesOn, Completes}

-- IN was counted when the chain was handed over; OUT counts what the report says
abbrev pub counted_transfer : ℕ → Bool → ℕ → ℕ → Slot → Transfer
counted_transfer limit true packets last x = x.transfer
counted_transfer limit false packets last x = arrived limit (slot_size x) x.transfer packets last

abbrev pub counted_slot : ℕ → Bool → ℕ → ℕ → Slot → Slot
counted_slot limit incoming packets last x = moved_slot x x.phase (counted_transfer limit incoming packets last x)

-- whether another chain follows, once the report is counted
abbrev pub goes_on : Bool → ℕ → ℕ → Transfer → Bool
goes_on true m last t = in_goes_on t
goes_on false m last t = out_goes_on m t last

-- a report of a slot that isn't busy is nobody's; else the transfer goes on or is done
abbrev pub step_of : Bool → Bool → Slot → Step
step_of false more x = Ignored
step_of true true x = GoesOn x
step_of true false x = Completes x

abbrev pub report_step : ℕ → Bool → ℕ → ℕ → Slot → Step
report_step limit incoming packets last x =
    step_of (busyb x.phase) (goes_on incoming (slot_size x) last (counted_transfer limit incoming packets last x)) (counted_slot limit incoming packets last x)

-- one step by its parts: what becomes of the slot x,
abbrev pub slot_after : ℕ → Bool → Slot → Step → Slot
slot_after limit incoming x Ignored = x
slot_after limit incoming x (GoesOn y) = queued_slot limit incoming y
slot_after limit incoming x (Completes y) = done_slot y

-- of the slots to wake,
abbrev pub wake_after : ℕ → ℕ → Step → ℕ
wake_after w i Ignored = w
wake_after w i (GoesOn y) = w
wake_after w i (Completes y) = add_slot w (waiter_of i)

-- and what is written, with the window known
abbrev pub window_after : ℕ → ℕ → Bool → List Op
window_after window e true = []
window_after window e false = window_ops e window

abbrev pub list_after : ℕ → ℕ → ℕ → Bool → Step → List Op
list_after limit window e incoming Ignored = []
list_after limit window e incoming (GoesOn y) = queue_ops limit e incoming y ++ window_after window e incoming
list_after limit window e incoming (Completes y) = []
