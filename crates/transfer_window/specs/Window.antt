-- The window (document 01, "device.rs, transfers").
-- Assumes nothing.
use Rattle.std.specs.Prelude.{ℕ, ◌+◌, Bool, true, false, not, cond, List, [], ltb}
use Rattle.ops.specs.Ops.{Op}
use Rattle.ops.specs.Sequence.{up_to}
use Rattle.state.specs.declared.State.{State}
use Rattle.state_slots.specs.Slots.{idleb, busyb, slot_number}
use Rattle.state.specs.Fresh.{slot_at}
use Rattle.base.specs.Each.{count}
use Rattle.regs_endpoint.specs.Endpoint.{window_ops}

-- how many of the first n data slots aren't idle; there are 14, from slot 2 on
abbrev pub in_hand_count : State → ℕ → ℕ
in_hand_count s n = count (λ k. not (idleb (slot_at s (k + 2)).phase)) n

-- 4 where two data slots or more aren't idle, else 3
abbrev pub window_of : ℕ → ℕ
window_of n = cond (ltb 1 n) 4 3

unfoldable pub out_window : State → ℕ
out_window s = window_of (in_hand_count s 14)

-- an OUT endpoint's window is written where it is busy
abbrev pub window_at : State → ℕ → ℕ → List Op
window_at s window e = cond (busyb (slot_at s (slot_number e false)).phase) (window_ops e window) []

-- those of the endpoints 1 to 7
unfoldable pub windows_ops : State → List Op
windows_ops s = up_to (window_at s (out_window s)) 7

-- the window of an endpoint whose chain report goes on; of OUT alone
abbrev pub own_window_ops : State → ℕ → Bool → List Op
own_window_ops s e true = []
own_window_ops s e false = window_ops e (out_window s)
