-- Slots counted one by one, and one record an endpoint at most.
-- Assumes nothing.
use Rattle.std.specs.Prelude.{ℕ, ◌+◌, ◌*◌, ◌≤◌, Bool, true, false, cond, [], ◌≡◌, refl, length}
use Rattle.std.proofs.Common.{◌∙◌, arith}
use Rattle.base.specs.Bits.{bit}
use Rattle.base.specs.BitsLaws.{bit_small}
use Rattle.base.specs.Each.{count}
use Rattle.base.specs.EachLaws.{count_step}
use Rattle.ops.specs.Ops.{flat, records}
use Rattle.ops.specs.Sequence.{up_to}
use Rattle.ops.specs.SequenceLaws.{up_to_most}
use Rattle.state.specs.declared.State.{State}
use Rattle.state_slots.specs.Slots.{busyb, slot_number}
use Rattle.state.specs.Fresh.{slot_at}
use Rattle.regs_endpoint.specs.Endpoint.{window_ops}
use Rattle.transfer_window.specs.Window.{out_window, window_at, windows_ops}

-- the count behind one more slot
pub count_next : (p : ℕ → Bool) (n before after : ℕ) → before ≡ count p n → after ≡ before + bit (p n) → (after ≤ before + 1) × (after ≡ count p (n + 1))
count_next p n before after h e = (omega (arith, bit_small (p n)), e ∙ count_step p n before (p n) h refl)

-- one record an endpoint at most
pub windows_most : (s : State) (window n : ℕ) → length (flat (up_to (window_at s window) n)) ≤ n * records 1
windows_most s window n = up_to_most (window_at s window) (records 1) (λ e. one (busyb (slot_at s (slot_number e false)).phase) e) n
  where
    one : (b : Bool) (e : ℕ) → length (flat (cond b (window_ops e window) [])) ≤ records 1
    one true e = omega arith
    one false e = omega arith

pub windows_room : (s : State) → length (flat (windows_ops s)) ≤ records 7
unfolding windows_ops
windows_room s = windows_most s (out_window s) 7
