-- `windows`: one endpoint more.
use Rattle.std.proofs.Common.{ℕ, ◌≡◌, ◌+◌, ◌-◌, ◌≤◌, List, arith, ap, ◌∙◌}
use Rattle.ops.specs.declared.OpList.{OpList}
use Rattle.ops.specs.Ops.{Op}
use Rattle.ops.specs.Lists.{Adds}
use Rattle.ops.specs.ListsLaws.{same, up_to_start, up_to_next}
use Rattle.ops.specs.Sequence.{up_to}
use Rattle.transfer_window.specs.Window.{window_of, out_window, windows_ops}
use Rattle.transfer_window.specs.WindowLaws.{windows_most}
use Rattle.transfer_begin.proofs.windows.Goals as goal
use Rattle.transfer_begin.proofs.windows.Goals.{After-window_of-window}

own : (c : After-window_of-window) → c.window_of-window.result ≡ out_window c.args.state.now
unfolding out_window
own c = c.window_of-window.ensures ∙ ap window_of c.in_hand_count.ensures

next : {l l₁ l₂ : OpList} (each : ℕ → List Op) (n : ℕ) → 1 ≤ n → Adds l (up_to each (n - 1)) l₁ → Adds l₁ (each n) l₂ → Adds l (up_to each (n + 1 - 1)) l₂
next {l} {l₁} {l₂} each n h before this =
    let back : n - 1 + 1 ≡ n = omega arith in
    let same : n + 1 - 1 ≡ n = omega arith in
    let here : Adds l₁ (each (n - 1 + 1)) l₂ = rw back this in
    rw same (rw back at (up_to_next each (n - 1) before here))

pub loop-index-init : goal.loop-index-init
loop-index-init c = up_to_start _ _

pub window_at-requires : goal.window_at-requires
window_at-requires c =
    let l = c.loop-index in
    omega (arith, l.invariant.room, l.invariant.end, windows_most c.args.state.now c.window_of-window.result (l.index - 1))

pub loop-index-preserved : goal.loop-index-preserved
loop-index-preserved c =
    let l = c.loop-index in
    next _ l.index l.auto.index l.invariant (same (rw c.slot_number-i.ensures) c.window_at.ensures)

pub returns : goal.returns
unfolding windows_ops
returns c =
    let full : c.loop-index.index - 1 ≡ 7 = omega arith in
    rw (full, own (goal.at.returns c).After-window_of-window) at c.loop-index.invariant
