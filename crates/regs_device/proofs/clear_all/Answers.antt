-- Before the turn of an endpoint both directions of those below it are cleared.
use Rattle.std.proofs.Common.{arith, ◌≡◌, ◌+◌, ◌-◌}
use Rattle.ops.specs.ListsLaws.{◌▹◌, up_to_next}
use Rattle.regs_device.specs.Device.{clear_both}
use Rattle.regs_device.proofs.clear_all.Goals as goal

pub loop-index-preserved : goal.loop-index-preserved
loop-index-preserved c =
    let l = c.loop-index in
    let before : l.index ≡ l.index - 1 + 1 = omega arith in
    let behind : l.index + 1 - 1 ≡ l.index - 1 + 1 = omega arith in
    rw behind (up_to_next clear_both (l.index - 1) l.invariant (rw before at (c.clear.ensures ▹ c.clear-in-loop-index.ensures)))
