-- `in_hand_count`: one slot more.
use Rattle.std.proofs.Common.{arith}
use Rattle.base.specs.EachLaws.{count_none}
use Rattle.transfer_window.specs.WindowLaws.{count_next}
use Rattle.transfer_window.proofs.in_hand_count.Goals as goal

pub loop-n-init : goal.loop-n-init
loop-n-init c = record { few = omega arith; so_far = rw (count_none) }

pub loop-n-preserved : goal.loop-n-preserved
loop-n-preserved c =
    let l = c.loop-n in
    let next = count_next _ l.n l.count c.counted-count.result l.invariant.so_far c.counted-count.ensures in
    record { few = omega (arith, next.0); so_far = next.1 }
