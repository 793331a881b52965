-- The change takes 85 records at most.
use Rattle.std.proofs.Common.{arith}
use Rattle.ops.specs.ListsLaws.{◌▹◌}
use Rattle.interrupt_link.specs.ActionsLaws.{changed_most}
use Rattle.interrupt_readings.proofs.from_change.Goals as goal

pub behind_change-next-requires : goal.behind_change-next-requires
behind_change-next-requires c =
    let a = c.args in
    let s = c.state_changed-effect.ensures.list in
    omega (arith, s.end, s.room, changed_most a.awaited.flags.link_if_state_chg a.awaited.link_state a.ep0 a.effect.low_power)

pub returns : goal.returns
returns c =
    let s = c.state_changed-effect.ensures in
    let n = c.behind_change-next.ensures in
    (s.effect, (rw n.next at c.ask.ensures, s.list ▹ n.list))
