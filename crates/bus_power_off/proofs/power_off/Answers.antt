-- `power_off`: refused, or shut down, with every slot off.
use Rattle.std.proofs.Common.{rules, ap, sym, ◌∙◌, length}
use Rattle.ops.specs.WroteLaws.{same, none}
use Rattle.state.specs.Numbers.{check_number}
use Rattle.bus_power_off.specs.PowerOffLaws.{off_refused, off_made}
use Rattle.bus_power_off.proofs.power_off.Goals as goal

pub returns-in-Err : goal.returns-in-Err
returns-in-Err c =
    let a = c.args in
    let o = off_refused (length a.ops.now) a.state a.events _ (sym (rw c.new.ensures at c.in-Err.ensures)) in
    let x = c.quiet.ensures in
    record { answer = x.answer ∙ o.0; state = x.state ∙ o.1.0; list = same o.1.1.0 (rw x.end (none _ 0)); wakes = x.wakes ∙ o.1.1.1.0; number = ap check_number x.answer ∙ o.1.1.1.1 }

pub returns : goal.returns
returns c =
    let a = c.args in
    let o = off_made (length a.ops.now) a.state a.events (sym (rw c.new.ensures at c.in_default.ensures)) in
    record { answer = o.0; state = rw c.reset_slots.ensures o.1.0; list = same o.1.1.0 (search rules); wakes = c.wake_all.ensures ∙ o.1.1.1.0; number = o.1.1.1.1 }
