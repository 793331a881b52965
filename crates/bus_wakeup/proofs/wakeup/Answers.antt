-- `wakeup`: refused, or the link told.
use Rattle.std.proofs.Common.{rules, ap, sym, ◌∙◌, length}
use Rattle.ops.specs.WroteLaws.{same, none}
use Rattle.state.specs.Numbers.{check_number}
use Rattle.bus_wakeup.specs.WakeupLaws.{wakeup_refused, wakeup_made}
use Rattle.bus_wakeup.proofs.wakeup.Goals as goal

pub returns-in-Err : goal.returns-in-Err
returns-in-Err c =
    let a = c.args in
    let o = wakeup_refused (length a.ops.now) a.state a.events _ (sym (rw (c.of-lent.ensures, c.sound.ensures) at c.in-Err.ensures)) in
    let x = c.quiet.ensures in
    record { answer = x.answer ∙ o.0; state = x.state ∙ o.1.0; list = same o.1.1.0 (rw x.end (none _ 0)); wakes = x.wakes ∙ o.1.1.1.0; number = ap check_number x.answer ∙ o.1.1.1.1 }

pub returns : goal.returns
returns c =
    let a = c.args in
    let o = wakeup_made (length a.ops.now) a.state a.events (sym (rw (c.of-lent.ensures, c.sound.ensures) at c.in_default.ensures)) in
    let x = c.wrote.ensures in
    record { answer = x.answer ∙ o.0; state = x.state ∙ o.1.0; list = same o.1.1.0 (rw x.end (search rules)); wakes = x.wakes ∙ o.1.1.1.0; number = ap check_number x.answer ∙ o.1.1.1.1 }
