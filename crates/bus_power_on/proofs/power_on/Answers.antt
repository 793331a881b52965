-- `power_on`: refused, on already, or brought up and reset.
use Rattle.std.proofs.Common.{rules, ap, sym, ◌∙◌, length}
use Rattle.ops.specs.WroteLaws.{same, none}
use Rattle.ops.specs.ListsLaws.{◌▹◌, lent}
use Rattle.state.specs.Numbers.{check_number}
use Rattle.bus_power_on.specs.PowerOnLaws.{on_refused, on_already, on_anew}
use Rattle.bus_power_on.proofs.power_on.Goals as goal

pub returns-in-Err : goal.returns-in-Err
returns-in-Err c =
    let a = c.args in
    let o = on_refused (length a.ops.now) a.state a.events a.revision _ (sym (rw (c.of-lent.ensures, c.sound.ensures) at c.in-Err.ensures)) in
    let x = c.quiet.ensures in
    record { answer = x.answer ∙ o.0; state = x.state ∙ o.1.0; list = same o.1.1.0 (rw x.end (none _ 0)); wakes = x.wakes ∙ o.1.1.1.0; number = ap check_number x.answer ∙ o.1.1.1.1 }

pub returns-then-state : goal.returns-then-state
returns-then-state c =
    let a = c.args in
    let o = on_already (length a.ops.now) a.state a.events a.revision (sym (rw (c.of-lent.ensures, c.sound.ensures) at c.in_default.ensures)) c.if-state.true in
    record { answer = o.0; state = o.1.0; list = same o.1.1.0 (none _ 0); wakes = c.wake_all.ensures ∙ o.1.1.1.0; number = o.1.1.1.1 }

pub returns : goal.returns
returns c =
    let a = c.args in
    let o = on_anew (length a.ops.now) a.state a.events a.revision (sym (rw (c.of-lent.ensures, c.sound.ensures) at c.in_default.ensures)) c.if-state.false in
    record { answer = o.0; state = rw c.bus_reset-reset.ensures.state o.1.0; list = same o.1.1.0 (search (lent c.new-list.ensures.numbers c.new-list.ensures.end (c.init.ensures ▹ c.bus_reset-reset.ensures.list), rules)); wakes = c.wake_all-2.ensures ∙ o.1.1.1.0; number = o.1.1.1.1 }
