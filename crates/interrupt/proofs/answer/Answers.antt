-- The door, the window, the reading by its pieces, which are stored back, and the end.
use Rattle.std.proofs.Common.{rules, ◌≡◌, Ok, ap, sym, ◌∙◌, length}
use Rattle.ops.specs.ListsLaws.{lent}
use Rattle.ops.specs.WroteLaws.{same, none}
use Rattle.state_sound.specs.Sound.{soundb}
use Rattle.transfer_window.specs.Window.{in_hand_count, window_of}
use Rattle.interrupt_asks.specs.Settled.{interrupt_numbers}
use Rattle.interrupt_asks.specs.Turns.{Hears}
use Rattle.interrupt_hear.specs.Hear.{slots_heard}
use Rattle.interrupt_begin.specs.Begin.{door}
use Rattle.interrupt.specs.Interrupt.{answer_call}
use Rattle.interrupt.specs.Parts.{reset_placed, heard_in}
use Rattle.interrupt.specs.InterruptLaws.{unreset, answer_refused, reading_refused, ended_as, answer_says_lem}
use Rattle.interrupt.proofs.answer.Goals as goal
use Rattle.interrupt.proofs.answer.Goals.{After-is_open, After-window_of-window, then-link-is_some, else-link-is_some}

-- what the tests come to, once
checked : (c : After-is_open) → door (length c.args.ops.now) (soundb c.args.state c.args.events) ≡ c.is_open.result
checked c = sym (rw c.sound-good.ensures at c.is_open.ensures)

-- a reading that is looked at was let in
passed : (c : After-window_of-window) → door (length c.args.ops.now) (soundb c.args.state c.args.events) ≡ Ok tt
passed c = sym (rw c.sound-good.ensures at c.is_open.ensures) ∙ c.in_default.is

-- the window is that of the state that came in
own : (c : After-window_of-window) → c.window_of-window.result ≡ window_of (in_hand_count c.args.state (slots_heard c.args.state.awaited.next))
own c = rw (c.in_hand_count.ensures, c.slots_heard-most.ensures.value) at c.window_of-window.ensures

pub returns-in-Err : goal.returns-in-Err
returns-in-Err c =
    let a = c.args in
    let o = answer_refused (length a.ops.now) a.state a.events a.reading _ (checked (goal.at.returns-in-Err c).After-is_open ∙ c.in-Err.is) in
    let x = c.refused.ensures in
    let said = x.answer ∙ o.0 in
    record { answer = said; state = x.state ∙ o.1.0; events = x.events ∙ o.1.1.0; list = same o.1.1.1.0 (rw x.end (none _ 0)); wakes = x.wakes ∙ o.1.1.1.1; numbers = ap interrupt_numbers said ∙ answer_says_lem (length a.ops.now) a.state a.events a.reading }

pub returns-in-Err-hear : goal.returns-in-Err-hear
returns-in-Err-hear c =
    let a = c.args in
    let h = c.in-Err-hear.ensures in
    let x = c.refused-in-Err-hear.ensures in
    let o = reading_refused (length a.ops.now) a.state a.events a.reading _ (passed (goal.at.returns-in-Err-hear c).After-window_of-window) h.0 in
    let said = x.answer ∙ o.0 in
    record { answer = said; state = x.state ∙ o.1.0; events = x.events ∙ o.1.1.0; list = same o.1.1.1.0 (rw x.end (search (h.1, rules))); wakes = x.wakes ∙ o.1.1.1.1; numbers = ap interrupt_numbers said ∙ answer_says_lem (length a.ops.now) a.state a.events a.reading }

pub returns : goal.returns
returns c =
    let a = c.args in
    let w = (goal.at.returns c).After-window_of-window in
    let t = c.in-Ok.turn in
    let i = c.slot_heard-place in
    let h : Hears c.new-list.result (heard_in a.state a.events a.reading) t c.hear.new.list = rw (← own w, ← i.ensures.value) c.in-Ok.ensures.1 in
    let joined : c.if-link-is_some.state ≡ reset_placed a.state i.result t.effect =
    elim c.if-link-is_some.branch [ then-link-is_some b ↦ b.state-is ∙ b.reset_by-state.ensures | else-link-is_some b ↦ b.state-is ∙ unreset _ _ _ (rw c.is_some.ensures at b.if-link-is_some.false) ] in
    let q = c.settle-ending.result in
    let e = c.settle-ending.ensures in
    let o = ended_as (length a.ops.now) a.state a.events a.reading c.if-link-is_some.state i.result t.effect t.awaited q.awaited q.wake q.wakes (passed w) c.in-Ok.ensures.0 i.ensures.value h.0 h.1.0 joined e.awaited e.wake e.wakes in
    let said : Ok q.awaited.next ≡ (answer_call (length a.ops.now) a.state a.events a.reading).answer = rw e.next o.0 in
    record { answer = said; state = o.1.0; events = o.1.1.0; list = same o.1.1.1.0 (search (lent c.new-list.ensures.numbers c.new-list.ensures.end h.1.1, rules)); wakes = o.1.1.1.1; numbers = ap interrupt_numbers said ∙ answer_says_lem (length a.ops.now) a.state a.events a.reading }
