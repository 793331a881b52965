-- The parts that the code of `answer` is made of. That they come to `answer_call` is shown in `InterruptLaws`.
-- Assumes nothing.
use Rattle.std.specs.Prelude.{ℕ}
use Rattle.state.specs.declared.State.{State}
use Rattle.state.specs.declared.Events.{Events}
use Rattle.state.specs.declared.Reading.{Reading}
use Rattle.state.specs.Setters.{with_link}
use Rattle.transfer_window.specs.Window.{in_hand_count, window_of}
use Rattle.control_report.specs.Ep0.{reset_by}
use Rattle.interrupt_asks.specs.Turns.{Heard}
use Rattle.interrupt_transfer.specs.Pieces.{sight_of, pieces_of, placed}
use Rattle.interrupt_hear.specs.declared.Effects.{Effects}
use Rattle.interrupt_hear.specs.Hear.{slots_heard, heard_slot, heard_by}
use Rattle.interrupt.specs.Interrupt.{link_before, link_flags_of}

-- the pieces that the state has, with slot i
abbrev pub effects_before : State → Events → ℕ → Effects
effects_before s v i = record { link = link_before s v; transfer = pieces_of s i }

-- the pieces stored back, and behind them what resets
abbrev pub reset_placed : State → ℕ → Effects → State
reset_placed s i f = reset_by f.link.resets (placed s i f.transfer) f.transfer.setup

abbrev pub reacted : State → ℕ → Effects → State
reacted s i f = with_link (reset_placed s i f) (link_flags_of f.link)

-- what is heard of the state's own pieces
abbrev pub heard_in : State → Events → Reading → Heard Effects
heard_in s v r =
    let i = heard_slot s.awaited.endpoint r in
    heard_by (sight_of s i (window_of (in_hand_count s (slots_heard s.awaited.next)))) (effects_before s v i) r
