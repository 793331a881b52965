-- A reading, whichever is awaited, by the pieces of the state that it looks at and changes: what the code works on. That this
-- is the reading on the state itself, as `Interrupt` has it, is shown in `interrupt_pieces`.
-- Assumes nothing.
use Rattle.std.specs.Prelude.{ℕ, false, cond, eqb, leb, Option}
use Rattle.state.specs.declared.Awaiting.{Awaiting}
use Rattle.state.specs.declared.Reading.{Reading}
use Rattle.state.specs.declared.Reading.TheVariants as reading
use Rattle.state.specs.Awaiting.{awaiting_number}
use Rattle.state_slots.specs.Slots.{slot_place}
use Rattle.interrupt_link.specs.declared.LinkEffect.{LinkEffect}
use Rattle.interrupt_asks.specs.declared.Sight.{Sight}
use Rattle.interrupt_asks.specs.Turns.{Heard}
use Rattle.interrupt_transfer.specs.declared.TransferEffect.{TransferEffect}
use Rattle.interrupt_transfer.specs.Pieces.{status_slot}
use Rattle.interrupt_readings.specs.Heard.{link_heard}
use Rattle.interrupt_followers.specs.Pieces.{pieces_heard}
use Rattle.interrupt_hear.specs.declared.Effects.{Effects}

-- how many slots are counted for the window: the last length, twelfth of what may be awaited, ends a chain of OUT
abbrev pub slots_heard : Option Awaiting → ℕ
slots_heard next = cond (eqb (awaiting_number next) 12) 14 0

-- the slot that a reading is about, where a chain of this endpoint is remembered; slot 1 of those that are about none
abbrev pub heard_slot : ℕ → Reading → ℕ
heard_slot e (reading.LinkFlags f) = 1
heard_slot e (reading.LinkStatus r) = 1
heard_slot e (reading.PortCapability b) = 1
heard_slot e (reading.MessageWord w) = 1
heard_slot e (reading.TransferStatus t) = status_slot t
heard_slot e (reading.SetupBytes b) = 1
heard_slot e (reading.Ep0Length n) = 0
heard_slot e (reading.Ep0Sequence q) = 1
heard_slot e (reading.ChainPackets p) = 1
heard_slot e (reading.LastLength n) = slot_place e false

-- what a reading of one half leaves of both
abbrev pub link_both : Effects → Heard LinkEffect → Heard Effects
link_both f h = record { effect = record f { link = h.effect }; awaited = h.awaited; ops = h.ops }

abbrev pub transfer_both : Effects → Heard TransferEffect → Heard Effects
transfer_both f h = record { effect = record f { transfer = h.effect }; awaited = h.awaited; ops = h.ops }

-- the first six readings are the link's
unfoldable pub heard_by : Sight → Effects → Reading → Heard Effects
heard_by g f r =
    cond (leb (awaiting_number g.awaited.next) 6) (link_both f (link_heard g f.link g.awaited.next r)) (transfer_both f (pieces_heard g f.transfer g.awaited.next r))
