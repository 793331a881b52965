-- What is remembered behind a call, read off it; of its answer only whether it is a refusal. Which reading is awaited is told by the
-- readings. Only what a history starts with is read off its first state.
-- Assumes nothing.
use Rattle.std.specs.Prelude.{ℕ, true, false, cond, List, [], ◌∷◌, eqb, Option, Some, None}
use Rattle.state.specs.declared.Awaited.{Awaited}
use Rattle.state.specs.declared.Awaiting.{Awaiting}
use Rattle.state.specs.declared.Reading.{Reading}
use Rattle.state.specs.declared.Reading.TheVariants as reading
use Rattle.state.specs.Fresh.{nothing_awaited}
use Rattle.state.specs.Awaiting.{awaiting_number}
use Rattle.interrupt_asks.specs.Asking.{asked}
use Rattle.usbss.specs.Call.{Call, Start, PowerOn, PowerOff, Ordered, IsStalled, IsEnabled, Raise, Poll, Wakeup, Begin, Take, Abandon, Send, Sent, Receive, Received, Setup, DataOut, DataIn, Accept, AcceptAddress, Reject, TakeOut, TakeIn, Interrupt, Answer, Answers}
use Rattle.history_rows.specs.Rows.{Row}
use Rattle.history_rows.specs.Memory.{Memory, accepted}
use Rattle.history_memory.specs.Sequence.{first_reading, follows}

-- The link's flags; its state, by the first link status; the endpoint of an OUT report, which is asked for its packets; and they.
abbrev pub noted : Awaited → Awaiting → Reading → Awaited
noted a next (reading.LinkFlags f) = record nothing_awaited { next = Some next; flags = f }
noted a next (reading.LinkStatus r) = record a { next = Some next; link_state = cond (eqb (awaiting_number a.next) 2) r.link_state a.link_state }
noted a next (reading.PortCapability b) = asked a (Some next)
noted a next (reading.MessageWord w) = asked a (Some next)
noted a next (reading.TransferStatus t) = record a { next = Some next; endpoint = cond (eqb (awaiting_number (Some next)) 11) t.ep_id a.endpoint }
noted a next (reading.SetupBytes b) = asked a (Some next)
noted a next (reading.Ep0Length n) = asked a (Some next)
noted a next (reading.Ep0Sequence q) = asked a (Some next)
noted a next (reading.ChainPackets p) = record a { next = Some next; packets = p }
noted a next (reading.LastLength n) = asked a (Some next)

-- where no reading follows handling has ended, and nothing is remembered of it
abbrev pub noted_if : Awaited → Reading → Option Awaiting → Awaited
noted_if a r None = nothing_awaited
noted_if a r (Some next) = noted a next r

abbrev pub hears : Memory → Awaited → Memory
hears m a = record m { awaited = a }

-- a device that is on already keeps its revision
abbrev pub turned_on : ℕ → Memory → Memory
turned_on revision m = cond m.powered m (record m { powered = true; revision = revision })

abbrev pub turned_off : Memory → Memory
turned_off m = record m { powered = false }

unfoldable pub remembered : Memory → (c : Call) → Answers c → Memory
remembered m (Start driver size) a = cond (accepted a) (turned_off m) m
remembered m (PowerOn room revision) a = cond (accepted a) (turned_on revision m) m
remembered m (PowerOff room) a = cond (accepted a) (turned_off m) m
remembered m (Ordered room endpoint order) a = m
remembered m (IsStalled endpoint) a = m
remembered m (IsEnabled endpoint) a = m
remembered m (Raise event) a = m
remembered m Poll a = m
remembered m (Wakeup room) a = m
remembered m (Begin room endpoint piece) a = m
remembered m (Take endpoint) a = m
remembered m (Abandon room endpoint) a = m
remembered m (Send room e request bytes own) a = m
remembered m (Sent e request bytes own) a = m
remembered m (Receive room e request bytes own) a = m
remembered m (Received e request bytes own) a = m
remembered m Setup a = m
remembered m (DataOut room g) a = m
remembered m (DataIn room g bytes address ep0 first last) a = m
remembered m (Accept room g) a = m
remembered m (AcceptAddress room g address) a = m
remembered m (Reject room g) a = m
remembered m (TakeOut g out ep0 address) a = m
remembered m (TakeIn g) a = m
remembered m (Interrupt room) a = cond (accepted a) (hears m (asked nothing_awaited (first_reading m.powered))) m
remembered m (Answer room r) a = cond (accepted a) (hears m (noted_if m.awaited r (follows m.revision m.awaited r))) m

-- behind a row, and behind several
abbrev pub behind : Memory → Row → Memory
behind m r = remembered m r.call r.outcome.answer

unfoldable pub recall : Memory → List Row → Memory
recall m [] = m
recall m (r ∷ rs) = recall (behind m r) rs
