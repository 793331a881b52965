-- What an interrupt's calls are to answer: the reading that follows, by the calls before and not by the state.
-- Assumes nothing.
use Rattle.std.specs.Prelude.{List, [], ◌∷◌, ◌≡◌, Option, Result, Ok, Err}
use Rattle.state.specs.declared.Awaiting.{Awaiting}
use Rattle.state.specs.declared.Refusal.{Refusal}
use Rattle.usbss.specs.Call.{Call, Start, PowerOn, PowerOff, Ordered, IsStalled, IsEnabled, Raise, Poll, Wakeup, Begin, Take, Abandon, Send, Sent, Receive, Received, Setup, DataOut, DataIn, Accept, AcceptAddress, Reject, TakeOut, TakeIn, Interrupt, Answer, Answers}
use Rattle.history_rows.specs.Rows.{Row}
use Rattle.history_rows.specs.Memory.{Memory}
use Rattle.history_memory.specs.Sequence.{first_reading, follows}
use Rattle.history_memory.specs.Remembered.{behind}

-- an answer that isn't a refusal says which reading is awaited, or that none is
abbrev pub AsksFor : Option Awaiting → Result (Option Awaiting) Refusal → Type 0
AsksFor next (Ok said) = said ≡ next
AsksFor next (Err r) = Unit

-- of the other calls nothing is said here
unfoldable pub AsksNext : Memory → (c : Call) → Answers c → Type 0
AsksNext m (Start driver size) a = Unit
AsksNext m (PowerOn room revision) a = Unit
AsksNext m (PowerOff room) a = Unit
AsksNext m (Ordered room endpoint order) a = Unit
AsksNext m (IsStalled endpoint) a = Unit
AsksNext m (IsEnabled endpoint) a = Unit
AsksNext m (Raise event) a = Unit
AsksNext m Poll a = Unit
AsksNext m (Wakeup room) a = Unit
AsksNext m (Begin room endpoint piece) a = Unit
AsksNext m (Take endpoint) a = Unit
AsksNext m (Abandon room endpoint) a = Unit
AsksNext m (Send room e request bytes own) a = Unit
AsksNext m (Sent e request bytes own) a = Unit
AsksNext m (Receive room e request bytes own) a = Unit
AsksNext m (Received e request bytes own) a = Unit
AsksNext m Setup a = Unit
AsksNext m (DataOut room g) a = Unit
AsksNext m (DataIn room g bytes address ep0 first last) a = Unit
AsksNext m (Accept room g) a = Unit
AsksNext m (AcceptAddress room g address) a = Unit
AsksNext m (Reject room g) a = Unit
AsksNext m (TakeOut g out ep0 address) a = Unit
AsksNext m (TakeIn g) a = Unit
AsksNext m (Interrupt room) a = AsksFor (first_reading m.powered) a
AsksNext m (Answer room r) a = AsksFor (follows m.revision m.awaited r) a

-- each row, by what the rows before it tell
unfoldable pub EachAsks : Memory → List Row → Type 0
EachAsks m [] = Unit
EachAsks m (r ∷ rs) = AsksNext m r.call r.outcome.answer × EachAsks (behind m r) rs
