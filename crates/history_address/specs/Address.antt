-- When a device address takes hold (USB 3.2, 9.4.6: behind the status stage): what each call is to the address, by the call, its
-- answer and what the calls before have told. Of the state nothing is looked at, least of all the address that it has waiting. A
-- call's operations take `dev_addr` from what it held to what it holds behind the call in one step, if at all: it holds no third
-- address on the way.
-- Assumes nothing.
use Rattle.std.specs.Prelude.{ℕ, Bool, true, false, not, ◌&&◌, cond, List, [], ◌∷◌, ◌++◌, Option, Some, None, Result, Ok, Err}
use Rattle.ops.specs.Ops.{Op}
use Rattle.state.specs.declared.Awaited.{Awaited}
use Rattle.state.specs.declared.Refusal.{Refusal}
use Rattle.control_stage.specs.declared.Stage.{Stage}
use Rattle.control_stage.specs.declared.Stage.TheVariants as stage
use Rattle.interrupt_readings.specs.Matched.{Matched, other, link_flags, link_status, capability, term_status, message, warm_status, transfer_status, setup_bytes, ep0_length, ep0_sequence, chain_packets, last_length, matched_as}
use Rattle.usbss.specs.Call.{Call, Start, PowerOn, PowerOff, Ordered, IsStalled, IsEnabled, Raise, Poll, Wakeup, Begin, Take, Abandon, Send, Sent, Receive, Received, Setup, DataOut, DataIn, Accept, AcceptAddress, Reject, TakeOut, TakeIn, Interrupt, Answer, Answers}
use Rattle.history_ops.specs.Held.{Moves, due}
use Rattle.history_ops.specs.Readings.{ends_status, resets_bus}
use Rattle.history_rows.specs.Rows.{Row}
use Rattle.history_rows.specs.Memory.{Memory, accepted}
use Rattle.history_memory.specs.Remembered.{behind}

pub data Bearing : Type 0 where
  -- an address is accepted, and waits for the status stage
  Waits : ℕ → Bearing
  -- what waits is dropped: a request accepted without an address, a SETUP
  Forgets : Bearing
  -- a status stage has ended
  Applies : Bearing
  -- a bus reset, and power that comes, which has one
  Resets : Bearing
  -- power that goes
  Off : Bearing
  -- anything else, refused calls among them; a data stage and a reject leave what waits, and so does a start
  Nothing : Bearing

-- The address that waits. A status stage uses it up and a bus reset drops it; power that goes leaves it, but the power that comes
-- next has a bus reset.
abbrev pub waits_behind : Bearing → Option ℕ → Option ℕ
waits_behind (Waits b) p = Some b
waits_behind Forgets p = None
waits_behind Applies p = None
waits_behind Resets p = None
waits_behind Off p = p
waits_behind Nothing p = p

-- What `dev_addr` holds. A status stage alone gives it another address than 0, and none where none waits; power that goes writes
-- its register without naming it, which makes it 0.
abbrev pub holds_behind : Bearing → Option ℕ → ℕ → ℕ
holds_behind (Waits b) p a = a
holds_behind Forgets p a = a
holds_behind Applies p a = due p a
holds_behind Resets p a = 0
holds_behind Off p a = 0
holds_behind Nothing p a = a

abbrev pub only : Bool → Bearing → Bearing
only b x = cond b x Nothing

-- the stage is under way; an answer without a number has none
abbrev pub armed : Result Stage Refusal → Bool
armed (Err r) = false
armed (Ok stage.Accepted) = true
armed (Ok stage.Unanswered) = false

abbrev pub brings_setup : Matched → Bool
brings_setup other = false
brings_setup (link_flags f) = false
brings_setup (link_status r) = false
brings_setup (capability b) = false
brings_setup (term_status r) = false
brings_setup (message w) = false
brings_setup (warm_status r) = false
brings_setup (transfer_status t) = false
brings_setup (setup_bytes b) = true
brings_setup (ep0_length n) = false
brings_setup (ep0_sequence q) = false
brings_setup (chain_packets p) = false
brings_setup (last_length n) = false

-- No reading is two of these: one of the link resets, the transfer status ends a status stage, and a SETUP flagged beside that is
-- told by its bytes, which are read later.
abbrev pub told_by : ℕ → Awaited → Matched → Bearing
told_by revision a m = cond (resets_bus revision a m) Resets (cond (ends_status m) Applies (only (brings_setup m) Forgets))

unfoldable pub bearing : Memory → (c : Call) → Answers c → Bearing
bearing m (Start driver size) a = Nothing
bearing m (PowerOn room revision) a = only (accepted a && not m.powered) Resets
bearing m (PowerOff room) a = only (accepted a && m.powered) Off
bearing m (Ordered room at order) a = Nothing
bearing m (IsStalled at) a = Nothing
bearing m (IsEnabled at) a = Nothing
bearing m (Raise event) a = Nothing
bearing m Poll a = Nothing
bearing m (Wakeup room) a = Nothing
bearing m (Begin room at piece) a = Nothing
bearing m (Take at) a = Nothing
bearing m (Abandon room at) a = Nothing
bearing m (Send room e request bytes own) a = Nothing
bearing m (Sent e request bytes own) a = Nothing
bearing m (Receive room e request bytes own) a = Nothing
bearing m (Received e request bytes own) a = Nothing
bearing m Setup a = Nothing
bearing m (DataOut room g) a = Nothing
bearing m (DataIn room g bytes address ep0 first last) a = Nothing
bearing m (Accept room g) a = only (armed a) Forgets
bearing m (AcceptAddress room g address) a = only (armed a) (Waits address)
bearing m (Reject room g) a = Nothing
bearing m (TakeOut g out ep0 address) a = Nothing
bearing m (TakeIn g) a = Nothing
bearing m (Interrupt room) a = Nothing
bearing m (Answer room r) a = only (accepted a) (told_by m.revision m.awaited (matched_as m.awaited.next r))

-- the address that waits behind several rows
unfoldable pub waiting : Option ℕ → Memory → List Row → Option ℕ
waiting p m [] = p
waiting p m (r ∷ later) = waiting (waits_behind (bearing m r.call r.outcome.answer) p) (behind m r) later

-- what `dev_addr` holds behind them
unfoldable pub holding : Option ℕ → ℕ → Memory → List Row → ℕ
holding p a m [] = a
holding p a m (r ∷ later) =
    let x = bearing m r.call r.outcome.answer in
    holding (waits_behind x p) (holds_behind x p a) (behind m r) later

-- their operations, one row's behind the other's
unfoldable pub all_ops : List Row → List Op
all_ops [] = []
all_ops (r ∷ later) = r.outcome.ops ++ all_ops later

-- An address waits or none, `dev_addr` holds a, and m is remembered: so of each row's operations, and of the later ones'. Behind each
-- of a row's operations in turn it holds what it held before the row, and from one of them on what it holds behind the row.
unfoldable pub Holds : Option ℕ → ℕ → Memory → List Row → Type 0
Holds pending a m [] = Unit
Holds pending a m (r ∷ later) =
    let x = bearing m r.call r.outcome.answer in
    Moves a (holds_behind x pending a) r.outcome.ops × Holds (waits_behind x pending) (holds_behind x pending a) (behind m r) later
