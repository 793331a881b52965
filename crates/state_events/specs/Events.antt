-- What raising an event and asking for one do to the byte of pending events (reference: `raise` and `poll` of device.rs).
-- Assumes nothing.
use Rattle.std.specs.Prelude.{ℕ, ◌+◌, ◌-◌, Bool, ◌&&◌, ◌||◌, cond, List, [], ◌∷◌, eqb, Option, Some, None, Result, Ok, Err}
use Rattle.state.specs.declared.Events.{Events}
use Rattle.state_events.specs.declared.Event.{Event}
use Rattle.state_events.specs.declared.Event.TheVariants as event
use Rattle.state.specs.declared.Refusal.{Refusal}
use Rattle.state.specs.declared.Refusal.TheVariants.{OutOfRange}
use Rattle.state_events.specs.Bytes.{reset, suspend, resume, power, pendingb}

-- the bit of each event
abbrev pub event_number : Event → ℕ
event_number event.PowerDetected = power
event_number event.Reset = reset
event_number event.Suspend = suspend
event_number event.Resume = resume

-- whether a number is the bit of an event
abbrev pub eventb : ℕ → Bool
eventb v = eqb v reset || eqb v suspend || eqb v resume || eqb v power

-- the event with a bit; any other number is refused
abbrev pub event_of : ℕ → Result Event Refusal
event_of v =
    cond (eqb v power) (Ok event.PowerDetected)
    (cond (eqb v reset) (Ok event.Reset)
    (cond (eqb v suspend) (Ok event.Suspend)
    (cond (eqb v resume) (Ok event.Resume)
    (Err OutOfRange))))

-- the byte with one event set, and with one cleared; the other bits stay
abbrev pub with_event : ℕ → ℕ → ℕ
with_event e v = cond (pendingb e v) e (e + v)

abbrev pub without_event : ℕ → ℕ → ℕ
without_event e v = cond (pendingb e v) (e - v) e

-- RESET alone, or with POWER where that was pending
abbrev pub only_reset : ℕ → ℕ
only_reset e = cond (pendingb e power) (reset + power) reset

-- the byte after an event: RESET sweeps all but POWER away, SUSPEND and RESUME cancel, any other is set
abbrev pub raised : ℕ → ℕ → ℕ
raised e v =
    cond (eqb v reset) (only_reset e)
    (cond (eqb v suspend && pendingb e resume) (without_event e resume)
    (cond (eqb v resume && pendingb e suspend) (without_event e suspend)
    (with_event e v)))

-- the byte after a number was raised; one that is no event leaves it alone
abbrev pub raise_byte : ℕ → ℕ → ℕ
raise_byte e v = cond (eventb v) (raised e v) e

-- an event raised from inside
abbrev pub raise_event : Events → Event → Events
raise_event v e = record { events = raised v.events (event_number e) }

-- the events as they take precedence, the highest first
abbrev pub precedence : List Event
precedence = event.PowerDetected ∷ event.Reset ∷ event.Suspend ∷ event.Resume ∷ []

-- the first of a list that is pending
abbrev pub first_pending : ℕ → List Event → Option Event
first_pending e [] = None
first_pending e (v ∷ vs) = cond (pendingb e (event_number v)) (Some v) (first_pending e vs)

-- the pending event of highest precedence
abbrev pub next_pending : ℕ → Option Event
next_pending e = first_pending e precedence

-- its number, 0 where none is pending
abbrev pub pending_number : Option Event → ℕ
pending_number None = 0
pending_number (Some v) = event_number v

-- the byte once it was given: it is cleared
abbrev pub without_pending : ℕ → Option Event → ℕ
without_pending e None = e
without_pending e (Some v) = without_event e (event_number v)

abbrev pub poll_byte : ℕ → ℕ
poll_byte e = without_pending e (next_pending e)
