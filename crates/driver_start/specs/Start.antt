-- Starting a driver (reference: `start` of device.rs).
-- Assumes nothing.
use Rattle.std.specs.Prelude.{ℕ, false, ◌&&◌, not, List, [], ◌∷◌, eqb, Option, Result, Ok, Err}
use Rattle.base.specs.Each.{change}
use Rattle.state.specs.declared.EndpointConfig.{EndpointConfig}
use Rattle.state.specs.declared.Slot.{Slot}
use Rattle.state.specs.declared.State.{State}
use Rattle.state.specs.declared.Events.{Events}
use Rattle.state.specs.declared.Driver.{Driver}
use Rattle.state.specs.declared.Refusal.{Refusal}
use Rattle.state.specs.declared.Refusal.TheVariants.{ControlPacketSize}
use Rattle.state.specs.Fresh.{allocation_at}
use Rattle.state.specs.Setters.{with_slots, with_power, unasked}
use Rattle.state.specs.Refusals.{Condition, ◌if◌, first_refusal}
use Rattle.state_slots.specs.Slots.{off_slot}
use Rattle.state_slots.specs.Waking.{no_wakes}
use Rattle.state_events.specs.Bytes.{power}
use Rattle.state_sound.specs.Sound.{soundb, driver_soundb}
use Rattle.state_call.specs.Turn.{turn_of}
use Rattle.state_call.specs.Outcome.{Outcome, unless}

-- a slot gets what the driver allocated for it
abbrev pub configured_slot : Slot → Option EndpointConfig → Slot
configured_slot x o = record x { config = o }

-- once it is off
abbrev pub started_slot : Driver → ℕ → Slot → Slot
started_slot d i x = configured_slot (off_slot i x) (allocation_at d i)

unfoldable pub started_slots : Driver → ℕ → List Slot → List Slot
started_slots d n slots = change (started_slot d) n slots

-- EP0 gets the start of the memory; the device is off, and no SETUP waits
abbrev pub started_state : State → Driver → State
started_state s d = unasked (with_power (with_slots s (started_slots d 16 s.endpoints)) (record { memory = d.memory; on = false; revision = s.revision }))

-- 6
abbrev pub start_own : ℕ → List Condition
start_own size = ControlPacketSize if not (eqb size 512) ∷ []

-- 26 of the driver too
abbrev pub start_conditions : State → Events → Driver → ℕ → List Condition
start_conditions s v d size = turn_of (soundb s v && driver_soundb d) s.awaited.next (start_own size)

-- POWER is pending alone
unfoldable pub start_call : State → Events → Driver → ℕ → Outcome (Result Unit Refusal)
start_call s v d size =
    unless Err (first_refusal (start_conditions s v d size)) s v
    (record { answer = Ok tt; state = started_state s d; events = record { events = power }; ops = []; wakes = no_wakes; copied = [] })
