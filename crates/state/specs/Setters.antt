-- The state by groups of fields, and with one group changed. Only here are all fields listed.
-- Assumes nothing.
use Rattle.std.specs.Prelude.{ℕ, Bool, false, List, set, Option, Some, None}
use Rattle.state.specs.declared.Slot.{Slot}
use Rattle.state.specs.declared.Awaited.{Awaited}
use Rattle.state.specs.declared.State.{State}

-- EP0's memory, whether the device is on, and the silicon's revision
pub record Power : Type 0 where
  pub memory : ℕ
  pub on : Bool
  pub revision : ℕ

pub record Link : Type 0 where
  pub suspended : Bool
  pub seen : Bool
  pub low : Bool

-- a SETUP that waits, generation, whether the IN packet is the last, sequence, an address that waits
pub record Control : Type 0 where
  pub setup : Option (List ℕ)
  pub generation : ℕ
  pub last : Bool
  pub sequence : ℕ
  pub address : Option ℕ

abbrev pub power_of : State → Power
power_of s = record { memory = s.ep0_address; on = s.powered; revision = s.revision }

abbrev pub link_of : State → Link
link_of s = record { suspended = s.suspended; seen = s.reset_seen; low = s.low_power }

abbrev pub control_of : State → Control
control_of s =
    record {
      setup = s.setup;
      generation = s.control_generation;
      last = s.in_last;
      sequence = s.tx_seq;
      address = s.address;
    }

abbrev pub state_of : List Slot → Power → Link → Control → ℕ → Awaited → State
state_of slots p l c wake a =
    record {
      endpoints = slots;
      ep0_address = p.memory;
      powered = p.on;
      suspended = l.suspended;
      wake = wake;
      setup = c.setup;
      control_generation = c.generation;
      in_last = c.last;
      tx_seq = c.sequence;
      address = c.address;
      revision = p.revision;
      reset_seen = l.seen;
      low_power = l.low;
      awaited = a;
    }

abbrev pub with_slots : State → List Slot → State
with_slots s slots = state_of slots (power_of s) (link_of s) (control_of s) s.wake s.awaited

-- one slot stored
abbrev pub with_slot : State → ℕ → Slot → State
with_slot s i x = with_slots s (set s.endpoints i x)

abbrev pub with_power : State → Power → State
with_power s p = state_of s.endpoints p (link_of s) (control_of s) s.wake s.awaited

abbrev pub with_link : State → Link → State
with_link s l = state_of s.endpoints (power_of s) l (control_of s) s.wake s.awaited

abbrev pub with_control : State → Control → State
with_control s c = state_of s.endpoints (power_of s) (link_of s) c s.wake s.awaited

abbrev pub with_wake : State → ℕ → State
with_wake s wake = state_of s.endpoints (power_of s) (link_of s) (control_of s) wake s.awaited

abbrev pub with_awaited : State → Awaited → State
with_awaited s a = state_of s.endpoints (power_of s) (link_of s) (control_of s) s.wake a

-- no SETUP waits
abbrev pub unasked : State → State
unasked s = record s { setup = None }

-- a SETUP waits with its bytes
abbrev pub with_setup : State → List ℕ → State
with_setup s bytes = record s { setup = Some bytes }

-- the sequence that an EP0 IN report gave
abbrev pub with_sequence : State → ℕ → State
with_sequence s q = record s { tx_seq = q }

-- an IN stage: whether its packet is the last, and the address that waits for the status stage, if one does
abbrev pub with_stage : State → Bool → Option ℕ → State
with_stage s last address = record s { in_last = last; address = address }

-- the device off; revision and EP0's memory stay
abbrev pub unpowered : State → State
unpowered s = with_power s (record { memory = s.ep0_address; on = false; revision = s.revision })

-- the most packets of a chain
abbrev pub limit_of : State → ℕ
limit_of s = 255
