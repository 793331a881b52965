-- For each clause a state, or a driver, that it alone refuses: none is idle, and none stands behind another. The driver's
-- clause on its capacity is the one exception.
-- Assumes nothing.
use Rattle.std.specs.Prelude.{ℕ, zero, suc, Bool, true, false, List, [], ◌∷◌, ◌++◌, map, ◌≡◌, refl, leb, replicate, set, Option, Some, None}
use Rattle.std.proofs.Common.{arith, leb-true, le-leb}
use Rattle.state.specs.declared.EndpointType.TheVariants.{Bulk}
use Rattle.state.specs.declared.EndpointConfig.{EndpointConfig}
use Rattle.state.specs.declared.Phase.{Phase}
use Rattle.state.specs.declared.Phase.TheVariants.{Idle, Busy, Done}
use Rattle.state.specs.declared.Transfer.{Transfer}
use Rattle.state.specs.declared.Slot.{Slot}
use Rattle.state.specs.declared.Awaiting.{Awaiting}
use Rattle.state.specs.declared.Awaiting.TheVariants as awaiting
use Rattle.state.specs.declared.Awaited.{Awaited}
use Rattle.state.specs.declared.State.{State}
use Rattle.state.specs.declared.Events.{Events}
use Rattle.state.specs.declared.Driver.{Driver}
use Rattle.state.specs.Fresh.{fresh_slot, nothing_awaited, fresh_state}
use Rattle.state.specs.Setters.{link_of, state_of}
use Rattle.base.specs.Each.{every}
use Rattle.state_sound.specs.Clauses.{clauses, driver_clauses, multiple}
use Rattle.state_sound.specs.Sound.{soundb, driver_soundb}

abbrev bulk : ℕ → Bool → ℕ → ℕ → ℕ → EndpointConfig
bulk index incoming m address size =
    record {
      endpoint = record { index = index; incoming = incoming };
      ep_type = Bulk;
      max_packet_size = m;
      interval_ms = 0;
      max_burst = 0;
      buffer = record { address = address; size = size };
    }

-- the first data slot and the last one: 2 with a buffer after endpoint 0's memory, 15 with one at the end of RAM
abbrev out_config : EndpointConfig
out_config = bulk 1 false 1024 0x200A0200 1024

abbrev in_config : EndpointConfig
in_config = bulk 7 true 1024 0x2017FC00 1024

abbrev moved : ℕ → ℕ → ℕ → Transfer
moved address length progress = record { address = address; length = length; progress = progress; zlp = false }

abbrev slot : Option EndpointConfig → Bool → Bool → Phase → Transfer → Slot
slot config enabled stalled phase transfer =
    record {
      enabled = enabled;
      stalled = stalled;
      phase = phase;
      config = config;
      transfer = transfer;
      tally = fresh_slot.tally;
    }

-- enabled, and without or with a transfer under way
abbrev enabled : EndpointConfig → Slot
enabled k = slot (Some k) true false Idle (moved 0 0 0)

abbrev busy : EndpointConfig → ℕ → ℕ → ℕ → Slot
busy k address length progress = slot (Some k) true false Busy (moved address length progress)

abbrev asked : Awaiting → ℕ → Awaited
asked next endpoint =
    record {
      next = Some next;
      flags = nothing_awaited.flags;
      link_state = nothing_awaited.link_state;
      endpoint = endpoint;
      packets = 0;
    }

-- slots, EP0's memory, power, sequence, address, awaited reading; the rest is fresh
abbrev device : List Slot → ℕ → Bool → ℕ → ℕ → Awaited → State
device slots memory powered seq address awaited =
    state_of slots (record { memory = memory; on = powered; revision = 0 }) (link_of fresh_state)
    (record { setup = None; generation = 0; last = false; sequence = seq; address = Some address })
    0 awaited

abbrev slots : List Slot
slots = set (set (replicate 16 fresh_slot) 2 (enabled out_config)) 15 (enabled in_config)

-- the running state with another slot i
abbrev running_with : ℕ → Slot → State
running_with i x = device (set slots i x) 0x200A0000 true 31 127 nothing_awaited

-- powered and idle; address and sequence at their limits
abbrev pub running : State
running = device slots 0x200A0000 true 31 127 nothing_awaited

-- both ways under way, and a chain's reading awaited. Endpoint 0's slots aren't held to what data slots are, nor is IN to whole packets
abbrev pub moving : State
moving =
    device
    (set (set (set slots 1 (slot None false true Busy (moved 1 0 1))) 2 (busy out_config 0x200A0200 2048 1024)) 15 (busy in_config 0x2017FC00 1000 1000))
    0x2017FE00
    true
    0
    0
    (asked awaiting.LastLength 7)

pub record Fault : Type 0 where
  pub state : State
  pub events : Events

abbrev pub no_events : Events
no_events = record { events = 0 }

abbrev quietly : State → Fault
quietly s = record { state = s; events = no_events }

abbrev use_faults : List State
use_faults =
    -- enabled, never configured
    running_with 15 (slot None true false Idle (moved 0 0 0))
    -- a finished transfer is left, the power is gone
    ∷ device (set slots 15 (slot (Some in_config) true false Done (moved 0 0 0))) 0x200A0000 false 31 127 nothing_awaited
    -- the same on a slot that is switched off
    ∷ running_with 15 (slot (Some in_config) false false Done (moved 0 0 0))
    -- and on one that answers STALL
    ∷ running_with 15 (slot (Some in_config) true true Done (moved 0 0 0))
    ∷ []

-- configurations for slot 15; the driver's table has them too
abbrev config_faults : List EndpointConfig
config_faults =
    -- another endpoint's
    bulk 6 true 1024 0x2017FC00 1024
    -- packets of 1025 bytes
    ∷ bulk 7 true 1025 0x200A0200 1025
    -- the buffer ends 4 bytes past RAM
    ∷ bulk 7 true 1024 0x2017FC04 1024
    -- the buffer begins between two words
    ∷ bulk 7 true 1024 0x200A0202 1024
    -- the buffer holds one packet and a half
    ∷ bulk 7 true 1024 0x200A0200 1536
    ∷ []

abbrev transfer_faults : List State
transfer_faults =
    -- one byte of none was moved; idle, so that nothing else of it is looked at
    running_with 15 (slot (Some in_config) true false Idle (moved 0 0 1))
    -- it begins 4 bytes before RAM
    ∷ running_with 15 (busy in_config 0x2009FFFC 1024 0)
    -- it begins between two words
    ∷ running_with 15 (busy in_config 0x200A0202 1024 0)
    -- OUT, and its last packet would be cut
    ∷ running_with 2 (busy out_config 0x200A0200 1000 0)
    -- OUT, and nothing is left to come
    ∷ running_with 2 (busy out_config 0x200A0200 1024 1024)
    -- OUT, and it stopped amid a packet
    ∷ running_with 2 (busy out_config 0x200A0200 2048 1000)
    ∷ []

abbrev state_faults : List Fault
state_faults =
    -- EP0's memory ends 4 bytes past RAM
    quietly (device slots 0x2017FE04 true 31 127 nothing_awaited)
    -- both of the events that exclude each other
    ∷ record { state = running; events = record { events = 6 } }
    -- a device address of 8 bits
    ∷ quietly (device slots 0x200A0000 true 31 128 nothing_awaited)
    -- a sequence number of 6 bits
    ∷ quietly (device slots 0x200A0000 true 32 127 nothing_awaited)
    -- an interrupt is half answered, the power is gone
    ∷ quietly (device slots 0x200A0000 false 31 127 (asked awaiting.LinkFlags 0))
    -- packets are asked of endpoint 0, which has no chain
    ∷ quietly (device slots 0x200A0000 true 31 127 (asked awaiting.ChainPackets 0))
    ∷ []

-- row k is refused by clause k
abbrev pub faults : List Fault
faults = map quietly (use_faults ++ map (λ (k : EndpointConfig). running_with 15 (enabled k)) config_faults ++ transfer_faults) ++ state_faults

-- memory, its capacity, how much is in use, what slot 15 has
abbrev driver_of : ℕ → ℕ → ℕ → Option EndpointConfig → Driver
driver_of memory capacity used a = record { memory = memory; capacity = capacity; used = used; endpoints = set (replicate 16 None) 15 a }

-- the least memory, with nothing allocated, and all of RAM, in use to its end
abbrev pub small_driver : Driver
small_driver = driver_of 0x200A0000 512 512 None

abbrev pub full_driver : Driver
full_driver = driver_of 0x200A0000 0xE0000 0xE0000 (Some in_config)

abbrev memory_faults : List Driver
memory_faults =
    -- a byte more than RAM has
    driver_of 0x200A0000 0xE0001 512 None
    -- no room for EP0, which has its 512 bytes all the same: more is in use than there is
    ∷ driver_of 0x200A0000 511 512 None
    -- it begins between two words
    ∷ driver_of 0x200A0002 1024 512 None
    -- EP0's 512 bytes aren't all taken
    ∷ driver_of 0x200A0000 1024 511 None
    -- more is taken than there is
    ∷ driver_of 0x200A0000 1024 1025 None
    ∷ []

abbrev pub driver_faults : List Driver
driver_faults = map (λ (k : EndpointConfig). driver_of 0x200A0000 0xE0000 0xE0000 (Some k)) config_faults ++ memory_faults

-- n clauses, of which only the k-th is false, and that for each k
abbrev pub only_false : ℕ → ℕ → List Bool
only_false n k = set (replicate n true) k false

abbrev rows_to : ℕ → ℕ → List (List Bool)
rows_to n zero = []
rows_to n (suc k) = rows_to n k ++ (only_false n k ∷ [])

abbrev pub diagonal : ℕ → List (List Bool)
diagonal n = rows_to n n

pub each_clause_alone : map (λ (f : Fault). clauses f.state f.events) faults ≡ diagonal 21
unfolding every
each_clause_alone = refl

-- the other end of a range, where a clause has two
abbrev pub other_faults : List Fault
other_faults =
    -- the buffer begins 4 bytes before RAM
    quietly (running_with 15 (enabled (bulk 7 true 1024 0x2009FFFC 1024)))
    -- it has no bytes
    ∷ quietly (running_with 15 (enabled (bulk 7 true 1024 0x200A0200 0)))
    -- the transfer ends 4 bytes past RAM
    ∷ quietly (running_with 15 (busy in_config 0x2017FC04 1024 0))
    -- EP0's memory begins 4 bytes before RAM
    ∷ quietly (device slots 0x2009FFFC true 31 127 nothing_awaited)
    -- packets are asked of endpoint 8
    ∷ quietly (device slots 0x200A0000 true 31 127 (asked awaiting.ChainPackets 8))
    -- and the last length
    ∷ quietly (device slots 0x200A0000 true 31 127 (asked awaiting.LastLength 0))
    ∷ []

pub other_ends : map (λ (f : Fault). clauses f.state f.events) other_faults ≡ map (only_false 21) (6 ∷ 8 ∷ 10 ∷ 15 ∷ 20 ∷ 20 ∷ [])
unfolding every
other_ends = refl

-- counted from 0, row 6 is the exception: too small a memory is refused by the last clause as well
pub driver_each_clause_alone : map driver_clauses driver_faults ≡ set (diagonal 10) 6 (set (only_false 10 6) 9 false)
unfolding every
driver_each_clause_alone = refl

-- and can't be otherwise: the clause on the capacity follows from the two on what is in use
pub capacity_follows : (used capacity : ℕ) → leb 512 used ≡ true → leb used capacity ≡ true → leb 512 capacity ≡ true
capacity_follows used capacity h k = le-leb 512 capacity (omega (arith, leb-true 512 used h, leb-true used capacity k))

-- packets of 0 bytes, at the other end of their range, have no buffer of whole packets: two clauses refuse them
pub no_packets : (size : ℕ) → multiple size 0 ≡ false
no_packets size = refl

pub fresh_sound : soundb fresh_state no_events ≡ true
unfolding soundb every
fresh_sound = refl

pub running_sound : soundb running no_events ≡ true
unfolding soundb every
running_sound = refl

pub moving_sound : soundb moving no_events ≡ true
unfolding soundb every
moving_sound = refl

pub faults_refused : map (λ (f : Fault). soundb f.state f.events) faults ≡ replicate 21 false
unfolding soundb every
faults_refused = refl

pub small_driver_sound : driver_soundb small_driver ≡ true
unfolding driver_soundb every
small_driver_sound = refl

pub full_driver_sound : driver_soundb full_driver ≡ true
unfolding driver_soundb every
full_driver_sound = refl

pub driver_faults_refused : map driver_soundb driver_faults ≡ replicate 10 false
unfolding driver_soundb every
driver_faults_refused = refl
