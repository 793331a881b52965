-- Refusal 26, clause by clause in document 01's words. A clause is true where its fault is absent.
-- Assumes nothing.
use Rattle.std.specs.Prelude.{ℕ, ◌+◌, ◌%◌, Bool, true, ◌&&◌, ◌||◌, not, List, [], ◌∷◌, ◌++◌, map, eqb, leb, ltb, Option, Some, None}
use Rattle.state.specs.declared.EndpointConfig.{EndpointConfig}
use Rattle.state.specs.declared.Slot.{Slot}
use Rattle.state.specs.declared.State.{State}
use Rattle.state.specs.declared.Awaited.{Awaited}
use Rattle.state.specs.declared.Events.{Events}
use Rattle.state.specs.declared.Driver.{Driver}
use Rattle.state_slots.specs.Slots.{idleb, busyb, slot_number, configured, slot_size}
use Rattle.state.specs.Fresh.{slot_at, allocation_at}
use Rattle.state.specs.Awaiting.{awaitingb, chain_readingb}
use Rattle.state_events.specs.Bytes.{events_soundb}
use Rattle.base.specs.Each.{every}

-- RAM is 0x200A0000 up to, not including, 0x20180000
abbrev pub in_ram : ℕ → ℕ → Bool
in_ram address length = leb 0x200A0000 address && leb (address + length) 0x20180000

abbrev pub aligned : ℕ → Bool
aligned address = eqb (address % 4) 0

-- a multiple of m, which isn't 0
abbrev pub multiple : ℕ → ℕ → Bool
multiple n m = ltb 0 m && eqb (n % m) 0

-- room for whole packets of m bytes, one at least
abbrev pub whole_packets : ℕ → ℕ → Bool
whole_packets n m = ltb 0 n && multiple n m

abbrev pub packet_size : ℕ → Bool
packet_size m = leb 1 m && leb m 1024

-- slots 0 and 1 are endpoint 0's, the others are data slots; those of OUT have even numbers
abbrev pub ep0 : ℕ → Bool
ep0 i = ltb i 2

abbrev pub is_in : ℕ → Bool
is_in i = eqb (i % 2) 1

-- what is asked of a configuration, where there is one
abbrev pub if_any : (EndpointConfig → Bool) → Option EndpointConfig → Bool
if_any p None = true
if_any p (Some k) = p k

-- of a configuration of slot i
abbrev pub config_clauses : List (ℕ → EndpointConfig → Bool)
config_clauses =
    -- a configuration naming another slot
    (λ i k. eqb (slot_number k.endpoint.index k.endpoint.incoming) i)
    -- M outside 1–1024
    ∷ (λ i k. packet_size k.max_packet_size)
    -- own buffer outside RAM
    ∷ (λ i k. in_ram k.buffer.address k.buffer.size)
    -- own buffer unaligned
    ∷ (λ i k. aligned k.buffer.address)
    -- own buffer no positive multiple of M long
    ∷ (λ i k. whole_packets k.buffer.size k.max_packet_size)
    ∷ []

abbrev pub use_clauses : Bool → List (ℕ → Slot → Bool)
use_clauses powered =
    -- data slot enabled without configuration
    (λ i x. ep0 i || (not x.enabled || configured x.config))
    -- not idle while unpowered
    ∷ (λ i x. ep0 i || (idleb x.phase || powered))
    -- not idle while not enabled
    ∷ (λ i x. ep0 i || (idleb x.phase || x.enabled))
    -- not idle while stalled
    ∷ (λ i x. ep0 i || (idleb x.phase || not x.stalled))
    ∷ []

-- a data slot that isn't busy, and one that isn't busy or is of IN
abbrev pub calm : ℕ → Slot → Bool
calm i x = ep0 i || not (busyb x.phase)

abbrev pub calm_out : ℕ → Slot → Bool
calm_out i x = calm i x || is_in i

abbrev pub transfer_clauses : List (ℕ → Slot → Bool)
transfer_clauses =
    -- a data slot's progress above its length
    (λ i x. ep0 i || leb x.transfer.progress x.transfer.length)
    -- busy transfer that isn't in RAM
    ∷ (λ i x. calm i x || in_ram x.transfer.address x.transfer.length)
    -- busy transfer that isn't 4-aligned
    ∷ (λ i x. calm i x || aligned x.transfer.address)
    -- busy OUT transfer whose length isn't a positive multiple of M
    ∷ (λ i x. calm_out i x || whole_packets x.transfer.length (slot_size x))
    -- busy OUT transfer at its full length
    ∷ (λ i x. calm_out i x || not (eqb x.transfer.progress x.transfer.length))
    -- busy OUT transfer at no multiple of M
    ∷ (λ i x. calm_out i x || multiple x.transfer.progress (slot_size x))
    ∷ []

abbrev pub slot_clauses : Bool → List (ℕ → Slot → Bool)
slot_clauses powered = use_clauses powered ++ map (λ (c : ℕ → EndpointConfig → Bool) i (x : Slot). if_any (c i) x.config) config_clauses ++ transfer_clauses

abbrev pub awaited_clauses : Bool → Awaited → List Bool
awaited_clauses powered a =
    -- a reading awaited while unpowered
    (not (awaitingb a.next) || powered)
    -- a chain reading for an endpoint outside 1–7
    ∷ (not (chain_readingb a.next) || (leb 1 a.endpoint && leb a.endpoint 7))
    ∷ []

-- of an address that waits
abbrev pub address_fits : Option ℕ → Bool
address_fits None = true
address_fits (Some a) = leb a 127

abbrev pub state_clauses : State → Events → List Bool
state_clauses s e =
    -- EP0 memory outside RAM (0 is sound until the first start)
    (eqb s.ep0_address 0 || in_ram s.ep0_address 512)
    -- SUSPEND with RESUME
    ∷ events_soundb e.events
    -- address above 127
    ∷ address_fits s.address
    -- sequence above 31
    ∷ leb s.tx_seq 31
    ∷ awaited_clauses s.powered s.awaited

-- a clause of a slot, for all sixteen
abbrev pub of_slots : State → (ℕ → Slot → Bool) → Bool
of_slots s c = every (λ i. c i (slot_at s i)) 16

abbrev pub clauses : State → Events → List Bool
clauses s e = map (of_slots s) (slot_clauses s.powered) ++ state_clauses s e

abbrev pub memory_clauses : ℕ → ℕ → ℕ → List Bool
memory_clauses memory capacity used =
    -- memory that breaks 1
    in_ram memory capacity
    -- or 2
    ∷ leb 512 capacity
    -- or isn't 4-aligned
    ∷ aligned memory
    -- under 512 bytes in use
    ∷ leb 512 used
    -- or more than its capacity
    ∷ leb used capacity
    ∷ []

abbrev pub of_allocations : Driver → (ℕ → EndpointConfig → Bool) → Bool
of_allocations d c = every (λ i. if_any (c i) (allocation_at d i)) 16

-- a driver's own clauses, and those of its configurations
abbrev pub driver_clauses : Driver → List Bool
driver_clauses d = map (of_allocations d) config_clauses ++ memory_clauses d.memory d.capacity d.used
