-- What 26 doesn't refuse: every clause is met.
-- Assumes nothing.
use Rattle.std.specs.Prelude.{ℕ, Bool, true, false, ◌&&◌, ◌||◌, not, eqb, leb, ltb, map, ◌≡◌, Option}
use Rattle.state.specs.declared.EndpointConfig.{EndpointConfig}
use Rattle.state.specs.declared.Slot.{Slot}
use Rattle.state.specs.declared.State.{State}
use Rattle.state.specs.declared.Awaited.{Awaited}
use Rattle.state.specs.declared.Events.{Events}
use Rattle.state.specs.declared.Driver.{Driver}
use Rattle.state_slots.specs.Slots.{configured, slot_size}
use Rattle.state.specs.Fresh.{slot_at, allocation_at}
use Rattle.base.specs.Each.{every, all_true}
use Rattle.state_sound.specs.Clauses.{config_clauses, use_clauses, transfer_clauses, slot_clauses, awaited_clauses, state_clauses, clauses, memory_clauses, driver_clauses, in_ram, aligned, multiple, whole_packets, is_in, if_any}

unfoldable pub soundb : State → Events → Bool
soundb s e = all_true (clauses s e)

unfoldable pub driver_soundb : Driver → Bool
driver_soundb d = all_true (driver_clauses d)

-- the clauses of one configuration, where there is one, of one slot, of the state itself, of the driver itself
unfoldable pub configb : ℕ → Option EndpointConfig → Bool
configb i o = all_true (map (λ (c : ℕ → EndpointConfig → Bool). if_any (c i) o) config_clauses)

unfoldable pub useb : Bool → ℕ → Slot → Bool
useb powered i x = all_true (map (λ (c : ℕ → Slot → Bool). c i x) (use_clauses powered))

unfoldable pub transferb : ℕ → Slot → Bool
transferb i x = all_true (map (λ (c : ℕ → Slot → Bool). c i x) transfer_clauses)

-- what the clauses say of a busy transfer, and of one of OUT
unfoldable pub outb : ℕ → ℕ → ℕ → Bool
outb progress length m = whole_packets length m && (not (eqb progress length) && multiple progress m)

unfoldable pub busy_clausesb : ℕ → Slot → Bool
busy_clausesb i x =
    in_ram x.transfer.address x.transfer.length
    && (aligned x.transfer.address
    && (is_in i || outb x.transfer.progress x.transfer.length (slot_size x)))

unfoldable pub slotb : Bool → ℕ → Slot → Bool
slotb powered i x = all_true (map (λ (c : ℕ → Slot → Bool). c i x) (slot_clauses powered))

unfoldable pub ownb : State → Events → Bool
ownb s e = all_true (state_clauses s e)

unfoldable pub awaitedb : Bool → Awaited → Bool
awaitedb powered a = all_true (awaited_clauses powered a)

unfoldable pub memoryb : ℕ → ℕ → ℕ → Bool
memoryb memory capacity used = all_true (memory_clauses memory capacity used)

unfoldable pub slotsb : State → ℕ → Bool
slotsb s n = every (λ i. slotb s.powered i (slot_at s i)) n

unfoldable pub allocationsb : Driver → ℕ → Bool
allocationsb d n = every (λ i. configb i (allocation_at d i)) n

-- a data slot that is configured
pub record Configured (i : ℕ) (x : Slot) : Type 0 where
  pub has : configured x.config ≡ true
  pub fits : configb i x.config ≡ true
  pub data_slot : ltb i 2 ≡ false
  pub within : leb x.transfer.progress x.transfer.length ≡ true
