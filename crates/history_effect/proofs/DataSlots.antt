-- A data slot behind steps that aren't on it: a slot of endpoint 0 stored, an interrupt's call ended, a start.
-- Assumes nothing.
use Rattle.std.specs.Prelude.{ℕ, ◌≤◌, ◌<◌, Bool, true, false, List, ltb, ◌≡◌, refl}
use Rattle.std.proofs.Common.{le-leb}
use Rattle.base.specs.EachLaws.{changed_at}
use Rattle.ops.specs.Ops.{Op}
use Rattle.state.specs.declared.Slot.{Slot}
use Rattle.state.specs.declared.State.{State}
use Rattle.state.specs.declared.Events.{Events}
use Rattle.state.specs.declared.Driver.{Driver}
use Rattle.state.specs.declared.Awaited.{Awaited}
use Rattle.state.specs.Fresh.{fresh_slot, slot_at}
use Rattle.state.specs.Setters.{with_slot}
use Rattle.state_slots.specs.Slots.{data_endpoint, slot_number, slot_of}
use Rattle.state_laws.specs.SlotLaws.{Cut, slot_range, ep0_apart, forgotten_cut, fresh_cut}
use Rattle.driver_start.specs.Start.{started_slot, started_slots, started_state}
use Rattle.interrupt_asks.specs.Settled.{settled}
use Rattle.interrupt_asks.specs.SettledLaws.{settled_parts}

pub ep0_stored : (s : State) (e : ℕ) (incoming : Bool) → data_endpoint e ≡ true → (k : ℕ) (y : Slot) → ltb k 2 ≡ true
    → slot_of (with_slot s k y) e incoming ≡ slot_of s e incoming
ep0_stored s e incoming d k y low = ep0_apart s.endpoints k y low (slot_number e incoming) (slot_range e incoming d).0

-- a reading is awaited or not
pub settled_slot : (s : State) (v : Events) (a : Awaited) (ops : List Op) (i : ℕ) → slot_at (settled s v a ops).state i ≡ slot_at s i
settled_slot s v a ops i = rw (← (settled_parts s v a ops).1.0) refl

pub started_cut : (s : State) (d : Driver) (i : ℕ) → 2 ≤ i → i < 16 → Cut (slot_at s i) (slot_at (started_state s d) i)
unfolding started_slots
started_cut s d i h b =
    changed_at (Cut (slot_at s i)) (started_slot d) 16 s.endpoints i fresh_slot b
    (rw (le-leb 2 i h) (let k = forgotten_cut (slot_at s i) false false in record { idle = k.idle; tally = k.tally })) (fresh_cut (slot_at s i))
