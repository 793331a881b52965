-- Places of slots, and loops over them.
-- Assumes nothing.
use Rattle.std.specs.Prelude.{◌≡◌, ℕ, ◌+◌, ◌≤◌, Bool, true, length, nat_le}
use Rattle.std.proofs.Common.{arith, ap, ◌∙◌, leb-true}
use Rattle.std.proofs.Math.ListN.{get_or-eq_default}
use Rattle.base.specs.BitsLaws.{bit_small}
use Rattle.state.specs.declared.Slot.{Slot}
use Rattle.state.specs.declared.State.{State}
use Rattle.state.specs.Fresh.{fresh_slot, slot_at}
use Rattle.state.specs.Setters.{with_slots, with_slot}
use Rattle.base.specs.Each.{change}
use Rattle.base.specs.EachLaws.{change_none, change_next, change_not_yet, and_right}
use Rattle.state_slots.specs.Slots.{slot_number, data_endpoint, slot_place}

-- the slots of endpoints 0 to 7 have their own places
pub own_place : (e : ℕ) (incoming : Bool) → e ≤ 7 → slot_place e incoming ≡ slot_number e incoming
own_place e incoming h = omega (arith, h, bit_small incoming)

pub data_place : (e : ℕ) (incoming : Bool) → data_endpoint e ≡ true → slot_place e incoming ≡ slot_number e incoming
data_place e incoming h = own_place e incoming (leb-true e 7 (and_right (nat_le 1 e) (nat_le e 7) h))

-- past the sixteen slots stands a fresh one
pub no_slot : (s : State) (i : ℕ) → length s.endpoints ≡ 16 → 16 ≤ i → slot_at s i ≡ fresh_slot
no_slot s i h b = get_or-eq_default s.endpoints fresh_slot (omega (arith, h, b))

-- a loop over the slots: none is changed yet, and one more is
pub change_none_of : (f : ℕ → Slot → Slot) (s : State) → with_slots s (change f 0 s.endpoints) ≡ s
change_none_of f s = rw (change_none f s.endpoints)

pub change_next_of : (f : ℕ → Slot → Slot) (s₀ s : State) (i : ℕ) (y : Slot) → s ≡ with_slots s₀ (change f i s₀.endpoints) → y ≡ f i (slot_at s₀ i)
    → with_slot s i y ≡ with_slots s₀ (change f (i + 1) s₀.endpoints)
change_next_of f s₀ s i y h e = rw (h, e, change_next f i s₀.endpoints fresh_slot)

-- the same where the loop reads the state that it changes
pub change_next_in : (f : ℕ → Slot → Slot) (s₀ s : State) (i : ℕ) (y : Slot) → s ≡ with_slots s₀ (change f i s₀.endpoints) → y ≡ f i (slot_at s i)
    → with_slot s i y ≡ with_slots s₀ (change f (i + 1) s₀.endpoints)
change_next_in f s₀ s i y h e = change_next_of f s₀ s i y h (e ∙ ap (f i) (rw h (change_not_yet f i s₀.endpoints fresh_slot)))
