-- The slots behind a bus reset, in one go.
-- Assumes nothing.
use Rattle.std.specs.Prelude.{◌≡◌, ℕ, true, ◌≤◌, List, [], ◌∷◌, slice_set, refl}
use Rattle.std.proofs.Common.{ap, sym, le-ltb}
use Rattle.base.specs.Each.{change, change_from}
use Rattle.base.specs.EachLaws.{change_alike}
use Rattle.state.specs.declared.Slot.{Slot}
use Rattle.state.specs.declared.State.{State}
use Rattle.state.specs.Fresh.{slot_at}
use Rattle.state.specs.Setters.{with_slot}
use Rattle.state_slots.specs.Slots.{off_slot, slots_off}
use Rattle.state_slots.specs.SlotsLaws.{change_none_of, change_next_in}
use Rattle.bus_reset.specs.Reset.{ep0_slot, slot_after}

-- off, or, of endpoint 0, on
abbrev pub slot_reset : ℕ → Slot → Slot
slot_reset = slot_after true

data_slot : (i : ℕ) (x : Slot) → 2 ≤ i → off_slot i x ≡ slot_reset i x
data_slot i x h = rw (le-ltb i 2 h)

pub reset_both : (l : List Slot) → change ep0_slot 2 (slots_off l) ≡ change slot_reset 16 l
unfolding change_from
reset_both [] = refl
reset_both (x ∷ []) = refl
reset_both (x ∷ y ∷ l) = rw (change_alike 2 off_slot slot_reset data_slot 14 l)

-- endpoint 0's slots, stored one after the other
pub control_slots : (s : State) (y z : Slot) → y ≡ ep0_slot 0 (slot_at s 0) → z ≡ ep0_slot 1 (slot_at (with_slot s 0 y) 1)
    → slice_set (slice_set s.endpoints 0 y) 1 z ≡ change ep0_slot 2 s.endpoints
control_slots s y z h k =
    let one = change_next_in ep0_slot s s 0 y (sym (change_none_of ep0_slot s)) h in
    ap (λ (t : State). t.endpoints) (change_next_in ep0_slot s (with_slot s 0 y) 1 z one k)
