-- The slots of a state after one of them was stored.
-- Assumes nothing.
use Rattle.std.specs.Prelude.{◌≡◌, ℕ, Bool, true, false, length, ◌==◌, nat_lt, refl}
use Rattle.std.proofs.Common.{length-set, get_or-set_same, get_or-set_other, eqb-true, ltb-true, ltb-false}
use Rattle.std.proofs.lemmas.Bool.{eqb-false}
use Rattle.state.specs.declared.Slot.{Slot}
use Rattle.state.specs.declared.State.{State}
use Rattle.state.specs.Setters.{with_slot}
use Rattle.state.specs.Fresh.{fresh_slot, slot_at}
use Rattle.base.specs.EachLaws.{set_past}

-- what holds of every slot, and of the one stored under its number, holds of every slot then; past the end nothing is stored
pub stored_slot : (P : ℕ → Slot → Type 0) (s : State) (i : ℕ) (x : Slot) → P i x → (j : ℕ) → P j (slot_at s j) → P j (slot_at (with_slot s i x) j)
stored_slot P s i x hx j hj = go (j == i) refl (nat_lt i (length s.endpoints)) refl
  where
    go : (b : Bool) → (j == i) ≡ b → (c : Bool) → nat_lt i (length s.endpoints) ≡ c → P j (slot_at (with_slot s i x) j)
    go false e c l = rw (get_or-set_other s.endpoints i j x fresh_slot (eqb-false j i e)) hj
    go true e true l = rw (eqb-true j i e, get_or-set_same s.endpoints i x fresh_slot (ltb-true _ _ l)) hx
    go true e false l = rw (set_past s.endpoints i x (ltb-false _ _ l)) hj

-- as many slots as before
pub stored_slots : (s : State) (i : ℕ) (x : Slot) → length (with_slot s i x).endpoints ≡ length s.endpoints
stored_slots s i x = simp length-set
