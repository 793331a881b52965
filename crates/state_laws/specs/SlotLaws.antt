-- Slots of a state after one of them was stored, and slots that are cut.
-- Assumes nothing.
use Rattle.std.specs.Prelude.{ℕ, ◌≤◌, ◌<◌, Bool, true, false, not, List, ◌≡◌, refl, leb, ltb, length, get_or, set}
use Rattle.std.proofs.Common.{sym, subst, arith, leb-true, ltb-true, ltb-false, get_or-set_same, get_or-set_other}
use Rattle.std.proofs.Math.ListN.{get_or-eq_default}
use Rattle.base.specs.BitsLaws.{bit_small}
use Rattle.base.specs.EachLaws.{and_left, and_right, set_past}
use Rattle.state.specs.declared.Phase.TheVariants.{Idle}
use Rattle.state.specs.declared.Slot.{Slot}
use Rattle.state.specs.declared.State.{State}
use Rattle.state.specs.Fresh.{fresh_slot, slot_at}
use Rattle.state.specs.Setters.{with_slot}
use Rattle.state_slots.specs.Slots.{idleb, slot_number, data_endpoint, tally_cut, forgotten}

-- the slots of data endpoints are 2 to 15
pub slot_range : (e : ℕ) (incoming : Bool) → data_endpoint e ≡ true → (2 ≤ slot_number e incoming) × (slot_number e incoming < 16)
slot_range e incoming h =
    let low : 1 ≤ e = leb-true 1 e (and_left (leb 1 e) (leb e 7) h) in
    let high : e ≤ 7 = leb-true e 7 (and_right (leb 1 e) (leb e 7) h) in
    (omega arith, omega (arith, high, bit_small incoming))

-- each direction of an endpoint has a slot of its own
pub slots_apart : (e f : ℕ) (b d : Bool) → slot_number e b ≡ slot_number f d → (e ≡ f) × (b ≡ d)
slots_apart e f true true q = (omega (arith, q), refl)
slots_apart e f true false q = absurd (omega (arith, q))
slots_apart e f false true q = absurd (omega (arith, q))
slots_apart e f false false q = (omega (arith, q), refl)

-- a slot that isn't as a fresh one is there, and is what was stored
pub stored_here : (s : State) (i : ℕ) (y : Slot) → (slot_at s i ≡ fresh_slot → ⊥) → slot_at (with_slot s i y) i ≡ y
stored_here s i y real = go (ltb i (length s.endpoints)) refl
  where
    go : (b : Bool) → ltb i (length s.endpoints) ≡ b → slot_at (with_slot s i y) i ≡ y
    go true q = get_or-set_same s.endpoints i y fresh_slot (ltb-true _ _ q)
    go false q = absurd (real (get_or-eq_default s.endpoints fresh_slot (ltb-false _ _ q)))

-- the others are as they were
pub stored_there : (s : State) (i j : ℕ) (y : Slot) → (j ≡ i → ⊥) → slot_at (with_slot s i y) j ≡ slot_at s j
stored_there s i j y h = get_or-set_other s.endpoints i j y fresh_slot h

-- data slots where one of endpoint 0's was stored
pub ep0_apart : (slots : List Slot) (i : ℕ) (y : Slot) → ltb i 2 ≡ true → (j : ℕ) → 2 ≤ j → get_or (set slots i y) j fresh_slot ≡ get_or slots j fresh_slot
ep0_apart slots i y h j b = get_or-set_other slots i j y fresh_slot (λ q. omega (arith, ltb-true i 2 h, b, q))

-- x is cut and becomes y: a transfer in hand is counted
pub record Cut (x y : Slot) : Type 0 where
  pub idle : y.phase ≡ Idle
  pub tally : y.tally ≡ tally_cut x.tally (not (idleb x.phase)) x.transfer.progress

pub forgotten_cut : (x : Slot) (enabled stalled : Bool) → Cut x (forgotten x true enabled stalled)
forgotten_cut x enabled stalled = record { idle = refl; tally = refl }

-- one that isn't there
pub fresh_cut : (x : Slot) → x ≡ fresh_slot → Cut x fresh_slot
fresh_cut x q = record { idle = refl; tally = rw q }

-- a cut slot stored; past the end nothing is stored, and what is read there is idle
pub stored_cut : (s : State) (i : ℕ) (y : Slot) → Cut (slot_at s i) y → Cut (slot_at s i) (slot_at (with_slot s i y) i)
stored_cut s i y h = go (ltb i (length s.endpoints)) refl
  where
    go : (b : Bool) → ltb i (length s.endpoints) ≡ b → Cut (slot_at s i) (slot_at (with_slot s i y) i)
    go true q = rw (get_or-set_same s.endpoints i y fresh_slot (ltb-true _ _ q)) h
    go false q =
        let z : slot_at s i ≡ fresh_slot = get_or-eq_default s.endpoints fresh_slot (ltb-false _ _ q) in
        subst (λ (l : List Slot). Cut (slot_at s i) (get_or l i fresh_slot)) (sym (set_past s.endpoints i y (ltb-false _ _ q)))
        (subst (Cut (slot_at s i)) (sym z) (fresh_cut (slot_at s i) z))
