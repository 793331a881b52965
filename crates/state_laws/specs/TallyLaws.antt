-- A slot that begins nothing keeps its account, and a difference that is kept stays right.
-- Assumes nothing.
use Rattle.std.specs.Prelude.{ℕ, ◌+◌, ◌%◌, ◌^◌, Bool, true, false, ◌≡◌, refl}
use Rattle.std.proofs.Common.{◌∙◌, arith}
use Rattle.state.specs.declared.Slot.{Slot}
use Rattle.state.specs.declared.State.{State}
use Rattle.state_slots.specs.Slots.{idleb, forgotten, reset_slot}
use Rattle.state.specs.Fresh.{slot_at}
use Rattle.state.specs.Setters.{with_slot}
use Rattle.state_slots.specs.StoredLaws.{stored_slot}
use Rattle.state_slots.specs.Tally.{accounted, KeepsAccount, SameDifference}

-- a data slot that is reset: a transfer in hand becomes one that was cut
pub reset_keeps : (x : Slot) (enabled : Bool) → KeepsAccount x (reset_slot x true enabled)
reset_keeps x enabled = go (idleb x.phase) refl
  where
    go : (b : Bool) → idleb x.phase ≡ b → KeepsAccount x (reset_slot x true enabled)
    go true e = record { begun = rw e; same = rw e }
    go false e = record { begun = rw e; same = rw e (omega arith) }

-- the same of one that keeps or gets a stall
pub forgotten_keeps : (x : Slot) (enabled stalled : Bool) → KeepsAccount x (forgotten x true enabled stalled)
forgotten_keeps x enabled stalled = let k = reset_keeps x enabled in record { begun = k.begun; same = k.same }

-- a slot that nothing is done to
pub unmoved : (x : Slot) → KeepsAccount x x
unmoved x = record { begun = refl; same = refl }

-- where nothing begins and the account is kept, so is the difference
pub keeps_difference : (x y : Slot) → KeepsAccount x y → SameDifference x y
keeps_difference x y k = record { difference = rw (k.begun, k.same) }

-- a slot that stays as it is
pub unmoved_difference : (x : Slot) → SameDifference x x
unmoved_difference x = record { difference = refl }

shift : (u v w : ℕ) → u % 2 ^ 32 ≡ v % 2 ^ 32 → (u + w) % 2 ^ 32 ≡ (v + w) % 2 ^ 32
shift u v w h = omega arith

unshift : (u v w : ℕ) → (u + w) % 2 ^ 32 ≡ (v + w) % 2 ^ 32 → u % 2 ^ 32 ≡ v % 2 ^ 32
unshift u v w h = omega arith

sums : (a a' b b' c c' : ℕ) → (b + a') % 2 ^ 32 ≡ (a + b') % 2 ^ 32 → (c + b') % 2 ^ 32 ≡ (b + c') % 2 ^ 32 → (c + a') % 2 ^ 32 ≡ (a + c') % 2 ^ 32
sums a a' b b' c c' h k =
    let from : c + a' + (b + b') ≡ b + a' + (c + b') = omega arith in
    let over : a + b' + (c + b') ≡ c + b' + (a + b') = omega arith in
    let to : b + c' + (a + b') ≡ a + c' + (b + b') = omega arith in
    unshift (c + a') (a + c') (b + b') (rw from (shift _ _ (c + b') h ∙ rw over (shift _ _ (a + b') k ∙ rw to)))

-- one call after another
pub difference_then : (x y z : Slot) → SameDifference x y → SameDifference y z → SameDifference x z
difference_then x y z d e =
    record { difference = sums x.tally.begun (accounted x) y.tally.begun (accounted y) z.tally.begun (accounted z) d.difference e.difference }

-- a slot whose account is right stays right
pub balanced_still : (x y : Slot) → SameDifference x y → x.tally.begun % 2 ^ 32 ≡ accounted x → y.tally.begun % 2 ^ 32 ≡ accounted y
balanced_still x y d e = omega (arith, d.difference, e)

-- storing a slot that keeps the difference keeps it in every slot
pub stored_difference : (s : State) (i : ℕ) (x : Slot) → SameDifference (slot_at s i) x → (j : ℕ) → SameDifference (slot_at s j) (slot_at (with_slot s i x) j)
stored_difference s i x h j = stored_slot (λ k y. SameDifference (slot_at s k) y) s i x h j (unmoved_difference (slot_at s j))
