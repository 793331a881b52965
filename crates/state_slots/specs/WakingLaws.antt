-- Sets of slots have sixteen bits.
-- Assumes nothing.
use Rattle.std.specs.Prelude.{◌≡◌, ℕ, zero, suc, ◌+◌, ◌-◌, ◌*◌, ◌/◌, ◌%◌, ◌^◌, ◌<◌, Bool, true, false, cond, ◌==◌, ◌≢◌, nat_eq, nat_lt, refl}
use Rattle.std.proofs.Common.{sym, arith, ltb-true, eqb-true, lt-ltb, eq-eqb, ne_eqb}
use Rattle.std.proofs.Math.Nat.{div-div-eq-div-mul, pow-succ'}
use Rattle.base.specs.Each.{every}
use Rattle.base.specs.EachLaws.{every_at}
use Rattle.state_slots.specs.Waking.{slot_set, add_slot}

-- a slot's bit is one of the sixteen
pub bit_fits : (i : ℕ) → i < 16 → 1 * 2 ^ i % 2 ^ 16 ≡ slot_set i
unfolding every
bit_fits i h = rw (lt-ltb i 16 h) (eqb-true _ _ (every_at (λ k. nat_eq (1 * 2 ^ k % 2 ^ 16) (2 ^ k)) 16 i refl h))

-- 2^i * 2k
doubled : ℕ → ℕ → ℕ
doubled zero k = k + k
doubled (suc i) k = 2 * doubled i k

add_bit : (i k w : ℕ) → w < doubled i k → w / 2 ^ i % 2 ≡ 0 → w + 2 ^ i < doubled i k
unfolding doubled
add_bit zero k w h e = omega (arith, h, e)
add_bit (suc i) k w h e =
    let power : 2 ^ suc i ≡ 2 * 2 ^ i = pow-succ' 2 i in
    let half : w / 2 / 2 ^ i % 2 ≡ 0 = rw (div-div-eq-div-mul w 2 (2 ^ i), sym power) e in
    omega (arith, add_bit i k (w / 2) (omega (arith, h)) half, power)

add_fits : (w i : ℕ) → w < 65536 → i < 16 → w / 2 ^ i % 2 ≡ 0 → w + 2 ^ i < 65536
unfolding every doubled
add_fits w i h b e =
    let top : doubled i (2 ^ (15 - i)) ≡ 65536 = eqb-true _ _ (every_at (λ k. nat_eq (doubled k (2 ^ (15 - k))) 65536) 16 i refl b) in
    omega (arith, add_bit i (2 ^ (15 - i)) w (omega (arith, h, top)) e, top)

-- a 16-bit set has room for a slot that it doesn't have
pub add_room : (w i one : ℕ) → one ≡ slot_set i → w < 65536 → (one ≢ 0) → (w / one % 2 ≢ 1) → w + one < 65536
add_room w i one e h nonzero new = go (nat_lt i 16) refl
  where
    go : (b : Bool) → nat_lt i 16 ≡ b → w + one < 65536
    go true l =
        let power : one ≡ 2 ^ i = rw l at e in
        let clear : w / one % 2 ≡ 0 = omega (arith, new) in
        rw power (add_fits w i h (ltb-true i 16 l) (rw power at clear))
    go false l = absurd (nonzero (rw l at e))

-- a set stays where no slot has the number, or it has the slot; else the slot's bit is added
pub add_nothing : (w i one : ℕ) → one ≡ slot_set i → one ≡ 0 → w ≡ add_slot w i
add_nothing w i one e z = rw (sym e, z) (both (w / 0 % 2 == 1))
  where
    both : (b : Bool) → w ≡ w + cond b 0 0
    both true = omega arith
    both false = omega arith

pub add_had : (w i one : ℕ) → one ≡ slot_set i → w / one % 2 ≡ 1 → w ≡ add_slot w i
add_had w i one e h = rw (sym e, eq-eqb _ _ h) (omega arith)

pub add_new : (w i one : ℕ) → one ≡ slot_set i → (w / one % 2 ≢ 1) → w + one ≡ add_slot w i
add_new w i one e h = rw (sym e, ne_eqb _ _ h)
