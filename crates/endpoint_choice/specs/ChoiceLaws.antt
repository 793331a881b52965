-- The choice of a piece: what the controller reaches, and how long a piece is.
-- Assumes nothing.
use Rattle.std.specs.Prelude.{ℕ, zero, suc, ◌+◌, ◌*◌, ◌/◌, ◌≤◌, ◌<◌, min, Bool, true, false, ◌&&◌, ◌≡◌, refl, leb, ltb}
use Rattle.std.proofs.Common.{sym, mul-le-mul, div-mul-le_self, arith, ltb-true, leb-true, leb-false}
use Rattle.std.proofs.lemmas.Bool.{lt-leb}
use Rattle.base.specs.Ceil.{div_ceil}
use Rattle.base.specs.CeilLaws.{ceil_above, ceil_by_zero}
use Rattle.base.specs.EachLaws.{and_left, and_right}
use Rattle.state.specs.declared.Slot.{Slot}
use Rattle.state_slots.specs.Slots.{slot_size}
use Rattle.state_sound.specs.Clauses.{in_ram, aligned}
use Rattle.endpoint_choice.specs.declared.Asked.{Asked}
use Rattle.endpoint_choice.specs.Choice.{place, rest, reaches, own_room, send_direct, receive_direct}

pub and-false : (b : Bool) → (b && false) ≡ false
and-false true = refl
and-false false = refl

-- what the controller reaches lies in RAM
pub reached : (address n : ℕ) → reaches address n ≡ true → (0 < n) × ((0x200A0000 ≤ address) × (address + n ≤ 0x20180000))
reached address n h =
    let some = and_left (ltb 0 n) (aligned address) (and_left (ltb 0 n && aligned address) (in_ram address n) h) in
    let inside = and_right (ltb 0 n && aligned address) (in_ram address n) h in
    (ltb-true 0 n some, (leb-true _ _ (and_left (leb 0x200A0000 address) (leb (address + n) 0x20180000) inside), leb-true _ _ (and_right (leb 0x200A0000 address) (leb (address + n) 0x20180000) inside)))

pub beyond : (address n : ℕ) → 0x20180000 < address + n → reaches address n ≡ false
beyond address n h = rw (lt-leb (address + n) 0x20180000 h, and-false (leb 0x200A0000 address)) (and-false (ltb 0 n && aligned address))

pub send_reached : (k : Asked) → send_direct k ≡ true → (0 < rest k) × ((0x200A0000 ≤ k.address) × (k.address + k.length ≤ 0x20180000))
send_reached k h =
    (ltb-true 0 (rest k) (and_left (ltb 0 (rest k)) (reaches k.address k.length) h), (reached k.address k.length (and_right (ltb 0 (rest k)) (reaches k.address k.length) h)).1)

pub receive_reached : (x : Slot) (k : Asked) → receive_direct x k ≡ true
    → (0 < slot_size x) × ((slot_size x ≤ rest k) × ((0x200A0000 ≤ k.address + place k) × (k.address + place k + rest k ≤ 0x20180000)))
receive_reached x k h =
    let near = reached (k.address + place k) (rest k) (and_left (reaches (k.address + place k) (rest k)) (ltb 0 (slot_size x) && leb (slot_size x) (rest k)) h) in
    let room = and_right (reaches (k.address + place k) (rest k)) (ltb 0 (slot_size x) && leb (slot_size x) (rest k)) h in
    (ltb-true 0 (slot_size x) (and_left (ltb 0 (slot_size x)) (leb (slot_size x) (rest k)) room), (leb-true _ _ (and_right (ltb 0 (slot_size x)) (leb (slot_size x) (rest k)) room), (near.1.0, near.1.1)))

-- whole packets that n bytes need are n bytes at least
pub ceil_covers : (n m : ℕ) → 0 < m → n ≤ div_ceil n m * m
ceil_covers n m h = go (leb n (div_ceil n m * m)) refl
  where
    go : (b : Bool) → leb n (div_ceil n m * m) ≡ b → n ≤ div_ceil n m * m
    go true e = leb-true _ _ e
    go false e = let less = ceil_above n m (div_ceil n m) h (leb-false _ _ e) in omega arith

-- what goes beyond the own buffer changes nothing
pub own_held : (size m left : ℕ) → own_room size m (min left size) ≡ own_room size m left
own_held size zero left = rw (sym (ceil_by_zero (min left size) 0 refl), sym (ceil_by_zero left 0 refl))
own_held size (suc m) left = go (leb left size) refl
  where
    go : (b : Bool) → leb left size ≡ b → own_room size (suc m) (min left size) ≡ own_room size (suc m) left
    go true e = let h = leb-true left size e in let same : min left size ≡ left = omega (arith, h) in rw same
    go false e =
        let h = leb-false left size e in
        let same : min left size ≡ size = omega (arith, h) in
        let a = ceil_covers size (suc m) (omega arith) in
        let b = ceil_covers left (suc m) (omega arith) in
        let full : own_room size (suc m) size ≡ size = omega (arith, a) in
        let over : own_room size (suc m) left ≡ size = omega (arith, b, h) in
        rw (same, full, over)

-- packets and their size make no large number
pub packets_fit : (p m : ℕ) → p < 4294967296 → m < 65536 → p * m < 18446744073709551616
packets_fit p m h g =
    let a : p ≤ 4294967295 = omega arith in
    let b : m ≤ 65535 = omega arith in
    omega (arith, mul-le-mul a b)

-- whole packets of n bytes are no more than n
pub whole_below : (n m : ℕ) → n / m * m ≤ n
whole_below n m = div-mul-le_self n m
