-- What the numbers of a chain come to: an IN chain sends what it says, and OUT moves whole packets until a short one.
-- Assumes nothing.
use Prim.Native.Nat.{ℕ, zero, suc, ◌+◌, ◌*◌, ◌-◌, ◌/◌, ◌%◌, ◌^◌, ◌≤◌, ◌<◌, min, max}
use Rattle.std.specs.Prelude.{ℕ, ◌-◌, ◌*◌, ◌<◌, ◌≤◌, Bool, true, false, ◌≡◌, refl, eqb}
use Rattle.std.proofs.Common.{add-zero, div-add-mod', lt_of_not-le, arith, ne_eqb}
use Rattle.std.proofs.Math.Nat.{mul-le-mul_right, mul-mod_left}
use Rattle.std.proofs.Math.Decide.{dec_le}
use Rattle.base.specs.Ceil.{div_ceil}
use Rattle.base.specs.CeilLaws.{ceil_none, ceil_by_zero, below_ceil, ceil_above}
use Rattle.state.specs.declared.Transfer.{Transfer}
use Rattle.state.specs.declared.Slot.{Slot}
use Rattle.state_slots.specs.Slots.{slot_size, own_buffer}
use Rattle.transfer_chain.specs.declared.Chain.{Chain}
use Rattle.transfer_chain.specs.ChainsLaws.{product_fits}
use Rattle.transfer_chain.specs.Chains.{chain_packets, chain_bytes, left, place, in_chain, sent, reported, arrived, slot_chain, next_chain}

-- a number is at most another, or above it
split : {X : Type 0} (a b : ℕ) → (a ≤ b → X) → (b < a → X) → X
split a b f g = elim (dec_le a b) [ yes h ↦ f h | no h ↦ g (lt_of_not-le h) ]

-- a product with its last addend apart
one_more : (c m : ℕ) → 0 < c → c * m ≡ (c - 1) * m + m
one_more zero m h = omega arith
one_more (suc c) m h = let e : suc c - 1 ≡ c = omega arith in rw e (omega arith)

-- a chain has a packet, and no more than the limit
pub packets_some : (limit m n : ℕ) → 0 < limit → 0 < chain_packets limit m n
unfolding chain_packets
packets_some limit m n h = omega arith

pub packets_most : (limit m n : ℕ) → chain_packets limit m n ≤ limit
unfolding chain_packets
packets_most limit m n = omega arith

-- so that what they come to in bytes fits 32 bits
pub chain_product_fits : (p limit m n k : ℕ) → p ≡ chain_packets limit m n → limit < 256 → m < 65536 → k ≤ p → k * m < 4294967296 - 65536
chain_product_fits p limit m n k e b d h = product_fits k m (omega (arith, e, b, h, packets_most limit m n)) d

-- no chain sends more than is left
pub bytes_within : (limit m n : ℕ) → chain_bytes limit m n ≤ n
unfolding chain_bytes
bytes_within limit m n = omega arith

-- nor than its packets hold
pub bytes_hold : (limit m n : ℕ) → chain_bytes limit m n ≤ chain_packets limit m n * m
unfolding chain_bytes
bytes_hold limit m n = omega arith

-- the packets before the last are filled
pub full_packets : (limit m n : ℕ) → (chain_packets limit m n - 1) * m ≤ chain_bytes limit m n
unfolding chain_packets chain_bytes
full_packets limit m n = split m 0 (λ z. none z) (λ h. some h (min limit (max 1 (div_ceil n m))) refl)
  where
    none : m ≤ 0 → (min limit (max 1 (div_ceil n m)) - 1) * m ≤ min n (min limit (max 1 (div_ceil n m)) * m)
    none z = let e : m ≡ 0 = omega arith in rw e (omega arith)

    some : 0 < m → (c : ℕ) → c ≡ min limit (max 1 (div_ceil n m)) → (c - 1) * m ≤ min n (c * m)
    some h zero e = let z : 0 - 1 ≡ 0 = omega arith in rw z (omega arith)
    some h (suc zero) e = let z : suc zero - 1 ≡ 0 = omega arith in rw z (omega arith)
    some h (suc (suc c)) e =
        let z : suc (suc c) - 1 ≡ suc c = omega arith in
        let below : suc c < div_ceil n m = omega arith in
        rw z (omega (arith, below_ceil n m (suc c) h below))

-- and the last has the rest: what the controller sends is what the chain counts
pub last_has_rest : (limit m own : ℕ) (t : Transfer) → ((in_chain limit m own t).packets - 1) * m + (in_chain limit m own t).last ≡ (in_chain limit m own t).bytes
last_has_rest limit m own t = omega (arith, full_packets limit m (left t))

-- a packet at most
pub last_within : (limit m own : ℕ) (t : Transfer) → 0 < limit → (in_chain limit m own t).last ≤ m
last_within limit m own t h =
    let n = left t in
    omega (arith, bytes_hold limit m n, one_more (chain_packets limit m n) m (packets_some limit m n h))

-- a transfer that has handed over a chain isn't past its end
pub sent_within : (limit m own : ℕ) (t : Transfer) → t.progress ≤ t.length → (sent t (in_chain limit m own t)).progress ≤ t.length
sent_within limit m own t h = omega (arith, bytes_within limit m (left t))

-- where a transfer stands in memory below 2^32 its place isn't wrapped
pub place_is : (t : Transfer) → t.progress ≤ t.length → t.address + t.length < 2 ^ 32 → place t ≡ t.address + t.progress
place_is t h b = omega arith

-- OUT: whole packets have come, and whole packets are missing, one at least
pub record Whole (m : ℕ) (t : Transfer) : Type 0 where
  pub size : 0 < m
  pub past : ℕ
  pub rest : ℕ
  pub is_past : t.progress ≡ past * m
  pub is_all : t.length ≡ (past + rest) * m
  pub some : 0 < rest

-- from the remainders
pub whole_of : (m : ℕ) (t : Transfer) → 0 < m → t.length % m ≡ 0 → t.progress % m ≡ 0 → t.progress < t.length → Whole m t
whole_of m t hm hl hp h =
    let p = t.progress in
    let l = t.length in
    let more : p / m < l / m = split (l / m) (p / m) (λ k. absurd (omega (arith, mul-le-mul_right m k, div-add-mod' l m, div-add-mod' p m))) (λ k. k) in
    let sum : p / m + (l / m - p / m) ≡ l / m = omega arith in
    record {
      size = hm;
      past = p / m;
      rest = l / m - p / m;
      is_past = omega (arith, div-add-mod' p m);
      is_all = rw sum (omega (arith, div-add-mod' l m));
      some = omega arith;
    }

module _ (m : ℕ) (t : Transfer) (W : Whole m t) where
  -- and back
  pub whole_progress : t.progress % m ≡ 0
  whole_progress = rw W.is_past (mul-mod_left W.past m)

  left_is : left t ≡ W.rest * m
  left_is = omega (arith, W.is_past, W.is_all)

  -- every packet that the controller may fill belongs to the room
  packets_within : (limit : ℕ) → chain_packets limit m (left t) ≤ W.rest
  unfolding chain_packets
  packets_within limit =
      split (chain_packets limit m (left t)) W.rest (λ k. k)
      (λ k. let below : W.rest < div_ceil (left t) m = omega (arith, W.some) in
      absurd (omega (arith, below_ceil (left t) m W.rest W.size below, left_is)))

  -- and as many are asked for as are missing, up to the limit
  pub packets_exact : (limit : ℕ) → chain_packets limit m (left t) ≡ min limit W.rest
  unfolding chain_packets
  packets_exact limit =
      let before : (W.rest - 1) * m < left t = omega (arith, left_is, one_more W.rest m W.some, W.size) in
      omega (arith, packets_within limit, ceil_above (left t) m (W.rest - 1) W.size before, W.some)

  -- so the chain's packets hold no more than is left
  pub chain_fits : (limit : ℕ) → chain_packets limit m (left t) * m ≤ left t
  chain_fits limit = omega (arith, left_is, mul-le-mul_right m (packets_within limit))

  -- a report with the numbers p and n
  module _ (limit p n : ℕ) where
    counted : ℕ
    counted = min (chain_packets limit m (left t)) (max 1 p) - 1

    counted_less : counted < W.rest
    unfolding counted
    counted_less = omega (arith, packets_within limit, W.some)

    -- it never tells of more than is left
    pub report_fits : reported m (chain_packets limit m (left t)) p n ≤ left t
    unfolding counted
    report_fits = omega (arith, left_is, mul-le-mul_right m counted_less)

    -- so all of it is counted
    pub report_counted : (arrived limit m t p n).progress ≡ t.progress + reported m (chain_packets limit m (left t)) p n
    report_counted = omega (arith, report_fits)

    -- where the last packet was full and bytes are missing, whole packets are missing
    pub still_whole : m ≤ n → (arrived limit m t p n).progress < t.length → Whole m (arrived limit m t p n)
    unfolding counted
    still_whole full missing =
        let come : (arrived limit m t p n).progress ≡ (W.past + suc counted) * m = rw report_counted (omega (arith, W.is_past)) in
        let sum : W.past + suc counted + (W.rest - suc counted) ≡ W.past + W.rest = omega (arith, counted_less) in
        record {
          size = W.size;
          past = W.past + suc counted;
          rest = W.rest - suc counted;
          is_past = come;
          is_all = rw sum W.is_all;
          some = split W.rest (suc counted) (λ k. absurd (omega (arith, mul-le-mul_right m k, W.is_all))) (λ k. omega arith);
        }

-- the bytes that the controller moves for a chain
abbrev pub chain_moves : Bool → ℕ → Chain → ℕ
chain_moves true m k = (k.packets - 1) * m + k.last
chain_moves false m k = k.packets * m

-- bytes from dma on that begin where the transfer has come to and end within it
pub record Inside (dma bytes : ℕ) (t : Transfer) : Type 0 where
  pub begins : dma ≡ t.address + t.progress
  pub ends : dma + bytes ≤ t.address + t.length

-- a chain's bytes, unless it is empty, lie inside the transfer; those of OUT where it is one of whole packets
pub chain_inside : (limit : ℕ) (incoming : Bool) (x : Slot) → x.transfer.progress ≤ x.transfer.length → x.transfer.address + x.transfer.length < 2 ^ 32
    → (incoming ≡ false → Whole (slot_size x) x.transfer) → 0 < chain_moves incoming (slot_size x) (next_chain limit incoming x)
    → Inside (next_chain limit incoming x).dma (chain_moves incoming (slot_size x) (next_chain limit incoming x)) x.transfer
chain_inside limit false x within b whole some =
    let here = place_is x.transfer within b in
    record { begins = here; ends = omega (arith, here, chain_fits (slot_size x) x.transfer (whole refl) limit) }
chain_inside limit true x within b whole some =
    let t = x.transfer in
    let m = slot_size x in
    let n = chain_bytes limit m (left t) in
    let sum = last_has_rest limit m (own_buffer x).address t in
    let filled : eqb n 0 ≡ false = ne_eqb n 0 (λ z. omega (arith, sum, some, z)) in
    let here : (slot_chain limit x).dma ≡ t.address + t.progress = rw filled (place_is t within b) in
    record { begins = here; ends = omega (arith, here, sum, bytes_within limit m (left t)) }

one_packet : (limit m n : ℕ) → 0 < limit → chain_bytes limit m n ≡ 0 → chain_packets limit m n ≡ 1
unfolding chain_packets chain_bytes
one_packet limit m n h z =
    split n 0 (λ a. let e : n ≡ 0 = omega arith in omega (arith, ceil_none n m e))
    (λ a. split m 0 (λ b. let e : m ≡ 0 = omega arith in omega (arith, ceil_by_zero n m e))
    (λ b. absurd (omega (arith, one_more (chain_packets limit m n) m (packets_some limit m n h)))))

-- the empty chain is one packet of nothing, from the endpoint's own buffer
pub empty_chain : (limit m own : ℕ) (t : Transfer) → 0 < limit → (in_chain limit m own t).bytes ≡ 0
    → in_chain limit m own t ≡ record { dma = own; packets = 1; bytes = 0; last = 0; progress = t.progress }
empty_chain limit m own t h z =
    let one = one_packet limit m (left t) h z in
    let last : 0 - (1 - 1) * m ≡ 0 = omega arith in
    rw (one, z, last, add-zero t.progress)
