-- How many chains a transfer to the host has, and how many packets a chain.
-- Assumes nothing.
use Rattle.std.specs.Prelude.{ℕ, suc, ◌*◌, ◌-◌, ◌<◌, ◌≤◌, min, max, Bool, true, false, cond, ◌||◌, ◌==◌, ◌≡◌}
use Rattle.std.proofs.Common.{mul-le-mul_right, arith, le-ltb, lt-ltb, ne_eqb, eq-eqb}
use Rattle.std.proofs.Math.Bool.{and-false}
use Rattle.base.specs.Ceil.{div_ceil}
use Rattle.base.specs.CeilLaws.{ceil_above}
use Rattle.history_ideal.specs.Ideal.{full, chain_count}
use Rattle.history_ideal.proofs.RoundingLaws.{split, ceil_within, ceil_covers, ceil_exact}

module _ (lim : ℕ) (one : 0 < lim) (m : ℕ) (pos : 0 < m) where
  -- the packets of a chain with n bytes left: those that its own bytes need, and one where nothing is left
  pub packets_some : (n : ℕ) → 0 < n → min lim (max 1 (div_ceil n m)) ≡ div_ceil (min n (full lim m)) m
  unfolding full
  packets_some n h =
      split n (lim * m)
      (λ g. let e : min n (lim * m) ≡ n = omega (arith, g) in rw e (omega (arith, ceil_within n m pos lim g, ceil_above n m 0 pos (omega (arith, h)))))
      (λ g.
      let e : min n (lim * m) ≡ lim * m = omega (arith, g) in
      rw (e, ceil_exact lim m pos) (omega (arith, ceil_above n m lim pos g)))

  pub packets_none : min lim (max 1 (div_ceil 0 m)) ≡ 1
  packets_none = omega (arith, ceil_within 0 m pos 0 (omega arith), one)

module _ (lim : ℕ) (one : 0 < lim) (m l : ℕ) (pos : 0 < m) where
  pub full_some : 0 < full lim m
  unfolding full
  full_some = let k = mul-le-mul_right m one in omega (arith, k)

  pub count_some : (f : Bool) → 0 < chain_count lim m l f
  unfolding chain_count
  count_some f = omega arith

  -- N full chains have room for all bytes
  pub count_covers : (f : Bool) (k : ℕ) → chain_count lim m l f ≤ k → l ≤ k * full lim m
  unfolding chain_count
  count_covers f k h =
      let least : div_ceil l (full lim m) ≤ k = omega (arith, h) in
      omega (arith, ceil_covers l (full lim m) full_some, mul-le-mul_right (full lim m) least)

  -- N, if there are no bytes, and else by the flag
  pub count_none : (f : Bool) → l ≤ 0 → chain_count lim m l f ≡ suc 0
  unfolding chain_count
  count_none f h = rw (le-ltb 0 l h, and-false f) (omega (arith, ceil_within l (full lim m) full_some 0 (omega (arith, h))))

  pub count_flag : 0 < l → chain_count lim m l true ≡ suc (div_ceil l (full lim m))
  unfolding chain_count
  count_flag h = rw (lt-ltb 0 l h) (omega (arith, ceil_above l (full lim m) 0 full_some (omega (arith, h))))

  pub count_clear : 0 < l → chain_count lim m l false ≡ suc (div_ceil l (full lim m) - 1)
  unfolding chain_count
  count_clear h = omega (arith, ceil_above l (full lim m) 0 full_some (omega (arith, h)))

  -- beyond the chains that have bytes
  pub count_zeros : (f : Bool) → chain_count lim m l f - div_ceil l (full lim m) ≡ cond (l == 0 || f) 1 0
  count_zeros f =
      split l 0 (λ h. rw (count_none f h, eq-eqb l 0 (omega (arith, h))) (omega (arith, ceil_within l (full lim m) full_some 0 (omega (arith, h)))))
      (λ h. rw (ne_eqb l 0 (λ e. omega (arith, e, h))) (go h f))
    where
      go : 0 < l → (g : Bool) → chain_count lim m l g - div_ceil l (full lim m) ≡ cond g 1 0
      go h true = rw (count_flag h) (omega arith)
      go h false = rw (count_clear h) (omega (arith, ceil_above l (full lim m) 0 full_some (omega (arith, h))))
