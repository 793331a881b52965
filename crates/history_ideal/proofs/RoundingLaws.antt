-- What a quotient that is rounded up comes to, beside the laws of its crate.
-- Assumes nothing.
use Rattle.std.specs.Prelude.{ℕ, zero, suc, ◌+◌, ◌*◌, ◌-◌, ◌<◌, ◌≤◌, ◌≡◌}
use Rattle.std.proofs.Common.{lt_of_not-le, arith}
use Rattle.std.proofs.Math.Decide.{dec_le}
use Rattle.base.specs.Ceil.{div_ceil}
use Rattle.base.specs.CeilLaws.{below_ceil, ceil_above}

-- a number is at most another, or above it
pub split {ℓ} : {X : Type ℓ} (a b : ℕ) → (a ≤ b → X) → (b < a → X) → X
split a b f g = elim (dec_le a b) [ yes h ↦ f h | no h ↦ g (lt_of_not-le h) ]

-- a product with its last addend apart
pub one_more : (c m : ℕ) → 0 < c → c * m ≡ (c - 1) * m + m
one_more zero m h = omega arith
one_more (suc c) m h = let e : suc c - 1 ≡ c = omega arith in rw e (omega arith)

module _ (n m : ℕ) (some : 0 < m) where
  -- no more than the parts that hold n
  pub ceil_within : (k : ℕ) → n ≤ k * m → div_ceil n m ≤ k
  ceil_within k h = split (div_ceil n m) k (λ g. g) (λ g. let z = below_ceil n m k some g in omega arith)

  -- as many parts of m as n needs hold n
  pub ceil_covers : n ≤ div_ceil n m * m
  ceil_covers = split n (div_ceil n m * m) (λ g. g) (λ g. let z = ceil_above n m (div_ceil n m) some g in omega arith)

-- q parts hold q whole ones
pub ceil_exact : (q m : ℕ) → 0 < m → div_ceil (q * m) m ≡ q
ceil_exact zero m some = omega (arith, ceil_within (zero * m) m some 0 (omega arith))
ceil_exact (suc q) m some = omega (arith, ceil_within (suc q * m) m some (suc q) (omega arith), ceil_above (suc q * m) m q some (omega arith))
