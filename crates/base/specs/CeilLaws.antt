-- Division that rounds up: the division that the code makes, and what the quotient holds.
-- Assumes nothing.
use Rattle.std.specs.Prelude.{ℕ, zero, suc, ◌+◌, ◌*◌, ◌-◌, ◌/◌, ◌<◌, ◌≤◌, ◌≡◌}
use Rattle.std.proofs.Common.{sym, le-div_iff_mul-le, arith}
use Rattle.std.proofs.Math.Nat.{add-div_right, div-zero, div-eq_of_lt}
use Rattle.base.specs.Ceil.{div_ceil}

-- the division that the code makes
pub ceil_some : (n m : ℕ) → 0 < n → 0 < m → (n - 1) / m + 1 ≡ div_ceil n m
unfolding div_ceil
ceil_some n m h b =
    let e : n + (m - 1) ≡ n - 1 + m = omega arith in
    rw e (sym (add-div_right (n - 1) b))

pub ceil_none : (n m : ℕ) → n ≡ 0 → 0 ≡ div_ceil n m
unfolding div_ceil
ceil_none n zero h = sym (div-zero (n + 0))
ceil_none n (suc m) h = sym (div-eq_of_lt (omega (arith, h)))

pub ceil_by_zero : (n m : ℕ) → m ≡ 0 → 0 ≡ div_ceil n m
unfolding div_ceil
ceil_by_zero n m h = rw h (sym (div-zero (n + 0)))

-- fewer parts of m than n needs come to less than n, and the reverse
pub below_ceil : (n m k : ℕ) → 0 < m → k < div_ceil n m → k * m < n
unfolding div_ceil
below_ceil n m k h b = let g : suc k * m ≤ n + (m - 1) = (le-div_iff_mul-le h).0 b in omega arith

pub ceil_above : (n m k : ℕ) → 0 < m → k * m < n → k < div_ceil n m
unfolding div_ceil
ceil_above n m k h b = (le-div_iff_mul-le h).1 (omega arith)
