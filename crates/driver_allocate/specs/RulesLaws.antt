-- The lowest endpoint that is free, and sizes that fit.
-- Assumes nothing.
use Rattle.std.specs.Prelude.{ℕ, zero, suc, ◌+◌, ◌*◌, ◌<◌, ◌≤◌, Bool, true, false, ◌&&◌, cond, ◌≡◌, refl, eqb, Option, Some, None, MatchOption}
use Rattle.std.proofs.Common.{sym, mul-le-mul, arith, eqb-true, ne_eqb}
use Rattle.std.proofs.lemmas.Bool.{eqb-false}
use Rattle.state_slots.specs.Slots.{slot_number}
use Rattle.base.specs.BitsLaws.{bit_small}
use Rattle.driver_allocate.specs.Rules.{lowest, found}

-- a burst of packets is short of 16 MiB
pub size_small : (m b : ℕ) → m < 65536 → b < 256 → m * (b + 1) < 16777216
size_small m b h k =
    let p : m ≤ 65535 = omega arith in
    let q : b + 1 ≤ 256 = omega arith in
    omega (arith, mul-le-mul p q)

lowest_step : (b : Bool) (n k : ℕ) → k ≤ n → cond b (suc n) k ≤ suc n
lowest_step true n k h = omega arith
lowest_step false n k h = omega (arith, h)

pub lowest_most : (p : ℕ → Bool) (n : ℕ) → lowest p n ≤ n
unfolding lowest
lowest_most p zero = omega arith
lowest_most p (suc n) = lowest_step (eqb (lowest p n) 0 && p (suc n)) n (lowest p n) (lowest_most p n)

-- the first that p is true of is the lowest; 0 where it is true of none
pub lowest_nothing : (p : ℕ → Bool) (n : ℕ) → ((j : ℕ) → 1 ≤ j → j < suc n → p j ≡ false) → lowest p n ≡ 0
unfolding lowest
lowest_nothing p zero none = refl
lowest_nothing p (suc n) none = rw (lowest_nothing p n (λ j h k. none j h (omega (arith, k))), none (suc n) (omega arith) (omega arith))

pub lowest_first : (p : ℕ → Bool) (n k : ℕ) → 1 ≤ k → k < suc n → p k ≡ true → ((j : ℕ) → 1 ≤ j → j < k → p j ≡ false) → lowest p n ≡ k
unfolding lowest
lowest_first p zero k h b t none = absurd (omega (arith, h, b))
lowest_first p (suc n) k h b t none = go (eqb k (suc n)) refl (λ (l : k < suc n). lowest_first p n k h l t none)
  where
    go : (c : Bool) → eqb k (suc n) ≡ c → (k < suc n → lowest p n ≡ k) → lowest p (suc n) ≡ k
    go true e below =
        let last : k ≡ suc n = eqb-true k (suc n) e in
        rw (lowest_nothing p n (λ j l m. none j l (omega (arith, m, last))), sym last, t)
    go false e below = rw (below (omega (arith, b, eqb-false k (suc n) e)), ne_eqb k 0 (λ z. omega (arith, h, z)))

-- a search through 1, 2, .., n finds it
pub found_lowest : (p : ℕ → Bool) (n : ℕ) (r : Option ℕ)
    → MatchOption r ((j : ℕ) → 1 ≤ j → j < suc n → p j ≡ false) (λ k. (1 ≤ k) × (k < suc n) × (p k ≡ true) × ((j : ℕ) → 1 ≤ j → j < k → p j ≡ false)) → r ≡ found (lowest p n)
found_lowest p n None none = rw (lowest_nothing p n none)
found_lowest p n (Some zero) h = absurd (omega (arith, h.0))
found_lowest p n (Some (suc k)) h = rw (lowest_first p n (suc k) h.0 h.1 h.2 h.3)

pub found_none : (n : ℕ) → found n ≡ None → n ≡ 0
found_none zero e = refl
found_none (suc n) e = absurd (cc)

pub found_some : (n k : ℕ) → found n ≡ Some k → (n ≡ k) × (0 < k)
found_some zero k e = absurd (cc)
found_some (suc n) k e = let h : suc n ≡ k = cc in (h, omega (arith, h))

-- slots of the endpoints 0 to 7 are among the sixteen
pub slot_small : (e : ℕ) (b : Bool) → e ≤ 7 → slot_number e b < 16
slot_small e b h = omega (arith, bit_small b)
