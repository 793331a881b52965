-- Operations for one number after the other, as a loop writes them.
-- Assumes nothing.
use Rattle.std.specs.Prelude.{ℕ, zero, suc, ◌+◌, ◌*◌, ◌≤◌, ◌≡◌, List, length}
use Rattle.std.proofs.Common.{suc-mul, add-one, arith, length-append}
use Rattle.ops.specs.Ops.{Op, flat}
use Rattle.ops.specs.OpsLaws.{flat_append}
use Rattle.ops.specs.Wrote.{Wrote}
use Rattle.ops.specs.WroteLaws.{◌▹◌, none}
use Rattle.ops.specs.Sequence.{up_to}

pub up_to_start : (each : ℕ → List Op) (l : List ℕ) (at : ℕ) → Wrote l at (up_to each 0) at l
unfolding up_to
up_to_start each l at = none l at

pub up_to_next : {l l₁ l₂ : List ℕ} {i j k : ℕ} (each : ℕ → List Op) (n : ℕ) → Wrote l i (up_to each n) j l₁
    → Wrote l₁ j (each (n + 1)) k l₂ → Wrote l i (up_to each (n + 1)) k l₂
unfolding up_to
up_to_next each n before this = rw (add-one n) (before ▹ (rw (add-one n) at this))

pub up_to_length : (each : ℕ → List Op) (size : ℕ) → ((n : ℕ) → length (flat (each n)) ≡ size) → (n : ℕ)
    → length (flat (up_to each n)) ≡ n * size
unfolding up_to
up_to_length each size known zero = omega arith
up_to_length each size known (suc n) =
    let a = up_to each n in
    let b = each (suc n) in
    rw (flat_append a b, length-append (flat a) (flat b)) (omega (arith, known (suc n), up_to_length each size known n, suc-mul n size))

-- where each takes a size at most
pub up_to_most : (each : ℕ → List Op) (size : ℕ) → ((n : ℕ) → length (flat (each n)) ≤ size) → (n : ℕ)
    → length (flat (up_to each n)) ≤ n * size
unfolding up_to
up_to_most each size known zero = omega arith
up_to_most each size known (suc n) =
    let a = up_to each n in
    let b = each (suc n) in
    rw (flat_append a b, length-append (flat a) (flat b)) (omega (arith, known (suc n), up_to_most each size known n, suc-mul n size))
