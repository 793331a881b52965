-- Two things are apart where a number of theirs differs.
-- Assumes nothing.
use Rattle.std.specs.Prelude.{ℕ, false, ◌≡◌, length, get_or, eqb, Some, None, Ok, Err}
use Rattle.std.proofs.Common.{ap, sym, ◌∙◌, eq-eqb}
use Rattle.base.specs.EachLaws.{true_not_false}
use Rattle.history_ops.specs.Recorded.{Recorded}
use Rattle.history_effect.specs.Seen.{Told}

pub apart : {A : Type 0} {x y : A} (f : A → ℕ) → x ≡ y → eqb (f x) (f y) ≡ false → ⊥
apart f e d = true_not_false (sym (eq-eqb _ _ (ap f e)) ∙ d)

-- how many chains are recorded, where the first one begins, and how many packets it has
abbrev pub count : Recorded → ℕ
count k = length k.dma

abbrev pub place : Recorded → ℕ
place k = get_or k.dma 0 0

abbrev pub packets : Recorded → ℕ
packets k = get_or k.packets 0 0

-- the bytes that a take tells, if it does
abbrev pub bytes : Told → ℕ
bytes (Err r) = 0
bytes (Ok None) = 0
bytes (Ok (Some n)) = n
