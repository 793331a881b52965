-- Parts of what is asked of rows, where each is so by computing.
-- Assumes nothing.
use Rattle.std.specs.Prelude.{ℕ, zero, suc, ◌≡◌, refl}
use Rattle.history_ops.specs.Recorded.{none}

-- n rows that record nothing and are nothing to the slot, and what comes behind them
abbrev pub Silent : ℕ → Type 0 → Type 0
Silent zero T = T
Silent (suc n) T = (none ≡ none) × Silent n T

pub silent : (n : ℕ) {T : Type 0} → T → Silent n T
silent zero t = t
silent (suc n) t = (refl, silent n t)

-- an interrupt up to the transfer status
pub quiet : {T : Type 0} → T → (none ≡ none) × ((none ≡ none) × ((none ≡ none) × T))
quiet t = (refl, (refl, (refl, t)))

-- and one of OUT up to the last length
pub long : {T : Type 0} → T → (none ≡ none) × ((none ≡ none) × ((none ≡ none) × ((none ≡ none) × ((none ≡ none) × T))))
long t = quiet (refl, (refl, t))

-- behind them
pub past_quiet : {A B C T : Type 0} → A × (B × (C × T)) → T
past_quiet h = h.1.1.1

pub past_long : {A B C D E T : Type 0} → A × (B × (C × (D × (E × T)))) → T
past_long h = h.1.1.1.1.1
