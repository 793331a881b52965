-- A run of numbers stored in a list, one after the other.
-- Assumes nothing.
use Rattle.std.specs.Prelude.{ℕ, ◌+◌, ◌≡◌, List, length}
use Rattle.std.proofs.lemmas.List.Edits.{sets}

-- `l` became `l'`: from `at` up to `r` it has `vs`, and else what it had
pub record Stored (l : List ℕ) (at : ℕ) (vs : List ℕ) (r : ℕ) (l' : List ℕ) : Type 0 where
  pub end : r ≡ at + length vs
  pub list : l' ≡ sets l at vs
