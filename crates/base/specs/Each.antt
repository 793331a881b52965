-- Every one of the first n numbers, and lists that have an entry for each.
-- Assumes nothing.
use Rattle.std.specs.Prelude.{ℕ, zero, suc, ◌+◌, Bool, true, ◌&&◌, List, [], ◌∷◌}
use Rattle.base.specs.Bits.{bit}

-- whether p is true of 0, 1, .., n - 1
unfoldable pub every : (ℕ → Bool) → ℕ → Bool
every p zero = true
every p (suc n) = every p n && p n

-- how many of 0, 1, .., n - 1 it is true of
unfoldable pub count : (ℕ → Bool) → ℕ → ℕ
count p zero = 0
count p (suc n) = count p n + bit (p n)

-- whether all of a list is true
abbrev pub all_true : List Bool → Bool
all_true [] = true
all_true (b ∷ bs) = b && all_true bs

-- the first n entries of a list, the first of which has number k, each changed by f
unfoldable pub change_from : {A : Type 0} → ℕ → (ℕ → A → A) → ℕ → List A → List A
change_from k f zero l = l
change_from k f (suc n) [] = []
change_from k f (suc n) (x ∷ l) = f k x ∷ change_from (suc k) f n l

abbrev pub change : {A : Type 0} → (ℕ → A → A) → ℕ → List A → List A
change f n l = change_from 0 f n l
