-- The name of a number, in a table and stored.
-- Assumes nothing.
use Rattle.std.specs.Prelude.{ℕ, zero, suc, ◌+◌, ◌≤◌, ◌<◌, ◌≡◌, refl, List, [], ◌∷◌, T, length, get_or, take, set}
use Prim.Native.String.{String}
use Rattle.std.specs.Borrow.{Bor}
use Rattle.std.proofs.Common.{arith, add-one, take-suc}
use Rattle.ops.specs.Stores.{Stored}
use Rattle.ops.specs.StoresLaws.{next, stored_same}
use Rattle.tool_rows.specs.Bytes.{bytes, name_of}
use Rattle.tool_rows.specs.Rows.{name_at, right}
use Rattle.tool_rows.specs.RowsLaws.{named_at}

pub past_rows : (rows : List (Bor (List ℕ))) (n : ℕ) → length rows ≤ n → [] ≡ name_at rows n
unfolding name_at
past_rows [] n h = refl
past_rows (name ∷ rows) zero h = absurd (omega (arith, h))
past_rows (name ∷ rows) (suc n) h = past_rows rows n (omega (arith, h))

-- what the test of a table from number i on shows of its number k
pub row_at : (names : List (ℕ × String)) (rows : List (Bor (List ℕ))) (i k : ℕ) →
    T (right names i rows) → name_at rows k ≡ bytes (name_of (i + k) names)
row_at names rows i k t = named_at names rows i k t

-- one byte of a name more
pub byte_more : {l l' : List ℕ} {i : ℕ} (name : List ℕ) (n : ℕ) → n < length name →
    Stored l i (take n name) (i + n) l' → Stored l i (take (n + 1) name) (i + (n + 1)) (set l' (i + n) (get_or name n 0))
byte_more name n h run = rw (add-one n, take-suc name n 0 h, ← add-one n) (next n (get_or name n 0) run)

-- what the test of a whole table shows: whoever stores what stands at a number stores the number's name
pub rows_named : {l l' : List ℕ} {i k : ℕ} (names : List (ℕ × String)) (rows : List (Bor (List ℕ))) (n : ℕ) →
    Stored l i (name_at rows n) k l' → T (right names 0 rows) → Stored l i (bytes (name_of n names)) k l'
rows_named names rows n s t =
    let e : 0 + n ≡ n = omega arith in
    stored_same (rw e at (row_at names rows 0 n t)) s
