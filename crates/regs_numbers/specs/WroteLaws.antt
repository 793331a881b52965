-- Rows and their records.
-- Assumes nothing.
use Rattle.std.specs.Prelude.{ℕ, ◌+◌, ◌<◌, ◌≡◌, refl, List, [], ◌∷◌, ◌++◌, length, get_or, take}
use Rattle.std.proofs.Common.{ap, ◌∙◌, sym, append_assoc, arith, add-one, take-suc}
use Rattle.ops.specs.Ops.{records}
use Rattle.regs_numbers.specs.Wrote.{row_record, row_records}

rows_append : (a b : List (List ℕ)) → row_records (a ++ b) ≡ row_records a ++ row_records b
rows_append [] b = refl
rows_append (row ∷ rows) b =
    ap (λ (l : List ℕ). row_record row ++ l) (rows_append rows b) ∙ sym (append_assoc (row_record row) (row_records rows) (row_records b))

-- the records of one row more
pub row_more : (rows : List (List ℕ)) (k : ℕ) → k < length rows
    → row_records (take k rows) ++ row_record (get_or rows k []) ≡ row_records (take (k + 1) rows)
row_more rows k h = rw (add-one k, take-suc rows k [] h) (sym (rows_append (take k rows) (get_or rows k [] ∷ [])))

-- a record for each row
pub rows_length : (rows : List (List ℕ)) → length (row_records rows) ≡ records (length rows)
rows_length [] = refl
rows_length (row ∷ rows) = omega (arith, rows_length rows)
