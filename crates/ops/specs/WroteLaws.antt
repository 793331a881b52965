-- Operations written one after the other; rows and their records.
-- Assumes nothing.
use Rattle.std.specs.Prelude.{ℕ, ◌+◌, ◌<◌, ◌≡◌, refl, List, [], ◌∷◌, ◌++◌, length, get_or, take}
use Rattle.std.proofs.Common.{ap, ◌∙◌, sym, subst, append_assoc, arith, add-one, take-suc}
use Rattle.ops.specs.Ops.{Op, flat, records}
use Rattle.ops.specs.OpsLaws.{flat_append}
use Rattle.ops.specs.Stores.{Stored}
use Rattle.ops.specs.StoresLaws.{◌then◌, nothing, stored_length, stored_same}
use Rattle.ops.specs.Wrote.{Wrote, Row, row_record, row_records}

stored : {l l' : List ℕ} {i k : ℕ} {os : List Op} → Wrote l i os k l' → Stored l i (flat os) k l'
stored w = record { end = w.end; list = w.list }

wrote : {l l' : List ℕ} {i k : ℕ} (os : List Op) → Stored l i (flat os) k l' → Wrote l i os k l'
wrote os s = record { end = s.end; list = s.list }

-- operations, and then others where these end
infixr 60 ◌▹◌
pub ◌▹◌ : {l l₁ l₂ : List ℕ} {i j k : ℕ} {a b : List Op} → Wrote l i a j l₁ → Wrote l₁ j b k l₂ → Wrote l i (a ++ b) k l₂
◌▹◌ {a = a} {b = b} p q = wrote (a ++ b) (stored_same (sym (flat_append a b)) (stored p then stored q))

pub none : (l : List ℕ) (i : ℕ) → Wrote l i [] i l
none l i = wrote [] (nothing l i)

pub wrote_length : {l l' : List ℕ} {i k : ℕ} {os : List Op} → Wrote l i os k l' → length l' ≡ length l
wrote_length w = stored_length (stored w)

-- the same operations, said otherwise
pub same : {l l' : List ℕ} {i k : ℕ} {a b : List Op} → a ≡ b → Wrote l i a k l' → Wrote l i b k l'
same {l} {l'} {i} {k} e w = subst (λ (os : List Op). Wrote l i os k l') e w

rows_append : (a b : List Row) → row_records (a ++ b) ≡ row_records a ++ row_records b
rows_append [] b = refl
rows_append (row ∷ rows) b =
    ap (λ (l : List ℕ). row_record row ++ l) (rows_append rows b) ∙ sym (append_assoc (row_record row) (row_records rows) (row_records b))

-- the records of one row more
pub row_more : (rows : List Row) (k : ℕ) (d : Row) → k < length rows
    → row_records (take k rows) ++ row_record (get_or rows k d) ≡ row_records (take (k + 1) rows)
row_more rows k d h = rw (add-one k, take-suc rows k d h) (sym (rows_append (take k rows) (get_or rows k d ∷ [])))

-- a record for each row
pub rows_length : (rows : List Row) → length (row_records rows) ≡ records (length rows)
rows_length [] = refl
rows_length (row ∷ rows) = omega (arith, rows_length rows)
