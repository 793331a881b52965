-- The word of a line, found in the table.
-- Assumes nothing.
use Rattle.std.specs.Prelude.{ℕ, Bool, true, false, cond, List, [], ◌∷◌, Some, map, ◌≡◌, refl}
use Rattle.std.proofs.Common.{ap, sym, ◌∙◌}
use Rattle.tool_lines.specs.Line.{sameb}
use Rattle.tool_words.specs.declared.Meant.{Meant}
use Rattle.tool_words.specs.declared.Word.TheVariants.{Unfit}
use Rattle.tool_words.specs.Words.{◌taking◌, Row, rows, named, meaning_of}
use Rattle.tool_words.specs.Rows.{TableRow, Shown, seen, shown, meant_by, first_in, named_in, HasRows}

-- what the first of these says
abbrev said : List ℕ → List Shown → Meant
said word [] = Unfit taking 0
said word (row ∷ more) = cond (sameb word row.0) row.1 (said word more)

table_said : (word : List ℕ) (table : List TableRow) → named_in word table ≡ said word (map seen table)
unfolding named_in
table_said word [] = refl
table_said word (row ∷ table) = go (sameb word row.0.now) (table_said word table)
  where
    go : (t : Bool) → named_in word table ≡ said word (map seen table) →
        meant_by (cond t (Some row) (first_in word table)) ≡ cond t (row.1 taking row.2) (said word (map seen table))
    go true h = refl
    go false h = h

rows_said : (word : List ℕ) (rows : List Row) → named word rows ≡ said word (map shown rows)
rows_said word [] = refl
rows_said word (row ∷ more) = rw (rows_said word more)

-- the table says what the rows say
pub told : (word : List ℕ) (table : List TableRow) → HasRows table rows → named_in word table ≡ meaning_of word
unfolding meaning_of
told word table h = table_said word table ∙ ap (said word) h ∙ sym (rows_said word rows)
