-- The line that says which bytes a call copied (docs/REPLAY.md, "What is printed").
-- Assumes nothing.
use Rattle.std.specs.Prelude.{ℕ, List, [], ◌∷◌, Option, Some, None, cond, eqb, length, take, codes}
use Rattle.tool_patterns.specs.Patterns.{sum_of}
use Rattle.tool_print.specs.Text.{row}

-- from where, to where, how many bytes and their sum
abbrev pub copy_text : ℕ → ℕ → List ℕ → List ℕ
copy_text from to bytes = row (codes "copy") (from ∷ to ∷ length bytes ∷ sum_of bytes ∷ [])

-- of no bytes nothing is told
abbrev pub told : ℕ → ℕ → List ℕ → Option (List ℕ)
told from to bytes = cond (eqb (length bytes) 0) None (Some (copy_text from to bytes))

-- the first `count` of these bytes, or all if they are fewer
abbrev pub copied_text : ℕ → ℕ → List ℕ → ℕ → Option (List ℕ)
copied_text from to bytes count = told from to (take count bytes)
