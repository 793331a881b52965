-- The fields that are left of a line.
-- Assumes nothing.
use Rattle.std.specs.Prelude.{ℕ, Bool, true, false, List, [], ◌∷◌, Option, Some, None, get_or}
use Rattle.std.specs.Borrow.{Bor}
use Rattle.tool_lines.specs.Line.{fields}

-- those of what is left, if something is
abbrev pub fields_from : Option (Bor (List ℕ)) → List (List ℕ)
fields_from None = []
fields_from (Some line) = fields line.now

abbrev pub first_field : List (List ℕ) → List ℕ
first_field fs = get_or fs 0 []

-- whether there is no field
unfoldable pub noneb : List (List ℕ) → Bool
noneb [] = true
noneb (f ∷ fs) = false
