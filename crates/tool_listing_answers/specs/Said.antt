-- What the listing says of a line besides its records.
-- Assumes nothing.
use Rattle.std.specs.Prelude.{ℕ, List, [], ◌∷◌, ◌++◌, Option, Some, None, codes, decimal}
use Rattle.state.specs.declared.Refusal.{Refusal}
use Rattle.state.specs.Numbers.{refusal_number}
use Rattle.tool_print.specs.Text.{tab, line_feed, row}

-- a call is refused, or, by 0, a line that can't be read
abbrev pub refused_text : Option Refusal → List ℕ
refused_text None = row (codes "refused") (0 ∷ [])
refused_text (Some refusal) = row (codes "refused") (refusal_number refusal ∷ [])

-- how far a transfer came
abbrev pub done_text : ℕ → ℕ → List ℕ
done_text index progress = codes "0" ++ tab ++ codes "done" ++ tab ++ decimal index ++ tab ++ codes "progress" ++ tab ++ decimal progress ++ line_feed
