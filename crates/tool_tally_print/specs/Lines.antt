-- The lines that tallies are printed in.
-- Assumes nothing.
use Rattle.std.specs.Prelude.{ℕ, List, [], ◌∷◌, ◌++◌, codes, decimal}
use Rattle.state.specs.declared.Tally.{Tally}
use Rattle.tool_print.specs.Text.{tab, line_feed, row}

-- what stands over the tallies
abbrev pub header_text : List ℕ
header_text = codes "slot" ++ tab ++ codes "begun" ++ tab ++ codes "finished" ++ tab ++ codes "cut" ++ tab ++ codes "bytes" ++ line_feed

-- the tally of slot i
abbrev pub tally_text : ℕ → Tally → List ℕ
tally_text i tally = row (decimal i) (tally.begun ∷ tally.finished ∷ tally.cut ∷ tally.bytes ∷ [])
