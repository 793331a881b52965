-- The rows of two lists of calls, one behind the other, and the world that they leave.
-- Assumes nothing.
use Rattle.std.specs.Prelude.{◌≡◌, refl, List, [], ◌∷◌, ◌++◌}
use Rattle.std.proofs.Common.{ap}
use Rattle.usbss.specs.Call.{World, Call}
use Rattle.usbss.specs.Step.{step}
use Rattle.history_rows.specs.Rows.{Row, left_by, rows, final}

pub rows_split : (w : World) (before after : List Call) → rows w (before ++ after) ≡ rows w before ++ rows (final w before) after
unfolding rows final
rows_split w [] after = refl
rows_split w (c ∷ before) after = ap (λ (r : List Row). record { world = w; call = c; outcome = step w c } ∷ r) (rows_split (left_by (step w c)) before after)

pub final_split : (w : World) (before after : List Call) → final w (before ++ after) ≡ final (final w before) after
unfolding final
final_split w [] after = refl
final_split w (c ∷ before) after = final_split (left_by (step w c)) before after
