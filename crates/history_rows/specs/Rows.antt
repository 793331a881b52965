-- A history: a row for each call, with the world that it was made in. Each call gets the world that the last one left.
-- Assumes nothing.
use Rattle.std.specs.Prelude.{List, [], ◌∷◌}
use Rattle.state_call.specs.Outcome.{Outcome}
use Rattle.usbss.specs.Call.{World, Call, Answers}
use Rattle.usbss.specs.Step.{step}

pub record Row : Type 0 where
  pub world : World
  pub call : Call
  pub outcome : Outcome (Answers call)

-- the world that a call leaves
abbrev pub left_by : {A : Type 0} → Outcome A → World
left_by o = record { state = o.state; events = o.events }

unfoldable pub rows : World → List Call → List Row
rows w [] = []
rows w (c ∷ cs) = record { world = w; call = c; outcome = step w c } ∷ rows (left_by (step w c)) cs

unfoldable pub final : World → List Call → World
final w [] = w
final w (c ∷ cs) = final (left_by (step w c)) cs
