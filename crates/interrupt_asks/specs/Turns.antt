-- What a reading comes to.
-- Assumes nothing.
use Rattle.std.specs.Prelude.{List, ◌≡◌, Result, Ok, Err}
use Rattle.ops.specs.Ops.{Op}
use Rattle.ops.specs.Lists.{Adds}
use Rattle.ops.specs.declared.OpList.{OpList}
use Rattle.state.specs.declared.Awaited.{Awaited}
use Rattle.state.specs.declared.Refusal.{Refusal}
use Rattle.state.specs.Refusals.{Condition, first_refusal}
use Rattle.interrupt_asks.specs.declared.Turn.{Turn}

-- what it leaves of what it may change, what is awaited behind it, and what is written
pub record Heard (E : Type 0) : Type 0 where
  pub effect : E
  pub awaited : Awaited
  pub ops : List Op

-- a call's turn has what is heard, and the list has the operations
abbrev pub Hears : {E : Type 0} → OpList → Heard E → Turn E → OpList → Type 0
Hears l h t l' = (t.effect ≡ h.effect) × ((t.awaited ≡ h.awaited) × Adds l h.ops l')

-- where none of its conditions is due, the reading is heard; else it is refused, and nothing is written
abbrev pub Takes : {E : Type 0} → OpList → List Condition → Heard E → Result (Turn E) Refusal → OpList → Type 0
Takes l own h (Ok t) l' = (first_refusal own ≡ Ok tt) × Hears l h t l'
Takes l own h (Err r) l' = (first_refusal own ≡ Err r) × (l' ≡ l)
