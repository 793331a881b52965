-- A call's operations by what its tests come to: a refused one has none.
-- Assumes nothing.
use Rattle.std.specs.Prelude.{ℕ, Bool, ◌≡◌, refl, Ok, Err}
use Rattle.state.specs.declared.State.{State}
use Rattle.state.specs.declared.Events.{Events}
use Rattle.state.specs.declared.Refusal.{Refusal}
use Rattle.state.specs.Refusals.{Check}
use Rattle.state_call.specs.Outcome.{Outcome, or_else, unless}
use Rattle.history_ops.specs.Recorded.{none, recorded, Silent}
use Rattle.history_ops.specs.Held.{Moves, Keeps}
use Rattle.history_ops.specs.Touched.{Quiet}
use Rattle.history_ops.proofs.RecordedLaws.{silent_none}
use Rattle.history_ops.proofs.HeldLaws.{stays_none, keeps_none, moves_still}

module _ {A : Type 0} (refused : Refusal → A) (c : Check) (s : State) (v : Events) (o : Outcome A) where
  pub unless_recorded : (incoming : Bool) (e : ℕ) → recorded incoming e (unless refused c s v o).ops ≡ or_else c (λ r. none) (recorded incoming e o.ops)
  unfolding or_else
  unless_recorded incoming e = go c
    where
      go : (k : Check) → recorded incoming e (unless refused k s v o).ops ≡ or_else k (λ r. none) (recorded incoming e o.ops)
      go (Ok u) = refl
      go (Err r) = silent_none incoming e

  pub unless_moves : (a b : ℕ) → Moves a b o.ops → Moves a (or_else c (λ r. a) b) (unless refused c s v o).ops
  unfolding or_else
  unless_moves a b m = go c
    where
      go : (k : Check) → Moves a (or_else k (λ r. a) b) (unless refused k s v o).ops
      go (Ok u) = m
      go (Err r) = moves_still (stays_none a)

  pub unless_silent : Silent o.ops → Silent (unless refused c s v o).ops
  unfolding or_else
  unless_silent h = go c
    where
      go : (k : Check) → Silent (unless refused k s v o).ops
      go (Ok u) = h
      go (Err r) = silent_none

  pub unless_keeps : Keeps o.ops → Keeps (unless refused c s v o).ops
  unfolding or_else
  unless_keeps h = go c
    where
      go : (k : Check) → Keeps (unless refused k s v o).ops
      go (Ok u) = h
      go (Err r) = keeps_none

  pub unless_quiet : Quiet o.ops → Quiet (unless refused c s v o).ops
  unless_quiet h = record { silent = unless_silent h.silent; keeps = unless_keeps h.keeps }
