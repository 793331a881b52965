-- The address of the example's SET_ADDRESS, and histories in which it takes hold too early, or never, or over another one.
-- Assumes nothing.
use Rattle.std.specs.Prelude.{ℕ, zero, suc, List, [], ◌++◌, replicate, get_or, ◌≡◌, refl, Some, None}
use Rattle.std.proofs.Common.{arith}
use Rattle.regs_control.specs.Control.{address_ops}
use Rattle.control_report.specs.Ep0.{setup_ops, status_ops}
use Rattle.history_ops.specs.Held.{held_by, held, through, Moves}
use Rattle.history_memory.specs.Sequence.{behind_place, follows}
use Rattle.history_memory.specs.Remembered.{remembered, recall}
use Rattle.history_address.specs.Address.{bearing, holding, all_ops, Holds}
use Rattle.history_examples.specs.Example.{brought_up, address_rows, memory_behind}
use Rattle.history_examples.specs.Wrong.{on, address_right, early_address, no_address, detour}
use Rattle.history_examples.proofs.Computed.{computed}
use Rattle.history_examples.proofs.Passing.{past_quiet}
use Rattle.history_examples.proofs.Apart.{apart}

-- behind its SETUP it writes what the right history has
pub address_written : all_ops address_rows ≡ setup_ops ++ all_ops address_right
unfolding computed all_ops
address_written = refl

pub address_held : holding None 0 (memory_behind brought_up) address_rows ≡ 9
unfolding computed behind_place follows remembered recall bearing holding
address_held = refl

-- of no operations
unmoved : Moves 0 0 []
unfolding held through
unmoved = record { first = 0; others = 0; each = refl; end = refl }

-- the three operations of the accept leave it; of the four of the status stage the second gives it
pub address_right_holds : Holds None 0 on address_right
unfolding Holds bearing behind_place follows remembered held held_by through
address_right_holds = (
  record { first = 3; others = 0; each = refl; end = refl },
  (unmoved, (unmoved, (unmoved, (record { first = 1; others = 3; each = refl; end = refl }, tt)))),
)

pub early_address_refused : Holds None 0 on early_address → ⊥
unfolding Holds bearing held held_by
early_address_refused h = omega (arith, h.0.end)

pub no_address_refused : Holds None 0 on no_address → ⊥
unfolding Holds bearing behind_place follows remembered held held_by
no_address_refused h = omega (arith, (past_quiet h.1).0.end)

-- 5 is neither the address that was nor the one that is given
no_five : (first others : ℕ) → through 0 (address_ops 5 ++ status_ops (Some 9)) ≡ replicate first 0 ++ replicate others 9 → ⊥
unfolding through held_by
no_five zero zero h = apart (λ (l : List ℕ). get_or l 0 0) h refl
no_five zero (suc n) h = apart (λ (l : List ℕ). get_or l 0 0) h refl
no_five (suc k) n h = apart (λ (l : List ℕ). get_or l 0 0) h refl

-- at its end the right one is held,
pub detour_ends : holding None 0 on detour ≡ held 0 (all_ops detour)
unfolding holding bearing behind_place follows remembered held held_by all_ops
detour_ends = refl

-- and on the way there another one
pub detour_refused : Holds None 0 on detour → ⊥
unfolding Holds bearing behind_place follows remembered held_by through
detour_refused h = let m = (past_quiet h.1).0 in no_five m.first m.others m.each
