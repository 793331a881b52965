-- A step by its parts is the step on the state.
-- Assumes nothing.
use Rattle.std.specs.Prelude.{ℕ, Bool, true, false, ◌≡◌, refl}
use Rattle.base.specs.EachLaws.{set_own}
use Rattle.state.specs.declared.State.{State}
use Rattle.state.specs.Fresh.{fresh_slot, slot_at}
use Rattle.state.specs.Setters.{with_slot, with_wake, limit_of}
use Rattle.transfer_window.specs.Window.{in_hand_count, window_of, out_window}
use Rattle.transfer_step.specs.declared.Step.{Step}
use Rattle.transfer_step.specs.declared.Step.TheVariants.{Ignored, GoesOn, Completes}
use Rattle.transfer_report.specs.Report.{state_after, ops_after, slots_counted}
use Rattle.transfer_step.specs.Step.{slot_after, wake_after, list_after}

-- slot and set, stored
pub stored_after : (s : State) (i : ℕ) (incoming : Bool) (step : Step)
    → with_wake (with_slot s i (slot_after (limit_of s) incoming (slot_at s i) step)) (wake_after s.wake i step) ≡ state_after s i incoming step
stored_after s i incoming Ignored = rw (set_own s.endpoints i fresh_slot)
stored_after s i incoming (GoesOn y) = refl
stored_after s i incoming (Completes y) = refl

-- the list is that of the state's own window
pub list_after_lem : (s : State) (e : ℕ) (incoming : Bool) (step : Step)
    → list_after (limit_of s) (window_of (in_hand_count s (slots_counted incoming))) e incoming step ≡ ops_after s e incoming step
unfolding out_window
list_after_lem s e true Ignored = refl
list_after_lem s e true (GoesOn y) = refl
list_after_lem s e true (Completes y) = refl
list_after_lem s e false Ignored = refl
list_after_lem s e false (GoesOn y) = refl
list_after_lem s e false (Completes y) = refl

-- of IN it hangs on no window
pub list_in : (limit window other e : ℕ) (step : Step) → list_after limit window e true step ≡ list_after limit other e true step
list_in limit window other e Ignored = refl
list_in limit window other e (GoesOn y) = refl
list_in limit window other e (Completes y) = refl
