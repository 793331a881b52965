-- The slot of a transfer goes as the transfer should: from its begin on, report by report, with the progress and the result of the
-- ideal.
-- Assumes nothing.
use Rattle.std.specs.Prelude.{ℕ, ◌<◌, ◌≤◌, Bool, true, false, cond, not, ◌≡◌, refl, List, []}
use Rattle.state.specs.declared.Phase.TheVariants.{Busy, Done}
use Rattle.state.specs.declared.Slot.{Slot}
use Rattle.state_slots.specs.Slots.{idleb, busyb, slot_size}
use Rattle.transfer_piece.specs.declared.Piece.{Piece}
use Rattle.history_ideal.specs.Ideal.{Report}
use Rattle.history_ideal.specs.Plan.{Planned}
use Rattle.history_ideal.proofs.PlanLaws.{planned, not_yet, moved_within, moved_result}
use Rattle.history_follows.specs.Follows.{Fits, BeginFollows, ReportFollows, slot_ideal, slot_by}
use Rattle.history_follows.proofs.SendingLaws.{begin_sends, report_sends}
use Rattle.history_follows.proofs.ReceivingLaws.{begin_receives, report_receives}

module _ (lim : ℕ) (one : 0 < lim) where
  -- a begin that is accepted
  pub begin_follows : (incoming : Bool) (x : Slot) (p : Piece) → Fits incoming x p → BeginFollows lim incoming x p
  begin_follows true x p F = begin_sends lim one x p F
  begin_follows false x p F = begin_receives lim x p F

  -- an own report, also one that comes when the transfer is done
  pub report_follows : (incoming : Bool) (x : Slot) (p : Piece) → Fits incoming x p → (r : Report) (rs : List Report) → ReportFollows lim incoming x p r rs
  report_follows true x p F r rs = report_sends lim one x p F r rs
  report_follows false x p F r rs = report_receives lim x p F r rs

  -- and what that amounts to
  pub plan_follows : (incoming : Bool) (x : Slot) (p : Piece) → Fits incoming x p → Planned lim incoming (slot_size x) p (slot_ideal lim incoming x p)
  unfolding slot_ideal
  plan_follows incoming x p F = planned lim one incoming _ (slot_size x) p F.size F.whole

  -- the transfer is in hand, busy until it is done
  pub busy_first : (incoming : Bool) (x : Slot) (p : Piece) → Fits incoming x p → (slot_by lim incoming x p []).phase ≡ Busy
  unfolding slot_by
  busy_first incoming x p F = rw (not_yet lim (slot_size x) p (slot_ideal lim incoming x p) incoming (plan_follows incoming x p F)) refl

  -- its progress is within its length, and once it is done its result
  pub progress_within : (incoming : Bool) (x : Slot) (p : Piece) → Fits incoming x p → (rs : List Report)
      → (slot_by lim incoming x p rs).transfer.progress ≤ p.length
  unfolding slot_by
  progress_within incoming x p F rs = moved_within lim (slot_size x) p (slot_ideal lim incoming x p) incoming (plan_follows incoming x p F) rs

  pub progress_result : (incoming : Bool) (x : Slot) (p : Piece) → Fits incoming x p → (rs : List Report) → (slot_ideal lim incoming x p).done rs ≡ true
      → (slot_by lim incoming x p rs).transfer.progress ≡ (slot_ideal lim incoming x p).result rs
  unfolding slot_by
  progress_result incoming x p F rs h = moved_result lim (slot_size x) p (slot_ideal lim incoming x p) incoming (plan_follows incoming x p F) rs h

-- a slot that isn't idle, and busy until it is done
held_idle : (d : Bool) → idleb (cond d Done Busy) ≡ false
held_idle true = refl
held_idle false = refl

held_busy : (d : Bool) → busyb (cond d Done Busy) ≡ not d
held_busy true = refl
held_busy false = refl

module _ (lim : ℕ) (incoming : Bool) (x : Slot) (p : Piece) (rs : List Report) where
  pub phase_is : (slot_by lim incoming x p rs).phase ≡ cond ((slot_ideal lim incoming x p).done rs) Done Busy
  unfolding slot_by
  phase_is = refl

  pub progress_is : (slot_by lim incoming x p rs).transfer.progress ≡ (slot_ideal lim incoming x p).moved rs
  unfolding slot_by
  progress_is = refl

  -- in hand,
  pub in_hand : idleb (slot_by lim incoming x p rs).phase ≡ false
  unfolding slot_by
  in_hand = held_idle ((slot_ideal lim incoming x p).done rs)

  -- and busy until it is done
  pub busy_is : busyb (slot_by lim incoming x p rs).phase ≡ not ((slot_ideal lim incoming x p).done rs)
  unfolding slot_by
  busy_is = held_busy ((slot_ideal lim incoming x p).done rs)

  -- what isn't the transfer's stays
  pub config_is : (slot_by lim incoming x p rs).config ≡ x.config
  unfolding slot_by
  config_is = refl
