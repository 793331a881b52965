-- The slot of a transfer as its own reports have it, and the chains that its steps hand over, as they are recorded.
-- Assumes nothing.
use Rattle.std.specs.Prelude.{ℕ, ◌+◌, ◌*◌, ◌%◌, ◌^◌, ◌<◌, ◌≡◌, Bool, true, false, cond, ◌&&◌, List, [], ◌∷◌, length, nat_lt}
use Rattle.state.specs.declared.Phase.TheVariants.{Busy, Done}
use Rattle.state.specs.declared.Transfer.{Transfer}
use Rattle.state.specs.declared.Slot.{Slot}
use Rattle.state_slots.specs.Slots.{slot_size, own_buffer, moved_slot}
use Rattle.transfer_chain.specs.declared.Chain as driver
use Rattle.transfer_chain.specs.Chains.{next_chain, queued_slot}
use Rattle.transfer_piece.specs.declared.Piece.{Piece}
use Rattle.transfer_piece.specs.Piece.{begun_slot}
use Rattle.transfer_step.specs.declared.Step.{Step}
use Rattle.transfer_step.specs.declared.Step.TheVariants.{Ignored, GoesOn, Completes}
use Rattle.transfer_step.specs.Step.{report_step, slot_after}
use Rattle.history_ideal.specs.Plan.{handed}
use Rattle.history_ideal.specs.Ideal.{Chain, Sends, Receives, Report, Ideal, full, ideal}

-- what a begin has made sure of: packets of a byte at least, memory below 2^32, and of OUT room for whole packets, one at least
pub record Fits (incoming : Bool) (x : Slot) (p : Piece) : Type 0 where
  pub size : 0 < slot_size x
  pub low : p.address + p.length < 2 ^ 32
  pub whole : incoming ≡ false → (0 < p.length) × (p.length % slot_size x ≡ 0)

-- a chain of the driver as it is recorded
abbrev pub as_recorded : Bool → driver.Chain → Chain
as_recorded true k = Sends k.dma k.packets k.last
as_recorded false k = Receives k.dma k.packets

-- the chain that a step hands over, if it hands one over
abbrev pub handed_by : ℕ → Bool → Step → List Chain
handed_by lim incoming Ignored = []
handed_by lim incoming (GoesOn y) = as_recorded incoming (next_chain lim incoming y) ∷ []
handed_by lim incoming (Completes y) = []

-- how the piece p should go on the slot x
unfoldable pub slot_ideal : ℕ → Bool → Slot → Piece → Ideal
slot_ideal lim incoming x p = ideal lim incoming (own_buffer x).address (slot_size x) p

-- the empty packet is to be sent still, after k reports; OUT keeps the flag as it came
unfoldable pub flag_left : ℕ → Bool → ℕ → Piece → ℕ → Bool
flag_left lim true m p k = p.zlp && nat_lt (k * full lim m) p.length
flag_left lim false m p k = p.zlp

-- a transfer of the piece p
abbrev pub moving : Piece → ℕ → Bool → Transfer
moving p n z = record { address = p.address; length = p.length; progress = n; zlp = z }

-- the slot x once p was begun there and the reports rs have come, the latest first
unfoldable pub slot_by : ℕ → Bool → Slot → Piece → List Report → Slot
unfolding slot_ideal flag_left
slot_by lim incoming x p rs =
    moved_slot (begun_slot x p) (cond ((slot_ideal lim incoming x p).done rs) Done Busy)
    (moving p ((slot_ideal lim incoming x p).moved rs) (flag_left lim incoming (slot_size x) p (length rs)))

-- a begin: the slot is the one with no reports, and the first chain is handed over
pub record BeginFollows (lim : ℕ) (incoming : Bool) (x : Slot) (p : Piece) : Type 0 where
  pub slot : queued_slot lim incoming (begun_slot x p) ≡ slot_by lim incoming x p []
  pub chain : as_recorded incoming (next_chain lim incoming (begun_slot x p)) ∷ [] ≡ handed (slot_ideal lim incoming x p) []

-- a report: the slot is the one with that report too, and the next chain is handed over, unless the transfer is done by then
pub record ReportFollows (lim : ℕ) (incoming : Bool) (x : Slot) (p : Piece) (r : Report) (rs : List Report) : Type 0 where
  pub slot :
      slot_after lim incoming (slot_by lim incoming x p rs) (report_step lim incoming r.packets r.last (slot_by lim incoming x p rs))
      ≡ slot_by lim incoming x p (r ∷ rs)
  pub chain : handed_by lim incoming (report_step lim incoming r.packets r.last (slot_by lim incoming x p rs)) ≡ handed (slot_ideal lim incoming x p) (r ∷ rs)
