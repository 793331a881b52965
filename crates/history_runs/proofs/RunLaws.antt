-- The rows of every list of calls, for one direction of a data endpoint, by what its slot is at the start.
-- Assumes nothing.
use Rattle.std.specs.Prelude.{ℕ, ◌<◌, Bool, true, false, ◌≡◌, List, [], ◌∷◌}
use Rattle.std.proofs.Common.{subst, arith}
use Rattle.state.specs.declared.Slot.{Slot}
use Rattle.state.specs.Setters.{limit_of}
use Rattle.state_slots.specs.Slots.{idleb, data_endpoint, slot_of}
use Rattle.transfer_piece.specs.declared.Piece.{Piece}
use Rattle.history_ideal.specs.Ideal.{Report}
use Rattle.history_follows.specs.Follows.{Fits, slot_ideal, slot_by}
use Rattle.history_ops.specs.Recorded.{recorded}
use Rattle.usbss.specs.Call.{World, Call}
use Rattle.usbss.specs.Step.{step}
use Rattle.history_rows.specs.Rows.{left_by, rows}
use Rattle.history_rows.specs.Memory.{Memory, memory_of, Sound}
use Rattle.history_memory.proofs.SoundLaws.{sound_step}
use Rattle.history_memory.proofs.MemoryLaws.{memory_step}
use Rattle.history_effect.specs.Seen.{seen}
use Rattle.history_runs.specs.Runs.{Free, Older, Goes}
use Rattle.history_effect.proofs.EveryEffect.{every_effect}
use Rattle.history_effect.specs.Effect.{EffectAs}
use Rattle.history_runs.proofs.StepLaws.{free_next, older_next, goes_next}

-- a chain may have a packet at least
pub some_limit : (w : World) → 0 < limit_of w.state
some_limit w = omega arith

module _ (e : ℕ) (incoming : Bool) (d : data_endpoint e ≡ true) where
  -- no transfer in hand
  pub free_runs : (w : World) → Sound w → (p : Piece) → idleb (slot_of w.state e incoming).phase ≡ true → (cs : List Call)
      → Free e incoming p (memory_of w.state) (rows w cs)
  unfolding Free rows
  free_runs w h p q [] = tt
  free_runs w h p q (c ∷ cs) =
      let v = left_by (step w c) in
      let s = sound_step w h c in
      free_next (limit_of w.state) incoming _ _ _ _ (every_effect w h e incoming d c) q p _
      (λ i. subst (λ (m : Memory). Free e incoming p m (rows v cs)) (memory_step w c) (free_runs v s p i cs))

  -- an older one in hand
  pub older_runs : (w : World) → Sound w → (p : Piece) → idleb (slot_of w.state e incoming).phase ≡ false → (cs : List Call)
      → Older e incoming p (memory_of w.state) (rows w cs)
  unfolding Older rows
  older_runs w h p q [] = tt
  older_runs w h p q (c ∷ cs) =
      let v = left_by (step w c) in
      let s = sound_step w h c in
      older_next (limit_of w.state) incoming _ _ _ _ (every_effect w h e incoming d c) q _ _
      (λ i. subst (λ (m : Memory). Older e incoming p m (rows v cs)) (memory_step w c) (older_runs v s p i cs))
      (λ i. subst (λ (m : Memory). Free e incoming p m (rows v cs)) (memory_step w c) (free_runs v s p i cs))

  -- one of the piece p, which was begun on the slot x in the world b; all worlds have one limit
  module _ (b : World) (x : Slot) (p : Piece) (F : Fits incoming x p) where
    pub goes_runs : (w : World) → Sound w → (rs : List Report) → slot_of w.state e incoming ≡ slot_by (limit_of b.state) incoming x p rs → (cs : List Call)
        → Goes e incoming (slot_ideal (limit_of b.state) incoming x p) p rs (memory_of w.state) (rows w cs)
    unfolding Goes rows
    goes_runs w h rs q [] = tt
    goes_runs w h rs q (c ∷ cs) =
        let v = left_by (step w c) in
        let s = sound_step w h c in
        let y = slot_of v.state e incoming in
        let chains = recorded incoming e (step w c).ops in
        let k = seen e incoming (memory_of w.state) w c (step w c) in
        let goal = slot_ideal (limit_of b.state) incoming x p in
        let E = subst (λ (z : Slot). EffectAs (limit_of b.state) incoming z y chains k) q (every_effect w h e incoming d c) in
        goes_next (limit_of b.state) (some_limit b) incoming x p F rs y chains k E _ _
        (λ ss i. subst (λ (m : Memory). Goes e incoming goal p ss m (rows v cs)) (memory_step w c) (goes_runs v s ss i cs))
        (λ i. subst (λ (m : Memory). Free e incoming p m (rows v cs)) (memory_step w c) (free_runs v s p i cs))
