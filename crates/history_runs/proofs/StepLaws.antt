-- What a row of a history must be, of a call that does what it is to do: while no transfer is in hand, while one that is older than
-- the list is, and while one of a known piece is.
-- Assumes nothing.
use Rattle.std.specs.Prelude.{ℕ, ◌<◌, Bool, true, false, not, cond, ◌&&◌, ◌||◌, ◌≡◌, refl, List, [], ◌∷◌, None, Ok, Err}
use Rattle.std.proofs.Common.{sym, ap, ◌∙◌, subst}
use Rattle.base.specs.EachLaws.{true_not_false}
use Rattle.state.specs.declared.Phase.{Phase}
use Rattle.state.specs.declared.Phase.TheVariants.{Idle, Busy, Done}
use Rattle.state.specs.declared.Refusal.TheVariants.{UnfitBuffer}
use Rattle.state.specs.declared.Slot.{Slot}
use Rattle.state_slots.specs.Slots.{idleb, busyb, slot_size}
use Rattle.transfer_chain.specs.declared.Chain as driver
use Rattle.transfer_chain.specs.Chains.{queued_slot}
use Rattle.transfer_piece.specs.declared.Piece.{Piece}
use Rattle.transfer_step.specs.declared.Step.{Step}
use Rattle.transfer_step.specs.declared.Step.TheVariants.{Ignored, GoesOn, Completes}
use Rattle.transfer_step.specs.Step.{counted_transfer, counted_slot, goes_on, step_of, report_step, slot_after}
use Rattle.transfer_take.specs.Take.{take_answer, take_leaves}
use Rattle.history_ideal.specs.Ideal.{Report}
use Rattle.history_follows.specs.Follows.{Fits, as_recorded, handed_by, slot_ideal, slot_by}
use Rattle.history_follows.proofs.FollowsLaws.{report_follows, progress_result, in_hand, busy_is}
use Rattle.history_ops.specs.Recorded.{Recorded, noted, follower}
use Rattle.history_effect.specs.Seen.{Told, Seen, Begins, Reports, Asks, Early, Cuts, Nothing}
use Rattle.history_runs.specs.Runs.{all_noted, FreeNext, OlderNext, within, told, Next}
use Rattle.history_effect.specs.Effect.{Moving, follows, EffectAs}

-- ---- by phase

idle_not_busy : (f : Phase) → idleb f ≡ true → busyb f ≡ false
idle_not_busy Idle h = refl
idle_not_busy Busy h = absurd (true_not_false (sym h))
idle_not_busy Done h = refl

-- a slot that is the same, in hand or not
same_idle : (x y : Slot) (b : Bool) → y ≡ x → idleb x.phase ≡ b → idleb y.phase ≡ b
same_idle x y b q h = ap (λ (z : Slot). idleb z.phase) q ∙ h

-- a report of a slot that isn't busy is nobody's
ignored : (limit : ℕ) (incoming : Bool) (r : Report) (x : Slot) → busyb x.phase ≡ false → report_step limit incoming r.packets r.last x ≡ Ignored
ignored limit incoming r x h =
    let y = counted_slot limit incoming r.packets r.last x in
    let more = goes_on incoming (slot_size x) r.last (counted_transfer limit incoming r.packets r.last x) in
    ap (λ (b : Bool). step_of b more y) h

-- it leaves what is in hand in hand
queued_held : (limit : ℕ) (incoming : Bool) (y : Slot) → idleb y.phase ≡ false → idleb (queued_slot limit incoming y).phase ≡ false
queued_held limit true y h = h
queued_held limit false y h = h

step_held : (limit : ℕ) (incoming : Bool) (x y : Slot) (busy more : Bool) → idleb x.phase ≡ false → y.phase ≡ x.phase
    → idleb (slot_after limit incoming x (step_of busy more y)).phase ≡ false
step_held limit incoming x y false more h q = h
step_held limit incoming x y true true h q = queued_held limit incoming y (ap idleb q ∙ h)
step_held limit incoming x y true false h q = refl

report_held : (limit : ℕ) (incoming : Bool) (r : Report) (x : Slot) → idleb x.phase ≡ false
    → idleb (slot_after limit incoming x (report_step limit incoming r.packets r.last x)).phase ≡ false
report_held limit incoming r x h =
    let y = counted_slot limit incoming r.packets r.last x in
    let more = goes_on incoming (slot_size x) r.last (counted_transfer limit incoming r.packets r.last x) in
    step_held limit incoming x y (busyb x.phase) more h refl

-- what a take leaves stays while it is busy, and is idle else
leaves_busy : (x : Slot) → busyb x.phase ≡ true → take_leaves x ≡ x
leaves_busy x h = rw h refl

leaves_idle : (x : Slot) → busyb x.phase ≡ false → idleb (take_leaves x).phase ≡ true
leaves_idle x h = rw h refl

-- ---- no transfer in hand

pub free_next : (limit : ℕ) (incoming : Bool) (x y : Slot) (chains : Recorded) (k : Seen) → EffectAs limit incoming x y chains k → idleb x.phase ≡ true
    → (p : Piece) (go : Type 0) → (idleb y.phase ≡ true → go) → FreeNext chains p go k
unfolding EffectAs FreeNext
free_next limit incoming x y chains (Begins q) E h p go later = tt
free_next limit incoming x y chains (Reports r) E h p go later =
    let i = ignored limit incoming r x (idle_not_busy x.phase h) in
    (E.chain ∙ ap (λ (s : Step). follows incoming (follower limit incoming s)) i, later (same_idle x y true (E.slot ∙ ap (slot_after limit incoming x) i) h))
free_next limit incoming x y chains (Asks unfit most busy Says) E h p go later =
    (E.silent, ((E.nothing h).0 p, later (same_idle x y true (E.nothing h).1 h)))
free_next limit incoming x y chains (Early Says) E h p go later = (E.silent, (E.says p, later (same_idle x y true E.same h)))
free_next limit incoming x y chains Cuts E h p go later = (E.silent, later (ap idleb E.cut.idle))
free_next limit incoming x y chains Nothing E h p go later = (E.silent, later (same_idle x y true E.same h))

-- ---- an older one in hand

-- a take that says busy leaves it in hand, and so does one that is refused 8
older_asks : (x y : Slot) (unfit busy : Bool) → idleb x.phase ≡ false → y ≡ cond unfit x (take_leaves x) → busy ≡ (not unfit && busyb x.phase)
    → (go free : Type 0) → (idleb y.phase ≡ false → go) → (idleb y.phase ≡ true → free) → cond (unfit || busy) go free
older_asks x y true busy h s b go free later off = later (same_idle x y false s h)
older_asks x y false busy h s b go free later off = rw b (by (busyb x.phase) refl)
  where
    by : (t : Bool) → busyb x.phase ≡ t → cond t go free
    by true q = later (same_idle x y false (s ∙ leaves_busy x q) h)
    by false q = off (ap (λ (z : Slot). idleb z.phase) s ∙ leaves_idle x q)

pub older_next : (limit : ℕ) (incoming : Bool) (x y : Slot) (chains : Recorded) (k : Seen) → EffectAs limit incoming x y chains k → idleb x.phase ≡ false
    → (go free : Type 0) → (idleb y.phase ≡ false → go) → (idleb y.phase ≡ true → free) → OlderNext go free k
unfolding EffectAs OlderNext
older_next limit incoming x y chains (Begins q) E h go free later off = true_not_false (sym E.idle ∙ h)
older_next limit incoming x y chains (Reports r) E h go free later off = later (ap (λ (z : Slot). idleb z.phase) E.slot ∙ report_held limit incoming r x h)
older_next limit incoming x y chains (Asks unfit most busy Says) E h go free later off =
    let t = (E.something h).1 in older_asks x y unfit busy h t.0 t.1 go free later off
older_next limit incoming x y chains (Early Says) E h go free later off = later (same_idle x y false E.same h)
older_next limit incoming x y chains Cuts E h go free later off = off (ap idleb E.cut.idle)
older_next limit incoming x y chains Nothing E h go free later off = later (same_idle x y false E.same h)

-- ---- one of the piece p in hand

-- a chain of the driver as it is recorded
pub noted_as : (incoming : Bool) (k : driver.Chain) → noted incoming k ≡ all_noted (as_recorded incoming k ∷ [])
unfolding noted
noted_as true k = refl
noted_as false k = refl

-- what a step hands over is what is recorded
follows_as : (limit : ℕ) (incoming : Bool) (s : Step) → follows incoming (follower limit incoming s) ≡ all_noted (handed_by limit incoming s)
follows_as limit incoming Ignored = refl
follows_as limit incoming (GoesOn y) = noted_as incoming _
follows_as limit incoming (Completes y) = refl

module _ (limit : ℕ) (one : 0 < limit) (incoming : Bool) (x : Slot) (p : Piece) (F : Fits incoming x p) (rs : List Report) where
  moving_by : Moving (slot_by limit incoming x p rs) p
  unfolding slot_by
  moving_by = (refl, refl)

  -- what a take says of it
  answer_is : (most : ℕ)
      → take_answer most (slot_by limit incoming x p rs)
      ≡ cond ((slot_ideal limit incoming x p).done rs) (within most ((slot_ideal limit incoming x p).result rs)) (Ok None)
  answer_is most = rw (busy_is limit incoming x p rs) (by ((slot_ideal limit incoming x p).done rs) refl)
    where
      n : ℕ
      n = (slot_by limit incoming x p rs).transfer.progress

      by : (d : Bool) → (slot_ideal limit incoming x p).done rs ≡ d
          → cond (not d) (Ok None) (within most n) ≡ cond d (within most ((slot_ideal limit incoming x p).result rs)) (Ok None)
      by true q = ap (within most) (progress_result limit one incoming x p F rs q)
      by false q = refl

  told_is : (unfit : Bool) (most : ℕ)
      → cond unfit (Err UnfitBuffer) (take_answer most (slot_by limit incoming x p rs)) ≡ told (slot_ideal limit incoming x p) rs unfit most
  unfolding told
  told_is unfit most = ap (λ (t : Told). cond unfit (Err UnfitBuffer) t) (answer_is most)

  -- a take in its turn ends the one that is done
  asks_next : (y : Slot) (unfit : Bool) → y ≡ cond unfit (slot_by limit incoming x p rs) (take_leaves (slot_by limit incoming x p rs))
      → (go free : Type 0) → (y ≡ slot_by limit incoming x p rs → go) → (idleb y.phase ≡ true → free)
      → cond ((slot_ideal limit incoming x p).done rs && not unfit) free go
  asks_next y unfit s go free later off = by ((slot_ideal limit incoming x p).done rs) unfit refl s
    where
      by : (d u : Bool) → (slot_ideal limit incoming x p).done rs ≡ d → y ≡ cond u (slot_by limit incoming x p rs) (take_leaves (slot_by limit incoming x p rs))
          → cond (d && not u) free go
      by true true q s = later s
      by false true q s = later s
      by true false q s =
          off (ap (λ (z : Slot). idleb z.phase) s ∙ leaves_idle (slot_by limit incoming x p rs) (busy_is limit incoming x p rs ∙ ap not q))
      by false false q s = later (s ∙ leaves_busy (slot_by limit incoming x p rs) (busy_is limit incoming x p rs ∙ ap not q))

  pub goes_next : (y : Slot) (chains : Recorded) (k : Seen) → EffectAs limit incoming (slot_by limit incoming x p rs) y chains k
      → (go : List Report → Type 0) (free : Type 0) → ((ss : List Report) → y ≡ slot_by limit incoming x p ss → go ss) → (idleb y.phase ≡ true → free)
      → Next chains (slot_ideal limit incoming x p) p rs go free k
  unfolding EffectAs Next
  goes_next y chains (Begins q) E go free later off = true_not_false (sym E.idle ∙ in_hand limit incoming x p rs)
  goes_next y chains (Reports r) E go free later off =
      let R = report_follows limit one incoming x p F r rs in
      let s = report_step limit incoming r.packets r.last (slot_by limit incoming x p rs) in
      (E.chain ∙ follows_as limit incoming s ∙ ap all_noted R.chain, later (r ∷ rs) (E.slot ∙ R.slot))
  goes_next y chains (Asks unfit most busy Says) E go free later off =
      let t = E.something (in_hand limit incoming x p rs) in (
        E.silent,
        (subst (Says p) (told_is unfit (most p)) (t.0 p moving_by), asks_next y unfit t.1.0 (go rs) free (later rs) off),
      )
  goes_next y chains (Early Says) E go free later off = (E.silent, (E.says p, later rs E.same))
  goes_next y chains Cuts E go free later off = (E.silent, off (ap idleb E.cut.idle))
  goes_next y chains Nothing E go free later off = (E.silent, later rs E.same)
