-- What holds of every list of calls, by what one call does.
-- Assumes nothing.
use Rattle.std.specs.Prelude.{ℕ, Bool, true, ◌≡◌, List, [], ◌∷◌, Some}
use Rattle.std.proofs.Common.{ap, sym, ◌∙◌, subst}
use Rattle.std.proofs.lemmas.Option.{none-some, cond_some}
use Rattle.state.specs.declared.Slot.{Slot}
use Rattle.state.specs.Setters.{limit_of}
use Rattle.state_slots.specs.Slots.{slot_of, slot_size}
use Rattle.transfer_piece.specs.declared.Piece.{Piece}
use Rattle.history_ideal.specs.Plan.{Planned}
use Rattle.history_follows.specs.Follows.{Fits, slot_ideal}
use Rattle.history_follows.proofs.FollowsLaws.{begin_follows, plan_follows}
use Rattle.history_ops.specs.Recorded.{Recorded, recorded}
use Rattle.usbss.specs.Call.{World, Call}
use Rattle.usbss.specs.Step.{step}
use Rattle.history_rows.specs.Rows.{left_by, rows, final}
use Rattle.history_rows.specs.Memory.{Memory, memory_of, Sound}
use Rattle.history_memory.proofs.SoundLaws.{sound_step, sound_final}
use Rattle.history_memory.proofs.MemoryLaws.{memory_step, memory_final}
use Rattle.history_runs.proofs.BeginsData.{begins_data}
use Rattle.history_effect.specs.Seen.{Seen, Begins, Reports, Asks, Early, Cuts, Nothing, begun_by, seen}
use Rattle.history_runs.specs.Runs.{all_noted, Goes, Transfer}
use Rattle.history_runs.specs.Statement.{ideal_on, EachTransfer, IdleSlots, BusySlots, WellRun}
use Rattle.history_effect.proofs.EveryEffect.{every_effect}
use Rattle.history_effect.specs.Effect.{Begun, EffectAs}
use Rattle.history_runs.proofs.StepLaws.{noted_as}
use Rattle.history_runs.proofs.RunLaws.{some_limit, free_runs, older_runs, goes_runs}

-- the effect of a call that begins a piece
begun_effect : (limit : ℕ) (incoming : Bool) (x y : Slot) (chains : Recorded) (k : Seen) (p : Piece) → begun_by k ≡ Some p → EffectAs limit incoming x y chains k
    → Begun limit incoming x y chains p
unfolding EffectAs
begun_effect limit incoming x y chains (Begins q) p h E = subst (Begun limit incoming x y chains) (cond_some true q p h).1 E
begun_effect limit incoming x y chains (Reports r) p h E = absurd (none-some p h)
begun_effect limit incoming x y chains (Asks unfit most busy Says) p h E = absurd (none-some p h)
begun_effect limit incoming x y chains (Early Says) p h E = absurd (none-some p h)
begun_effect limit incoming x y chains Cuts p h E = absurd (none-some p h)
begun_effect limit incoming x y chains Nothing p h E = absurd (none-some p h)

-- from a begin on
from_begin : (w : World) → Sound w → (c : Call) (after : List Call) (e : ℕ) (incoming : Bool) (p : Piece)
    → begun_by (seen e incoming (memory_of w.state) w c (step w c)) ≡ Some p
    → Transfer e incoming (ideal_on w incoming (slot_of w.state e incoming) p) p (memory_of w.state) (rows w (c ∷ after))
    × (Planned (limit_of w.state) incoming (slot_size (slot_of w.state e incoming)) p (ideal_on w incoming (slot_of w.state e incoming) p) × Fits incoming (slot_of w.state e incoming) p)
unfolding Transfer rows slot_ideal
from_begin w h c after e incoming p q =
    let d = begins_data w c e incoming p q in
    let x = slot_of w.state e incoming in
    let v = left_by (step w c) in
    let chains = recorded incoming e (step w c).ops in
    let k = seen e incoming (memory_of w.state) w c (step w c) in
    let B = begun_effect (limit_of w.state) incoming x (slot_of v.state e incoming) chains k p q (every_effect w h e incoming d c) in
    let f = begin_follows (limit_of w.state) (some_limit w) incoming x p B.fits in
    let g = goes_runs e incoming d w x p B.fits v (sound_step w h c) [] (B.slot ∙ f.slot) after in (
      (
        B.chain ∙ noted_as incoming _ ∙ ap all_noted f.chain,
        subst (λ (m : Memory). Goes e incoming (slot_ideal (limit_of w.state) incoming x p) p [] m (rows v after)) (memory_step w c) g,
      ),
      (plan_follows (limit_of w.state) (some_limit w) incoming x p B.fits, B.fits),
    )

-- The call may be any of a list: the rows before it tell what is remembered.
each_transfer : (w : World) → Sound w → (cs : List Call) → EachTransfer w cs
unfolding EachTransfer
each_transfer w h cs before c after e incoming p split q =
    let v = final w before in
    let x = slot_of v.state e incoming in
    let m = sym (memory_final w before) in
    let k = ap (λ (n : Memory). begun_by (seen e incoming n v c (step v c))) m ∙ q in
    let T = from_begin v (sound_final w h before) c after e incoming p k in
    (subst (λ (n : Memory). Transfer e incoming (ideal_on v incoming x p) p n (rows v (c ∷ after))) m T.0, T.1)

-- For every list of calls, from every sound world.
pub runs_well : (w : World) → Sound w → (cs : List Call) → WellRun w cs
unfolding IdleSlots BusySlots
runs_well w h cs =
    record {
      transfers = each_transfer w h cs;
      idles = λ e incoming p d q. free_runs e incoming d w h p q cs;
      others = λ e incoming p d q. older_runs e incoming d w h p q cs;
    }
