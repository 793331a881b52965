-- The tally of a data slot at the end of a list of calls is what the list's rows say, from the one of the start on.
-- Assumes nothing.
use Rattle.std.specs.Prelude.{ℕ, Bool, true, false, cond, not, ◌≡◌, refl, List, [], ◌∷◌, Some}
use Rattle.std.proofs.Common.{sym, ap, ◌∙◌, subst}
use Rattle.std.proofs.lemmas.Option.{none-some}
use Rattle.state.specs.declared.Slot.{Slot}
use Rattle.state.specs.Fresh.{fresh_state}
use Rattle.state.specs.Setters.{limit_of}
use Rattle.state_slots.specs.Slots.{idleb, data_endpoint, slot_of}
use Rattle.transfer_piece.specs.declared.Piece.{Piece}
use Rattle.history_follows.specs.Follows.{slot_ideal}
use Rattle.history_ops.specs.Recorded.{Recorded, recorded}
use Rattle.usbss.specs.Call.{World, Call}
use Rattle.usbss.specs.Step.{step}
use Rattle.history_rows.specs.Rows.{left_by, rows, final}
use Rattle.history_rows.specs.Memory.{Memory, memory_of, Sound}
use Rattle.history_memory.proofs.SoundLaws.{sound_step}
use Rattle.history_memory.proofs.MemoryLaws.{memory_step}
use Rattle.history_effect.specs.Seen.{Seen, Begins, Reports, Asks, Early, Cuts, Nothing, begun_by, seen}
use Rattle.history_effect.proofs.EveryEffect.{every_effect}
use Rattle.history_effect.specs.Effect.{EffectAs}
use Rattle.history_runs.specs.Statement.{ideal_on}
use Rattle.history_runs.proofs.RunLaws.{some_limit}
use Rattle.history_tally.specs.Ledger.{Empty, Older, Ledger, holds, entered, ledger, ledger_of}
use Rattle.history_tally.specs.Kept.{Has, Kept}
use Rattle.history_tally.specs.Statement.{ledger_at, Balanced, difference, Tallied}
use Rattle.history_tally.proofs.DifferenceLaws.{fresh_there}
use Rattle.history_tally.proofs.KeptLaws.{has_held, tells, row_entered}
use Rattle.history_tally.proofs.SameLaws.{row_difference, still_balanced}
use Rattle.history_tally.proofs.SumLaws.{start_added, rows_added}

-- a list starts with what the slot has
start_kept : (limit : ℕ) (incoming : Bool) (x : Slot) → Kept limit incoming x (ledger_of x)
unfolding Has
start_kept limit incoming x = record { tally = refl; hand = by (idleb x.phase) refl }
  where
    by : (b : Bool) → idleb x.phase ≡ b → Has limit incoming x (cond b Empty (Older x))
    by true q = q
    by false q = (refl, q)

-- a begin is accepted where nothing is in hand
begins_free : (limit : ℕ) (incoming : Bool) (x y : Slot) (chains : Recorded) (k : Seen) → EffectAs limit incoming x y chains k
    → (l : Ledger) → Kept limit incoming x l → (p : Piece) → begun_by k ≡ Some p → holds l.hand ≡ false
unfolding EffectAs
begins_free limit incoming x y chains (Begins q) E l K p h = sym (has_held limit incoming x l.hand K.hand) ∙ ap not E.idle
begins_free limit incoming x y chains (Reports r) E l K p h = absurd (none-some p h)
begins_free limit incoming x y chains (Asks unfit most busy Says) E l K p h = absurd (none-some p h)
begins_free limit incoming x y chains (Early Says) E l K p h = absurd (none-some p h)
begins_free limit incoming x y chains Cuts E l K p h = absurd (none-some p h)
begins_free limit incoming x y chains Nothing E l K p h = absurd (none-some p h)

module _ (e : ℕ) (incoming : Bool) (d : data_endpoint e ≡ true) where
  module _ (w : World) (h : Sound w) (l : Ledger) (K : Kept (limit_of w.state) incoming (slot_of w.state e incoming) l) (c : Call) where
    -- the ledger behind a call
    after : Ledger
    after =
        entered (limit_of w.state) incoming (ideal_on w incoming (slot_of w.state e incoming)) (seen e incoming (memory_of w.state) w c (step w c)) l

    after_kept : Kept (limit_of w.state) incoming (slot_of (step w c).state e incoming) after
    unfolding after slot_ideal
    after_kept =
        row_entered (limit_of w.state) (some_limit w) incoming (slot_of w.state e incoming) (slot_of (step w c).state e incoming) l K
        (recorded incoming e (step w c).ops) (seen e incoming (memory_of w.state) w c (step w c)) (every_effect w h e incoming d c)

    after_same : difference after ≡ difference l
    unfolding after
    after_same =
        row_difference l (limit_of w.state) incoming _ _
        (begins_free (limit_of w.state) incoming (slot_of w.state e incoming) (slot_of (step w c).state e incoming) (recorded incoming e (step w c).ops) _
        (every_effect w h e incoming d c) l K)

  kept_runs : (w : World) → Sound w → (l : Ledger) → Kept (limit_of w.state) incoming (slot_of w.state e incoming) l → (cs : List Call)
      → Kept (limit_of w.state) incoming (slot_of (final w cs).state e incoming) (ledger e incoming (memory_of w.state) l (rows w cs))
  unfolding ledger rows final after
  kept_runs w h l K [] = K
  kept_runs w h l K (c ∷ cs) =
      let v = left_by (step w c) in
      let n = after w h l K c in
      subst (λ (m : Memory). Kept (limit_of w.state) incoming (slot_of (final v cs).state e incoming) (ledger e incoming m n (rows v cs))) (memory_step w c)
      (kept_runs v (sound_step w h c) n (after_kept w h l K c) cs)

  same_runs : (w : World) → Sound w → (l : Ledger) → Kept (limit_of w.state) incoming (slot_of w.state e incoming) l → (cs : List Call)
      → difference (ledger e incoming (memory_of w.state) l (rows w cs)) ≡ difference l
  unfolding ledger rows after
  same_runs w h l K [] = refl
  same_runs w h l K (c ∷ cs) =
      let v = left_by (step w c) in
      let n = after w h l K c in
      subst (λ (m : Memory). difference (ledger e incoming m n (rows v cs)) ≡ difference n) (memory_step w c)
      (same_runs v (sound_step w h c) n (after_kept w h l K c) cs)
      ∙ after_same w h l K c

  -- For every list of calls, from every sound world.
  pub tally_runs : (w : World) → Sound w → (cs : List Call) → Tallied w cs e incoming
  tally_runs w h cs =
      let x = slot_of w.state e incoming in
      let K = start_kept (limit_of w.state) incoming x in
      record {
        tells = tells (limit_of w.state) incoming (slot_of (final w cs).state e incoming) (ledger_at e incoming w cs) (kept_runs w h (ledger_of x) K cs);
        added = rows_added e incoming x.tally (memory_of w.state) _ _ (start_added (ledger_of x)) (rows w cs);
        same = same_runs w h (ledger_of x) K cs;
      }

  -- Begun = finished + cut + in hand, modulo 2^32: of what the rows say from the fresh state on, and from any state where it is so.
  pub balanced : (w : World) → Sound w → (cs : List Call) → Balanced (ledger_of (slot_of w.state e incoming)) → Balanced (ledger_at e incoming w cs)
  balanced w h cs b = still_balanced (ledger_of (slot_of w.state e incoming)) (ledger_at e incoming w cs) (tally_runs w h cs).same b

  pub balanced_fresh : (w : World) → Sound w → w.state ≡ fresh_state → (cs : List Call) → Balanced (ledger_at e incoming w cs)
  balanced_fresh w h q cs = balanced w h cs (subst (λ (x : Slot). Balanced (ledger_of x)) (sym (fresh_there e incoming d w q)) refl)
