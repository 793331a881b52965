-- What a row does to the tally of a slot, and to what is in hand there, is what it enters in the ledger.
-- Assumes nothing.
use Rattle.std.specs.Prelude.{ℕ, ◌<◌, Bool, true, false, not, cond, ◌&&◌, ◌||◌, ◌≡◌, refl, []}
use Rattle.std.proofs.Common.{sym, ap, ◌∙◌, subst}
use Rattle.base.specs.EachLaws.{true_not_false}
use Rattle.state.specs.declared.Phase.{Phase}
use Rattle.state.specs.declared.Phase.TheVariants.{Idle, Busy, Done}
use Rattle.state.specs.declared.Tally.{Tally}
use Rattle.state.specs.declared.Slot.{Slot}
use Rattle.state_slots.specs.Slots.{idleb, busyb, slot_size, tally_cut}
use Rattle.state_laws.specs.SlotLaws.{Cut}
use Rattle.transfer_chain.specs.Chains.{queued_slot}
use Rattle.transfer_piece.specs.declared.Piece.{Piece}
use Rattle.transfer_step.specs.Step.{counted_transfer, counted_slot, goes_on, step_of, report_step, slot_after}
use Rattle.transfer_take.specs.Take.{taken_slot, take_leaves}
use Rattle.history_ideal.specs.Ideal.{Report, Ideal}
use Rattle.history_follows.specs.Follows.{slot_ideal, slot_by}
use Rattle.history_follows.proofs.FollowsLaws.{begin_follows, report_follows, progress_is, in_hand}
use Rattle.history_ops.specs.Recorded.{Recorded}
use Rattle.history_effect.specs.Seen.{Told, Seen, Begins, Reports, Asks, Early, Cuts, Nothing}
use Rattle.history_effect.specs.Effect.{Begun, Reported, Taken, EffectAs}
use Rattle.history_tally.specs.Ledger.{Hand, Empty, Listed, Older, Ledger, holds, moved, with_begun, with_finished, with_cut, closed, heard, entered}
use Rattle.history_tally.specs.Kept.{Has, Kept, Tells}

-- ---- what is in hand, by the slot

pub has_held : (limit : ℕ) (incoming : Bool) (x : Slot) (h : Hand) → Has limit incoming x h → not (idleb x.phase) ≡ holds h
unfolding Has
has_held limit incoming x Empty H = ap not H
has_held limit incoming x (Listed i rs) H = ap (λ (z : Slot). not (idleb z.phase)) H.slot ∙ ap not (in_hand limit incoming H.begun_on H.piece rs)
has_held limit incoming x (Older z) H = ap not H.1

has_moved : (limit : ℕ) (incoming : Bool) (x : Slot) (h : Hand) → Has limit incoming x h → holds h ≡ true → x.transfer.progress ≡ moved h
unfolding Has
has_moved limit incoming x Empty H q = absurd (true_not_false (sym q))
has_moved limit incoming x (Listed i rs) H q =
    ap (λ (z : Slot). z.transfer.progress) H.slot ∙ progress_is limit incoming H.begun_on H.piece rs ∙ ap (λ (j : Ideal). j.moved rs) (sym H.goes)
has_moved limit incoming x (Older z) H q = ap (λ (y : Slot). y.transfer.progress) H.0

has_none : (limit : ℕ) (incoming : Bool) (x : Slot) (h : Hand) → holds h ≡ false → idleb x.phase ≡ true → Has limit incoming x h
unfolding Has
has_none limit incoming x Empty q i = i
has_none limit incoming x (Listed j rs) q i = absurd (true_not_false q)
has_none limit incoming x (Older z) q i = absurd (true_not_false q)

has_empty : (limit : ℕ) (incoming : Bool) (x : Slot) → idleb x.phase ≡ true → Has limit incoming x Empty
unfolding Has
has_empty limit incoming x i = i

pub tells : (limit : ℕ) (incoming : Bool) (x : Slot) (l : Ledger) → Kept limit incoming x l → Tells x l
tells limit incoming x l K = record { tally = K.tally; held = has_held limit incoming x l.hand K.hand; progress = has_moved limit incoming x l.hand K.hand }

-- a slot that stays
still : (limit : ℕ) (incoming : Bool) (x y : Slot) (l : Ledger) → y ≡ x → Kept limit incoming x l → Kept limit incoming y l
still limit incoming x y l q K = subst (λ (z : Slot). Kept limit incoming z l) (sym q) K

-- ---- a report

busy_held : (f : Phase) → busyb f ≡ true → idleb f ≡ false
busy_held Idle h = absurd (true_not_false (sym h))
busy_held Busy h = refl
busy_held Done h = absurd (true_not_false (sym h))

-- the slot y has the tally of x, and as x has it something in hand or nothing
record Alike (x y : Slot) : Type 0 where
  tally : y.tally ≡ x.tally
  idle : idleb y.phase ≡ idleb x.phase

queued_alike : (limit : ℕ) (incoming : Bool) (x y : Slot) → Alike x y → Alike x (queued_slot limit incoming y)
queued_alike limit true x y A = record { tally = A.tally; idle = A.idle }
queued_alike limit false x y A = record { tally = A.tally; idle = A.idle }

step_alike : (limit : ℕ) (incoming : Bool) (x y : Slot) (busy more : Bool) → busyb x.phase ≡ busy → Alike x y
    → Alike x (slot_after limit incoming x (step_of busy more y))
step_alike limit incoming x y false more h A = record { tally = refl; idle = refl }
step_alike limit incoming x y true true h A = queued_alike limit incoming x y A
step_alike limit incoming x y true false h A = record { tally = A.tally; idle = sym (busy_held x.phase h) }

report_alike : (limit : ℕ) (incoming : Bool) (r : Report) (x : Slot) → Alike x (slot_after limit incoming x (report_step limit incoming r.packets r.last x))
report_alike limit incoming r x =
    let y = counted_slot limit incoming r.packets r.last x in
    let more = goes_on incoming (slot_size x) r.last (counted_transfer limit incoming r.packets r.last x) in
    step_alike limit incoming x y (busyb x.phase) more refl (record { tally = refl; idle = refl })

module _ (limit : ℕ) (one : 0 < limit) (incoming : Bool) where
  has_heard : (x y : Slot) (r : Report) → y ≡ slot_after limit incoming x (report_step limit incoming r.packets r.last x) → (h : Hand) → Has limit incoming x h
      → Has limit incoming y (heard limit incoming r h)
  unfolding Has
  has_heard x y r q Empty H = ap (λ (z : Slot). idleb z.phase) q ∙ (report_alike limit incoming r x).idle ∙ H
  has_heard x y r q (Listed i rs) H =
      record {
        begun_on = H.begun_on;
        piece = H.piece;
        fits = H.fits;
        goes = H.goes;
        slot =
            q ∙ ap (λ (z : Slot). slot_after limit incoming z (report_step limit incoming r.packets r.last z)) H.slot
            ∙ (report_follows limit one incoming H.begun_on H.piece H.fits r rs).slot;
      }
  has_heard x y r q (Older z) H = (
    q ∙ ap (λ (u : Slot). slot_after limit incoming u (report_step limit incoming r.packets r.last u)) H.0,
    ap (λ (u : Slot). idleb u.phase) q ∙ (report_alike limit incoming r x).idle ∙ H.1,
  )

  -- ---- each kind of row

  module _ (x y : Slot) (l : Ledger) (K : Kept limit incoming x l) where
    begins : (p : Piece) (chains : Recorded) → Begun limit incoming x y chains p
        → Kept limit incoming y (record { tally = with_begun l.tally; hand = Listed (slot_ideal limit incoming x p) [] })
    unfolding Has slot_by
    begins p chains E =
        let f = E.slot ∙ (begin_follows limit one incoming x p E.fits).slot in
        record {
          tally = ap (λ (z : Slot). z.tally) f ∙ ap with_begun K.tally;
          hand = record { begun_on = x; piece = p; fits = E.fits; goes = refl; slot = f };
        }

    reports : (r : Report) (chains : Recorded) → Reported limit incoming x y chains r
        → Kept limit incoming y (record { tally = l.tally; hand = heard limit incoming r l.hand })
    reports r chains E =
        record {
          tally = ap (λ (z : Slot). z.tally) E.slot ∙ (report_alike limit incoming r x).tally ∙ K.tally;
          hand = has_heard x y r E.slot l.hand K.hand;
        }

    idle_by : (b : Bool) → holds l.hand ≡ b → idleb x.phase ≡ not b
    idle_by b q = flip (idleb x.phase) b (has_held limit incoming x l.hand K.hand ∙ q)
      where
        flip : (i b : Bool) → not i ≡ b → i ≡ not b
        flip true true h = absurd (true_not_false (sym h))
        flip true false h = refl
        flip false true h = refl
        flip false false h = absurd (true_not_false h)

    -- a row that leaves the slot, however the ledger is asked
    either : (b : Bool) → y ≡ x → Kept limit incoming y (cond b l l)
    either true q = still limit incoming x y l q K
    either false q = still limit incoming x y l q K

    -- what was in hand is finished: the slot is as a take leaves it
    finished : holds l.hand ≡ true → y ≡ taken_slot x → Kept limit incoming y (record { tally = with_finished l.tally (moved l.hand); hand = Empty })
    finished h q =
        record {
          tally = ap (λ (z : Slot). z.tally) q ∙ ap (λ (t : Tally). with_finished t x.transfer.progress) K.tally
              ∙ ap (with_finished l.tally) (has_moved limit incoming x l.hand K.hand h);
          hand = has_empty limit incoming y (ap (λ (z : Slot). idleb z.phase) q);
        }

    asked : holds l.hand ≡ true → (unfit busy : Bool) → y ≡ cond unfit x (take_leaves x) → busy ≡ (not unfit && busyb x.phase)
        → Kept limit incoming y (cond (unfit || busy) l (record { tally = with_finished l.tally (moved l.hand); hand = Empty }))
    asked h true busy s b = still limit incoming x y l s K
    asked h false busy s b = subst Goal (sym b) (by (busyb x.phase) s)
      where
        done : Ledger
        done = record { tally = with_finished l.tally (moved l.hand); hand = Empty }

        Goal : Bool → Type 0
        Goal t = Kept limit incoming y (cond t l done)

        by : (t : Bool) → y ≡ cond t x (taken_slot x) → Goal t
        by true q = still limit incoming x y l q K
        by false q = finished h q

    asks : (chains : Recorded) (unfit : Bool) (most : Piece → ℕ) (busy : Bool) (Says : Piece → Told → Type 0) → Taken x y chains unfit most busy Says
        → Kept limit incoming y (cond (unfit || busy) l (closed with_finished l))
    asks chains unfit most busy Says E = by (holds l.hand) refl
      where
        Goal : Bool → Type 0
        Goal b = Kept limit incoming y (cond (unfit || busy) l (cond b (record { tally = with_finished l.tally (moved l.hand); hand = Empty }) l))

        by : (b : Bool) → holds l.hand ≡ b → Goal b
        by true q = let t = (E.something (idle_by true q)).1 in asked q unfit busy t.0 t.1
        by false q = either (unfit || busy) (E.nothing (idle_by false q)).1

    cuts : Cut x y → Kept limit incoming y (closed with_cut l)
    cuts C = by (holds l.hand) refl
      where
        idle : idleb y.phase ≡ true
        idle = ap idleb C.idle

        Goal : Bool → Type 0
        Goal b = Kept limit incoming y (cond b (record { tally = with_cut l.tally (moved l.hand); hand = Empty }) l)

        by : (b : Bool) → holds l.hand ≡ b → Goal b
        by true q =
            record {
              tally = C.tally ∙ ap (λ (b : Bool). tally_cut x.tally b x.transfer.progress) (has_held limit incoming x l.hand K.hand ∙ q)
                  ∙ ap (λ (t : Tally). with_cut t x.transfer.progress) K.tally
                  ∙ ap (with_cut l.tally) (has_moved limit incoming x l.hand K.hand q);
              hand = has_empty limit incoming y idle;
            }
        by false q =
            record {
              tally = C.tally ∙ ap (λ (b : Bool). tally_cut x.tally b x.transfer.progress) (has_held limit incoming x l.hand K.hand ∙ q) ∙ K.tally;
              hand = has_none limit incoming y l.hand q idle;
            }

    -- What a call does to a slot that has what the ledger has, whatever the call is, leaves it with what the row enters there.
    pub row_entered : (chains : Recorded) (k : Seen) → EffectAs limit incoming x y chains k
        → Kept limit incoming y (entered limit incoming (slot_ideal limit incoming x) k l)
    unfolding EffectAs entered
    row_entered chains (Begins p) E = begins p chains E
    row_entered chains (Reports r) E = reports r chains E
    row_entered chains (Asks unfit most busy Says) E = asks chains unfit most busy Says E
    row_entered chains (Early Says) E = still limit incoming x y l E.same K
    row_entered chains Cuts E = cuts E.cut
    row_entered chains Nothing E = still limit incoming x y l E.same K
