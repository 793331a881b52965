-- What rows say is added to what the tally said before them. A row counts one transfer at most.
-- Assumes nothing.
use Rattle.std.specs.Prelude.{ℕ, ◌+◌, ◌≤◌, ◌%◌, ◌^◌, Bool, true, false, cond, ◌||◌, ◌≡◌, refl, List, [], ◌∷◌}
use Rattle.std.proofs.Common.{sym, ap, subst, arith}
use Rattle.state.specs.declared.Tally.{Tally}
use Rattle.state.specs.Setters.{limit_of}
use Rattle.state_slots.specs.Slots.{slot_of}
use Rattle.transfer_piece.specs.declared.Piece.{Piece}
use Rattle.history_ideal.specs.Ideal.{Ideal}
use Rattle.history_rows.specs.Rows.{Row}
use Rattle.history_rows.specs.Memory.{Memory}
use Rattle.history_memory.specs.Remembered.{behind}
use Rattle.history_effect.specs.Seen.{Seen, Begins, Reports, Asks, Early, Cuts, Nothing}
use Rattle.history_runs.specs.Runs.{seen_in}
use Rattle.history_runs.specs.Statement.{ideal_on}
use Rattle.history_tally.specs.Ledger.{Hand, Empty, Ledger, holds, moved, plus, with_begun, with_finished, with_cut, closed, heard, entered, entered_row, ledger}
use Rattle.history_tally.specs.Statement.{no_tally, Sums, Added}

-- one more, on both sides
more : (t k l n : ℕ) → l % 2 ^ 32 ≡ plus t k → plus l n % 2 ^ 32 ≡ plus t (plus k n)
more t k l n h = omega (arith, h)

-- from nothing on
sum_none : (t : Tally) → Sums t no_tally t
sum_none t = record { begun = omega arith; finished = omega arith; cut = omega arith; bytes = omega arith }

pub start_added : (l : Ledger) → Added l.tally (record { tally = no_tally; hand = l.hand }) l
start_added l = record { hand = refl; tally = sum_none l.tally }

module _ (t u v : Tally) (S : Sums t u v) where
  sum_begun : Sums t (with_begun u) (with_begun v)
  sum_begun = record { begun = more t.begun u.begun v.begun 1 S.begun; finished = S.finished; cut = S.cut; bytes = S.bytes }

  module _ (n : ℕ) where
    bytes_more : plus v.bytes n % 2 ^ 32 ≡ plus t.bytes (plus u.bytes n)
    bytes_more = more t.bytes u.bytes v.bytes n S.bytes

    sum_finished : Sums t (with_finished u n) (with_finished v n)
    sum_finished = record { begun = S.begun; finished = more t.finished u.finished v.finished 1 S.finished; cut = S.cut; bytes = bytes_more }

    sum_cut : Sums t (with_cut u n) (with_cut v n)
    sum_cut = record { begun = S.begun; finished = S.finished; cut = more t.cut u.cut v.cut 1 S.cut; bytes = bytes_more }

-- what is in hand is the same on both sides
module _ (t : Tally) (k l : Ledger) (A : Added t k l) where
  closed_added : (f : Tally → ℕ → Tally) → ((n : ℕ) → Sums t (f k.tally n) (f l.tally n)) → Added t (closed f k) (closed f l)
  closed_added f more =
      subst (λ (h : Hand). Added t (closed f k) (cond (holds h) (record { tally = f l.tally (moved h); hand = Empty }) l)) (sym A.hand) (by (holds k.hand))
    where
      by : (b : Bool)
          → Added t (cond b (record { tally = f k.tally (moved k.hand); hand = Empty }) k) (cond b (record { tally = f l.tally (moved k.hand); hand = Empty }) l)
      by true = record { hand = refl; tally = more (moved k.hand) }
      by false = A

  either : (b : Bool) (k' l' : Ledger) → Added t k' l' → Added t (cond b k k') (cond b l l')
  either true k' l' B = A
  either false k' l' B = B

  row_added : (limit : ℕ) (incoming : Bool) (goes : Piece → Ideal) (s : Seen) → Added t (entered limit incoming goes s k) (entered limit incoming goes s l)
  unfolding entered
  row_added limit incoming goes (Begins p) = record { hand = refl; tally = sum_begun t k.tally l.tally A.tally }
  row_added limit incoming goes (Reports r) = record { hand = ap (heard limit incoming r) A.hand; tally = A.tally }
  row_added limit incoming goes (Asks unfit most busy Says) =
      either (unfit || busy) (closed with_finished k) (closed with_finished l) (closed_added with_finished (sum_finished t k.tally l.tally A.tally))
  row_added limit incoming goes (Early Says) = A
  row_added limit incoming goes Cuts = closed_added with_cut (sum_cut t k.tally l.tally A.tally)
  row_added limit incoming goes Nothing = A

-- What the rows say hangs not on what the tally says before them.
pub rows_added : (e : ℕ) (incoming : Bool) (t : Tally) (m : Memory) (k l : Ledger) → Added t k l → (rs : List Row)
    → Added t (ledger e incoming m k rs) (ledger e incoming m l rs)
unfolding ledger
rows_added e incoming t m k l A [] = A
rows_added e incoming t m k l A (r ∷ rs) =
    rows_added e incoming t (behind m r) (entered_row e incoming m r k) (entered_row e incoming m r l)
    (row_added t k l A (limit_of r.world.state) incoming (ideal_on r.world incoming (slot_of r.world.state e incoming)) (seen_in e incoming m r)) rs

-- ---- no row sets a count back

abbrev pub total : Tally → ℕ
total t = t.begun + t.finished + t.cut

few : (b c : Bool) (k l : Ledger) → total k.tally ≤ 1 → total l.tally ≤ 1 → total (cond b k (cond c l k)).tally ≤ 1
few true c k l p q = p
few false true k l p q = q
few false false k l p q = p

-- a row by itself counts one transfer that is begun, finished or cut, or none
pub one_counted : (limit : ℕ) (incoming : Bool) (goes : Piece → Ideal) (s : Seen) (h : Hand)
    → total (entered limit incoming goes s (record { tally = no_tally; hand = h })).tally ≤ 1
unfolding entered
one_counted limit incoming goes (Begins p) h = omega arith
one_counted limit incoming goes (Reports r) h = omega arith
one_counted limit incoming goes (Asks unfit most busy Says) h =
    few (unfit || busy) (holds h) (record { tally = no_tally; hand = h }) (record { tally = with_finished no_tally (moved h); hand = Empty }) (omega arith) (omega arith)
one_counted limit incoming goes (Early Says) h = omega arith
one_counted limit incoming goes Cuts h =
    few false (holds h) (record { tally = no_tally; hand = h }) (record { tally = with_cut no_tally (moved h); hand = Empty }) (omega arith) (omega arith)
one_counted limit incoming goes Nothing h = omega arith
