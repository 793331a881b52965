-- A ledger's balance: no row alters the difference, where a begin finds nothing in hand.
-- Assumes nothing.
use Rattle.std.specs.Prelude.{ℕ, ◌+◌, ◌-◌, ◌%◌, ◌^◌, Bool, true, false, cond, ◌||◌, ◌≡◌, refl, Some}
use Rattle.std.proofs.Common.{arith}
use Rattle.state.specs.declared.Tally.{Tally}
use Rattle.transfer_piece.specs.declared.Piece.{Piece}
use Rattle.history_ideal.specs.Ideal.{Report, Ideal}
use Rattle.history_effect.specs.Seen.{Seen, Begins, Reports, Asks, Early, Cuts, Nothing, begun_by}
use Rattle.history_tally.specs.Ledger.{Hand, Empty, Listed, Older, Ledger, holds, moved, with_finished, with_cut, closed, heard, entered}
use Rattle.history_tally.specs.Statement.{Balanced, difference}

-- in numbers: one more is begun and in hand; one that was in hand is finished, or cut
counted_begun : (b f c : ℕ) → ((b + 1) % 2 ^ 32 + (2 ^ 32 - (f + c + 1) % 2 ^ 32)) % 2 ^ 32 ≡ (b + (2 ^ 32 - (f + c + 0) % 2 ^ 32)) % 2 ^ 32
counted_begun b f c = omega arith

counted_finished : (b f c : ℕ) → (b + (2 ^ 32 - ((f + 1) % 2 ^ 32 + c + 0) % 2 ^ 32)) % 2 ^ 32 ≡ (b + (2 ^ 32 - (f + c + 1) % 2 ^ 32)) % 2 ^ 32
counted_finished b f c = omega arith

counted_cut : (b f c : ℕ) → (b + (2 ^ 32 - (f + (c + 1) % 2 ^ 32 + 0) % 2 ^ 32)) % 2 ^ 32 ≡ (b + (2 ^ 32 - (f + c + 1) % 2 ^ 32)) % 2 ^ 32
counted_cut b f c = omega arith

-- a report leaves in hand what is
heard_holds : (limit : ℕ) (incoming : Bool) (r : Report) (h : Hand) → holds (heard limit incoming r h) ≡ holds h
heard_holds limit incoming r Empty = refl
heard_holds limit incoming r (Listed i rs) = refl
heard_holds limit incoming r (Older x) = refl

module _ (l : Ledger) where
  closed_same : (f : Tally → ℕ → Tally) → (holds l.hand ≡ true → difference (record { tally = f l.tally (moved l.hand); hand = Empty }) ≡ difference l)
      → difference (closed f l) ≡ difference l
  closed_same f counted = by (holds l.hand) refl
    where
      by : (b : Bool) → holds l.hand ≡ b → difference (cond b (record { tally = f l.tally (moved l.hand); hand = Empty }) l) ≡ difference l
      by true q = counted q
      by false q = refl

  either : (b : Bool) (k : Ledger) → difference k ≡ difference l → difference (cond b l k) ≡ difference l
  either true k q = refl
  either false k q = q

  pub row_difference : (limit : ℕ) (incoming : Bool) (goes : Piece → Ideal) (k : Seen) → ((p : Piece) → begun_by k ≡ Some p → holds l.hand ≡ false)
      → difference (entered limit incoming goes k l) ≡ difference l
  unfolding entered
  row_difference limit incoming goes (Begins p) free = let q : holds l.hand ≡ false = free p refl in rw q (counted_begun l.tally.begun l.tally.finished l.tally.cut)
  row_difference limit incoming goes (Reports r) free = rw (heard_holds limit incoming r l.hand) refl
  row_difference limit incoming goes (Asks unfit most busy Says) free =
      either (unfit || busy) (closed with_finished l) (closed_same with_finished (λ q. rw q (counted_finished l.tally.begun l.tally.finished l.tally.cut)))
  row_difference limit incoming goes (Early Says) free = refl
  row_difference limit incoming goes Cuts free = closed_same with_cut (λ q. rw q (counted_cut l.tally.begun l.tally.finished l.tally.cut))
  row_difference limit incoming goes Nothing free = refl

-- what balances, with the same difference, balances still
pub still_balanced : (k l : Ledger) → difference l ≡ difference k → Balanced k → Balanced l
still_balanced k l d b = omega (arith, d, b)
