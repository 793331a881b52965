-- The plan is met by how a transfer should go.
-- Assumes nothing.
use Rattle.std.specs.Prelude.{ℕ, ◌<◌, ◌≤◌, ◌%◌, Bool, true, false, ◌≡◌, refl, List, []}
use Rattle.std.proofs.Common.{sym, ◌∙◌, arith}
use Rattle.transfer_piece.specs.declared.Piece.{Piece}
use Rattle.history_ideal.specs.Ideal.{Report, Ideal, ideal}
use Rattle.history_ideal.specs.Plan.{Planned}
use Rattle.history_ideal.proofs.SendsLaws.{sends_all}
use Rattle.history_ideal.proofs.ReceivesLaws.{receives_within}

-- of OUT where the buffer has room for whole packets, at least one
pub planned : (lim : ℕ) → 0 < lim → (incoming : Bool) (own m : ℕ) (p : Piece) → 0 < m → (incoming ≡ false → (0 < p.length) × (p.length % m ≡ 0))
    → Planned lim incoming m p (ideal lim incoming own m p)
unfolding Planned ideal
planned lim one true own m p pos room = sends_all lim one m p.length pos own p.address p.zlp
planned lim one false own m p pos room = receives_within lim m p.length pos (room refl).0 (room refl).1 p.address one

module _ (lim m : ℕ) (p : Piece) (i : Ideal) where
  -- nothing is done before its first report
  pub not_yet : (incoming : Bool) → Planned lim incoming m p i → i.done [] ≡ false
  unfolding Planned
  not_yet true P = P.at_first
  not_yet false P = P.at_first.0

  -- the progress of a cut transfer is within its length,
  pub moved_within : (incoming : Bool) → Planned lim incoming m p i → (rs : List Report) → i.moved rs ≤ p.length
  unfolding Planned
  moved_within true P rs = P.within rs
  moved_within false P rs = omega (arith, P.progress rs, P.no_more rs)

  -- and that of one that is done is its result
  pub moved_result : (incoming : Bool) → Planned lim incoming m p i → (rs : List Report) → i.done rs ≡ true → i.moved rs ≡ i.result rs
  unfolding Planned
  moved_result true P rs h = (P.all rs h).0 ∙ sym (P.all rs h).1
  moved_result false P rs h = P.progress rs
